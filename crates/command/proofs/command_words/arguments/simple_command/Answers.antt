use Rattle.std.proofs.Common.{◌∙◌, ap₂}
use Rattle.std.proofs.lemmas.Result.{IfOk-weaker}
use Rattle.clap.specs.Simple.{with_rule}
use Rattle.command.proofs.command_words.arguments.simple_command.Goals as goal

pub returns : goal.returns
returns c =
    let top = c.in_ok-arg.ensures.shape c.option.ensures.own ∙ ap₂ with_rule c.plain_command.ensures c.option.ensures.rule in
    let budget = c.in_ok-arg-2.ensures.shape c.option-2.ensures.own ∙ ap₂ with_rule top c.option-2.ensures.rule in
    let seed = c.in_ok-arg-3.ensures.shape c.option-3.ensures.own ∙ ap₂ with_rule budget c.option-3.ensures.rule in
    let made = c.in_ok-arg-4.ensures.shape c.option-4.ensures.own ∙ ap₂ with_rule seed c.option-4.ensures.rule in
    let trace = c.in_ok-arg-5.ensures.shape c.flag.ensures.own ∙ ap₂ with_rule made c.flag.ensures.rule in
    let vcd = c.in_ok-arg-6.ensures.shape c.flag-2.ensures.own ∙ ap₂ with_rule trace c.flag-2.ensures.rule in
    IfOk-weaker c.arg-7.result _ _ (λ command h. h.shape c.file_names.ensures.own ∙ ap₂ with_rule vcd c.file_names.ensures.rule) c.arg-7.ensures
