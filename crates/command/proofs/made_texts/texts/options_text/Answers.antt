-- The text that is composed is that of the options.
use Rattle.std.specs.Prelude.{◌≡◌, ℕ, List, IfOk, string_bytes}
use Rattle.std.proofs.Common.{subst}
use Rattle.command.proofs.MadeTextsLemmas.Options.{options_are}
use Rattle.command.proofs.made_texts.texts.options_text.Goals as goal

pub returns : goal.returns
returns c =
    subst (λ (text : List ℕ). IfOk c.format.result (λ made. string_bytes made ≡ text))
    (options_are c.args.number (string_bytes c.in_ok-workers.workers) (string_bytes c.in_ok-cycles.cycles) c.in_ok-workers.ensures c.in_ok-cycles.ensures)
    c.format.ensures.ok
