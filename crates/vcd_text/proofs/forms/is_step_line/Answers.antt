use Rattle.std.proofs.Common.{sym}
use Rattle.std.proofs.lemmas.Bool.{true≢false}
use Rattle.vcd_text.proofs.FormLaws.{no_step_count, step_by_unit}
use Rattle.vcd_text.proofs.forms.is_step_line.Goals as goal

pub returns-in-Some-behind_count : goal.returns-in-Some-behind_count
returns-in-Some-behind_count c =
    step_by_unit c.args.line.now c.in-Some.words.now c.in-Some-behind_count.unit.now c.in-Some.ensures c.in-Some-behind_count.ensures c.ends_step.result c.ends_step.ensures

pub returns-in-None-behind_count : goal.returns-in-None-behind_count
returns-in-None-behind_count c =
    (λ e. absurd (true≢false (sym e)), λ found. absurd (no_step_count c.args.line.now c.in-Some.words.now c.in-Some.ensures c.in-None-behind_count.ensures found))
