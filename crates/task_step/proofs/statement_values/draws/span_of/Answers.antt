use Rattle.std.proofs.Common.{sym, ◌∙◌, rules}
use Rattle.std.specs.Prelude.{FitsSigned, ◌-ℤ◌}
use Rattle.std.specs.Int.{w128}
use Rattle.std.proofs.lemmas.Int.{to_z-of_z}
use Rattle.py_value.specs.Integer.Integer.{number}
use Rattle.task_step.proofs.statement_values.draws.span_of.Goals as goal
use Rattle.task_step.proofs.StatementValuesLemmas.Spans.{span_held, span_lost}

pub returns-in-Some : goal.returns-in-Some
returns-in-Some c =
    let fits : FitsSigned w128 c.in-Some.behind = search rules in
    (simp to_z-of_z at c.count.ensures) ∙ span_held (number c.args.high -ℤ number c.args.low) c.in-Some.behind c.in-Some.ensures

pub returns-in-None : goal.returns-in-None
returns-in-None c = sym (span_lost (number c.args.high -ℤ number c.args.low) c.in-None.ensures)
