use Rattle.std.proofs.Common.{sym, ◌∙◌, rules}
use Rattle.std.specs.Prelude.{FitsSigned}
use Rattle.std.specs.Int.{w128}
use Rattle.std.proofs.lemmas.Int.{to_z-of_z}
use Rattle.py_value.specs.Integer.Integer.{number}
use Rattle.task_step.proofs.loop_span.question.rises_before.Goals as goal
use Rattle.task_step.proofs.LoopSpanLemmas.Steps.{bound_rising}

pub returns-in-Some : goal.returns-in-Some
returns-in-Some c =
    let f : FitsSigned w128 c.args.last = search rules in
    let g : FitsSigned w128 c.in-Some.bound = search rules in
    (simp to_z-of_z at c.is_below.ensures) ∙ bound_rising c.args.last (number c.args.stop) (number c.args.step) c.in-Some.bound c.requires (sym c.in-Some.ensures)
