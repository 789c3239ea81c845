use Rattle.std.proofs.Common.{◌≡◌, rules, true}
use Rattle.std.specs.Prelude.{FitsSigned}
use Rattle.std.specs.Int.{w128}
use Rattle.std.proofs.lemmas.Int.{to_z-of_z}
use Rattle.py_value.specs.Integer.Integer.{number}
use Rattle.rig_model.specs.Task.Blocks as meaning
use Rattle.task_step.specs.LoopSpan.Span.{upcoming}
use Rattle.task_step.proofs.loop_span.question.next_of_range.Goals as goal
use Rattle.task_step.proofs.LoopSpanLemmas.Questions.{number_found, number_lost}

pub returns-in-Some : goal.returns-in-Some
returns-in-Some c =
    let step = number c.args.step in
    let stop = number c.args.stop in
    let z = upcoming c.args.next step in
    let fits : FitsSigned w128 c.in-Some.n = search rules in
    let before : meaning.is_before z stop step ≡ true = cc in
    simp to_z-of_z (number_found (meaning.is_before z stop step) z stop step c.in-Some.n before c.in-Some.ensures)

pub returns-in-None : goal.returns-in-None
returns-in-None c =
    let step = number c.args.step in
    let stop = number c.args.stop in
    let z = upcoming c.args.next step in
    let before : meaning.is_before z stop step ≡ true = cc in
    number_lost (meaning.is_before z stop step) z stop step before c.in-None.ensures
