-- The turns behind what is asked of the step.
use Rattle.std.proofs.Common.{sym, ◌∙◌}
use Rattle.v_flat.specs.Scope.Scope.{means}
use Rattle.v_syntax.specs.ExpressionTrees.{view}
use Rattle.v_flat.specs.Statements.{most_turns, same_counter, step_checked, turn, turns_from}
use Rattle.v_loop.proofs.Settled.{same_settled, step_settled}
use Rattle.v_loop.proofs.Steps.{second_broken}
use Rattle.v_loop.proofs.Whole.{step_is_sound}
use Rattle.v_loop.proofs.unroll.turns_behind.Goals as goal

pub returns-in-Ok-clause-value : goal.returns-in-Ok-clause-value
returns-in-Ok-clause-value c =
    let h = c.args.header.now in
    step_is_sound c.args.place h.initial.name h.step.name (view h.condition) (view h.step.value) c.args.object (means c.args.scope.now) (means c.checked_step.new.scope) c.args.first c.turns_from.result
    c.in_ok-checked_step.ensures.scope (sym c.in_ok-checked_step.ensures.value ∙ c.in-Ok.is) c.turns_from.ensures.value

pub returns-in-Err-clause-value : goal.returns-in-Err-clause-value
returns-in-Err-clause-value c =
    let h = c.args.header.now in
    let s = means c.args.scope.now in
    let n = h.initial.name.name in
    let o = c.args.object in
    let t = turn n o c.args.first s in
    sym (second_broken (same_counter h.initial.name h.step.name s) (step_checked t (view h.step.value))
    (turns_from most_turns c.args.place n o (view h.condition) (view h.step.value) s c.args.first) c.in-Err.fault (sym c.in_ok-checked_step.ensures.value ∙ c.in-Err.is)
    (same_settled h.initial.name h.step.name s) (step_settled t (view h.step.value)))
