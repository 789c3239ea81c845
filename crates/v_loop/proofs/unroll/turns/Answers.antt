-- The turns behind the first value.
use Rattle.std.proofs.Common.{sym, ◌∙◌}
use Rattle.v_flat.specs.Scope.Scope.{means}
use Rattle.v_syntax.specs.ExpressionTrees.{view}
use Rattle.v_loop.proofs.Whole.{first_is_sound, first_is_wide}
use Rattle.v_loop.proofs.unroll.turns.Goals as goal

pub returns-in-Ok-clause-value : goal.returns-in-Ok-clause-value
returns-in-Ok-clause-value c =
    let h = c.args.header.now in
    first_is_sound c.args.place h.initial.name h.step.name (view h.condition) (view h.step.value) c.args.object (view h.initial.value) (means c.args.scope.now) (means c.first_value.new.scope)
    c.in-Ok.first c.turns_behind.result c.in_ok-first.ensures.scope (sym c.in_ok-first.ensures.value ∙ c.in-Ok.is) c.turns_behind.ensures.value

pub returns-in-Ok-clause-widths : goal.returns-in-Ok-clause-widths
returns-in-Ok-clause-widths c =
    let h = c.args.header.now in
    first_is_wide c.args.place h.initial.name h.step.name (view h.condition) (view h.step.value) c.args.object (view h.initial.value) (means c.args.scope.now) (means c.first_value.new.scope)
    c.in-Ok.first c.turns_behind.result c.in_ok-first.ensures.scope (sym c.in_ok-first.ensures.value ∙ c.in-Ok.is) c.turns_behind.ensures.value
