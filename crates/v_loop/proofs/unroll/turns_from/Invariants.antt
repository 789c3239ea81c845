-- The values of the turns before those that are left; each name means what it meant.
use Rattle.std.proofs.Common.{◌≡◌, ◌-◌, length}
use Rattle.v_flat.specs.Scope.Found.{each}
use Rattle.v_flat.specs.Scope.Scope.{means, width_of}
use Rattle.v_syntax.specs.ExpressionTrees.{view}
use Rattle.v_flat.specs.Statements.{turns_from}
use Rattle.v_loop.proofs.Turning.{after}
use Rattle.v_loop.proofs.unroll.turns_from.Given as goal

abbrev pub invariant-loop-turn : goal.invariant-loop-turn
invariant-loop-turn l =
    (each (after l.values.items)
    (turns_from (l.most - l._turn) l.place l.header.initial.name.name l.object (view l.header.condition) (view l.header.step.value) (means l.initial.scope) l.value)
    ≡ turns_from l.most l.place l.header.initial.name.name l.object (view l.header.condition) (view l.header.step.value) (means l.initial.scope) l.initial.value)
    × (means l.scope ≡ means l.initial.scope) × (length l.value ≡ width_of l.object.bounds)
