-- One more span, and all of them.
use Rattle.std.proofs.Common.{rules, ℕ, max, get_or, ap, ◌∙◌}
use Rattle.std.proofs.lemmas.List.{get_or_default}
use Rattle.v_loop.specs.declared.reads.span.Span.{Span}
use Rattle.v_loop.proofs.WakesLemmas.Sweep.{sweeps_none, sweeps_more, sweeps_all}
use Rattle.v_loop.proofs.wakes.sensitivity.changes.Goals as goal

pub loop-span-init : goal.loop-span-init
loop-span-init c = search (rules, sweeps_none)

pub loop-span-preserved : goal.loop-span-preserved
loop-span-preserved c =
    let xs = c.args.spans.now in
    let i = c.loop-span.span-index in
    let none : Span = record { first = 0; count = 0 } in
    let z = get_or xs i none in
    sweeps_more xs c.args.signals i c.loop-span.next c.start-from.result c.max-to.result z c.loop-span.wakes c.add_changes.new.wakes c.requires c.loop-span-test.true
    (get_or_default xs i none z c.loop-span-test.true) c.start-from.ensures (c.max-to.ensures ∙ ap (λ (n : ℕ). max n c.start-from.result) c.end.ensures)
    c.in_ok-add_changes.ensures c.loop-span.invariant

pub returns : goal.returns
returns c = sweeps_all c.args.spans.now c.args.signals c.loop-span.span-index c.loop-span.next c.loop-span.wakes c.loop-span-test.false c.loop-span.invariant
