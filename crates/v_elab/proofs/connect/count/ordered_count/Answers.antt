-- One connection more.
use Rattle.std.proofs.Common.{ℕ, ◌+◌, map, option_map, refl, sym, ◌∙◌, ap, arith}
use Rattle.v_syntax.specs.ExpressionTrees.{view}
use Rattle.v_flat.specs.Design.{ordered_count}
use Rattle.v_header.specs.Ports.{port_in}
use Rattle.v_elab.proofs.ConnectLemmas.Counts.{counted_next, counted_end, ordered_rest, ordered_here, ordered_none}
use Rattle.v_elab.proofs.connect.count.ordered_count.Goals as goal

pub loop-at-init : goal.loop-at-init
loop-at-init c = record { sum_is = omega arith; few = omega arith }

pub loop-at-preserved : goal.loop-at-preserved
loop-at-preserved c =
    let es = c.args.values.now in
    let ps = c.args.ports.now in
    let i = c.loop-at.at in
    let rest = ordered_rest es ps (i + 1) in
    counted_next (ordered_count (map view es) ps) (ordered_rest es ps i) rest c.loop-at.count c.made-count.result (c.loop-at.count + c.made-count.result) i
    (ordered_here es ps i c.index-values-at.result (option_map port_in c.get.result) c.loop-at-test.true c.index-values-at.is (sym c.get.ensures)
    ∙ ap (λ (n : ℕ). n + rest) (sym c.made-count.ensures.is))
    c.made-count.ensures.few refl c.loop-at.invariant

pub returns : goal.returns
returns c =
    counted_end (ordered_count (map view c.args.values.now) c.args.ports.now) (ordered_rest c.args.values.now c.args.ports.now c.loop-at.at) c.loop-at.count c.loop-at.at
    (ordered_none c.args.values.now c.args.ports.now c.loop-at.at c.loop-at-test.false) c.loop-at.invariant
