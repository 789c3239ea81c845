-- One more wake, and all of them.
use Rattle.std.proofs.Common.{ℕ, ◌≡◌, ◌-◌, ◌++◌, map, ap, arith, ◌∙◌}
use Rattle.std.specs.List.{range_with_len}
use Rattle.v_flat.specs.Design.{any_change}
use Rattle.v_loop.proofs.WakesLemmas.Ranges.{range_more}
use Rattle.v_loop.proofs.wakes.sensitivity.add_changes.Goals as goal

pub loop-number-preserved : goal.loop-number-preserved
loop-number-preserved c =
    let i = c.loop-number.invariant in
    let below = c.loop-number-test.true in record {
      added = range_more any_change c.args.from c.loop-number.number c.args.wakes.now c.loop-number.wakes c.push.new.self i.from i.added c.in_ok-push.ensures.ok;
      from = (let f = i.from in omega (arith, f));
      to = omega (arith, below);
    }

pub returns : goal.returns
returns c =
    let i = c.loop-number.invariant in
    let f = i.from in
    let t = i.to in
    let past = c.loop-number-test.false in
    let e : c.loop-number.number - c.args.from ≡ c.args.to - c.args.from = omega (arith, f, t, past) in
    i.added ∙ ap (λ (n : ℕ). c.args.wakes.now ++ map any_change (range_with_len c.args.from n)) e
