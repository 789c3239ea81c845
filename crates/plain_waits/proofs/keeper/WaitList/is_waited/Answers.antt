use Rattle.std.proofs.Common.{◌≡◌, ◌∙◌, ◌||◌, ◌-◌, Bool, false, ap, sym, arith, drop}
use Rattle.gpi.specs.Keys.{among}
use Rattle.await_tree.specs.WaitList.Waiting.{keys_of}
use Rattle.plain_waits.specs.Kept.{waiting_in}
use Rattle.plain_waits.proofs.Walks.{waited_back, waited_from}
use Rattle.plain_waits.proofs.keeper.WaitList.is_waited.Goals as goal

pub returns-then-has_key : goal.returns-then-has_key
returns-then-has_key c = (let e : (c.has_key.result || false) ≡ among c.args.key (keys_of (drop (c.back.at - 1) (waiting_in c.args.self.now)))
    = waited_back c.args.key c.args.self.now.waiting.items (c.back.at - 1) c.back.at c.index.result.now c.has_key.result false c.as_slice.result.now (omega arith) c.index.ensures (omega arith)
    (c.as_slice.ensures.is ∙ c.leaves.ensures) c.has_key.ensures (sym c.back.invariant.none) in
    sym (waited_from c.args.key (c.back.at - 1) (waiting_in c.args.self.now) (sym e ∙ ap (λ (b : Bool). b || false) c.if-has_key.true)))

pub back-preserved : goal.back-preserved
back-preserved c = record {
  inside = omega arith;
  none = (let e : (c.has_key.result || false) ≡ among c.args.key (keys_of (drop (c.back.at - 1) (waiting_in c.args.self.now)))
      = waited_back c.args.key c.args.self.now.waiting.items (c.back.at - 1) c.back.at c.index.result.now c.has_key.result false c.as_slice.result.now (omega arith) c.index.ensures (omega arith)
      (c.as_slice.ensures.is ∙ c.leaves.ensures) c.has_key.ensures (sym c.back.invariant.none) in
      sym e ∙ ap (λ (b : Bool). b || false) c.if-has_key.false);
}
