use Rattle.std.proofs.Common.{◌+◌, ◌++◌, drop, arith}
use Rattle.await_tree.specs.WaitList.Waiting.{fired_keys, keys_among}
use Rattle.plain_waits.specs.Kept.{names_of}
use Rattle.await_tree.proofs.WaitListLemmas.Awaited.{fits_from, narrows_end, narrows_from, some_left}
use Rattle.await_tree.proofs.WaitListLemmas.Members.{within_self}
use Rattle.await_tree.proofs.WaitListLemmas.Rekeys.{fits_after, narrows_none, narrows_through}
use Rattle.plain_waits.proofs.keeper.WaitList.let_go.Goals as goal

pub loop-at-init : goal.loop-at-init
loop-at-init g c = record {
  inside = omega arith;
  loaded = c.requires.loaded;
  keys = narrows_none (g.K.Gpi.content c.args.kernel.now) (keys_among c.args.left.now ++ (names_of c.args.self.now)) (keys_among c.args.left.now ++ (names_of c.args.self.now)) (λ k h. c.requires.fits.keys.within k h) (within_self (keys_among c.args.left.now ++ (names_of c.args.self.now)));
}

pub let_go_first-requires-clause-some : goal.let_go_first-requires-clause-some
let_go_first-requires-clause-some g c = some_left c.args.left.now c.loop-at.at c.loop-at-test.true

pub let_go_first-requires-clause-fits : goal.let_go_first-requires-clause-fits
let_go_first-requires-clause-fits g c = fits_from (g.K.Gpi.content c.loop-at.kernel) (fired_keys c.args.fired) c.args.self.now.held.items (names_of c.args.self.now) c.args.left.now c.loop-at.at
    (fits_after (g.K.Gpi.content c.args.kernel.now) (g.K.Gpi.content c.loop-at.kernel) (fired_keys c.args.fired) c.args.self.now.held.items (keys_among c.args.left.now ++ (names_of c.args.self.now)) (keys_among (drop c.loop-at.at c.args.left.now) ++ (names_of c.args.self.now)) c.requires.fits c.loop-at.invariant.keys)

pub loop-at-preserved : goal.loop-at-preserved
loop-at-preserved g c = record {
  inside = omega arith;
  loaded = c.let_go_first.ensures.loaded;
  keys = narrows_through (g.K.Gpi.content c.args.kernel.now) (g.K.Gpi.content c.loop-at.kernel) (g.K.Gpi.content c.let_go_first.new.kernel) (keys_among c.args.left.now ++ (names_of c.args.self.now)) (keys_among (drop c.loop-at.at c.args.left.now) ++ (names_of c.args.self.now)) (keys_among (drop (c.loop-at.at + 1) c.args.left.now) ++ (names_of c.args.self.now))
      c.loop-at.invariant.keys (narrows_from (g.K.Gpi.content c.loop-at.kernel) (g.K.Gpi.content c.let_go_first.new.kernel) (names_of c.args.self.now) c.args.left.now c.loop-at.at c.let_go_first.ensures.keys);
}

pub returns-clause-keys : goal.returns-clause-keys
returns-clause-keys g c = narrows_end (g.K.Gpi.content c.args.kernel.now) (g.K.Gpi.content c.loop-at.kernel) (keys_among c.args.left.now ++ (names_of c.args.self.now)) (names_of c.args.self.now) c.args.left.now c.loop-at.at (omega arith) c.loop-at.invariant.keys
