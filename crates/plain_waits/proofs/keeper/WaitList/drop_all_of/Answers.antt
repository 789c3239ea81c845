use Rattle.std.proofs.Common.{[], take, drop, refl, ◌∙◌, arith}
use Rattle.std.proofs.lemmas.List.{length-map}
use Rattle.await_tree.specs.WaitList.Waiting.{without_task}
use Rattle.plain_waits.specs.Kept.{names_of, waiting_in, waiting_of}
use Rattle.plain_waits.proofs.Calls.{fits_on}
use Rattle.await_tree.proofs.WaitListLemmas.Members.{within_self}
use Rattle.await_tree.proofs.WaitListLemmas.Rekeys.{narrows_none, narrows_through}
use Rattle.plain_waits.proofs.Walks.{each_without, walk_falls, walked, walked_all}
use Rattle.plain_waits.proofs.keeper.WaitList.drop_all_of.Goals as goal

pub loop-at-init : goal.loop-at-init
loop-at-init g c = record {
  inside = omega arith;
  waiting = refl;
  held = refl;
  loaded = c.requires.loaded;
  keys = narrows_none (g.K.Gpi.content c.args.kernel.now) (names_of c.args.self.now) (names_of c.args.self.now) (λ k h. c.requires.fits.keys.within k h) (within_self (names_of c.args.self.now));
}

pub pass-at-requires-clause-fits : goal.pass-at-requires-clause-fits
pass-at-requires-clause-fits g c = fits_on (g.K.Gpi.content c.args.kernel.now) (g.K.Gpi.content c.loop-at.kernel) [] c.args.self.now.held.items (names_of c.args.self.now) c.args.self.now c.loop-at.self c.loop-at.invariant.held refl c.requires.fits c.loop-at.invariant.keys

pub loop-at-smaller : goal.loop-at-smaller
loop-at-smaller g c = walk_falls (waiting_in c.loop-at.self) (waiting_in c.pass-at.new.self) c.loop-at.at c.pass-at.result (without_task c.args.task (take 1 (drop c.loop-at.at (waiting_in c.loop-at.self)))) c.pass-at.ensures.passes (omega (arith, length-map c.loop-at.self.waiting.items waiting_of))

pub loop-at-preserved : goal.loop-at-preserved
loop-at-preserved g c = record {
  inside = c.pass-at.ensures.passes.inside;
  waiting = walked (without_task c.args.task) (each_without c.args.task) (waiting_in c.loop-at.self) (waiting_in c.pass-at.new.self) (without_task c.args.task (waiting_in c.args.self.now)) c.loop-at.at c.pass-at.result (without_task c.args.task (take 1 (drop c.loop-at.at (waiting_in c.loop-at.self)))) c.pass-at.ensures.passes refl c.loop-at.invariant.waiting;
  held = c.pass-at.ensures.held ∙ c.loop-at.invariant.held;
  loaded = c.pass-at.ensures.loaded;
  keys = narrows_through (g.K.Gpi.content c.args.kernel.now) (g.K.Gpi.content c.loop-at.kernel) (g.K.Gpi.content c.pass-at.new.kernel) (names_of c.args.self.now) (names_of c.loop-at.self) (names_of c.pass-at.new.self) c.loop-at.invariant.keys c.pass-at.ensures.keys;
}

pub returns-clause-waiting : goal.returns-clause-waiting
returns-clause-waiting g c = walked_all (without_task c.args.task) (each_without c.args.task) (waiting_in c.loop-at.self) (without_task c.args.task (waiting_in c.args.self.now)) c.loop-at.at (omega (arith, length-map c.loop-at.self.waiting.items waiting_of)) c.loop-at.invariant.waiting
