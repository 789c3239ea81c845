use Rattle.std.proofs.Common.{[], refl, ◌∙◌, arith}
use Rattle.plain_waits.specs.Kept.{names_of}
use Rattle.plain_waits.proofs.Calls.{fits_on}
use Rattle.await_tree.proofs.WaitListLemmas.Members.{within_self}
use Rattle.await_tree.proofs.WaitListLemmas.Rekeys.{narrows_none, narrows_through}
use Rattle.plain_waits.proofs.Walks.{all_dropped, dropped_one}
use Rattle.plain_waits.proofs.keeper.WaitList.drop_all.Goals as goal

pub loop-left-init : goal.loop-left-init
loop-left-init g c = record {
  left = omega (arith, c.len-left.ensures, c.args.self.now.waiting.ok.0);
  held = refl;
  loaded = c.requires.loaded;
  keys = narrows_none (g.K.Gpi.content c.args.kernel.now) (names_of c.args.self.now) (names_of c.args.self.now) (λ k h. c.requires.fits.keys.within k h) (within_self (names_of c.args.self.now));
}

pub drop_at-requires-clause-fits : goal.drop_at-requires-clause-fits
drop_at-requires-clause-fits g c = fits_on (g.K.Gpi.content c.args.kernel.now) (g.K.Gpi.content c.loop-left.kernel) [] c.args.self.now.held.items (names_of c.args.self.now) c.args.self.now c.loop-left.self c.loop-left.invariant.held refl c.requires.fits c.loop-left.invariant.keys

pub loop-left-preserved : goal.loop-left-preserved
loop-left-preserved g c = record {
  left = dropped_one c.loop-left.self.waiting.items c.drop_at.new.self.waiting.items c.loop-left.left (omega arith) c.loop-left.invariant.left c.drop_at.ensures.waiting;
  held = c.drop_at.ensures.held ∙ c.loop-left.invariant.held;
  loaded = c.drop_at.ensures.loaded;
  keys = narrows_through (g.K.Gpi.content c.args.kernel.now) (g.K.Gpi.content c.loop-left.kernel) (g.K.Gpi.content c.drop_at.new.kernel) (names_of c.args.self.now) (names_of c.loop-left.self) (names_of c.drop_at.new.self) c.loop-left.invariant.keys c.drop_at.ensures.keys;
}

pub returns-clause-waiting : goal.returns-clause-waiting
returns-clause-waiting g c = all_dropped c.loop-left.self.waiting.items c.loop-left.left (omega arith) c.loop-left.invariant.left
