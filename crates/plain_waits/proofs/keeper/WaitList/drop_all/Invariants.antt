use Rattle.std.proofs.Common.{◌≡◌, length}
use Rattle.plain_waits.specs.Kept.{names_of}
use Rattle.await_tree.specs.WaitList.Parts.{Narrows}
use Rattle.plain_waits.proofs.keeper.WaitList.drop_all.Given as goal

abbrev pub invariant-loop-left : goal.invariant-loop-left
invariant-loop-left g l = record {
  left : l.left ≡ length l.self.waiting.items;
  held : l.self.held ≡ l.fn.self.held;
  loaded : g.K.Gpi.is_loaded l.kernel;
  keys : Narrows (g.K.Gpi.content l.fn.kernel) (g.K.Gpi.content l.kernel) (names_of l.fn.self) (names_of l.self);
}

abbrev pub decreases-loop-left : goal.decreases-loop-left
decreases-loop-left g l = l.left
