-- A means of proof: waiting tasks whose trees have begun, and whom a cause reaches, for the proofs of the runner's queue.
use Rattle.std.specs.Prelude.{◌≡◌, Bool, false, List, [], ◌∷◌}
use Rattle.std.specs.List.{list_any}
use Rattle.await_tree.specs.declared.cause.Cause.{Cause}
use Rattle.await_tree.specs.Fire.{awaits, reach_of}
use Rattle.await_tree.specs.Settled.{IsSettled}
use Rattle.await_tree.specs.Tree.{is_over}
use Rattle.await_tree.specs.WaitList.Waiting.{Waiting}

-- No tree is done, and no part of one that waits is one that would be done.
abbrev pub AreStill : List Waiting → Type 0
AreStill [] = Unit {0}
AreStill (w ∷ ws) = (is_over w.tree ≡ false) × IsSettled w.tree × AreStill ws

-- a waiting task has a leaf that the cause reaches
abbrev pub is_reached : Cause → List Waiting → Bool
is_reached c waiting = list_any (λ (w : Waiting). awaits (reach_of c) w.tree) waiting
