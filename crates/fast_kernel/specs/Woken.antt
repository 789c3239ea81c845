-- A means of proof: the processes that are woken, for the proofs of the fast simulator.
use Rattle.std.specs.Prelude.{◌≡◌, ℕ, List, [], ◌∷◌, length, if◌then◌else◌}
use Rattle.gpi.specs.Keys.{holds}
use Rattle.fast_kernel.specs.declared.waiters.Waiters.{Waiters}
use Rattle.fast_kernel.specs.Waiters.{AreWaiters}

-- those of a list that aren't barred
abbrev pub unbarred : List ℕ → List ℕ → List ℕ
unbarred barred [] = []
unbarred barred (p ∷ ps) = if holds p barred then unbarred barred ps else p ∷ unbarred barred ps

-- the same processes wait for the same signals
pub record KeepsWaiters (before after : Waiters) : Type 0 where
  pub waiters : AreWaiters after
  pub chains : after.chains ≡ before.chains
  pub count : length after.finds.is_found.items ≡ length before.finds.is_found.items
