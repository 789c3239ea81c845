-- The next time.
use Rattle.std.proofs.Common.{◌≡◌, ℕ, ◌≤◌, ◌&&◌, nat_le, Bool, true, false, List, [], ◌∷◌, ◌++◌, Option, Some, None, refl, sym, subst, arith}
use Rattle.std.proofs.lemmas.Bool.Decides.{nat_tests}
use Rattle.gpi.specs.declared.types.Delayed.{Delayed}
use Rattle.gpi.specs.Keys.{least, lesser}
use Rattle.gpi.specs.State.{delayed_times}
use Rattle.event_queue.specs.Waiting.{are_from}

-- no time before t
abbrev NotBefore : ℕ → Option ℕ → Type 0
NotBefore t None = Unit {0}
NotBefore t (Some u) = t ≤ u

parts : (t x : ℕ) (o : Option ℕ) → NotBefore t (lesser x o) → (t ≤ x) × NotBefore t o
parts t x None h = (h, tt)
parts t x (Some u) h = (omega arith, omega arith)

at_most : (m n : ℕ) → m ≤ n → nat_le m n ≡ true
at_most m n h = grind (arith, nat_tests)

both : (a b : Bool) → a ≡ true → b ≡ true → (a && b) ≡ true
both true b h k = k
both false b h k = h

from_bound : (t : ℕ) (ds : List Delayed) (ts : List ℕ) → NotBefore t (least (delayed_times ds ++ ts)) → are_from t ds ≡ true
from_bound t [] ts h = refl
from_bound t (d ∷ ds) ts h =
    let p = parts t d.time (least (delayed_times ds ++ ts)) h in
    both (nat_le t d.time) (are_from t ds) (at_most t d.time p.0) (from_bound t ds ts p.1)

-- none waits for a time before the least
pub from_least : (t : ℕ) (ds : List Delayed) (ts : List ℕ) → least (delayed_times ds ++ ts) ≡ Some t → are_from t ds ≡ true
from_least t ds ts h = from_bound t ds ts (subst (λ (o : Option ℕ). NotBefore t o) (sym h) (omega arith))
