-- A means of proof: a set of times, for the proofs of simulators.
use Rattle.std.specs.Prelude.{◌≡◌, ℕ, ◌==◌, ◌&&◌, ◌||◌, not, List, Option, None, Some}
use Rattle.gpi.specs.Keys.{holds, lesser}
use Rattle.kernel_base.specs.declared.times.Times.{Times}

abbrev pub times_of : Times → List ℕ
times_of s = s.set.keys

-- after has the times of before, and this one
abbrev pub IsWithTime : ℕ → List ℕ → List ℕ → Type 0
IsWithTime t before after = (q : ℕ) → holds q after ≡ ((q == t) || holds q before)

-- after has the times of before but this one
abbrev pub IsWithoutTime : ℕ → List ℕ → List ℕ → Type 0
IsWithoutTime t before after = (q : ℕ) → holds q after ≡ (holds q before && not (q == t))

-- the lesser of two times, where there are any
abbrev pub sooner : Option ℕ → Option ℕ → Option ℕ
sooner None other = other
sooner (Some t) other = lesser t other
