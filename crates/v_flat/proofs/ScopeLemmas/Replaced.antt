-- A meaning that is replaced and put back.
use Rattle.std.proofs.Common.{◌≡◌, ℕ, List, Option, Some, Bool, true, false, refl, sym, ◌∙◌, ap, bytes_eq, if◌then◌else◌}
use Rattle.std.proofs.lemmas.Slice.Eq.{bytes_eq-Decides}
use Rattle.v_flat.specs.declared.scope.meaning.Meaning.{Meaning}
use Rattle.v_flat.specs.Scope.Scope.{Scope, find, named, renamed, renamed_from}

-- a declared name is renamed as it is named
pub renamed_declared : (k : List ℕ) (x old : Meaning) (s : Scope) → find k s ≡ Some old → renamed k x s ≡ named k x s
renamed_declared k x old s h = ap (λ (o : Option Meaning). renamed_from o k x s) h

-- a name means what it was named last
pub finds_named : (k : List ℕ) (x : Meaning) (s : Scope) → find k (named k x s) ≡ Some x
finds_named k x s = ap (λ (b : Bool). if b then Some x else s k) ((bytes_eq-Decides k k).1 refl)

same_as_before : (k n : List ℕ) (x old : Meaning) (s : Scope) (b : Bool) → bytes_eq n k ≡ b → find k s ≡ Some old
    → (if b then Some old else (if b then Some x else s n)) ≡ s n
same_as_before k n x old s true q h = sym h ∙ ap s (sym ((bytes_eq-Decides n k).0 q))
same_as_before k n x old s false q h = refl

-- what a name meant is put back
pub back_again : (k : List ℕ) (x old : Meaning) (s : Scope) → find k s ≡ Some old → renamed k old (named k x s) ≡ s
back_again k x old s h = renamed_declared k old x (named k x s) (finds_named k x s) ∙ (λ i n. (same_as_before k n x old s (bytes_eq n k) refl h) i)
