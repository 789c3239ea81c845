-- A means of proof: lists of process numbers and of updates, for the proofs of simulators.
use Rattle.std.specs.Prelude.{◌≡◌, ℕ, ◌<◌, Bool, true, false, List, [], ◌∷◌, Option, None, Some, map}
use Rattle.gpi.specs.declared.design.Kind.{Kind}
use Rattle.gpi.specs.declared.design.Kind.TheVariants.{Always}
use Rattle.gpi.specs.declared.types.Update.{Update}
use Rattle.gpi.specs.declared.types.Delayed.{Delayed}
use Rattle.gpi.specs.Keys.{holds}

-- the processes that aren't woken
abbrev pub barred : Option ℕ → List ℕ → List ℕ
barred None active = active
barred (Some own) active = own ∷ active

-- a process of that kind isn't woken by its own activation
abbrev pub own_of : Kind → ℕ → Option ℕ
own_of Always p = Some p
own_of _ p = None

abbrev pub AreBelow : ℕ → List ℕ → Type 0
AreBelow n [] = Unit {0}
AreBelow n (p ∷ ps) = (p < n) × AreBelow n ps

abbrev pub AreDistinct : List ℕ → Type 0
AreDistinct [] = Unit {0}
AreDistinct (p ∷ ps) = (holds p ps ≡ false) × AreDistinct ps

abbrev pub is_empty : {A : Type 0} → List A → Bool
is_empty [] = true
is_empty (x ∷ xs) = false

abbrev pub updates_in : List Delayed → List Update
updates_in ds = map (λ d. d.update) ds
