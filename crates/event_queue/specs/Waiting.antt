-- A means of proof: updates in order of their time, and the next one that is due.
use Rattle.std.specs.Prelude.{◌≡◌, ℕ, ◌==◌, ◌&&◌, nat_le, nat_lt, Bool, true, false, List, [], ◌∷◌, ◌++◌, map, Option, Some, None}
use Rattle.gpi.specs.declared.types.Update.{Update}
use Rattle.gpi.specs.declared.types.Delayed.{Delayed}
use Rattle.gpi.specs.State.{with_delayed}

-- none waits for a time before this one
abbrev pub are_from : ℕ → List Delayed → Bool
are_from t [] = true
are_from t (d ∷ ds) = nat_le t d.time && are_from t ds

-- by rising time
abbrev pub are_in_order : List Delayed → Bool
are_in_order [] = true
are_in_order (d ∷ ds) = are_from d.time ds && are_in_order ds

-- the updates of a map by their time and their number
abbrev pub sorted_of : List ((ℕ × ℕ) × Update) → List Delayed
sorted_of es = map (λ e. record { time = e.0.0; update = e.1 }) es

-- each has a number before this one
abbrev pub are_before : ℕ → List ((ℕ × ℕ) × Update) → Bool
are_before n [] = true
are_before n (e ∷ es) = nat_lt e.0.1 n && are_before n es

-- those of the first list are put where they belong in the second, one after the other
abbrev pub all_with : List Delayed → List Delayed → List Delayed
all_with [] ds = ds
all_with (f ∷ fs) ds = all_with fs (with_delayed f ds)

-- the first update is taken if it waits for this time, and else goes to the end
abbrev pub Turns : ℕ → List Delayed → Option Update → List Delayed → Type 0
Turns t before (Some u) after = (d : Delayed) × (before ≡ d ∷ after) × ((d.time == t) ≡ true) × (u ≡ d.update)
Turns t before None after = (d : Delayed) × (ds : List Delayed) × (before ≡ d ∷ ds) × ((d.time == t) ≡ false) × (after ≡ ds ++ d ∷ [])

-- the time of the first one
abbrev pub time_of_first : List Delayed → Option ℕ
time_of_first [] = None
time_of_first (d ∷ ds) = Some d.time

-- the answer is the first update if it waits for this time, and the others are left
abbrev pub Arrives : ℕ → List Delayed → Option Update → List Delayed → Type 0
Arrives t before (Some u) after = (d : Delayed) × (before ≡ d ∷ after) × ((d.time == t) ≡ true) × (u ≡ d.update)
Arrives t [] None after = after ≡ []
Arrives t (d ∷ ds) None after = ((d.time == t) ≡ false) × (after ≡ d ∷ ds)

-- the first due update is taken, and where none is due the later ones become due
abbrev pub Takes : List Update → List Update → Option Update → List Update → List Update → Type 0
Takes (u ∷ us) later answer due_after later_after = (answer ≡ Some u) × (due_after ≡ us) × (later_after ≡ later)
Takes [] (u ∷ us) answer due_after later_after = (answer ≡ Some u) × (due_after ≡ us) × (later_after ≡ [])
Takes [] [] answer due_after later_after = (answer ≡ None) × (due_after ≡ []) × (later_after ≡ [])
