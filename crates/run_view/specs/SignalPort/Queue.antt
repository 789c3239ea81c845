-- A means of proof: writes in the order in which they were staged, of which the last one of a signal counts, and how many there are of each.
use Rattle.std.specs.Prelude.{◌≡◌, ℕ, zero, suc, ◌==◌, List, [], ◌∷◌, ◌++◌, if◌then◌else◌, count_by, nat_eq, unwrap_or}
use Rattle.indexmap.specs.IndexMap.{IndexMap, get}
use Rattle.run_view.specs.declared.signal_port.staged.Staged.{Staged}

-- how many of these are of that signal
abbrev pub count_of : ℕ → List Staged → ℕ
count_of n ws = count_by (λ (w : Staged). w.sig.0 == n) ws

-- the writes that count: behind each there is none of its signal
abbrev pub newest : List Staged → List Staged
newest [] = []
newest (w ∷ ws) = if count_of w.sig.0 ws == 0 then w ∷ newest ws else newest ws

-- with the first behind the others, or gone where it doesn't count
abbrev pub turned : List Staged → List Staged
turned [] = []
turned (w ∷ ws) = if count_of w.sig.0 ws == 0 then ws ++ w ∷ [] else ws

-- that so often
abbrev pub turns : ℕ → List Staged → List Staged
turns zero ws = ws
turns (suc n) ws = turns n (turned ws)

-- the number that the map has at a key, 0 where it has none
abbrev pub tally_at : {S : Type 0} → IndexMap ℕ ℕ S → ℕ → ℕ
tally_at tally n = unwrap_or (get nat_eq tally n) 0

-- the map has the number of these writes of each signal
abbrev pub IsTally : {S : Type 0} → IndexMap ℕ ℕ S → List Staged → Type 0
IsTally tally ws = (n : ℕ) → tally_at tally n ≡ count_of n ws
