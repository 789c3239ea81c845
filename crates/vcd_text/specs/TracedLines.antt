-- The lines of a traced run, and what is written for each.
use Rattle.std.specs.Prelude.{◌≡◌, ◌⊎◌, ◌<◌, ℕ, false, List, [], ◌∷◌, ◌++◌, codes, Some, slice_get}
use Rattle.std.specs.Fmt.{decimal}
use Rattle.gpi.specs.declared.design.Signal.{Signal}
use Rattle.gpi.specs.declared.design.Flat.{Flat}
use Rattle.vcd_text.specs.Spelling.{line}
use Rattle.vcd_text.specs.Hierarchy.{is_word}
use Rattle.vcd_text.specs.Changes.{ValueChange, IsChangeOf}
use Rattle.vcd_text.specs.Text.{lines_of_change, change_lines}

-- a line of a traced run: the signal of this path has these digits from this time on
abbrev pub traced_line : ℕ → List ℕ → List ℕ → List ℕ
traced_line time path digits = line (decimal time ++ codes " SIG " ++ path ++ codes " " ++ digits)

-- the signal is no word of a memory, and has this path
pub record HasPath (flat : Flat) (number : ℕ) (path : List ℕ) : Type 0 where
  pub signal : Signal
  pub there : slice_get flat.signals number ≡ Some signal
  pub traced : is_word flat.nodes number ≡ false
  pub path_is : signal.path ≡ path

-- the line tells this change of a signal that is no word of a memory, the first one that has the path
pub record TellsChange (flat : Flat) (text : List ℕ) (change : ValueChange) : Type 0 where
  pub is : IsChangeOf flat change
  pub first : (other : ℕ) → other < change.signal → HasPath flat other is.signal.path → ⊥
  pub spelled : text ≡ traced_line change.time is.signal.path change.digits

-- the line tells no such change
abbrev pub TellsNone : Flat → List ℕ → Type 0
TellsNone flat text = (change : ValueChange) → TellsChange flat text change → ⊥

-- these are the changes that the lines tell, in order
abbrev pub TellAll : Flat → List (List ℕ) → List ValueChange → Type 0
TellAll flat [] changes = changes ≡ []
TellAll flat (text ∷ texts) changes =
    ((change : ValueChange) × (more : List ValueChange) × TellsChange flat text change × (changes ≡ change ∷ more) × TellAll flat texts more)
    ⊎ (TellsNone flat text × TellAll flat texts changes)

-- what is written for a line of a traced run, where this is the time that was written last, and the time that is written last behind it
abbrev pub Becomes : Flat → ℕ → List ℕ → List (List ℕ) → ℕ → Type 0
Becomes flat last text lines next =
    ((change : ValueChange) × TellsChange flat text change × (lines ≡ lines_of_change last change) × (next ≡ change.time))
    ⊎ (TellsNone flat text × (lines ≡ []) × (next ≡ last))

-- what is written for these lines, one after the other
abbrev pub BecomeAll : Flat → ℕ → List (List ℕ) → List (List ℕ) → Type 0
BecomeAll flat last [] written = written ≡ []
BecomeAll flat last (text ∷ texts) written =
    (lines : List (List ℕ)) × (next : ℕ) × (more : List (List ℕ)) × Becomes flat last text lines next × BecomeAll flat next texts more × (written ≡ lines ++ more)

-- what is written for the lines of a run are the lines of the changes that they tell, in order
abbrev pub Traced_lines_become_changes : Type 0
Traced_lines_become_changes = (flat : Flat) (last : ℕ) (texts written : List (List ℕ)) → BecomeAll flat last texts written
    → (changes : List ValueChange) × TellAll flat texts changes × (written ≡ change_lines last changes)

-- the lines of a run tell some changes, and one list of them at the most
abbrev pub Some_changes : Type 0
Some_changes = (flat : Flat) (texts : List (List ℕ)) → (changes : List ValueChange) × TellAll flat texts changes

abbrev pub Same_changes : Type 0
Same_changes = (flat : Flat) (texts : List (List ℕ)) (a b : List ValueChange) → TellAll flat texts a → TellAll flat texts b → a ≡ b
