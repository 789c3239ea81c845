-- A means of proof: what is answered for a row, for the test program of elaboration.
use Rattle.std.specs.Prelude.{◌≡◌, ℕ, Bool, true, false, List, ◌∷◌, ◌++◌, Option, None, Some, Result, Ok, Err, codes, if◌then◌else◌}
use Rattle.std.specs.Fmt.{decimal}
use Rattle.std.specs.Str.{bytes_eq}
use Rattle.gpi.specs.declared.design.Flat.{Flat}
use Rattle.table_rows.specs.Rows.{part_at, written}
use Rattle.table_rows.specs.Shown.{latin}
use Rattle.v_design.specs.Words.{elaboration_word}
use Rattle.design_tests.specs.Elaboration.Designs.{IsDesignOf}
use Rattle.design_tests.specs.Elaboration.Runs.{ShowsDesign}
use Rattle.design_tests.specs.declared.elaboration.designs.Refusal.{Refusal}
use Rattle.design_tests.specs.declared.elaboration.designs.Refusal.TheVariants.{TooLong, NoTokens, NoModules, Breaks}

-- ---- what is given

-- none where it is `-`
abbrev pub named : List ℕ → Option (List ℕ)
named name = if bytes_eq name (codes "-") then None else Some name

-- the name of the module that is to be the top
abbrev pub top_of : List ℕ → Option (List ℕ)
top_of row = named (latin (part_at 2 row))

-- ---- what is shown

-- why a text has no design
abbrev pub refusal_text : Refusal → List ℕ
refusal_text TooLong = codes " too long"
refusal_text NoTokens = codes " no tokens"
refusal_text NoModules = codes " no modules"
refusal_text (Breaks rule byte) = codes " " ++ (elaboration_word rule ++ (codes " " ++ decimal byte))

-- whether a row asks for the rules alone
abbrev pub is_rule : List ℕ → Bool
is_rule row = bytes_eq (part_at 0 row) (codes "rule")

-- a design is accepted where the rules alone are asked for, and shown under a stimulus elsewhere
abbrev pub ShowsFlat : Bool → Flat → List ℕ → List ℕ → Type 0
ShowsFlat true flat stimulus text = text ≡ codes " accepted"
ShowsFlat false flat stimulus text = ShowsDesign flat stimulus text

-- what is shown of a design, or why there is none
abbrev pub ShowsFound : Bool → Result Flat Refusal → List ℕ → List ℕ → Type 0
ShowsFound rules (Ok flat) stimulus text = ShowsFlat rules flat stimulus text
ShowsFound rules (Err refusal) stimulus text = text ≡ refusal_text refusal

-- The design of a row's text, or why it has none.
pub record ShowsRow (row text : List ℕ) : Type 0 where
  pub design : Result Flat Refusal
  pub is_design : IsDesignOf (written (part_at 3 row)) (top_of row) design
  pub shows : ShowsFound (is_rule row) design (part_at 4 row) text

-- The name of a row, and behind `:` what it comes to.
pub record Answers (row text : List ℕ) : Type 0 where
  pub shown : List ℕ
  pub shows : ShowsRow row shown
  pub whole : text ≡ part_at 1 row ++ (58 ∷ shown)
