-- A means of proof: what a design is read as, as it is shown, for the test program of runs.
use Rattle.std.specs.Prelude.{◌≡◌, ℕ, List, ◌++◌, None, Result, Ok, Err, codes}
use Rattle.std.specs.Fmt.{decimal}
use Rattle.std.specs.List.{flat_map}
use Rattle.gpi.specs.declared.design.Flat.{Flat}
use Rattle.gpi.specs.declared.design.Signal.{Signal}
use Rattle.v_design.specs.declared.fault.DesignRefusal.{DesignRefusal}
use Rattle.v_design.specs.Designs.{IsDesign, IsRefused}
use Rattle.v_design.specs.Words.{refusal_word}
use Rattle.table_rows.specs.Shown.{latin}
use Rattle.runner_tests.specs.Runner.Words.{digit_word}

-- The text is a design under the only module that no module instantiates, or is refused for this reason.
abbrev pub IsRead : List ℕ → Result Flat DesignRefusal → Type 0
IsRead source (Ok flat) = IsDesign None source flat
IsRead source (Err why) = IsRefused None why source

-- a signal: its path, its width, and what each of its digits begins as
abbrev pub signal_word : Signal → List ℕ
signal_word signal =
    latin signal.path ++ (codes " width=" ++ (decimal signal.width ++ (codes " start=" ++ (digit_word signal.start ++ codes ", "))))

-- the signals, and the length of a step
abbrev pub flat_word : Flat → List ℕ
flat_word flat = flat_map signal_word flat.signals ++ (codes "step_fs=" ++ decimal flat.step_fs)

-- the design, or the reason
abbrev pub design_word : Result Flat DesignRefusal → List ℕ
design_word (Ok flat) = flat_word flat
design_word (Err why) = latin (refusal_word why)

-- The design that the text is, or why it is none.
pub record ShowsDesign (source text : List ℕ) : Type 0 where
  pub found : Result Flat DesignRefusal
  pub is_read : IsRead source found
  pub shows : text ≡ design_word found
