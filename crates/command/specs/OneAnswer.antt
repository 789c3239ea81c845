-- A means of proof: what the laws of an answer say, which stand beside the command's contract.
use Rattle.std.specs.Prelude.{◌≡◌, ℕ, true, Bool, List, Option, Some, map}
use Rattle.port_io.specs.ToldLaws.{joined}
use Rattle.gpi.specs.declared.design.Flat.{Flat}
use Rattle.vcd_text.specs.Changes.{ValueChange}
use Rattle.vcd_text.specs.Readable.{told_change}
use Rattle.vcd_text.specs.Rules.{IsRead}
use Rattle.vcd_text.specs.Text.{vcd}
use Rattle.vcd_text.specs.Traceable.{IsTraceable}
use Rattle.vcd_text.specs.TracedLines.{TellAll}
use Rattle.test_meaning.specs.Body.BodyTrees.{Case, Function, TestFile}
use Rattle.test_meaning.specs.Body.Sound.{is_sound}
use Rattle.rig_model.specs.Run.Rig.{Setup}
use Rattle.rig_model.specs.Run.Run.{IsRun, Run, written}
use Rattle.v_design.specs.Answers.{AreAlike}
use Rattle.command.specs.declared.regression.status.Status.{Status}
use Rattle.command.specs.declared.regression.status.Status.TheVariants as status
use Rattle.command.specs.declared.options.RunOptions.{RunOptions}
use Rattle.command.specs.declared.options.Shown.TheVariants.{VcdText}
use Rattle.command.specs.Answer.{IsAnswer, setup_with}
use Rattle.command.specs.Reading.{IsTold, Reading, refused, runs}
use Rattle.command.specs.Regression.Runs.{status_of}

-- A run on a design stops where it does on each other one that is like it, and has written the same.
pub record RunsAlike (setup other : Setup) (seed : ℕ) (cases : List Case) (budget : ℕ) (run : Run) : Type 0 where
  pub is_run : IsRun other seed cases budget run
  pub writes : written setup budget run ≡ written other budget run

-- Designs that are alike have the same runs.
abbrev pub AlikeDesignsRunAlike : Type 0
AlikeDesignsRunAlike =
    (functions : List Function) (trace : Bool) (a b : Flat) → AreAlike a b → (seed : ℕ) (cases : List Case) (budget : ℕ) (run : Run)
    → IsRun (record { functions = functions; flat = a; trace = trace }) seed cases budget run
    → RunsAlike (record { functions = functions; flat = a; trace = trace }) (record { functions = functions; flat = b; trace = trace }) seed cases budget run

-- a file couldn't be read
abbrev pub IsUnread : Reading → Type 0
IsUnread r = (line : List ℕ) × (r ≡ refused status.ReadFault line)

-- Where the files are told, the same words have the same lines and the same status, unless a read failed.
abbrev pub WordsHaveOneAnswer : Type 0
WordsHaveOneAnswer =
    (files : List ℕ → Option (List ℕ)) (said : List (List ℕ)) (options others : RunOptions) (r t : Reading) (lines more : List (List ℕ)) (own other : Status)
    → IsTold (Some files) said options r → IsTold (Some files) said others t → (IsUnread r → ⊥) → (IsUnread t → ⊥)
    → IsAnswer options r lines own → IsAnswer others t more other → (lines ≡ more) × (own ≡ other)

-- The lines are those of the VCD text of the changes that a run tells, and a reader gives of their bytes just these changes, in order.
pub record IsReadBack (setup : Setup) (budget : ℕ) (run : Run) (lines : List (List ℕ)) : Type 0 where
  pub changes : List ValueChange
  pub tell : TellAll setup.flat (written setup budget run) changes
  pub text : lines ≡ vcd setup.flat changes
  pub read : IsRead (joined lines) (map (told_change setup.flat.signals) changes)

-- So it is with `--vcd` of each answer of a run on a design that can be traced.
abbrev pub VcdAnswersReadBack : Type 0
VcdAnswersReadBack =
    (options : RunOptions) (flat : Flat) (file : TestFile) (lines : List (List ℕ)) (own : Status) → options.shown ≡ VcdText → IsTraceable flat → is_sound file ≡ true
    → IsAnswer options (runs flat file) lines own
    → (run : Run) × IsRun (setup_with options.trace flat file) options.seed file.cases options.budget run × (own ≡ status_of run)
    × IsReadBack (setup_with options.trace flat file) options.budget run lines
