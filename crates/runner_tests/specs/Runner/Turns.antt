-- A means of proof: how many keys are registered after each turn of a test, and how that is shown, for the test program of runs.
use Rattle.std.specs.Prelude.{◌≡◌, ℕ, zero, suc, ◌-◌, false, List, [], ◌∷◌, ◌++◌, Result, Ok, Err, codes}
use Rattle.std.specs.Fmt.{decimal}
use Rattle.port_io.specs.Means.{SinkMeans}
use Rattle.port_io.specs.Memory.{Lines}
use Rattle.gpi.specs.Content.{no_counts}
use Rattle.gpi.specs.declared.design.Flat.{Flat}
use Rattle.gpi.specs.declared.types.Counts.{Counts}
use Rattle.v_design.specs.declared.fault.DesignRefusal.{DesignRefusal}
use Rattle.run_view.specs.RandomStream.Generator.{seeded}
use Rattle.test_meaning.specs.Body.BodyTrees as trees
use Rattle.test_meaning.specs.Body.BodyTrees.{Case}
use Rattle.test_meaning.specs.Body.Views.{view_file}
use Rattle.test_meaning.specs.declared.body.file.TestFile.{TestFile}
use Rattle.test_file.specs.declared.text.fault.TestsRefusal.{TestsRefusal}
use Rattle.rig_model.specs.Run.Case.{emptied}
use Rattle.rig_model.specs.Run.Rig.{Rig, Setup}
use Rattle.rig_model.specs.Run.Run.{opening_sim}
use Rattle.rig_model.specs.Parts.Steps.{TurnSteps}
use Rattle.scheduler.specs.Turns.{BeginsTo, Turning, has_gone}
use Rattle.scheduler.specs.declared.turned.Turn.{Turn}
use Rattle.scheduler.specs.declared.turned.Turn.TheVariants as turn
use Rattle.command.specs.Answer.{setup_with}
use Rattle.runner_tests.specs.Runner.Designs.{IsRead}
use Rattle.runner_tests.specs.Runner.Files.{line_means}
use Rattle.runner_tests.specs.Runner.Tests.{AreRead}

-- the keys that were registered, and neither removed nor fired since
abbrev pub registered : Counts → ℕ
registered counts = counts.primed - counts.removed - counts.fired

-- their number behind a space
abbrev pub number_word : Counts → List ℕ
number_word counts = codes " " ++ decimal (registered counts)

-- what a test's turns may cost
abbrev pub turns_budget : ℕ
turns_budget = 10000000

-- A turn goes on, the number of the keys behind it is told, and then what follows from there.
pub record TellsOne {O : Type 0} (sink : SinkMeans O) (setup : Setup) (fuel : ℕ) (c : Rig) (out : O) (follows : ℕ → Rig → O → List ℕ → Type 0) (text : List ℕ) : Type 0 where
  pub left : ℕ
  pub next : Rig
  pub after : O
  pub more : List ℕ
  pub turning : Turning sink (TurnSteps setup) setup fuel c out (Ok turn.Went) left next after
  pub tells : text ≡ number_word next.counts ++ more
  pub behind : follows left next after more

-- A turn doesn't go on, and nothing is told of it.
pub record TellsLast {O : Type 0} (sink : SinkMeans O) (setup : Setup) (fuel : ℕ) (c : Rig) (out : O) (text : List ℕ) : Type 0 where
  pub answer : Turn
  pub left : ℕ
  pub next : Rig
  pub after : O
  pub turning : Turning sink (TurnSteps setup) setup fuel c out (Ok answer) left next after
  pub stops : has_gone (Ok answer) ≡ false
  pub tells : text ≡ []

-- So many turns go on from c, and then one that doesn't.
abbrev pub TellsTurns : {O : Type 0} → SinkMeans O → Setup → ℕ → ℕ → Rig → O → List ℕ → Type 0
TellsTurns sink setup zero fuel c out text = TellsLast sink setup fuel c out text
TellsTurns sink setup (suc count) fuel c out text = TellsOne sink setup fuel c out (TellsTurns sink setup count) text

-- A test that has begun is told turn by turn; of one that ended as it began there is nothing to tell.
abbrev pub TellsBegun : {O : Type 0} → SinkMeans O → Setup → Turn → Rig → O → List ℕ → Type 0
TellsBegun sink setup turn.Went c out text = (count : ℕ) × TellsTurns sink setup count turns_budget c out text
TellsBegun sink setup turn.Due c out text = text ≡ []
TellsBegun sink setup (turn.Over outcome) c out text = text ≡ []
TellsBegun sink setup turn.Spent c out text = text ≡ []
TellsBegun sink setup turn.WriteFault c out text = text ≡ []

-- A test begins at c, and is told.
pub record TellsTest {O : Type 0} (sink : SinkMeans O) (setup : Setup) (case : Case) (c : Rig) (out : O) (text : List ℕ) : Type 0 where
  pub answer : Turn
  pub begun : Rig
  pub after : O
  pub begins : BeginsTo sink setup case c (Ok answer) begun out after
  pub tells : TellsBegun sink setup answer begun after text

-- where a run begins whose random numbers are those of seed 0
abbrev pub opening_rig : Setup → Rig
opening_rig setup = emptied (opening_sim setup) (seeded 0) no_counts

-- the first of these tests of a file on a design, if there is one; changes of signals have no lines
abbrev pub TellsFirst : Flat → trees.TestFile → List Case → List ℕ → Type 0
TellsFirst flat file [] text = text ≡ codes "no test"
TellsFirst flat file (case ∷ cases) text =
    (out : Lines) × TellsTest line_means (setup_with false flat file) case (opening_rig (setup_with false flat file)) out text

-- the first test of the file that was read, if one was
abbrev pub TellsFile : Flat → Result TestFile TestsRefusal → List ℕ → Type 0
TellsFile flat (Err why) text = text ≡ codes "refused"
TellsFile flat (Ok file) text = TellsFirst flat (view_file file) (view_file file).cases text

-- The tests are read, and the first one is told.
pub record TellsTests (flat : Flat) (tests text : List ℕ) : Type 0 where
  pub file : Result TestFile TestsRefusal
  pub are_read : AreRead tests file
  pub tells : TellsFile flat file text

-- on the design that was read, if one was
abbrev pub TellsOn : Result Flat DesignRefusal → List ℕ → List ℕ → Type 0
TellsOn (Err why) tests text = text ≡ codes "refused"
TellsOn (Ok flat) tests text = TellsTests flat tests text

-- The design and the tests are read, and the first test is told.
pub record ShowsTurns (design tests text : List ℕ) : Type 0 where
  pub flat : Result Flat DesignRefusal
  pub is_read : IsRead design flat
  pub tells : TellsOn flat tests text
