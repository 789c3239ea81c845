-- Turns of a test that are told.
use Rattle.std.proofs.Common.{◌≡◌, ℕ, zero, suc, false, List, [], ◌∷◌, ◌++◌, Some, map, Result, Ok, Err, IfOk, refl, ap, subst}
use Rattle.port_io.specs.Means.{SinkMeans}
use Rattle.port_io.specs.Memory.{Lines}
use Rattle.port_io.specs.declared.ports.NoMemory.{NoMemory}
use Rattle.std.specs.List.{slice_get}
use Rattle.gpi.specs.declared.design.Flat.{Flat}
use Rattle.test_meaning.specs.Body.BodyTrees.{Case}
use Rattle.test_meaning.specs.Body.Views.{view_case, view_file}
use Rattle.test_meaning.specs.declared.body.file.TestCase.{TestCase}
use Rattle.test_meaning.specs.declared.body.file.TestFile.{TestFile}
use Rattle.rig_model.specs.Run.Rig.{Rig, Setup}
use Rattle.rig_model.specs.Parts.Steps.{TurnSteps}
use Rattle.scheduler.specs.Turns.{BeginsTo, Turning, has_gone}
use Rattle.scheduler.specs.declared.turned.Turn.{Turn}
use Rattle.scheduler.specs.declared.turned.Turn.TheVariants as turn
use Rattle.command.specs.Answer.{setup_with}
use Rattle.command.specs.declared.options.RunOptions.{RunOptions}
use Rattle.command.specs.declared.options.Shown.TheVariants.{AllLines}
use Rattle.runner_tests.specs.Runner.Files.{line_means}
use Rattle.runner_tests.specs.Runner.Turns.{TellsBegun, TellsFirst, TellsTest, TellsTurns, number_word, opening_rig, turns_budget}

module _ {O : Type 0} (sink : SinkMeans O) (setup setup' : Setup) (fuel : ℕ) (c : Rig) (out : O) (left : ℕ) (next : Rig) (after : O) (same : setup' ≡ setup) where
  under : (r : Result Turn NoMemory) → Turning sink (TurnSteps setup') setup' fuel c out r left next after → Turning sink (TurnSteps setup) setup fuel c out r left next after
  under r t = subst (λ (s : Setup). Turning sink (TurnSteps s) s fuel c out r left next after) same t

  -- a turn that went, and what is told from there
  pub tells_one : (r : Result Turn NoMemory) → r ≡ Ok turn.Went → Turning sink (TurnSteps setup') setup' fuel c out r left next after
      → (number more : List ℕ) → number ≡ number_word next.counts → (count : ℕ) → TellsTurns sink setup count left next after more
      → TellsTurns sink setup (suc count) fuel c out (number ++ more)
  tells_one r went t number more is count behind = record {
    left = left;
    next = next;
    after = after;
    more = more;
    turning = subst (λ (x : Result Turn NoMemory). Turning sink (TurnSteps setup) setup fuel c out x left next after) went (under r t);
    tells = ap (λ (n : List ℕ). n ++ more) is;
    behind = behind;
  }

  -- a turn that didn't go on
  pub tells_last : (answer : Turn) → has_gone (Ok answer) ≡ false → Turning sink (TurnSteps setup') setup' fuel c out (Ok answer) left next after
      → TellsTurns sink setup zero fuel c out []
  tells_last answer stops t = record { answer = answer; left = left; next = next; after = after; turning = under (Ok answer) t; stops = stops; tells = refl }

-- ---- a test

-- how a run of the command would run it
abbrev pub options : RunOptions
options = record { budget = turns_budget; seed = 0; trace = false; shown = AllLines }

-- what is told of a test in one setup and configuration is told of it in those that are the same
pub tells_as : {O : Type 0} (sink : SinkMeans O) (setup setup' : Setup) (case : Case) (c c' : Rig) (out : O) → setup' ≡ setup → c' ≡ c → {T : Type 0} (bytes : T → List ℕ) (r : Result T NoMemory)
    → IfOk r (λ text. TellsTest sink setup' case c' out (bytes text)) → IfOk r (λ text. TellsTest sink setup case c out (bytes text))
tells_as sink setup setup' case c c' out s e bytes r tells =
    subst (λ (x : Rig). IfOk r (λ text. TellsTest sink setup case x out (bytes text))) e
    (subst (λ (x : Setup). IfOk r (λ text. TellsTest sink x case c' out (bytes text))) s tells)

module _ {O : Type 0} (sink : SinkMeans O) (setup : Setup) (case : Case) (c begun : Rig) (out after : O) where
  -- one that goes on, and its turns
  pub test_went : (answer : Turn) → answer ≡ turn.Went → BeginsTo sink setup case c (Ok answer) begun out after → {T : Type 0} (bytes : T → List ℕ) (s : Setup) → s ≡ setup
      → (r : Result T NoMemory) → IfOk r (λ text. (count : ℕ) × TellsTurns sink s count turns_budget begun after (bytes text)) → IfOk r (λ text. TellsTest sink setup case c out (bytes text))
  test_went answer went begins bytes s same (Err no_memory) tells = tt
  test_went answer went begins bytes s same (Ok text) tells = record {
    answer = turn.Went;
    begun = begun;
    after = after;
    begins = subst (λ (t : Turn). BeginsTo sink setup case c (Ok t) begun out after) went begins;
    tells = subst (λ (x : Setup). (count : ℕ) × TellsTurns sink x count turns_budget begun after (bytes text)) same tells;
  }

  -- one that ended as it began
  nothing : (answer : Turn) → (answer ≡ turn.Went → ⊥) → (text : List ℕ) → text ≡ [] → TellsBegun sink setup answer begun after text
  nothing turn.Went not text none = absurd (not refl)
  nothing turn.Due not text none = none
  nothing (turn.Over outcome) not text none = none
  nothing turn.Spent not text none = none
  nothing turn.WriteFault not text none = none

  pub test_over : (answer : Turn) → (answer ≡ turn.Went → ⊥) → BeginsTo sink setup case c (Ok answer) begun out after → (text : List ℕ) → text ≡ [] → TellsTest sink setup case c out text
  test_over answer not begins text none = record { answer = answer; begun = begun; after = after; begins = begins; tells = nothing answer not text none }

abbrev TellsCase : Flat → TestFile → TestCase → List ℕ → Type 0
TellsCase flat file case text =
    (out : Lines) × TellsTest line_means (setup_with false flat (view_file file)) (view_case case) (opening_rig (setup_with false flat (view_file file))) out text

-- the first test of a file
pub first_is : {T : Type 0} (bytes : T → List ℕ) (flat : Flat) (file : TestFile) (case : TestCase) → slice_get file.cases 0 ≡ Some case → (r : Result T NoMemory)
    → IfOk r (λ text. TellsCase flat file case (bytes text))
    → IfOk r (λ text. TellsFirst flat (view_file file) (view_file file).cases (bytes text))
first_is bytes flat file case first (Err no_memory) tells = tt
first_is bytes flat file case first (Ok text) tells = by_cases file.cases first
  where
    by_cases : (cases : List TestCase) → slice_get cases 0 ≡ Some case → TellsFirst flat (view_file file) (map view_case cases) (bytes text)
    by_cases [] g = cc
    by_cases (c ∷ cs) g =
        let same : case ≡ c = cc in
        subst (λ (x : TestCase). TellsCase flat file x (bytes text)) same tells
