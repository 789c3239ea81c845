-- The run of a file: it begins in the opening state, and where memory is short before it nothing is put.
use Rattle.std.proofs.Common.{◌≡◌, ℕ, ◌≤◌, Bool, true, List, [], length, map, Result, Ok, Err, IsErr, refl, ap, sym, subst, ◌∙◌}
use Rattle.std.specs.Prelude.{nat_le, ◌&&◌}
use Rattle.std.specs.List.{list_all}
use Rattle.std.proofs.lemmas.Bool.{and_parts, leb-true}
use Rattle.std.proofs.lemmas.List.{length-map}
use Rattle.port_io.specs.Means.{SinkMeans}
use Rattle.port_io.specs.declared.ports.NoMemory.{NoMemory}
use Rattle.port_io.proofs.PartLaws.{part_none}
use Rattle.gpi.specs.Content as content
use Rattle.gpi.specs.Content.{Content, no_counts}
use Rattle.gpi.specs.declared.design.Flat.{Flat}
use Rattle.run_view.specs.RandomStream.Generator.{seeded}
use Rattle.test_meaning.specs.Body.BodyTrees as trees
use Rattle.test_meaning.specs.Body.BodyTrees.{Case}
use Rattle.test_meaning.specs.Body.Sound.{is_sound, is_sound_case, is_sound_function, most_cases}
use Rattle.test_meaning.specs.Body.Views.{view_case, view_file, view_function}
use Rattle.test_meaning.specs.declared.body.file.TestFile.{TestFile}
use Rattle.rig_model.specs.Task.Known.{AreSoundFunctions}
use Rattle.task_compile.specs.Reading.{functions_in}
use Rattle.task_compile.specs.declared.program.Program.{Program}
use Rattle.task_core.specs.Code.Functions.{function_of}
use Rattle.task_core.specs.States.{read_at}
use Rattle.state_task.specs.declared.functions.StateFunctions.{StateFunctions}
use Rattle.rig_model.specs.Run.Case.{emptied}
use Rattle.rig_model.specs.Run.Rig.{Rig, Setup}
use Rattle.rig_model.specs.Run.Run.{IsStart, opening, opening_sim, steps, written}
use Rattle.command.specs.Regression.Runs.{RunsTo, status_in}
use Rattle.command.specs.Regression.Stages.{cases_of}
use Rattle.command.specs.declared.regression.status.Status.{Status}
use Rattle.command.specs.declared.options.RunOptions.{RunOptions}
use Rattle.command.specs.Answer.{RunsFile, setup_with}

-- no line is a front of those of a run
pub start_none : (setup : Setup) (seed : ℕ) (cases : List Case) (budget : ℕ) → IsStart setup seed cases budget []
unfolding steps
start_none setup seed cases budget = record { count = 0; more = written setup budget (opening setup seed cases); reached = refl }

-- nothing was put for want of memory
pub file_none : {O : Type 0} (sink : SinkMeans O) (options : RunOptions) (flat : Flat) (file : trees.TestFile) (r : Result Status NoMemory) (c : Content) (out : O) → IsErr r
    → RunsFile sink options flat file (status_in r) c out out
file_none sink options flat file (Ok s) c out h = cc
file_none sink options flat file (Err e) c out h =
    let setup : Setup = setup_with options.trace flat file in (
      emptied (opening_sim setup) (seeded options.seed) no_counts,
      record { lines = []; starts = start_none setup options.seed file.cases options.budget; puts = part_none sink.takes sink.told out [] },
    )

-- ---- the parts of a sound file

module _ (file : TestFile) (sound : is_sound (view_file file) ≡ true) where
  parts : ((list_all (is_sound_function (view_file file).functions) (view_file file).functions && list_all (is_sound_case (view_file file).functions) (view_file file).cases) ≡ true)
      × (nat_le (length (view_file file).cases) most_cases ≡ true)
  parts = and_parts _ _ sound

  sound_functions : AreSoundFunctions (view_file file).functions
  sound_functions = (and_parts _ _ parts.0).0

  sound_cases : list_all (is_sound_case (view_file file).functions) (view_file file).cases ≡ true
  sound_cases = (and_parts _ _ parts.0).1

  pub few_cases : length file.cases ≤ most_cases
  few_cases = subst (λ (n : ℕ). n ≤ most_cases) (length-map file.cases view_case) (leb-true _ _ parts.1)

-- ---- the opening of a run

-- what tests share, with the functions of a maker
abbrev made_setup : Bool → Flat → List trees.Function → Setup
made_setup trace flat made = record { functions = made; flat = flat; trace = trace }

-- a maker of the functions of a file
pub maker_sound : (file : TestFile) (made : List trees.Function) → made ≡ map view_function file.functions → is_sound (view_file file) ≡ true → AreSoundFunctions made
maker_sound file made are sound = subst (λ (fs : List trees.Function). AreSoundFunctions fs) (sym are) (sound_functions file sound)

-- what a maker over the states of the file's program makes tasks of
pub program_functions : (file : TestFile) (program : Program) (all lent : StateFunctions) → lent ≡ all
    → map (function_of read_at) all.functions.items ≡ functions_in program → functions_in program ≡ map view_function file.functions
    → map (function_of read_at) lent.functions.items ≡ map view_function file.functions
program_functions file program all lent same are is = ap (λ (fs : StateFunctions). map (function_of read_at) fs.functions.items) same ∙ are ∙ is

module _ (options : RunOptions) (flat : Flat) (file : TestFile) (made : List trees.Function) (setup : Setup)
    (made_are : made ≡ map view_function file.functions) (setup_is : setup ≡ made_setup options.trace flat made) where
  pub setup_same : setup ≡ setup_with options.trace flat (view_file file)
  setup_same = setup_is ∙ ap (made_setup options.trace flat) made_are

  -- an engine stands in the opening configuration of its design
  pub opens : (c : Content) (rig : Rig) → c ≡ content.opening flat → rig ≡ emptied c.state (seeded options.seed) c.counts
      → rig ≡ emptied (opening_sim setup) (seeded options.seed) no_counts
  opens c rig o is =
      is ∙ ap (λ (k : Content). emptied k.state (seeded options.seed) k.counts) o
      ∙ ap (λ (s : Setup). emptied (opening_sim s) (seeded options.seed) no_counts) (sym setup_same)

  -- its tests name functions that it has
  pub engine_cases : is_sound (view_file file) ≡ true → list_all (is_sound_case setup.functions) (cases_of file.cases) ≡ true
  engine_cases sound = subst (λ (s : Setup). list_all (is_sound_case s.functions) (cases_of file.cases) ≡ true) (sym setup_same) (sound_cases file sound)

  -- its run is that of the file
  pub engine_runs : {O : Type 0} (sink : SinkMeans O) (s : Status) (last : Rig) (c : Content) (out out' : O)
      → RunsTo sink setup options.seed (cases_of file.cases) options.budget s last c out out' → RunsFile sink options flat (view_file file) s c out out'
  engine_runs sink s last c out out' runs =
      (last, subst (λ (x : Setup). RunsTo sink x options.seed (cases_of file.cases) options.budget s last c out out') setup_same runs)
