-- A run whose lines went into a sink that keeps the last one: what it keeps is the last line of the run.
use Rattle.std.proofs.Common.{◌≡◌, ◌≢◌, ℕ, List, [], ◌∷◌, Option, Some, Result, Ok, Err, IsErr, refl, ap, sym, subst, inl, inr}
use Rattle.std.specs.Prelude.{option_to_list}
use Rattle.port_io.specs.Means.{SinkMeans}
use Rattle.port_io.specs.declared.ports.NoMemory.{NoMemory}
use Rattle.gpi.specs.Content.{Content}
use Rattle.gpi.specs.declared.design.Flat.{Flat}
use Rattle.test_meaning.specs.Body.BodyTrees.{Case, TestFile}
use Rattle.rig_model.specs.Run.Rig.{Rig, Setup}
use Rattle.rig_model.specs.Run.Run.{Run, IsRun, written}
use Rattle.rig_model.specs.Parts.Fits.{StandsFor}
use Rattle.command.specs.LastLine.Keeping.{last_means}
use Rattle.command.specs.LastLine.Last.{last_of}
use Rattle.command.proofs.LastLineLemmas.KeepingLaws.{keeps_last_of, none_fails}
use Rattle.command.specs.Regression.Runs.{EndsTo, RunsTo, Whole, status_in, status_of}
use Rattle.command.specs.declared.regression.status.Status.{Status}
use Rattle.command.specs.declared.regression.status.Status.TheVariants as status
use Rattle.command.specs.declared.options.RunOptions.{RunOptions}
use Rattle.command.specs.Answer.{RunsFile, RunsLast, last_alone, setup_with}
use Rattle.command.proofs.Closing.{writes_some}

-- A run stopped with this status, the simulator stands for that place, and its last line is kept.
record KeepsRun (setup : Setup) (seed : ℕ) (cases : List Case) (budget : ℕ) (s : Status) (content : Content) (kept : List ℕ) : Type 0 where
  run : Run
  is_run : IsRun setup seed cases budget run
  status_is : s ≡ status_of run
  is_last : last_of (written setup budget run) ≡ Some kept
  stands : StandsFor setup content run.rig

module _ (setup : Setup) (seed : ℕ) (cases : List Case) (budget : ℕ) (content : Content) (before kept : List ℕ) where
  whole_kept : (s : Status) (e : Rig) → Whole last_means setup seed cases budget s e content before kept → KeepsRun setup seed cases budget s content kept
  whole_kept s e w = record {
    run = w.run;
    is_run = w.is_run;
    status_is = w.status_is;
    is_last = keeps_last_of before (written setup budget w.run) kept (writes_some setup seed cases budget w.run w.is_run) w.puts;
    stands = w.stands;
  }

  run_kept : (s : Status) (e : Rig) → s ≢ status.NoMemory → RunsTo last_means setup seed cases budget s e content before kept → KeepsRun setup seed cases budget s content kept
  run_kept status.Passed e some w = whole_kept status.Passed e w
  run_kept status.Failed e some w = whole_kept status.Failed e w
  run_kept status.Budget e some w = whole_kept status.Budget e w
  run_kept status.WriteFault e some b = absurd (none_fails before b.lines kept b.puts)
  run_kept status.NoMemory e some u = absurd (some refl)
  run_kept status.Usage e some w = absurd w
  run_kept status.DesignRefused e some w = absurd w
  run_kept status.TestsRefused e some w = absurd w
  run_kept status.ReadFault e some w = absurd w

-- what is kept is put then
pub last_put : {O : Type 0} (sink : SinkMeans O) (options : RunOptions) (flat : Flat) (file : TestFile) (own s : Status) (content : Content) (before kept : List ℕ) (out out' : O)
    → own ≢ status.NoMemory → RunsFile last_means options flat file own content before kept → EndsTo sink (kept ∷ []) own s out out'
    → RunsLast sink options flat file s content out out'
last_put {O} sink options flat file own s content before kept out out' some ran ends = inl (k.run, k.is_run, record { stands = k.stands; ends = shown })
  where
    setup : Setup
    setup = setup_with options.trace flat file

    k : KeepsRun setup options.seed file.cases options.budget own content kept
    k = run_kept setup options.seed file.cases options.budget content before kept own ran.0 some ran.1

    lines : kept ∷ [] ≡ last_alone (written setup options.budget k.run)
    lines = ap (λ (last : Option (List ℕ)). option_to_list last) (sym k.is_last)

    shown : EndsTo sink (last_alone (written setup options.budget k.run)) (status_of k.run) s out out'
    shown = subst (λ (x : Status). EndsTo sink (last_alone (written setup options.budget k.run)) x s out out') k.status_is
        (subst (λ (l : List (List ℕ)). EndsTo sink l own s out out') lines ends)

-- memory was short before it
pub last_none : {O : Type 0} (sink : SinkMeans O) (options : RunOptions) (flat : Flat) (file : TestFile) (r : Result Status NoMemory) (content : Content) (out : O) → IsErr r
    → RunsLast sink options flat file (status_in r) content out out
last_none sink options flat file (Ok s) content out h = cc
last_none sink options flat file (Err e) content out h = inr (record { short = refl; same = refl })
