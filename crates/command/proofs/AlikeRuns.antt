-- Designs that are alike have the same runs: a definition of a run knows of the processes what they do alone.
use Rattle.std.proofs.Common.{◌≡◌, ℕ, zero, suc, ◌+◌, Bool, true, false, not, ◌&&◌, List, [], ◌∷◌, ◌++◌, Option, None, Some, Ok, Err, if◌then◌else◌, refl, ap, sym, subst, ◌∙◌}
use Rattle.std.specs.Prelude.{nat_le}
use Rattle.gpi.specs.Content.{no_counts}
use Rattle.gpi.specs.Design.{Proc, nets_of, procs_of, start_map, start_hidden, starters}
use Rattle.gpi.specs.Events.{Event, event, force, put, release, value_at}
use Rattle.gpi.specs.Keys.{Keys, among, set_of}
use Rattle.gpi.specs.State.{State, is_end}
use Rattle.gpi.specs.declared.design.Flat.{Flat}
use Rattle.gpi.specs.declared.design.Node.{Node}
use Rattle.gpi.specs.declared.design.Process.{Process}
use Rattle.gpi.specs.declared.design.Signal.{Signal}
use Rattle.gpi.specs.declared.types.Key.{Key}
use Rattle.gpi.specs.declared.types.Key.TheVariants.{ReadWrite}
use Rattle.gpi.specs.declared.types.Region.TheVariants as region
use Rattle.gpi.specs.declared.types.SigId.{SigId}
use Rattle.gpi.specs.declared.types.Told.{Told}
use Rattle.gpi.specs.declared.types.Write.{Write}
use Rattle.gpi.specs.declared.types.Write.TheVariants as write
use Rattle.py_value.specs.Answer.{Answer}
use Rattle.py_value.specs.declared.trigger.TaskNo.{TaskNo}
use Rattle.py_value.specs.declared.value.Value.{Value}
use Rattle.py_value.specs.declared.value.Value.TheVariants as value
use Rattle.run_view.specs.RandomStream.Generator.{seeded}
use Rattle.run_view.specs.declared.signal_port.staged.Staged.{Staged}
use Rattle.test_meaning.specs.Body.BodyTrees.{Case, Function}
use Rattle.rig_model.specs.Task.Cost.{next_cost}
use Rattle.rig_model.specs.Task.Frame.{Task}
use Rattle.rig_model.specs.Task.Step.{next}
use Rattle.rig_model.specs.declared.task.task.Turned.{Turned}
use Rattle.rig_model.specs.declared.task.task.Turned.TheVariants as turned
use Rattle.await_tree.specs.declared.wait_list.ready.Entry.{Entry}
use Rattle.rig_model.specs.Run.Case.{emptied, values_of, with_test}
use Rattle.rig_model.specs.Run.Counts.{counted}
use Rattle.rig_model.specs.Run.Effect.{effect, effect_of, gives_value, write_by}
use Rattle.rig_model.specs.Run.Rig.{After, Rig, Running, Setup, awaited, event_of, followed_by, told_line, told_lines, view_of}
use Rattle.rig_model.specs.Run.Run.{Begins, IsRun, Over, Place, Run, Runs, Waits, begun, cost_at, cost_in, goes, is_over, judged, opening, placed, planned, skipped, step, step_at, step_in, steps, unskipped, with_skips, within, written}
use Rattle.rig_model.specs.Run.Line.{budget_line}
use Rattle.rig_model.specs.Run.Serve.{after_put, deposit, ended_if, flushed, flushed_if, is_due, serve, serve_keys, served, with_fired, written as event_of_write}
use Rattle.rig_model.specs.Run.Step.{Stepped, after_event, chosen, costing, event_step, kept, resumed, rig_step, stepped, taken, task_at}
use Rattle.rig_model.specs.Run.Verdict.{reason_of}
use Rattle.rig_model.specs.declared.run.outcome.Outcome.{Outcome}
use Rattle.rig_model.specs.declared.run.outcome.Outcome.TheVariants as outcome
use Rattle.v_design.specs.Answers.{AreAlike}

-- a design of these parts
abbrev flat_of : List Signal → List Node → ℕ → List Process → Flat
flat_of signals nodes step_fs ps = record { signals = signals; nodes = nodes; processes = ps; step_fs = step_fs }

abbrev setup_of : List Function → List Signal → List Node → ℕ → Bool → List Process → Setup
setup_of functions signals nodes step_fs trace ps = record { functions = functions; flat = flat_of signals nodes step_fs ps; trace = trace }

-- ---- designs whose processes do the same, and that differ in nothing else

module _ (functions : List Function) (signals : List Signal) (nodes : List Node) (step_fs : ℕ) (trace : Bool) (ps qs : List Process) (same : procs_of ps ≡ procs_of qs) where
  abbrev p : Setup
  p = setup_of functions signals nodes step_fs trace ps

  abbrev q : Setup
  q = setup_of functions signals nodes step_fs trace qs

  line_same : (b : Bool) (time : ℕ) (told : Told) → told_line p b time told ≡ told_line q b time told
  line_same true time told = refl
  line_same false time told = refl

  told_same : (time : ℕ) (o : Option Told) → told_lines p time o ≡ told_lines q time o
  told_same time None = refl
  told_same time (Some told) = line_same trace time told

  put_same : (e : Event) (c : Rig) → after_put p e c ≡ after_put q e c
  put_same e c = ap (λ (lines : List (List ℕ)). let a : After = record { rig = counted e.fired c (serve_keys e.fired c.fired (with_fired e.fired (record c { sim = e.state }))); lines = lines } in a)
      (told_same c.sim.time e.told)

  write_same : (s : State) (keys : Keys) (sig : SigId) (act : Write) → event_of_write p s keys sig act ≡ event_of_write q s keys sig act
  write_same s keys sig (write.Plain bits) = ap (λ (procs : List Proc). put procs s keys sig bits) same
  write_same s keys sig (write.Force bits) = ap (λ (procs : List Proc). force procs s keys sig bits) same
  write_same s keys sig write.Freeze = ap (λ (procs : List Proc). force procs s keys sig (value_at s sig)) same
  write_same s keys sig write.Release = ap (λ (procs : List Proc). release procs (nets_of signals) s keys sig) same

  deposit_same : (sig : SigId) (act : Write) (c : Rig) → deposit p sig act c ≡ deposit q sig act c
  deposit_same sig act c =
      ap (λ (e : Event). after_put p e c) (write_same c.sim (set_of (awaited c)) sig act) ∙ put_same (event_of_write q c.sim (set_of (awaited c)) sig act) c

  flushed_same : (writes : List Staged) (c : Rig) → flushed p writes c ≡ flushed q writes c
  flushed_same [] c = refl
  flushed_same (w ∷ ws) c =
      ap (λ (a : After). followed_by a (flushed p ws)) (deposit_same w.sig w.act (record c { staged = ws }))
      ∙ ap (λ (b : After). let a : After = record { rig = b.rig; lines = (deposit q w.sig w.act (record c { staged = ws })).lines ++ b.lines } in a)
      (flushed_same ws (deposit q w.sig w.act (record c { staged = ws })).rig)

  flushed_if_same : (b : Bool) (c : Rig) → flushed_if p b c ≡ flushed_if q b c
  flushed_if_same true c = flushed_same c.staged c
  flushed_if_same false c = refl

  serve_same : (keys : List Key) (c : Rig) → serve p keys c ≡ serve q keys c
  serve_same keys c =
      ap (λ (a : After). followed_by (followed_by a (served keys c.fired)) (ended_if (is_due keys c.deadline))) (flushed_if_same (among ReadWrite keys) (with_fired keys c))

  event_same : (o : Option Event) (c : Rig) → after_event p o c ≡ after_event q o c
  event_same None c = refl
  event_same (Some e) c =
      ap (λ (a : After). let s : Stepped = record { rig = a.rig; lines = told_lines p c.sim.time e.told ++ a.lines; cost = 1 } in s) (serve_same e.fired (record c { sim = e.state }))
      ∙ ap (λ (lines : List (List ℕ)). let s : Stepped = record { rig = (serve q e.fired (record c { sim = e.state })).rig; lines = lines ++ (serve q e.fired (record c { sim = e.state })).lines; cost = 1 } in s)
      (told_same c.sim.time e.told)

  event_step_same : (c : Rig) → event_step p c ≡ event_step q c
  event_step_same c = ap (λ (procs : List Proc). after_event p (event procs c.sim (set_of (awaited c))) c) same ∙ event_same (event_of q c) c

  effect_same : (task : TaskNo) (t : Turned) (c : Rig) → effect p task t c ≡ effect q task t c
  effect_same task (turned.Await trig) c = refl
  effect_same task (turned.Stage sig act) c = refl
  effect_same task (turned.Put sig act) c =
      ap (λ (a : After). write_by (is_end c.sim.region) sig (followed_by a (gives_value task value.Absent)) c) (deposit_same sig act c)
  effect_same task (turned.Start func args give_way) c = refl
  effect_same task (turned.Kill other) c = refl
  effect_same task turned.NewEvent c = refl
  effect_same task (turned.SetEvent event) c = refl
  effect_same task (turned.ClearEvent event) c = refl
  effect_same task turned.NewLock c = refl
  effect_same task (turned.Release lock) c = refl
  effect_same task (turned.NewQueue bound) c = refl
  effect_same task (turned.PutNow queue item) c = refl
  effect_same task (turned.GetNow queue) c = refl
  effect_same task (turned.Draw low span) c = refl
  effect_same task (turned.Log level text) c = refl
  effect_same task (turned.Done v) c = refl
  effect_same task (turned.Raised fault) c = refl
  effect_same task turned.Spent c = refl

  effect_of_same : (task : TaskNo) (o : Option Turned) (c : Rig) → effect_of p task o c ≡ effect_of q task o c
  effect_of_same task None c = refl
  effect_of_same task (Some t) c = effect_same task t c

  stepped_same : (r : Running) (o : Option Task) (c : Rig) → stepped p r o c ≡ stepped q r o c
  stepped_same r None c = refl
  stepped_same r (Some task) c =
      let n = next functions task r.given (view_of p c) in
      ap (costing (next_cost task r.given)) (effect_of_same r.task n.turned (kept r.task n.task c))

  chosen_same : (o : Option Running) (ready : List Entry) (c : Rig) → chosen p o ready c ≡ chosen q o ready c
  chosen_same (Some r) ready c = stepped_same r (task_at r.task c.tasks) c
  chosen_same None (e ∷ es) c = stepped_same (taken c e) (task_at (taken c e).task (resumed e es c).tasks) (resumed e es c)
  chosen_same None [] c = event_step_same c

  rig_step_same : (c : Rig) → rig_step p c ≡ rig_step q c
  rig_step_same c = chosen_same c.running c.ready c

  -- ---- tests and runs

  test_same : (case : Case) (values : Answer (List Value)) (c : Rig) → with_test p case values c ≡ with_test q case values c
  test_same case (Ok values) c = refl
  test_same case (Err kind) c = refl

  begun_same : (cases : List Case) (c : Run) → begun p cases c ≡ begun q cases c
  begun_same [] c = refl
  begun_same (case ∷ cases) c = ap (λ (rig : Rig). record (begun p (case ∷ cases) c) { rig = counted [] c.rig rig }) (test_same case (values_of case.arguments) c.rig)

  reason_same : (case : Case) (o : Outcome) → reason_of p.flat case o ≡ reason_of q.flat case o
  reason_same case outcome.Normal = refl
  reason_same case (outcome.Raised fault) = refl
  reason_same case (outcome.ReadOnlyWrite sig) = refl
  reason_same case outcome.Stalled = refl

  step_in_same : (case : Case) (cases : List Case) (o : Option Outcome) (c : Run) → step_in p case cases o c ≡ step_in q case cases o c
  step_in_same case cases (Some o) c = ap (λ (reason : Option (List ℕ)). planned (unskipped cases) (with_skips (skipped cases) (judged reason case c))) (reason_same case o)
  step_in_same case cases None c = ap (λ (s : Stepped). within s c) (rig_step_same c.rig)

  step_at_same : (place : Place) (c : Run) → step_at p place c ≡ step_at q place c
  step_at_same (Begins cases) c = begun_same (unskipped cases) (with_skips (skipped cases) c)
  step_at_same (Runs case cases) c = step_in_same case cases c.rig.outcome c
  step_at_same (Waits cases) c = ap (λ (s : Stepped). placed cases (within s c)) (rig_step_same c.rig)
  step_at_same Over c = refl

  cost_in_same : (o : Option Outcome) (c : Run) → cost_in p o c ≡ cost_in q o c
  cost_in_same (Some o) c = refl
  cost_in_same None c = ap (λ (s : Stepped). s.cost) (rig_step_same c.rig)

  cost_same : (place : Place) (c : Run) → cost_at p place c ≡ cost_at q place c
  cost_same (Begins cases) c = refl
  cost_same (Runs case cases) c = cost_in_same c.rig.outcome c
  cost_same (Waits cases) c = ap (λ (s : Stepped). s.cost) (rig_step_same c.rig)
  cost_same Over c = refl

  goes_same : (budget : ℕ) (c : Run) → goes p budget c ≡ goes q budget c
  goes_same budget c = ap (λ (n : ℕ). not (is_over c.place) && nat_le (c.cost + n) budget) (cost_same c.place c)

  steps_same : (budget n : ℕ) (c : Run) → steps p budget n c ≡ steps q budget n c
  unfolding steps
  steps_same budget zero c = refl
  steps_same budget (suc n) c =
      ap (λ (b : Bool). if b then steps p budget n (step p c) else c) (goes_same budget c)
      ∙ ap (λ (d : Run). if goes q budget c then d else c) (steps_same budget n (step p c) ∙ ap (steps q budget n) (step_at_same c.place c))

  opening_same : (seed : ℕ) (cases : List Case) → opening p seed cases ≡ opening q seed cases
  opening_same seed cases =
      ap (λ (procs : List Proc).
      let s : State = record {
        signals = start_map signals;
        hidden = start_hidden signals;
        active = starters 0 procs;
        reports = [];
        due = [];
        later = [];
        delayed = [];
        time = 0;
        region = region.Begin;
      } in
      let r : Run = record { rig = emptied s (seeded seed) no_counts; place = Begins cases; lines = []; verdicts = []; cost = 0 } in r) same

  written_same : (budget : ℕ) (c : Run) → written p budget c ≡ written q budget c
  written_same budget c = ap (λ (b : Bool). if b then c.lines else (if is_over c.place then c.lines else c.lines ++ budget_line budget ∷ [])) (goes_same budget c)

  run_same : (seed : ℕ) (cases : List Case) (budget : ℕ) (c : Run) → IsRun p seed cases budget c → IsRun q seed cases budget c
  run_same seed cases budget c r = record {
    count = r.count;
    reached = r.reached ∙ steps_same budget r.count (opening p seed cases) ∙ ap (steps q budget r.count) (opening_same seed cases);
    stopped = sym (goes_same budget c) ∙ r.stopped;
  }

-- ---- designs that are alike

-- what holds of the setup of a design whose signals, nodes and step are those of another one holds where these are the other's own
moved : (functions : List Function) (trace : Bool) (a b : Flat) → AreAlike a b → (holds : Setup → Type 0)
    → holds (setup_of functions a.signals a.nodes a.step_fs trace b.processes) → holds (setup_of functions b.signals b.nodes b.step_fs trace b.processes)
moved functions trace a b alike holds h =
    subst (λ (step_fs : ℕ). holds (setup_of functions b.signals b.nodes step_fs trace b.processes)) alike.step
    (subst (λ (nodes : List Node). holds (setup_of functions b.signals nodes a.step_fs trace b.processes)) alike.nodes
    (subst (λ (signals : List Signal). holds (setup_of functions signals a.nodes a.step_fs trace b.processes)) alike.signals h))

pub alike_runs : (functions : List Function) (trace : Bool) (a b : Flat) → AreAlike a b → (seed : ℕ) (cases : List Case) (budget : ℕ) (c : Run)
    → IsRun (record { functions = functions; flat = a; trace = trace }) seed cases budget c → IsRun (record { functions = functions; flat = b; trace = trace }) seed cases budget c
alike_runs functions trace a b alike seed cases budget c r =
    moved functions trace a b alike (λ s. IsRun s seed cases budget c)
    (run_same functions a.signals a.nodes a.step_fs trace a.processes b.processes alike.processes seed cases budget c r)

pub alike_written : (functions : List Function) (trace : Bool) (a b : Flat) → AreAlike a b → (budget : ℕ) (c : Run)
    → written (record { functions = functions; flat = a; trace = trace }) budget c ≡ written (record { functions = functions; flat = b; trace = trace }) budget c
alike_written functions trace a b alike budget c =
    moved functions trace a b alike (λ s. written (record { functions = functions; flat = a; trace = trace }) budget c ≡ written s budget c)
    (written_same functions a.signals a.nodes a.step_fs trace a.processes b.processes alike.processes budget c)
