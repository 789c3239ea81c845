-- The configuration that a simulator stands for, known from an engine's that fits it.
use Rattle.std.proofs.Common.{◌≡◌, ℕ, Bool, true, false, not, List, [], Option, None, refl, ap, sym, subst, ◌∙◌}
use Rattle.std.specs.Prelude.{◌&&◌}
use Rattle.gpi.specs.Content.{Content}
use Rattle.gpi.specs.Keys.{Keys, among}
use Rattle.gpi.specs.State.{State}
use Rattle.gpi.specs.declared.types.Counts.{Counts}
use Rattle.gpi.specs.declared.types.Key.{Key}
use Rattle.run_view.specs.RandomStream.Generator.{Generator}
use Rattle.run_view.specs.declared.signal_port.staged.Staged.{Staged}
use Rattle.await_tree.specs.WaitList.Keys.{AreAlike, AreKeys}
use Rattle.await_tree.specs.WaitList.Waiting.{Waiting, named, awaited_keys, held_keys}
use Rattle.rig_model.specs.Run.Case.{emptied}
use Rattle.rig_model.specs.Run.Rig.{Rig, Setup, awaited, is_any}
use Rattle.rig_model.specs.Parts.Fits.{StandsFor}
use Rattle.rig_model.specs.Parts.Queue.{queue_held}
use Rattle.rig_model.specs.Parts.Steps.{SameRest, SameTasks, behind}
use Rattle.run_state.proofs.QueueLemmas.KeyLaws.{among_test, named_alike}
use Rattle.run_state.specs.Queue.Fits.{queue_of}
use Rattle.scheduler.specs.Parts.{Means}
use Rattle.scheduler.specs.Engine.{rig_of, setup_of}
use Rattle.scheduler.specs.Fits.{FitsKernel}
use Rattle.scheduler.specs.declared.engine.Engine.{Engine}
use Rattle.command.specs.Regression.Stages.{IsEmpty}

and_true : (b : Bool) → (b && true) ≡ b
and_true true = refl
and_true false = refl

-- the registered keys are the awaited ones, where those are held that are to be
keys_awaited : (keys : Keys) (waiting : List Waiting) (held other : List Key) → AreKeys keys (named waiting held) → AreAlike held other → AreKeys keys (awaited_keys [] waiting other)
keys_awaited keys waiting held other h a k =
    h k
    ∙ named_alike waiting held other a k
    ∙ sym (among_test k (λ (key : Key). not (among key [])) (named waiting other) ∙ and_true (among k (named waiting other)))

-- what fits stands for its configuration
pub fits_stands : {M W F : Type 0} (m : Means M W F) (e : Engine M W F) (content : Content) → FitsKernel m e content → StandsFor (setup_of m e) content (rig_of m e content)
fits_stands m e content f =
    let q = f.test.queue.queue in
    record {
      procs_are = q.procs_are;
      nets_are = q.nets_are;
      state_is = refl;
      keys_are = keys_awaited content.keys (m.waiting e.test.queue.awaits) (m.held e.test.queue.awaits) (queue_held (queue_of m.waiting e.test.queue)) q.keys_are q.held_are;
      counts_are = refl;
    }

-- ---- other configurations

same_awaited : (d e : Rig) → SameRest d e → awaited d ≡ awaited e
same_awaited d e r = rw (r.waiting, r.staged, r.fired, r.deadline, r.planned) refl

-- it stands for another configuration that agrees with that one in all that stays
pub stands_rest : (setup : Setup) (content : Content) (d e : Rig) → SameRest d e → StandsFor setup content e → StandsFor setup content d
stands_rest setup content d e r s = record {
  procs_are = s.procs_are;
  nets_are = s.nets_are;
  state_is = s.state_is ∙ sym r.sim;
  keys_are = subst (AreKeys content.keys) (sym (same_awaited d e r)) s.keys_are;
  counts_are = s.counts_are ∙ ap (λ (k : Counts). k) (sym r.counts);
}

-- under the same setup
pub stands_as : (setup' setup : Setup) (content : Content) (c : Rig) → setup' ≡ setup → StandsFor setup' content c → StandsFor setup content c
stands_as setup' setup content c s k = subst (λ (x : Setup). StandsFor x content c) s k

pub same_rest : (d e : Rig) → d ≡ e → SameRest d e
same_rest d e h = record {
  sim = ap (λ (c : Rig). c.sim) h;
  endings = ap (λ (c : Rig). c.endings) h;
  waiting = ap (λ (c : Rig). c.waiting) h;
  objects = ap (λ (c : Rig). c.objects) h;
  queues = ap (λ (c : Rig). c.queues) h;
  staged = ap (λ (c : Rig). c.staged) h;
  fired = ap (λ (c : Rig). c.fired) h;
  deadline = ap (λ (c : Rig). c.deadline) h;
  planned = ap (λ (c : Rig). c.planned) h;
  random = ap (λ (c : Rig). c.random) h;
  counts = ap (λ (c : Rig). c.counts) h;
}

-- where nothing of a test is left no task is lost
pub same_tasks : (d e : Rig) → d ≡ e → IsEmpty e → SameTasks d e
same_tasks d e h empty =
    let none : d ≡ emptied e.sim e.random e.counts = h ∙ empty in
    record {
      tasks = ap (λ (c : Rig). c.tasks) h;
      ready = ap (λ (c : Rig). behind c.running c.ready) none ∙ sym (ap (λ (c : Rig). c.ready) empty);
    }

-- ---- where nothing of a test is left

pub empty_of : (c : Rig) (sim : State) (random : Generator) (counts : Counts) → c ≡ emptied sim random counts → IsEmpty c
empty_of c sim random counts h =
    let s : c.sim ≡ sim = ap (λ (d : Rig). d.sim) h in
    let r : c.random ≡ random = ap (λ (d : Rig). d.random) h in
    let k : c.counts ≡ counts = ap (λ (d : Rig). d.counts) h in
    h ∙ rw (s, r, k) refl

held_none : (staged : List Staged) (deadline planned : Option ℕ) → staged ≡ [] → deadline ≡ None → planned ≡ None → held_keys (is_any staged) deadline planned ≡ []
held_none staged deadline planned s d p = rw (s, d, p) refl

-- no key is registered
pub none_registered : {M W F : Type 0} (m : Means M W F) (e : Engine M W F) (content : Content) → FitsKernel m e content → IsEmpty (rig_of m e content) → AreKeys content.keys []
none_registered m e content f empty k =
    let q = f.test.queue.queue in
    let waiting : m.waiting e.test.queue.awaits ≡ [] = ap (λ (c : Rig). c.waiting) empty in
    let none : queue_held (queue_of m.waiting e.test.queue) ≡ []
    = held_none e.test.queue.staged e.test.queue.deadline e.test.queue.planned (ap (λ (c : Rig). c.staged) empty) (ap (λ (c : Rig). c.deadline) empty) (ap (λ (c : Rig). c.planned) empty) in
    q.keys_are k
    ∙ ap (λ (ws : List Waiting). among k (named ws (m.held e.test.queue.awaits))) waiting
    ∙ q.held_are k
    ∙ ap (among k) none
