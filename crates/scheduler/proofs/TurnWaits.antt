-- What a step between two tests leaves.
use Rattle.std.proofs.Common.{◌≡◌, ℕ, Bool, true, false, List, [], ◌∷◌, ◌++◌, Option, None, Some, refl, ap, sym, subst, ◌∙◌}
use Rattle.gpi.specs.State.{State}
use Rattle.gpi.specs.Keys.{among, set_of}
use Rattle.gpi.specs.Events.{Event}
use Rattle.gpi.specs.declared.types.Counts.{Counts}
use Rattle.gpi.specs.declared.types.Key.{Key}
use Rattle.gpi.specs.declared.types.Key.TheVariants.{ReadWrite}
use Rattle.run_view.specs.RandomStream.Generator.{Generator}
use Rattle.await_tree.specs.WaitList.Counts.{counts_after}
use Rattle.rig_model.specs.Run.Rig.{Rig, Setup, event_of, procs, awaited}
use Rattle.rig_model.specs.Run.Counts.{counted}
use Rattle.rig_model.specs.Run.Serve.{serve, serve_keys, flushed_if, not_due}
use Rattle.rig_model.specs.Run.Step.{Stepped, rig_step, after_event}
use Rattle.rig_model.proofs.RunLemmas.Comes.{is_event, event_is}
use Rattle.scheduler.specs.BetweenTests.{between, IsBetween}

-- the configuration is one between two tests, with or without a start that is planned
pub record IsAfter (c : Rig) : Type 0 where
  pub sim : State
  pub random : Generator
  pub counts : Counts
  pub planned : Option ℕ
  pub is : c ≡ between sim random counts planned []

-- where a start is planned there is an event
has_event : (setup : Setup) (sim : State) (random : Generator) (counts : Counts) (time : ℕ) → is_event (event_of setup (between sim random counts (Some time) [])) ≡ true
has_event setup sim random counts time = event_is (procs setup) sim (set_of (awaited (between sim random counts (Some time) []))) time refl

-- keys are served where nothing waits
serve_keys_between : (keys others : List Key) (sim : State) (random : Generator) (counts : Counts) (planned : Option ℕ) (fired : List Key)
    → serve_keys keys others (between sim random counts planned fired) ≡ between sim random counts planned others
serve_keys_between [] others sim random counts planned fired = refl
serve_keys_between (k ∷ ks) others sim random counts planned fired = serve_keys_between ks others sim random counts planned (others ++ ks)

flush_is : (b : Bool) (setup : Setup) (sim : State) (random : Generator) (counts : Counts) (planned : Option ℕ) (fired : List Key)
    → (flushed_if setup b (between sim random counts planned fired)).rig ≡ between sim random counts planned fired
flush_is true setup sim random counts planned fired = refl
flush_is false setup sim random counts planned fired = refl

serve_between : (setup : Setup) (keys : List Key) (sim : State) (random : Generator) (counts : Counts) (time : ℕ)
    → IsAfter (serve setup keys (between sim random counts (Some time) [])).rig
serve_between setup keys sim random counts time =
    let planned : Option ℕ = not_due keys (Some time) in
    let c : Rig = between sim random counts planned keys in
    let d : Rig = between sim random counts planned [] in
    record {
      sim = sim;
      random = random;
      planned = planned;
      counts = counts_after keys (awaited c) (awaited d) counts;
      is = ap (λ (x : Rig). counted keys x (serve_keys keys [] x)) (flush_is (among ReadWrite keys) setup sim random counts planned keys)
          ∙ ap (λ (x : Rig). counted keys c x) (serve_keys_between keys [] sim random counts planned keys);
    }

-- an event between two tests costs 1, and leaves such a configuration
pub record Between (s : Stepped) : Type 0 where
  pub costs : s.cost ≡ 1
  pub after : IsAfter s.rig

event_between : (setup : Setup) (o : Option Event) (sim : State) (random : Generator) (counts : Counts) (time : ℕ) → is_event o ≡ true
    → Between (after_event setup o (between sim random counts (Some time) []))
event_between setup None sim random counts time h = cc
event_between setup (Some e) sim random counts time h = record { costs = refl; after = serve_between setup e.fired e.state random counts time }

pub step_waits : (setup : Setup) (c : Rig) → IsBetween c → Between (rig_step setup c)
step_waits setup c b =
    subst (λ (x : Rig). Between (rig_step setup x)) (sym b.is)
    (event_between setup (event_of setup (between b.sim b.random b.counts (Some b.time) [])) b.sim b.random b.counts b.time (has_event setup b.sim b.random b.counts b.time))
