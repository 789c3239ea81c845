-- A means of proof: what a write that is done at once, and an event, lead to, whatever the rest of the configuration is, for the proofs of
-- the runner's turns.
use Rattle.std.specs.Prelude.{◌≡◌, Bool, List, Option, Some}
use Rattle.port_io.specs.Means.{SinkMeans, PutsTo}
use Rattle.port_io.specs.declared.ports.SinkFault.{SinkFault}
use Rattle.gpi.specs.Content.{Content}
use Rattle.gpi.specs.Events.{Event}
use Rattle.run_view.specs.declared.signal_port.staged.Staged.{Staged}
use Rattle.test_meaning.specs.Body.BodyTrees.{Function}
use Rattle.rig_model.specs.Run.Rig.{Rig, event_of}
use Rattle.rig_model.specs.Run.Serve.{deposit, ended_if}
use Rattle.rig_model.specs.Run.Step.{evented}
use Rattle.rig_model.specs.Parts.Queue.{Queue, Leads, rig_at}
use Rattle.scheduler.specs.declared.teller.Teller.{Teller}
use Rattle.scheduler.specs.Setups.{setup_of}

-- A signal was written at once: that leads from the one queue and simulator to the other, and its lines were put.
pub record IsPut {O : Type 0} (sink : SinkMeans O) (t : Teller) (write : Staged) (q : Queue) (content : Content) (q' : Queue) (content' : Content)
    (out : O) (fault : Option SinkFault) (out' : O) : Type 0 where
  pub leads : (functions : List Function) → Leads (λ c. (deposit (setup_of functions t) write.sig write.act c).rig) q content q' content'
  pub puts : (functions : List Function) (c : Rig) → PutsTo sink out (deposit (setup_of functions t) write.sig write.act (rig_at q content c)).lines fault out'

-- The next event of the simulator was done, and what it fired was served: that leads from the one queue and simulator to the other, its lines were put,
-- and the test is given up where its time was over.
pub record IsEvented {O : Type 0} (sink : SinkMeans O) (t : Teller) (q : Queue) (content : Content) (is_late : Bool) (q' : Queue) (content' : Content)
    (out : O) (fault : Option SinkFault) (out' : O) : Type 0 where
  pub event : Event
  pub next : (functions : List Function) (c : Rig) → event_of (setup_of functions t) (rig_at q content c) ≡ Some event
  pub leads : (functions : List Function) (c : Rig)
      → (evented (setup_of functions t) event (rig_at q content c)).rig ≡ (ended_if is_late (rig_at q' content' c)).rig
  pub puts : (functions : List Function) (c : Rig) → PutsTo sink out (evented (setup_of functions t) event (rig_at q content c)).lines fault out'
