use Rattle.std.proofs.Common.{◌≡◌, List, true, ◌∷◌, [], length}
use Rattle.port_io.specs.Means.{sink_means}
use Rattle.gpi.specs.Keys.{among}
use Rattle.gpi.specs.declared.types.Counts.{Counts}
use Rattle.gpi.specs.declared.types.Key.TheVariants.{ReadWrite}
use Rattle.test_meaning.specs.Body.BodyTrees.{Function}
use Rattle.rig_model.specs.Run.Rig.{is_any}
use Rattle.rig_model.specs.Run.Serve.{flushed}
use Rattle.run_state.specs.Queue.Fits.{queue_of}
use Rattle.scheduler.specs.Amid.{StandsAmid}
use Rattle.scheduler.specs.Setups.{setup_of}
use Rattle.scheduler.proofs.FlushLaws.{Flushing}
use Rattle.scheduler.proofs.teller.Teller.flush.Given as goal

abbrev pub invariant-writes : goal.invariant-writes
invariant-writes g l = record {
  loaded : g.K.Gpi.is_loaded l.kernel;
  held : is_any l.queue.staged ≡ true → among ReadWrite (g.W.Awaits.held l.queue.awaits) ≡ true;
  region : (g.K.Gpi.content l.kernel).state.region ≡ (g.K.Gpi.content l.fn.kernel).state.region;
  room : l.queue.ready.room ≡ l.fn.queue.ready.room;
  deadline : l.queue.deadline ≡ l.fn.queue.deadline;
  planned : l.queue.planned ≡ l.fn.queue.planned;
  flushing : (functions : List Function) (counts : Counts)
      → StandsAmid l.self.flat.now l.fn.queue.ready.room (ReadWrite ∷ []) counts (g.W.Awaits.held l.fn.queue.awaits) (queue_of g.W.Awaits.waiting l.fn.queue) (g.K.Gpi.content l.fn.kernel)
      → Flushing (sink_means g.O.Sink) l.self.flat.now l.fn.queue.ready.room (setup_of functions l.self) (flushed (setup_of functions l.self) l.fn.queue.staged) counts
      (queue_of g.W.Awaits.waiting l.fn.queue) (g.K.Gpi.content l.fn.kernel) l.fn.fault l.fn.out
      (g.W.Awaits.held l.queue.awaits) (queue_of g.W.Awaits.waiting l.queue) (g.K.Gpi.content l.kernel) l.fault l.out;
}

abbrev pub decreases-writes : goal.decreases-writes
decreases-writes g l = length l.queue.staged
