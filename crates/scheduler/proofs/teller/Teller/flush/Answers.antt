use Rattle.std.proofs.Common.{◌∙◌, refl, sym, ap, subst, ℕ, List, [], ◌∷◌}
use Rattle.port_io.specs.Means.{sink_means}
use Rattle.gpi.specs.State.{is_end}
use Rattle.gpi.specs.declared.types.Counts.{Counts}
use Rattle.gpi.specs.declared.types.Key.TheVariants.{ReadWrite}
use Rattle.run_view.specs.declared.signal_port.staged.Staged.{Staged}
use Rattle.rig_model.specs.Run.Serve.{deposit, flushed}
use Rattle.rig_model.specs.Parts.Queue.{Queue}
use Rattle.run_state.specs.Queue.Fits.{queue_of}
use Rattle.scheduler.specs.Amid.{IsAmid, Serves, StandsAmid}
use Rattle.scheduler.specs.Setups.{setup_of}
use Rattle.scheduler.proofs.FlushLaws.{amid_unstaged, first_sound, flushing_begins, flushing_ends, flushing_more, rw_key, some_staged}
use Rattle.scheduler.proofs.teller.Teller.flush.Goals as goal

pub writes-init : goal.writes-init
writes-init g c = record {
  loaded = c.requires.loaded;
  held = c.requires.held;
  region = refl;
  room = refl;
  deadline = refl;
  planned = refl;
  flushing = λ functions counts s. flushing_begins (sink_means g.O.Sink) c.args.self.now.flat.now c.args.queue.now.ready.room (setup_of functions c.args.self.now) counts (g.W.Awaits.held c.args.queue.now.awaits) (queue_of g.W.Awaits.waiting c.args.queue.now) (g.K.Gpi.content c.args.kernel.now) c.args.fault c.args.out.now s;
}

pub writes-preserved : goal.writes-preserved
writes-preserved g c = record {
  loaded = c.put_out-fault.ensures.loaded;
  held = λ h. c.put_out-fault.ensures.held ReadWrite ∙ c.writes.invariant.held (some_staged c.writes.queue.staged c.staged_of-write.result c.take_first.new.self (c.in-Some.ensures ∙ ap (λ (w : Staged). w ∷ c.take_first.new.self) (sym c.staged_of-write.ensures)));
  region = c.put_out-fault.ensures.region ∙ c.writes.invariant.region;
  room = c.put_out-fault.ensures.room ∙ c.writes.invariant.room;
  deadline = c.put_out-fault.ensures.deadline ∙ c.writes.invariant.deadline;
  planned = c.put_out-fault.ensures.planned ∙ c.writes.invariant.planned;
  flushing = λ functions counts s.
      flushing_more (sink_means g.O.Sink) c.args.self.now.flat.now c.args.queue.now.ready.room (setup_of functions c.args.self.now) (flushed (setup_of functions c.args.self.now) c.args.queue.now.staged) counts (queue_of g.W.Awaits.waiting c.args.queue.now) (g.K.Gpi.content c.args.kernel.now) c.args.fault c.args.out.now
      (g.W.Awaits.held c.writes.queue.awaits) (queue_of g.W.Awaits.waiting c.writes.queue) (g.K.Gpi.content c.writes.kernel) c.writes.fault c.writes.out (c.writes.invariant.flushing functions counts s) c.staged_of-write.result c.take_first.new.self (c.in-Some.ensures ∙ ap (λ (w : Staged). w ∷ c.take_first.new.self) (sym c.staged_of-write.ensures))
      (g.W.Awaits.held c.put_out-fault.new.queue.awaits) (queue_of g.W.Awaits.waiting c.put_out-fault.new.queue) (g.K.Gpi.content c.put_out-fault.new.kernel) c.put_out-fault.result c.put_out-fault.new.out c.put_out-fault.ensures.staged
      (subst (λ (room : ℕ). (n : Counts) → StandsAmid c.args.self.now.flat.now room rw_key n (g.W.Awaits.held c.writes.queue.awaits) (let q : Queue = record (queue_of g.W.Awaits.waiting c.writes.queue) { staged = c.take_first.new.self } in q) (g.K.Gpi.content c.writes.kernel)
      → Serves (sink_means g.O.Sink) (deposit (setup_of functions c.args.self.now) c.staged_of-write.result.sig c.staged_of-write.result.act) c.args.self.now.flat.now room rw_key n
      (let q : Queue = record (queue_of g.W.Awaits.waiting c.writes.queue) { staged = c.take_first.new.self } in q) (g.K.Gpi.content c.writes.kernel) (g.W.Awaits.held c.put_out-fault.new.queue.awaits) (queue_of g.W.Awaits.waiting c.put_out-fault.new.queue) (g.K.Gpi.content c.put_out-fault.new.kernel) c.writes.fault c.writes.out c.put_out-fault.result c.put_out-fault.new.out)
      c.writes.invariant.room (λ n t. c.put_out-fault.ensures.serves functions rw_key n t));
}

pub put_out-fault-requires-clause-amid : goal.put_out-fault-requires-clause-amid
put_out-fault-requires-clause-amid g c =
    let m = c.writes.invariant.flushing [] c.requires.amid.counts c.requires.amid.stands in
    amid_unstaged c.args.self.now.flat.now c.writes.queue.ready.room (g.W.Awaits.held c.writes.queue.awaits) (queue_of g.W.Awaits.waiting c.writes.queue) (g.K.Gpi.content c.writes.kernel) c.staged_of-write.result c.take_first.new.self
    (subst (λ (room : ℕ). IsAmid c.args.self.now.flat.now room rw_key (g.W.Awaits.held c.writes.queue.awaits) (queue_of g.W.Awaits.waiting c.writes.queue) (g.K.Gpi.content c.writes.kernel)) (sym c.writes.invariant.room) (record { counts = m.counts; stands = m.stands }))
    (c.in-Some.ensures ∙ ap (λ (w : Staged). w ∷ c.take_first.new.self) (sym c.staged_of-write.ensures))
    (c.writes.invariant.held (some_staged c.writes.queue.staged c.staged_of-write.result c.take_first.new.self (c.in-Some.ensures ∙ ap (λ (w : Staged). w ∷ c.take_first.new.self) (sym c.staged_of-write.ensures))))

pub put_out-fault-requires-clause-open : goal.put_out-fault-requires-clause-open
put_out-fault-requires-clause-open g c = ap is_end c.writes.invariant.region ∙ c.requires.open

pub put_out-fault-requires-clause-sound : goal.put_out-fault-requires-clause-sound
put_out-fault-requires-clause-sound g c =
    let m = c.writes.invariant.flushing [] c.requires.amid.counts c.requires.amid.stands in
    (first_sound c.args.self.now.flat.now c.writes.queue.staged c.staged_of-write.result c.take_first.new.self m.stands.writes (c.in-Some.ensures ∙ ap (λ (w : Staged). w ∷ c.take_first.new.self) (sym c.staged_of-write.ensures))).0

pub returns-clause-serves : goal.returns-clause-serves
returns-clause-serves g c = λ functions counts s.
    subst (λ (ws : List Staged). Serves (sink_means g.O.Sink) (flushed (setup_of functions c.args.self.now) c.args.queue.now.staged) c.args.self.now.flat.now c.args.queue.now.ready.room rw_key counts (queue_of g.W.Awaits.waiting c.args.queue.now) (g.K.Gpi.content c.args.kernel.now)
    (g.W.Awaits.held c.writes.queue.awaits) (let q : Queue = record (queue_of g.W.Awaits.waiting c.writes.queue) { staged = ws } in q) (g.K.Gpi.content c.writes.kernel) c.args.fault c.args.out.now c.writes.fault c.writes.out)
    (c.in_default.ensures.0 ∙ sym c.in_default.ensures.1)
    (flushing_ends (sink_means g.O.Sink) c.args.self.now.flat.now c.args.queue.now.ready.room (setup_of functions c.args.self.now) (flushed (setup_of functions c.args.self.now) c.args.queue.now.staged) counts (queue_of g.W.Awaits.waiting c.args.queue.now) (g.K.Gpi.content c.args.kernel.now) c.args.fault c.args.out.now
    (g.W.Awaits.held c.writes.queue.awaits) (queue_of g.W.Awaits.waiting c.writes.queue) (g.K.Gpi.content c.writes.kernel) c.writes.fault c.writes.out (c.writes.invariant.flushing functions counts s) c.in_default.ensures.0)
