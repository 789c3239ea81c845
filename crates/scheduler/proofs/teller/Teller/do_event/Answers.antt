use Rattle.std.proofs.Common.{◌∙◌, []}
use Rattle.port_io.specs.Means.{sink_means}
use Rattle.gpi.specs.Keys.{among}
use Rattle.gpi.specs.declared.types.Key.TheVariants.{ReadWrite}
use Rattle.await_tree.specs.WaitList.Waiting.{fired_keys}
use Rattle.rig_model.specs.Run.Serve.{flushed_if}
use Rattle.run_state.specs.Queue.Fits.{queue_of}
use Rattle.scheduler.specs.Setups.{setup_of}
use Rattle.scheduler.proofs.EventLaws.{advances_of, event_alone, event_amid, event_but, event_done, event_fired, event_fits, event_held, event_open, event_still, from_taken}
use Rattle.scheduler.proofs.teller.Teller.do_event.Goals as goal

pub flush_if-fault-requires-clause-amid : goal.flush_if-fault-requires-clause-amid
flush_if-fault-requires-clause-amid g c =
    rw (c.take_due-is_late.ensures.left, c.take_due.ensures.left)
    (record {
      counts = (g.K.Gpi.content c.args.kernel.now).counts;
      stands = event_amid c.args.self.now.flat.now c.args.queue.now.ready.room (g.W.Awaits.held c.args.queue.now.awaits) (queue_of g.W.Awaits.waiting c.args.queue.now) (g.K.Gpi.content c.args.kernel.now) (g.K.Gpi.content c.advance.new.self)
          c.requires.fits.queue c.requires.fits.still c.in-Moved.moved (advances_of (g.K.Gpi.content c.args.kernel.now) c.in-Moved.moved (g.K.Gpi.content c.advance.new.self) (rw c.in-Moved.is at c.in_ok-moved.ensures.is)) c.advance.ensures.widths;
    })

pub flush_if-fault-requires-clause-held : goal.flush_if-fault-requires-clause-held
flush_if-fault-requires-clause-held g c = event_held c.args.self.now.flat.now c.args.queue.now.ready.room (g.W.Awaits.held c.args.queue.now.awaits) (queue_of g.W.Awaits.waiting c.args.queue.now) (g.K.Gpi.content c.args.kernel.now) (g.K.Gpi.content c.advance.new.self)
    c.requires.fits.queue c.requires.fits.still c.in-Moved.moved (advances_of (g.K.Gpi.content c.args.kernel.now) c.in-Moved.moved (g.K.Gpi.content c.advance.new.self) (rw c.in-Moved.is at c.in_ok-moved.ensures.is)) c.advance.ensures.widths

pub flush_if-fault-requires-clause-open : goal.flush_if-fault-requires-clause-open
flush_if-fault-requires-clause-open g c = event_open c.args.self.now.flat.now c.args.queue.now.ready.room (g.W.Awaits.held c.args.queue.now.awaits) (queue_of g.W.Awaits.waiting c.args.queue.now) (g.K.Gpi.content c.args.kernel.now) (g.K.Gpi.content c.advance.new.self)
    c.requires.fits.queue c.requires.fits.still c.in-Moved.moved (advances_of (g.K.Gpi.content c.args.kernel.now) c.in-Moved.moved (g.K.Gpi.content c.advance.new.self) (rw c.in-Moved.is at c.in_ok-moved.ensures.is)) c.advance.ensures.widths

pub flush_if-fault-requires-clause-alone : goal.flush_if-fault-requires-clause-alone
flush_if-fault-requires-clause-alone g c = event_alone c.args.self.now.flat.now c.args.queue.now.ready.room (g.W.Awaits.held c.args.queue.now.awaits) (queue_of g.W.Awaits.waiting c.args.queue.now) (g.K.Gpi.content c.args.kernel.now) (g.K.Gpi.content c.advance.new.self)
    c.requires.fits.queue c.requires.fits.still c.in-Moved.moved (advances_of (g.K.Gpi.content c.args.kernel.now) c.in-Moved.moved (g.K.Gpi.content c.advance.new.self) (rw c.in-Moved.is at c.in_ok-moved.ensures.is)) c.advance.ensures.widths

pub fire-requires-clause-room : goal.fire-requires-clause-room
fire-requires-clause-room g c =
    let s = from_taken (sink_means g.O.Sink) (flushed_if (setup_of [] c.args.self.now) (among ReadWrite (fired_keys c.in-Moved.moved.fired))) c.args.self.now.flat.now c.args.queue.now.ready.room (fired_keys c.in-Moved.moved.fired) (g.K.Gpi.content c.args.kernel.now).counts (g.W.Awaits.held c.args.queue.now.awaits) (queue_of g.W.Awaits.waiting c.args.queue.now)
    c.take_due-is_late.new.time c.take_due.new.time (g.K.Gpi.content c.advance.new.self) (g.W.Awaits.held c.flush_if-fault.new.queue.awaits) (queue_of g.W.Awaits.waiting c.flush_if-fault.new.queue) (g.K.Gpi.content c.flush_if-fault.new.kernel) c.tell-told.result c.tell-told.new.out c.flush_if-fault.result c.flush_if-fault.new.out
    c.take_due-is_late.ensures.left c.take_due.ensures.left (c.flush_if-fault.ensures.serves [] (g.K.Gpi.content c.args.kernel.now).counts) (event_amid c.args.self.now.flat.now c.args.queue.now.ready.room (g.W.Awaits.held c.args.queue.now.awaits) (queue_of g.W.Awaits.waiting c.args.queue.now) (g.K.Gpi.content c.args.kernel.now) (g.K.Gpi.content c.advance.new.self)
    c.requires.fits.queue c.requires.fits.still c.in-Moved.moved (advances_of (g.K.Gpi.content c.args.kernel.now) c.in-Moved.moved (g.K.Gpi.content c.advance.new.self) (rw c.in-Moved.is at c.in_ok-moved.ensures.is)) c.advance.ensures.widths) in
    rw c.flush_if-fault.ensures.room s.stands.room_is

pub fire-requires-clause-fired : goal.fire-requires-clause-fired
fire-requires-clause-fired g c =
    let s = from_taken (sink_means g.O.Sink) (flushed_if (setup_of [] c.args.self.now) (among ReadWrite (fired_keys c.in-Moved.moved.fired))) c.args.self.now.flat.now c.args.queue.now.ready.room (fired_keys c.in-Moved.moved.fired) (g.K.Gpi.content c.args.kernel.now).counts (g.W.Awaits.held c.args.queue.now.awaits) (queue_of g.W.Awaits.waiting c.args.queue.now)
    c.take_due-is_late.new.time c.take_due.new.time (g.K.Gpi.content c.advance.new.self) (g.W.Awaits.held c.flush_if-fault.new.queue.awaits) (queue_of g.W.Awaits.waiting c.flush_if-fault.new.queue) (g.K.Gpi.content c.flush_if-fault.new.kernel) c.tell-told.result c.tell-told.new.out c.flush_if-fault.result c.flush_if-fault.new.out
    c.take_due-is_late.ensures.left c.take_due.ensures.left (c.flush_if-fault.ensures.serves [] (g.K.Gpi.content c.args.kernel.now).counts) (event_amid c.args.self.now.flat.now c.args.queue.now.ready.room (g.W.Awaits.held c.args.queue.now.awaits) (queue_of g.W.Awaits.waiting c.args.queue.now) (g.K.Gpi.content c.args.kernel.now) (g.K.Gpi.content c.advance.new.self)
    c.requires.fits.queue c.requires.fits.still c.in-Moved.moved (advances_of (g.K.Gpi.content c.args.kernel.now) c.in-Moved.moved (g.K.Gpi.content c.advance.new.self) (rw c.in-Moved.is at c.in_ok-moved.ensures.is)) c.advance.ensures.widths) in
    event_fired c.args.self.now.flat.now c.args.queue.now.ready.room (g.W.Awaits.held c.args.queue.now.awaits) (queue_of g.W.Awaits.waiting c.args.queue.now) (g.K.Gpi.content c.args.kernel.now) (g.K.Gpi.content c.advance.new.self)
    c.requires.fits.queue c.requires.fits.still c.in-Moved.moved (advances_of (g.K.Gpi.content c.args.kernel.now) c.in-Moved.moved (g.K.Gpi.content c.advance.new.self) (rw c.in-Moved.is at c.in_ok-moved.ensures.is)) c.advance.ensures.widths
    s.after (g.W.Awaits.held c.flush_if-fault.new.queue.awaits) (queue_of g.W.Awaits.waiting c.flush_if-fault.new.queue) (g.K.Gpi.content c.flush_if-fault.new.kernel) s.stands (rw c.in-Moved.is at c.in_ok-moved.ensures.told)

pub fire-requires-clause-keys : goal.fire-requires-clause-keys
fire-requires-clause-keys g c =
    let s = from_taken (sink_means g.O.Sink) (flushed_if (setup_of [] c.args.self.now) (among ReadWrite (fired_keys c.in-Moved.moved.fired))) c.args.self.now.flat.now c.args.queue.now.ready.room (fired_keys c.in-Moved.moved.fired) (g.K.Gpi.content c.args.kernel.now).counts (g.W.Awaits.held c.args.queue.now.awaits) (queue_of g.W.Awaits.waiting c.args.queue.now)
    c.take_due-is_late.new.time c.take_due.new.time (g.K.Gpi.content c.advance.new.self) (g.W.Awaits.held c.flush_if-fault.new.queue.awaits) (queue_of g.W.Awaits.waiting c.flush_if-fault.new.queue) (g.K.Gpi.content c.flush_if-fault.new.kernel) c.tell-told.result c.tell-told.new.out c.flush_if-fault.result c.flush_if-fault.new.out
    c.take_due-is_late.ensures.left c.take_due.ensures.left (c.flush_if-fault.ensures.serves [] (g.K.Gpi.content c.args.kernel.now).counts) (event_amid c.args.self.now.flat.now c.args.queue.now.ready.room (g.W.Awaits.held c.args.queue.now.awaits) (queue_of g.W.Awaits.waiting c.args.queue.now) (g.K.Gpi.content c.args.kernel.now) (g.K.Gpi.content c.advance.new.self)
    c.requires.fits.queue c.requires.fits.still c.in-Moved.moved (advances_of (g.K.Gpi.content c.args.kernel.now) c.in-Moved.moved (g.K.Gpi.content c.advance.new.self) (rw c.in-Moved.is at c.in_ok-moved.ensures.is)) c.advance.ensures.widths) in
    event_but c.args.self.now.flat.now c.args.queue.now.ready.room (g.W.Awaits.held c.args.queue.now.awaits) (queue_of g.W.Awaits.waiting c.args.queue.now) (g.K.Gpi.content c.args.kernel.now) (g.K.Gpi.content c.advance.new.self)
    c.requires.fits.queue c.requires.fits.still c.in-Moved.moved (advances_of (g.K.Gpi.content c.args.kernel.now) c.in-Moved.moved (g.K.Gpi.content c.advance.new.self) (rw c.in-Moved.is at c.in_ok-moved.ensures.is)) c.advance.ensures.widths
    s.after (g.W.Awaits.held c.flush_if-fault.new.queue.awaits) (queue_of g.W.Awaits.waiting c.flush_if-fault.new.queue) (g.K.Gpi.content c.flush_if-fault.new.kernel) s.stands

pub returns-clause-fits : goal.returns-clause-fits
returns-clause-fits g c =
    let s = from_taken (sink_means g.O.Sink) (flushed_if (setup_of [] c.args.self.now) (among ReadWrite (fired_keys c.in-Moved.moved.fired))) c.args.self.now.flat.now c.args.queue.now.ready.room (fired_keys c.in-Moved.moved.fired) (g.K.Gpi.content c.args.kernel.now).counts (g.W.Awaits.held c.args.queue.now.awaits) (queue_of g.W.Awaits.waiting c.args.queue.now)
    c.take_due-is_late.new.time c.take_due.new.time (g.K.Gpi.content c.advance.new.self) (g.W.Awaits.held c.flush_if-fault.new.queue.awaits) (queue_of g.W.Awaits.waiting c.flush_if-fault.new.queue) (g.K.Gpi.content c.flush_if-fault.new.kernel) c.tell-told.result c.tell-told.new.out c.flush_if-fault.result c.flush_if-fault.new.out
    c.take_due-is_late.ensures.left c.take_due.ensures.left (c.flush_if-fault.ensures.serves [] (g.K.Gpi.content c.args.kernel.now).counts) (event_amid c.args.self.now.flat.now c.args.queue.now.ready.room (g.W.Awaits.held c.args.queue.now.awaits) (queue_of g.W.Awaits.waiting c.args.queue.now) (g.K.Gpi.content c.args.kernel.now) (g.K.Gpi.content c.advance.new.self)
    c.requires.fits.queue c.requires.fits.still c.in-Moved.moved (advances_of (g.K.Gpi.content c.args.kernel.now) c.in-Moved.moved (g.K.Gpi.content c.advance.new.self) (rw c.in-Moved.is at c.in_ok-moved.ensures.is)) c.advance.ensures.widths) in
    record {
      queue = rw (c.fire.ensures.room, c.flush_if-fault.ensures.room)
          (event_fits c.args.self.now.flat.now c.args.queue.now.ready.room (g.W.Awaits.held c.args.queue.now.awaits) (queue_of g.W.Awaits.waiting c.args.queue.now) (g.K.Gpi.content c.args.kernel.now) (g.K.Gpi.content c.advance.new.self)
          c.requires.fits.queue c.requires.fits.still c.in-Moved.moved (advances_of (g.K.Gpi.content c.args.kernel.now) c.in-Moved.moved (g.K.Gpi.content c.advance.new.self) (rw c.in-Moved.is at c.in_ok-moved.ensures.is)) c.advance.ensures.widths
          s.after (g.W.Awaits.held c.flush_if-fault.new.queue.awaits) (queue_of g.W.Awaits.waiting c.flush_if-fault.new.queue) (g.K.Gpi.content c.flush_if-fault.new.kernel) s.stands (g.K.Gpi.content c.fire.new.kernel) (g.W.Awaits.held c.fire.new.self) c.fire.new.ready.entries (g.W.Awaits.waiting c.fire.new.self)
          (c.flush_if-fault.ensures.deadline ∙ c.take_due-is_late.ensures.left) (c.flush_if-fault.ensures.planned ∙ c.take_due.ensures.left) c.flush_if-fault.ensures.staged
          c.fire.ensures.waiting c.fire.ensures.held c.fire.ensures.ready c.fire.ensures.keys);
      still = event_still c.args.self.now.flat.now c.args.queue.now.ready.room (g.W.Awaits.held c.args.queue.now.awaits) (queue_of g.W.Awaits.waiting c.args.queue.now) (g.K.Gpi.content c.args.kernel.now) (g.K.Gpi.content c.advance.new.self)
          c.requires.fits.queue c.requires.fits.still c.in-Moved.moved (advances_of (g.K.Gpi.content c.args.kernel.now) c.in-Moved.moved (g.K.Gpi.content c.advance.new.self) (rw c.in-Moved.is at c.in_ok-moved.ensures.is)) c.advance.ensures.widths
          s.after (g.W.Awaits.held c.flush_if-fault.new.queue.awaits) (queue_of g.W.Awaits.waiting c.flush_if-fault.new.queue) (g.K.Gpi.content c.flush_if-fault.new.kernel) s.stands (g.K.Gpi.content c.fire.new.kernel) (g.W.Awaits.held c.fire.new.self) c.fire.new.ready.entries (g.W.Awaits.waiting c.fire.new.self)
          (c.flush_if-fault.ensures.deadline ∙ c.take_due-is_late.ensures.left) (c.flush_if-fault.ensures.planned ∙ c.take_due.ensures.left) c.flush_if-fault.ensures.staged
          c.fire.ensures.waiting c.fire.ensures.held c.fire.ensures.ready c.fire.ensures.keys;
    }

pub returns-clause-done : goal.returns-clause-done
returns-clause-done g c =
    event_done (sink_means g.O.Sink) c.args.self.now c.args.queue.now.ready.room (g.W.Awaits.held c.args.queue.now.awaits) (queue_of g.W.Awaits.waiting c.args.queue.now) (g.K.Gpi.content c.args.kernel.now) (g.K.Gpi.content c.advance.new.self)
    c.requires.fits.queue c.requires.fits.still c.in-Moved.moved (advances_of (g.K.Gpi.content c.args.kernel.now) c.in-Moved.moved (g.K.Gpi.content c.advance.new.self) (rw c.in-Moved.is at c.in_ok-moved.ensures.is)) c.advance.ensures.widths
    (g.W.Awaits.held c.flush_if-fault.new.queue.awaits) (queue_of g.W.Awaits.waiting c.flush_if-fault.new.queue) (g.K.Gpi.content c.flush_if-fault.new.kernel) (g.K.Gpi.content c.fire.new.kernel) (g.W.Awaits.held c.fire.new.self) c.fire.new.ready.entries (g.W.Awaits.waiting c.fire.new.self)
    (c.flush_if-fault.ensures.deadline ∙ c.take_due-is_late.ensures.left) (c.flush_if-fault.ensures.planned ∙ c.take_due.ensures.left) c.flush_if-fault.ensures.staged
    c.fire.ensures.waiting c.fire.ensures.held c.fire.ensures.ready c.fire.ensures.keys
    c.take_due-is_late.result c.now-time.result c.args.out.now c.tell-told.result c.tell-told.new.out c.flush_if-fault.result c.flush_if-fault.new.out
    c.take_due-is_late.ensures.answer c.now-time.ensures (λ functions. c.tell-told.ensures functions)
    (λ functions. from_taken (sink_means g.O.Sink) (flushed_if (setup_of functions c.args.self.now) (among ReadWrite (fired_keys c.in-Moved.moved.fired))) c.args.self.now.flat.now c.args.queue.now.ready.room (fired_keys c.in-Moved.moved.fired) (g.K.Gpi.content c.args.kernel.now).counts (g.W.Awaits.held c.args.queue.now.awaits) (queue_of g.W.Awaits.waiting c.args.queue.now)
    c.take_due-is_late.new.time c.take_due.new.time (g.K.Gpi.content c.advance.new.self) (g.W.Awaits.held c.flush_if-fault.new.queue.awaits) (queue_of g.W.Awaits.waiting c.flush_if-fault.new.queue) (g.K.Gpi.content c.flush_if-fault.new.kernel) c.tell-told.result c.tell-told.new.out c.flush_if-fault.result c.flush_if-fault.new.out
    c.take_due-is_late.ensures.left c.take_due.ensures.left (c.flush_if-fault.ensures.serves functions (g.K.Gpi.content c.args.kernel.now).counts) (event_amid c.args.self.now.flat.now c.args.queue.now.ready.room (g.W.Awaits.held c.args.queue.now.awaits) (queue_of g.W.Awaits.waiting c.args.queue.now) (g.K.Gpi.content c.args.kernel.now) (g.K.Gpi.content c.advance.new.self)
    c.requires.fits.queue c.requires.fits.still c.in-Moved.moved (advances_of (g.K.Gpi.content c.args.kernel.now) c.in-Moved.moved (g.K.Gpi.content c.advance.new.self) (rw c.in-Moved.is at c.in_ok-moved.ensures.is)) c.advance.ensures.widths))
