use Rattle.std.proofs.Common.{◌≡◌, ◌∙◌, sym, subst, List, true, false}
use Rattle.port_io.specs.Means.{sink_means}
use Rattle.gpi.specs.declared.types.Key.{Key}
use Rattle.await_tree.specs.WaitList.Waiting.{fired_keys}
use Rattle.run_state.specs.Queue.Fits.{queue_of}
use Rattle.scheduler.specs.Amid.{IsAmid}
use Rattle.scheduler.specs.Setups.{setup_of}
use Rattle.scheduler.proofs.FlushLaws.{flushed_else, flushed_then}
use Rattle.scheduler.proofs.teller.Teller.flush_if.Goals as goal

pub flush-requires-clause-amid : goal.flush-requires-clause-amid
flush-requires-clause-amid g c =
    subst (λ (ks : List Key). IsAmid c.args.self.now.flat.now c.args.queue.now.ready.room ks (g.W.Awaits.held c.args.queue.now.awaits) (queue_of g.W.Awaits.waiting c.args.queue.now) (g.K.Gpi.content c.args.kernel.now))
    (c.requires.alone (sym c.settles.ensures ∙ c.if-settles.true)) c.requires.amid

pub flush-requires-clause-open : goal.flush-requires-clause-open
flush-requires-clause-open g c = c.requires.open (sym c.settles.ensures ∙ c.if-settles.true)

pub returns-then-settles-clause-serves : goal.returns-then-settles-clause-serves
returns-then-settles-clause-serves g c = λ functions counts s.
    flushed_then (sink_means g.O.Sink) c.args.self.now.flat.now c.args.queue.now.ready.room (setup_of functions c.args.self.now) (fired_keys c.args.keys) counts (queue_of g.W.Awaits.waiting c.args.queue.now) (g.K.Gpi.content c.args.kernel.now)
    (g.W.Awaits.held c.flush.new.queue.awaits) (queue_of g.W.Awaits.waiting c.flush.new.queue) (g.K.Gpi.content c.flush.new.kernel) c.args.fault c.args.out.now c.flush.result c.flush.new.out (g.W.Awaits.held c.args.queue.now.awaits)
    (c.requires.alone (sym c.settles.ensures ∙ c.if-settles.true)) (c.flush.ensures.serves functions counts) s

pub returns-else-settles-clause-serves : goal.returns-else-settles-clause-serves
returns-else-settles-clause-serves g c = λ functions counts s.
    flushed_else (sink_means g.O.Sink) c.args.self.now.flat.now c.args.queue.now.ready.room (setup_of functions c.args.self.now) (fired_keys c.args.keys) counts (g.W.Awaits.held c.args.queue.now.awaits) (queue_of g.W.Awaits.waiting c.args.queue.now) (g.K.Gpi.content c.args.kernel.now) c.args.fault c.args.out.now
    (sym c.settles.ensures ∙ c.if-settles.false) s

pub returns-else-settles-clause-staged : goal.returns-else-settles-clause-staged
returns-else-settles-clause-staged g c = λ h. absurd (let z : true ≡ false = sym h ∙ sym c.settles.ensures ∙ c.if-settles.false in cc)
