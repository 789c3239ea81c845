use Rattle.run_state.specs.Queue.Fits.{queue_of}
use Rattle.run_state.proofs.QueueLemmas.ClearLaws.{dropped_leads, emptied_keeps, emptied_sheds, nothing_left}
use Rattle.run_state.proofs.QueueLemmas.Rekeys.{sheds_both}
use Rattle.run_state.proofs.queue.queue.RunQueue.clear.Goals as goal

pub clear_writes-requires-clause-keeps : goal.clear_writes-requires-clause-keeps
clear_writes-requires-clause-keeps g c = emptied_keeps (queue_of g.W.Awaits.waiting c.args.self.now) _ _ _ _ (g.K.Gpi.content c.args.kernel.now) _
    c.requires.keeps c.clear-2.ensures.waiting c.clear-2.ensures.held c.clear-2.ensures.keys

pub returns-clause-leads : goal.returns-clause-leads
returns-clause-leads g c = dropped_leads (queue_of g.W.Awaits.waiting c.args.self.now) (queue_of g.W.Awaits.waiting c.clear_planned.new.self) _ _ (g.K.Gpi.content c.args.kernel.now) _ c.requires.keeps c.clear_planned.ensures.keeps
    (nothing_left (queue_of g.W.Awaits.waiting c.args.self.now) (queue_of g.W.Awaits.waiting c.clear_writes.new.self) (queue_of g.W.Awaits.waiting c.clear_deadline.new.self)
    (queue_of g.W.Awaits.waiting c.clear_planned.new.self) c.clear.new.self.entries (g.W.Awaits.waiting c.clear-2.new.self) c.clear.ensures.entries c.clear-2.ensures.waiting c.clear_writes.ensures.is c.clear_deadline.ensures.is c.clear_planned.ensures.is)
    (sheds_both _ _ _ _ _ _
    (emptied_sheds (queue_of g.W.Awaits.waiting c.args.self.now) c.clear.new.self.entries _ _ _ (g.K.Gpi.content c.args.kernel.now) _ c.requires.keeps c.clear-2.ensures.waiting c.clear-2.ensures.held c.clear-2.ensures.keys)
    (sheds_both _ _ _ _ _ _ c.clear_writes.ensures.sheds (sheds_both _ _ _ _ _ _ c.clear_deadline.ensures.sheds c.clear_planned.ensures.sheds)))
