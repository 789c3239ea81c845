use Rattle.std.proofs.Common.{◌∙◌, sym}
use Rattle.gpi.specs.declared.types.Key.TheVariants.{At}
use Rattle.run_state.specs.Queue.Fits.{queue_of}
use Rattle.run_state.proofs.QueueLemmas.ClearLaws.{start_alike, free_keeps, free_registered, free_sheds, without_planned}
use Rattle.run_state.proofs.QueueLemmas.Rekeys.{sheds_none}
use Rattle.run_state.proofs.queue.queue.RunQueue.clear_planned.Goals as goal

pub returns-then-holds_time-clause-sheds : goal.returns-then-holds_time-clause-sheds
returns-then-holds_time-clause-sheds g c = sheds_none (g.K.Gpi.content c.args.kernel.now) _ c.requires.keeps.keys_are

pub release-requires-clause-registered : goal.release-requires-clause-registered
release-requires-clause-registered g c = free_registered (queue_of g.W.Awaits.waiting c.args.self.now) (without_planned (g.W.Awaits.waiting c.args.self.now.awaits) (queue_of g.W.Awaits.waiting c.args.self.now)) (At c.in-Some.due) _ (g.K.Gpi.content c.args.kernel.now) c.requires.keeps
    (start_alike (queue_of g.W.Awaits.waiting c.args.self.now) (g.W.Awaits.waiting c.args.self.now.awaits) c.in-Some.due c.in-Some.is)

pub returns-else-holds_time-clause-sheds : goal.returns-else-holds_time-clause-sheds
returns-else-holds_time-clause-sheds g c = free_sheds (queue_of g.W.Awaits.waiting c.args.self.now) (without_planned (g.W.Awaits.waiting c.release.new.self) (queue_of g.W.Awaits.waiting c.args.self.now)) (At c.in-Some.due) _ (g.K.Gpi.content c.args.kernel.now) c.requires.keeps
    (start_alike (queue_of g.W.Awaits.waiting c.args.self.now) (g.W.Awaits.waiting c.release.new.self) c.in-Some.due c.in-Some.is)
    _ (g.K.Gpi.content c.release.new.kernel) c.release.ensures.waiting (sym c.holds_time.ensures ∙ c.if-holds_time.false) c.release.ensures.held c.release.ensures.keys

pub returns-else-holds_time-clause-keeps : goal.returns-else-holds_time-clause-keeps
returns-else-holds_time-clause-keeps g c = free_keeps (queue_of g.W.Awaits.waiting c.args.self.now) (without_planned (g.W.Awaits.waiting c.release.new.self) (queue_of g.W.Awaits.waiting c.args.self.now)) (At c.in-Some.due) _ (g.K.Gpi.content c.args.kernel.now) c.requires.keeps
    (start_alike (queue_of g.W.Awaits.waiting c.args.self.now) (g.W.Awaits.waiting c.release.new.self) c.in-Some.due c.in-Some.is)
    _ (g.K.Gpi.content c.release.new.kernel) c.release.ensures.waiting (sym c.holds_time.ensures ∙ c.if-holds_time.false) c.release.ensures.held c.release.ensures.keys

pub returns-in_default-clause-sheds : goal.returns-in_default-clause-sheds
returns-in_default-clause-sheds g c = sheds_none (g.K.Gpi.content c.args.kernel.now) _ c.requires.keeps.keys_are
