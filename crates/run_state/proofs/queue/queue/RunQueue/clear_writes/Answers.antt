use Rattle.std.proofs.Common.{◌∙◌, sym, refl, []}
use Rattle.gpi.specs.declared.types.Key.TheVariants.{ReadWrite}
use Rattle.run_state.specs.Queue.Fits.{queue_of}
use Rattle.run_state.proofs.QueueLemmas.ClearLaws.{free_keeps, free_registered, free_sheds, phase_gone, staged_alike, with_writes}
use Rattle.run_state.proofs.QueueLemmas.HeldLaws.{some_staged}
use Rattle.run_state.proofs.QueueLemmas.Rekeys.{sheds_none}
use Rattle.run_state.proofs.queue.queue.RunQueue.clear_writes.Goals as goal

pub returns-then-is_empty-clause-sheds : goal.returns-then-is_empty-clause-sheds
returns-then-is_empty-clause-sheds g c = sheds_none (g.K.Gpi.content c.args.kernel.now) _ c.requires.keeps.keys_are

pub release-requires-clause-registered : goal.release-requires-clause-registered
release-requires-clause-registered g c = free_registered (queue_of g.W.Awaits.waiting c.args.self.now)
    (with_writes [] (g.W.Awaits.waiting c.args.self.now.awaits) (queue_of g.W.Awaits.waiting c.args.self.now)) ReadWrite _ (g.K.Gpi.content c.args.kernel.now) c.requires.keeps
    (staged_alike (queue_of g.W.Awaits.waiting c.args.self.now) [] (g.W.Awaits.waiting c.args.self.now.awaits) refl
    (some_staged c.args.self.now.staged (sym c.is_empty.ensures ∙ c.if-is_empty.false)))

pub returns-clause-sheds : goal.returns-clause-sheds
returns-clause-sheds g c = free_sheds (queue_of g.W.Awaits.waiting c.args.self.now)
    (with_writes c.clear.new.self (g.W.Awaits.waiting c.release.new.self) (queue_of g.W.Awaits.waiting c.args.self.now)) ReadWrite _ (g.K.Gpi.content c.args.kernel.now) c.requires.keeps
    (staged_alike (queue_of g.W.Awaits.waiting c.args.self.now) c.clear.new.self (g.W.Awaits.waiting c.release.new.self) c.clear.ensures
    (some_staged c.args.self.now.staged (sym c.is_empty.ensures ∙ c.if-is_empty.false)))
    _ (g.K.Gpi.content c.release.new.kernel) c.release.ensures.waiting
    (phase_gone (queue_of g.W.Awaits.waiting c.args.self.now) c.clear.new.self (g.W.Awaits.waiting c.release.new.self) c.clear.ensures) c.release.ensures.held c.release.ensures.keys

pub returns-clause-keeps : goal.returns-clause-keeps
returns-clause-keeps g c = free_keeps (queue_of g.W.Awaits.waiting c.args.self.now)
    (with_writes c.clear.new.self (g.W.Awaits.waiting c.release.new.self) (queue_of g.W.Awaits.waiting c.args.self.now)) ReadWrite _ (g.K.Gpi.content c.args.kernel.now) c.requires.keeps
    (staged_alike (queue_of g.W.Awaits.waiting c.args.self.now) c.clear.new.self (g.W.Awaits.waiting c.release.new.self) c.clear.ensures
    (some_staged c.args.self.now.staged (sym c.is_empty.ensures ∙ c.if-is_empty.false)))
    _ (g.K.Gpi.content c.release.new.kernel) c.release.ensures.waiting
    (phase_gone (queue_of g.W.Awaits.waiting c.args.self.now) c.clear.new.self (g.W.Awaits.waiting c.release.new.self) c.clear.ensures) c.release.ensures.held c.release.ensures.keys
