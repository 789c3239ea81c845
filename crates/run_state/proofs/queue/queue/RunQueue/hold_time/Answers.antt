use Rattle.std.proofs.Common.{ap}
use Rattle.gpi.specs.Content.{Content}
use Rattle.gpi.specs.Keys.{has}
use Rattle.run_state.specs.Queue.Fits.{queue_of}
use Rattle.run_state.proofs.QueueLemmas.FitLaws.{keeps_kept, on_err}
use Rattle.run_state.proofs.QueueLemmas.Rekeys.{still_rekeyed}
use Rattle.run_state.proofs.queue.queue.RunQueue.hold_time.Goals as goal

pub returns-then-holds_time-clause-keys : goal.returns-then-holds_time-clause-keys
returns-then-holds_time-clause-keys g c = still_rekeyed _ _ _ _ c.requires.keeps.keys_are

pub returns-in_err-hold-clause-keeps : goal.returns-in_err-hold-clause-keeps
returns-in_err-hold-clause-keeps g c = on_err _ (keeps_kept _ _ (queue_of g.W.Awaits.waiting c.args.self.now) (g.K.Gpi.content c.args.kernel.now) (g.K.Gpi.content c.hold.new.kernel) _
    c.hold.ensures.waiting c.in_err-hold.ensures.err (λ x. ap (λ (k : Content). has x k.keys) c.in_err-hold.ensures.kept) c.requires.keeps)
