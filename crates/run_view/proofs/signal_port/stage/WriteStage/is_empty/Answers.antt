use Rattle.std.proofs.Common.{ap, ◌∙◌, ◌==◌, ℕ, List, length}
use Rattle.run_view.specs.declared.signal_port.staged.Staged.{Staged}
use Rattle.run_view.proofs.SignalPortLemmas.QueueLaws.{counts_none}
use Rattle.run_view.proofs.signal_port.stage.WriteStage.is_empty.Goals as goal

pub returns : goal.returns
returns c =
    c.is_empty.ensures ∙ ap (λ (n : ℕ). n == 0) c.self.inside.queue.ok.0 ∙ counts_none c.self.inside.queue.items
    ∙ ap (λ (ws : List Staged). length ws == 0) c.self.view_is
