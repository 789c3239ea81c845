use Rattle.std.proofs.Common.{◌∙◌, ℕ, ap}
use Rattle.run_view.specs.SignalPort.Queue.{turns}
use Rattle.run_view.proofs.SignalPortLemmas.QueueLaws.{turns_all}
use Rattle.run_view.proofs.signal_port.queue.compact.Goals as goal

pub left-init : goal.left-init
left-init c = record {
  tally = c.requires;
  counts = ap (λ (n : ℕ). turns n c.args.queue.now.items) (c.len-left.ensures ∙ c.args.queue.now.ok.0) ∙ turns_all c.args.queue.now.items;
}
