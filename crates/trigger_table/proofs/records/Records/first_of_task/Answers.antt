use Rattle.std.proofs.Common.{ℕ, List, slice_get, sym, ap, ◌∙◌}
use Rattle.trigger_table.proofs.CursorLemmas.{waiters_chain}
use Rattle.trigger_table.proofs.records.Records.first_of_task.Goals as goal

pub returns-clause-value : goal.returns-clause-value
returns-clause-value g c = c.front.ensures.value ∙ ap (λ (ws : List ℕ). slice_get ws 0) (sym (waiters_chain c.args.self.now c.args.number c.requires))
