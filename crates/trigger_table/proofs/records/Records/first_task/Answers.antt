use Rattle.std.proofs.Common.{slice_get, sym, ap, ◌∙◌}
use Rattle.trigger_table.specs.Records.{rows_in}
use Rattle.trigger_table.proofs.RingLemmas.{tidy}
use Rattle.trigger_table.proofs.KeptLemmas.{numbers_are}
use Rattle.trigger_table.proofs.records.Records.first_task.Goals as goal

pub returns-clause-value : goal.returns-clause-value
unfolding rows_in
returns-clause-value g c = c.front.ensures.value ∙ ap (λ ks. slice_get ks 0) (sym (numbers_are _ _ _ _ _ _ c.args.self.now.sound (tidy c.args.self.now.by_task)))
