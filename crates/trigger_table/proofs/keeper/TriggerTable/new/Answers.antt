use Rattle.std.proofs.Common.{length, ap, arith}
use Rattle.std.specs.Prelude.{List}
use Rattle.trigger_table.specs.Keys.{runner_keys}
use Rattle.trigger_table.specs.Records.{state_in}
use Rattle.trigger_table.specs.State.{Row}
use Rattle.trigger_table.specs.Tied.{waiting_in}
use Rattle.trigger_table.proofs.TableLemmas.{empty_kept}
use Rattle.trigger_table.proofs.keeper.TriggerTable.new.Goals as goal

pub invariant_of-result : goal.invariant_of-result
invariant_of-result c = record {
  kept = empty_kept (state_in c.new.result) c.new.ensures.rows c.new.ensures.causes;
  few = omega (arith, ap (λ (rs : List Row). length rs) c.new.ensures.rows);
}

pub returns-clause-waiting : goal.returns-clause-waiting
returns-clause-waiting c = ap waiting_in c.new.ensures.rows

pub returns-clause-held : goal.returns-clause-held
returns-clause-held c = ap runner_keys c.new.ensures.causes
