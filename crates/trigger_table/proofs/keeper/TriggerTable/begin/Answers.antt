use Rattle.std.proofs.Common.{◌≡◌, ap, arith}
use Rattle.std.proofs.lemmas.Result.{on_err_weaker, on_ok_weaker}
use Rattle.await_tree.specs.Whole.{tree_in}
use Rattle.await_tree.specs.WaitList.Keys.{Rekeyed}
use Rattle.await_tree.specs.WaitList.Waiting.{tree_keys}
use Rattle.trigger_table.specs.Keys.{record_keys}
use Rattle.trigger_table.specs.Records.{causes_in, rows_in, state_in}
use Rattle.trigger_table.specs.Tied.{waiting_in}
use Rattle.trigger_table.proofs.CallLemmas.{tasks_counted}
use Rattle.trigger_table.proofs.TableLemmas.{keys_records, rekeyed_names}
use Rattle.trigger_table.proofs.keeper.TriggerTable.begin.Goals as goal

pub begin-requires-clause-kept : goal.begin-requires-clause-kept
begin-requires-clause-kept g c = c.args.self.now.kept

pub begin-requires-clause-keys : goal.begin-requires-clause-keys
begin-requires-clause-keys g c = keys_records (g.K.Gpi.content c.args.kernel.now) (state_in c.args.self.now.records) c.args.self.now.kept c.requires.keys

pub invariant_of-self : goal.invariant_of-self
invariant_of-self g c = record { kept = c.begin.ensures.kept; few = omega (arith, c.begin.ensures.few, c.requires.few, tasks_counted (state_in c.args.self.now.records) c.args.self.now.kept) }

pub returns-clause-err : goal.returns-clause-err
returns-clause-err g c = on_err_weaker c.begin.result (λ (e : rows_in c.begin.new.records ≡ rows_in c.args.self.now.records). ap waiting_in e) c.begin.ensures.err

pub returns-clause-keys : goal.returns-clause-keys
returns-clause-keys g c =
    on_ok_weaker c.begin.result
    (λ (h : Rekeyed (g.K.Gpi.content c.args.kernel.now) (g.K.Gpi.content c.begin.new.kernel) (tree_keys (tree_in c.args.tree)) (record_keys (causes_in c.args.self.now.records)) (record_keys (causes_in c.begin.new.records))).
    rekeyed_names (g.K.Gpi.content c.args.kernel.now) (g.K.Gpi.content c.begin.new.kernel) (tree_keys (tree_in c.args.tree)) (state_in c.args.self.now.records) (state_in c.begin.new.records) c.args.self.now.kept c.begin.ensures.kept h) c.begin.ensures.keys
