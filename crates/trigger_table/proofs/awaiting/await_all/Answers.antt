use Rattle.std.proofs.Common.{refl, sym, subst, arith}
use Rattle.gpi.specs.declared.types.Key.TheVariants as key
use Rattle.await_tree.specs.declared.cause.Awaited.TheVariants as awaited
use Rattle.await_tree.proofs.WaitListLemmas.Awaited.{registered_first}
use Rattle.trigger_table.specs.Keys.{record_keys}
use Rattle.trigger_table.specs.Records.{causes_in, rows_in, state_in}
use Rattle.trigger_table.specs.State.{IsLast}
use Rattle.trigger_table.proofs.AwaitLemmas.{asked_now, keys_all, keys_next, keys_now, last_with, reaches_all, reaches_next, reaches_none, short_next}
use Rattle.trigger_table.proofs.KeptLemmas.{on_err}
use Rattle.trigger_table.proofs.awaiting.await_all.Goals as goal

pub loop-at-init : goal.loop-at-init
loop-at-init g c = record {
  inside = omega arith;
  loaded = c.requires.loaded;
  reaches = reaches_none c.args.number (state_in c.args.records.now) (state_in c.args.records.now) refl (λ n. refl) c.requires.needed;
  keys = registered_first (g.K.Gpi.content c.args.kernel.now) c.args.awaited.now (record_keys (causes_in c.args.records.now)) c.requires.keys;
  ticks = omega arith;
}

pub await_one-requires-clause-last : goal.await_one-requires-clause-last
await_one-requires-clause-last g c =
    subst (IsLast c.args.number) (sym c.loop-at.invariant.reaches.rows) (last_with c.args.number c.loop-at.invariant.reaches.links (rows_in c.args.records.now) c.requires.last)

pub await_one-requires-clause-keys : goal.await_one-requires-clause-keys
await_one-requires-clause-keys g c =
    keys_now c.args.number c.args.awaited.now c.loop-at.at (awaited.Key (key.At 0)) (omega arith) (g.K.Gpi.content c.args.kernel.now) (g.K.Gpi.content c.loop-at.kernel)
    (state_in c.args.records.now) (state_in c.loop-at.records) c.requires.keys c.loop-at.invariant.reaches c.loop-at.invariant.keys

pub await_one-requires-clause-asked : goal.await_one-requires-clause-asked
await_one-requires-clause-asked g c =
    asked_now c.args.number c.args.awaited.now c.loop-at.at (awaited.Key (key.At 0)) (omega arith) (g.K.Gpi.content c.args.kernel.now) (g.K.Gpi.content c.loop-at.kernel)
    (state_in c.args.records.now) (state_in c.loop-at.records) c.requires.keys c.loop-at.invariant.reaches c.loop-at.invariant.keys c.requires.asked

pub returns-in_err-await_one-clause-err : goal.returns-in_err-await_one-clause-err
returns-in_err-await_one-clause-err g c =
    on_err _ (short_next c.args.number c.args.awaited.now c.loop-at.at (awaited.Key (key.At 0)) (omega arith) (g.K.Gpi.content c.args.kernel.now) (g.K.Gpi.content c.loop-at.kernel)
    (state_in c.args.records.now) (state_in c.loop-at.records) c.requires.keys c.loop-at.invariant.reaches c.loop-at.invariant.keys
    (g.K.Gpi.content c.await_one.new.kernel) (state_in c.await_one.new.records) c.in_err-await_one.ensures.err)

pub loop-at-preserved : goal.loop-at-preserved
loop-at-preserved g c = record {
  inside = omega arith;
  loaded = c.await_one.ensures.loaded;
  reaches = reaches_next c.args.number c.args.awaited.now c.loop-at.at (awaited.Key (key.At 0)) (omega arith) (g.K.Gpi.content c.args.kernel.now) (g.K.Gpi.content c.loop-at.kernel)
      (state_in c.args.records.now) (state_in c.loop-at.records) c.requires.keys c.loop-at.invariant.reaches c.loop-at.invariant.keys
      (state_in c.await_one.new.records) c.in_ok-await_one.ensures.ok;
  keys = keys_next c.args.number c.args.awaited.now c.loop-at.at (awaited.Key (key.At 0)) (omega arith) (g.K.Gpi.content c.args.kernel.now) (g.K.Gpi.content c.loop-at.kernel)
      (state_in c.args.records.now) (state_in c.loop-at.records) c.requires.keys c.loop-at.invariant.reaches c.loop-at.invariant.keys
      (g.K.Gpi.content c.await_one.new.kernel) c.in_ok-await_one.ensures.adds;
  ticks = omega arith;
}

pub returns-clause-ok : goal.returns-clause-ok
returns-clause-ok g c = reaches_all c.args.number c.args.awaited.now c.loop-at.at (state_in c.args.records.now) (state_in c.loop-at.records) (omega arith) c.loop-at.invariant.reaches

pub returns-clause-adds : goal.returns-clause-adds
returns-clause-adds g c =
    keys_all c.args.number c.args.awaited.now c.loop-at.at (g.K.Gpi.content c.args.kernel.now) (g.K.Gpi.content c.loop-at.kernel) (state_in c.args.records.now) (state_in c.loop-at.records)
    (omega arith) c.loop-at.invariant.reaches c.loop-at.invariant.keys
