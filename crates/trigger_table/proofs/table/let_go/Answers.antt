use Rattle.std.proofs.Common.{sym, ◌∙◌, arith}
use Rattle.await_tree.specs.WaitList.Waiting.{fired_keys}
use Rattle.trigger_table.specs.Keys.{record_keys}
use Rattle.trigger_table.specs.Records.{causes_in, state_in}
use Rattle.trigger_table.proofs.GoneLemmas.{fired_goes, goes_there, key_goes, other_goes, shrinks_self, shrinks_sets, unheld}
use Rattle.await_tree.proofs.WaitListLemmas.Members.{within_self}
use Rattle.await_tree.proofs.WaitListLemmas.Rekeys.{narrows_none}
use Rattle.trigger_table.proofs.table.let_go.Goals as goal

pub returns-then-not-is_bare-clause-keys : goal.returns-then-not-is_bare-clause-keys
returns-then-not-is_bare-clause-keys g c =
    narrows_none (g.K.Gpi.content c.args.kernel.now) (record_keys (causes_in c.args.records.now)) (record_keys (causes_in c.args.records.now)) (λ k h. c.requires.fits.keys.within k h) (within_self (record_keys (causes_in c.args.records.now)))

pub remove-requires-clause-there : goal.remove-requires-clause-there
remove-requires-clause-there g c =
    goes_there (causes_in c.args.records.now) (causes_in c.remove_cause-record.new.self) c.args.number c.remove_cause-record.result c.remove_cause-record.ensures.value c.remove_cause-record.ensures.sets c.remove_cause-record.ensures.gone
    c.in-Key.key c.in-Key.is (g.K.Gpi.content c.args.kernel.now) (g.K.Gpi.content c.args.kernel.now) (fired_keys c.args.fired)
    (unheld c.args.number (state_in c.args.records.now) c.remove_cause-record.result (c.is_bare.ensures.free c.if-not-is_bare.false) c.remove_cause-record.ensures.value) c.requires.fits
    (sym c.has_fired.ensures ∙ c.if-not-has_fired.true)

pub returns-then-not-has_fired-clause-keys : goal.returns-then-not-has_fired-clause-keys
returns-then-not-has_fired-clause-keys g c =
    key_goes (causes_in c.args.records.now) (causes_in c.remove_cause-record.new.self) c.args.number c.remove_cause-record.result c.remove_cause-record.ensures.value c.remove_cause-record.ensures.sets c.remove_cause-record.ensures.gone
    c.in-Key.key c.in-Key.is (g.K.Gpi.content c.args.kernel.now) (g.K.Gpi.content c.remove.new.self) (fired_keys c.args.fired)
    (unheld c.args.number (state_in c.args.records.now) c.remove_cause-record.result (c.is_bare.ensures.free c.if-not-is_bare.false) c.remove_cause-record.ensures.value) c.requires.fits
    (sym c.has_fired.ensures ∙ c.if-not-has_fired.true) c.remove.ensures.is

pub returns-else-not-has_fired-clause-keys : goal.returns-else-not-has_fired-clause-keys
returns-else-not-has_fired-clause-keys g c =
    fired_goes (causes_in c.args.records.now) (causes_in c.remove_cause-record.new.self) c.args.number c.remove_cause-record.result c.remove_cause-record.ensures.value c.remove_cause-record.ensures.sets c.remove_cause-record.ensures.gone
    c.in-Key.key c.in-Key.is (g.K.Gpi.content c.args.kernel.now) (g.K.Gpi.content c.args.kernel.now) (fired_keys c.args.fired)
    (unheld c.args.number (state_in c.args.records.now) c.remove_cause-record.result (c.is_bare.ensures.free c.if-not-is_bare.false) c.remove_cause-record.ensures.value) c.requires.fits
    (sym c.has_fired.ensures ∙ c.if-not-has_fired.false)

pub returns-then-not-is_bare-clause-shrinks : goal.returns-then-not-is_bare-clause-shrinks
returns-then-not-is_bare-clause-shrinks g c = shrinks_self (causes_in c.args.records.now)

pub returns-then-not-has_fired-clause-shrinks : goal.returns-then-not-has_fired-clause-shrinks
returns-then-not-has_fired-clause-shrinks g c = shrinks_sets (causes_in c.args.records.now) (causes_in c.remove_cause-record.new.self) c.args.number c.remove_cause-record.ensures.sets

pub returns-else-not-has_fired-clause-shrinks : goal.returns-else-not-has_fired-clause-shrinks
returns-else-not-has_fired-clause-shrinks g c = shrinks_sets (causes_in c.args.records.now) (causes_in c.remove_cause-record.new.self) c.args.number c.remove_cause-record.ensures.sets

pub returns-in_default : goal.returns-in_default
returns-in_default g c = record {
  rows = c.remove_cause-record.ensures.rows;
  others = c.remove_cause-record.ensures.sets.others;
  stays = λ needed. absurd (c.is_bare.ensures.free c.if-not-is_bare.false needed);
  needed = λ some. absurd (some c.remove_cause-record.ensures.sets.changed);
  shrinks = shrinks_sets (causes_in c.args.records.now) (causes_in c.remove_cause-record.new.self) c.args.number c.remove_cause-record.ensures.sets;
  loaded = c.requires.loaded;
  keys = other_goes (causes_in c.args.records.now) (causes_in c.remove_cause-record.new.self) c.args.number c.remove_cause-record.result c.remove_cause-record.ensures.value c.remove_cause-record.ensures.sets c.remove_cause-record.ensures.gone
      c.in_default.not-Key (g.K.Gpi.content c.args.kernel.now) (fired_keys c.args.fired) c.requires.fits;
  ticks = omega arith;
}
