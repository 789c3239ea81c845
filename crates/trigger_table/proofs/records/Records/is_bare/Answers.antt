use Rattle.std.proofs.Common.{sym, ◌∙◌, inl}
use Rattle.trigger_table.specs.Records.{rows_in, state_in}
use Rattle.trigger_table.proofs.RingLemmas.{tidy}
use Rattle.trigger_table.proofs.RowLemmas.{not_needed}
use Rattle.trigger_table.proofs.KeptLemmas.{has_waiters, bare_waiters}
use Rattle.trigger_table.proofs.records.Records.is_bare.Goals as goal

pub returns-then-is_some-clause-needed : goal.returns-then-is_some-clause-needed
unfolding rows_in
returns-then-is_some-clause-needed g c _ =
    inl (has_waiters _ _ _ _ _ _ c.args.self.now.sound (tidy c.args.self.now.by_task) c.args.number c.front.result c.front.ensures.value (sym c.is_some.ensures ∙ c.if-is_some.true))

pub returns-in-Some-clause-bare : goal.returns-in-Some-clause-bare
unfolding rows_in
returns-in-Some-clause-bare g c _ =
    bare_waiters _ _ _ _ _ _ c.args.self.now.sound (tidy c.args.self.now.by_task) c.args.number c.front.result c.front.ensures.value (sym c.is_some.ensures ∙ c.if-is_some.false)

pub returns-in-Some-clause-free : goal.returns-in-Some-clause-free
unfolding rows_in
returns-in-Some-clause-free g c free =
    let bare = bare_waiters _ _ _ _ _ _ c.args.self.now.sound (tidy c.args.self.now.by_task) c.args.number c.front.result c.front.ensures.value (sym c.is_some.ensures ∙ c.if-is_some.false) in
    not_needed c.args.number (state_in c.args.self.now) c.in-Some.record bare (sym c.get.ensures ∙ c.in-Some.is) free
