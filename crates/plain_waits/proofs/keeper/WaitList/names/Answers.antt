use Rattle.std.proofs.Common.{◌∙◌, sym}
use Rattle.plain_waits.specs.Kept.{waiting_in}
use Rattle.await_tree.proofs.WaitListLemmas.Members.{named_unwaited, named_waited}
use Rattle.plain_waits.proofs.keeper.WaitList.names.Goals as goal

pub returns-then-waited : goal.returns-then-waited
returns-then-waited c =
    c.if-waited.true ∙ sym (named_waited c.args.key (waiting_in c.args.self.now) c.args.self.now.held.items (sym c.is_waited-waited.ensures ∙ c.if-waited.true))

pub returns-else-waited : goal.returns-else-waited
returns-else-waited c =
    c.is_held.ensures ∙ sym (named_unwaited c.args.key (waiting_in c.args.self.now) c.args.self.now.held.items (sym c.is_waited-waited.ensures ∙ c.if-waited.false))
