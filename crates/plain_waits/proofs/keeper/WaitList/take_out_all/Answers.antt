use Rattle.std.proofs.Common.{sym, ap, ◌∙◌}
use Rattle.await_tree.specs.WaitList.Keys.{without_all}
use Rattle.await_tree.specs.WaitList.Waiting.{key_list}
use Rattle.await_tree.proofs.WaitListLemmas.Served.{without_both}
use Rattle.plain_waits.proofs.keeper.WaitList.take_out_all.Goals as goal

pub returns-clause-held : goal.returns-clause-held
returns-clause-held c = c.take_out_one-2.ensures.held ∙ ap (without_all (key_list c.args.fired.second)) c.take_out_one.ensures.held ∙ sym (without_both (key_list c.args.fired.first) (key_list c.args.fired.second) c.args.self.now.held.items)
