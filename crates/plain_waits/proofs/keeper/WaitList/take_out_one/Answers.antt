use Rattle.std.proofs.Common.{List, sym, ap, ◌∙◌}
use Rattle.gpi.specs.declared.types.Key.{Key}
use Rattle.await_tree.specs.WaitList.Keys.{without_all}
use Rattle.plain_waits.proofs.Walks.{none_list, some_list}
use Rattle.plain_waits.proofs.keeper.WaitList.take_out_one.Goals as goal

pub returns-in-Some-clause-held : goal.returns-in-Some-clause-held
returns-in-Some-clause-held c = c.take_out.ensures.held ∙ ap (λ (o : List Key). without_all o c.args.self.now.held.items) (sym (some_list c.args.key c.in-Some.key c.in-Some.is))

pub returns-in_default-clause-held : goal.returns-in_default-clause-held
returns-in_default-clause-held c = ap (λ (o : List Key). without_all o c.args.self.now.held.items) (sym (none_list c.args.key c.in_default.is))
