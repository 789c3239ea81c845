-- What the table has of a name is what is declared of it.
use Rattle.std.proofs.Common.{◌∙◌}
use Rattle.v_layout.proofs.Tables.{found}
use Rattle.v_layout.proofs.table.Table.find.Goals as goal

pub returns : goal.returns
returns c = found (λ k. k.items) c.self.inside.names.entries c.args.self.now c.args.name.now c.copied.result (c.copied.ensures ∙ c.get.ensures.value) c.self.view_is
