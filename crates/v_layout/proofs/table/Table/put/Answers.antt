-- The table has the new entry.
use Rattle.std.proofs.Common.{rules, ◌≡◌}
use Rattle.v_layout.proofs.Tables.{put}
use Rattle.v_layout.proofs.table.Table.put.Goals as goal

pub returns-clause-ok : goal.returns-clause-ok
returns-clause-ok c =
    let same : c.in_ok-key.key.items ≡ c.args.name.now = search rules in
    put c.in_ok-key.key (λ k. k.items) c.args.name.now c.args.declared c.self.inside.names.entries c.insert.new.self.entries c.args.self.now
    c.in_ok-insert.ensures.entries same c.self.view_is
