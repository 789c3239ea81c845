-- The map of names has the new entry.
use Rattle.std.proofs.Common.{rules, ◌≡◌}
use Rattle.name_table.proofs.Stored.{note_new}
use Rattle.name_table.proofs.names.Names.add.Goals as goal

pub returns-clause-ok : goal.returns-clause-ok
returns-clause-ok c =
    let same : c.in_ok-key.key.items ≡ c.args.name.now = search rules in
    note_new c.in_ok-key.key (λ k. k.items) c.args.name.now c.args.place c.self.inside.places.entries c.insert.new.self.entries c.args.self.now
    c.in_ok-insert.ensures.entries same c.self.view_is c.requires
