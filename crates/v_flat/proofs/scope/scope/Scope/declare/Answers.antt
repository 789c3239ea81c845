-- The map of names has the new entry.
use Rattle.std.proofs.Common.{rules, ◌≡◌}
use Rattle.v_flat.proofs.ScopeLemmas.Stored.{declared}
use Rattle.v_flat.proofs.scope.scope.Scope.declare.Goals as goal

pub returns-clause-ok : goal.returns-clause-ok
returns-clause-ok c =
    let same : c.in_ok-key.key.items ≡ c.args.name.now = search rules in
    declared c.in_ok-key.key (λ k. k.items) c.args.name.now c.args.meaning c.self.inside.names.entries c.insert.new.self.entries c.args.self.now
    c.in_ok-insert.ensures.entries same c.self.view_is
