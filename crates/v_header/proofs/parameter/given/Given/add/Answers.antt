-- The table of values has the new entry.
use Rattle.std.proofs.Common.{rules, ◌≡◌}
use Rattle.v_header.proofs.ParameterLemmas.Stored.{given_too}
use Rattle.v_header.proofs.parameter.given.Given.add.Goals as goal

pub returns-clause-ok : goal.returns-clause-ok
returns-clause-ok c =
    let same : c.in_ok-key.key.items ≡ c.args.name.now = search rules in
    given_too c.in_ok-key.key (λ k. k.items) c.args.name.now c.args.value c.self.inside.values.entries c.insert.new.self.entries c.args.self.now
    c.in_ok-insert.ensures.entries same c.self.view_is
