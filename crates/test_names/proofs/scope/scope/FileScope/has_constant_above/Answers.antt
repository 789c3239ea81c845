-- What the table says of the items above.
use Rattle.std.proofs.Common.{nat_lt, false, ◌∙◌, ap}
use Rattle.std.specs.Option.{option_map_or}
use Rattle.test_names.proofs.ScopeLemmas.Known.{constant_above}
use Rattle.test_names.proofs.scope.scope.FileScope.has_constant_above.Goals as goal

pub returns : goal.returns
returns c =
    c.is_above.ensures ∙ ap (λ o. option_map_or (λ i. nat_lt i c.args.self.now.above) o false) c.find.ensures
    ∙ constant_above _ c.args.self.now.tables.now c.args.self.now.are_tables c.args.self.now.above c.args.name.now
