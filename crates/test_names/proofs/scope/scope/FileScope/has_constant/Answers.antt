-- What the table of constants says.
use Rattle.std.proofs.Common.{ℕ, Option, ◌∙◌, ap}
use Rattle.std.specs.Option.{is_some}
use Rattle.test_names.proofs.ScopeLemmas.Known.{constant}
use Rattle.test_names.proofs.scope.scope.FileScope.has_constant.Goals as goal

pub returns : goal.returns
returns c =
    c.is_some.ensures ∙ ap (λ (o : Option ℕ). is_some o) c.find.ensures
    ∙ constant _ c.args.self.now.tables.now c.args.self.now.are_tables c.args.name.now
