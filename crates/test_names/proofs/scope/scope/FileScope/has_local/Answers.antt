-- A name has a place or not.
use Rattle.std.proofs.Common.{ℕ, Option, ◌∙◌, ap}
use Rattle.std.specs.Option.{is_some}
use Rattle.test_names.proofs.ScopeLemmas.Known.{local}
use Rattle.test_names.proofs.scope.scope.FileScope.has_local.Goals as goal

pub returns : goal.returns
returns c = c.is_some.ensures ∙ ap (λ (o : Option ℕ). is_some o) c.find.ensures ∙ local c.args.self.now.locals.now c.args.name.now
