-- The rule that the use breaks.
use Rattle.test_names.specs.Scope.Around.{around_in, file_in}
use Rattle.test_names.proofs.ScopeLemmas.OneUse.{by_parts, extended}
use Rattle.test_names.proofs.scope.scope.FileScopeScope.extends.Goals as goal

pub returns : goal.returns
returns c =
    by_parts _ _ c.knows.result c.has_factory_above.result _ _ c.judged.ensures c.knows.ensures c.has_factory_above.ensures
    (extended (file_in c.args.self.now) (around_in c.args.self.now) c.args.factory.now)
