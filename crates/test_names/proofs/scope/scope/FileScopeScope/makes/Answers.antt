-- The rule that the use breaks.
use Rattle.test_names.specs.Scope.Around.{around_in, file_in}
use Rattle.test_names.proofs.ScopeLemmas.OneUse.{by_parts, made}
use Rattle.test_names.proofs.scope.scope.FileScopeScope.makes.Goals as goal

pub returns : goal.returns
returns c =
    by_parts _ _ c.knows.result c.has_function_above.result _ _ c.judged.ensures c.knows.ensures c.has_function_above.ensures
    (made (file_in c.args.self.now) (around_in c.args.self.now) c.args.function.now)
