-- The rule that the use breaks.
use Rattle.std.proofs.Common.{true, refl}
use Rattle.test_names.specs.Scope.Around.{around_in, file_in}
use Rattle.test_names.proofs.ScopeLemmas.OneUse.{by_parts, needed}
use Rattle.test_names.proofs.scope.scope.FileScopeScope.needs.Goals as goal

pub returns : goal.returns
returns c =
    by_parts _ _ c.knows.result true _ true c.judged.ensures c.knows.ensures refl (needed (file_in c.args.self.now) (around_in c.args.self.now) c.args.name.now)
