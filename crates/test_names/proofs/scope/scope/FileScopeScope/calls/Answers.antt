-- The rule that the use breaks.
use Rattle.std.proofs.Common.{map}
use Rattle.test_names.specs.Scope.Around.{around_in, file_in}
use Rattle.test_names.proofs.ScopeLemmas.OneUse.{by_parts, called}
use Rattle.test_names.proofs.scope.scope.FileScopeScope.calls.Goals as goal

pub returns : goal.returns
returns c =
    by_parts _ _ c.knows.result c.in_ok-is_placed.is_placed _ _ c.judged.ensures c.knows.ensures c.in_ok-is_placed.ensures
    (called (file_in c.args.self.now) (around_in c.args.self.now) c.args.function.now (map (λ a. a.name) c.args.arguments.now))
