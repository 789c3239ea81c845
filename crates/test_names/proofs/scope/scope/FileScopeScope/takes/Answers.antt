-- The rule that the use breaks.
use Rattle.test_names.specs.Scope.Around.{around_in, file_in}
use Rattle.test_names.proofs.ScopeLemmas.OneUse.{taken_by, plain}
use Rattle.test_names.proofs.scope.scope.FileScopeScope.takes.Goals as goal

pub returns-in-Named : goal.returns-in-Named
returns-in-Named c =
    taken_by (file_in c.args.self.now) (around_in c.args.self.now) c.args.constant.now c.in-Named.name c.bytes.result.now c.bytes-in-Named.result.now
    _ c.knows.result c.has_constant_above.result c.judged.ensures c.knows.ensures c.has_constant_above.ensures c.bytes.ensures c.bytes-in-Named.ensures c.in-Named.is

pub returns-in_default : goal.returns-in_default
returns-in_default c = plain (file_in c.args.self.now) (around_in c.args.self.now) c.args.constant.now c.in_default.not-Named
