-- The function's parameters.
use Rattle.std.proofs.Common.{take}
use Rattle.py_syntax.specs.BlockTrees.{view_module}
use Rattle.test_meaning.specs.Rules.File.{made_by}
use Rattle.test_names.specs.Scope.Around.{around_in, file_in}
use Rattle.test_refusal.proofs.MakersLemmas.Tells.{open_option}
use Rattle.test_refusal.proofs.makers.makers.Makers.is_open_option.Goals as goal

pub returns-in-Some : goal.returns-in-Some
returns-in-Some c = λ h.
    open_option (take c.args.scope.now.above (view_module c.args.scope.now.whole.now)) c.args.self.now h (file_in c.args.scope.now) c.args.factory.now c.args.option.now (made_by (around_in c.args.scope.now).above c.args.factory.now)
    c.in-Some.parameters.now _ c.in-Some.ensures c.may_be_added.ensures
