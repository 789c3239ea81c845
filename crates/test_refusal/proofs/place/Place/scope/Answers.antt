-- No name is a local.
use Rattle.std.proofs.Common.{ap, refl, take}
use Rattle.py_syntax.specs.BlockTrees.{view_module}
use Rattle.test_meaning.specs.Rules.File.{file_of}
use Rattle.test_meaning.specs.Rules.Uses.{with_names}
use Rattle.test_refusal.proofs.Scopes.{no_name}
use Rattle.test_refusal.proofs.place.Place.scope.Goals as goal

pub returns : goal.returns
returns c = record {
  whole = refl;
  above = refl;
  around = ap (λ ns. with_names (file_of (take c.args.self.now.above (view_module c.args.self.now.whole.now.file.now))) ns) (no_name _ c.args.self.now.whole.now.is_nothing);
}
