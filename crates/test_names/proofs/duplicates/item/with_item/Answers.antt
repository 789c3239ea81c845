-- A parameter that stands twice, or the names alone.
use Rattle.std.proofs.Common.{List, map}
use Rattle.std.proofs.lemmas.Result.{IfOk-weaker}
use Rattle.std.specs.List.{flat_map}
use Rattle.py_syntax.specs.BlockTrees.{ModuleItem, view_module_item}
use Rattle.test_meaning.specs.Rules.File.{names_of}
use Rattle.test_meaning.specs.Rules.Names.{Name}
use Rattle.test_names.specs.Duplicates.Twice.{AreNames, IsWith, IsBelow}
use Rattle.test_names.proofs.DuplicatesLemmas.Twofold.{names_alone}
use Rattle.test_names.proofs.duplicates.item.with_item.Goals as goal

pub returns : goal.returns
returns c =
    IfOk-weaker c.with_all.result (λ after. (ns : List Name) → AreNames ns c.args.above → IsWith ns (map (λ n. n) c.names_of.result.now) after)
    (λ after. (xs : List ModuleItem) → AreNames (flat_map names_of xs) c.args.above → IsBelow xs (view_module_item c.args.item.now) after)
    (λ o so. names_alone (view_module_item c.args.item.now) c.names_of.result.now c.args.above o _ c.in_ok-repeats_a_parameter.ensures c.if-branch.false c.names_of.ensures so)
    c.with_all.ensures
