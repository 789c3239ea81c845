-- One item more is noted.
use Rattle.std.proofs.Common.{ℕ, List, Option, map, sym, ap}
use Rattle.std.specs.List.{position_from}
use Rattle.std.specs.Option.{option_or}
use Rattle.py_syntax.specs.BlockTrees.{view_module_item}
use Rattle.test_names.specs.Definitions.Definitions.{is_defined}
use Rattle.test_names.proofs.DefinitionsLemmas.Noted.{noted_more, all_noted}
use Rattle.test_names.proofs.definitions.tables.table.Goals as goal

pub loop-place-init : goal.loop-place-init
loop-place-init c = λ n.
    ap (λ (s : List ℕ → Option ℕ). option_or (s n) (position_from (is_defined c.args.kind n) 0 (map view_module_item c.args.items.now))) (sym c.new-names.ensures)

pub loop-place-preserved : goal.loop-place-preserved
loop-place-preserved c =
    noted_more (is_defined c.args.kind) _ _ _ _ _ c.loop-place-test.true c.index-items-place.is (λ n. c.in_ok-note.ensures.ok n) c.loop-place.invariant

pub returns : goal.returns
returns c = all_noted (is_defined c.args.kind) _ _ _ c.loop-place-test.false c.loop-place.invariant
