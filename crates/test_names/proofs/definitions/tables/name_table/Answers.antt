-- The names of one item more are noted.
use Rattle.std.proofs.Common.{ℕ, List, Option, map, sym, ap, ◌∙◌}
use Rattle.std.specs.List.{position_from}
use Rattle.std.specs.Option.{option_or}
use Rattle.py_syntax.specs.BlockTrees.{view_module_item}
use Rattle.name_table.specs.Places.{first_place}
use Rattle.test_meaning.specs.Rules.Names.{is_among}
use Rattle.test_names.specs.Definitions.Definitions.{defines}
use Rattle.test_names.specs.Definitions.Notes.{noted_if}
use Rattle.test_names.proofs.DefinitionsLemmas.Noted.{noted_more, all_noted}
use Rattle.test_names.proofs.definitions.tables.name_table.Goals as goal

pub loop-place-init : goal.loop-place-init
loop-place-init c = λ n.
    ap (λ (s : List ℕ → Option ℕ). option_or (s n) (position_from (defines n) 0 (map view_module_item c.args.items.now))) (sym c.new-names.ensures)

pub loop-place-preserved : goal.loop-place-preserved
loop-place-preserved c =
    noted_more defines _ _ _ _ _ c.loop-place-test.true c.index-items-place.is
    (λ n. c.in_ok-names.ensures n ∙ ap (λ ms. noted_if c.loop-place.place (is_among n ms) (first_place c.loop-place.names n)) c.names_of.ensures) c.loop-place.invariant

pub returns : goal.returns
returns c = all_noted defines _ _ _ c.loop-place-test.false c.loop-place.invariant
