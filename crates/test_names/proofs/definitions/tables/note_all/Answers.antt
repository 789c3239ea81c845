-- One name more is noted.
use Rattle.std.proofs.Common.{refl, ◌∙◌, ap}
use Rattle.name_table.specs.Places.{first_place, noted}
use Rattle.test_names.proofs.DefinitionsLemmas.Noted.{name_noted, names_noted}
use Rattle.test_names.proofs.definitions.tables.note_all.Goals as goal

pub loop-name-init : goal.loop-name-init
loop-name-init c = λ n. refl

pub loop-name-preserved : goal.loop-name-preserved
loop-name-preserved c =
    name_noted _ _ _ _ _ _ _ c.loop-name-test.true c.name-item.is
    (λ n. c.in_ok-note.ensures.ok n ∙ ap (λ m. noted m c.args.place (first_place c.loop-name.names) n) c.bytes.ensures) c.loop-name.invariant

pub returns : goal.returns
returns c = names_noted _ _ _ _ _ c.loop-name-test.false c.loop-name.invariant
