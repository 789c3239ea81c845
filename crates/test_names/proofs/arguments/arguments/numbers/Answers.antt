-- One parameter more is noted.
use Rattle.std.proofs.Common.{◌∙◌, ap}
use Rattle.name_table.specs.Places.{first_place, noted}
use Rattle.test_names.proofs.ArgumentsLemmas.Marked.{none_noted, noted_more, all_noted}
use Rattle.test_names.proofs.arguments.arguments.numbers.Goals as goal

pub loop-number-init : goal.loop-number-init
loop-number-init c = λ n. none_noted (first_place c.new-names.result) n _ c.new-names.ensures

pub loop-number-preserved : goal.loop-number-preserved
loop-number-preserved c =
    noted_more _ _ _ _ _ c.loop-number-test.true c.index-parameters-number.is
    (λ n. c.in_ok-note.ensures.ok n ∙ ap (λ m. noted m c.loop-number.number (first_place c.loop-number.names) n) c.bytes.ensures) c.loop-number.invariant

pub returns : goal.returns
returns c = all_noted _ _ _ c.loop-number-test.false c.loop-number.auto.number-end c.loop-number.invariant
