-- A further declaration of a name.
use Rattle.std.proofs.Common.{[], ap}
use Rattle.v_flat.specs.Declarations.{Declared}
use Rattle.v_layout.specs.Place.{place_in}
use Rattle.v_layout.proofs.Steps.{again_named, again_words}
use Rattle.v_layout.proofs.change.again.Goals as goal

pub returns-clause-is : goal.returns-clause-is
returns-clause-is c =
    again_named c.args.name.now c.args.old c.args.declared c.whole-whole.result (place_in c.args.place.now) c.args.at c.may_be-may_be.result c.goes_with.result c.wants.result c.needs.result
    (c.whole-whole.ensures c.args.name.now) c.may_be-may_be.ensures c.goes_with.ensures c.wants.ensures c.needs.ensures

pub returns-clause-words : goal.returns-clause-words
returns-clause-words c =
    again_words c.args.old c.whole-whole.result c.args.at c.may_be-may_be.result c.goes_with.result c.wants.result c.needs.result
    (ap (λ (d : Declared). d.words) (c.whole-whole.ensures [])) c.wants.ensures c.needs.ensures
