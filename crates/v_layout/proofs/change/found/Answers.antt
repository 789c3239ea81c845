-- A declaration of a name, which is no parameter's.
use Rattle.v_layout.specs.Place.{place_in}
use Rattle.v_layout.proofs.Steps.{name_named, needed_words}
use Rattle.v_layout.proofs.change.found.Goals as goal

pub returns-clause-is : goal.returns-clause-is
returns-clause-is c =
    name_named c.args.name.now c.args.declared (place_in c.args.place.now) c.args.at c.args.so_far.now c.is_free-is_free.result c.either.result c.needs.result
    c.is_free-is_free.ensures c.either.ensures.is c.needs.ensures

pub returns-clause-words : goal.returns-clause-words
returns-clause-words c =
    needed_words c.args.name.now c.args.so_far.now c.is_free-is_free.result c.args.at c.either.result c.needs.result c.either.ensures.words c.needs.ensures
