-- The first declaration of a name, or a further one.
use Rattle.std.proofs.Common.{Option, ap, ◌∙◌}
use Rattle.v_flat.specs.Declarations.{Declared}
use Rattle.v_layout.specs.Kept.{named_declared}
use Rattle.v_layout.specs.Place.{place_in}
use Rattle.v_layout.specs.DeclareSteps.{either_found}
use Rattle.v_layout.proofs.Steps.{new_words, old_words}
use Rattle.v_layout.proofs.change.either.Goals as goal

pub returns-in-None-clause-is : goal.returns-in-None-clause-is
returns-in-None-clause-is c =
    c.first.ensures
    ∙ ap (λ (o : Option Declared). either_found (place_in c.args.place.now) c.args.at (named_declared c.args.name.now c.args.declared) c.args.so_far.now o) c.in-None.ensures

pub returns-in-None-clause-words : goal.returns-in-None-clause-words
returns-in-None-clause-words c = new_words c.args.name.now c.args.so_far.now c.first.result c.in-None.ensures

pub returns-in-Some-clause-is : goal.returns-in-Some-clause-is
returns-in-Some-clause-is c =
    c.again.ensures.is
    ∙ ap (λ (o : Option Declared). either_found (place_in c.args.place.now) c.args.at (named_declared c.args.name.now c.args.declared) c.args.so_far.now o) c.in-Some.ensures

pub returns-in-Some-clause-words : goal.returns-in-Some-clause-words
returns-in-Some-clause-words c = old_words c.args.name.now c.args.so_far.now c.in-Some.old c.again.result c.in-Some.ensures c.again.ensures.words
