-- A memory with the words that were found.
use Rattle.std.proofs.Common.{ap, ◌∙◌, sym}
use Rattle.v_flat.specs.declared.scope.found.Found.{Found}
use Rattle.v_flat.specs.declared.scope.meaning.Bounds.{Bounds}
use Rattle.v_layout.specs.Place.{place_in}
use Rattle.v_layout.specs.DeclareSteps.{sized_found}
use Rattle.v_layout.proofs.Steps.{noted_named}
use Rattle.v_layout.proofs.change.sized.Goals as goal

pub returns-in-Sound : goal.returns-in-Sound
returns-in-Sound c = λ n.
    c.memory_of.ensures n
    ∙ ap (λ (x : Found Bounds). sized_found (place_in c.args.place.now) c.args.at c.args.bounds n c.args.so_far.now x) (sym c.in-Sound.is)

pub returns-in-Noted : goal.returns-in-Noted
returns-in-Noted c = λ n.
    noted_named n c.args.bounds c.in-Noted.fault c.in-Noted.words (place_in c.args.place.now) c.args.at c.args.so_far.now c.memory_of-in-Noted.result c.noted.result
    (c.memory_of-in-Noted.ensures n) c.noted.ensures
    ∙ ap (λ (x : Found Bounds). sized_found (place_in c.args.place.now) c.args.at c.args.bounds n c.args.so_far.now x) (sym c.in-Noted.is)
