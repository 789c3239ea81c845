-- A memory with these words.
use Rattle.std.proofs.Common.{refl, None, Some}
use Rattle.v_layout.specs.declared.details.Declared.{Declared}
use Rattle.v_layout.specs.declared.details.Sort.TheVariants as sort
use Rattle.v_layout.specs.Place.{place_in}
use Rattle.v_layout.proofs.Steps.{memory_named}
use Rattle.v_layout.proofs.change.memory_of.Goals as goal

pub returns : goal.returns
returns c = λ n.
    let m : Declared = record { direction = None; sort = Some sort.Reg; bounds = c.args.bounds; words = Some c.args.words } in
    memory_named n m c.args.bounds c.args.words (place_in c.args.place.now) c.args.at c.args.so_far.now c.has_room-has_room.result c.wants.result
    refl c.has_room-has_room.ensures c.wants.ensures
