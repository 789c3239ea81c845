-- A memory is put in its place, where its name is new.
use Rattle.std.proofs.Common.{rules, ◌≡◌}
use Rattle.v_syntax.specs.SourceTrees.{view_range}
use Rattle.v_layout.specs.Place.{place_in}
use Rattle.v_layout.proofs.Steps.{memory_ok, memory_put}
use Rattle.v_layout.proofs.change.declare_memory.Goals as goal

pub with-requires : goal.with-requires
with-requires c =
    let same : c.bytes-bytes.result.now ≡ c.args.name.now.name = search rules in
    memory_put c.bytes-bytes.result.now c.args.name.now c.args.so_far (place_in c.args.place.now) c.is_new-is_new.result c.sized-found.result c.needs-found.result same c.is_new-is_new.ensures c.needs-found.ensures

pub returns : goal.returns
returns c =
    let same : c.bytes-bytes.result.now ≡ c.args.name.now.name = search rules in
    memory_ok c.bytes-bytes.result.now c.args.name.now c.args.bounds (view_range c.args.words.now) (place_in c.args.place.now) c.args.so_far c.is_new-is_new.result c.in_ok-words.words
    c.sized-found.result c.needs-found.result c.with.result same c.is_new-is_new.ensures c.in_ok-words.ensures (c.sized-found.ensures c.bytes-bytes.result.now) c.needs-found.ensures c.with.ensures
