use Rattle.std.proofs.Common.{◌≡◌, ◌<◌, slice_get, Some, None, length, arith}
use Rattle.gpi.proofs.Trees.{read, none_is, climb_more, climb_end}
use Rattle.gpi.proofs.depths.depth_of.Goals as goal

pub up-preserved : goal.up-preserved
up-preserved c =
    let l : c.up.at < length c.args.depths.now = omega (arith, c.up.invariant.inside, c.requires.known.count) in
    let d : slice_get c.args.depths.now c.up.at ≡ Some None = read c.args.depths.now c.up.at None l (none_is _ c.is_none.result c.is_none.ensures c.if-is_none.true) in
    let p : slice_get c.args.parents.now c.up.at ≡ Some (Some c.in-Some.above) = read c.args.parents.now c.up.at None c.up.invariant.inside c.in-Some.is in
    climb_more c.args.parents.now c.args.depths.now c.args.node c.up.steps c.up.at c.in-Some.above c.up.invariant c.requires.known c.requires.inside c.up-test.true d p

pub overflow_add-depth : goal.overflow_add-depth
overflow_add-depth c =
    let l : c.up.at < length c.args.depths.now = omega (arith, c.up.invariant.inside, c.requires.known.count) in
    let d : slice_get c.args.depths.now c.up.at ≡ Some (Some c.in-Some-known.depth) = read c.args.depths.now c.up.at None l c.in-Some-known.is in
    let e = (c.requires.known.each c.up.at c.in-Some-known.depth d).1 in
    omega (arith, e, c.requires.few, c.up.invariant.few)

pub returns-in-Some-known : goal.returns-in-Some-known
returns-in-Some-known c =
    let l : c.up.at < length c.args.depths.now = omega (arith, c.up.invariant.inside, c.requires.known.count) in
    let d : slice_get c.args.depths.now c.up.at ≡ Some (Some c.in-Some-known.depth) = read c.args.depths.now c.up.at None l c.in-Some-known.is in
    climb_end c.args.parents.now c.args.depths.now c.args.node c.up.steps c.up.at c.in-Some-known.depth c.up.invariant c.requires.known d c.within.result c.within.ensures
