use Rattle.std.proofs.Common.{rules, ◌≡◌, slice_get, Some, None}
use Rattle.gpi.proofs.Trees.{read, known_more, depth_up}
use Rattle.gpi.proofs.depths.note_depths.Goals as goal

pub up-preserved : goal.up-preserved
up-preserved c =
    let p : slice_get c.args.parents.now c.up.at ≡ Some (Some c.in-Some.above) = read c.args.parents.now c.up.at None c.up.invariant.inside c.in-Some.is in
    record {
      inside = c.requires.inside c.up.at c.in-Some.above p;
      few = search rules;
      depth = depth_up c.args.parents.now c.up.at c.in-Some.above c.up.left _ c.up-test.true (search rules) c.up.invariant.depth p;
      known = known_more c.args.parents.now c.up.depths c.up.at c.up.left c.up-test.true c.up.invariant.few c.up.invariant.depth c.up.invariant.known;
    }
