use Rattle.std.proofs.Common.{◌∙◌, length, arith}
use Rattle.std.proofs.lemmas.Grind.{common_steps}
use Rattle.fast_kernel.proofs.Told.{touched_inside, few_touched, told_more}
use Rattle.fast_kernel.proofs.changes.tell.Goals as goal

pub tell_one-requires-clause-inside : goal.tell_one-requires-clause-inside
tell_one-requires-clause-inside c =
    touched_inside (length c.args.shown.now) c.args.touched.now c.loop-at.at _ c.requires.below c.loop-at-test.true c.index-touched-at.is

pub tell_one-requires-clause-room : goal.tell_one-requires-clause-room
tell_one-requires-clause-room c =
    let n = few_touched (length c.args.shown.now) c.args.touched.now c.requires.distinct c.requires.below in
    grind (arith, common_steps)

pub loop-at-preserved : goal.loop-at-preserved
loop-at-preserved c = record {
  inside = omega arith;
  told = told_more c.args.shown.now c.args.touched.now c.loop-at.at _ c.loop-at.reports.items c.tell_one.new.reports.items c.loop-at-test.true c.index-touched-at.is
      c.tell_one.ensures.is ∙ c.loop-at.invariant.told;
  few = grind (arith, common_steps);
  room = grind (arith, common_steps);
}
