-- One more part before those that are together.
use Rattle.v_process.proofs.AssignLemmas.Onward.{behind_none, behind_more}
use Rattle.v_process.proofs.assign.continuous.together.Goals as goal

pub loop-part-init : goal.loop-part-init
loop-part-init c = behind_none c.args.parts.items c.none-found.result c.none-found.ensures

pub loop-part-preserved : goal.loop-part-preserved
loop-part-preserved c =
    behind_more c.args.parts.items c.loop-part.parts.items c.pop.new.self.items c.in-Some.part c.loop-part.found c.in_ok-found.found c.in-Some.ensures.items
    c.in_ok-found.ensures c.loop-part.invariant
