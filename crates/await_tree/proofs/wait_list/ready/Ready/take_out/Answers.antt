use Rattle.std.proofs.Common.{◌∙◌, arith}
use Rattle.await_tree.proofs.WaitListLemmas.RingLaws.{turned, turned_fits, turned_found}
use Rattle.await_tree.proofs.wait_list.ready.Ready.take_out.Goals as goal

pub loop-left-preserved : goal.loop-left-preserved
loop-left-preserved c = record {
  left = omega arith;
  entries = turned c.args.task c.args.self.now.entries c.loop-left.self.entries c.turn_round-is_own.new.self.entries c.loop-left.left (omega arith) (omega arith)
      c.loop-left.invariant.entries c.turn_round-is_own.ensures.entries;
  found = c.either-found.ensures
      ∙ turned_found c.args.task c.args.self.now.entries c.loop-left.self.entries c.loop-left.left c.loop-left.found c.turn_round-is_own.result (omega arith) (omega arith)
      c.loop-left.invariant.entries c.loop-left.invariant.found c.turn_round-is_own.ensures.is;
  room = c.turn_round-is_own.ensures.room ∙ c.loop-left.invariant.room;
  fits = turned_fits c.args.task c.loop-left.self.entries c.turn_round-is_own.new.self.entries c.loop-left.self.room c.turn_round-is_own.new.self.room
      c.turn_round-is_own.ensures.entries c.loop-left.invariant.fits c.turn_round-is_own.ensures.room;
}
