use Rattle.list_kernel.proofs.Taken.{due_taken, taken_sig, taken_inside}
use Rattle.list_kernel.proofs.kernel.ListKernelSimulated.next_due.Goals as goal

pub returns-clause-is : goal.returns-clause-is
returns-clause-is c = due_taken c.args.self.now c.take_first.new.list c.take_first.result c.take_first.ensures.is

pub returns-clause-sig : goal.returns-clause-sig
returns-clause-sig c =
    let k = c.args.self.now in
    taken_sig _ k.updates.due.items c.take_first.new.list.items k.values.shown.items c.take_first.result c.requires.updates.due c.take_first.ensures.is

pub returns-clause-inside : goal.returns-clause-inside
returns-clause-inside c =
    let k = c.args.self.now in
    taken_inside _ k.updates.due.items c.take_first.new.list.items k.values.shown.items c.take_first.result c.requires.updates.due c.take_first.ensures.is
