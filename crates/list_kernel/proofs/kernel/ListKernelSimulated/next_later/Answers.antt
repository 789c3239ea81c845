use Rattle.kernel_base.proofs.Fits.{first_sig, first_inside}
use Rattle.list_kernel.proofs.Taken.{none_later}
use Rattle.list_kernel.proofs.kernel.ListKernelSimulated.next_later.Goals as goal

pub returns-in-Some-clause-sig : goal.returns-in-Some-clause-sig
returns-in-Some-clause-sig c = first_sig _ _ c.in-Some.update c.args.self.now.values.shown.items c.in-Some.ensures.is c.requires.held.updates.later

pub returns-in-Some-clause-inside : goal.returns-in-Some-clause-inside
returns-in-Some-clause-inside c = first_inside _ _ c.in-Some.update c.args.self.now.values.shown.items c.in-Some.ensures.is c.requires.held.updates.later

pub returns-in-None-clause-is : goal.returns-in-None-clause-is
returns-in-None-clause-is c =
    let h = c.in-None.ensures.is in
    (h.0, none_later c.args.self.now c.take_first.new.list h.0 h.1)
