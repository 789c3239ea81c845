use Rattle.list_kernel.proofs.Taken.{report_taken}
use Rattle.list_kernel.proofs.kernel.ListKernelSimulated.next_report.Goals as goal

pub returns-clause-is : goal.returns-clause-is
returns-clause-is c = report_taken c.args.self.now c.take_first.new.list c.take_first.result c.take_first.ensures.is
