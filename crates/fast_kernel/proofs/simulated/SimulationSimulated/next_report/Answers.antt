use Rattle.fast_kernel.proofs.Taken.{report_taken}
use Rattle.fast_kernel.proofs.simulated.SimulationSimulated.next_report.Goals as goal

pub returns-clause-is : goal.returns-clause-is
returns-clause-is c = report_taken c.args.self.now c.next_report.new.told c.deref.result.now c.next_report.result c.deref.ensures.value c.next_report.ensures
