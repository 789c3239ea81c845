use Rattle.std.proofs.Common.{length}
use Rattle.list_kernel.specs.Kernel.{content_of}
use Rattle.kernel_base.specs.Steps.{from_reports}
use Rattle.kernel_base.proofs.Told.{told_answers, event_tells}
use Rattle.list_kernel.proofs.kernel.ListKernelGpi.advance.Goals as goal

pub returns-clause-told : goal.returns-clause-told
returns-clause-told c =
    told_answers (content_of c.args.self.now) (content_of c.one_event.new.self) (from_reports (content_of c.args.self.now)) c.one_event.result
    (length c.args.self.now.values.shown.items) c.one_event.ensures.is
    (event_tells (content_of c.args.self.now) c.requires.reports c.requires.updates.due c.requires.updates.later)
