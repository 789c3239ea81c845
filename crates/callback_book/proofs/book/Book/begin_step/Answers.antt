use Rattle.std.proofs.Common.{ap, ◌∙◌}
use Rattle.gpi.specs.Keys.{fired_of}
use Rattle.callback_book.proofs.Keys.{step_list, time_fires}
use Rattle.callback_book.proofs.book.Book.begin_step.Goals as goal

pub returns-clause-fired : goal.returns-clause-fired
returns-clause-fired c = λ ts e.
    c.in_order.ensures
    ∙ ap fired_of (step_list c.args.time c.args.there ts c.args.self.now _ _ c.taken-first.ensures.fired c.taken_time-second.ensures.fired e)

pub returns-clause-is : goal.returns-clause-is
returns-clause-is c = λ ts us e w.
    time_fires c.args.time c.args.there ts us c.args.self.now c.taken-first.new.self c.taken_time-second.new.self _ c.taken-first.ensures.fired c.taken-first.ensures.is e w
    c.taken_time-second.ensures.is c.taken_time-second.ensures.counts c.taken_time-second.ensures.signals
