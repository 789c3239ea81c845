use Rattle.std.proofs.Common.{subst}
use Rattle.gpi.specs.Content.{Answers}
use Rattle.gpi.specs.Events.{event}
use Rattle.gpi.specs.declared.types.Advance.{Advance}
use Rattle.edge_tests.proofs.KernelLemmas.BookLaws.{event_out}
use Rattle.edge_tests.proofs.kernel.booked.advanced.Goals as goal

pub returns-in-Moved-clause-book : goal.returns-in-Moved-clause-book
returns-in-Moved-clause-book g c =
    let before = g.K.Gpi.content c.args.kernel.now in
    let after = g.K.Gpi.content c.advance.new.self in
    event_out before after c.in-Moved.moved c.args.book.now c.take_fired.new.self c.requires.book
    (subst (λ (a : Advance). Answers before (event before.procs before.state before.keys) a after) c.in-Moved.is c.in_ok-advance.ensures.is)
    c.advance.ensures.widths c.take_fired.ensures.signals c.take_fired.ensures.keys
