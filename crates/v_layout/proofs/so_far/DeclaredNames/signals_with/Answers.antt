-- A name that is declared has as many signals, and another one more.
use Rattle.v_layout.specs.Kept.{named_declared}
use Rattle.v_layout.proofs.Counts.{again_counted, first_counted}
use Rattle.v_layout.proofs.so_far.DeclaredNames.signals_with.Goals as goal

pub returns-in-Some : goal.returns-in-Some
returns-in-Some c =
    again_counted (named_declared c.args.name.now c.args.declared) (named_declared c.args.name.now c.in-Some.field-0) c.args.self.now c.self.inside.table c.self.inside.signals
    c.self.view_is c.in-Some.ensures c.requires c.self.invariant

pub returns-in-None : goal.returns-in-None
returns-in-None c =
    first_counted (named_declared c.args.name.now c.args.declared) c.args.self.now c.self.inside.table c.more_signals.result c.self.view_is c.in-None.ensures c.more_signals.ensures
