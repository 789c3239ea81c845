use Rattle.std.proofs.lemmas.Result.{on_ok_weaker}
use Rattle.gpi.specs.Content.{Registers}
use Rattle.trigger_table.proofs.AwaitLemmas.{adds_other, adds_registered, asked_own, out_own}
use Rattle.trigger_table.proofs.awaiting.register_new.Goals as goal

pub register-requires-clause-asked : goal.register-requires-clause-asked
register-requires-clause-asked g c = asked_own (g.K.Gpi.content c.args.kernel.now) c.args.on c.in-Key.key c.in-Key.is c.requires.asked c.requires.new

pub register-requires-clause-new : goal.register-requires-clause-new
register-requires-clause-new g c = out_own (g.K.Gpi.content c.args.kernel.now) c.args.on c.in-Key.key c.in-Key.is c.requires.new

pub returns-in-Key-clause-ok : goal.returns-in-Key-clause-ok
returns-in-Key-clause-ok g c =
    on_ok_weaker c.register.result
    (λ (r : Registers (g.K.Gpi.content c.args.kernel.now) c.in-Key.key (g.K.Gpi.content c.register.new.self)). adds_registered (g.K.Gpi.content c.args.kernel.now) (g.K.Gpi.content c.register.new.self) c.args.on c.in-Key.key c.in-Key.is
    (out_own (g.K.Gpi.content c.args.kernel.now) c.args.on c.in-Key.key c.in-Key.is c.requires.new) r) c.register.ensures.is

pub returns-in_default-clause-ok : goal.returns-in_default-clause-ok
returns-in_default-clause-ok g c = adds_other (g.K.Gpi.content c.args.kernel.now) c.args.on c.in_default.not-Key
