use Rattle.std.proofs.Common.{List, ℕ, [], ◌∷◌, ◌∙◌, subst}
use Rattle.std.specs.Result.{result_err}
use Rattle.port_io.specs.Means.{PutsTo, sink_means}
use Rattle.vcd_text.proofs.PutLaws.{put_done}
use Rattle.vcd_text.proofs.lines.put_made.Goals as goal

pub returns-in-Ok-clause-puts : goal.returns-in-Ok-clause-puts
returns-in-Ok-clause-puts g c = λ line is.
    subst (λ (l : List ℕ). PutsTo (sink_means g.O.Sink) c.args.out.now (l ∷ []) (result_err c.put.result) c.put.new.self)
    (c.deref.ensures.value ∙ rw c.in-Ok.is at is)
    (put_done (sink_means g.O.Sink) c.args.out.now c.deref.result.now c.put.result c.put.new.self c.put.ensures.taken c.put.ensures.broken c.put.ensures.part)
