use Rattle.std.proofs.Common.{◌∙◌, ℕ, List, [], ◌∷◌, subst}
use Rattle.std.specs.Result.{result_err}
use Rattle.port_io.specs.Means.{PutsTo, sink_means}
use Rattle.scheduler.proofs.PutLaws.{put_done}
use Rattle.command.proofs.RegressionLemmas.Puts.{made_line}
use Rattle.command.proofs.regression.lines.put_made.Goals as goal

pub returns-in-Ok : goal.returns-in-Ok
returns-in-Ok g c = λ line h. subst (λ (l : List ℕ). PutsTo (sink_means g.O.Sink) c.args.out.now (l ∷ []) (result_err c.put.result) c.put.new.self)
    (c.as_slice.ensures.value ∙ made_line (λ own. own.items) c.args.made c.in-Ok.line line c.in-Ok.is h)
    (put_done (sink_means g.O.Sink) c.args.out.now c.as_slice.result.now c.put.result c.put.new.self c.put.ensures.taken c.put.ensures.broken c.put.ensures.part)
