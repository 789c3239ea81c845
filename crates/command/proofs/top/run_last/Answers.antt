use Rattle.std.specs.Prelude.{ℕ, List, [], ◌∷◌}
use Rattle.std.proofs.Common.{subst}
use Rattle.port_io.specs.Means.{sink_means}
use Rattle.test_meaning.specs.Body.Views.{view_file}
use Rattle.command.specs.Regression.Runs.{EndsTo}
use Rattle.command.proofs.LastRuns.{last_put}
use Rattle.command.proofs.top.run_last.Goals as goal

pub returns-clause-runs : goal.returns-clause-runs
returns-clause-runs g c =
    last_put (sink_means g.O.Sink) c.args.options c.args.flat.now (view_file c.args.file.now) c.in_ok-own.own c.put_line.result (g.K.Gpi.content c.run_file.new.kernel)
    c.new-last.result c.run_file.new.out c.args.out.now c.put_line.new.out c.in_default.not-NoMemory c.in_ok-own.ensures.runs
    (subst (λ (line : List ℕ). EndsTo (sink_means g.O.Sink) (line ∷ []) c.in_ok-own.own c.put_line.result c.args.out.now c.put_line.new.out) c.bytes.ensures c.put_line.ensures)
