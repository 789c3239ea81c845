use Rattle.std.proofs.Common.{ℕ, List, [], ◌∷◌, None, Some, subst}
use Rattle.std.proofs.lemmas.Result.{err_from_is_err_and}
use Rattle.port_io.specs.Means.{PutsTo, sink_means}
use Rattle.test_meaning.specs.Body.Views.{view_case}
use Rattle.rig_model.specs.Run.Line.{verdict_line}
use Rattle.rig_model.specs.declared.run.outcome.Verdict.{Verdict}
use Rattle.command.specs.Regression.Stages.{Counts}
use Rattle.command.proofs.RegressionLemmas.Skipping.{judges_broken, judges_more}
use Rattle.command.proofs.regression.lines.put_end.Goals as goal

pub returns-in_err-put_made : goal.returns-in_err-put_made
returns-in_err-put_made g c =
    let q = err_from_is_err_and c.from_residual.result c.from_residual.ensures.1 in
    rw (q.1, q.2) (judges_broken (sink_means g.O.Sink) c.args.time c.args.cases.now c.args.progress (view_case c.args.case.now) c.args.reason.now c.in_err-put_made.field-0.0 c.args.out.now c.put_made.new.out
    (subst (λ (name : List ℕ). PutsTo (sink_means g.O.Sink) c.args.out.now (verdict_line c.args.time name c.args.reason.now ∷ []) (Some c.in_err-put_made.field-0.0) c.put_made.new.out) c.bytes.ensures
    (c.in_err-put_made.ensures (verdict_line c.args.time c.bytes.result.now c.args.reason.now) c.verdict_line.ensures)))

pub returns : goal.returns
returns g c = judges_more (sink_means g.O.Sink) c.args.time c.args.cases.now c.args.progress (view_case c.args.case.now) c.args.reason.now c.with.result c.skip_tests.result c.args.out.now c.put_made.new.out c.skip_tests.new.out
    (subst (λ (v : Verdict). Counts c.args.progress v c.with.result) c.verdict_of.ensures c.with.ensures)
    (subst (λ (name : List ℕ). PutsTo (sink_means g.O.Sink) c.args.out.now (verdict_line c.args.time name c.args.reason.now ∷ []) None c.put_made.new.out) c.bytes.ensures
    (c.in_ok-put_made.ensures (verdict_line c.args.time c.bytes.result.now c.args.reason.now) c.verdict_line.ensures))
    c.skip_tests.ensures
