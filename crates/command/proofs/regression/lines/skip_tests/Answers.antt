use Rattle.std.proofs.Common.{◌≡◌, ◌<◌, ◌∙◌, ℕ, List, [], ◌∷◌, Ok, Err, None, Some, length, subst, sym, arith, true}
use Rattle.std.proofs.lemmas.Option.{slice_get_within}
use Rattle.std.proofs.lemmas.Result.{err_from_is_err_and}
use Rattle.port_io.specs.Means.{PutsTo, sink_means}
use Rattle.rig_model.specs.Run.Line.{skip_line}
use Rattle.rig_model.specs.declared.run.outcome.Verdict.TheVariants.{Skip}
use Rattle.command.proofs.RegressionLemmas.Skipping.{place_more, skip_at, skips_broken, skips_end, skips_more}
use Rattle.command.proofs.regression.lines.skip_tests.Goals as goal

pub returns-in_err-put_made : goal.returns-in_err-put_made
returns-in_err-put_made g c =
    let q = err_from_is_err_and c.from_residual.result c.from_residual.ensures.1 in
    let skip : c.get.result.now.skip ≡ true = skip_at c.args.cases.now c.skips.so_far.at c.get.result.now c.get.ensures ∙ sym c.is_skipped.ensures ∙ c.skips-test.true in
    rw (q.1, q.2) (c.skips.invariant.skips (Err c.in_err-put_made.field-0.0) c.put_made.new.out
    (skips_broken (sink_means g.O.Sink) c.args.time c.args.cases.now c.skips.so_far c.get.result.now c.get.ensures skip c.in_err-put_made.field-0.0 c.skips.out c.put_made.new.out
    (subst (λ (name : List ℕ). PutsTo (sink_means g.O.Sink) c.skips.out (skip_line c.args.time name ∷ []) (Some c.in_err-put_made.field-0.0) c.put_made.new.out) c.bytes-name.ensures
    (c.in_err-put_made.ensures (skip_line c.args.time c.bytes-name.result.now) c.skip_line.ensures))))

pub skips-preserved : goal.skips-preserved
skips-preserved g c =
    let skip : c.get.result.now.skip ≡ true = skip_at c.args.cases.now c.skips.so_far.at c.get.result.now c.get.ensures ∙ sym c.is_skipped.ensures ∙ c.skips-test.true in
    let below : c.skips.so_far.at < length c.args.cases.now = slice_get_within c.args.cases.now c.skips.so_far.at c.get.result.now c.get.ensures in
    record {
      skips = λ r out more. c.skips.invariant.skips r out
          (skips_more (sink_means g.O.Sink) c.args.time c.args.cases.now c.skips.so_far c.get.result.now c.get.ensures skip c.with-so_far.result r c.skips.out c.put_made.new.out out
          c.with-so_far.ensures
          (subst (λ (name : List ℕ). PutsTo (sink_means g.O.Sink) c.skips.out (skip_line c.args.time name ∷ []) None c.put_made.new.out) c.bytes-name.ensures
          (c.in_ok-put_made.ensures (skip_line c.args.time c.bytes-name.result.now) c.skip_line.ensures)) more);
      within = let one = c.with-so_far.ensures.places in omega (arith, one);
      place = place_more c.skips.so_far Skip c.with-so_far.result c.skips.invariant.place c.with-so_far.ensures;
    }

pub returns : goal.returns
returns g c = c.skips.invariant.skips (Ok c.skips.so_far) c.skips.out
    (skips_end (sink_means g.O.Sink) c.args.time c.args.cases.now c.skips.so_far c.skips.out c.skips.invariant.within (sym c.is_skipped.ensures ∙ c.skips-test.false))
