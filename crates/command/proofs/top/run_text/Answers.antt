use Rattle.std.proofs.Common.{Some, None, ap, inl, subst, sym, ◌∙◌}
use Rattle.std.specs.Result.{result_err}
use Rattle.port_io.specs.Means.{PutsTo, sink_means}
use Rattle.port_io.specs.declared.ports.SinkFault.TheVariants.{Failed, OutOfMemory}
use Rattle.vcd_text.specs.Text.{begin_lines}
use Rattle.test_meaning.specs.Body.Views.{view_file}
use Rattle.command.specs.Answer.{setup_with}
use Rattle.command.specs.Regression.Runs.{status_in}
use Rattle.command.proofs.VcdRuns.{begin_broken, begin_puts, file_text}
use Rattle.command.proofs.top.run_text.Goals as goal

pub returns-in-Ok-clause-runs : goal.returns-in-Ok-clause-runs
returns-in-Ok-clause-runs g c =
    file_text (sink_means g.O.Sink) c.args.options c.args.flat.now (view_file c.args.file.now) (g.K.Gpi.content c.run_file.new.kernel)
    c.begin.new.self c.run_file.new.out c.args.out.now c.out-1.given.0
    (record {
      design = c.begin.ensures.same.design ∙ c.new-text.ensures.design ∙ c.in_ok-signals.ensures;
      last = c.begin.ensures.last ∙ c.new-text.ensures.last;
      begun = begin_puts (sink_means g.O.Sink) c.args.flat.now c.new-text.result c.begin.new.self c.args.out.now c.begin.result None
          (c.new-text.ensures.design ∙ c.in_ok-signals.ensures) c.new-text.ensures.now (ap result_err c.in-Ok.is) c.begin.ensures.puts;
    })
    (λ same. c.out-1.given.1 (sym c.new-text.ensures.same_reference ∙ sym c.begin.ensures.same.same_reference ∙ sym same.same_reference))
    (status_in c.run_file.result) c.run_file.ensures.runs

pub returns-in-Err-Failed-clause-runs : goal.returns-in-Err-Failed-clause-runs
returns-in-Err-Failed-clause-runs g c =
    begin_broken (sink_means g.O.Sink) (setup_with c.args.options.trace c.args.flat.now (view_file c.args.file.now)) c.args.options.seed
    (view_file c.args.file.now).cases c.args.options.budget c.args.out.now c.in-Err-Failed.out-in-Err-1-own.given.0
    (subst (λ (o : g.row.O.Denot). PutsTo (sink_means g.O.Sink) c.args.out.now (begin_lines c.args.flat.now) (Some Failed) o)
    (sym (c.in-Err-Failed.out-in-Err-1-own.given.1 (sym c.new-text.ensures.same_reference ∙ sym c.begin.ensures.same.same_reference)))
    (begin_puts (sink_means g.O.Sink) c.args.flat.now c.new-text.result c.begin.new.self c.args.out.now c.begin.result (Some Failed)
    (c.new-text.ensures.design ∙ c.in_ok-signals.ensures) c.new-text.ensures.now (ap result_err c.in-Err-Failed.is ∙ ap Some c.in-Err-Failed.field-0-is) c.begin.ensures.puts))

pub returns-clause-runs : goal.returns-clause-runs
returns-clause-runs g c =
    inl (subst (λ (o : g.row.O.Denot). PutsTo (sink_means g.O.Sink) c.args.out.now (begin_lines c.args.flat.now) (Some OutOfMemory) o)
    (sym (c.in-Err-OutOfMemory.out-in-Err-1-own.given.1 (sym c.new-text.ensures.same_reference ∙ sym c.begin.ensures.same.same_reference)))
    (begin_puts (sink_means g.O.Sink) c.args.flat.now c.new-text.result c.begin.new.self c.args.out.now c.begin.result (Some OutOfMemory)
    (c.new-text.ensures.design ∙ c.in_ok-signals.ensures) c.new-text.ensures.now (ap result_err c.in-Err-OutOfMemory.is ∙ ap Some c.in-Err-OutOfMemory.field-0-is) c.begin.ensures.puts))
