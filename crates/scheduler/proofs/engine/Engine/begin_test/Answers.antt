use Rattle.std.proofs.Common.{◌≡◌, ℕ, List, ap, subst, ◌∙◌}
use Rattle.port_io.specs.Ports.{AppendsPart}
use Rattle.port_io.proofs.PartLaws.{part_one}
use Rattle.rig_model.specs.Run.Line.{test_line}
use Rattle.scheduler.proofs.engine.Engine.begin_test.Goals as goal

pub returns-clause-begins : goal.returns-clause-begins
returns-clause-begins g c =
    let e : c.as_slice.result.now ≡ test_line (g.K.Gpi.content c.args.kernel.now).state.time c.args.case.now.name
    = c.as_slice.ensures.value ∙ c.in_ok-line.ensures ∙ ap (λ (time : ℕ). test_line time c.bytes.result.now) c.now.ensures
    ∙ ap (test_line (g.K.Gpi.content c.args.kernel.now).state.time) c.bytes.ensures in
    part_one g.O.Sink.takes g.O.Sink.told c.args.out.now _ c.put.new.self
    (subst (λ (line : List ℕ). AppendsPart (g.O.Sink.told c.args.out.now) (g.O.Sink.told c.put.new.self) line) e c.in-Err-OutOfMemory.ensures.part)
