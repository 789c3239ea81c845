use Rattle.std.specs.Prelude.{ℕ, List, [], ◌∷◌, Some, Err}
use Rattle.std.proofs.Common.{ap, subst, arith}
use Rattle.std.proofs.lemmas.Result.{err_from_is_err_and}
use Rattle.port_io.specs.Means.{PutsTo, sink_means}
use Rattle.vcd_text.proofs.PutLaws.{put_last, put_next, put_one}
use Rattle.vcd_text.proofs.lines.put_lines.Goals as goal

pub returns-in_err-put-clause-puts : goal.returns-in_err-put-clause-puts
returns-in_err-put-clause-puts g c =
    let q = err_from_is_err_and c.from_residual.result c.from_residual.ensures.1 in
    rw (q.1, q.2) (c.loop-at.invariant.puts (Some c.in_err-put.field-0.0) c.put.new.self
    (put_last (sink_means g.O.Sink) c.loop-at.out c.args.lines.now c.loop-at.at c.get.result.now c.in_err-put.field-0.0 c.put.new.self c.get.ensures
    (subst (λ (line : List ℕ). PutsTo (sink_means g.O.Sink) c.loop-at.out (line ∷ []) (Some c.in_err-put.field-0.0) c.put.new.self) c.bytes.ensures
    (put_one (sink_means g.O.Sink) c.in_err-put.field-0.0 c.loop-at.out c.bytes.result.now c.put.new.self (λ e. c.in_err-put.ensures.broken (ap Err e)) c.in_err-put.ensures.part))))

pub loop-at-preserved : goal.loop-at-preserved
loop-at-preserved g c = record {
  puts = λ fault out rest. c.loop-at.invariant.puts fault out
      (put_next (sink_means g.O.Sink) c.loop-at.out c.args.lines.now c.loop-at.at c.get.result.now c.put.new.self fault out c.get.ensures
      (subst (λ (line : List ℕ). g.O.Sink.takes c.loop-at.out line c.put.new.self) c.bytes.ensures c.in_ok-put.ensures.taken) rest);
  count = let a = c.loop-at.invariant.count in let b = c.put.ensures.count in omega (arith, a, b);
}
