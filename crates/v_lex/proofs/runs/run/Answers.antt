use Rattle.std.proofs.Common.{arith, sym, ◌∙◌}
use Rattle.v_lex.proofs.RunLaws.{run_stops, run_all}
use Rattle.v_lex.proofs.runs.run.Goals as goal

pub returns-then-not-contains-clause-is : goal.returns-then-not-contains-clause-is
returns-then-not-contains-clause-is c =
    run_stops _ c.args.text.now _ c.loop-i-test.true (sym c.contains.ensures ∙ c.if-not-contains.true) c.loop-i.invariant

pub returns-clause-is : goal.returns-clause-is
returns-clause-is c = run_all _ c.args.text.now c.loop-i.i (omega arith) c.loop-i.invariant
