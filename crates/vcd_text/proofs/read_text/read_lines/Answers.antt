use Rattle.std.proofs.Common.{ℕ, ◌+◌, arith, subst}
use Rattle.vcd_text.specs.Reader.{state_of}
use Rattle.vcd_text.specs.Rules.{IsRefused}
use Rattle.vcd_text.proofs.ReadLaws.{behind_broken, behind_more, next_shorter}
use Rattle.vcd_text.proofs.TakeLaws.{bad_said}
use Rattle.vcd_text.proofs.read_text.read_lines.Goals as goal

pub lines-preserved : goal.lines-preserved
lines-preserved c =
    record {
      kept = c.in-Ok-true.ensures.kept;
      behind = behind_more c.args.text.now c.lines.rest.now c.lines.number (state_of c.lines.reader) c.lines.invariant.behind c.in-Some.line.now c.in-Some.behind.now c.in-Some.ensures
          (state_of c.take.new.self) (rw c.in-Ok-true.field-0-test at c.in-Ok-true.ensures.takes);
      few = let e = next_shorter c.lines.rest.now c.in-Some.line.now c.in-Some.behind.now c.in-Some.ensures in let f = c.lines.invariant.few in omega (arith, e, f);
    }

pub returns-in-Ok-false-clause-refused : goal.returns-in-Ok-false-clause-refused
returns-in-Ok-false-clause-refused c =
    λ line h.
    subst (λ (k : ℕ). IsRefused c.args.text.now k) (bad_said (c.lines.number + 1) line h)
    (behind_broken c.args.text.now c.lines.rest.now c.lines.number (state_of c.lines.reader) c.lines.invariant.behind c.in-Some.line.now c.in-Some.behind.now c.in-Some.ensures
    (rw c.in-Ok-false.field-0-test at c.in-Ok-false.ensures.takes))
