use Rattle.std.proofs.Common.{sym, ◌∙◌, Ok, Err}
use Rattle.py_lex.specs.Answer.{fault_of}
use Rattle.py_lex.proofs.Answered.{for_all, lines_answer, fault_answer, is_answered}
use Rattle.py_lex.proofs.reader.logical_lines.Goals as goal

pub returns-in-None-clause-exact : goal.returns-in-None-clause-exact
returns-in-None-clause-exact c =
    let h = lines_answer c.args.text.now c.in_ok-scanner.scanner c.in_ok-lines.lines c.in_ok-scanner.ensures c.in_ok-lines.ensures.lines (sym c.in-None.is ∙ c.in_ok-lines.ensures.broken) in
    for_all c.args.text.now (Ok c.in_ok-lines.lines) h.0 h.1 h.2

pub returns-in-None-clause-made : goal.returns-in-None-clause-made
returns-in-None-clause-made c =
    lines_answer c.args.text.now c.in_ok-scanner.scanner c.in_ok-lines.lines c.in_ok-scanner.ensures c.in_ok-lines.ensures.lines (sym c.in-None.is ∙ c.in_ok-lines.ensures.broken)

pub returns-in-Some-clause-exact : goal.returns-in-Some-clause-exact
returns-in-Some-clause-exact c =
    let h = fault_answer c.args.text.now c.in_ok-scanner.scanner c.in-Some.broken c.in_ok-scanner.ensures (sym c.in-Some.is ∙ c.in_ok-lines.ensures.broken) in
    rw c.fault_of.ensures (for_all c.args.text.now (Err (fault_of c.in-Some.broken)) h.0 h.1 h.2)

pub returns-in-Some-clause-made : goal.returns-in-Some-clause-made
returns-in-Some-clause-made c =
    let h = fault_answer c.args.text.now c.in_ok-scanner.scanner c.in-Some.broken c.in_ok-scanner.ensures (sym c.in-Some.is ∙ c.in_ok-lines.ensures.broken) in
    rw c.fault_of.ensures (is_answered c.args.text.now c.in-Some.broken h)
