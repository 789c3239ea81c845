use Rattle.vcd_text.proofs.SplitLaws.{not_number, not_utf8, same_found}
use Rattle.vcd_text.proofs.traced_line.time_of.Goals as goal

pub returns-in-Err : goal.returns-in-Err
returns-in-Err c = not_utf8 c.args.text.now c.in-Err.ensures.cases.0

pub returns-in-None : goal.returns-in-None
returns-in-None c = not_number c.args.text.now c.in-Ok.digits.now c.in-Ok.ensures.cases.0 c.in-None.ensures

pub returns-in-Some : goal.returns-in-Some
returns-in-Some c = same_found c.args.text.now c.in-Ok.digits.now c.in-Some.time c.in-Ok.ensures.cases.0 c.in-Some.ensures c.same_time.result c.same_time.ensures
