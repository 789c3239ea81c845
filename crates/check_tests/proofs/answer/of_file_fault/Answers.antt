-- The fault is a broken rule.
use Rattle.check_tests.proofs.Faults.{file_fault_shown}
use Rattle.check_tests.proofs.answer.of_file_fault.Goals as goal

pub returns-in-Rule : goal.returns-in-Rule
returns-in-Rule c = file_fault_shown c.in-Rule.rule c.in-Rule.line _ _ _ c.rule_name.ensures c.in-Rule.is c.at_line.ensures
