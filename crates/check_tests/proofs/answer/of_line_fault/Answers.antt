-- Each fault is a broken rule.
use Rattle.py_syntax.specs.Logical.{broken_on}
use Rattle.py_syntax.specs.declared.piece.LineRule.TheVariants as rule
use Rattle.check_tests.proofs.Faults.{fault_shown}
use Rattle.check_tests.proofs.answer.of_line_fault.Goals as goal

pub returns-in-Tab : goal.returns-in-Tab
returns-in-Tab c = fault_shown (broken_on c.in-Tab.line rule.Tab) _ _ c.in-Tab.is c.at_line.ensures

pub returns-in-Dedent : goal.returns-in-Dedent
returns-in-Dedent c = fault_shown (broken_on c.in-Dedent.line rule.Dedent) _ _ c.in-Dedent.is c.at_line-in-Dedent.ensures

pub returns-in-UnclosedText : goal.returns-in-UnclosedText
returns-in-UnclosedText c =
    fault_shown (broken_on c.in-UnclosedText.line rule.UnclosedText) _ _ c.in-UnclosedText.is c.at_line-in-UnclosedText.ensures

pub returns-in-BadByte : goal.returns-in-BadByte
returns-in-BadByte c = fault_shown (broken_on c.in-BadByte.line rule.BadByte) _ _ c.in-BadByte.is c.at_line-in-BadByte.ensures
