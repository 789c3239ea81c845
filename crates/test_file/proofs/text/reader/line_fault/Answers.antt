-- The first broken rule of lines.
use Rattle.py_syntax.specs.declared.piece.LineRule.TheVariants as lines
use Rattle.test_file.proofs.TextLemmas.FaultLaws.{broken_lines}
use Rattle.test_file.proofs.text.reader.line_fault.Goals as goal

pub returns-in-Tab : goal.returns-in-Tab
returns-in-Tab c = λ text short h. rw c.broken.ensures (short, broken_lines lines.Tab c.in-Tab.line text (rw c.in-Tab.is at h))

pub returns-in-Dedent : goal.returns-in-Dedent
returns-in-Dedent c =
    λ text short h. rw c.broken-in-Dedent.ensures (short, broken_lines lines.Dedent c.in-Dedent.line text (rw c.in-Dedent.is at h))

pub returns-in-UnclosedText : goal.returns-in-UnclosedText
returns-in-UnclosedText c =
    λ text short h. rw c.broken-in-UnclosedText.ensures (short, broken_lines lines.UnclosedText c.in-UnclosedText.line text (rw c.in-UnclosedText.is at h))

pub returns-in-BadByte : goal.returns-in-BadByte
returns-in-BadByte c =
    λ text short h. rw c.broken-in-BadByte.ensures (short, broken_lines lines.BadByte c.in-BadByte.line text (rw c.in-BadByte.is at h))
