-- What the module stands for, or the rule that it breaks.
use Rattle.py_syntax.specs.BlockTrees.{view_module}
use Rattle.test_file.proofs.TextLemmas.FaultLaws.{broken_file}
use Rattle.test_file.proofs.TextLemmas.StartLaws.{starts_are_right}
use Rattle.test_file.proofs.text.reader.file_of.Goals as goal

pub returns-in-Ok-clause-found : goal.returns-in-Ok-clause-found
returns-in-Ok-clause-found c = λ text short m. record { short = short; items = view_module c.args.tree; is_module = m; is = c.in-Ok.ensures.checks }

pub returns-in-Ok-clause-sound : goal.returns-in-Ok-clause-sound
returns-in-Ok-clause-sound c = λ text m. c.in-Ok.ensures.sound (starts_are_right (view_module c.args.tree) m.lines m.spells)

pub returns-in-Err-Rule-clause-refused : goal.returns-in-Err-Rule-clause-refused
returns-in-Err-Rule-clause-refused c =
    λ text short m. rw c.broken.ensures (short, record { items = view_module c.args.tree; is_module = m; is = broken_file (view_module c.args.tree) c.in-Err-Rule.field-0 c.in-Err-Rule.rule c.in-Err-Rule.line c.in-Err-Rule.ensures.checks c.in-Err-Rule.field-0-is })
