-- How the refusal of a text reads.
use Rattle.std.specs.Prelude.{ℕ, List, ◌++◌, codes}
use Rattle.std.specs.Fmt.{decimal}
use Rattle.test_meaning.specs.declared.rules.rule.FileRule.{FileRule}
use Rattle.test_meaning.specs.declared.rules.rule.FileRule.TheVariants as file
use Rattle.test_file.specs.declared.text.rule.TestsRule.{TestsRule}
use Rattle.test_file.specs.declared.text.rule.TestsRule.TheVariants as rule
use Rattle.test_file.specs.declared.text.fault.TestsRefusal.{TestsRefusal}
use Rattle.test_file.specs.declared.text.fault.TestsRefusal.TheVariants as refusal

abbrev pub file_word : FileRule → List ℕ
file_word file.UnknownImport = codes "UnknownImport"
file_word file.UnknownName = codes "UnknownName"
file_word file.Misplaced = codes "Misplaced"
file_word file.DuplicateName = codes "DuplicateName"
file_word file.BadOption = codes "BadOption"
file_word file.TooManyCases = codes "TooManyCases"
file_word file.NoTests = codes "NoTests"

abbrev pub rule_word : TestsRule → List ℕ
rule_word rule.Tab = codes "Tab"
rule_word rule.Dedent = codes "Dedent"
rule_word rule.UnclosedText = codes "UnclosedText"
rule_word rule.BadByte = codes "BadByte"
rule_word rule.BadLine = codes "BadLine"
rule_word rule.NoBlock = codes "NoBlock"
rule_word rule.TooDeep = codes "TooDeep"
rule_word (rule.File r) = file_word r

-- a rule, and the line on which it is broken
abbrev pub broken_word : TestsRule → ℕ → List ℕ
broken_word r line = rule_word r ++ codes " at line " ++ decimal line

abbrev pub refusal_word : TestsRefusal → List ℕ
refusal_word refusal.TooLong = codes "TooLong"
refusal_word (refusal.Broken r line) = broken_word r line
