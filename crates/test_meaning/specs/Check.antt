-- The check of a tests file: what it stands for, or the first line that breaks a rule.
use Rattle.std.specs.Prelude.{List, Option, Some, None, Result, Ok, Err}
use Rattle.py_syntax.specs.BlockTrees.{ModuleItem}
use Rattle.test_meaning.specs.Body.BodyTrees.{TestFile}
use Rattle.test_meaning.specs.Cases.{cases}
use Rattle.test_meaning.specs.Library.{functions}
use Rattle.test_meaning.specs.Rules.File.{File, file_of}
use Rattle.test_meaning.specs.Rules.Rules.{refusal}
use Rattle.test_meaning.specs.declared.rules.rule.Refusal.{Refusal}

-- what a file stands for that breaks no rule
abbrev pub meaning : File → TestFile
meaning f = record { functions = functions f; cases = cases f }

abbrev pub checked : File → Option Refusal → Result TestFile Refusal
checked f None = Ok (meaning f)
checked f (Some r) = Err r

abbrev pub check : List ModuleItem → Result TestFile Refusal
check xs = checked (file_of xs) (refusal (file_of xs))
