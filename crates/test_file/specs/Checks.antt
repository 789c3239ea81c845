-- A means of proof: what the check of a tests file answers, for its proofs.
use Rattle.std.specs.Prelude.{◌≡◌, List, Result, Ok, Err}
use Rattle.py_syntax.specs.BlockTrees.{ModuleItem}
use Rattle.py_syntax.specs.Line.{physical_line}
use Rattle.test_meaning.specs.Body.Views.{view_file}
use Rattle.test_meaning.specs.declared.body.file.TestFile.{TestFile}
use Rattle.test_meaning.specs.Check.{check}
use Rattle.test_file.specs.declared.fault.FileFault.{FileFault}
use Rattle.test_file.specs.declared.fault.FileFault.TheVariants.{Rule, OutOfMemory}

-- what these items stand for, or the first line that breaks a rule, and the rule; want of memory says nothing
abbrev pub Checks : List ModuleItem → Result TestFile FileFault → Type 0
Checks xs (Ok f) = check xs ≡ Ok (view_file f)
Checks xs (Err (Rule r l)) = check xs ≡ Err (record { rule = r; line = physical_line l })
Checks xs (Err OutOfMemory) = Unit {0}
