-- A means of proof: what tests are read as, as it is shown, for the test program of runs.
use Rattle.std.specs.Prelude.{◌≡◌, ℕ, List, ◌++◌, length, Result, Ok, Err, codes}
use Rattle.std.specs.Fmt.{decimal}
use Rattle.test_meaning.specs.Body.Views.{view_file}
use Rattle.test_meaning.specs.declared.body.file.TestFile.{TestFile}
use Rattle.test_file.specs.declared.text.fault.TestsRefusal.{TestsRefusal}
use Rattle.test_file.specs.Text.Tests.{IsRefused, IsTests}
use Rattle.test_file.specs.Text.Words.{refusal_word}
use Rattle.table_rows.specs.Shown.{latin}

-- The text is a tests file, or is refused for this reason.
abbrev pub AreRead : List ℕ → Result TestFile TestsRefusal → Type 0
AreRead source (Ok file) = IsTests source (view_file file)
AreRead source (Err why) = IsRefused why source

-- so many functions, and so many tests
abbrev pub numbers_word : ℕ → ℕ → List ℕ
numbers_word functions tests = decimal functions ++ (codes " functions, " ++ (decimal tests ++ codes " tests"))

-- how many functions it has, `Clock.start`, `Queue.put` and `Queue.get` among them, and how many tests
abbrev pub file_word : TestFile → List ℕ
file_word file = numbers_word (length file.functions) (length file.cases)

-- the file, or the reason
abbrev pub tests_word : Result TestFile TestsRefusal → List ℕ
tests_word (Ok file) = file_word file
tests_word (Err why) = latin (refusal_word why)

-- The tests file that the text is, or why it is none.
pub record ShowsTests (source text : List ℕ) : Type 0 where
  pub found : Result TestFile TestsRefusal
  pub are_read : AreRead source found
  pub shows : text ≡ tests_word found
