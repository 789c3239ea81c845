-- A means of proof: what the law says that accepted files are sound, for the proofs of the reading of a tests file.
use Rattle.std.specs.Prelude.{◌≡◌, true, List, None}
use Rattle.py_syntax.specs.BlockTrees.{ModuleItem}
use Rattle.test_meaning.specs.Body.Sound.{is_sound}
use Rattle.test_meaning.specs.Check.{meaning}
use Rattle.test_meaning.specs.Rules.File.{file_of}
use Rattle.test_meaning.specs.Rules.Rules.{refusal}
use Rattle.test_file.specs.Sound.Starts.{are_right_starts}

abbrev pub Accepted_is_sound : Type 0
Accepted_is_sound =
    (xs : List ModuleItem) → are_right_starts xs ≡ true → refusal (file_of xs) ≡ None → is_sound (meaning (file_of xs)) ≡ true
