-- From what a file breaks to what its check answers.
use Rattle.std.proofs.Common.{◌≡◌, true, List, Option, Some, None, Ok, Err, sym, ap, ◌∙◌}
use Rattle.py_syntax.specs.BlockTrees.{ModuleItem}
use Rattle.test_meaning.specs.Body.BodyTrees.{TestFile}
use Rattle.test_meaning.specs.Body.Sound.{is_sound}
use Rattle.test_meaning.specs.Check.{check, checked, meaning}
use Rattle.test_meaning.specs.Rules.File.{File, file_of}
use Rattle.test_meaning.specs.Rules.Rules.{refusal}
use Rattle.test_meaning.specs.declared.rules.rule.Refusal.{Refusal}
use Rattle.test_file.specs.Sound.Starts.{are_right_starts}
use Rattle.test_file.proofs.SoundLemmas.Files.{accepted_is_sound}

pub unbroken : (o : Option Refusal) (f : File) → o ≡ refusal f → o ≡ None → refusal f ≡ None
unbroken o f e none = sym e ∙ none

pub accepted : (xs : List ModuleItem) (m : TestFile) → refusal (file_of xs) ≡ None → m ≡ meaning (file_of xs) → check xs ≡ Ok m
accepted xs m none e = ap (λ (o : Option Refusal). checked (file_of xs) o) none ∙ ap (λ (t : TestFile). Ok t) (sym e)

pub refused : (xs : List ModuleItem) (o : Option Refusal) (r : Refusal) → o ≡ refusal (file_of xs) → o ≡ Some r → check xs ≡ Err r
refused xs o r e w = ap (λ (p : Option Refusal). checked (file_of xs) p) (sym e ∙ w)

pub sound : (xs : List ModuleItem) (m : TestFile) → are_right_starts xs ≡ true → refusal (file_of xs) ≡ None → m ≡ meaning (file_of xs) → is_sound m ≡ true
sound xs m right none e = ap (λ (t : TestFile). is_sound t) e ∙ accepted_is_sound xs right none
