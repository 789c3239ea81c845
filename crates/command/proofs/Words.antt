-- The readings of words, and that they are of the files that a store tells.
use Rattle.std.proofs.Common.{◌≡◌, ℕ, false, List, Option, refl, subst, inl, inr}
use Rattle.port_io.specs.Ports.{GivesFile}
use Rattle.port_io.specs.Means.{StoreMeans}
use Rattle.gpi.specs.declared.design.Flat.{Flat}
use Rattle.command.specs.CommandWords.Forms as words
use Rattle.command.specs.CommandWords.Forms.{Asked, Form}
use Rattle.command.specs.declared.options.RunOptions.{RunOptions}
use Rattle.command.specs.declared.options.Shown.TheVariants.{AllLines}
use Rattle.command.specs.Reading.{Reading, refused, Reads, ReadsAsked, ReadsBoth, ReadsTests, IsTold, TextOfDesign, told_means, usage_line, options_in, most}
use Rattle.command.specs.declared.regression.status.Status.TheVariants as status

-- any options, which words without a reading may be said to have
pub any_options : RunOptions
any_options = record { budget = 1; seed = 0; trace = false; shown = AllLines }

module _ {S : Type 0} (from : StoreMeans S) where
  -- words without a reading
  pub reads_none : (said : List (List ℕ)) (s : S) (options : RunOptions) → ((form : Form) → words.Reads said form → ⊥) → Reads from said s options (refused status.Usage usage_line) s
  reads_none said s options none = inl (none, (refl, refl))

  -- words that ask for this
  pub reads_asked : (said : List (List ℕ)) (s : S) (form : Form) (r : Reading) (s' : S) → words.Reads said form → ReadsAsked from form.asked s r s'
      → Reads from said s (options_in form) r s'
  reads_asked said s form r s' is k = inr (form, is, refl, k)

  -- the reads of a store that tells its files give the first bytes of these, since no read changes what it tells
  module _ (gives_file : (before : S) (name : List ℕ) (n : ℕ) (bytes : List ℕ) (after : S) → from.gives before name n bytes after → GivesFile (from.files before) name n bytes)
      (gives_same : (before : S) (name : List ℕ) (n : ℕ) (bytes : List ℕ) (after : S) → from.gives before name n bytes after → from.files after ≡ from.files before) where
    tests_told : (there : Option (List ℕ → Option (List ℕ))) (tests : List ℕ) (flat : Flat) (s : S) (r : Reading) (s' : S) → from.files s ≡ there → ReadsTests from tests flat s r s'
        → ReadsTests (told_means there) tests flat tt r tt
    tests_told there tests flat s r s' e (inl (is, m)) = inl (is, tt)
    tests_told there tests flat s r s' e (inr (text, given, t)) =
        inr (text, subst (λ (x : Option (List ℕ → Option (List ℕ))). GivesFile x tests most text) e (gives_file s tests most text s' given), t)

    design_told : (there : Option (List ℕ → Option (List ℕ))) (top : Option (List ℕ)) (design tests text : List ℕ) (s : S) (r : Reading) (s' : S) → from.files s ≡ there
        → TextOfDesign from top design tests text s r s' → TextOfDesign (told_means there) top design tests text tt r tt
    design_told there top design tests text s r s' e (inl (why, is, same, why_is)) = inl (why, is, refl, why_is)
    design_told there top design tests text s r s' e (inr (flat, is, t)) = inr (flat, is, tests_told there tests flat s r s' e t)

    both_told : (top : Option (List ℕ)) (design tests : List ℕ) (s : S) (r : Reading) (s' : S) → ReadsBoth from top design tests s r s'
        → ReadsBoth (told_means (from.files s)) top design tests tt r tt
    both_told top design tests s r s' (inl (is, m)) = inl (is, tt)
    both_told top design tests s r s' (inr (text, mid, given, t)) =
        inr (text, tt, gives_file s design most text mid given, design_told (from.files s) top design tests text mid r s' (gives_same s design most text mid given) t)

    asked_told : (asked : Asked) (s : S) (r : Reading) (s' : S) → ReadsAsked from asked s r s' → ReadsAsked (told_means (from.files s)) asked tt r tt
    asked_told (words.files design tests top) s r s' k = both_told top design tests s r s' k
    asked_told (words.made n) s r s' (is, same) = (is, refl)

    pub reads_told : (said : List (List ℕ)) (s : S) (options : RunOptions) (r : Reading) (s' : S) → Reads from said s options r s' → IsTold (from.files s) said options r
    reads_told said s options r s' (inl (none, (e, same))) = inl (none, (e, refl))
    reads_told said s options r s' (inr (form, is, o, k)) = inr (form, is, o, asked_told form.asked s r s' k)
