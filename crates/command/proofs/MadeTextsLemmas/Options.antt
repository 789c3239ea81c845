-- The lines of the options, cut where their numbers begin and end.
use Rattle.std.specs.Prelude.{◌≡◌, ℕ, List, ◌++◌, codes}
use Rattle.std.proofs.Common.{ap, sym, ◌∙◌, append_assoc}
use Rattle.command.specs.MadeTexts.Texts.{numbers_to, most_workers, most_cycles, options_text}

-- what ends a line of options, and the next lines
ended : (numbers close end rest : List ℕ) → numbers ++ (close ++ (end ++ rest)) ≡ ((numbers ++ close) ++ end) ++ rest
ended numbers close end rest = sym (append_assoc (numbers ++ close) end rest ∙ append_assoc numbers close (end ++ rest))

-- the text of both options, by their numbers
abbrev pub options_of : List ℕ → List ℕ → List ℕ
options_of workers cycles =
    codes "tf.add_option(\"n\", [" ++ (workers ++ (codes "])\ntf.add_option(\"m\", [" ++ (cycles ++ codes "])\ntf.generate_tests()\n")))

pub options_are : (number : ℕ) (workers cycles : List ℕ) → workers ≡ numbers_to (most_workers number) → cycles ≡ numbers_to (most_cycles number)
    → options_of workers cycles ≡ options_text number
unfolding options_text
options_are number workers cycles some more =
    let first : List ℕ = numbers_to (most_workers number) in
    let second : List ℕ = numbers_to (most_cycles number) in
    let close : List ℕ = codes "])" in
    let front : List ℕ = codes "tf.add_option(\"m\", [" in
    ap (λ (x : List ℕ). options_of x cycles) some ∙ ap (λ (x : List ℕ). options_of first x) more
    ∙ ap (λ (x : List ℕ). codes "tf.add_option(\"n\", [" ++ x) (ended first close (codes "\n") (front ++ (second ++ codes "])\ntf.generate_tests()\n")))
    ∙ ap (λ (x : List ℕ). codes "tf.add_option(\"n\", [" ++ (((first ++ close) ++ codes "\n") ++ (front ++ x))) (ended second close (codes "\n") (codes "tf.generate_tests()\n"))
