-- Where the first byte passes a test, some bytes do.
use Rattle.std.proofs.Common.{◌≡◌, ℕ, ◌<◌, Bool, true, false, List, [], ◌∷◌, length, arith, ◌==◌}
use Rattle.py_syntax.specs.Texts.{literal_len}
use Rattle.py_lex.specs.Fits.{IsLiteral}
use Rattle.std.specs.Prelude.{slice_index}
use Rattle.std.specs.List.{take_while, prefix_len}
use Rattle.std.proofs.lemmas.Grind.{common_steps}
use Rattle.std.proofs.lemmas.Bool.Decides.{nat_tests}

positive_len : (p : ℕ → Bool) (text : List ℕ) → 0 < length text → p (slice_index text 0) ≡ true → 0 < prefix_len p text
positive_len p [] n e = absurd (omega arith)
positive_len p (b ∷ bs) n e = rw e (omega arith)

pub first_passes : (p : ℕ → Bool) (text : List ℕ) → 0 < length text → p (slice_index text 0) ≡ true → 0 < length (take_while p text)
first_passes p text n e = let h = positive_len p text n e in grind (arith, common_steps)

pub first_literal : (quote : ℕ) (text : List ℕ) → 0 < length text → IsLiteral quote (slice_index text 0) → 0 < literal_len quote false text
unfolding literal_len
first_literal quote [] n l = absurd (omega arith)
first_literal quote (b ∷ bs) n l =
    let e : (b == 10) ≡ false = differs b 10 l.no_line_feed in
    let f : (b == quote) ≡ false = differs b quote l.no_quote in
    rw (e, f, l.no_brace) (omega arith)
  where
    differs : (x y : ℕ) → (x ≡ y → ⊥) → (x == y) ≡ false
    differs x y h = grind (arith, nat_tests)
