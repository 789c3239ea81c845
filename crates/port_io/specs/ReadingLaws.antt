-- A means of proof: a reader that gives one piece more, and what it has left where it tells that.
use Rattle.std.specs.Prelude.{◌≡◌, ◌≢◌, ℕ, zero, suc, ◌<◌, ◌≤◌, List, [], ◌∷◌, ◌++◌, length, take, Option, None, Some, IfSome, refl}
use Rattle.std.specs.Io.KnownBytes.{Consumes, IsAtEnd}
use Rattle.std.proofs.lemmas.List.{take_all}
use Rattle.std.proofs.Common.{subst, sym, ap, ◌∙◌, append_assoc, append-nil, arith}
use Rattle.port_io.specs.ToldLaws.{joined, joined_then}
use Rattle.port_io.specs.Ports.{next_count, IsRaised}
use Rattle.port_io.specs.CountLaws.{same_count, raised_count}
use Rattle.port_io.specs.Reading.{GivesEach, OverFolder}

-- known bytes that nothing took
pub consumes_none : (known : Option (List ℕ)) → Consumes known known []
consumes_none None = tt
consumes_none (Some bytes) = refl

-- known bytes that are taken twice
pub consumes_then : (old mid new : Option (List ℕ)) (first second : List ℕ)
    → Consumes old mid first → Consumes mid new second → Consumes old new (first ++ second)
consumes_then None mid new first second p q = tt
consumes_then (Some old) None new first second p q = absurd p
consumes_then (Some old) (Some mid) None first second p q = q
consumes_then (Some old) (Some mid) (Some new) first second p q = p ∙ ap (λ (l : List ℕ). first ++ l) q ∙ sym (append_assoc first second new)

-- the count of faults stays, or rises
pub same_faults : {D : Type 0} (before after : OverFolder D) → after ≡ before → before.faults ≤ after.faults
same_faults {D} before after e = same_count before.faults after.faults (ap (λ (store : OverFolder D). store.faults) e)

pub raised_faults : {D : Type 0} (before after : OverFolder D) → after ≡ record before { faults = next_count before.faults } → IsRaised before.faults after.faults
raised_faults {D} before after e = raised_count before.faults after.faults (ap (λ (store : OverFolder D). store.faults) e)

-- a piece more
pub joined_more : (pieces : List (List ℕ)) (piece bytes all : List ℕ) → bytes ≡ joined pieces → all ≡ bytes ++ piece → all ≡ joined (pieces ++ piece ∷ [])
joined_more pieces piece bytes all e f =
    f ∙ (ap (λ (l : List ℕ). l ++ piece) e ∙ sym (joined_then pieces (piece ∷ []) ∙ ap (λ (l : List ℕ). joined pieces ++ l) (append-nil piece)))

-- some bytes of a buffer
pub some_taken : (n : ℕ) (xs : List ℕ) → 0 < n → n ≤ length xs → take n xs ≢ []
some_taken zero xs p q e = absurd (omega arith)
some_taken (suc n) [] p q e = absurd (omega arith)
some_taken (suc n) (x ∷ xs) p q e = absurd (cc)

seam : (xs ys : List ℕ) → take (length xs) (xs ++ ys) ≡ xs
seam [] ys = refl
seam (x ∷ xs) ys = ap (λ (l : List ℕ). x ∷ l) (seam xs ys)

-- what was taken of known bytes, where it is as much as was wanted, or where none is left
pub wanted_taken : (known after : Option (List ℕ)) (bytes : List ℕ) (most : ℕ) → Consumes known after bytes → length bytes ≡ most
    → IfSome known (λ left. bytes ≡ take most left)
wanted_taken None after bytes most c e = tt
wanted_taken (Some left) None bytes most c e = absurd c
wanted_taken (Some left) (Some rest) bytes most c e = rw (c, ← e) (sym (seam bytes rest))

pub all_taken : (known after : Option (List ℕ)) (bytes : List ℕ) (most : ℕ) → Consumes known after bytes → IsAtEnd after → length bytes ≤ most
    → IfSome known (λ left. bytes ≡ take most left)
all_taken None after bytes most c e h = tt
all_taken (Some left) None bytes most c e h = absurd c
all_taken (Some left) (Some rest) bytes most c e h =
    let same : left ≡ bytes = c ∙ (ap (λ (l : List ℕ). bytes ++ l) e ∙ append-nil bytes) in
    rw same (sym (take_all most bytes h))

pub end_taken : (known mid after : Option (List ℕ)) (bytes : List ℕ) (most : ℕ) → Consumes known mid bytes → Consumes mid after [] → IsAtEnd after → length bytes ≤ most
    → IfSome known (λ left. bytes ≡ take most left)
end_taken known mid after bytes most c d e h =
    all_taken known after bytes most (subst (λ (l : List ℕ). Consumes known after l) (append-nil bytes) (consumes_then known mid after bytes [] c d)) e h

module _ {R : Type 0} (gives : R → ℕ → List ℕ → R → Type 0) where
  -- one piece more
  pub gives_more : (before : R) (pieces : List (List ℕ)) (mid : R) (room : ℕ) (piece : List ℕ) (after : R)
      → GivesEach gives before pieces mid → piece ≢ [] → gives mid room piece after → GivesEach gives before (pieces ++ piece ∷ []) after
  gives_more before [] mid room piece after e some g = (room, after, some, subst (λ (r : R). gives r room piece after) e g, refl)
  gives_more before (first ∷ pieces) mid room piece after e some g = (e.0, e.1, e.2, e.3, gives_more e.1 pieces mid room piece after e.4 some g)

  module _ (left : R → Option (List ℕ))
      (gives_left : (before : R) (room : ℕ) (bytes : List ℕ) (after : R) → gives before room bytes after → Consumes (left before) (left after) bytes)
      (gives_end : (before : R) (room : ℕ) (after : R) → gives before room [] after → 0 < room → IsAtEnd (left after)) where
    -- the pieces are what was taken from the bytes that were left
    pub each_left : (before : R) (pieces : List (List ℕ)) (after : R) → GivesEach gives before pieces after → Consumes (left before) (left after) (joined pieces)
    each_left before [] after e = subst (λ (r : R). Consumes (left before) (left r) []) (sym e) (consumes_none (left before))
    each_left before (piece ∷ pieces) after (room, mid, some, g, rest) =
        consumes_then (left before) (left mid) (left after) piece (joined pieces) (gives_left before room piece mid g) (each_left mid pieces after rest)
