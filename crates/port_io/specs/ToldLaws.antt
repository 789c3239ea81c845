-- What a sink that tells its bytes has after pieces that were put, and what its count of faults is then.
use Rattle.std.specs.Prelude.{◌≡◌, ℕ, List, [], ◌∷◌, ◌++◌, Option, None, Some}
use Rattle.std.specs.Io.KnownBytes.{Appends}
use Rattle.std.proofs.Common.{◌≤◌, subst, sym, ap, ◌∙◌, refl, append_assoc, append-nil, false, inl, inr, arith}
use Rattle.port_io.specs.Ports.{TakesAll, BreaksAt, Puts, AppendsPart, IsRaised}
use Rattle.port_io.specs.PutsPart.{IsPart, PutsPart}
use Rattle.port_io.specs.CountLaws.{same_count, then_raised}

-- the bytes of these pieces
abbrev pub joined : List (List ℕ) → List ℕ
joined [] = []
joined (piece ∷ pieces) = piece ++ joined pieces

pub joined_then : (xs ys : List (List ℕ)) → joined (xs ++ ys) ≡ joined xs ++ joined ys
joined_then [] ys = refl
joined_then (x ∷ xs) ys = ap (λ (l : List ℕ). x ++ l) (joined_then xs ys) ∙ sym (append_assoc x (joined xs) (joined ys))

-- the bytes of pieces, where a part of one of them is their front
joined_at : (front : List (List ℕ)) (piece part rest : List ℕ) (more : List (List ℕ)) → piece ≡ part ++ rest
    → joined (front ++ piece ∷ more) ≡ (joined front ++ part) ++ (rest ++ joined more)
joined_at front piece part rest more e =
    joined_then front (piece ∷ more) ∙ ap (λ (l : List ℕ). joined front ++ (l ++ joined more)) e
    ∙ ap (λ (l : List ℕ). joined front ++ l) (append_assoc part rest (joined more)) ∙ sym (append_assoc (joined front) part (rest ++ joined more))

-- known bytes that grow twice
pub appends_then : (old mid new : Option (List ℕ)) (first second : List ℕ)
    → Appends old mid first → Appends mid new second → Appends old new (first ++ second)
appends_then None mid new first second p q = tt
appends_then (Some old) None new first second p q = absurd p
appends_then (Some old) (Some mid) None first second p q = q
appends_then (Some old) (Some mid) (Some new) first second p q = rw (← append_assoc) (cc)

-- known bytes that stay
pub appends_none : (known : Option (List ℕ)) → Appends known known []
appends_none None = tt
appends_none (Some bytes) = sym (append-nil bytes)

module _ {O : Type 0} (told : O → Option (List ℕ)) (takes breaks : O → List ℕ → O → Type 0)
    (takes_told : (before : O) (piece : List ℕ) (after : O) → takes before piece after → Appends (told before) (told after) piece)
    (breaks_told : (before : O) (piece : List ℕ) (after : O) → breaks before piece after → AppendsPart (told before) (told after) piece) where
  -- where all the pieces are taken, their bytes are appended
  pub takes_all_told : (before : O) (pieces : List (List ℕ)) (after : O)
      → TakesAll takes before pieces after → Appends (told before) (told after) (joined pieces)
  takes_all_told before [] after stays =
      subst (λ (sink : O). Appends (told before) (told sink) []) (sym stays) (appends_none (told before))
  takes_all_told before (piece ∷ pieces) after (mid, taken, rest) =
      appends_then (told before) (told mid) (told after) piece (joined pieces) (takes_told before piece mid taken) (takes_all_told mid pieces after rest)

  -- where one breaks, the bytes of those before it are appended, and a part of its own, from its front
  pub breaks_at_told : (before : O) (front : List (List ℕ)) (broken : List ℕ) (after : O) → BreaksAt takes breaks before front broken after
      → (part : List ℕ) × (rest : List ℕ) × (broken ≡ part ++ rest) × Appends (told before) (told after) (joined front ++ part)
  breaks_at_told before front broken after (mid, taken, last) =
      let piece : AppendsPart (told mid) (told after) broken = breaks_told mid broken after last in (
        piece.0,
        piece.1,
        piece.2,
        appends_then (told before) (told mid) (told after) (joined front) piece.0 (takes_all_told before front mid taken) piece.3,
      )

  -- where one breaks, a front of their bytes is appended
  pub puts_broken_told : (before : O) (pieces : List (List ℕ)) (after : O) → Puts takes breaks before pieces false after → AppendsPart (told before) (told after) (joined pieces)
  puts_broken_told before pieces after (front, broken, more, split, at) =
      let piece : (part : List ℕ) × (rest : List ℕ) × (broken ≡ part ++ rest) × Appends (told before) (told after) (joined front ++ part) = breaks_at_told before front broken after at in
      (joined front ++ piece.0, piece.1 ++ joined more, ap joined split ∙ joined_at front broken piece.0 piece.1 more piece.2, piece.3)

  -- and so it is where memory is short
  pub puts_part_told : (before : O) (pieces : List (List ℕ)) (after : O) → PutsPart takes told before pieces after → AppendsPart (told before) (told after) (joined pieces)
  puts_part_told before pieces after p = cut p.part
    where
      taken : Appends (told before) (told p.mid) (joined p.front)
      taken = takes_all_told before p.front p.mid p.taken

      cut : IsPart told p.mid p.rest after → AppendsPart (told before) (told after) (joined pieces)
      cut (inl same) =
          (joined p.front, joined p.rest, ap joined p.split ∙ joined_then p.front p.rest, subst (λ (sink : O). Appends (told before) (told sink) (joined p.front)) (sym same) taken)
      cut (inr (piece, more, rest_is, (part, rest, is, appended))) = (
        joined p.front ++ part,
        rest ++ joined more,
        ap joined (p.split ∙ ap (λ (l : List (List ℕ)). p.front ++ l) rest_is) ∙ joined_at p.front piece part rest more is,
        appends_then (told before) (told p.mid) (told after) (joined p.front) part taken appended,
      )

module _ {O : Type 0} (faults : O → ℕ) (takes breaks : O → List ℕ → O → Type 0)
    (takes_count : (before : O) (piece : List ℕ) (after : O) → takes before piece after → faults before ≤ faults after)
    (breaks_count : (before : O) (piece : List ℕ) (after : O) → breaks before piece after → IsRaised (faults before) (faults after)) where
  pub takes_all_count : (before : O) (pieces : List (List ℕ)) (after : O) → TakesAll takes before pieces after → faults before ≤ faults after
  takes_all_count before [] after stays = same_count (faults before) (faults after) (ap faults stays)
  takes_all_count before (piece ∷ pieces) after (mid, taken, rest) =
      let first = takes_count before piece mid taken in let others = takes_all_count mid pieces after rest in omega arith

  -- where one breaks, the count rose
  pub puts_broken_count : (before : O) (pieces : List (List ℕ)) (after : O) → Puts takes breaks before pieces false after → IsRaised (faults before) (faults after)
  puts_broken_count before pieces after (front, broken, more, split, (mid, taken, last)) =
      then_raised (faults before) (faults mid) (faults after) (takes_all_count before front mid taken) (breaks_count mid broken after last)
