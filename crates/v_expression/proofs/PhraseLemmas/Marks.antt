-- A mark stands first, or it doesn't.
use Rattle.std.proofs.Common.{◌≡◌, Bool, true, false, List, [], ◌∷◌, Option, Some, None, Ok, refl, ap, ◌⊎◌, inl, inr, if◌then◌else◌}
use Rattle.v_syntax.specs.declared.token.Token.{Token}
use Rattle.v_syntax.specs.declared.token.Token.TheVariants as token
use Rattle.v_syntax.specs.declared.mark.Mark.{Mark}
use Rattle.v_syntax.specs.SameMarks.{same_mark}
use Rattle.v_syntax.specs.ExpressionSpans.{IsMark}
use Rattle.v_expression.specs.Phrase.Stops.{is_mark, after, behind, syntax_at}
use Rattle.v_expression.proofs.PhraseLemmas.KindLaws.{same_mark_is, same_mark_self}

pub is_mark_is : (m : Mark) (t : Token) → is_mark m t ≡ true → t ≡ token.Mark m
is_mark_is m (token.Mark k) h = ap token.Mark (same_mark_is k m h)
is_mark_is m (token.Name n) h = cc
is_mark_is m (token.Keyword w) h = cc
is_mark_is m (token.Reserved w) h = cc
is_mark_is m (token.SystemTask t) h = cc
is_mark_is m (token.Number ds) h = cc
is_mark_is m (token.Text t) h = cc

-- the mark stands here, or it doesn't
pub after_case : (m : Mark) (ts : List Token) → ((us : List Token) × (ts ≡ token.Mark m ∷ us) × (after m ts ≡ Ok us)) ⊎ (after m ts ≡ syntax_at ts)
unfolding after
after_case m [] = inr refl
after_case m (t ∷ ts) = go (is_mark m t) refl
  where
    go : (b : Bool) → is_mark m t ≡ b → ((us : List Token) × (t ∷ ts ≡ token.Mark m ∷ us) × ((if is_mark m t then Ok ts else syntax_at (t ∷ ts)) ≡ Ok us)) ⊎ ((if is_mark m t then Ok ts else syntax_at (t ∷ ts)) ≡ syntax_at (t ∷ ts))
    go true h = inl (ts, ap (λ z. z ∷ ts) (is_mark_is m t h), rw h refl)
    go false h = inr (rw h refl)

pub behind_case : (m : Mark) (ts : List Token) → ((us : List Token) × (ts ≡ token.Mark m ∷ us) × (behind m ts ≡ Some us)) ⊎ (behind m ts ≡ None)
unfolding behind
behind_case m [] = inr refl
behind_case m (t ∷ ts) = go (is_mark m t) refl
  where
    go : (b : Bool) → is_mark m t ≡ b → ((us : List Token) × (t ∷ ts ≡ token.Mark m ∷ us) × ((if is_mark m t then Some ts else None) ≡ Some us)) ⊎ ((if is_mark m t then Some ts else None) ≡ None)
    go true h = inl (ts, ap (λ z. z ∷ ts) (is_mark_is m t h), rw h refl)
    go false h = inr (rw h refl)

pub after_mark : (m : Mark) (ts us : List Token) → IsMark m ts us → after m ts ≡ Ok us
unfolding after
after_mark m ts us h = rw (h, same_mark_self m) refl

pub behind_mark : (m : Mark) (ts us : List Token) → IsMark m ts us → behind m ts ≡ Some us
unfolding behind
behind_mark m ts us h = rw (h, same_mark_self m) refl

-- another mark
pub behind_other : (m k : Mark) (ts us : List Token) → IsMark m ts us → same_mark m k ≡ false → behind k ts ≡ None
unfolding behind
behind_other m k ts us h e = rw (h, e) refl
