-- What a reading that is put together tells of its parts.
use Rattle.std.proofs.Common.{◌≡◌, List, [], ◌∷◌, Option, Some, None, Bool, true, false, refl, subst, ◌⊎◌, inl, inr, ◌&&◌, if◌then◌else◌}
use Rattle.py_syntax.specs.ExpressionSpells.{Closes}
use Rattle.py_syntax.specs.declared.token.Token.{Token}
use Rattle.py_expression.specs.Phrase.Marks.{after, end_of, after_last}
use Rattle.py_expression.proofs.PhraseLemmas.Facts.{some_same, after_last_is}
use Rattle.py_statement.specs.Call.Chosen.{also, or_else, made, ended, close_of, closed}

pub not_some : {A : Type 0} {x : A} → None ≡ Some x → ⊥
not_some e = cc

pub also_is : {A B : Type 0} (o : Option A) (more : A → Option B) (y : B) → also o more ≡ Some y → (x : A) × (o ≡ Some x) × (more x ≡ Some y)
also_is None more y e = absurd (not_some e)
also_is (Some x) more y e = (x, refl, e)

pub made_is : {A B : Type 0} (o : Option A) (make : A → B) (y : B) → made make o ≡ Some y → (x : A) × (o ≡ Some x) × (make x ≡ y)
made_is None make y e = absurd (not_some e)
made_is (Some x) make y e = (x, refl, some_same e)

pub or_is : {A : Type 0} (o other : Option A) (y : A) → or_else o other ≡ Some y → (o ≡ Some y) ⊎ ((o ≡ None) × (other ≡ Some y))
or_is None other y e = inr (refl, e)
or_is (Some x) other y e = inl e

pub end_is : (ts : List Token) (u : Unit {0}) → end_of ts ≡ Some u → ts ≡ []
end_is [] u e = refl
end_is (t ∷ ts) u e = absurd (not_some e)

pub ended_is : {A : Type 0} (x y : A) (ts : List Token) → ended x ts ≡ Some y → (ts ≡ []) × (x ≡ y)
ended_is x y ts e = let (u, a, b) = made_is (end_of ts) (λ _. x) y e in (end_is ts u a, b)

pub close_is : (ts : List Token) (u : Unit {0}) → close_of ts ≡ Some u → Closes ts []
unfolding after
close_is ts u e = let (us, a, b) = also_is (after_last ts) end_of u e in subst (λ vs. Closes ts vs) (end_is us u b) (after_last_is ts us a)

pub closed_is : {A : Type 0} (x y : A) (ts : List Token) → closed x ts ≡ Some y → Closes ts [] × (x ≡ y)
closed_is x y ts e = let (u, a, b) = made_is (close_of ts) (λ _. x) y e in (close_is ts u a, b)

pub closes_again : (here rest : List Token) → Closes here rest → after_last here ≡ Some rest
unfolding after
closes_again here rest (inl e) = rw e
closes_again here rest (inr e) = rw e

pub closed_again : {A : Type 0} (x : A) (ts : List Token) → Closes ts [] → closed x ts ≡ Some x
closed_again x ts h = rw (closes_again ts [] h)

pub choice_is : {A : Type 0} (b : Bool) (x y : A) → (if b then Some x else None) ≡ Some y → (b ≡ true) × (x ≡ y)
choice_is true x y e = (refl, some_same e)
choice_is false x y e = absurd (not_some e)

pub and_is : (a b : Bool) → (a && b) ≡ true → (a ≡ true) × (b ≡ true)
and_is true b h = (refl, h)
and_is false b h = absurd cc

-- a choice whose one side is a reading
pub when : {A : Type 0} (b : Bool) (o : Option A) (y : A) → (if b then o else None) ≡ Some y → (b ≡ true) × (o ≡ Some y)
when true o y h = (refl, h)
when false o y h = absurd (not_some h)
