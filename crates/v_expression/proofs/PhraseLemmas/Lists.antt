-- One or more of a phrase.
use Rattle.std.proofs.Common.{ℕ, Bool, true, false, List, ◌∷◌, inl, refl}
use Rattle.v_syntax.specs.declared.token.Token.{Token}
use Rattle.v_syntax.specs.declared.mark.Mark.TheVariants as mark
use Rattle.v_syntax.specs.Phrases.{Phrase}
use Rattle.v_syntax.specs.Phrases as phrase
use Rattle.v_syntax.specs.Statements as rule
use Rattle.v_expression.specs.Phrase.Readers.{Reader, starts_mark}
use Rattle.v_expression.specs.Phrase.Readers as read
use Rattle.v_expression.specs.Phrase.Kinds.{Kinds, any_kind, a_mark, last_of, without, Within, Tells}
use Rattle.v_expression.proofs.PhraseLemmas.KindLaws.{tells_mark, within}
use Rattle.v_expression.proofs.PhraseLemmas.Laws.{Spells, Laws, Ready}
use Rattle.v_expression.proofs.PhraseLemmas.Tokens.{mark_laws}
use Rattle.v_expression.proofs.PhraseLemmas.Both.{both_spells, both_by}
use Rattle.v_expression.proofs.PhraseLemmas.Many.{many_spells, many_laws}

-- what ends a list whose parts end there: not another part
abbrev pub ends_list : Kinds → Kinds → Kinds
ends_list next ends = last_of true ends (without ends next)

pub some_laws : {A : Type 0} (n : ℕ) {P : ℕ → Phrase Token A} {s t : Kinds} {p : ℕ → Reader A} (test : List Token → Bool) → Tells test s → Laws n P s false t p → Ready n P s p → Within s t
    → Laws n (λ m. phrase.some (P m)) s false (ends_list s t) (λ m. read.some test (p m))
some_laws n {s = s} {t = t} test tells l r h = both_by ◌∷◌ n l (many_laws n test tells l r h) (within s t h)

-- The separator and the part may be missing.
pub separated_laws : {S A : Type 0} (n : ℕ) {Q : ℕ → Phrase Token S} {P : ℕ → Phrase Token A} {sq s t : Kinds} {q : ℕ → Reader S} {p : ℕ → Reader A} (test : List Token → Bool) → Tells test sq
    → Laws n Q sq false any_kind q → Laws n P s false t p → (Q n).missing → (P n).missing → Within sq t
    → Laws n (λ m. phrase.separated (Q m) (P m)) s false (ends_list sq t) (λ m. read.separated test (q m) (p m))
separated_laws n {sq = sq} {t = t} test tells ql l a b h =
    both_by ◌∷◌ n l (many_laws n test tells (both_by (λ x y. y) n ql l (λ k i. refl)) (record { ready = inl (a, b) }) h) (within sq t h)

pub listed_laws : {A : Type 0} (n : ℕ) {P : ℕ → Phrase Token A} {s t : Kinds} {p : ℕ → Reader A} → Laws n P s false t p → (P n).missing → Within (a_mark mark.Comma) t
    → Laws n (λ m. rule.listed (P m)) s false (ends_list (a_mark mark.Comma) t) (λ m. read.listed (p m))
unfolding read.listed
listed_laws n {s = s} {t = t} l b h =
    both_by ◌∷◌ n l (many_laws n (starts_mark mark.Comma) (tells_mark mark.Comma) (both_by (λ x y. y) n (mark_laws mark.Comma n) l (λ k i. refl)) (record { ready = inl (tt, b) }) h) (within (a_mark mark.Comma) t h)

pub listed_spells : {A : Type 0} (n : ℕ) {P : ℕ → Phrase Token A} {s : Kinds} → Spells n P s false → Spells n (λ m. rule.listed (P m)) s false
listed_spells n l = both_spells ◌∷◌ n l (many_spells n (both_spells (λ x y. y) n (mark_laws mark.Comma n).spells l))
