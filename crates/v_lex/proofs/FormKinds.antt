-- The first byte of a front tells its form.
use Rattle.std.proofs.Common.{◌≡◌, ℕ, ◌<◌, ◌≤◌, true, false, ◌&&◌, ◌||◌, eqb, leb, cond, List, [], ◌∷◌, ◌++◌, length, get_or, Option}
use Rattle.std.proofs.Common.{Some, None, ap, ◌∙◌, sym, refl, subst, ⊎_elim, arith}
use Rattle.std.proofs.lemmas.List.{length-append}
use Rattle.std.proofs.lemmas.Bool.{or_cases, or_from, or_left, and_parts, and_left, and_right, leb-true, lt-leb, eqb-true, ne_eqb}
use Rattle.std.proofs.lemmas.Bool.{cond-true, cond-false}
use Rattle.v_syntax.specs.declared.mark.Mark.{Mark}
use Rattle.v_syntax.specs.declared.mark.Mark.TheVariants.{CaseEqual}
use Rattle.v_syntax.specs.Marks.{mark_spelling}
use Rattle.v_lex.specs.declared.base.Base.{Base}
use Rattle.v_lex.specs.Bytes.{is_digit, is_letter, is_name_start}
use Rattle.v_lex.specs.Spelling.{Form, Word, SystemName, Number, Quoted, Sign, HasForm, IsLongest, IsDecimal, IsBased}

abbrev pub kind_of : ℕ → Option Form
kind_of b =
    cond (eqb b 34) (Some Quoted)
    (cond (eqb b 96) None
    (cond (is_digit b || eqb b 39) (Some Number)
    (cond (is_name_start b) (Some Word) (cond (eqb b 36) (Some SystemName) (Some Sign)))))

pub between : (lo hi b : ℕ) → (leb lo b && leb b hi) ≡ true → (lo ≤ b) × (b ≤ hi)
between lo hi b h = let p = and_parts (leb lo b) (leb b hi) h in (leb-true lo b p.0, leb-true b hi p.1)

pub below : (lo hi b : ℕ) → b < lo → (leb lo b && leb b hi) ≡ false
below lo hi b h = and_left (leb lo b) (leb b hi) (lt-leb lo b h)

pub above : (lo hi b : ℕ) → hi < b → (leb lo b && leb b hi) ≡ false
above lo hi b h = and_right (leb lo b) (leb b hi) (lt-leb b hi h)

-- where the bytes that begin a name stand
pub starts_range : (b : ℕ) → is_name_start b ≡ true → (57 < b) × (b ≡ 96 → ⊥)
starts_range b h =
    ⊎_elim
    (λ (l : is_letter b ≡ true). ⊎_elim
    (λ (u : (leb 65 b && leb b 90) ≡ true). let r = between 65 90 b u in (omega (arith, r.0), λ e. omega (arith, r.1, e)))
    (λ (u : (leb 97 b && leb b 122) ≡ true). let r = between 97 122 b u in (omega (arith, r.0), λ e. omega (arith, r.0, e)))
    (or_cases (leb 65 b && leb b 90) (leb 97 b && leb b 122) l))
    (λ (u : eqb b 95 ≡ true). let r = eqb-true b 95 u in (omega (arith, r), λ e. omega (arith, r, e)))
    (or_cases (is_letter b) (eqb b 95) h)

pub kind_word : (b : ℕ) → is_name_start b ≡ true → kind_of b ≡ Some Word
kind_word b h =
    let r = starts_range b h in
    let q : eqb b 34 ≡ false = ne_eqb b 34 (λ e. omega (arith, r.0, e)) in
    let t : eqb b 96 ≡ false = ne_eqb b 96 r.1 in
    let d : (is_digit b || eqb b 39) ≡ false =
    or_from (is_digit b) (eqb b 39) (above 48 57 b r.0) (ne_eqb b 39 (λ e. omega (arith, r.0, e))) in
    cond-false (eqb b 34) _ _ q ∙ cond-false (eqb b 96) _ _ t ∙ cond-false (is_digit b || eqb b 39) _ _ d
    ∙ cond-true (is_name_start b) _ _ h

pub kind_digit : (b : ℕ) → is_digit b ≡ true → kind_of b ≡ Some Number
kind_digit b h =
    let r = between 48 57 b h in
    let q : eqb b 34 ≡ false = ne_eqb b 34 (λ e. omega (arith, r.0, e)) in
    let t : eqb b 96 ≡ false = ne_eqb b 96 (λ e. omega (arith, r.1, e)) in
    cond-false (eqb b 34) _ _ q ∙ cond-false (eqb b 96) _ _ t ∙ cond-true (is_digit b || eqb b 39) _ _ (or_left (is_digit b) (eqb b 39) h)

pub kind_sign : (m : Mark) → kind_of (get_or (mark_spelling m) 0 0) ≡ Some Sign
kind_sign CaseEqual = refl
kind_sign _ = refl

sign_some : (m : Mark) → 1 ≤ length (mark_spelling m)
sign_some CaseEqual = omega arith
sign_some _ = omega arith

nil_is_none : (xs : List ℕ) → 1 ≤ length xs → [] ≡ xs → ⊥
nil_is_none xs h e = let k = ap (λ (ys : List ℕ). length ys) e in omega (arith, k)

based_kind : (b : ℕ) (bs size written : List ℕ) (base : Base) → IsBased (b ∷ bs) size written base → kind_of b ≡ Some Number
based_kind b bs [] written base h = ap (λ (xs : List ℕ). kind_of (get_or xs 0 0)) h.is
based_kind b bs (d ∷ ds) written base h =
    let first : is_digit d ≡ true = ⊎_elim
    (λ (e : d ∷ ds ≡ []). absurd (nil_is_none (d ∷ ds) (omega arith) (sym e)))
    (λ (k : IsDecimal (d ∷ ds)). k.0)
    h.sized in
    ap (λ (xs : List ℕ). kind_of (get_or xs 0 0)) h.is ∙ kind_digit d first

pub kind_is : (f : Form) (b : ℕ) (bs : List ℕ) → HasForm f (b ∷ bs) → kind_of b ≡ Some f
kind_is Word b bs h = kind_word b h.0
kind_is SystemName b bs h = ap kind_of h.0
kind_is Number b bs h = ⊎_elim
    (λ (k : IsDecimal (b ∷ bs)). kind_digit b k.0)
    (λ (k : (size written : List ℕ) × (base : Base) × IsBased (b ∷ bs) size written base). based_kind b bs k.0 k.1 k.2 k.3)
    h
kind_is Quoted b bs h = ap (λ (xs : List ℕ). kind_of (get_or xs 0 0)) h.1.0
kind_is Sign b bs h = ap (λ (xs : List ℕ). kind_of (get_or xs 0 0)) h.1 ∙ kind_sign h.0

based_some : (size written : List ℕ) (base : Base) → IsBased [] size written base → ⊥
based_some size written base h =
    let k = length-append size (39 ∷ h.letter ∷ written) in
    nil_is_none (size ++ 39 ∷ h.letter ∷ written) (omega (arith, k)) h.is

pub has_some : (f : Form) → HasForm f [] → ⊥
has_some Word h = h
has_some SystemName h = h
has_some Number h = ⊎_elim
    (λ (k : IsDecimal []). k)
    (λ (k : (size written : List ℕ) × (base : Base) × IsBased [] size written base). based_some k.0 k.1 k.2 k.3)
    h
has_some Quoted h = nil_is_none (34 ∷ h.0 ++ 34 ∷ []) (omega arith) h.1.0
has_some Sign h = nil_is_none (mark_spelling h.0) (sign_some h.0) h.1

pub some_same : (f g : Form) → Some f ≡ Some g → f ≡ g
some_same f g e = cc

pub one_form : (f g : Form) (b : ℕ) (bs cs : List ℕ) → HasForm f (b ∷ bs) → HasForm g (b ∷ cs) → f ≡ g
one_form f g b bs cs h k = some_same f g (sym (kind_is f b bs h) ∙ kind_is g b cs k)

-- A front is the longest of all forms where it is the longest of its own.
pub longest : (f : Form) (b : ℕ) (bs behind : List ℕ) → HasForm f (b ∷ bs)
    → ((more rest : List ℕ) → behind ≡ more ++ rest → HasForm f (b ∷ bs ++ more) → more ≡ [])
    → IsLongest f (b ∷ bs) behind
longest f b bs behind h most = record {
  has = h;
  most = λ other more rest e k.
      most more rest e (subst (λ (g : Form). HasForm g (b ∷ bs ++ more)) (one_form other f b (bs ++ more) bs k h) k);
}
