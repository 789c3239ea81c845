-- The end of a comment and a line without a token, in what a loop has left.
use Rattle.std.proofs.Common.{◌≡◌, ℕ, zero, suc, ◌+◌, ◌<◌, ◌≤◌, true, false, cond, eqb, List, [], ◌∷◌, length, get_or, take, drop, Option}
use Rattle.std.proofs.Common.{Some, None, nat_eq, ap, ◌∙◌, sym, refl, arith}
use Rattle.std.specs.Prelude.{option_map}
use Rattle.std.specs.List.{starts_with}
use Rattle.std.proofs.lemmas.List.{drop-drop, drop_all}
use Rattle.std.proofs.lemmas.Bool.{cond-true, cond-false, eq-eqb, ne_eqb}
use Rattle.v_lex.specs.declared.bytes.ByteClass.TheVariants as class
use Rattle.v_lex.specs.Bytes.{run}
use lib.Chars.{codes}
use Rattle.v_lex.specs.Comments.{comment_end}
use Rattle.v_lex.specs.DirectiveScan.{is_blank, blank_behind, gap_size}

comment_end_step : (text : List ℕ) → 0 < length text
    → comment_end text ≡ cond (starts_with nat_eq text (codes "*/")) (Some 2) (option_map suc (comment_end (drop 1 text)))
unfolding comment_end
comment_end_step [] h = absurd (omega arith)
comment_end_step (b ∷ bs) h = refl

moved : (i : ℕ) (o : Option ℕ) → option_map (λ (n : ℕ). i + n) (option_map suc o) ≡ option_map (λ (n : ℕ). i + 1 + n) o
moved i None = refl
moved i (Some n) = let e : i + suc n ≡ i + 1 + n = omega arith in ap Some e

pub comment_end_here : (text : List ℕ) (i : ℕ) → 0 < length (drop i text) → starts_with nat_eq (drop i text) (codes "*/") ≡ true
    → option_map (λ (n : ℕ). i + n) (comment_end (drop i text)) ≡ comment_end text → Some (i + 2) ≡ comment_end text
comment_end_here text i h t e =
    let f = comment_end_step (drop i text) h ∙ cond-true _ _ _ t in
    sym (ap (option_map (λ (n : ℕ). i + n)) f) ∙ e

pub comment_end_later : (text : List ℕ) (i : ℕ) → 0 < length (drop i text) → starts_with nat_eq (drop i text) (codes "*/") ≡ false
    → option_map (λ (n : ℕ). i + n) (comment_end (drop i text)) ≡ comment_end text
    → option_map (λ (n : ℕ). i + 1 + n) (comment_end (drop (i + 1) text)) ≡ comment_end text
comment_end_later text i h t e =
    let f = comment_end_step (drop i text) h ∙ cond-false _ _ _ t in
    let g = ap comment_end (drop-drop 1 i text) in
    ap (option_map (λ (n : ℕ). i + 1 + n)) (sym g) ∙ sym (moved i (comment_end (drop 1 (drop i text))))
    ∙ sym (ap (option_map (λ (n : ℕ). i + n)) f) ∙ e

pub comment_end_none : (text : List ℕ) (i : ℕ) → length text ≤ i → option_map (λ (n : ℕ). i + n) (comment_end (drop i text))
    ≡ comment_end text → None ≡ comment_end text
unfolding comment_end
comment_end_none text i h e = sym (ap (λ xs. option_map (λ (n : ℕ). i + n) (comment_end xs)) (drop_all i text h)) ∙ e

pub blank_nil : (n : ℕ) → is_blank n [] ≡ true
unfolding is_blank
blank_nil zero = refl
blank_nil (suc n) = refl

pub blank_zero : (line : List ℕ) → is_blank 0 line ≡ true
unfolding is_blank
blank_zero line = refl

blank_cons : (n b : ℕ) (bs : List ℕ)
    → is_blank (suc n) (b ∷ bs) ≡ cond (eqb b 10) true (blank_behind (is_blank n) (b ∷ bs) (gap_size (b ∷ bs)))
unfolding is_blank
blank_cons n b bs = refl

blank_step : (n m : ℕ) (text : List ℕ) → n ≡ suc m → 0 < length text
    → is_blank n text ≡ cond (eqb (get_or text 0 0) 10) true (blank_behind (is_blank m) text (gap_size text))
blank_step n m [] e h = absurd (omega arith)
blank_step n m (b ∷ bs) e h = ap (λ k. is_blank k (b ∷ bs)) e ∙ blank_cons m b bs

pub blank_at_end : (n m : ℕ) (text : List ℕ) → n ≡ suc m → 0 < length text → get_or text 0 0 ≡ 10 → is_blank n text ≡ true
blank_at_end n m text e h t = blank_step n m text e h ∙ cond-true _ _ _ (eq-eqb _ _ t)

pub blank_wrong : (n m : ℕ) (text : List ℕ) → n ≡ suc m → 0 < length text → (get_or text 0 0 ≡ 10 → ⊥) → gap_size text ≡ None
    → is_blank n text ≡ false
blank_wrong n m text e h t g = blank_step n m text e h ∙ cond-false _ _ _ (ne_eqb _ _ t) ∙ ap (blank_behind (is_blank m) text) g

pub blank_past : (n m k : ℕ) (text : List ℕ) → n ≡ suc m → 0 < length text → (get_or text 0 0 ≡ 10 → ⊥) → gap_size text ≡ Some k
    → (run class.Line (take k text) ≡ k → ⊥) → is_blank n text ≡ true
blank_past n m k text e h t g p =
    blank_step n m text e h ∙ cond-false _ _ _ (ne_eqb _ _ t) ∙ ap (blank_behind (is_blank m) text) g ∙ cond-false _ _ _ (ne_eqb _ _ p)

pub blank_goes_on : (n m k : ℕ) (text : List ℕ) → n ≡ suc m → 0 < length text → (get_or text 0 0 ≡ 10 → ⊥) → gap_size text ≡ Some k
    → run class.Line (take k text) ≡ k → is_blank n text ≡ is_blank m (drop k text)
blank_goes_on n m k text e h t g p =
    blank_step n m text e h ∙ cond-false _ _ _ (ne_eqb _ _ t) ∙ ap (blank_behind (is_blank m) text) g ∙ cond-true _ _ _ (eq-eqb _ _ p)
