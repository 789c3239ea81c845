-- A text is split into lines in one way, and there is one.
use Rattle.std.specs.Prelude.{◌≡◌, ◌≢◌, ◌⊎◌, ◌==◌, ℕ, true, false, List, [], ◌∷◌, ◌++◌, map, refl}
use Rattle.std.specs.List.{AllByRecursion}
use Rattle.std.proofs.Common.{ap, sym, ◌∙◌, append_assoc, inl, inr}
use Rattle.std.proofs.lemmas.Bool.Decides.{eqb_tells}
use Rattle.port_io.specs.ToldLaws.{joined}
use Rattle.vcd_text.specs.Spelling.{line}
use Rattle.vcd_text.specs.Reading.{IsOneLine, HasLines}
use Rattle.vcd_text.proofs.OneList.{cut_once, lacks, lacks_head, lacks_more, lacks_tail}

-- ---- no line feed

pub one_line : (text : List ℕ) → lacks 10 text ≡ true → IsOneLine text
one_line [] h [] back e = absurd (cc)
one_line [] h (b ∷ front) back e = absurd (cc)
one_line (c ∷ text) h [] back e = let same : c ≡ 10 = cc in lacks_head 10 c text h same
one_line (c ∷ text) h (b ∷ front) back e = let t : text ≡ front ++ 10 ∷ back = cc in one_line text (lacks_tail 10 c text h) front back t

pub lacks_feed : (text : List ℕ) → IsOneLine text → lacks 10 text ≡ true
lacks_feed [] h = refl
lacks_feed (c ∷ text) h = lacks_more 10 c text (λ e. h [] text (ap (λ (k : ℕ). k ∷ text) e)) (lacks_feed text (λ front back e. h (c ∷ front) back (ap (λ (l : List ℕ). c ∷ l) e)))

-- ---- one way

abbrev pub text_is : List (List ℕ) → List ℕ → List ℕ
text_is lines open_line = joined (map line lines) ++ open_line

first_is : (a : List ℕ) (lines : List (List ℕ)) (open_line : List ℕ) → text_is (a ∷ lines) open_line ≡ a ++ 10 ∷ text_is lines open_line
first_is a lines open_line = append_assoc (a ++ 10 ∷ []) (joined (map line lines)) open_line ∙ append_assoc a (10 ∷ []) (text_is lines open_line)

pub lines_once : (a b : List (List ℕ)) (x y : List ℕ) → AllByRecursion IsOneLine a → AllByRecursion IsOneLine b → IsOneLine x → IsOneLine y → text_is a x ≡ text_is b y → (a ≡ b) × (x ≡ y)
lines_once [] [] x y p q u v e = (refl, e)
lines_once [] (l ∷ b) x y p q u v e = absurd (u l (text_is b y) (e ∙ first_is l b y))
lines_once (k ∷ a) [] x y p q u v e = absurd (v k (text_is a x) (sym e ∙ first_is k a x))
lines_once (k ∷ a) (l ∷ b) x y p q u v e =
    let cut = cut_once 10 k (text_is a x) l (text_is b y) (lacks_feed k p.0) (lacks_feed l q.0) (sym (first_is k a x) ∙ (e ∙ first_is l b y)) in
    let more = lines_once a b x y p.1 q.1 u v cut.1 in
    (ap (λ (t : List ℕ). t ∷ a) cut.0 ∙ ap (λ (ts : List (List ℕ)). l ∷ ts) more.0, more.1)

-- ---- and there is one

abbrev Split : List ℕ → Type 0
Split text = (lines : List (List ℕ)) × (open_line : List ℕ) × HasLines text lines open_line

empty_line : IsOneLine []
empty_line = one_line [] refl

longer : (b : ℕ) (text : List ℕ) → (b ≡ 10 → ⊥) → IsOneLine text → IsOneLine (b ∷ text)
longer b text other h = one_line (b ∷ text) (lacks_more 10 b text other (lacks_feed text h))

pub lines_of : (text : List ℕ) → Split text
lines_of [] = ([], [], record { each = tt; last = empty_line; split = refl })
lines_of (b ∷ text) = by (eqb_tells b 10) (lines_of text)
  where
    by : (((b == 10) ≡ true) × (b ≡ 10)) ⊎ (((b == 10) ≡ false) × (b ≢ 10)) → Split text → Split (b ∷ text)
    by (inl h) (lines, open_line, s) =
        ([] ∷ lines, open_line, record { each = (empty_line, s.each); last = s.last; split = ap (λ (k : ℕ). k ∷ text) h.1 ∙ ap (λ (l : List ℕ). 10 ∷ l) s.split })
    by (inr h) ([], open_line, s) = ([], b ∷ open_line, record { each = tt; last = longer b open_line h.1 s.last; split = ap (λ (l : List ℕ). b ∷ l) s.split })
    by (inr h) (l ∷ lines, open_line, s) =
        ((b ∷ l) ∷ lines, open_line, record { each = (longer b l h.1 s.each.0, s.each.1); last = s.last; split = ap (λ (t : List ℕ). b ∷ t) s.split })
