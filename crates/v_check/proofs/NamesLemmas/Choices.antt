-- What a select chooses.
use Rattle.std.proofs.Common.{◌≡◌, ℕ, ◌≤◌, List, Option, Some, None, Bool, true, false, min, nat_le, if◌then◌else◌, refl, sym, ap, ◌∙◌, subst, arith}
use Rattle.std.proofs.lemmas.Bool.Decides.{nat_tests}
use Rattle.four_value.specs.declared.Digit.{Digit}
use Rattle.four_value.specs.Vector.{number}
use Rattle.gpi.specs.declared.terms.Term.{Term}
use Rattle.gpi.specs.declared.terms.Term.TheVariants.{Const}
use Rattle.gpi.specs.Terms.{IsWidth}
use Rattle.v_syntax.specs.ExpressionTrees.{Tree, SelectTree, Bit, Part, IndexedPart, first_at}
use Rattle.v_flat.specs.declared.scope.rule.ElabRule.TheVariants as rule
use Rattle.v_flat.specs.declared.scope.found.Found.{Found}
use Rattle.v_flat.specs.declared.scope.found.Found.TheVariants.{Sound}
use Rattle.v_flat.specs.Scope.Found.{each, both, followed, and_then, needs, Holds}
use Rattle.v_flat.specs.declared.scope.meaning.Bounds.{Bounds}
use Rattle.v_flat.specs.Scope.Scope.{Scope, span}
use Rattle.v_flat.proofs.ScopeLemmas.Gathered.{same_each, each_each, each_needs, each_then, then_same}
use Rattle.v_flat.specs.Scope.Limits.{counted_width}
use Rattle.v_flat.proofs.ScopeLemmas.CutWidths.{fits_cut}
use Rattle.v_flat.specs.Expressions.{number_or, own_number, own_value, no_signals, width, lesser, select_base}
use Rattle.v_flat.specs.Checks.{checked, index, constant_of, counted, narrow, part_width, go_with}
use Rattle.v_check.specs.Constants.Checked.{IsCount}
use Rattle.v_flat.proofs.Holds.{holds_both, holds_followed, holds_each, holds_then, holds_needs}
use Rattle.v_flat.proofs.Widths.{count_found}
use Rattle.v_check.proofs.ConstantsLemmas.Unsignalled.{one_meaning}
use Rattle.v_check.specs.declared.names.choice.Choice.{Choice}
use Rattle.v_check.specs.declared.names.selects.CheckedSelect.{CheckedSelect}
use Rattle.v_check.specs.declared.names.selects.CheckedSelect.TheVariants as code
use Rattle.v_check.specs.Names.Selects.{StandsAlone, IsIndex, IsSelect, Chooses, IsChosen}
use Rattle.v_check.specs.Names.Made.{bit_choice, pair_choice, lesser_by, lesser_of, range_of_numbers, range_choice, choice_from}
use Rattle.v_check.proofs.NamesLemmas.Founds.{second_of, IsValue, constant_is, constant_then, narrow_counted}

-- ---- bits

bit_chosen : (fixed : Bool) (s : Scope) (p : ℕ) (b : Bounds) (q : ℕ) (i : Tree) (x : Found Term) → IsIndex fixed s i x → IsChosen fixed s p b (Bit q i) (each bit_choice x)
bit_chosen fixed s p b q i x h = record {
  finds = each_each (λ (c : Choice). c.width) bit_choice x ∙ sym (each_each (λ (u : Unit {0}). 1) (λ (t : Term). tt) x) ∙ ap (λ (y : Found (Unit {0})). each (λ (u : Unit {0}). 1) y) h.finds
      ∙ sym (each_each counted_width (λ (u : Unit {0}). 1) (index fixed s i (checked s i)));
  holds = holds_each (λ (t : Term). StandsAlone s i t) (λ (c : Choice). Chooses s (Bit q i) c) bit_choice x h.holds
      (λ t st. record { proper = (omega arith, omega arith); own = refl; base = λ m. ap (λ (ds : List Digit). number ds) (st.means m); sound = st.sound });
}

-- ---- indexed parts

narrow_low : (p n w : ℕ) → (n ≡ w) × (1 ≤ w) → Holds (λ (v : ℕ). (n ≡ v) × IsWidth v) (narrow p w)
narrow_low p n w h = holds_needs (λ (v : ℕ). (n ≡ v) × IsWidth v) (nat_le w 128) rule.TooWide p (Sound w) (λ u. (h.0, (h.1, grind (arith, nat_tests))))

narrow_count : (s : Scope) (p : ℕ) (n : Tree) → Holds (λ (v : ℕ). (own_number s n ≡ v) × IsWidth v) (and_then (and_then (constant_of s n) (counted (first_at n))) (narrow p))
narrow_count s p n = holds_then (λ (w : ℕ). (own_number s n ≡ w) × (1 ≤ w)) (λ (v : ℕ). (own_number s n ≡ v) × IsWidth v) (and_then (constant_of s n) (counted (first_at n))) (narrow p) (count_found s n)
    (λ w h. narrow_low p (own_number s n) w h)

cut_width : (n v : ℕ) → (n ≡ v) × IsWidth v → (n ≡ counted_width v) × IsWidth (counted_width v)
cut_width n v h = let a = h.0 in let b = h.1.0 in let c = h.1.1 in (omega arith, (omega arith, omega arith))

width_of_indexed : (s : Scope) (p : ℕ) (n : Tree) (w : Found ℕ) → w ≡ each counted_width (and_then (constant_of s n) (counted (first_at n)))
    → and_then w (narrow p) ≡ each counted_width (and_then (and_then (constant_of s n) (counted (first_at n))) (narrow p))
width_of_indexed s p n w e = ap (λ (x : Found ℕ). and_then x (narrow p)) e ∙ narrow_counted p (and_then (constant_of s n) (counted (first_at n)))

indexed_chosen : (fixed : Bool) (s : Scope) (p : ℕ) (b : Bounds) (q : ℕ) (c n : Tree) (x : Found Term) (w : Found ℕ) → IsIndex fixed s c x
    → IsCount s n w → IsChosen fixed s p b (IndexedPart q c n) (each pair_choice (followed x (and_then w (narrow p))))
indexed_chosen fixed s p b q c n x w h e =
    let y = and_then (and_then (constant_of s n) (counted (first_at n))) (narrow p) in
    let f : and_then w (narrow p) ≡ each counted_width y = width_of_indexed s p n w e in record {
      finds = each_each {A = Term × ℕ} {B = Choice} {C = ℕ} (λ (z : Choice). z.width) pair_choice (followed x (and_then w (narrow p)))
          ∙ second_of x (index fixed s c (checked s c)) (and_then w (narrow p)) (λ (v : ℕ). v) y h.finds (same_each (and_then w (narrow p)) ∙ f)
          ∙ ap (λ (v : Found ℕ). each counted_width (each {A = Unit {0} × ℕ} (λ (z : Unit {0} × ℕ). z.1) (followed (index fixed s c (checked s c)) v)))
          (constant_then s n (counted (first_at n)) (narrow p));
      holds = holds_each (λ (z : Term × ℕ). StandsAlone s c z.0 × ((own_number s n ≡ z.1) × IsWidth z.1)) (λ (z : Choice). Chooses s (IndexedPart q c n) z) pair_choice (followed x (and_then w (narrow p)))
          (holds_followed (λ (t : Term). StandsAlone s c t) (λ (v : ℕ). (own_number s n ≡ v) × IsWidth v) x (and_then w (narrow p)) h.holds
          (subst (λ (v : Found ℕ). Holds (λ (v : ℕ). (own_number s n ≡ v) × IsWidth v) v) (sym f)
          (holds_each (λ (v : ℕ). (own_number s n ≡ v) × IsWidth v) (λ (v : ℕ). (own_number s n ≡ v) × IsWidth v) counted_width y (narrow_count s p n) (λ v k. cut_width (own_number s n) v k))))
          (λ z k. record { proper = k.1.1; own = k.1.0; base = λ m. ap (λ (ds : List Digit). number ds) (k.0.means m); sound = λ ws names. k.0.sound ws names.0 });
    }

-- ---- parts

lesser_some : (a b : ℕ) (ds es : List Digit) (c : Bool) → nat_le a b ≡ c → number ds ≡ Some a → number es ≡ Some b → number (if c then ds else es) ≡ Some (min a b)
lesser_some a b ds es true e h k = h ∙ ap (λ (n : ℕ). Some n) (let f : a ≤ b = grind (arith, nat_tests) in omega (arith, f))
lesser_some a b ds es false e h k = k ∙ ap (λ (n : ℕ). Some n) (let f : b ≤ a = grind (arith, nat_tests) in omega (arith, f))

lesser_number_by : (a b : Option ℕ) (ds es : List Digit) → number ds ≡ a → number es ≡ b → number (lesser_by a b ds es) ≡ lesser a b
lesser_number_by None b ds es h k = h
lesser_number_by (Some a) None ds es h k = k
lesser_number_by (Some a) (Some b) ds es h k = lesser_some a b ds es (nat_le a b) refl h k

lesser_number : (ds es : List Digit) → number (lesser_of ds es) ≡ lesser (number ds) (number es)
lesser_number ds es = lesser_number_by (number ds) (number es) ds es refl refl

span_by : (i j : ℕ) (c : Bool) → nat_le i j ≡ c → 1 ≤ span i j
span_by i j true e = rw e (omega arith)
span_by i j false e = rw e (omega arith)

span_low : (i j : ℕ) → 1 ≤ span i j
span_low i j = span_by i j (nat_le i j) refl

numbers_width : (q p : ℕ) (b : Bounds) (i j : ℕ) (ds : List Digit) → each (λ (c : Choice). c.width) (range_of_numbers q p b i j ds) ≡ each counted_width (part_width q p b i j)
numbers_width q p b i j ds =
    each_needs (λ (c : Choice). c.width) (go_with b i j) rule.BadRange q (needs (nat_le (counted_width (span i j)) 128) rule.TooWide p (Sound (record { index = Const ds; width = counted_width (span i j) })))
    ∙ ap (λ (x : Found ℕ). needs (go_with b i j) rule.BadRange q x)
    (each_needs (λ (c : Choice). c.width) (nat_le (counted_width (span i j)) 128) rule.TooWide p (Sound (record { index = Const ds; width = counted_width (span i j) }))
    ∙ ap (λ (ok : Bool). needs ok rule.TooWide p (let r : Found ℕ = Sound (counted_width (span i j)) in r)) (fits_cut (span i j))
    ∙ sym (each_needs counted_width (nat_le (span i j) 128) rule.TooWide p (Sound (span i j))))
    ∙ sym (each_needs counted_width (go_with b i j) rule.BadRange q (narrow p (span i j)))

numbers_hold : (s : Scope) (q p : ℕ) (b : Bounds) (l r : Tree) (i j : ℕ) (ds : List Digit) → own_number s l ≡ i → own_number s r ≡ j
    → ((m : ℕ → List Digit) → number ds ≡ select_base s (Part q l r) m) → Holds (λ (c : Choice). Chooses s (Part q l r) c) (range_of_numbers q p b i j ds)
numbers_hold s q p b l r i j ds e f base =
    let c : Choice = record { index = Const ds; width = counted_width (span i j) } in
    holds_needs (λ (c : Choice). Chooses s (Part q l r) c) (go_with b i j) rule.BadRange q (needs (nat_le (counted_width (span i j)) 128) rule.TooWide p (Sound c)) (λ u.
    holds_needs (λ (c : Choice). Chooses s (Part q l r) c) (nat_le (counted_width (span i j)) 128) rule.TooWide p (Sound c) (λ fits.
    let low : 1 ≤ span i j = span_low i j in
    let high : counted_width (span i j) ≤ 128 = grind (arith, nat_tests) in
    let own : span (own_number s l) (own_number s r) ≡ span i j = ap (λ (n : ℕ). span n (own_number s r)) e ∙ ap (λ (n : ℕ). span i n) f in
    record { proper = (omega (arith, low), high); own = own ∙ omega (arith, high); base = base; sound = λ ws k. tt }))

base_of_part : (s : Scope) (q : ℕ) (l r : Tree) (ds es : List Digit) → IsValue s l ds → IsValue s r es → (m : ℕ → List Digit) → number (lesser_of ds es) ≡ select_base s (Part q l r) m
base_of_part s q l r ds es h k m = lesser_number ds es
    ∙ ap (λ (xs : List Digit). lesser (number xs) (number es)) (sym h.value ∙ one_meaning s l (width s l) no_signals m h.made_of)
    ∙ ap (λ (xs : List Digit). lesser (number (own_value s l m)) (number xs)) (sym k.value ∙ one_meaning s r (width s r) no_signals m k.made_of)

range_chosen : (fixed : Bool) (s : Scope) (p : ℕ) (b : Bounds) (q : ℕ) (l r : Tree) → IsChosen fixed s p b (Part q l r) (and_then (both (constant_of s l) (constant_of s r)) (λ z. range_choice q p b z.0 z.1))
range_chosen fixed s p b q l r = record {
  finds = each_then {A = List Digit × List Digit} (λ (c : Choice). c.width) (λ z. range_choice q p b z.0 z.1) (both (constant_of s l) (constant_of s r))
      ∙ then_same {A = List Digit × List Digit} (λ z. each (λ (c : Choice). c.width) (range_choice q p b z.0 z.1)) (λ z. each counted_width (part_width q p b (number_or (number z.0)) (number_or (number z.1))))
      (both (constant_of s l) (constant_of s r)) (λ z. numbers_width q p b (number_or (number z.0)) (number_or (number z.1)) (lesser_of z.0 z.1))
      ∙ sym (each_then {A = List Digit × List Digit} counted_width (λ z. part_width q p b (number_or (number z.0)) (number_or (number z.1))) (both (constant_of s l) (constant_of s r)));
  holds = holds_then (λ (z : List Digit × List Digit). IsValue s l z.0 × IsValue s r z.1) (λ (c : Choice). Chooses s (Part q l r) c) (both (constant_of s l) (constant_of s r))
      (λ z. range_choice q p b z.0 z.1)
      (holds_both (λ (ds : List Digit). IsValue s l ds) (λ (ds : List Digit). IsValue s r ds) (constant_of s l) (constant_of s r) (constant_is s l) (constant_is s r))
      (λ z k. numbers_hold s q p b l r (number_or (number z.0)) (number_or (number z.1)) (lesser_of z.0 z.1) (ap (λ (ds : List Digit). number_or (number ds)) k.0.value)
      (ap (λ (ds : List Digit). number_or (number ds)) k.1.value) (base_of_part s q l r z.0 z.1 k.0 k.1));
}

-- ---- all of them

pub chosen : (fixed : Bool) (s : Scope) (p : ℕ) (b : Bounds) (sel : SelectTree) (x : CheckedSelect) → IsSelect fixed s sel x → IsChosen fixed s p b sel (choice_from p b x)
chosen fixed s p b (Bit q i) (code.Bit o x) h = bit_chosen fixed s p b q i x h.1
chosen fixed s p b (IndexedPart q c n) (code.IndexedPart o x w) h = indexed_chosen fixed s p b q c n x w h.1.0 h.1.1
chosen fixed s p b (Part q l r) (code.Part o x y) h =
    subst (λ (n : ℕ). IsChosen fixed s p b (Part q l r) (and_then (both x y) (λ z. range_choice n p b z.0 z.1))) h.0
    (subst (λ (v : Found (List Digit)). IsChosen fixed s p b (Part q l r) (and_then (both x v) (λ z. range_choice q p b z.0 z.1))) (sym h.1.1)
    (subst (λ (v : Found (List Digit)). IsChosen fixed s p b (Part q l r) (and_then (both v (constant_of s r)) (λ z. range_choice q p b z.0 z.1))) (sym h.1.0)
    (range_chosen fixed s p b q l r)))
chosen fixed s p b (Bit q i) (code.Part o x y) h = absurd h
chosen fixed s p b (Bit q i) (code.IndexedPart o x w) h = absurd h
chosen fixed s p b (Part q l r) (code.Bit o x) h = absurd h
chosen fixed s p b (Part q l r) (code.IndexedPart o x w) h = absurd h
chosen fixed s p b (IndexedPart q c n) (code.Bit o x) h = absurd h
chosen fixed s p b (IndexedPart q c n) (code.Part o x y) h = absurd h
