-- How wide values are, where the signals have these widths.
use Rattle.std.proofs.Common.{◌≡◌, ℕ, zero, suc, ◌+◌, ◌-◌, ◌*◌, ◌<◌, ◌≤◌, Bool, true, false, List, ◌++◌, length, Option, None, Some, refl, ap, sym, ◌∙◌, arith, rules, length-append}
use Rattle.std.proofs.lemmas.List.{length-replicate, length-map}
use Rattle.std.specs.Prelude.{IfSome, ◌&&◌, nat_le, nat_lt, min, max, if◌then◌else◌, slice_index}
use Rattle.four_value.specs.declared.Digit.{Digit}
use Rattle.four_value.specs.declared.Digit.TheVariants.{Zero, One, X, Z}
use Rattle.four_value.specs.Vector.{all_x, map2, merge_digit, not_digit, xor_digit, number, slice}
use Rattle.four_value.proofs.Tables.{length_map2}
use Rattle.four_value.proofs.Lengths.{length_add, length_sub, length_mul, length_div, length_rem, length_resize, length_slice}
use Rattle.gpi.specs.declared.operators.Unary.{Unary}
use Rattle.gpi.specs.declared.operators.Unary.TheVariants.{Plus, Minus, Invert}
use Rattle.gpi.specs.declared.operators.Arith.{Arith}
use Rattle.gpi.specs.declared.operators.Arith.TheVariants.{And, Or, Xor, Xnor, Add, Sub, Mul, Div, Rem}
use Rattle.gpi.specs.declared.operators.Shift.{Shift}
use Rattle.gpi.specs.declared.operators.Shift.TheVariants.{Up, Down}
use Rattle.gpi.specs.declared.selects.Order.{Order}
use Rattle.gpi.specs.declared.selects.Order.TheVariants.{Falling, Rising}
use Rattle.gpi.specs.declared.selects.Overlap.{Overlap}
use Rattle.gpi.specs.declared.selects.Range.{Range}
use Rattle.gpi.specs.declared.selects.Words.{Words}
use Rattle.gpi.specs.declared.terms.Term.{Term}
use Rattle.gpi.specs.declared.terms.Term.TheVariants.{Const, Signal, Word', Select', Unary', Arith', Compare', Logic', Reduce', Shift', Cond', Concat', Repeat', Resize'}
use Rattle.gpi.specs.Operators.{truth, unary_value, arith_value, shift_value, choose}
use Rattle.gpi.specs.Selects.{overlap_of, laid, shown, shown_of, word_at, IsInside}
use Rattle.gpi.specs.Terms.{AreWords, IsSound, copies, value, width, word_value}
use Rattle.gpi.proofs.Widths.{length_plus, length_minus, length_shl, length_shr}

-- ---- parts of vectors

laid_inside : (order : Order) (low whole base w first end : ℕ) → first < end → low ≤ first → base ≤ first → end ≤ low + whole → end ≤ base + w
    → IsInside whole w (laid order low (low + whole) base (base + w) first end)
laid_inside Falling low whole base w first end a b c d e = record { some = omega arith; vector = omega arith; select = omega arith }
laid_inside Rising low whole base w first end a b c d e = record { some = omega arith; vector = omega arith; select = omega arith }

between_inside : (order : Order) (low whole base w : ℕ) (b : Bool) → nat_lt (max low base) (min (low + whole) (base + w)) ≡ b
    → IfSome (if b then Some (laid order low (low + whole) base (base + w) (max low base) (min (low + whole) (base + w))) else None) (IsInside whole w)
between_inside order low whole base w true e =
    let l : max low base < min (low + whole) (base + w) = above (max low base) (min (low + whole) (base + w)) e in
    laid_inside order low whole base w (max low base) (min (low + whole) (base + w)) l (omega arith) (omega arith) (omega arith) (omega arith)
  where
    above : (m n : ℕ) → nat_lt m n ≡ true → m < n
    above m n h = search rules
between_inside order low whole base w false e = tt

-- the part of a select that a vector has lies in both
pub overlap_inside : (r : Range) (whole : ℕ) (base : Option ℕ) (w : ℕ) → IfSome (overlap_of r whole base w) (IsInside whole w)
overlap_inside r whole None w = tt
overlap_inside r whole (Some base) w = between_inside r.order r.low whole base w (nat_lt (max r.low base) (min (r.low + whole) (base + w))) refl

shown_width : (xs : List Digit) (w : ℕ) (o : Option Overlap) → IfSome o (IsInside (length xs) w) → length (shown_of xs o w) ≡ w
shown_width xs w None h = length-replicate w X
shown_width xs w (Some o) h =
    let ds : List Digit = slice xs o.place o.count in
    let n : length ds ≡ o.count = length_slice xs o.place o.count h.vector in
    let a : length (shown ds o.skip w) ≡ length (all_x o.skip ++ ds) + length (all_x (w - (o.skip + length ds)))
    = length-append (all_x o.skip ++ ds) (all_x (w - (o.skip + length ds))) in
    let b : length (all_x o.skip ++ ds) ≡ length (all_x o.skip) + length ds = length-append (all_x o.skip) ds in
    let c : length (all_x o.skip) ≡ o.skip = length-replicate o.skip X in
    let d : length (all_x (w - (o.skip + length ds))) ≡ w - (o.skip + length ds) = length-replicate (w - (o.skip + length ds)) X in
    let inside : o.skip + o.count ≤ w = h.select in
    omega arith

-- ---- words

-- the signal of a word is one of its memory
word_by : (words : Words) (i : ℕ) (b : Bool) → (nat_le words.low i && nat_lt i (words.low + words.count)) ≡ b
    → IfSome (if b then Some (words.first.0 + (i - words.low)) else None) (λ (s : ℕ). (words.first.0 ≤ s) × (s < words.first.0 + words.count))
word_by words i true e = let k : (words.low ≤ i) × (i < words.low + words.count) = inside words.low i (words.low + words.count) e in (omega arith, omega (arith, k.0, k.1))
  where
    both : (a b : Bool) → (a && b) ≡ true → (a ≡ true) × (b ≡ true)
    both true b h = (refl, h)
    both false b h = absurd (cc)

    under : (m n : ℕ) → nat_le m n ≡ true → m ≤ n
    under m n h = search rules

    above : (m n : ℕ) → nat_lt m n ≡ true → m < n
    above m n h = search rules

    inside : (low i top : ℕ) → (nat_le low i && nat_lt i top) ≡ true → (low ≤ i) × (i < top)
    inside low i top h = let k : (nat_le low i ≡ true) × (nat_lt i top ≡ true) = both (nat_le low i) (nat_lt i top) h in (under low i k.0, above i top k.1)
word_by words i false e = tt

pub word_inside : (words : Words) (o : Option ℕ) → IfSome (word_at words o) (λ (s : ℕ). (words.first.0 ≤ s) × (s < words.first.0 + words.count))
word_inside words None = tt
word_inside words (Some i) = word_by words i (nat_le words.low i && nat_lt i (words.low + words.count)) refl

-- ---- values

copies_width : (n : ℕ) (ds : List Digit) → length (copies n ds) ≡ n * length ds
copies_width zero ds = omega arith
copies_width (suc n) ds = let h : length (copies n ds) ≡ n * length ds = copies_width n ds in omega (arith, length-append ds (copies n ds))

chosen_width : (d : Digit) (xs ys : List Digit) → length xs ≡ length ys → length (choose d xs ys) ≡ length xs
chosen_width One xs ys e = refl
chosen_width Zero xs ys e = sym e
chosen_width X xs ys e = length_map2 merge_digit xs ys e
chosen_width Z xs ys e = length_map2 merge_digit xs ys e

unary_width : (op : Unary) (xs : List Digit) → length (unary_value op xs) ≡ length xs
unary_width Plus xs = length_plus xs
unary_width Minus xs = length_minus xs
unary_width Invert xs = length-map xs not_digit

arith_width : (op : Arith) (xs ys : List Digit) → length xs ≡ length ys → length (arith_value op xs ys) ≡ length xs
arith_width And xs ys e = length_map2 _ xs ys e
arith_width Or xs ys e = length_map2 _ xs ys e
arith_width Xor xs ys e = length_map2 _ xs ys e
arith_width Xnor xs ys e = length-map (map2 xor_digit xs ys) not_digit ∙ length_map2 xor_digit xs ys e
arith_width Add xs ys e = length_add xs ys
arith_width Sub xs ys e = length_sub xs ys
arith_width Mul xs ys e = length_mul xs ys
arith_width Div xs ys e = length_div xs ys
arith_width Rem xs ys e = length_rem xs ys

shift_width : (op : Shift) (xs ys : List Digit) → length (shift_value op xs ys) ≡ length xs
shift_width Up xs ys = length_shl xs ys
shift_width Down xs ys = length_shr xs ys

module _ (ws : List ℕ) (m : ℕ → List Digit) (wide : (s : ℕ) → s < length ws → length (m s) ≡ slice_index ws s) where
  word_width : (words : Words) (w : ℕ) (o : Option ℕ) → AreWords words w ws → IfSome o (λ (s : ℕ). (words.first.0 ≤ s) × (s < words.first.0 + words.count))
      → length (word_value o w m) ≡ w
  word_width words w None h k = length-replicate w X
  word_width words w (Some s) h k =
      let inside : words.first.0 + words.count ≤ length ws = h.inside in wide s (omega (arith, k.1, inside)) ∙ h.each s k.0 k.1

  -- the value of a sound term is as wide as the term
  pub value_width : (t : Term) → IsSound t ws → length (value t m) ≡ width t
  value_width (Const bits) h = refl
  value_width (Signal s w) h = wide s.0 h.0 ∙ h.1
  value_width (Word' words p i w) h = word_width words w (word_at words (number (value i m))) h.1 (word_inside words (number (value i m)))
  value_width (Select' p a range q i w) h =
      shown_width (value a m) w (overlap_of range (length (value a m)) (number (value i m)) w) (overlap_inside range (length (value a m)) (number (value i m)) w)
  value_width (Unary' op p a) h = unary_width op (value a m) ∙ value_width a h
  value_width (Arith' op p a q b) h =
      arith_width op (value a m) (value b m) (value_width a h.0 ∙ h.2 ∙ sym (value_width b h.1)) ∙ value_width a h.0
  value_width (Compare' op p a q b) h = refl
  value_width (Logic' op p a q b) h = refl
  value_width (Reduce' op p a) h = refl
  value_width (Shift' op p a q b) h = shift_width op (value a m) (value b m) ∙ value_width a h.0
  value_width (Cond' p t q a r b) h =
      chosen_width (truth (value t m)) (value a m) (value b m) (value_width a h.1 ∙ h.3 ∙ sym (value_width b h.2)) ∙ value_width a h.1
  value_width (Concat' p a q b) h =
      let x : length (value a m) ≡ width a = value_width a h.0 in
      let y : length (value b m) ≡ width b = value_width b h.1 in
      omega (arith, length-append (value b m) (value a m))
  value_width (Repeat' n p a) h = copies_width n (value a m) ∙ ap (λ (k : ℕ). n * k) (value_width a h.0)
  value_width (Resize' p a w) h = length_resize (value a m) w
