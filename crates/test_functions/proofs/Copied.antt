-- Names from one place on, up to another.
use Rattle.std.proofs.Common.{◌≡◌, ◌<◌, ◌≤◌, ◌+◌, ◌-◌, ℕ, List, [], ◌∷◌, ◌++◌, length, max, take, drop, get_or, slice_get, Some, sym, ap, ◌∙◌, arith}
use Rattle.std.proofs.lemmas.List.{get_or-drop, length-drop, take_more}
use Rattle.std.proofs.lemmas.Option.{get_or_from_slice_get, slice_get_within}
use Rattle.test_meaning.specs.Rules.Names.{Name}

-- the names so far
pub record AreCopied (names : List Name) (start end at : ℕ) (some : List Name) : Type 0 where
  pub copied : some ≡ take (at - start) (drop start names)
  pub above : start ≤ at
  pub below : at ≤ max start end

pub none_copied : (names : List Name) (start end at : ℕ) (some : List Name) → at ≡ start → some ≡ [] → AreCopied names start end at some
none_copied names start end at some e f = record {
  copied = f ∙ ap (λ (k : ℕ). take k (drop start names)) (let z : 0 ≡ at - start = omega (arith, e) in z);
  above = omega (arith, e);
  below = omega (arith, e);
}

-- one name more
pub one_copied : (names : List Name) (start end at : ℕ) (x y : Name) (some : List Name) → at < end → slice_get names at ≡ Some x → y ≡ x
    → AreCopied names start end at some → AreCopied names start end (at + 1) (some ++ y ∷ [])
one_copied names start end at x y some t get is so =
    let low = so.above in
    let place : start + (at - start) ≡ at = omega (arith, low) in
    let inside : at < length names = slice_get_within names at x get in
    let within : at - start < length (drop start names) = omega (arith, length-drop start names, inside, low) in
    let here : get_or (drop start names) (at - start) x ≡ x =
    get_or-drop start names (at - start) x ∙ ap (λ (k : ℕ). get_or names k x) place ∙ get_or_from_slice_get names at x x get in
    record {
      copied = ap (λ (ns : List Name). ns ++ y ∷ []) so.copied
          ∙ ap (λ (z : Name). take (at - start) (drop start names) ++ z ∷ []) (is ∙ sym here)
          ∙ sym (take_more (drop start names) (at - start) x within)
          ∙ ap (λ (k : ℕ). take k (drop start names)) (let e : at - start + 1 ≡ at + 1 - start = omega (arith, low) in e);
      above = omega (arith, low);
      below = omega (arith, t);
    }

pub all_copied : (names : List Name) (start end at : ℕ) (some : List Name) → end ≤ at → AreCopied names start end at some
    → some ≡ take (end - start) (drop start names)
all_copied names start end at some past so =
    let low = so.above in
    let high = so.below in
    so.copied ∙ ap (λ (k : ℕ). take k (drop start names)) (let e : at - start ≡ end - start = omega (arith, low, high, past) in e)
