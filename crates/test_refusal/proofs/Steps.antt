-- From an item to the next.
use Rattle.std.proofs.Common.{◌≡◌, ◌||◌, ◌&&◌, ◌<◌, ◌≤◌, ◌+◌, not, ℕ, zero, suc, Bool, true, false, List, [], ◌∷◌, ◌++◌, length, map, take, drop, drop-cons, add-one, get_or, Option, Some, None, refl, sym, ap, subst, ◌∙◌, if◌then◌else◌, arith}
use Rattle.std.proofs.lemmas.List.{append_assoc, append-nil, take-append-drop, take_all, drop_all}
use Rattle.std.proofs.lemmas.List.Folds.{list_any-append}
use Rattle.std.specs.List.{list_any, flat_map}
use Rattle.std.specs.Option.{option_or}
use Rattle.py_syntax.specs.BlockTrees.{ModuleItem}
use Rattle.test_refusal.specs.Items.Functions.{function_name, is_decorated_behind}
use Rattle.test_refusal.specs.Items.OwnLine.{lines_below, own_rule}
use Rattle.test_refusal.proofs.ItemsLemmas.Functions.{decorated_by_last, test_with_item}
use Rattle.test_refusal.proofs.ItemsLemmas.Lines.{by_items}
use Rattle.test_meaning.specs.Rules.File.{File, Place, file_of, is_decorator, is_function, is_made_name, is_test, line_of}
use Rattle.test_meaning.specs.Rules.Rules.{first_broken, is_generation, no_tests, refusal, refused_at}
use Rattle.test_meaning.specs.Rules.Uses.{file_lines, inner_lines}
use Rattle.test_meaning.specs.declared.rules.rule.Refusal.{Refusal}
use Rattle.test_refusal.specs.Pass.{IsSeen, IsStepTo, first_of_item}
use Rattle.test_refusal.specs.declared.seen.Seen.{Seen}

or_none : (a : Bool) → (a || false) ≡ a
or_none true = refl
or_none false = refl

-- of four, in two orders
or_swapped : (a b c d : Bool) → (((a || b) || c) || d) ≡ ((a || c) || (b || d))
or_swapped true b c d = refl
or_swapped false true true d = refl
or_swapped false true false d = refl
or_swapped false false c d = refl

-- whether tests stand there, with one item more
pub tests_more : (f : File) (xs : List ModuleItem) (x : ModuleItem) (h t r : Bool)
    → h ≡ (list_any (is_test f) (file_of xs).functions || list_any is_generation xs)
    → t ≡ (is_function x && (is_decorated_behind xs && not (is_made_name f (function_name x)))) → r ≡ ((h || t) || is_generation x)
    → r ≡ (list_any (is_test f) (file_of (xs ++ x ∷ [])).functions || list_any is_generation (xs ++ x ∷ []))
tests_more f xs x h t r a b e =
    e ∙ ap (λ i. (i || t) || is_generation x) a ∙ or_swapped _ _ t (is_generation x)
    ∙ ap (λ i. (list_any (is_test f) (file_of xs).functions || i) || (list_any is_generation xs || is_generation x)) b
    ∙ ap (λ i. i || (list_any is_generation xs || is_generation x)) (sym (test_with_item f xs x))
    ∙ ap (λ i. list_any (is_test f) (file_of (xs ++ x ∷ [])).functions || (list_any is_generation xs || i)) (sym (or_none (is_generation x)))
    ∙ ap (λ i. list_any (is_test f) (file_of (xs ++ x ∷ [])).functions || i) (sym (list_any-append is_generation xs (x ∷ [])))

-- ---- over all items

alternative : {A : Type 0} (x y z : Option A) → option_or (option_or x y) z ≡ option_or x (option_or y z)
alternative (Some a) y z = refl
alternative None y z = refl

-- the first broken line of an item, and else of those below
pub at_item : (f : File) (xs ys : List ModuleItem) (x : ModuleItem) → first_broken f (lines_below xs (x ∷ ys))
    ≡ option_or (first_of_item f (record { item = x; above = xs; below = ys })) (first_broken f (lines_below (xs ++ x ∷ []) ys))
at_item f xs ys x =
    by_items f xs ys x
    ∙ sym (alternative (refused_at (line_of x) (own_rule f (record { item = x; above = xs; below = ys }))) (first_broken f (inner_lines (file_of xs) x)) (first_broken f (lines_below (xs ++ x ∷ []) ys)))

-- one item more from a list
pub one_on : {A : Type 0} (k : ℕ) (xs ys : List A) (x : A) → drop k xs ≡ x ∷ ys → (take (k + 1) xs ≡ take k xs ++ x ∷ []) × (drop (k + 1) xs ≡ ys)
one_on {A} k xs ys x e = (ap (λ j. take j xs) (add-one k) ∙ (on k xs e).0, ap (λ j. drop j xs) (add-one k) ∙ (on k xs e).1)
  where
    on : (j : ℕ) (zs : List A) → drop j zs ≡ x ∷ ys → (take (suc j) zs ≡ take j zs ++ x ∷ []) × (drop (suc j) zs ≡ ys)
    on zero zs e = (ap (λ l. take 1 l) e, ap (λ l. drop 1 l) e)
    on (suc j) [] e = cc
    on (suc j) (z ∷ zs) e = let more = on j zs e in (ap (λ l. z ∷ l) more.0, more.1)

pub whole_list : {A : Type 0} (k : ℕ) (xs ys : List A) (x : A) → drop k xs ≡ x ∷ ys → xs ≡ take k xs ++ x ∷ ys
whole_list k xs ys x e = sym (take-append-drop k xs) ∙ ap (λ l. take k xs ++ l) e

-- The pass stands behind so many items: what they have is known, and none of their lines breaks a rule.
pub record HasPassed (f : File) (xs : List ModuleItem) (k : ℕ) (s : Seen) : Type 0 where
  pub seen : IsSeen f (take k xs) s
  pub rest : first_broken f (lines_below [] xs) ≡ first_broken f (lines_below (take k xs) (drop k xs))

pub begun : (f : File) (xs : List ModuleItem) (s : Seen) → IsSeen f [] s → HasPassed f xs 0 s
begun f xs s h = record { seen = h; rest = refl }

-- the item at this place
at_place : (f : File) (xs ys : List ModuleItem) (k : ℕ) (x : ModuleItem) (s : Seen) → drop k xs ≡ x ∷ ys → HasPassed f xs k s
    → first_broken f (lines_below [] xs) ≡ option_or (first_of_item f (record { item = x; above = take k xs; below = ys })) (first_broken f (lines_below (take k xs ++ x ∷ []) ys))
at_place f xs ys k x s e h = h.rest ∙ ap (λ l. first_broken f (lines_below (take k xs) l)) e ∙ at_item f (take k xs) ys x

pub went_on : (f : File) (xs ys : List ModuleItem) (k : ℕ) (x : ModuleItem) (s t : Seen) → drop k xs ≡ x ∷ ys → HasPassed f xs k s
    → (first_of_item f (record { item = x; above = take k xs; below = ys }) ≡ None) × IsSeen f (take k xs ++ x ∷ []) t → HasPassed f xs (k + 1) t
went_on f xs ys k x s t e h (none, seen) =
    let on = one_on k xs ys x e in record {
      seen = subst (λ (l : List ModuleItem). IsSeen f l t) (sym on.0) seen;
      rest = at_place f xs ys k x s e h
          ∙ ap (λ (o : Option Refusal). option_or o (first_broken f (lines_below (take k xs ++ x ∷ []) ys))) none
          ∙ ap (λ l. first_broken f (lines_below l ys)) (sym on.0) ∙ ap (λ l. first_broken f (lines_below (take (k + 1) xs) l)) (sym on.1);
    }

pub stopped : (f : File) (xs ys : List ModuleItem) (k : ℕ) (x : ModuleItem) (s : Seen) (q : Refusal) → drop k xs ≡ x ∷ ys → HasPassed f xs k s
    → first_of_item f (record { item = x; above = take k xs; below = ys }) ≡ Some q → first_broken f (lines_below [] xs) ≡ Some q
stopped f xs ys k x s q e h some =
    at_place f xs ys k x s e h ∙ ap (λ (o : Option Refusal). option_or o (first_broken f (lines_below (take k xs ++ x ∷ []) ys))) some

pub ended : (f : File) (xs : List ModuleItem) (k : ℕ) (s : Seen) → length xs ≤ k → HasPassed f xs k s → (first_broken f (lines_below [] xs) ≡ None) × IsSeen f xs s
ended f xs k s past h = (
  h.rest ∙ ap (λ l. first_broken f (lines_below (take k xs) l)) (drop_all k xs past),
  subst (λ (l : List ModuleItem). IsSeen f l s) (take_all k xs past) h.seen,
)

-- ---- the whole file

pub refused_before : (f : File) (q : Refusal) → first_broken f (file_lines f) ≡ Some q → Some q ≡ refusal f
refused_before f q e = sym (ap (λ (r : Option Refusal). option_or r (no_tests f)) e)

pub refused_behind : (f : File) (r : Option Refusal) → first_broken f (file_lines f) ≡ None → r ≡ no_tests f → r ≡ refusal f
refused_behind f r e is = is ∙ sym (ap (λ (s : Option Refusal). option_or s (no_tests f)) e)
