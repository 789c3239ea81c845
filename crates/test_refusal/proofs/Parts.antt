-- What an item's own line breaks, by its parts.
use Rattle.std.proofs.Common.{◌≡◌, ◌≢◌, ◌||◌, ◌&&◌, ◌<◌, ◌≤◌, ◌+◌, not, min, ℕ, nat_lt, suc, Bool, true, false, List, [], ◌∷◌, ◌++◌, Option, Some, None, refl, sym, ap, subst, ◌∙◌, if◌then◌else◌, arith}
use Rattle.std.proofs.lemmas.Bool.Decides.{nat_tests}
use Rattle.std.specs.Option.{option_or}
use Rattle.py_syntax.specs.BlockTrees.{ModuleItem, TextAt, LineAt, FunctionAt}
use Rattle.test_refusal.specs.Items.Functions.{function_name, is_decorated_behind}
use Rattle.test_refusal.specs.Items.OwnLine.{first_rule, own_rule}
use Rattle.test_refusal.proofs.ItemsLemmas.Functions.{misfit_by_parts, test_by_parts}
use Rattle.test_refusal.proofs.ItemsLemmas.Counts.{tests_with_item}
use Rattle.test_refusal.proofs.ItemsLemmas.Lines.{by_parts}
use Rattle.test_refusal.specs.Makers.SoFar.{IsTestAt, cut}
use Rattle.test_meaning.specs.Rules.File.{File, Place, file_of, is_function, is_made_name, line_of, next_function, parameters_of, places}
use Rattle.test_meaning.specs.Rules.Rules.{defines_twice, first_broken, has_misfit, has_right_options, is_overfull, is_stray, is_unknown_import, lacks_parameters, one_test, refused_at, test_limit, tests_among, tests_at}
use Rattle.test_meaning.specs.Rules.Uses.{inner_lines, own_uses, with_names}
use Rattle.test_meaning.specs.declared.rules.rule.FileRule.{FileRule}
use Rattle.test_meaning.specs.declared.rules.rule.FileRule.TheVariants as rule
use Rattle.test_names.specs.Uses.Answer.{answer, first_of}
use Rattle.test_meaning.specs.declared.rules.rule.Refusal.{Refusal}
use Rattle.test_refusal.specs.Pass.{defined_rule, first_of_item, later_rule, placed_rule}

-- first the place, then the definitions
split : (u : Bool) (o : Option FileRule) (m t w v : Bool) → first_rule u o m t (not w) v
    ≡ option_or (if u then Some rule.UnknownImport else first_of o (if m then Some rule.Misplaced else None))
    (if t then Some rule.DuplicateName else (if not w then Some rule.BadOption else (if v then Some rule.TooManyCases else None)))
split true o m t w v = refl
split false o m t w v = refl

pub own_rule_split : (f : File) (p : Place) → own_rule f p ≡ option_or (placed_rule f p) (defined_rule f p)
own_rule_split f p =
    by_parts f p
    ∙ split (is_unknown_import p.item) (answer f (with_names (file_of p.above) []) (own_uses p.item)) (is_stray p || has_misfit f p) (defines_twice p) (has_right_options f (file_of p.above) p.item) (is_overfull f p)

-- a function without the parameters that it needs
pub misfit : (items xs ys : List ModuleItem) (x : ModuleItem) (d : Bool) → items ≡ xs ++ x ∷ ys → d ≡ is_decorated_behind xs
    → has_misfit (file_of items) (record { item = x; above = xs; below = ys })
    ≡ (is_function x && lacks_parameters d (is_made_name (file_of items) (function_name x)) (parameters_of x))
misfit items xs ys x d e is =
    subst (λ (zs : List ModuleItem). has_misfit (file_of zs) (record { item = x; above = xs; below = ys })
    ≡ (is_function x && lacks_parameters d (is_made_name (file_of zs) (function_name x)) (parameters_of x))) (sym e)
    (misfit_by_parts xs ys x ∙ ap (λ c. is_function x && lacks_parameters c (is_made_name (file_of (xs ++ x ∷ ys)) (function_name x)) (parameters_of x)) (sym is))

-- a function that is a test
pub test_at : (items xs ys : List ModuleItem) (x : ModuleItem) (d t : Bool) → items ≡ xs ++ x ∷ ys → d ≡ is_decorated_behind xs
    → t ≡ (is_function x && (d && not (is_made_name (file_of items) (function_name x)))) → IsTestAt (file_of items) xs x t
test_at items xs ys x d t e is q = subst (λ (zs : List ModuleItem). t ≡ (is_function x && (d && not (is_made_name (file_of zs) (function_name x)))) → IsTestAt (file_of zs) xs x t) (sym e) (shown x) q
  where
    shown : (y : ModuleItem) → t ≡ (is_function y && (d && not (is_made_name (file_of (xs ++ y ∷ ys)) (function_name y)))) → IsTestAt (file_of (xs ++ y ∷ ys)) xs y t
    shown (TextAt l) q w = cc
    shown (LineAt l z) q w = cc
    shown (FunctionAt l f ps b) q w =
        test_by_parts xs ys l f ps b
        ∙ ap (λ c. if c && not (is_made_name (file_of (xs ++ FunctionAt l f ps b ∷ ys)) f) then 1 else 0) (sym is)
        ∙ ap (λ (c : Bool). if c then 1 else 0) (sym q)

-- a number that was cut is above the limit exactly where the number is
above_limit : (n : ℕ) → nat_lt test_limit (cut n) ≡ nat_lt test_limit n
above_limit n = grind (arith, nat_tests)

pub overfull : (f : File) (p : Place) (n : ℕ) → n ≡ cut (tests_among f (places (p.above ++ p.item ∷ []))) → nat_lt test_limit n ≡ is_overfull f p
overfull f p n e = ap (λ m. nat_lt test_limit m) e ∙ above_limit (tests_among f (places (p.above ++ p.item ∷ [])))

-- numbers that were cut, and their sum
pub cut_sum : (a b : ℕ) → cut (cut a + cut b) ≡ cut (a + b)
cut_sum a b = omega arith

-- the tests at some items and at one more
pub tests_summed : (f : File) (xs : List ModuleItem) (x : ModuleItem) (n m r : ℕ) → n ≡ cut (tests_among f (places xs)) → m ≡ cut (tests_at f (file_of xs) x) → r ≡ cut (n + m)
    → r ≡ cut (tests_among f (places (xs ++ x ∷ [])))
tests_summed f xs x n m r a b e =
    e ∙ ap (λ k. cut (k + m)) a ∙ ap (λ k. cut (cut (tests_among f (places xs)) + k)) b ∙ cut_sum (tests_among f (places xs)) (tests_at f (file_of xs) x)
    ∙ ap (λ k. cut k) (sym (tests_with_item f xs x))

-- ---- what is refused

pub own_placed : (f : File) (p : Place) (l : ℕ) (o : Option FileRule) (r : FileRule) (q : Refusal) → o ≡ placed_rule f p → o ≡ Some r → Some q ≡ refused_at l (Some r)
    → refused_at l (own_rule f p) ≡ Some q
own_placed f p l o r q e w is =
    ap (λ (s : Option FileRule). refused_at l s) (own_rule_split f p ∙ ap (λ (s : Option FileRule). option_or s (defined_rule f p)) (sym e ∙ w)) ∙ sym is

pub own_defined : (f : File) (p : Place) (l : ℕ) (o : Option FileRule) → o ≡ placed_rule f p → o ≡ None → refused_at l (own_rule f p) ≡ refused_at l (defined_rule f p)
own_defined f p l o e w = ap (λ (s : Option FileRule). refused_at l s) (own_rule_split f p ∙ ap (λ (s : Option FileRule). option_or s (defined_rule f p)) (sym e ∙ w))

pub twice_defined : (f : File) (p : Place) (l : ℕ) (q : Refusal) → defines_twice p ≡ true → Some q ≡ refused_at l (Some rule.DuplicateName)
    → refused_at l (defined_rule f p) ≡ Some q
twice_defined f p l q h is = ap (λ b. refused_at l (if b then Some rule.DuplicateName else later_rule f p)) h ∙ sym is

pub once_defined : (f : File) (p : Place) (l : ℕ) (o : Option FileRule) → defines_twice p ≡ false → o ≡ later_rule f p → refused_at l (defined_rule f p) ≡ refused_at l o
once_defined f p l o h e =
    ap (λ b. refused_at l (if b then Some rule.DuplicateName else later_rule f p)) h ∙ ap (λ (s : Option FileRule). refused_at l s) (sym e)

-- the item's own line breaks no rule
pub inner_alone : (f : File) (p : Place) → refused_at (line_of p.item) (own_rule f p) ≡ None → first_of_item f p ≡ first_broken f (inner_lines (file_of p.above) p.item)
inner_alone f p h = ap (λ (r : Option Refusal). option_or r (first_broken f (inner_lines (file_of p.above) p.item))) h

pub own_alone : (f : File) (p : Place) (q : Refusal) → refused_at (line_of p.item) (own_rule f p) ≡ Some q → first_of_item f p ≡ Some q
own_alone f p q h = ap (λ (r : Option Refusal). option_or r (first_broken f (inner_lines (file_of p.above) p.item))) h

-- ---- choices of two

pub or_first : (a b s : Bool) → a ≡ s → a ≡ true → a ≡ (s || b)
or_first a b s e w = w ∙ ap (λ c. c || b) (sym w ∙ e)

pub or_second : (a b r s : Bool) → a ≡ s → a ≡ false → b ≡ r → b ≡ (s || r)
or_second a b r s e w h = h ∙ ap (λ c. c || r) (sym w ∙ e)

pub none_left : {A : Type 0} (o : Option A) → ((a : A) → o ≢ Some a) → o ≡ None
none_left None h = refl
none_left (Some a) h = absurd (h a refl)
