-- Products that are cut.
use Rattle.std.proofs.Common.{◌≡◌, ◌≤◌, ◌<◌, ◌+◌, ◌*◌, ℕ, zero, suc, min, ◌-◌, ◌^◌, ◌||◌, Bool, true, false, List, [], ◌∷◌, ◌++◌, length, Option, Some, None, refl, sym, ap, ◌∙◌, if◌then◌else◌, arith}
use Rattle.std.proofs.lemmas.List.{map-append}
use Rattle.std.proofs.lemmas.List.Folds.{list_any-append}
use Rattle.std.proofs.Math.Nat.{mul-one, one-mul, mul_assoc}
use Rattle.std.specs.Option.{is_some, option_or}
use Rattle.std.specs.Str.{bytes_eq}
use Rattle.name_table.specs.Places.{first_place, noted}
use Rattle.test_meaning.specs.Rules.Names.{Name, is_among}
use Rattle.test_meaning.specs.Factory.Product.{Choice, case_count}
use Rattle.test_meaning.proofs.FactoryLemmas.Product.{counted_more}
use Rattle.test_meaning.specs.Rules.Rules.{test_limit}
use Rattle.test_refusal.specs.Makers.SoFar.{choice_names, cut}

-- one option more
pub one_more : (cs : List Choice) (c : Choice) → case_count (cs ++ c ∷ []) ≡ case_count cs * length c.values
one_more [] c = mul-one (length c.values) ∙ sym (one-mul (length c.values))
one_more (d ∷ cs) c = ap (λ n. length d.values * n) (one_more cs c) ∙ sym (mul_assoc (length d.values) (case_count cs) (length c.values))

-- a product of two numbers, of which the first was cut
pub cut_product : (a b : ℕ) → cut (cut a * b) ≡ cut (a * b)
cut_product a b =
    ap (λ n. min (min n (suc test_limit) * b) (suc test_limit)) (sym (mul-one a)) ∙ counted_more a 1 b (suc test_limit)
    ∙ ap (λ n. min (a * n) (suc test_limit)) (one-mul b)

-- an option more of a factory
pub option_more : (cs : List Choice) (c : Choice) (n k : ℕ) → n ≡ cut (case_count cs) → length c.values ≡ k → cut (n * k) ≡ cut (case_count (cs ++ c ∷ []))
option_more cs c n k e f =
    ap (λ m. cut (m * k)) e ∙ cut_product (case_count cs) k ∙ ap (λ m. cut (case_count cs * m)) (sym f) ∙ ap (λ m. cut m) (sym (one_more cs c))

-- what the code counts
pub counted : (cs : List Choice) (c : Choice) (n k p r : ℕ) → n ≡ cut (case_count cs) → length c.values ≡ k → p ≡ min (n * k) (2 ^ 64 - 1) → r ≡ cut p
    → r ≡ cut (case_count (cs ++ c ∷ []))
counted cs c n k p r e f g h = h ∙ ap (λ m. cut m) g ∙ saturated (n * k) ∙ option_more cs c n k e f
  where
    saturated : (a : ℕ) → cut (min a (2 ^ 64 - 1)) ≡ cut a
    saturated a = omega arith

or_none : (a : Bool) → (a || false) ≡ a
or_none true = refl
or_none false = refl

some_noted : (o : Option ℕ) (b : Bool) → is_some (option_or o (if b then Some 0 else None)) ≡ (is_some o || b)
some_noted None true = refl
some_noted None false = refl
some_noted (Some i) b = refl

-- the option's name is noted
pub option_noted : (s t : List (List ℕ × ℕ)) (cs : List Choice) (c : Choice) → ((n : List ℕ) → first_place t n ≡ noted c.name 0 (first_place s) n)
    → ((o : Name) → is_some (first_place s o) ≡ is_among o (choice_names cs)) → (o : Name) → is_some (first_place t o) ≡ is_among o (choice_names (cs ++ c ∷ []))
option_noted s t cs c h old o =
    ap (λ (p : Option ℕ). is_some p) (h o) ∙ some_noted (first_place s o) (bytes_eq o c.name) ∙ ap (λ b. b || bytes_eq o c.name) (old o)
    ∙ ap (λ b. is_among o (choice_names cs) || b) (sym (or_none (bytes_eq o c.name)))
    ∙ sym (list_any-append (bytes_eq o) (choice_names cs) (c.name ∷ []))
    ∙ ap (λ ns. is_among o ns) (sym (map-append (λ (d : Choice). d.name) cs (c ∷ [])))
