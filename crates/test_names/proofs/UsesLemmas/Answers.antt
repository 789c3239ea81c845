-- The rule that uses break, from those of their parts.
use Rattle.std.proofs.Common.{◌≡◌, ◌<◌, ◌+◌, ℕ, length, map, get_or, take, add-one, Bool, true, false, List, [], ◌∷◌, ◌++◌, Option, Some, None, refl, sym, ap, ◌∙◌, if◌then◌else◌, ◌||◌}
use Rattle.std.specs.List.{list_any, flat_map}
use Rattle.std.proofs.Math.Seq.{take-suc}
use Rattle.std.proofs.lemmas.List.{flat_map_more, get_or_default}
use Rattle.std.proofs.lemmas.List.Concat.{flat_map_single}
use Rattle.std.proofs.lemmas.List.Folds.{list_any-append}
use Rattle.py_syntax.specs.ExpressionTrees.{view}
use Rattle.py_syntax.specs.declared.expression.Expression.{Expression}
use Rattle.test_meaning.specs.Rules.File.{File}
use Rattle.test_meaning.specs.Rules.Rules.{is_unknown, astray}
use Rattle.test_meaning.specs.Rules.Uses.{Use, Leaves, Around, tree_uses}
use Rattle.test_meaning.specs.declared.rules.rule.FileRule.{FileRule}
use Rattle.test_meaning.specs.declared.rules.rule.FileRule.TheVariants as rule
use Rattle.test_names.specs.Uses.Answer.{answer, first_of}

merged : (u v m n : Bool) → (if u || v then Some rule.UnknownName else (if m || n then Some rule.Misplaced else None))
    ≡ first_of (if u then Some rule.UnknownName else (if m then Some rule.Misplaced else None)) (if v then Some rule.UnknownName else (if n then Some rule.Misplaced else None))
merged true true true true = refl
merged true true true false = refl
merged true true false true = refl
merged true true false false = refl
merged true false true true = refl
merged true false true false = refl
merged true false false true = refl
merged true false false false = refl
merged false true true true = refl
merged false true true false = refl
merged false true false true = refl
merged false true false false = refl
merged false false true true = refl
merged false false true false = refl
merged false false false true = refl
merged false false false false = refl

pub joined : (f : File) (a : Around) (us vs : List Use) → answer f a (us ++ vs) ≡ first_of (answer f a us) (answer f a vs)
unfolding answer
joined f a us vs =
    ap (λ (b : Bool). if b then Some rule.UnknownName else (if list_any (astray f a) (us ++ vs) then Some rule.Misplaced else None)) (list_any-append (is_unknown f a) us vs)
    ∙ ap (λ (b : Bool). if list_any (is_unknown f a) us || list_any (is_unknown f a) vs then Some rule.UnknownName else (if b then Some rule.Misplaced else None)) (list_any-append (astray f a) us vs)
    ∙ merged (list_any (is_unknown f a) us) (list_any (is_unknown f a) vs) (list_any (astray f a) us) (list_any (astray f a) vs)

pub nothing : (f : File) (a : Around) → answer f a [] ≡ None
unfolding answer
nothing f a = refl

pub leaving : (f : File) (a : Around) → answer f a (Leaves ∷ []) ≡ Some rule.Misplaced
unfolding answer
leaving f a = refl

pub both : (f : File) (a : Around) (us vs : List Use) (r x y : Option FileRule)
    → r ≡ first_of x y → x ≡ answer f a us → y ≡ answer f a vs → r ≡ answer f a (us ++ vs)
both f a us vs r x y e p q =
    e ∙ ap (λ (z : Option FileRule). first_of z y) p ∙ ap (λ (z : Option FileRule). first_of (answer f a us) z) q ∙ sym (joined f a us vs)

pub first_and : (f : File) (a : Around) (u : Use) (vs : List Use) (r x y : Option FileRule)
    → r ≡ first_of x y → x ≡ answer f a (u ∷ []) → y ≡ answer f a vs → r ≡ answer f a (u ∷ vs)
first_and f a u vs r x y e p q = both f a (u ∷ []) vs r x y e p q

-- the uses of one element more of a list
taken : {A : Type 0} (uses : A → List Use) (xs : List A) (i : ℕ) (x : A) → i < length xs → x ≡ get_or xs i x
    → flat_map uses (take i xs) ++ uses x ≡ flat_map uses (take (i + 1) xs)
taken uses xs i x h is =
    ap (λ y. flat_map uses (take i xs) ++ uses y) is ∙ flat_map_more uses [] (take i xs) (get_or xs i x)
    ∙ ap (λ ys. flat_map uses ys) (sym (take-suc xs i x h) ∙ ap (λ j. take j xs) (sym (add-one i)))

-- the rule that the uses of one element more break
pub more : {A : Type 0} (uses : A → List Use) (f : File) (a : Around) (xs : List A) (i : ℕ) (x : A) (r before now : Option FileRule)
    → i < length xs → x ≡ get_or xs i x → r ≡ first_of before now → before ≡ answer f a (flat_map uses (take i xs)) → now ≡ answer f a (uses x)
    → r ≡ answer f a (flat_map uses (take (i + 1) xs))
more uses f a xs i x r before now h is e p q =
    both f a (flat_map uses (take i xs)) (uses x) r before now e p q
    ∙ ap (λ us. answer f a us) (taken uses xs i x h is)

-- one use more
pub consed : (f : File) (a : Around) (u : Use) (us : List Use) → answer f a (u ∷ us) ≡ first_of (answer f a (u ∷ [])) (answer f a us)
consed f a u us = joined f a (u ∷ []) us

-- an expression of two
pub of_pair : (f : File) (a : Around) (us : List Use) (l r left right : Expression) (found x y : Option FileRule)
    → us ≡ tree_uses (view left) ++ tree_uses (view right) → found ≡ first_of x y
    → x ≡ answer f a (tree_uses (view l)) → l ≡ left → y ≡ answer f a (tree_uses (view r)) → r ≡ right → found ≡ answer f a us
of_pair f a us l r left right found x y e q p is s also =
    both f a (tree_uses (view left)) (tree_uses (view right)) found x y q (p ∙ ap (λ k. answer f a (tree_uses (view k))) is)
    (s ∙ ap (λ k. answer f a (tree_uses (view k))) also)
    ∙ ap (λ vs. answer f a vs) (sym e)

-- one element more, each of which is one use
pub more_mapped : {A : Type 0} (use_of : A → Use) (f : File) (a : Around) (xs : List A) (i : ℕ) (x : A) (r before now : Option FileRule)
    → i < length xs → x ≡ get_or xs i x → r ≡ first_of before now → before ≡ answer f a (map use_of (take i xs)) → now ≡ answer f a (use_of x ∷ [])
    → r ≡ answer f a (map use_of (take (i + 1) xs))
more_mapped use_of f a xs i x r before now h is e p q =
    more (λ y. use_of y ∷ []) f a xs i x r before now h is e (p ∙ ap (λ us. answer f a us) (sym (flat_map_single use_of (take i xs)))) q
    ∙ ap (λ us. answer f a us) (flat_map_single use_of (take (i + 1) xs))

-- an element that is there, whatever stands for one that isn't
pub same_at : {A : Type 0} (xs : List A) (i : ℕ) (d : A) → i < length xs → get_or xs i d ≡ get_or xs i (get_or xs i d)
same_at xs i d h = get_or_default xs i d (get_or xs i d) h

-- of no use, of uses and further ones, and of one use and further ones
pub ruleset answers = (nothing, joined, consed)
