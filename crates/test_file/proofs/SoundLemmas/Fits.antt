-- Arguments that fit, and the operands that are made of them.
use Rattle.std.proofs.Common.{◌≡◌, ◌≢◌, ◌+◌, ◌<◌, ◌≤◌, ◌==◌, ◌&&◌, ◌||◌, not, nat_lt, ℕ, zero, suc, Bool, true, false, List, [], ◌∷◌, ◌++◌, length, map, Option, Some, None, refl, sym, ap, subst, ◌∙◌, if◌then◌else◌, cond, arith}
use Rattle.std.proofs.lemmas.Bool.{eq-eqb, eqb-true, lt-ltb}
use Rattle.std.proofs.lemmas.List.Folds.{list_all-map}
use Rattle.std.specs.List.{filter, list_all, range_with_len}
use Rattle.py_syntax.specs.ModuleForms.{has_default}
use Rattle.py_syntax.specs.StatementTrees.{Argument}
use Rattle.py_syntax.specs.declared.constant.Const.{Const}
use Rattle.py_syntax.specs.declared.module.Parameter.{Parameter}
use Rattle.test_meaning.specs.Body.BodyTrees.{Operand}
use Rattle.test_meaning.specs.Body.Sound.{are_for, fill, operands_for}
use Rattle.test_meaning.specs.Bodies.{Inside, default_operand, default_operands, given_operands, operands_in}
use Rattle.test_meaning.specs.Rules.File.{File}
use Rattle.test_meaning.specs.Rules.Rules.{are_given, differ, fits, is_in, parameter_places, place_of}
use Rattle.test_file.proofs.SoundLemmas.Calls.{all_both, both, first_of_both, second_of_both}

-- the parameters that operands are for
abbrev pub places_in : List Operand → List ℕ
places_in os = map (λ (o : Operand). o.parameter) os

-- how often a number comes
abbrev pub times : ℕ → List ℕ → ℕ
times i [] = 0
times i (k ∷ ks) = cond (k == i) (suc (times i ks)) (times i ks)

counted_once : (i : ℕ) (o : Operand) (os : List Operand) (b : Bool) → operands_for os i ≡ times i (places_in os)
    → length (cond b (o ∷ filter (λ (x : Operand). x.parameter == i) os) (filter (λ (x : Operand). x.parameter == i) os)) ≡ cond b (suc (times i (places_in os))) (times i (places_in os))
counted_once i o os true h = ap (λ n. suc n) h
counted_once i o os false h = h

pub counted : (i : ℕ) (os : List Operand) → operands_for os i ≡ times i (places_in os)
counted i [] = refl
counted i (o ∷ os) = counted_once i o os (o.parameter == i) (counted i os)

times_both : (i : ℕ) (ks js : List ℕ) → times i (ks ++ js) ≡ times i ks + times i js
times_both i [] js = let e : times i js ≡ 0 + times i js = omega arith in e
times_both i (k ∷ ks) js = go (k == i) (times_both i ks js)
  where
    go : (b : Bool) → times i (ks ++ js) ≡ times i ks + times i js
        → cond b (suc (times i (ks ++ js))) (times i (ks ++ js)) ≡ cond b (suc (times i ks)) (times i ks) + times i js
    go true h = omega (arith, h)
    go false h = h

abbrev once : Bool → ℕ
once b = cond b 1 0

-- a number that isn't among these comes no time
never : (i : ℕ) (ks : List ℕ) → is_in i ks ≡ false → times i ks ≡ 0
never i [] h = refl
never i (k ∷ ks) h = go (k == i) h (λ p. never i ks p)
  where
    go : (b : Bool) → (b || is_in i ks) ≡ false → (is_in i ks ≡ false → times i ks ≡ 0) → cond b (suc (times i ks)) (times i ks) ≡ 0
    go true p more = cc
    go false p more = more p

not_true : (b : Bool) → not b ≡ true → b ≡ false
not_true true h = cc
not_true false h = refl

-- of numbers that differ each comes once
differing : (i : ℕ) (ks : List ℕ) → differ ks ≡ true → times i ks ≡ once (is_in i ks)
differing i [] h = refl
differing i (k ∷ ks) h = go (k == i) refl (differing i ks (second_of_both (not (is_in k ks)) (differ ks) h))
  where
    go : (b : Bool) → (k == i) ≡ b → times i ks ≡ once (is_in i ks) → cond b (suc (times i ks)) (times i ks) ≡ once (b || is_in i ks)
    go false e more = more
    go true e more =
        let none : is_in i ks ≡ false = ap (λ j. is_in j ks) (sym (eqb-true k i e)) ∙ not_true (is_in k ks) (first_of_both (not (is_in k ks)) (differ ks) h) in
        ap (λ n. suc n) (never i ks none)

-- ---- defaults

not_equal : (k i : ℕ) → i < k → (k == i) ≡ false
not_equal k i h = go (k == i) refl
  where
    go : (b : Bool) → (k == i) ≡ b → (k == i) ≡ false
    go false e = e
    go true e = let same : k ≡ i = eqb-true k i e in absurd (omega (arith, h, same))

not_equal_below : (k i : ℕ) → k < i → (k == i) ≡ false
not_equal_below k i h = go (k == i) refl
  where
    go : (b : Bool) → (k == i) ≡ b → (k == i) ≡ false
    go false e = e
    go true e = let same : k ≡ i = eqb-true k i e in absurd (omega (arith, h, same))

map_both : (os ps : List Operand) → places_in (os ++ ps) ≡ places_in os ++ places_in ps
map_both [] ps = refl
map_both (o ∷ os) ps = ap (λ ks. o.parameter ∷ ks) (map_both os ps)

times_two : (i : ℕ) (os ps : List Operand) → times i (places_in (os ++ ps)) ≡ times i (places_in os) + times i (places_in ps)
times_two i os ps = ap (λ ks. times i ks) (map_both os ps) ∙ times_both i (places_in os) (places_in ps)

-- a default isn't for another parameter
other_default : (f : File) (ks : List ℕ) (k i : ℕ) (d : Option Const) → (k == i) ≡ false → times i (places_in (default_operand f ks k d)) ≡ 0
other_default f ks k i None e = refl
other_default f ks k i (Some c) e = go (is_in k ks)
  where
    go : (b : Bool) → times i (places_in (if b then [] else default_operand f [] k (Some c))) ≡ 0
    go true = refl
    go false = ap (λ b. cond b 1 0) e

-- defaults behind a parameter
above_none : (f : File) (ks : List ℕ) (k i : ℕ) (ps : List Parameter) → i < k → times i (places_in (default_operands f ks k ps)) ≡ 0
above_none f ks k i [] h = refl
above_none f ks k i (p ∷ ps) h =
    let e : times i (places_in (default_operand f ks k p.default)) ≡ 0 = other_default f ks k i p.default (not_equal k i h) in
    let d : times i (places_in (default_operands f ks (suc k) ps)) ≡ 0 = above_none f ks (suc k) i ps (omega (arith, h)) in
    times_two i (default_operand f ks k p.default) (default_operands f ks (suc k) ps) ∙ omega (arith, e, d)

-- its own default stands exactly where it isn't given
own_default : (f : File) (ks : List ℕ) (k : ℕ) (d : Option Const) → (is_in k ks || has_default d) ≡ true → once (is_in k ks) + times k (places_in (default_operand f ks k d)) ≡ 1
own_default f ks k None h = go (is_in k ks) h
  where
    go : (b : Bool) → (b || false) ≡ true → once b + 0 ≡ 1
    go true p = refl
    go false p = cc
own_default f ks k (Some c) h = go (is_in k ks)
  where
    go : (b : Bool) → once b + times k (places_in (if b then [] else default_operand f [] k (Some c))) ≡ 1
    go true = refl
    go false = ap (λ b. 0 + cond b 1 0) (eq-eqb k k refl)

-- each parameter is given once or has its default
each_given : (f : File) (ks : List ℕ) (k i : ℕ) (ps : List Parameter) → are_given ks k ps ≡ true → k ≤ i → i < k + length ps
    → once (is_in i ks) + times i (places_in (default_operands f ks k ps)) ≡ 1
each_given f ks k i [] h low high = absurd (omega (arith, low, high))
each_given f ks k i (p ∷ ps) h low high =
    go (k == i) refl
    (λ above. each_given f ks (suc k) i ps (second_of_both (is_in k ks || has_default p.default) (are_given ks (suc k) ps) h) above (omega (arith, high)))
  where
    here : (is_in k ks || has_default p.default) ≡ true
    here = first_of_both (is_in k ks || has_default p.default) (are_given ks (suc k) ps) h

    go : (b : Bool) → (k == i) ≡ b → (suc k ≤ i → once (is_in i ks) + times i (places_in (default_operands f ks (suc k) ps)) ≡ 1)
        → once (is_in i ks) + times i (places_in (default_operands f ks k (p ∷ ps))) ≡ 1
    go true e behind =
        subst (λ j. once (is_in j ks) + times j (places_in (default_operands f ks k (p ∷ ps))) ≡ 1) (eqb-true k i e)
        (let own : once (is_in k ks) + times k (places_in (default_operand f ks k p.default)) ≡ 1 = own_default f ks k p.default here in
        let none : times k (places_in (default_operands f ks (suc k) ps)) ≡ 0 = above_none f ks (suc k) k ps (omega arith) in
        let all : times k (places_in (default_operands f ks k (p ∷ ps))) ≡ times k (places_in (default_operand f ks k p.default)) + times k (places_in (default_operands f ks (suc k) ps))
        = times_two k (default_operand f ks k p.default) (default_operands f ks (suc k) ps) in
        omega (arith, own, none, all))
    go false e behind =
        let apart : k ≢ i = λ s. let yes : (k == i) ≡ true = eq-eqb k i s in cc in
        let none : times i (places_in (default_operand f ks k p.default)) ≡ 0 = other_default f ks k i p.default e in
        let more : once (is_in i ks) + times i (places_in (default_operands f ks (suc k) ps)) ≡ 1 = behind (omega (arith, low, apart)) in
        let all : times i (places_in (default_operands f ks k (p ∷ ps))) ≡ times i (places_in (default_operand f ks k p.default)) + times i (places_in (default_operands f ks (suc k) ps))
        = times_two i (default_operand f ks k p.default) (default_operands f ks (suc k) ps) in
        omega (arith, none, more, all)

one_for : (f : File) (ks : List ℕ) (k n : ℕ) (d : Option Const) → k < n → list_all (λ (o : Operand). nat_lt o.parameter n) (default_operand f ks k d) ≡ true
one_for f ks k n None h = refl
one_for f ks k n (Some c) h = go (is_in k ks)
  where
    go : (b : Bool) → list_all (λ (o : Operand). nat_lt o.parameter n) (if b then [] else default_operand f [] k (Some c)) ≡ true
    go true = refl
    go false = both (nat_lt k n) true (lt-ltb k n h) refl

defaults_for : (f : File) (ks : List ℕ) (k n : ℕ) (ps : List Parameter) → k + length ps ≤ n → list_all (λ (o : Operand). nat_lt o.parameter n) (default_operands f ks k ps) ≡ true
defaults_for f ks k n [] h = refl
defaults_for f ks k n (p ∷ ps) h =
    all_both (λ (o : Operand). nat_lt o.parameter n) (default_operand f ks k p.default) (default_operands f ks (suc k) ps)
    (one_for f ks k n p.default (omega (arith, h))) (defaults_for f ks (suc k) n ps (omega (arith, h)))

-- ---- operands

pub given_at : (s : Inside) (ps : List Parameter) (k : ℕ) (xs : List Argument) → places_in (given_operands s ps k xs) ≡ parameter_places ps k (map (λ a. a.name) xs)
given_at s ps k [] = refl
given_at s ps k (a ∷ xs) = ap (λ ks. place_of ps k a.name ∷ ks) (given_at s ps (suc k) xs)

pub by_places : (n : ℕ) (os : List Operand) → list_all (λ (o : Operand). nat_lt o.parameter n) os ≡ list_all (λ k. nat_lt k n) (places_in os)
by_places n os = sym (list_all-map (λ k. nat_lt k n) (λ (o : Operand). o.parameter) os)

-- each of some numbers passes
pub range_passes : (p : ℕ → Bool) (a n : ℕ) → ((i : ℕ) → a ≤ i → i < a + n → p i ≡ true) → list_all p (range_with_len a n) ≡ true
range_passes p a zero h = refl
range_passes p a (suc n) h =
    both (p a) (list_all p (range_with_len (a + 1) n)) (h a (omega arith) (omega arith))
    (range_passes p (a + 1) n (λ i low high. h i (omega (arith, low)) (omega (arith, high))))

pub filled : (s : Inside) (ps : List Parameter) (xs : List Argument) → fits ps (parameter_places ps 0 (map (λ a. a.name) xs)) ≡ true → fill (length ps) (operands_in s ps xs) ≡ true
filled s ps xs h =
    both (are_for (length ps) (operands_in s ps xs)) (list_all (λ i. operands_for (operands_in s ps xs) i == 1) (range_with_len 0 (length ps)))
    (all_both (λ (o : Operand). nat_lt o.parameter (length ps)) given defaults (by_places (length ps) given ∙ ap (λ js. list_all (λ k. nat_lt k (length ps)) js) (given_at s ps 0 xs) ∙ low)
    (defaults_for s.file ks 0 (length ps) ps (omega arith)))
    (range_passes (λ i. operands_for (operands_in s ps xs) i == 1) 0 (length ps) (λ i a b. eq-eqb (operands_for (operands_in s ps xs) i) 1 (one i (omega (arith, b)))))
  where
    ks : List ℕ
    ks = parameter_places ps 0 (map (λ a. a.name) xs)

    given : List Operand
    given = given_operands s ps 0 xs

    defaults : List Operand
    defaults = default_operands s.file ks 0 ps

    low : list_all (λ k. nat_lt k (length ps)) ks ≡ true
    low = first_of_both (list_all (λ k. nat_lt k (length ps)) ks) (differ ks) (first_of_both (list_all (λ k. nat_lt k (length ps)) ks && differ ks) (are_given ks 0 ps) h)

    one : (i : ℕ) → i < length ps → operands_for (operands_in s ps xs) i ≡ 1
    one i b =
        counted i (operands_in s ps xs) ∙ times_two i given defaults
        ∙ ap (λ n. n + times i (places_in defaults)) (ap (λ js. times i js) (given_at s ps 0 xs)
        ∙ differing i ks (second_of_both (list_all (λ k. nat_lt k (length ps)) ks) (differ ks) (first_of_both (list_all (λ k. nat_lt k (length ps)) ks && differ ks) (are_given ks 0 ps) h)))
        ∙ each_given s.file ks 0 i ps (second_of_both (list_all (λ k. nat_lt k (length ps)) ks && differ ks) (are_given ks 0 ps) h) (omega arith) (omega (arith, b))
