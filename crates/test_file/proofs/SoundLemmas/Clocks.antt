-- The operands of a clock's start.
use Rattle.std.proofs.Common.{◌≡◌, ◌||◌, ◌&&◌, ℕ, Bool, true, false, List, [], ◌∷◌, Option, Some, None, refl, sym, ap, subst}
use Rattle.std.proofs.lemmas.Slice.Eq.{bytes_eq-Decides}
use Rattle.std.specs.Str.{bytes_eq}
use Rattle.py_syntax.specs.CallForms.{cycles, is_named, is_placed, start_high, starts_clock}
use Rattle.py_syntax.specs.ExpressionTrees.{Tree}
use Rattle.py_syntax.specs.StatementTrees.{Argument}
use Rattle.test_meaning.specs.Body.Sound.{fill_some}
use Rattle.test_meaning.specs.Bodies.{Inside, clock_parameters, given_operands, tree_in}
use Rattle.test_meaning.specs.Rules.Rules.{place_of}
use Rattle.test_file.proofs.SoundLemmas.Calls.{first_of_both, second_of_both}

same_name : (m n : List ℕ) → bytes_eq m n ≡ true → m ≡ n
same_name m n h = (bytes_eq-Decides m n).0 h

one_of : (a b : Bool) → (P : Type 0) → (a ≡ true → P) → (b ≡ true → P) → (a || b) ≡ true → P
one_of true b P f g h = f refl
one_of false b P f g h = g h

named : (n : List ℕ) (o : Option (List ℕ)) → is_named n o ≡ true → o ≡ Some n
named n None h = cc
named n (Some m) h = ap (λ (l : List ℕ). Some l) (same_name m n h)

placed : (o : Option (List ℕ)) → is_placed o ≡ true → o ≡ None
placed None h = refl
placed (Some m) h = cc

-- of one argument, and of two
abbrev FillsOne : Option (List ℕ) → Type 0
FillsOne n = (v : Tree) → fill_some 2 (record { parameter = place_of clock_parameters 0 n; value = v } ∷ []) ≡ true

abbrev FillsTwo : Option (List ℕ) → Option (List ℕ) → Type 0
FillsTwo n m = (v w : Tree)
    → fill_some 2 (record { parameter = place_of clock_parameters 0 n; value = v } ∷ record { parameter = place_of clock_parameters 1 m; value = w } ∷ []) ≡ true

fills_one : (n : Option (List ℕ)) → ((is_placed n || is_named cycles n) || is_named start_high n) ≡ true → FillsOne n
fills_one n h =
    one_of (is_placed n || is_named cycles n) (is_named start_high n) (FillsOne n)
    (λ p. one_of (is_placed n) (is_named cycles n) (FillsOne n)
    (λ q. subst FillsOne (sym (placed n q)) (λ v. refl))
    (λ q. subst FillsOne (sym (named cycles n q)) (λ v. refl)) p)
    (λ p. subst FillsOne (sym (named start_high n p)) (λ v. refl)) h

two_are : (n m a b : Option (List ℕ)) → n ≡ a → m ≡ b → FillsTwo a b → FillsTwo n m
two_are n m a b e d h = subst (λ (x : Option (List ℕ)). FillsTwo x m) (sym e) (subst (λ (x : Option (List ℕ)). FillsTwo a x) (sym d) h)

fills_two : (n m : Option (List ℕ))
    → (((is_placed n && (is_placed m || is_named start_high m)) || (is_named cycles n && is_named start_high m)) || (is_named start_high n && is_named cycles m)) ≡ true
    → FillsTwo n m
fills_two n m h =
    one_of ((is_placed n && (is_placed m || is_named start_high m)) || (is_named cycles n && is_named start_high m)) (is_named start_high n && is_named cycles m) (FillsTwo n m)
    (λ p. one_of (is_placed n && (is_placed m || is_named start_high m)) (is_named cycles n && is_named start_high m) (FillsTwo n m)
    (λ q. one_of (is_placed m) (is_named start_high m) (FillsTwo n m)
    (λ r. two_are n m None None (placed n (first_of_both (is_placed n) (is_placed m || is_named start_high m) q)) (placed m r) (λ v w. refl))
    (λ r. two_are n m None (Some start_high) (placed n (first_of_both (is_placed n) (is_placed m || is_named start_high m) q)) (named start_high m r) (λ v w. refl))
    (second_of_both (is_placed n) (is_placed m || is_named start_high m) q))
    (λ q. two_are n m (Some cycles) (Some start_high) (named cycles n (first_of_both (is_named cycles n) (is_named start_high m) q))
    (named start_high m (second_of_both (is_named cycles n) (is_named start_high m) q)) (λ v w. refl)) p)
    (λ p. two_are n m (Some start_high) (Some cycles) (named start_high n (first_of_both (is_named start_high n) (is_named cycles m) p))
    (named cycles m (second_of_both (is_named start_high n) (is_named cycles m) p)) (λ v w. refl)) h

pub clock_filled : (s : Inside) (xs : List Argument) → starts_clock xs ≡ true → fill_some 2 (given_operands s clock_parameters 0 xs) ≡ true
unfolding starts_clock
clock_filled s [] h = refl
clock_filled s (x ∷ []) h = fills_one x.name h (tree_in s x.value)
clock_filled s (x ∷ y ∷ []) h = fills_two x.name y.name h (tree_in s x.value) (tree_in s y.value)
clock_filled s (x ∷ y ∷ z ∷ xs) h = cc
