-- Lists up to a place.
use Rattle.std.proofs.Common.{◌≡◌, ℕ, suc, ◌+◌, ◌<◌, ◌≤◌, List, [], ◌∷◌, ◌++◌, length, map, take, Bor, Some, add-one, append_assoc, get_or, refl, ap, sym, subst, ◌∙◌}
use Rattle.std.proofs.Math.Seq.{take-suc}
use Rattle.std.proofs.lemmas.Grind.{flat_map-append}
use Rattle.std.proofs.lemmas.List.{append-nil, map-append, take_all}
use Rattle.std.proofs.lemmas.Option.{get_or_from_slice_get, slice_get_within}
use Rattle.std.specs.List.{flat_map, slice_get}
use Rattle.four_value.specs.declared.Digit.{Digit}
use Rattle.gpi.specs.Design.{start_map}
use Rattle.gpi.specs.Terms.{widths_of}
use Rattle.gpi.specs.declared.design.Signal.{Signal}
use Rattle.design_tests.specs.Elaboration.Runs.{Chain}

-- one element more
take_more : {X : Type 0} (xs : List X) (n : ℕ) (x : X) → slice_get xs n ≡ Some x → take (n + 1) xs ≡ take n xs ++ x ∷ []
take_more {X} xs n x h =
    rw add-one (take-suc xs n x (slice_get_within xs n x h) ∙ ap (λ (y : X). take n xs ++ y ∷ []) (get_or_from_slice_get xs n x x h))

-- one text more
pub text_more : {X : Type 0} (f : X → List ℕ) (xs : List X) (n : ℕ) (x : X) (text more : List ℕ)
    → slice_get xs n ≡ Some x → text ≡ flat_map f (take n xs) → more ≡ text ++ f x → more ≡ flat_map f (take (n + 1) xs)
text_more {X} f xs n x text more h e g =
    g
    ∙ ap (λ (t : List ℕ). t ++ f x) e
    ∙ ap (λ (t : List ℕ). flat_map f (take n xs) ++ t) (sym (append-nil (f x)))
    ∙ sym (flat_map-append f (take n xs) (x ∷ []))
    ∙ ap (λ (ys : List X). flat_map f ys) (sym (take_more xs n x h))

-- bytes behind a space
pub behind_space : (text pushed bytes path all : List ℕ)
    → pushed ≡ text ++ 32 ∷ [] → all ≡ pushed ++ bytes → bytes ≡ path → all ≡ text ++ 32 ∷ path
behind_space text pushed bytes path all e g h =
    g ∙ ap (λ (p : List ℕ). p ++ bytes) e ∙ append_assoc text (32 ∷ []) bytes ∙ ap (λ (b : List ℕ). text ++ 32 ∷ b) h

-- one call more at the end
chain_more : {C X : Type 0} (does : C → X → C → Type 0) (start between last : C) (xs : List X) (x : X)
    → Chain does start xs between → does between x last → Chain does start (xs ++ x ∷ []) last
chain_more does start between last [] x e h = (last, subst (λ c. does c x last) e h, refl)
chain_more does start between last (y ∷ ys) x before h = (before.0, before.1, chain_more does before.0 between last ys x before.2 h)

-- one call more, of an element that is borrowed
pub call_more : {C X : Type 0} (does : C → X → C → Type 0) (start between last : C) (xs : List (Bor X)) (n : ℕ) (d : Bor X)
    → n < length xs → Chain does start (map (λ y. y.now) (take n xs)) between → does between (get_or xs n d).now last
    → Chain does start (map (λ y. y.now) (take (n + 1) xs)) last
call_more {C} {X} does start between last xs n d h before is =
    subst (λ (ys : List X). Chain does start ys last)
    (sym (ap (λ (ys : List (Bor X)). map (λ (y : Bor X). y.now) ys) (rw add-one (take-suc xs n d h)) ∙ map-append (λ (y : Bor X). y.now) (take n xs) (get_or xs n d ∷ [])))
    (chain_more does start between last (map (λ (y : Bor X). y.now) (take n xs)) (get_or xs n d).now before is)

-- all calls, of the elements of a list that is borrowed
pub all_calls : {C X : Type 0} (does : C → X → C → Type 0) (start last : C) (xs items : List (Bor X)) (n : ℕ) (pieces : List X)
    → length xs ≤ n → xs ≡ items → map (λ y. y.now) items ≡ pieces → Chain does start (map (λ y. y.now) (take n xs)) last
    → Chain does start pieces last
all_calls {C} {X} does start last xs items n pieces h e are is =
    subst (λ (ys : List X). Chain does start ys last)
    (ap (λ (ys : List (Bor X)). map (λ (y : Bor X). y.now) ys) (take_all n xs h ∙ e) ∙ are) is

length_widths : (m : List (List Digit)) → length (widths_of m) ≡ length m
length_widths [] = refl
length_widths (ds ∷ m) = ap (λ (n : ℕ). suc n) (length_widths m)

-- vectors of the same widths are as many
pub same_count : (a b : List (List Digit)) → widths_of a ≡ widths_of b → length a ≡ length b
same_count a b e = sym (length_widths a) ∙ ap (λ (ws : List ℕ). length ws) e ∙ length_widths b

-- a design begins with a value for each signal
pub length_start : (signals : List Signal) → length (start_map signals) ≡ length signals
length_start [] = refl
length_start (signal ∷ signals) = ap (λ (n : ℕ). suc n) (length_start signals)
