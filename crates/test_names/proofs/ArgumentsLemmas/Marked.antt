-- Which parameters arguments are for.
use Rattle.std.proofs.Common.{◌≡◌, ◌<◌, ◌≤◌, ◌+◌, ◌&&◌, ◌||◌, ◌==◌, not, ℕ, suc, nat_lt, Bool, true, false, List, [], ◌∷◌, length, map, drop, Option, Some, None, get_or, refl, sym, ap, subst, ◌∙◌, if◌then◌else◌, arith, drop-cons, add-one}
use Rattle.std.proofs.lemmas.Bool.{ltb-true}
use Rattle.std.specs.Str.{bytes_eq}
use Rattle.std.specs.List.{list_all}
use Rattle.std.specs.Option.{option_or}
use Rattle.py_syntax.specs.declared.module.Parameter.{Parameter}
use Rattle.name_table.specs.Places.{first_place, noted, nowhere}
use Rattle.test_meaning.specs.Rules.Rules.{index_of, is_in, differ}
use Rattle.test_meaning.specs.Rules.Rules.{place_of, parameter_places, are_given, fits}
use Rattle.py_syntax.specs.ModuleForms.{has_default}
use Rattle.py_syntax.specs.declared.call.Argument.{Argument}
use Rattle.std.specs.Prelude.{slice_index_or, replicate}
use Rattle.std.proofs.lemmas.List.{drop_all, get_or-replicate, length-replicate, length-map, get_or-map}
use Rattle.test_meaning.proofs.RulesLemmas.Texts.{same_bytes}
use Rattle.test_names.specs.Arguments.Marks.{found_or, are_all_fresh, AreMarks, AreNumbers}

one_more : (i r : ℕ) (o : Option ℕ) (b c : Bool) → b ≡ c
    → found_or i o (if b then 0 else suc r) ≡ found_or (i + 1) (option_or o (if c then Some i else None)) r
one_more i r (Some k) b c e = refl
one_more i r None true true e = omega arith
one_more i r None false false e = omega arith
one_more i r None true false e = cc
one_more i r None false true e = cc

-- one parameter more is noted
pub noted_more : (ps : List Parameter) (i : ℕ) (p : Parameter) (old new : List (List ℕ × ℕ)) → i < length ps → p ≡ get_or ps i p
    → ((n : List ℕ) → first_place new n ≡ noted p.name i (first_place old) n)
    → ((n : List ℕ) → index_of n ps ≡ found_or i (first_place old n) (index_of n (drop i ps)))
    → (n : List ℕ) → index_of n ps ≡ found_or (i + 1) (first_place new n) (index_of n (drop (i + 1) ps))
noted_more ps i p old new h is e before n =
    before n ∙ ap (λ qs. found_or i (first_place old n) (index_of n qs)) (drop-cons ps i p h ∙ ap (λ q. q ∷ drop (suc i) ps) (sym is))
    ∙ one_more i (index_of n (drop (suc i) ps)) (first_place old n) (bytes_eq p.name n) (bytes_eq n p.name) (same_bytes p.name n)
    ∙ ap (λ o. found_or (i + 1) o (index_of n (drop (suc i) ps))) (sym (e n))
    ∙ ap (λ j. found_or (i + 1) (first_place new n) (index_of n (drop j ps))) (sym (add-one i))

-- one argument more, in front of those that are marked
shuffled : (lt is all others : Bool) → ((lt && not is) && (all && others)) ≡ ((lt && all) && (not is && others))
shuffled true true true others = refl
shuffled true true false others = refl
shuffled true false true others = refl
shuffled true false false others = refl
shuffled false is all others = refl

guarded : (a b c : Bool) → (a ≡ true → b ≡ c) → (a && not b) ≡ (a && not c)
guarded true b c h = ap not (h refl)
guarded false b c h = refl

pub fresh_more : (n k : ℕ) (ks : List ℕ) (r fresh marked all : Bool) → r ≡ (fresh && all) → fresh ≡ (nat_lt k n && not marked)
    → (nat_lt k n ≡ true → marked ≡ is_in k ks) → all ≡ are_all_fresh n ks → r ≡ are_all_fresh n (k ∷ ks)
fresh_more n k ks r fresh marked all e f m a =
    e ∙ ap (λ x. x && all) (f ∙ guarded (nat_lt k n) marked (is_in k ks) m) ∙ ap (λ x. (nat_lt k n && not (is_in k ks)) && x) a
    ∙ shuffled (nat_lt k n) (is_in k ks) (list_all (λ j. nat_lt j n) ks) (differ ks)

pub marks_more : (n k : ℕ) (ks : List ℕ) (old new : List Bool) → length new ≡ length old
    → ((j : ℕ) → j < length old → slice_index_or new j false ≡ (k == j || slice_index_or old j false)) → AreMarks n ks old → AreMarks n (k ∷ ks) new
marks_more n k ks old new l f m = record {
  long = l ∙ m.long;
  marks = λ j h. f j (subst (λ x. j < x) (sym m.long) h) ∙ ap (λ b. k == j || b) (m.marks j h);
}

-- no parameter is marked
pub no_marks : (n : ℕ) → AreMarks n [] (replicate n false)
no_marks n = record { long = length-replicate n false; marks = λ j h. get_or-replicate n j false false h }

abbrev pub names_of : List Argument → List (Option (List ℕ))
names_of xs = map (λ a. a.name) xs

-- behind the last argument
pub no_places : (ps : List Parameter) (xs : List Argument) (i : ℕ) → length xs ≤ i → parameter_places ps i (drop i (names_of xs)) ≡ []
no_places ps xs i h = ap (λ ns. parameter_places ps i ns) (drop_all i (names_of xs) (omega (arith, h, length-map xs (λ (a : Argument). a.name))))

-- the place of an argument, and those behind it
pub places_more : (ps : List Parameter) (xs : List Argument) (i j : ℕ) (x : Argument) → i ≡ j + 1 → j < length xs → x ≡ get_or xs j x
    → parameter_places ps j (drop j (names_of xs)) ≡ place_of ps j x.name ∷ parameter_places ps i (drop i (names_of xs))
places_more ps xs i j x e h is =
    let l : j < length (names_of xs) = omega (arith, h, length-map xs (λ (a : Argument). a.name)) in
    let n : get_or (names_of xs) j x.name ≡ x.name = get_or-map (λ (a : Argument). a.name) xs j x x.name h ∙ ap (λ (a : Argument). a.name) (sym is) in
    ap (λ ns. parameter_places ps j ns) (drop-cons (names_of xs) j x.name l ∙ ap (λ (m : Option (List ℕ)). m ∷ drop (suc j) (names_of xs)) n)
    ∙ ap (λ k. place_of ps j x.name ∷ parameter_places ps k (drop k (names_of xs))) (sym (add-one j) ∙ sym e)

-- whether all parameters from one on are given
pub given_more : (ks : List ℕ) (ps : List Parameter) (i j : ℕ) (p : Parameter) (given : List Bool) (r has all : Bool)
    → i ≡ j + 1 → j < length ps → p ≡ get_or ps j p → AreMarks (length ps) ks given
    → has ≡ (slice_index_or given j false || has_default p.default) → r ≡ (has && all) → all ≡ are_given ks i (drop i ps) → r ≡ are_given ks j (drop j ps)
given_more ks ps i j p given r has all e h is m q s a =
    s ∙ ap (λ b. b && all) (q ∙ ap (λ b. b || has_default p.default) (m.marks j h))
    ∙ ap (λ b. (is_in j ks || has_default p.default) && b) (a ∙ ap (λ k. are_given ks k (drop k ps)) (e ∙ add-one j))
    ∙ ap (λ qs. are_given ks j qs) (sym (drop-cons ps j p h ∙ ap (λ z. z ∷ drop (suc j) ps) (sym is)))

grouped : (a d g : Bool) → ((a && d) && g) ≡ (a && d && g)
grouped true true g = refl
grouped true false g = refl
grouped false d g = refl

pub all_fit : (ps : List Parameter) (ks : List ℕ) (r fresh all : Bool) → r ≡ (fresh && all) → fresh ≡ are_all_fresh (length ps) ks → all ≡ are_given ks 0 ps → r ≡ fits ps ks
all_fit ps ks r fresh all e f a =
    e ∙ ap (λ x. x && all) f ∙ ap (λ x. are_all_fresh (length ps) ks && x) a
    ∙ grouped (list_all (λ k. nat_lt k (length ps)) ks) (differ ks) (are_given ks 0 ps)

-- the argument before those that are marked
pub all_more : (ps : List Parameter) (xs : List Argument) (i j k : ℕ) (x : Argument) (old new : List Bool) (r fresh all : Bool)
    → i ≡ j + 1 → j < length xs → x ≡ get_or xs j x → k ≡ place_of ps j x.name
    → length new ≡ length old → fresh ≡ (nat_lt k (length old) && not (slice_index_or old k false))
    → ((m : ℕ) → m < length old → slice_index_or new m false ≡ (k == m || slice_index_or old m false)) → r ≡ (fresh && all)
    → all ≡ are_all_fresh (length ps) (parameter_places ps i (drop i (names_of xs))) → AreMarks (length ps) (parameter_places ps i (drop i (names_of xs))) old
    → (r ≡ are_all_fresh (length ps) (parameter_places ps j (drop j (names_of xs)))) × AreMarks (length ps) (parameter_places ps j (drop j (names_of xs))) new
all_more ps xs i j k x old new r fresh all e h is at long f marked s a m =
    let rest = parameter_places ps i (drop i (names_of xs)) in
    let there : parameter_places ps j (drop j (names_of xs)) ≡ k ∷ rest = places_more ps xs i j x e h is ∙ ap (λ p. p ∷ rest) (sym at) in
    let short : fresh ≡ (nat_lt k (length ps) && not (slice_index_or old k false)) = f ∙ ap (λ n. nat_lt k n && not (slice_index_or old k false)) m.long in (
      fresh_more (length ps) k rest r fresh (slice_index_or old k false) all s short (λ t. m.marks k (ltb-true k (length ps) t)) a
          ∙ ap (λ ks. are_all_fresh (length ps) ks) (sym there),
      subst (λ ks. AreMarks (length ps) ks new) (sym there) (marks_more (length ps) k rest old new long marked m),
    )

-- no argument is marked yet
pub none_marked : (ps : List Parameter) (xs : List Argument) (i : ℕ) (given : List Bool) → length xs ≤ i → given ≡ replicate (length ps) false
    → (true ≡ are_all_fresh (length ps) (parameter_places ps i (drop i (names_of xs)))) × AreMarks (length ps) (parameter_places ps i (drop i (names_of xs))) given
none_marked ps xs i given h e = (
  ap (λ ks. are_all_fresh (length ps) ks) (sym (no_places ps xs i h)),
  subst (λ ks. AreMarks (length ps) ks given) (sym (no_places ps xs i h)) (subst (λ g. AreMarks (length ps) [] g) (sym e) (no_marks (length ps))),
)

-- no parameter is noted yet
pub none_noted : (s : List ℕ → Option ℕ) (n : List ℕ) (m : ℕ) → s ≡ nowhere → m ≡ found_or 0 (s n) m
none_noted s n m e =
    let z : m ≡ 0 + m = omega arith in
    z ∙ ap (λ (t : List ℕ → Option ℕ). found_or 0 (t n) m) (sym e)

-- all parameters are noted
pub all_noted : (ps : List Parameter) (i : ℕ) (names : List (List ℕ × ℕ)) → length ps ≤ i → i ≤ length ps
    → ((n : List ℕ) → index_of n ps ≡ found_or i (first_place names n) (index_of n (drop i ps))) → AreNumbers ps names
all_noted ps i names h l before = record {
  numbers = λ n. before n ∙ ap (λ qs. found_or i (first_place names n) (index_of n qs)) (drop_all i ps h)
      ∙ ap (λ j. found_or j (first_place names n) 0) (let e : i ≡ length ps = omega (arith, h, l) in e);
}
