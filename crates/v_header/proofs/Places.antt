-- The first place of each name among ports.
use Rattle.std.proofs.Common.{◌≡◌, ℕ, suc, ◌+◌, ◌<◌, ◌≤◌, Bool, true, false, ◌||◌, List, [], ◌∷◌, ◌++◌, length, map, take, get_or, Option, None, Some, option_map, is_some, bytes_eq, if◌then◌else◌, refl, sym, ap, ◌∙◌, arith}
use Rattle.std.specs.Prelude.{slice_get, option_and_then}
use Rattle.std.specs.List.{list_any}
use Rattle.std.specs.Option.{option_or}
use Rattle.std.proofs.lemmas.List.{length-map, length-take, take_all, take_more, map-append}
use Rattle.std.proofs.lemmas.Slice.Eq.{bytes_eq-Decides}
use Rattle.name_table.specs.Places.{first_place, noted}
use Rattle.v_flat.specs.Headers.{Port, find_port, port_name}
use Rattle.v_header.specs.Ports.{place_of, port_in, ports_in}
use Rattle.v_header.specs.declared.ports.Port as code

both_ways : (a b : List ℕ) (c d : Bool) → bytes_eq a b ≡ c → bytes_eq b a ≡ d → c ≡ d
both_ways a b true true p q = refl
both_ways a b true false p q = let e : bytes_eq b a ≡ true = (bytes_eq-Decides b a).1 (sym ((bytes_eq-Decides a b).0 p)) in cc
both_ways a b false true p q = let e : bytes_eq a b ≡ true = (bytes_eq-Decides a b).1 (sym ((bytes_eq-Decides b a).0 q)) in cc
both_ways a b false false p q = refl

pub same_either_way : (a b : List ℕ) → bytes_eq a b ≡ bytes_eq b a
same_either_way a b = both_ways a b (bytes_eq a b) (bytes_eq b a) refl refl

-- ---- one port more

shifted : (x y : Option ℕ) → option_map suc (option_or x y) ≡ option_or (option_map suc x) (option_map suc y)
shifted None y = refl
shifted (Some k) y = refl

shifted_if : (c : Bool) (k : ℕ) → option_map suc (if c then Some k else None) ≡ (if c then Some (suc k) else None)
shifted_if true k = refl
shifted_if false k = refl

first_or : (c : Bool) (x y : Option ℕ) → (if c then Some 0 else option_or x y) ≡ option_or (if c then Some 0 else x) y
first_or true x y = refl
first_or false x y = refl

place_more : (n : List ℕ) (ps : List Port) (q : Port) → place_of n (ps ++ q ∷ []) ≡ option_or (place_of n ps) (if bytes_eq n q.name then Some (length ps) else None)
place_more n [] q = ap (λ (b : Bool). if b then Some 0 else None) (same_either_way q.name n)
place_more n (p ∷ ps) q =
    let c = bytes_eq p.name n in
    let last : Option ℕ = if bytes_eq n q.name then Some (length ps) else None in
    ap (λ (o : Option ℕ). if c then Some 0 else option_map suc o) (place_more n ps q)
    ∙ ap (λ (o : Option ℕ). if c then Some 0 else o) (shifted (place_of n ps) last)
    ∙ first_or c (option_map suc (place_of n ps)) (option_map suc last)
    ∙ ap (λ (o : Option ℕ). option_or (if c then Some 0 else option_map suc (place_of n ps)) o) (shifted_if (bytes_eq n q.name) (length ps))

-- the places of the ports before one
unfoldable pub Placed : List code.Port → ℕ → List (List ℕ × ℕ) → Type 0
Placed xs i places = (n : List ℕ) → first_place places n ≡ place_of n (ports_in (take i xs))

pub none_placed : (xs : List code.Port) (places : List (List ℕ × ℕ)) → ((n : List ℕ) → first_place places n ≡ None) → Placed xs 0 places
unfolding Placed
none_placed xs places h = h

pub one_placed : (xs : List code.Port) (i : ℕ) (d : code.Port) (old new : List (List ℕ × ℕ)) → i < length xs → Placed xs i old
    → ((n : List ℕ) → first_place new n ≡ noted (get_or xs i d).name.now i (first_place old) n) → Placed xs (i + 1) new
unfolding Placed
one_placed xs i d old new h so_far made = λ n.
    made n
    ∙ ap (λ (o : Option ℕ). option_or o (if bytes_eq n x.name.now then Some i else None)) (so_far n)
    ∙ ap (λ (k : ℕ). option_or (place_of n (ports_in (take i xs))) (if bytes_eq n x.name.now then Some k else None)) (sym count)
    ∙ sym (place_more n (ports_in (take i xs)) (port_in x))
    ∙ ap (λ (ps : List Port). place_of n ps) (sym grown)
  where
    x : code.Port
    x = get_or xs i d

    grown : ports_in (take (i + 1) xs) ≡ ports_in (take i xs) ++ port_in x ∷ []
    grown = ap ports_in (take_more xs i d h) ∙ map-append port_in (take i xs) (x ∷ [])

    count : length (ports_in (take i xs)) ≡ i
    count = let e = length-map (take i xs) port_in in let f = length-take i xs in omega (arith, e, f, h)

pub all_placed : (xs : List code.Port) (i : ℕ) (places : List (List ℕ × ℕ)) → length xs ≤ i → Placed xs i places → (n : List ℕ) → first_place places n ≡ place_of n (ports_in xs)
unfolding Placed
all_placed xs i places h so_far = λ n. so_far n ∙ ap (λ (ys : List code.Port). place_of n (ports_in ys)) (take_all i xs h)

-- ---- the port at a name's place

found_if : (c : Bool) (p : Port) (ps : List Port) (o : Option ℕ)
    → (if c then Some p else option_and_then (λ i. slice_get ps i) o) ≡ option_and_then (λ i. slice_get (p ∷ ps) i) (if c then Some 0 else option_map suc o)
found_if true p ps o = refl
found_if false p ps None = refl
found_if false p ps (Some k) = refl

pub found_by_place : (n : List ℕ) (ps : List Port) → find_port n ps ≡ option_and_then (λ i. slice_get ps i) (place_of n ps)
found_by_place n [] = refl
found_by_place n (p ∷ ps) =
    ap (λ (o : Option Port). if bytes_eq p.name n then Some p else o) (found_by_place n ps) ∙ found_if (bytes_eq p.name n) p ps (place_of n ps)

some_by : (b c : Bool) (o : Option ℕ) → b ≡ c → is_some (if b then Some 0 else option_map suc o) ≡ (c || is_some o)
some_by true true o e = refl
some_by true false o e = absurd (cc)
some_by false true o e = absurd (cc)
some_by false false None e = refl
some_by false false (Some k) e = refl

-- a name has a place where a port has it
pub place_is : (n : List ℕ) (ps : List Port) → is_some (place_of n ps) ≡ list_any (bytes_eq n) (map port_name ps)
place_is n [] = refl
place_is n (p ∷ ps) =
    some_by (bytes_eq p.name n) (bytes_eq n p.name) (place_of n ps) (same_either_way p.name n) ∙ ap (λ (b : Bool). bytes_eq n p.name || b) (place_is n ps)

module _ (n : List ℕ) (xs : List code.Port) (ps : List Port) (places : List (List ℕ × ℕ)) (r : Option ℕ)
    (are : (m : List ℕ) → first_place places m ≡ place_of m (ports_in xs)) (view : ports_in xs ≡ ps) (found : r ≡ first_place places n) where
  by_place : option_and_then (λ i. slice_get ps i) r ≡ find_port n ps
  by_place =
      ap (λ (o : Option ℕ). option_and_then (λ i. slice_get ps i) o) (found ∙ are n ∙ ap (λ (qs : List Port). place_of n qs) view) ∙ sym (found_by_place n ps)

  pub found_there : (k : ℕ) → r ≡ Some k → slice_get ps k ≡ find_port n ps
  found_there k is = ap (λ (o : Option ℕ). option_and_then (λ i. slice_get ps i) o) (sym is) ∙ by_place

  pub found_nowhere : r ≡ None → None ≡ find_port n ps
  found_nowhere is = ap (λ (o : Option ℕ). option_and_then (λ i. slice_get ps i) o) (sym is) ∙ by_place

  pub is_there : is_some r ≡ list_any (bytes_eq n) (map port_name ps)
  is_there = ap (λ (o : Option ℕ). is_some o) (found ∙ are n ∙ ap (λ (qs : List Port). place_of n qs) view) ∙ place_is n ps
