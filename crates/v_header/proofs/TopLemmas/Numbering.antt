-- The modules before one, their names and their numbers.
use Rattle.std.proofs.Common.{◌≡◌, ℕ, suc, ◌+◌, ◌<◌, ◌≤◌, Bool, true, false, not, ◌||◌, List, [], ◌∷◌, ◌++◌, length, map, take, drop, get_or, Option, None, Some, option_map, Ok, Err, is_some, bytes_eq, if◌then◌else◌, refl, sym, subst, ap, ◌∙◌, arith}
use Rattle.std.specs.Borrow.{Bor}
use Rattle.std.specs.Prelude.{slice_get, slice_index_or, unwrap_or, option_and_then, option_copied}
use Rattle.std.specs.Slice.{IsItemAt}
use Rattle.std.proofs.lemmas.Bool.{ltb-true, ltb-false}
use Rattle.std.proofs.lemmas.Option.{slice_get-map, slice_get_past, slice_get_read}
use Rattle.std.specs.List.{list_any}
use Rattle.std.specs.Option.{option_or}
use Rattle.std.proofs.lemmas.List.{drop_all, drop_more, length-map, get_or_default, get_or-map, length-take, take_all, take_more}
use Rattle.std.proofs.lemmas.Slice.Eq.{bytes_eq-Decides}
use Rattle.name_table.specs.Places.{first_place, noted}
use Rattle.v_syntax.specs.declared.source.Module.{Module}
use Rattle.v_syntax.specs.SourceTrees.{ModuleTree, view_module}
use Rattle.v_flat.specs.declared.scope.rule.ElabRule.TheVariants as rule
use Rattle.v_flat.specs.Scope.Rules.{at}
use Rattle.v_flat.specs.Scope.Found.{fine, needs, ended, next}
use Rattle.v_flat.specs.Headers.{module_name}
use Rattle.v_flat.specs.Delays.{nanosecond}
use Rattle.v_flat.specs.Design.{find_module, modules_checked, unit_of}
use Rattle.v_header.specs.Top.Found.{module_in}
use Rattle.v_header.specs.Top.Modules.{AreNumbers, ChecksModules, number_of}

-- ---- equal bytes, in either order

decided_sym : (a b : List ℕ) (x y : Bool) → bytes_eq a b ≡ x → bytes_eq b a ≡ y → x ≡ y
decided_sym a b true true h g = refl
decided_sym a b false false h g = refl
decided_sym a b true false h g = let e : bytes_eq b a ≡ true = (bytes_eq-Decides b a).1 (sym ((bytes_eq-Decides a b).0 h)) in cc
decided_sym a b false true h g = let e : bytes_eq a b ≡ true = (bytes_eq-Decides a b).1 (sym ((bytes_eq-Decides b a).0 g)) in cc

pub bytes_sym : (a b : List ℕ) → bytes_eq a b ≡ bytes_eq b a
bytes_sym a b = decided_sym a b (bytes_eq a b) (bytes_eq b a) refl refl

-- ---- a name's number among the modules before, and one more

shifted : (x y : Option ℕ) → option_map suc (option_or x y) ≡ option_or (option_map suc x) (option_map suc y)
shifted None y = refl
shifted (Some k) y = refl

shifted_if : (c : Bool) (k : ℕ) → option_map suc (if c then Some k else None) ≡ (if c then Some (suc k) else None)
shifted_if true k = refl
shifted_if false k = refl

first_or : (c : Bool) (k : ℕ) (x y : Option ℕ) → (if c then Some k else option_or x y) ≡ option_or (if c then Some k else x) y
first_or true k x y = refl
first_or false k x y = refl

number_more : (n : List ℕ) (ms : List ModuleTree) (m : ModuleTree)
    → number_of n (ms ++ m ∷ []) ≡ option_or (number_of n ms) (if bytes_eq n (module_name m).name then Some (length ms) else None)
number_more n [] m = ap (λ (b : Bool). if b then Some 0 else None) (bytes_sym (module_name m).name n)
number_more n (x ∷ xs) m =
    let c = bytes_eq (module_name x).name n in
    let last : Option ℕ = if bytes_eq n (module_name m).name then Some (length xs) else None in
    ap (λ (o : Option ℕ). if c then Some 0 else option_map suc o) (number_more n xs m)
    ∙ ap (λ (o : Option ℕ). if c then Some 0 else o) (shifted (number_of n xs) last)
    ∙ first_or c 0 (option_map suc (number_of n xs)) (option_map suc last)
    ∙ ap (λ (o : Option ℕ). option_or (if c then Some 0 else option_map suc (number_of n xs)) o) (shifted_if (bytes_eq n (module_name m).name) (length xs))

-- ---- names that were seen

unfoldable pub seen_with : List (List ℕ) → List ModuleTree → List (List ℕ)
seen_with s [] = s
seen_with s (m ∷ ms) = seen_with ((module_name m).name ∷ s) ms

seen_more : (s : List (List ℕ)) (ms : List ModuleTree) (m : ModuleTree) → seen_with s (ms ++ m ∷ []) ≡ (module_name m).name ∷ seen_with s ms
unfolding seen_with
seen_more s [] m = refl
seen_more s (x ∷ xs) m = seen_more ((module_name x).name ∷ s) xs m

some_shifted : (o : Option ℕ) → is_some (option_map suc o) ≡ is_some o
some_shifted None = refl
some_shifted (Some k) = refl

either_seen : (c d b : Bool) (o : Option ℕ) → d ≡ c → ((c || b) || is_some o) ≡ (b || is_some (if d then Some 0 else option_map suc o))
either_seen true true true o h = refl
either_seen true true false o h = refl
either_seen false false b o h = ap (λ (x : Bool). b || x) (sym (some_shifted o))
either_seen true false b o h = absurd (cc)
either_seen false true b o h = absurd (cc)

or_nothing : (b : Bool) → b ≡ (b || false)
or_nothing true = refl
or_nothing false = refl

seen_numbered : (n : List ℕ) (s : List (List ℕ)) (ms : List ModuleTree) → list_any (bytes_eq n) (seen_with s ms) ≡ (list_any (bytes_eq n) s || is_some (number_of n ms))
unfolding seen_with
seen_numbered n s [] = or_nothing (list_any (bytes_eq n) s)
seen_numbered n s (m ∷ ms) =
    seen_numbered n ((module_name m).name ∷ s) ms
    ∙ either_seen (bytes_eq n (module_name m).name) (bytes_eq (module_name m).name n) (list_any (bytes_eq n) s) (number_of n ms) (bytes_sym (module_name m).name n)

-- ---- the loop: no name stands twice in the modules before, and each of them has its number

unfoldable pub Numbered : List ModuleTree → ℕ → List (List ℕ × ℕ) → Type 0
Numbered ms i numbers =
    (modules_checked (seen_with [] (take i ms)) (drop i ms) ≡ modules_checked [] ms) × ((n : List ℕ) → first_place numbers n ≡ number_of n (take i ms))

pub numbered_none : (ms : List ModuleTree) (numbers : List (List ℕ × ℕ)) → ((n : List ℕ) → first_place numbers n ≡ None) → Numbered ms 0 numbers
unfolding Numbered seen_with
numbered_none ms numbers h = (refl, h)

-- the module with the number i
here : (ms : List ModuleTree) (i : ℕ) (m : ModuleTree) → i < length ms → m ≡ get_or ms i m → drop i ms ≡ m ∷ drop (i + 1) ms
here ms i m h q = drop_more ms i m h ∙ ap (λ (x : ModuleTree). x ∷ drop (i + 1) ms) (sym q)

checks_next : (s : List (List ℕ)) (m : ModuleTree) (rest : List ModuleTree) (b : Bool) → list_any (bytes_eq (module_name m).name) s ≡ b
    → modules_checked s (m ∷ rest) ≡ next (ended (needs (not b) rule.DuplicateName (module_name m).at fine)) (λ u. modules_checked ((module_name m).name ∷ s) rest)
checks_next s m rest b h =
    ap (λ (c : Bool). next (ended (needs (not c) rule.DuplicateName (module_name m).at fine)) (λ u. modules_checked ((module_name m).name ∷ s) rest)) h

seen_here : (ms : List ModuleTree) (i : ℕ) (m : ModuleTree) (numbers : List (List ℕ × ℕ)) (b : Bool) → Numbered ms i numbers
    → is_some (first_place numbers (module_name m).name) ≡ b → list_any (bytes_eq (module_name m).name) (seen_with [] (take i ms)) ≡ b
unfolding Numbered
seen_here ms i m numbers b h g =
    let n = (module_name m).name in
    seen_numbered n [] (take i ms) ∙ ap (λ (o : Option ℕ). is_some o) (sym (h.1 n)) ∙ g

pub numbered_twice : (ms : List ModuleTree) (i : ℕ) (m : ModuleTree) (numbers : List (List ℕ × ℕ)) → i < length ms → m ≡ get_or ms i m → Numbered ms i numbers
    → is_some (first_place numbers (module_name m).name) ≡ true → modules_checked [] ms ≡ Err (at rule.DuplicateName (module_name m).at)
unfolding Numbered
numbered_twice ms i m numbers h q so_far twice =
    let s = seen_with [] (take i ms) in
    sym so_far.0
    ∙ ap (λ (xs : List ModuleTree). modules_checked s xs) (here ms i m h q)
    ∙ checks_next s m (drop (i + 1) ms) true (seen_here ms i m numbers true so_far twice)

pub numbered_more : (ms : List ModuleTree) (i : ℕ) (m : ModuleTree) (numbers more : List (List ℕ × ℕ)) → i < length ms → m ≡ get_or ms i m → Numbered ms i numbers
    → is_some (first_place numbers (module_name m).name) ≡ false → ((n : List ℕ) → first_place more n ≡ noted (module_name m).name i (first_place numbers) n)
    → Numbered ms (i + 1) more
unfolding Numbered
numbered_more ms i m numbers more h q so_far once made =
    let s = seen_with [] (take i ms) in
    let grown : take (i + 1) ms ≡ take i ms ++ m ∷ [] = take_more ms i m h ∙ ap (λ (x : ModuleTree). take i ms ++ x ∷ []) (sym q) in
    let count : length (take i ms) ≡ i = (let e = length-take i ms in omega (arith, e, h)) in (
      ap (λ (xs : List ModuleTree). modules_checked (seen_with [] xs) (drop (i + 1) ms)) grown
          ∙ ap (λ (t : List (List ℕ)). modules_checked t (drop (i + 1) ms)) (seen_more [] (take i ms) m)
          ∙ sym (checks_next s m (drop (i + 1) ms) false (seen_here ms i m numbers false so_far once))
          ∙ ap (λ (xs : List ModuleTree). modules_checked s xs) (sym (here ms i m h q))
          ∙ so_far.0,
      λ n. made n
          ∙ ap (λ (o : Option ℕ). option_or o (if bytes_eq n (module_name m).name then Some i else None)) (so_far.1 n)
          ∙ ap (λ (k : ℕ). option_or (number_of n (take i ms)) (if bytes_eq n (module_name m).name then Some k else None)) (sym count)
          ∙ sym (number_more n (take i ms) m)
          ∙ ap (λ (xs : List ModuleTree). number_of n xs) (sym grown),
    )

pub numbered_all : (ms : List ModuleTree) (i : ℕ) (numbers : List (List ℕ × ℕ)) → length ms ≤ i → Numbered ms i numbers → ChecksModules ms (Ok numbers)
unfolding Numbered
numbered_all ms i numbers h so_far = (
  sym so_far.0 ∙ ap (λ (xs : List ModuleTree). modules_checked (seen_with [] (take i ms)) xs) (drop_all i ms h),
  λ n. so_far.1 n ∙ ap (λ (xs : List ModuleTree). number_of n xs) (take_all i ms h),
)

-- ---- the module with a name's number has that name

found_if : (c : Bool) (m : ModuleTree) (ms : List ModuleTree) (o : Option ℕ)
    → (if c then Some m else option_and_then (λ i. slice_get ms i) o) ≡ option_and_then (λ i. slice_get (m ∷ ms) i) (if c then Some 0 else option_map suc o)
found_if true m ms o = refl
found_if false m ms None = refl
found_if false m ms (Some k) = refl

pub found_by_number : (n : List ℕ) (ms : List ModuleTree) → find_module n ms ≡ option_and_then (λ i. slice_get ms i) (number_of n ms)
found_by_number n [] = refl
found_by_number n (m ∷ ms) =
    ap (λ (o : Option ModuleTree). if bytes_eq (module_name m).name n then Some m else o) (found_by_number n ms)
    ∙ found_if (bytes_eq (module_name m).name n) m ms (number_of n ms)

-- ---- what stands at a number

item_at : {A : Type 0} (xs : List A) (i : ℕ) (o : Option (Bor A)) → IsItemAt xs i o → option_copied o ≡ slice_get xs i
item_at xs i None h = sym (slice_get_past xs i (ltb-false i (length xs) (sym h.0)))
item_at xs i (Some x) h = sym (slice_get_read xs (length xs) i x.now refl (ltb-true i (length xs) (sym h.0)) h.1)

-- ---- its unit

dropped : (us : List ℕ) (k d : ℕ) → slice_get (drop 1 us) k ≡ slice_get us (suc k)
dropped [] k d = refl
dropped (u ∷ us) k d = refl

first_of : (us : List ℕ) (d : ℕ) → slice_index_or us 0 d ≡ unwrap_or (slice_get us 0) d
first_of [] d = refl
first_of (u ∷ us) d = refl

unit_if : (c : Bool) (us : List ℕ) (d : ℕ) (o : Option ℕ)
    → (if c then slice_index_or us 0 d else unwrap_or (option_and_then (λ i. slice_get (drop 1 us) i) o) d)
    ≡ unwrap_or (option_and_then (λ i. slice_get us i) (if c then Some 0 else option_map suc o)) d
unit_if true us d o = first_of us d
unit_if false us d None = refl
unit_if false us d (Some k) = ap (λ (x : Option ℕ). unwrap_or x d) (dropped us k d)

unit_by_number : (n : List ℕ) (ms : List ModuleTree) (us : List ℕ)
    → unit_of n ms us ≡ unwrap_or (option_and_then (λ i. slice_get us i) (number_of n ms)) nanosecond
unit_by_number n [] us = refl
unit_by_number n (m ∷ ms) us =
    ap (λ (u : ℕ). if bytes_eq (module_name m).name n then slice_index_or us 0 nanosecond else u) (unit_by_number n ms (drop 1 us))
    ∙ unit_if (bytes_eq (module_name m).name n) us nanosecond (number_of n ms)

unit_by : (n : List ℕ) (xs : List Module) (us : List ℕ) (numbers : List (List ℕ × ℕ)) (r x y : Option ℕ) → AreNumbers (map view_module xs) numbers
    → r ≡ first_place numbers n → r ≡ x → option_and_then (λ i. slice_get us i) x ≡ y → unwrap_or y nanosecond ≡ unit_of n (map view_module xs) us
unit_by n xs us numbers r x y are found is there =
    let ms = map view_module xs in
    sym (unit_by_number n ms us
    ∙ ap (λ (o : Option ℕ). unwrap_or (option_and_then (λ i. slice_get us i) o) nanosecond) (sym (sym is ∙ found ∙ are n))
    ∙ ap (λ (o : Option ℕ). unwrap_or o nanosecond) there)

pub unit_there : (n : List ℕ) (xs : List Module) (us : List ℕ) (numbers : List (List ℕ × ℕ)) (r : Option ℕ) (k : ℕ) (o : Option (Bor ℕ)) (u : Bor ℕ)
    → AreNumbers (map view_module xs) numbers → r ≡ first_place numbers n → r ≡ Some k → IsItemAt us k o → o ≡ Some u → u.now ≡ unit_of n (map view_module xs) us
unit_there n xs us numbers r k o u are found is there e =
    unit_by n xs us numbers r (Some k) (Some u.now) are found is (sym (item_at us k o there) ∙ ap (λ (x : Option (Bor ℕ)). option_copied x) e)

pub unit_past : (n : List ℕ) (xs : List Module) (us : List ℕ) (numbers : List (List ℕ × ℕ)) (r : Option ℕ) (k : ℕ) (o : Option (Bor ℕ))
    → AreNumbers (map view_module xs) numbers → r ≡ first_place numbers n → r ≡ Some k → IsItemAt us k o → o ≡ None → nanosecond ≡ unit_of n (map view_module xs) us
unit_past n xs us numbers r k o are found is there e =
    unit_by n xs us numbers r (Some k) None are found is (sym (item_at us k o there) ∙ ap (λ (x : Option (Bor ℕ)). option_copied x) e)

pub unit_nowhere : (n : List ℕ) (xs : List Module) (us : List ℕ) (numbers : List (List ℕ × ℕ)) (r : Option ℕ)
    → AreNumbers (map view_module xs) numbers → r ≡ first_place numbers n → r ≡ None → nanosecond ≡ unit_of n (map view_module xs) us
unit_nowhere n xs us numbers r are found is = unit_by n xs us numbers r None None are found is refl

-- ---- the module itself

copied : (o : Option (Bor Module)) → module_in o ≡ option_map view_module (option_copied o)
copied None = refl
copied (Some x) = refl

pub found_there : (n : List ℕ) (xs : List Module) (numbers : List (List ℕ × ℕ)) (o : Option (Bor Module)) (r : Option ℕ) (k : ℕ) → AreNumbers (map view_module xs) numbers
    → r ≡ first_place numbers n → r ≡ Some k → IsItemAt xs k o → module_in o ≡ find_module n (map view_module xs)
found_there n xs numbers o r k are found is there =
    let ms = map view_module xs in
    copied o
    ∙ ap (λ (x : Option Module). option_map view_module x) (item_at xs k o there)
    ∙ sym (slice_get-map view_module xs k)
    ∙ ap (λ (x : Option ℕ). option_and_then (λ i. slice_get ms i) x) (sym is ∙ found ∙ are n)
    ∙ sym (found_by_number n ms)

pub found_nowhere : (n : List ℕ) (xs : List Module) (numbers : List (List ℕ × ℕ)) (r : Option ℕ) → AreNumbers (map view_module xs) numbers
    → r ≡ first_place numbers n → r ≡ None → None ≡ find_module n (map view_module xs)
found_nowhere n xs numbers r are found is =
    let ms = map view_module xs in
    ap (λ (x : Option ℕ). option_and_then (λ i. slice_get ms i) x) (sym is ∙ found ∙ are n)
    ∙ sym (found_by_number n ms)

-- ---- the same of the code's modules

tree_at : (xs : List Module) (i : ℕ) (d : Module) → i < length xs → view_module (get_or xs i d) ≡ get_or (map view_module xs) i (view_module (get_or xs i d))
tree_at xs i d h =
    ap (λ (x : Module). view_module x) (get_or_default xs i d (get_or xs i d) h)
    ∙ sym (get_or-map view_module xs i (get_or xs i d) (view_module (get_or xs i d)) h)

module_here : (xs : List Module) (i : ℕ) (d : Module) → i < length xs → d ≡ get_or xs i d → view_module d ≡ get_or (map view_module xs) i (view_module d)
module_here xs i d h is = subst (λ (m : Module). view_module m ≡ get_or (map view_module xs) i (view_module m)) (sym is) (tree_at xs i d h)

inside : (xs : List Module) (i : ℕ) → i < length xs → i < length (map view_module xs)
inside xs i h = let e = length-map xs view_module in omega (arith, e, h)

pub twice_here : (xs : List Module) (i : ℕ) (d : Module) (numbers : List (List ℕ × ℕ)) (n : List ℕ) → i < length xs → d ≡ get_or xs i d → n ≡ d.name.name
    → is_some (first_place numbers n) ≡ true → Numbered (map view_module xs) i numbers → modules_checked [] (map view_module xs) ≡ Err (at rule.DuplicateName d.name.at)
twice_here xs i d numbers n h is name twice so_far =
    numbered_twice (map view_module xs) i (view_module d) numbers (inside xs i h) (module_here xs i d h is) so_far
    (ap (λ (k : List ℕ). is_some (first_place numbers k)) (sym name) ∙ twice)

pub once_here : (xs : List Module) (i : ℕ) (d : Module) (numbers more : List (List ℕ × ℕ)) (n k : List ℕ) → i < length xs → d ≡ get_or xs i d → n ≡ d.name.name
    → is_some (first_place numbers n) ≡ false → k ≡ d.name.name → ((q : List ℕ) → first_place more q ≡ noted k i (first_place numbers) q)
    → Numbered (map view_module xs) i numbers → Numbered (map view_module xs) (i + 1) more
once_here xs i d numbers more n k h is name once same made so_far =
    numbered_more (map view_module xs) i (view_module d) numbers more (inside xs i h) (module_here xs i d h is) so_far
    (ap (λ (q : List ℕ). is_some (first_place numbers q)) (sym name) ∙ once)
    (λ q. made q ∙ ap (λ (m : List ℕ). noted m i (first_place numbers) q) same)

pub all_here : (xs : List Module) (i : ℕ) (numbers : List (List ℕ × ℕ)) → length xs ≤ i → Numbered (map view_module xs) i numbers → ChecksModules (map view_module xs) (Ok numbers)
all_here xs i numbers h so_far = numbered_all (map view_module xs) i numbers (let e = length-map xs view_module in omega (arith, e, h)) so_far
