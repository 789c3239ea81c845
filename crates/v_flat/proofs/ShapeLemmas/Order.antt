-- The declarations of an instance, in the order of ports and first declarations.
use Rattle.std.proofs.Common.{◌≡◌, ◌≤◌, ◌+◌, ◌||◌, ◌⊎◌, inl, inr, ◌∙◌, ℕ, Bool, true, false, List, [], ◌∷◌, ◌++◌, map, Option, Some, None, Result, Ok, Err, refl, sym, ap, subst, arith, if◌then◌else◌}
use Rattle.std.specs.Prelude.{bytes_eq}
use Rattle.std.specs.List.{list_any}
use Rattle.std.proofs.lemmas.List.{map-append}
use Rattle.gpi.specs.Terms.{IsWidth}
use Rattle.v_syntax.specs.SourceTrees.{ModuleTree}
use Rattle.v_flat.specs.declared.scope.rule.Broken.{Broken}
use Rattle.v_flat.specs.Scope.Limits.{most_parts}
use Rattle.v_flat.specs.Scope.Found.{HoldsOk}
use Rattle.v_flat.specs.Scope.Scope.{width_of}
use Rattle.v_flat.specs.Objects.{count_of}
use Rattle.v_flat.specs.Headers.{Port, port_name, ports_of}
use Rattle.v_flat.specs.Declarations.{Declared, Place, declarations, find_declared, in_order, listed, other_lines, port_lines, signals_in, whole_of, with_declared}
use Rattle.v_flat.proofs.ShapeLemmas.Declared.{Goes, declared_hold}
use Rattle.v_flat.proofs.ShapeLemmas.Ports.{found_name, ports_differ}
use Rattle.v_flat.proofs.ShapeLemmas.Names.{Among, Differ, among_first, among_later, differ_both, is_itself, one_of_more, same_name}

abbrev pub name_of : Declared → List ℕ
name_of d = d.name

abbrev pub names : List Declared → List (List ℕ)
names ds = map name_of ds

abbrev pub AllWide : List Declared → Type 0
AllWide [] = Unit {0}
AllWide (d ∷ ds) = IsWidth (width_of d.bounds) × AllWide ds

-- what is declared: 1 to 128 digits, each name once, and room for the signals from first on
pub record AreGood (first : ℕ) (ds : List Declared) : Type 0 where
  pub wide : AllWide ds
  pub differ : Differ (names ds)
  pub room : first + signals_in ds ≤ most_parts

-- ---- one more

wide_both : (xs ys : List Declared) → AllWide xs → AllWide ys → AllWide (xs ++ ys)
wide_both [] ys h k = k
wide_both (x ∷ xs) ys h k = (h.0, wide_both xs ys h.1 k)

signals_both : (xs ys : List Declared) → signals_in (xs ++ ys) ≡ signals_in xs + signals_in ys
signals_both [] ys = omega arith
signals_both (x ∷ xs) ys = let h = signals_both xs ys in omega (arith, h)

-- a name that isn't found isn't there
not_there : (n : List ℕ) (ds : List Declared) → find_declared n ds ≡ None → Among n (names ds) → ⊥
not_there n [] h a = cc
not_there n (d ∷ ds) h a = go (bytes_eq d.name n) refl h (one_of_more n d.name (names ds) a) (not_there n ds)
  where
    go : (b : Bool) → bytes_eq d.name n ≡ b → (if b then Some d else find_declared n ds) ≡ None → (n ≡ d.name) ⊎ Among n (names ds) → (find_declared n ds ≡ None → Among n (names ds) → ⊥) → ⊥
    go true e f k later = cc
    go false e f (inl k) later = let g : bytes_eq d.name n ≡ true = ap (λ m. bytes_eq d.name m) k ∙ is_itself d.name in cc
    go false e f (inr k) later = later f k

found_wide : (n : List ℕ) (ds : List Declared) (d : Declared) → AllWide ds → find_declared n ds ≡ Some d → IsWidth (width_of d.bounds)
found_wide n [] d w h = cc
found_wide n (x ∷ xs) d w h = go (bytes_eq x.name n) h (found_wide n xs d w.1)
  where
    go : (b : Bool) → (if b then Some x else find_declared n xs) ≡ Some d → (find_declared n xs ≡ Some d → IsWidth (width_of d.bounds)) → IsWidth (width_of d.bounds)
    go true f later = let k : x ≡ d = cc in subst (λ (y : Declared). IsWidth (width_of y.bounds)) k w.0
    go false f later = later f

-- ---- one in its place

put_names : (x : Declared) (ds : List Declared) → names (with_declared x ds) ≡ names ds
put_names x [] = refl
put_names x (d ∷ ds) = go (bytes_eq d.name x.name) refl (put_names x ds)
  where
    go : (b : Bool) → bytes_eq d.name x.name ≡ b → names (with_declared x ds) ≡ names ds → names (if b then x ∷ ds else d ∷ with_declared x ds) ≡ d.name ∷ names ds
    go true e h = ap (λ n. n ∷ names ds) (sym (same_name d.name x.name e))
    go false e h = ap (λ ns. d.name ∷ ns) h

put_wide : (x : Declared) (ds : List Declared) → IsWidth (width_of x.bounds) → AllWide ds → AllWide (with_declared x ds)
put_wide x [] w h = tt
put_wide x (d ∷ ds) w h = go (bytes_eq d.name x.name) (put_wide x ds w h.1)
  where
    go : (b : Bool) → AllWide (with_declared x ds) → AllWide (if b then x ∷ ds else d ∷ with_declared x ds)
    go true k = (w, h.1)
    go false k = (h.0, k)

put_signals : (x old : Declared) (ds : List Declared) → find_declared x.name ds ≡ Some old → x.words ≡ old.words → signals_in (with_declared x ds) ≡ signals_in ds
put_signals x old [] h e = refl
put_signals x old (d ∷ ds) h e = go (bytes_eq d.name x.name) h (put_signals x old ds)
  where
    go : (b : Bool) → (if b then Some d else find_declared x.name ds) ≡ Some old → (find_declared x.name ds ≡ Some old → x.words ≡ old.words → signals_in (with_declared x ds) ≡ signals_in ds)
        → signals_in (if b then x ∷ ds else d ∷ with_declared x ds) ≡ count_of d.words + signals_in ds
    go true f later = let k : d ≡ old = cc in ap (λ w. count_of w + signals_in ds) (e ∙ ap (λ (y : Declared). y.words) (sym k))
    go false f later = ap (λ n. count_of d.words + n) (later f e)

good_goes : (w : Place) → w.first ≤ most_parts → Goes w (AreGood w.first)
good_goes w fits = record {
  none = record { wide = tt; differ = tt; room = omega (arith, fits) };
  more = λ ds x h n. record {
    wide = wide_both ds (x ∷ []) h.wide (n.wide, tt);
    differ = subst Differ (sym (map-append name_of ds (x ∷ []))) (differ_both (names ds) (x.name ∷ []) h.differ ((λ a. cc), tt) (λ k a b. apart ds x n.new k a (one_of_more k x.name [] b)));
    room = let r = n.room in let e = signals_both ds (x ∷ []) in omega (arith, r, e);
  };
  again = λ ds x old h f. record {
    wide = put_wide (whole_of old x) ds (found_wide x.name ds old h.wide f) h.wide;
    differ = subst Differ (sym (put_names (whole_of old x) ds)) h.differ;
    room = let r = h.room in let e = put_signals (whole_of old x) old ds (ap (λ n. find_declared n ds) (found_name x.name ds old f) ∙ f) refl in omega (arith, r, e);
  };
}
  where
    apart : (ds : List Declared) (x : Declared) → find_declared x.name ds ≡ None → (k : List ℕ) → Among k (names ds) → (k ≡ x.name) ⊎ Among k [] → ⊥
    apart ds x new k a (inl e) = not_there x.name ds new (ap (λ n. list_any (bytes_eq n) (names ds)) (sym e) ∙ a)
    apart ds x new k a (inr b) = cc

pub declared_good : (w : Place) (m : ModuleTree) → w.first ≤ most_parts → HoldsOk (AreGood w.first) (declarations w m)
declared_good w m fits = declared_hold w (AreGood w.first) (good_goes w fits) m

-- ---- in order

-- what a port is declared to be has the port's name
port_names : (n : List ℕ) (ps : List Port) (ds : List Declared) → Among n (names (port_lines ps ds)) → Among n (map port_name ps)
port_names n [] ds a = a
port_names n (p ∷ ps) ds a = go (find_declared p.name ds) refl (port_names n ps ds) a
  where
    go : (o : Option Declared) → find_declared p.name ds ≡ o → (Among n (names (port_lines ps ds)) → Among n (map port_name ps)) → Among n (names (listed o ++ port_lines ps ds))
        → Among n (p.name ∷ map port_name ps)
    go None e k b = among_later n p.name (map port_name ps) (k b)
    go (Some d) e k b = one (one_of_more n d.name (names (port_lines ps ds)) b)
      where
        one : (n ≡ d.name) ⊎ Among n (names (port_lines ps ds)) → Among n (p.name ∷ map port_name ps)
        one (inl f) = ap (λ m. list_any (bytes_eq m) (p.name ∷ map port_name ps)) (f ∙ found_name p.name ds d e) ∙ among_first p.name (map port_name ps)
        one (inr c) = among_later n p.name (map port_name ps) (k c)

port_lines_differ : (ps : List Port) (ds : List Declared) → Differ (map port_name ps) → Differ (names (port_lines ps ds))
port_lines_differ [] ds h = tt
port_lines_differ (p ∷ ps) ds h = go (find_declared p.name ds) refl (port_lines_differ ps ds h.1)
  where
    go : (o : Option Declared) → find_declared p.name ds ≡ o → Differ (names (port_lines ps ds)) → Differ (names (listed o ++ port_lines ps ds))
    go None e k = k
    go (Some d) e k = ((λ a. h.0 (ap (λ m. list_any (bytes_eq m) (map port_name ps)) (sym (found_name p.name ds d e)) ∙ port_names d.name ps ds a)), k)

other_names : (n : List ℕ) (ports : List (List ℕ)) (ds : List Declared) → Among n (names (other_lines ports ds)) → (Among n ports → ⊥) × Among n (names ds)
other_names n ports [] a = cc
other_names n ports (d ∷ ds) a = go (list_any (bytes_eq d.name) ports) refl (other_names n ports ds) a
  where
    go : (b : Bool) → list_any (bytes_eq d.name) ports ≡ b → (Among n (names (other_lines ports ds)) → (Among n ports → ⊥) × Among n (names ds))
        → Among n (names (if b then other_lines ports ds else d ∷ other_lines ports ds)) → (Among n ports → ⊥) × Among n (d.name ∷ names ds)
    go true e k b = let r = k b in (r.0, among_later n d.name (names ds) r.1)
    go false e k b = one (one_of_more n d.name (names (other_lines ports ds)) b)
      where
        one : (n ≡ d.name) ⊎ Among n (names (other_lines ports ds)) → (Among n ports → ⊥) × Among n (d.name ∷ names ds)
        one (inl f) = ((λ c. let g : list_any (bytes_eq d.name) ports ≡ true = ap (λ m. list_any (bytes_eq m) ports) (sym f) ∙ c in cc), ap (λ m. list_any (bytes_eq m) (d.name ∷ names ds)) f ∙ among_first d.name (names ds))
        one (inr c) = let r = k c in (r.0, among_later n d.name (names ds) r.1)

other_lines_differ : (ports : List (List ℕ)) (ds : List Declared) → Differ (names ds) → Differ (names (other_lines ports ds))
other_lines_differ ports [] h = tt
other_lines_differ ports (d ∷ ds) h = go (list_any (bytes_eq d.name) ports) (other_lines_differ ports ds h.1)
  where
    go : (b : Bool) → Differ (names (other_lines ports ds)) → Differ (names (if b then other_lines ports ds else d ∷ other_lines ports ds))
    go true k = k
    go false k = ((λ a. h.0 (other_names d.name ports ds a).1), k)

order_differ : (ps : List Port) (ds : List Declared) → Differ (map port_name ps) → Differ (names ds) → Differ (names (in_order ps ds))
order_differ ps ds h k =
    subst Differ (sym (map-append name_of (port_lines ps ds) (other_lines (map port_name ps) ds)))
    (differ_both (names (port_lines ps ds)) (names (other_lines (map port_name ps) ds)) (port_lines_differ ps ds h) (other_lines_differ (map port_name ps) ds k)
    (λ n a b. (other_names n (map port_name ps) ds b).0 (port_names n ps ds a)))

port_lines_wide : (ps : List Port) (ds : List Declared) → AllWide ds → AllWide (port_lines ps ds)
port_lines_wide [] ds h = tt
port_lines_wide (p ∷ ps) ds h = go (find_declared p.name ds) refl (port_lines_wide ps ds h)
  where
    go : (o : Option Declared) → find_declared p.name ds ≡ o → AllWide (port_lines ps ds) → AllWide (listed o ++ port_lines ps ds)
    go None e k = k
    go (Some d) e k = (found_wide p.name ds d h e, k)

other_lines_wide : (ports : List (List ℕ)) (ds : List Declared) → AllWide ds → AllWide (other_lines ports ds)
other_lines_wide ports [] h = tt
other_lines_wide ports (d ∷ ds) h = go (list_any (bytes_eq d.name) ports) (other_lines_wide ports ds h.1)
  where
    go : (b : Bool) → AllWide (other_lines ports ds) → AllWide (if b then other_lines ports ds else d ∷ other_lines ports ds)
    go true k = k
    go false k = (h.0, k)

-- the signals of a declaration that is a port's
abbrev as_port : Bool → ℕ → ℕ
as_port true n = n
as_port false n = 0

not_true : (b : Bool) → (b ≡ true → ⊥) → b ≡ false
not_true true h = absurd (h refl)
not_true false h = refl

none_listed : (ps : List Port) → signals_in (port_lines ps []) ≡ 0
none_listed [] = refl
none_listed (p ∷ ps) = none_listed ps

port_signals : (ps : List Port) (d : Declared) (ds : List Declared) → Differ (map port_name ps)
    → signals_in (port_lines ps (d ∷ ds)) ≤ as_port (list_any (bytes_eq d.name) (map port_name ps)) (count_of d.words) + signals_in (port_lines ps ds)
port_signals [] d ds h = omega arith
port_signals (p ∷ ps) d ds h = go (bytes_eq d.name p.name) refl (port_signals ps d ds h.1)
  where
    rest : ℕ
    rest = signals_in (port_lines ps (d ∷ ds))

    go : (b : Bool) → bytes_eq d.name p.name ≡ b → rest ≤ as_port (list_any (bytes_eq d.name) (map port_name ps)) (count_of d.words) + signals_in (port_lines ps ds)
        → signals_in (listed (if b then Some d else find_declared p.name ds) ++ port_lines ps (d ∷ ds))
        ≤ as_port (b || list_any (bytes_eq d.name) (map port_name ps)) (count_of d.words) + signals_in (listed (find_declared p.name ds) ++ port_lines ps ds)
    go true e k =
        let none : list_any (bytes_eq d.name) (map port_name ps) ≡ false =
        not_true (list_any (bytes_eq d.name) (map port_name ps)) (λ t. h.0 (ap (λ m. list_any (bytes_eq m) (map port_name ps)) (sym (same_name d.name p.name e)) ∙ t)) in
        let f = ap (λ t. as_port t (count_of d.words)) none in
        let g = signals_both (listed (find_declared p.name ds)) (port_lines ps ds) in omega (arith, k, f, g)
    go false e k =
        let f = signals_both (listed (find_declared p.name ds)) (port_lines ps ds) in
        let g = signals_both (listed (find_declared p.name ds)) (port_lines ps (d ∷ ds)) in omega (arith, k, f, g)

lines_signals : (ps : List Port) (ds : List Declared) → Differ (map port_name ps) → signals_in (port_lines ps ds) + signals_in (other_lines (map port_name ps) ds) ≤ signals_in ds
lines_signals ps [] h = let e = none_listed ps in omega (arith, e)
lines_signals ps (d ∷ ds) h = go (list_any (bytes_eq d.name) (map port_name ps)) (port_signals ps d ds h) (lines_signals ps ds h)
  where
    go : (b : Bool) → signals_in (port_lines ps (d ∷ ds)) ≤ as_port b (count_of d.words) + signals_in (port_lines ps ds)
        → signals_in (port_lines ps ds) + signals_in (other_lines (map port_name ps) ds) ≤ signals_in ds
        → signals_in (port_lines ps (d ∷ ds)) + signals_in (if b then other_lines (map port_name ps) ds else d ∷ other_lines (map port_name ps) ds) ≤ count_of d.words + signals_in ds
    go true k l = omega (arith, k, l)
    go false k l = omega (arith, k, l)

pub order_good : (first : ℕ) (m : ModuleTree) (ds : List Declared) → Differ (map port_name (ports_of m)) → AreGood first ds → AreGood first (in_order (ports_of m) ds)
order_good first m ds apart h = record {
  wide = wide_both (port_lines (ports_of m) ds) (other_lines (map port_name (ports_of m)) ds) (port_lines_wide (ports_of m) ds h.wide) (other_lines_wide (map port_name (ports_of m)) ds h.wide);
  differ = order_differ (ports_of m) ds apart h.differ;
  room =
      let r = h.room in
      let k = lines_signals (ports_of m) ds apart in
      let e = signals_both (port_lines (ports_of m) ds) (other_lines (map port_name (ports_of m)) ds) in omega (arith, r, k, e);
}

pub ordered_good : (w : Place) (m : ModuleTree) → w.first ≤ most_parts → HoldsOk (λ (ds : List Declared). AreGood w.first (in_order (ports_of m) ds)) (declarations w m)
ordered_good w m fits = both (declarations w m) (ports_differ w m) (declared_good w m fits)
  where
    both : (r : Result (List Declared) Broken) → HoldsOk (λ (ds : List Declared). Differ (map port_name (ports_of m))) r → HoldsOk (AreGood w.first) r
        → HoldsOk (λ (ds : List Declared). AreGood w.first (in_order (ports_of m) ds)) r
    both (Ok ds) h k = order_good w.first m ds h k
    both (Err b) h k = tt

-- the same where it is known what is declared
pub good_in_order : (w : Place) (m : ModuleTree) (ds : List Declared) → w.first ≤ most_parts → declarations w m ≡ Ok ds → AreGood w.first (in_order (ports_of m) ds)
good_in_order w m ds fits e = subst (HoldsOk (λ (xs : List Declared). AreGood w.first (in_order (ports_of m) xs))) e (ordered_good w m fits)
