-- A design has at most 65,536 signals, of 1 to 128 digits each, and each name of an instance is one of its signals or instances.
use Rattle.std.proofs.Common.{◌≡◌, ◌<◌, ◌≤◌, ◌+◌, ◌&&◌, ◌∙◌, ℕ, zero, suc, Bool, true, false, IsTrue, List, [], ◌∷◌, ◌++◌, map, length, nat_le, slice_set, Option, Some, None, refl, sym, ap, subst, arith, length-append}
use Rattle.std.proofs.lemmas.Bool.Decides.{nat_tests}
use Rattle.std.proofs.lemmas.List.{length-set}
use Rattle.four_value.specs.declared.Digit.{Digit}
use Rattle.gpi.specs.Terms.{IsWidth}
use Rattle.gpi.specs.declared.design.Spot.{Spot}
use Rattle.gpi.specs.declared.design.Spot.TheVariants.{Inner, Sig, Words}
use Rattle.gpi.specs.Soundness.{are_nodes, are_spots, are_wide, is_spot}
use Rattle.v_syntax.specs.declared.statement.Identifier.{Identifier}
use Rattle.v_syntax.specs.SourceTrees.{ModuleTree}
use Rattle.v_flat.specs.Scope.Found.{HoldsOk}
use Rattle.v_flat.specs.declared.scope.meaning.Bounds.{Bounds}
use Rattle.v_flat.specs.declared.scope.meaning.DataObject.{DataObject}
use Rattle.v_flat.specs.Scope.Limits.{most_digits, most_parts}
use Rattle.v_flat.specs.Scope.Scope.{low_of, width_of}
use Rattle.v_flat.specs.Objects.{count_of}
use Rattle.v_flat.specs.Headers.{ports_of}
use Rattle.v_flat.specs.Targets.{Drive}
use Rattle.v_flat.specs.Declarations.{Declared, Entries, in_order, signals_in}
use Rattle.v_flat.specs.Paths.{NodeAt, Path, SignalAt, below, node_of, signal_of}
use Rattle.v_flat.specs.Design.{Modules, all_signals, children, closed, Design, flat_design, object_of, opened, Outside, place_of, signals_of, spot_of, start_of, State, with_child, word_signals}
use Rattle.v_flat.proofs.ShapeLemmas.Declared.{span_some}
use Rattle.v_flat.proofs.ShapeLemmas.Kept.{Keeps, KeepsParts, joints_keep, plain_holds}
use Rattle.v_flat.proofs.ShapeLemmas.Nodes.{Children}
use Rattle.v_flat.proofs.ShapeLemmas.Order.{AllWide, AreGood, good_in_order}
use Rattle.v_flat.proofs.ShapeLemmas.Walk.{Steps, design_holds, opening, scope_of}

-- ---- signals of an instance

abbrev HaveWidths : List SignalAt → Type 0
HaveWidths [] = Unit {0}
HaveWidths (s ∷ ss) = IsWidth s.width × HaveWidths ss

widths_both : (xs ys : List SignalAt) → HaveWidths xs → HaveWidths ys → HaveWidths (xs ++ ys)
widths_both [] ys h k = k
widths_both (x ∷ xs) ys h k = (h.0, widths_both xs ys h.1 k)

words_wide : (path : Path) (w : ℕ) (start : Digit) (i n : ℕ) → IsWidth w → HaveWidths (word_signals path w start i n)
words_wide path w start i zero h = tt
words_wide path w start i (suc n) h = (h, words_wide path w start (i + 1) n h)

words_many : (path : Path) (w : ℕ) (start : Digit) (i n : ℕ) → length (word_signals path w start i n) ≡ n
words_many path w start i zero = refl
words_many path w start i (suc n) = ap suc (words_many path w start (i + 1) n)

one_wide : (path : Path) (o : DataObject) (w : Option Bounds) → IsWidth (width_of o.bounds) → HaveWidths (signals_of path o w)
one_wide path o None h = (h, tt)
one_wide path o (Some w) h = words_wide path (width_of o.bounds) (start_of o.kind) (low_of w) (width_of w) h

one_many : (path : Path) (o : DataObject) (w : Option Bounds) → length (signals_of path o w) ≡ count_of w
one_many path o None = refl
one_many path o (Some w) = words_many path (width_of o.bounds) (start_of o.kind) (low_of w) (width_of w)

all_wide : (path : Path) (first : ℕ) (ds : List Declared) → AllWide ds → HaveWidths (all_signals path first ds)
all_wide path first [] h = tt
all_wide path first (d ∷ ds) h =
    widths_both (signals_of (below path d.name) (object_of first d) d.words) (all_signals path (first + count_of d.words) ds)
    (one_wide (below path d.name) (object_of first d) d.words h.0) (all_wide path (first + count_of d.words) ds h.1)

pub all_many : (path : Path) (first : ℕ) (ds : List Declared) → length (all_signals path first ds) ≡ signals_in ds
all_many path first [] = refl
all_many path first (d ∷ ds) =
    let e = length-append (signals_of (below path d.name) (object_of first d) d.words) (all_signals path (first + count_of d.words) ds) in
    let f = one_many (below path d.name) (object_of first d) d.words in
    let g = all_many path (first + count_of d.words) ds in omega (arith, e, f, g)

-- ---- the names of an instance

-- it is one of so many instances or signals
abbrev IsSpot : ℕ → ℕ → Spot → Type 0
IsSpot n s (Inner k) = k < n
IsSpot n s (Sig i) = i.0 < s
IsSpot n s (Words f low c) = (f.0 < s) × (f.0 + c ≤ s)

abbrev AreSpots : ℕ → ℕ → Children → Type 0
AreSpots n s [] = Unit {0}
AreSpots n s (c ∷ cs) = IsSpot n s c.1 × AreSpots n s cs

abbrev AllSpots : ℕ → ℕ → List NodeAt → Type 0
AllSpots n s [] = Unit {0}
AllSpots n s (x ∷ xs) = AreSpots n s x.children × AllSpots n s xs

spot_stays : (n m s t : ℕ) (x : Spot) → n ≤ m → s ≤ t → IsSpot n s x → IsSpot m t x
spot_stays n m s t (Inner k) h g i = omega (arith, h, i)
spot_stays n m s t (Sig k) h g i = omega (arith, g, i)
spot_stays n m s t (Words f low c) h g i = (let a = i.0 in omega (arith, g, a), let a = i.1 in omega (arith, g, a))

spots_stay : (n m s t : ℕ) (cs : Children) → n ≤ m → s ≤ t → AreSpots n s cs → AreSpots m t cs
spots_stay n m s t [] h g i = tt
spots_stay n m s t (c ∷ cs) h g i = (spot_stays n m s t c.1 h g i.0, spots_stay n m s t cs h g i.1)

all_stay : (n m s t : ℕ) (xs : List NodeAt) → n ≤ m → s ≤ t → AllSpots n s xs → AllSpots m t xs
all_stay n m s t [] h g i = tt
all_stay n m s t (x ∷ xs) h g i = (spots_stay n m s t x.children h g i.0, all_stay n m s t xs h g i.1)

spots_both : (n s : ℕ) (xs ys : Children) → AreSpots n s xs → AreSpots n s ys → AreSpots n s (xs ++ ys)
spots_both n s [] ys h k = k
spots_both n s (x ∷ xs) ys h k = (h.0, spots_both n s xs ys h.1 k)

all_both : (n s : ℕ) (xs ys : List NodeAt) → AllSpots n s xs → AllSpots n s ys → AllSpots n s (xs ++ ys)
all_both n s [] ys h k = k
all_both n s (x ∷ xs) ys h k = (h.0, all_both n s xs ys h.1 k)

declared_spot : (n s : ℕ) (first : ℕ) (d : Declared) (w : Option Bounds) → first + count_of w ≤ s → IsSpot n s (spot_of (object_of first d) w)
declared_spot n s first d None h = omega (arith, h)
declared_spot n s first d (Some w) h = (let k = span_some w.left w.right in omega (arith, h, k), h)

declared_spots : (n s first : ℕ) (ds : List Declared) → first + signals_in ds ≤ s → AreSpots n s (children first ds)
declared_spots n s first [] h = tt
declared_spots n s first (d ∷ ds) h =
    (declared_spot n s first d d.words (omega (arith, h)), declared_spots n s (first + count_of d.words) ds (omega (arith, h)))

-- ---- along the walk

-- it has no more signals than a design may have, each with 1 to 128 digits, and each name of its instances is one of its parts
pub record IsFit (e : Design) : Type 0 where
  pub short : length e.signals ≤ most_parts
  pub wide : HaveWidths e.signals
  pub spots : AllSpots (length e.nodes) (length e.signals) e.nodes

abbrev Starts : ModuleTree → Outside → Design → Type 0
Starts m out d = IsFit d

-- there are no fewer instances and signals behind an instance than before it
record Behind (path : Path) (d e : Design) : Type 0 where
  fit : IsFit e
  nodes : suc (length d.nodes) ≤ length e.nodes
  signals : length d.signals ≤ length e.signals

record Amid (path : Path) (d : Design) (ds : List Declared) (s : State) : Type 0 where
  fit : IsFit s.design
  nodes : suc (length d.nodes) ≤ length s.design.nodes
  signals : length d.signals ≤ length s.design.signals
  children : AreSpots (length s.design.nodes) (length s.design.signals) s.children

opened_fit : (path : Path) (ds : List Declared) (d : Design) → IsFit d → AreGood (length d.signals) ds → IsFit (opened path ds d)
opened_fit path ds d h g = record {
  short = let r = g.room in let e = many in omega (arith, r, e);
  wide = widths_both d.signals (all_signals path (length d.signals) ds) h.wide (all_wide path (length d.signals) ds g.wide);
  spots = all_both (length (opened path ds d).nodes) (length (opened path ds d).signals) d.nodes (record { path = path; children = [] } ∷ [])
      (all_stay (length d.nodes) (length (opened path ds d).nodes) (length d.signals) (length (opened path ds d).signals) d.nodes (let e = one in omega (arith, e)) (let e = many in omega (arith, e)) h.spots) (tt, tt);
}
  where
    many : length (opened path ds d).signals ≡ length d.signals + signals_in ds
    many = length-append d.signals (all_signals path (length d.signals) ds) ∙ ap (λ n. length d.signals + n) (all_many path (length d.signals) ds)

    one : length (opened path ds d).nodes ≡ length d.nodes + 1
    one = length-append d.nodes (record { path = path; children = [] } ∷ [])

kept_fit : (d e : Design) → e.nodes ≡ d.nodes → e.signals ≡ d.signals → IsFit d → IsFit e
kept_fit d e n s h = record {
  short = subst (λ xs. length xs ≤ most_parts) (sym s) h.short;
  wide = subst HaveWidths (sym s) h.wide;
  spots = subst (λ ns. AllSpots (length ns) (length e.signals) ns) (sym n) (subst (λ xs. AllSpots (length d.nodes) (length xs) d.nodes) (sym s) h.spots);
}

opens_amid : (m : ModuleTree) (path : Path) (out : Outside) (d : Design) (constants : Entries) (ds : List Declared) → IsFit d → AreGood (length d.signals) ds
    → Amid path d ds (opening m path out d (scope_of constants d ds) ds)
opens_amid m path out d constants ds h g = record {
  fit = kept_fit (opened path ds d) after keeps.nodes keeps.signals (opened_fit path ds d h g);
  nodes = let e = more_nodes in omega (arith, e);
  signals = let e = more_signals in omega (arith, e);
  children = declared_spots (length after.nodes) (length after.signals) (length d.signals) ds (let e = more_signals in omega (arith, e));
}
  where
    after : Design
    after = (opening m path out d (scope_of constants d ds) ds).design

    keeps : KeepsParts (opened path ds d) after
    keeps = joints_keep out.scope out.joints (scope_of constants d ds) (ports_of m) (opened path ds d)

    more_nodes : length after.nodes ≡ length d.nodes + 1
    more_nodes = ap length keeps.nodes ∙ length-append d.nodes (record { path = path; children = [] } ∷ [])

    more_signals : length after.signals ≡ length d.signals + signals_in ds
    more_signals = ap length keeps.signals ∙ length-append d.signals (all_signals path (length d.signals) ds) ∙ ap (λ n. length d.signals + n) (all_many path (length d.signals) ds)

kept_amid : (path : Path) (d : Design) (ds : List Declared) (s t : State) → Amid path d ds s → Keeps s t → Amid path d ds t
kept_amid path d ds s t h k = record {
  fit = kept_fit s.design t.design k.nodes k.signals h.fit;
  nodes = let a = h.nodes in let e = ap length k.nodes in omega (arith, a, e);
  signals = let a = h.signals in let e = ap length k.signals in omega (arith, a, e);
  children = subst (λ cs. AreSpots (length t.design.nodes) (length t.design.signals) cs) (sym k.children)
      (subst (λ n. AreSpots n (length t.design.signals) s.children) (sym (ap length k.nodes)) (subst (λ n. AreSpots (length s.design.nodes) n s.children) (sym (ap length k.signals)) h.children));
}

inner_amid : (path : Path) (d : Design) (ds : List Declared) (i : Identifier) (driven : List Drive) (s : State) (e : Design) → Amid path d ds s → Behind (below path i.name) s.design e
    → Amid path d ds (with_child i.name (length s.design.nodes) driven s e)
inner_amid path d ds i driven s e h b = record {
  fit = b.fit;
  nodes = let a = h.nodes in let c = b.nodes in omega (arith, a, c);
  signals = let a = h.signals in let c = b.signals in omega (arith, a, c);
  children = spots_both (length e.nodes) (length e.signals) s.children ((i.name, Inner (length s.design.nodes)) ∷ [])
      (spots_stay (length s.design.nodes) (length e.nodes) (length s.design.signals) (length e.signals) s.children (let c = b.nodes in omega (arith, c)) b.signals h.children)
      (let c = b.nodes in omega (arith, c), tt);
}

set_spots : (n s : ℕ) (xs : List NodeAt) (i : ℕ) (x : NodeAt) → AreSpots n s x.children → AllSpots n s xs → AllSpots n s (slice_set xs i x)
set_spots n s [] i x h k = tt
set_spots n s (y ∷ ys) zero x h k = (h, k.1)
set_spots n s (y ∷ ys) (suc i) x h k = (k.0, set_spots n s ys i x h k.1)

closes_behind : (path : Path) (d : Design) (ds : List Declared) (t : State) → Amid path d ds t → Behind path d (closed path (length d.nodes) t)
closes_behind path d ds t h = record {
  fit = record {
    short = h.fit.short;
    wide = h.fit.wide;
    spots = subst (λ n. AllSpots n (length t.design.signals) (closed path (length d.nodes) t).nodes) (sym same)
        (set_spots (length t.design.nodes) (length t.design.signals) t.design.nodes (length d.nodes) (record { path = path; children = t.children }) h.children h.fit.spots);
  };
  nodes = let a = h.nodes in let e = same in omega (arith, a, e);
  signals = h.signals;
}
  where
    same : length (closed path (length d.nodes) t).nodes ≡ length t.design.nodes
    same = length-set t.design.nodes (length d.nodes) (record { path = path; children = t.children })

fit_steps : Steps Starts Behind Amid
fit_steps = record {
  opens = λ m path out d constants ds h e. opens_amid m path out d constants (in_order (ports_of m) ds) h (good_in_order (place_of m constants d) m ds h.short e);
  plain = λ q path d ds p k s h. plain_holds (Amid path d ds) q p k s (λ t keeps. kept_amid path d ds s t h keeps);
  given = λ path d ds p v i c s m x h few e. h.fit;
  inner = λ path d ds i driven s e h few is b. inner_amid path d ds i driven s e h b;
  closes = closes_behind;
}

-- ---- the whole

both_so : (a b : Bool) → a ≡ true → b ≡ true → (a && b) ≡ true
both_so true b h k = k
both_so false b h k = h

widths_are : (ss : List SignalAt) → HaveWidths ss → IsTrue (are_wide (map signal_of ss))
widths_are [] h = refl
widths_are (s ∷ ss) h = both_so (nat_le 1 s.width && nat_le s.width most_digits) (are_wide (map signal_of ss)) (let a = h.0.0 in let b = h.0.1 in grind (arith, nat_tests)) (widths_are ss h.1)

spot_is : (n s : ℕ) (x : Spot) → IsSpot n s x → is_spot n s x ≡ true
spot_is n s (Inner k) h = grind (arith, nat_tests)
spot_is n s (Sig i) h = grind (arith, nat_tests)
spot_is n s (Words f low c) h = let a = h.0 in let b = h.1 in grind (arith, nat_tests)

spots_are : (n s : ℕ) (cs : Children) → AreSpots n s cs → are_spots n s cs ≡ true
spots_are n s [] h = refl
spots_are n s (c ∷ cs) h = both_so (is_spot n s c.1) (are_spots n s cs) (spot_is n s c.1 h.0) (spots_are n s cs h.1)

all_are : (n s : ℕ) (xs : List NodeAt) → AllSpots n s xs → are_nodes n s (map node_of xs) ≡ true
all_are n s [] h = refl
all_are n s (x ∷ xs) h = both_so (are_spots n s x.children) (are_nodes n s (map node_of xs)) (spots_are n s x.children h.0) (all_are n s xs h.1)

pub signals_fit : (ms : Modules) (top : Option (List ℕ)) → HoldsOk (λ (d : Design). (length d.signals ≤ most_parts) × IsTrue (are_wide (map signal_of d.signals)) × IsTrue (are_nodes (length d.nodes) (length d.signals) (map node_of d.nodes))) (flat_design ms top)
signals_fit ms top =
    design_holds Starts Behind Amid fit_steps (λ (d : Design). (length d.signals ≤ most_parts) × IsTrue (are_wide (map signal_of d.signals)) × IsTrue (are_nodes (length d.nodes) (length d.signals) (map node_of d.nodes)))
    (λ m. record { short = omega arith; wide = tt; spots = tt })
    (λ path e b. (b.fit.short, widths_are e.signals b.fit.wide, all_are (length e.nodes) (length e.signals) e.nodes b.fit.spots)) ms top
