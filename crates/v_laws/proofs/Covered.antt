-- Each word of a memory is one of a name of an instance.
use Rattle.std.proofs.Common.{◌≡◌, ◌≤◌, ◌<◌, ◌+◌, ◌∙◌, ◌⊎◌, inl, inr, ℕ, zero, suc, Bool, true, false, List, [], ◌∷◌, ◌++◌, length, map, slice_set, Option, None, Some, refl, sym, ap, subst, arith, append_assoc, length-append}
use Rattle.std.specs.Prelude.{◌||◌, ◌&&◌, is_some, nat_le, nat_lt}
use Rattle.std.specs.List.{list_any}
use Rattle.std.proofs.lemmas.Bool.Decides.{nat_tests}
use Rattle.four_value.specs.declared.Digit.{Digit}
use Rattle.gpi.specs.declared.design.Spot.{Spot}
use Rattle.gpi.specs.declared.design.Spot.TheVariants.{Inner}
use Rattle.v_syntax.specs.declared.statement.Identifier.{Identifier}
use Rattle.v_syntax.specs.SourceTrees.{ModuleTree}
use Rattle.v_flat.specs.declared.scope.meaning.Bounds.{Bounds}
use Rattle.v_flat.specs.Scope.Found.{HoldsOk}
use Rattle.v_flat.specs.Scope.Scope.{low_of, width_of}
use Rattle.v_flat.specs.Objects.{count_of}
use Rattle.v_flat.specs.Targets.{Drive}
use Rattle.v_flat.specs.Headers.{ports_of}
use Rattle.v_flat.specs.Declarations.{Declared, Entries, in_order}
use Rattle.v_flat.specs.Paths.{NodeAt, Path, SignalAt, below, node_of}
use Rattle.v_flat.specs.Design.{Design, Modules, Outside, State, all_signals, children, closed, flat_design, no_design, object_of, opened, signals_of, spot_of, start_of, with_child, word_signals}
use Rattle.v_flat.proofs.ShapeLemmas.Kept.{Keeps, KeepsParts, joints_keep, plain_holds}
use Rattle.v_flat.proofs.ShapeLemmas.Nodes.{set_behind}
use Rattle.v_flat.proofs.ShapeLemmas.Walk.{Steps, design_holds, opening, scope_of}
use Rattle.vcd_text.specs.Hierarchy.{is_word, is_word_of}
use Rattle.v_laws.proofs.Names.{one_many}

abbrev pub Children : Type 0
Children = List (List ℕ × Spot)

-- ---- lists

or_first : (a b : Bool) → a ≡ true → (a || b) ≡ true
or_first true b h = refl
or_first false b h = absurd (cc)

or_second : (a b : Bool) → b ≡ true → (a || b) ≡ true
or_second true b h = refl
or_second false b h = h

either : (a b : Bool) → (a || b) ≡ true → (a ≡ true) ⊎ (b ≡ true)
either true b h = inl refl
either false b h = inr h

any_first : {A : Type 0} (f : A → Bool) (xs ys : List A) → list_any f xs ≡ true → list_any f (xs ++ ys) ≡ true
any_first f [] ys h = absurd (cc)
any_first f (x ∷ xs) ys h =
    elim (either (f x) (list_any f xs) h) [ inl p ↦ or_first (f x) (list_any f (xs ++ ys)) p | inr q ↦ or_second (f x) (list_any f (xs ++ ys)) (any_first f xs ys q) ]

any_second : {A : Type 0} (f : A → Bool) (xs ys : List A) → list_any f ys ≡ true → list_any f (xs ++ ys) ≡ true
any_second f [] ys h = h
any_second f (x ∷ xs) ys h = or_second (f x) (list_any f (xs ++ ys)) (any_second f xs ys h)

-- the number is that of a word of one of these names
abbrev pub is_of : Children → ℕ → Bool
is_of cs n = list_any (is_word_of n) cs

-- so it is of one of these instances
abbrev pub word_in : List NodeAt → ℕ → Bool
word_in nodes n = list_any (λ node. is_of node.children n) nodes

pub word_in_is : (nodes : List NodeAt) (n : ℕ) → is_word (map node_of nodes) n ≡ word_in nodes n
word_in_is [] n = refl
word_in_is (node ∷ nodes) n = ap (λ (b : Bool). is_of node.children n || b) (word_in_is nodes n)

-- ---- words of memories among signals that are numbered from n on

abbrev pub Covered : (ℕ → Bool) → ℕ → List SignalAt → Type 0
Covered covers n [] = Unit {0}
Covered covers n (s ∷ ss) = (is_some s.word ≡ true → covers n ≡ true) × Covered covers (n + 1) ss

covered_both : (covers : ℕ → Bool) (n : ℕ) (xs ys : List SignalAt) → Covered covers n xs → Covered covers (n + length xs) ys → Covered covers n (xs ++ ys)
covered_both covers n [] ys h k = let e : n + 0 ≡ n = omega arith in subst (λ (m : ℕ). Covered covers m ys) e k
covered_both covers n (x ∷ xs) ys h k =
    let e : n + suc (length xs) ≡ (n + 1) + length xs = omega arith in (h.0, covered_both covers (n + 1) xs ys h.1 (subst (λ (m : ℕ). Covered covers m ys) e k))

covered_as : (covers more : ℕ → Bool) → ((n : ℕ) → covers n ≡ true → more n ≡ true) → (n : ℕ) (ss : List SignalAt) → Covered covers n ss → Covered more n ss
covered_as covers more f n [] h = tt
covered_as covers more f n (s ∷ ss) h = ((λ w. f n (h.0 w)), covered_as covers more f (n + 1) ss h.1)

-- ---- names that are declared

words_covered : (path : Path) (w : ℕ) (start : Digit) (low count : ℕ) (covers : ℕ → Bool) (n : ℕ) → ((m : ℕ) → n ≤ m → m < n + count → covers m ≡ true)
    → Covered covers n (word_signals path w start low count)
words_covered path w start low zero covers n h = tt
words_covered path w start low (suc count) covers n h =
    ((λ is. h n (omega arith) (omega arith)), words_covered path w start (low + 1) count covers (n + 1) (λ m l u. h m (omega (arith, l)) (omega (arith, u))))

within : (first count m : ℕ) → first ≤ m → m < first + count → (nat_le first m && nat_lt m (first + count)) ≡ true
within first count m l u = by (nat_le first m) (nat_lt m (first + count)) refl refl
  where
    by : (a b : Bool) → nat_le first m ≡ a → nat_lt m (first + count) ≡ b → (a && b) ≡ true
    by a b e f = grind (arith, nat_tests)

one_covered : (path : Path) (first : ℕ) (d : Declared) (w : Option Bounds) (cs : Children)
    → Covered (is_of ((d.name, spot_of (object_of first d) w) ∷ cs)) first (signals_of path (object_of first d) w)
one_covered path first d None cs = ((λ is. absurd (cc)), tt)
one_covered path first d (Some w) cs =
    words_covered path (width_of (object_of first d).bounds) (start_of (object_of first d).kind) (low_of w) (width_of w)
    (is_of ((d.name, spot_of (object_of first d) (Some w)) ∷ cs)) first
    (λ m l u. or_first (nat_le first m && nat_lt m (first + width_of w)) (is_of cs m) (within first (width_of w) m l u))

own_covered : (path : Path) (first : ℕ) (ds : List Declared) → Covered (is_of (children first ds)) first (all_signals path first ds)
own_covered path first [] = tt
own_covered path first (d ∷ ds) =
    let c : List ℕ × Spot = (d.name, spot_of (object_of first d) d.words) in
    let cs : Children = children (first + count_of d.words) ds in
    let own : List SignalAt = signals_of (below path d.name) (object_of first d) d.words in
    let rest : List SignalAt = all_signals path (first + count_of d.words) ds in
    covered_both (is_of (c ∷ cs)) first own rest (one_covered (below path d.name) first d d.words cs)
    (subst (λ (n : ℕ). Covered (is_of (c ∷ cs)) (first + n) rest) (sym (one_many (below path d.name) (object_of first d) d.words))
    (covered_as (is_of cs) (is_of (c ∷ cs)) (λ m h. or_second (is_word_of m c) (is_of cs m) h) (first + count_of d.words) rest (own_covered path (first + count_of d.words) ds)))

-- ---- along the walk

abbrev empty_node : Path → NodeAt
empty_node path = record { path = path; children = [] }

-- behind what was there stand instances and signals, and each word among these is one of a name of those
record Grows (path : Path) (d e : Design) : Type 0 where
  news : List NodeAt
  nodes : e.nodes ≡ d.nodes ++ news
  more : List SignalAt
  signals : e.signals ≡ d.signals ++ more
  covered : Covered (word_in news) (length d.signals) more

-- so it is between two items of an instance, or the word is one of its own names
record Between (path : Path) (d : Design) (ds : List Declared) (s : State) : Type 0 where
  news : List NodeAt
  nodes : s.design.nodes ≡ d.nodes ++ (empty_node path ∷ news)
  more : List SignalAt
  signals : s.design.signals ≡ d.signals ++ more
  covered : Covered (λ n. is_of s.children n || word_in news n) (length d.signals) more

abbrev Begin : ModuleTree → Outside → Design → Type 0
Begin m out d = Unit {0}

opens_between : (m : ModuleTree) (path : Path) (out : Outside) (d : Design) (constants : Entries) (ds : List Declared)
    → Between path d ds (opening m path out d (scope_of constants d ds) ds)
opens_between m path out d constants ds =
    let keeps : KeepsParts (opened path ds d) (opening m path out d (scope_of constants d ds) ds).design
    = joints_keep out.scope out.joints (scope_of constants d ds) (ports_of m) (opened path ds d) in
    record {
      news = [];
      nodes = keeps.nodes;
      more = all_signals path (length d.signals) ds;
      signals = keeps.signals;
      covered = covered_as (is_of (children (length d.signals) ds)) (λ n. is_of (children (length d.signals) ds) n || word_in [] n)
          (λ n h. or_first (is_of (children (length d.signals) ds) n) (word_in [] n) h) (length d.signals) (all_signals path (length d.signals) ds)
          (own_covered path (length d.signals) ds);
    }

kept_between : (path : Path) (d : Design) (ds : List Declared) (s t : State) → Between path d ds s → Keeps s t → Between path d ds t
kept_between path d ds s t h k = record {
  news = h.news;
  nodes = k.nodes ∙ h.nodes;
  more = h.more;
  signals = k.signals ∙ h.signals;
  covered = subst (λ (cs : Children). Covered (λ n. is_of cs n || word_in h.news n) (length d.signals) h.more) (sym k.children) h.covered;
}

inner_between : (path inner : Path) (d : Design) (ds : List Declared) (i : Identifier) (driven : List Drive) (s : State) (e : Design) → Between path d ds s
    → Grows inner s.design e → Between path d ds (with_child i.name (length s.design.nodes) driven s e)
inner_between path inner d ds i driven s e h g = record {
  news = h.news ++ g.news;
  nodes = g.nodes ∙ ap (λ (l : List NodeAt). l ++ g.news) h.nodes ∙ append_assoc d.nodes (empty_node path ∷ h.news) g.news;
  more = h.more ++ g.more;
  signals = g.signals ∙ ap (λ (l : List SignalAt). l ++ g.more) h.signals ∙ append_assoc d.signals h.more g.more;
  covered = covered_both now (length d.signals) h.more g.more (covered_as before now old (length d.signals) h.more h.covered)
      (subst (λ (n : ℕ). Covered now n g.more) first_is (covered_as (word_in g.news) now new (length s.design.signals) g.more g.covered));
}
  where
    all : Children
    all = s.children ++ ((i.name, Inner (length s.design.nodes)) ∷ [])

    before : ℕ → Bool
    before n = is_of s.children n || word_in h.news n

    now : ℕ → Bool
    now n = is_of all n || word_in (h.news ++ g.news) n

    old : (n : ℕ) → before n ≡ true → now n ≡ true
    old n is =
        elim (either (is_of s.children n) (word_in h.news n) is) [
          | inl p ↦ or_first (is_of all n) (word_in (h.news ++ g.news) n) (any_first (is_word_of n) s.children ((i.name, Inner (length s.design.nodes)) ∷ []) p)
          | inr q ↦ or_second (is_of all n) (word_in (h.news ++ g.news) n) (any_first (λ node. is_of node.children n) h.news g.news q)
        ]

    new : (n : ℕ) → word_in g.news n ≡ true → now n ≡ true
    new n is = or_second (is_of all n) (word_in (h.news ++ g.news) n) (any_second (λ node. is_of node.children n) h.news g.news is)

    first_is : length s.design.signals ≡ length d.signals + length h.more
    first_is = ap (λ (l : List SignalAt). length l) h.signals ∙ length-append d.signals h.more

closes_grows : (path : Path) (d : Design) (ds : List Declared) (t : State) → Between path d ds t → Grows path d (closed path (length d.nodes) t)
closes_grows path d ds t h = record {
  news = record { path = path; children = t.children } ∷ h.news;
  nodes = ap (λ (l : List NodeAt). slice_set l (length d.nodes) (record { path = path; children = t.children })) h.nodes
      ∙ set_behind d.nodes (empty_node path) (record { path = path; children = t.children }) h.news;
  more = h.more;
  signals = h.signals;
  covered = h.covered;
}

cover_steps : Steps Begin Grows Between
cover_steps = record {
  opens = λ m path out d constants ds h e. opens_between m path out d constants (in_order (ports_of m) ds);
  plain = λ q path d ds p k s h. plain_holds (Between path d ds) q p k s (λ t keeps. kept_between path d ds s t h keeps);
  given = λ path d ds p v i c s m x h few e. tt;
  inner = λ path d ds i driven s e h few is g. inner_between path (below path i.name) d ds i driven s e h g;
  closes = closes_grows;
}

-- ---- the whole

-- each word of a memory of the design is one of a name
abbrev pub IsCovered : Design → Type 0
IsCovered d = Covered (is_word (map node_of d.nodes)) 0 d.signals

top_covered : (path : Path) (e : Design) → Grows path no_design e → IsCovered e
top_covered path e g =
    subst (λ (ss : List SignalAt). Covered (is_word (map node_of e.nodes)) 0 ss) (sym g.signals)
    (covered_as (word_in g.news) (is_word (map node_of e.nodes)) (λ n h. ap (λ (l : List NodeAt). is_word (map node_of l) n) g.nodes ∙ word_in_is g.news n ∙ h) 0 g.more g.covered)

pub designs_covered : (ms : Modules) (top : Option (List ℕ)) → HoldsOk IsCovered (flat_design ms top)
designs_covered ms top = design_holds Begin Grows Between cover_steps IsCovered (λ m. tt) top_covered ms top
