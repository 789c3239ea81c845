-- No two signals of a design have one path.
use Rattle.std.proofs.Common.{◌≡◌, ◌<◌, ◌≤◌, ◌+◌, ◌⊎◌, inl, inr, ◌∙◌, not, ◌&&◌, ℕ, zero, suc, Bool, true, false, List, [], ◌∷◌, ◌++◌, map, length, slice_get, Option, Some, None, is_none, refl, sym, ap, subst, arith, length-append}
use Rattle.std.proofs.lemmas.List.{append_assoc, map-append}
use Rattle.std.specs.Prelude.{bytes_eq}
use Rattle.std.specs.List.{list_any}
use Rattle.four_value.specs.declared.Digit.{Digit}
use Rattle.gpi.specs.declared.design.Spot.TheVariants.{Inner}
use Rattle.v_syntax.specs.declared.statement.Identifier.{Identifier}
use Rattle.v_syntax.specs.SourceTrees.{ModuleTree}
use Rattle.v_flat.specs.Scope.Found.{HoldsOk}
use Rattle.v_flat.specs.declared.scope.meaning.Bounds.{Bounds}
use Rattle.v_flat.specs.declared.scope.meaning.DataObject.{DataObject}
use Rattle.v_flat.specs.Scope.Limits.{most_parts}
use Rattle.v_flat.specs.Scope.Scope.{find, low_of, width_of}
use Rattle.v_flat.specs.Objects.{count_of}
use Rattle.v_flat.specs.Headers.{ports_of}
use Rattle.v_flat.specs.Targets.{Drive}
use Rattle.v_flat.specs.Declarations.{Declared, Entries, in_order}
use Rattle.v_flat.specs.Paths.{Path, SignalAt, below}
use Rattle.v_flat.specs.Design.{Modules, all_signals, child_name, children, Design, flat_design, is_fresh, object_of, opened, Outside, place_of, signals_of, start_of, State, with_child, word_signals}
use Rattle.v_flat.proofs.ShapeLemmas.Kept.{Keeps, joints_keep, plain_holds}
use Rattle.v_flat.proofs.ShapeLemmas.Names.{Among, Differ, among_first, among_later, among_left, among_right, one_of_more}
use Rattle.v_flat.proofs.ShapeLemmas.Nodes.{Children}
use Rattle.v_flat.proofs.ShapeLemmas.Order.{AreGood, good_in_order, names}
use Rattle.v_flat.proofs.ShapeLemmas.Signals.{all_many}
use Rattle.v_flat.proofs.ShapeLemmas.Walk.{Steps, design_holds, opening, scope_of}

-- ---- signals with one path

-- signals at two numbers have two paths, or are two words of one memory
abbrev HaveOwnPaths : List SignalAt → Type 0
HaveOwnPaths ss =
    (i j : ℕ) (x y : SignalAt) → slice_get ss i ≡ Some x → slice_get ss j ≡ Some y → x.path ≡ y.path → x.word ≡ y.word → i ≡ j

abbrev Same : SignalAt → SignalAt → Type 0
Same x y = (x.path ≡ y.path) × (x.word ≡ y.word)

abbrev NoneLike : SignalAt → List SignalAt → Type 0
NoneLike x [] = Unit {0}
NoneLike x (y ∷ ys) = (Same x y → ⊥) × NoneLike x ys

abbrev Apart : List SignalAt → Type 0
Apart [] = Unit {0}
Apart (x ∷ xs) = NoneLike x xs × Apart xs

none_both : (x : SignalAt) (ys zs : List SignalAt) → NoneLike x ys → NoneLike x zs → NoneLike x (ys ++ zs)
none_both x [] zs h k = k
none_both x (y ∷ ys) zs h k = (h.0, none_both x ys zs h.1 k)

-- its path goes on with this name below the path of an instance
record Begins (path : Path) (n : List ℕ) (x : SignalAt) : Type 0 where
  rest : Path
  is : x.path ≡ path ++ (n ∷ rest)

-- each goes on with one of these names
abbrev AllBegin : Path → List (List ℕ) → List SignalAt → Type 0
AllBegin path ns [] = Unit {0}
AllBegin path ns (x ∷ xs) = ((n : List ℕ) × Begins path n x × Among n ns) × AllBegin path ns xs

tail_same : (p : Path) (xs ys : Path) → p ++ xs ≡ p ++ ys → xs ≡ ys
tail_same [] xs ys h = h
tail_same (n ∷ p) xs ys h = let e : p ++ xs ≡ p ++ ys = cc in tail_same p xs ys e

one_name : (path : Path) (n m : List ℕ) (x y : SignalAt) → Begins path n x → Begins path m y → Same x y → n ≡ m
one_name path n m x y h k s =
    let e : n ∷ h.rest ≡ m ∷ k.rest = tail_same path (n ∷ h.rest) (m ∷ k.rest) (sym h.is ∙ s.0 ∙ k.is) in cc

-- none of those that go on with other names is like it
none_begins : (path : Path) (n : List ℕ) (x : SignalAt) (ns : List (List ℕ)) (ys : List SignalAt) → Begins path n x → (Among n ns → ⊥) → AllBegin path ns ys → NoneLike x ys
none_begins path n x ns [] h not k = tt
none_begins path n x ns (y ∷ ys) h not k = (first, none_begins path n x ns ys h not k.1)
  where
    first : Same x y → ⊥
    first s =
        let m = k.0.0 in
        let e : n ≡ m = one_name path n m x y h k.0.1 s in not (ap (λ l. list_any (bytes_eq l) ns) e ∙ k.0.2)

apart_both : (path : Path) (ns ms : List (List ℕ)) (xs ys : List SignalAt) → AllBegin path ns xs → AllBegin path ms ys → ((n : List ℕ) → Among n ns → Among n ms → ⊥)
    → Apart xs → Apart ys → Apart (xs ++ ys)
apart_both path ns ms [] ys h k not a b = b
apart_both path ns ms (x ∷ xs) ys h k not a b =
    (none_both x xs ys a.0 (none_begins path h.0.0 x ms ys h.0.1 (λ m. not h.0.0 h.0.2 m) k), apart_both path ns ms xs ys h.1 k not a.1 b)

begin_both : (path : Path) (ns : List (List ℕ)) (xs ys : List SignalAt) → AllBegin path ns xs → AllBegin path ns ys → AllBegin path ns (xs ++ ys)
begin_both path ns [] ys h k = k
begin_both path ns (x ∷ xs) ys h k = (h.0, begin_both path ns xs ys h.1 k)

begin_more : (path : Path) (ns ms : List (List ℕ)) (xs : List SignalAt) → ((n : List ℕ) → Among n ns → Among n ms) → AllBegin path ns xs → AllBegin path ms xs
begin_more path ns ms [] f h = tt
begin_more path ns ms (x ∷ xs) f h = ((h.0.0, h.0.1, f h.0.0 h.0.2), begin_more path ns ms xs f h.1)

-- ---- the signals of an instance

words_begin : (path : Path) (n : List ℕ) (w : ℕ) (start : Digit) (i k : ℕ) → AllBegin path (n ∷ []) (word_signals (below path n) w start i k)
words_begin path n w start i zero = tt
words_begin path n w start i (suc k) = ((n, record { rest = []; is = refl }, among_first n []), words_begin path n w start (i + 1) k)

one_begins : (path : Path) (n : List ℕ) (o : DataObject) (w : Option Bounds) → AllBegin path (n ∷ []) (signals_of (below path n) o w)
one_begins path n o None = ((n, record { rest = []; is = refl }, among_first n []), tt)
one_begins path n o (Some w) = words_begin path n (width_of o.bounds) (start_of o.kind) (low_of w) (width_of w)

-- no later word has an earlier one's index
later_words : (path : Path) (x : SignalAt) (w : ℕ) (start : Digit) (j i k : ℕ) → x.word ≡ Some j → j < i → NoneLike x (word_signals path w start i k)
later_words path x w start j i zero e h = tt
later_words path x w start j i (suc k) e h = (first, later_words path x w start j (i + 1) k e (omega (arith, h)))
  where
    first : (x.path ≡ path) × (x.word ≡ Some i) → ⊥
    first s = let f : Some j ≡ Some i = sym e ∙ s.1 in let g : j ≡ i = cc in absurd (omega (arith, g, h))

words_apart : (path : Path) (w : ℕ) (start : Digit) (i k : ℕ) → Apart (word_signals path w start i k)
words_apart path w start i zero = tt
words_apart path w start i (suc k) =
    (later_words path (record { path = path; word = Some i; width = w; start = start }) w start i (i + 1) k refl (omega arith), words_apart path w start (i + 1) k)

one_apart : (path : Path) (o : DataObject) (w : Option Bounds) → Apart (signals_of path o w)
one_apart path o None = (tt, tt)
one_apart path o (Some w) = words_apart path (width_of o.bounds) (start_of o.kind) (low_of w) (width_of w)

all_begin : (path : Path) (first : ℕ) (ds : List Declared) → AllBegin path (names ds) (all_signals path first ds)
all_begin path first [] = tt
all_begin path first (d ∷ ds) =
    begin_both path (d.name ∷ names ds) (signals_of (below path d.name) (object_of first d) d.words) (all_signals path (first + count_of d.words) ds)
    (begin_more path (d.name ∷ []) (d.name ∷ names ds) (signals_of (below path d.name) (object_of first d) d.words) (λ n a. among_left n (d.name ∷ []) (names ds) a) (one_begins path d.name (object_of first d) d.words))
    (begin_more path (names ds) (d.name ∷ names ds) (all_signals path (first + count_of d.words) ds) (λ n a. among_later n d.name (names ds) a) (all_begin path (first + count_of d.words) ds))

all_apart : (path : Path) (first : ℕ) (ds : List Declared) → Differ (names ds) → Apart (all_signals path first ds)
all_apart path first [] h = tt
all_apart path first (d ∷ ds) h =
    apart_both path (d.name ∷ []) (names ds) (signals_of (below path d.name) (object_of first d) d.words) (all_signals path (first + count_of d.words) ds)
    (one_begins path d.name (object_of first d) d.words) (all_begin path (first + count_of d.words) ds) (λ n a b. apart n (one_of_more n d.name [] a) b)
    (one_apart (below path d.name) (object_of first d) d.words) (all_apart path (first + count_of d.words) ds h.1)
  where
    apart : (n : List ℕ) → (n ≡ d.name) ⊎ Among n [] → Among n (names ds) → ⊥
    apart n (inl e) b = h.0 (ap (λ m. list_any (bytes_eq m) (names ds)) (sym e) ∙ b)
    apart n (inr a) b = cc

abbrev child_names : Children → List (List ℕ)
child_names cs = map child_name cs

children_named : (first : ℕ) (ds : List Declared) → map child_name (children first ds) ≡ names ds
children_named first [] = refl
children_named first (d ∷ ds) = ap (λ ns. d.name ∷ ns) (children_named (first + count_of d.words) ds)

-- ---- along the walk

abbrev Starts : ModuleTree → Outside → Design → Type 0
Starts m out d = length d.signals ≤ most_parts

abbrev AllUnder : Path → List SignalAt → Type 0
AllUnder path [] = Unit {0}
AllUnder path (x ∷ xs) = ((n : List ℕ) × Begins path n x) × AllUnder path xs

-- the signals of an instance, and of those below it, stand behind those before them, under its path
record Behind (path : Path) (d e : Design) : Type 0 where
  more : List SignalAt
  signals : e.signals ≡ d.signals ++ more
  apart : Apart more
  under : AllUnder path more
  short : length e.signals ≤ most_parts

-- those so far go on with the names of the instance
record Amid (path : Path) (d : Design) (ds : List Declared) (s : State) : Type 0 where
  more : List SignalAt
  signals : s.design.signals ≡ d.signals ++ more
  apart : Apart more
  begin : AllBegin path (child_names s.children) more
  short : length s.design.signals ≤ most_parts

opens_amid : (m : ModuleTree) (path : Path) (out : Outside) (d : Design) (constants : Entries) (ds : List Declared) → AreGood (length d.signals) ds
    → Amid path d ds (opening m path out d (scope_of constants d ds) ds)
opens_amid m path out d constants ds g = record {
  more = all_signals path (length d.signals) ds;
  signals = kept;
  apart = all_apart path (length d.signals) ds g.differ;
  begin = subst (λ ns. AllBegin path ns (all_signals path (length d.signals) ds)) (sym (children_named (length d.signals) ds)) (all_begin path (length d.signals) ds);
  short =
      let r = g.room in
      let e = ap length kept ∙ length-append d.signals (all_signals path (length d.signals) ds) in
      let f = all_many path (length d.signals) ds in omega (arith, r, e, f);
}
  where
    kept : (opening m path out d (scope_of constants d ds) ds).design.signals ≡ d.signals ++ all_signals path (length d.signals) ds
    kept = (joints_keep out.scope out.joints (scope_of constants d ds) (ports_of m) (opened path ds d)).signals

kept_amid : (path : Path) (d : Design) (ds : List Declared) (s t : State) → Amid path d ds s → Keeps s t → Amid path d ds t
kept_amid path d ds s t h k = record {
  more = h.more;
  signals = k.signals ∙ h.signals;
  apart = h.apart;
  begin = subst (λ cs. AllBegin path (child_names cs) h.more) (sym k.children) h.begin;
  short = subst (λ ss. length ss ≤ most_parts) (sym k.signals) h.short;
}

-- what is under an instance goes on with its name
under_begins : (path : Path) (n : List ℕ) (xs : List SignalAt) → AllUnder (below path n) xs → AllBegin path (n ∷ []) xs
under_begins path n [] h = tt
under_begins path n (x ∷ xs) h =
    ((n, record { rest = h.0.0 ∷ h.0.1.rest; is = h.0.1.is ∙ append_assoc path (n ∷ []) (h.0.0 ∷ h.0.1.rest) }, among_first n []), under_begins path n xs h.1)

begin_under : (path : Path) (ns : List (List ℕ)) (xs : List SignalAt) → AllBegin path ns xs → AllUnder path xs
begin_under path ns [] h = tt
begin_under path ns (x ∷ xs) h = ((h.0.0, h.0.1), begin_under path ns xs h.1)

second_false : (a b : Bool) → (a && not b) ≡ true → b ≡ false
second_false true false h = refl
second_false true true h = cc
second_false false b h = cc

inner_amid : (path : Path) (d : Design) (ds : List Declared) (i : Identifier) (driven : List Drive) (s : State) (e : Design) → Amid path d ds s → is_fresh i.name s ≡ true
    → Behind (below path i.name) s.design e → Amid path d ds (with_child i.name (length s.design.nodes) driven s e)
inner_amid path d ds i driven s e h fresh b = record {
  more = h.more ++ b.more;
  signals = b.signals ∙ ap (λ ss. ss ++ b.more) h.signals ∙ append_assoc d.signals h.more b.more;
  apart = apart_both path (child_names s.children) (i.name ∷ []) h.more b.more h.begin new (λ n a c. apart n a (one_of_more n i.name [] c)) h.apart b.apart;
  begin = subst (λ ns. AllBegin path ns (h.more ++ b.more)) (sym (map-append child_name s.children ((i.name, Inner (length s.design.nodes)) ∷ [])))
      (begin_both path (child_names s.children ++ (i.name ∷ [])) h.more b.more
      (begin_more path (child_names s.children) (child_names s.children ++ (i.name ∷ [])) h.more (λ n a. among_left n (child_names s.children) (i.name ∷ []) a) h.begin)
      (begin_more path (i.name ∷ []) (child_names s.children ++ (i.name ∷ [])) b.more (λ n a. among_right n (child_names s.children) (i.name ∷ []) a) new));
  short = b.short;
}
  where
    new : AllBegin path (i.name ∷ []) b.more
    new = under_begins path i.name b.more b.under

    none : list_any (bytes_eq i.name) (child_names s.children) ≡ false
    none = second_false (is_none (find i.name s.scope)) (list_any (bytes_eq i.name) (child_names s.children)) fresh

    apart : (n : List ℕ) → Among n (child_names s.children) → (n ≡ i.name) ⊎ Among n [] → ⊥
    apart n a (inl f) = let g : list_any (bytes_eq i.name) (child_names s.children) ≡ true = ap (λ m. list_any (bytes_eq m) (child_names s.children)) (sym f) ∙ a in let k = none in cc
    apart n a (inr c) = cc

path_steps : Steps Starts Behind Amid
path_steps = record {
  opens = λ m path out d constants ds h e. opens_amid m path out d constants (in_order (ports_of m) ds) (good_in_order (place_of m constants d) m ds h e);
  plain = λ q path d ds p k s h. plain_holds (Amid path d ds) q p k s (λ t keeps. kept_amid path d ds s t h keeps);
  given = λ path d ds p v i c s m x h few e. h.short;
  inner = λ path d ds i driven s e h few is b. inner_amid path d ds i driven s e h is b;
  closes = λ path d ds t h. record { more = h.more; signals = h.signals; apart = h.apart; under = begin_under path (child_names t.children) h.more h.begin; short = h.short };
}

-- ---- the whole

not_like : (x y : SignalAt) (ss : List SignalAt) (j : ℕ) → NoneLike x ss → slice_get ss j ≡ Some y → Same x y → ⊥
not_like x y [] j h e s = cc
not_like x y (z ∷ zs) zero h e s = let f : z ≡ y = cc in h.0 (subst (λ (u : SignalAt). Same x u) (sym f) s)
not_like x y (z ∷ zs) (suc j) h e s = not_like x y zs j h.1 e s

own_paths : (ss : List SignalAt) → Apart ss → HaveOwnPaths ss
own_paths [] h i j x y e f p w = cc
own_paths (s ∷ ss) h zero zero x y e f p w = refl
own_paths (s ∷ ss) h zero (suc j) x y e f p w = let g : s ≡ x = cc in absurd (not_like s y ss j h.0 f (subst (λ (u : SignalAt). Same u y) (sym g) (p, w)))
own_paths (s ∷ ss) h (suc i) zero x y e f p w = let g : s ≡ y = cc in absurd (not_like s x ss i h.0 e (subst (λ (u : SignalAt). Same u x) (sym g) (sym p, sym w)))
own_paths (s ∷ ss) h (suc i) (suc j) x y e f p w = ap suc (own_paths ss h.1 i j x y e f p w)

pub paths_differ : (ms : Modules) (top : Option (List ℕ)) → HoldsOk (λ (d : Design). HaveOwnPaths d.signals) (flat_design ms top)
paths_differ ms top =
    design_holds Starts Behind Amid path_steps (λ (d : Design). HaveOwnPaths d.signals) (λ m. omega arith)
    (λ path e b. subst HaveOwnPaths (sym b.signals) (own_paths b.more b.apart)) ms top
