-- What the names of an instance stand for has their paths, and no two of them are one.
use Rattle.std.proofs.Common.{◌≡◌, ◌<◌, ◌≤◌, ◌+◌, ◌&&◌, ◌∙◌, ◌⊎◌, inl, inr, ℕ, zero, suc, Bool, true, false, not, List, [], ◌∷◌, ◌++◌, map, length, slice_get, slice_set, Option, Some, None, is_none, refl, sym, ap, subst, arith, length-append}
use Rattle.std.specs.Prelude.{bytes_eq}
use Rattle.std.specs.List.{list_any}
use Rattle.std.proofs.lemmas.List.{append_assoc, length-map, map-append}
use Rattle.four_value.specs.declared.Digit.{Digit}
use Rattle.gpi.specs.declared.design.Spot.{Spot}
use Rattle.gpi.specs.declared.design.Spot.TheVariants.{Inner, Sig, Words}
use Rattle.v_syntax.specs.declared.statement.Identifier.{Identifier}
use Rattle.v_syntax.specs.SourceTrees.{ModuleTree}
use Rattle.v_flat.specs.declared.scope.meaning.Bounds.{Bounds}
use Rattle.v_flat.specs.declared.scope.meaning.DataObject.{DataObject}
use Rattle.v_flat.specs.Scope.Limits.{most_parts}
use Rattle.v_flat.specs.Scope.Scope.{find, low_of, width_of}
use Rattle.v_flat.specs.Objects.{count_of}
use Rattle.v_flat.specs.Headers.{ports_of}
use Rattle.v_flat.specs.Targets.{Drive}
use Rattle.v_flat.specs.Declarations.{Declared, Entries, in_order}
use Rattle.v_flat.specs.Paths.{NodeAt, Path, SignalAt, below}
use Rattle.v_flat.specs.Design.{Design, Outside, State, all_signals, child_name, children, closed, is_fresh, object_of, opened, place_of, signals_of, spot_of, start_of, with_child, word_signals}
use Rattle.v_flat.proofs.ShapeLemmas.Kept.{Keeps, KeepsParts, joints_keep, plain_holds}
use Rattle.v_flat.proofs.ShapeLemmas.Names.{Among, Differ, differ_both, among_first, among_later, one_of_more}
use Rattle.v_flat.proofs.ShapeLemmas.Nodes.{Children}
use Rattle.v_flat.proofs.ShapeLemmas.Order.{AreGood, good_in_order, names}
use Rattle.v_flat.proofs.ShapeLemmas.Signals.{all_many}
use Rattle.v_flat.proofs.ShapeLemmas.Walk.{Steps, design_holds, opening, scope_of}
use Rattle.v_laws.specs.Instances.{IsAt, IsSignalAt, Names_differ, Names_have_their_paths}

-- ---- lists

pub get_before : {A : Type 0} (xs ys : List A) (i : ℕ) (a : A) → slice_get xs i ≡ Some a → slice_get (xs ++ ys) i ≡ Some a
get_before [] ys i a h = cc
get_before (x ∷ xs) ys zero a h = h
get_before (x ∷ xs) ys (suc i) a h = get_before xs ys i a h

pub get_behind : {A : Type 0} (xs ys : List A) (i : ℕ) → slice_get (xs ++ ys) (length xs + i) ≡ slice_get ys i
get_behind [] ys i = let e : 0 + i ≡ i = omega arith in ap (slice_get ys) e
get_behind (x ∷ xs) ys i = let e : suc (length xs) + i ≡ suc (length xs + i) = omega arith in ap (slice_get (x ∷ (xs ++ ys))) e ∙ get_behind xs ys i

abbrev path_of : NodeAt → Path
path_of n = n.path

abbrev paths : List NodeAt → List Path
paths ns = map path_of ns

-- ---- names of one instance, by the paths of the instances and the signals

record IsWordAt (ss : List SignalAt) (n : ℕ) (path : Path) (word : Option ℕ) : Type 0 where
  signal : SignalAt
  there : slice_get ss n ≡ Some signal
  path_is : signal.path ≡ path
  word_is : signal.word ≡ word

abbrev IsThere : List Path → List SignalAt → Path → Spot → Type 0
IsThere ps ss path (Inner k) = slice_get ps k ≡ Some path
IsThere ps ss path (Sig s) = IsWordAt ss s.0 path None
IsThere ps ss path (Words first low count) = (i : ℕ) → i < count → IsWordAt ss (first.0 + i) path (Some (low + i))

abbrev AreThere : List Path → List SignalAt → Path → Children → Type 0
AreThere ps ss path [] = Unit {0}
AreThere ps ss path (c ∷ cs) = IsThere ps ss (below path c.0) c.1 × AreThere ps ss path cs

abbrev child_names : Children → List (List ℕ)
child_names cs = map child_name cs

abbrev AllThere : List Path → List SignalAt → List NodeAt → Type 0
AllThere ps ss [] = Unit {0}
AllThere ps ss (n ∷ ns) = (AreThere ps ss n.path n.children × Differ (child_names n.children)) × AllThere ps ss ns

word_stays : (ss ts : List SignalAt) (n : ℕ) (path : Path) (word : Option ℕ) → IsWordAt ss n path word → IsWordAt (ss ++ ts) n path word
word_stays ss ts n path word h = record { signal = h.signal; there = get_before ss ts n h.signal h.there; path_is = h.path_is; word_is = h.word_is }

one_stays : (ps qs : List Path) (ss ts : List SignalAt) (path : Path) (x : Spot) → IsThere ps ss path x → IsThere (ps ++ qs) (ss ++ ts) path x
one_stays ps qs ss ts path (Inner k) h = get_before ps qs k path h
one_stays ps qs ss ts path (Sig s) h = word_stays ss ts s.0 path None h
one_stays ps qs ss ts path (Words f low count) h = λ i l. word_stays ss ts (f.0 + i) path (Some (low + i)) (h i l)

there_stays : (ps qs : List Path) (ss ts : List SignalAt) (path : Path) (cs : Children) → AreThere ps ss path cs → AreThere (ps ++ qs) (ss ++ ts) path cs
there_stays ps qs ss ts path [] h = tt
there_stays ps qs ss ts path (c ∷ cs) h = (one_stays ps qs ss ts (below path c.0) c.1 h.0, there_stays ps qs ss ts path cs h.1)

all_stay : (ps qs : List Path) (ss ts : List SignalAt) (ns : List NodeAt) → AllThere ps ss ns → AllThere (ps ++ qs) (ss ++ ts) ns
all_stay ps qs ss ts [] h = tt
all_stay ps qs ss ts (n ∷ ns) h = ((there_stays ps qs ss ts n.path n.children h.0.0, h.0.1), all_stay ps qs ss ts ns h.1)

there_both : (ps : List Path) (ss : List SignalAt) (path : Path) (cs ds : Children) → AreThere ps ss path cs → AreThere ps ss path ds → AreThere ps ss path (cs ++ ds)
there_both ps ss path [] ds h k = k
there_both ps ss path (c ∷ cs) ds h k = (h.0, there_both ps ss path cs ds h.1 k)

all_both : (ps : List Path) (ss : List SignalAt) (xs ys : List NodeAt) → AllThere ps ss xs → AllThere ps ss ys → AllThere ps ss (xs ++ ys)
all_both ps ss [] ys h k = k
all_both ps ss (x ∷ xs) ys h k = (h.0, all_both ps ss xs ys h.1 k)

-- ---- declared names

words_there : (path : Path) (w : ℕ) (start : Digit) (low n : ℕ) (rest : List SignalAt) (i : ℕ) → i < n → IsWordAt (word_signals path w start low n ++ rest) i path (Some (low + i))
words_there path w start low zero rest i l = absurd (omega (arith, l))
words_there path w start low (suc n) rest zero l =
    record { signal = record { path = path; word = Some low; width = w; start = start }; there = refl; path_is = refl; word_is = (let e : low ≡ low + 0 = omega arith in ap Some e) }
words_there path w start low (suc n) rest (suc i) l =
    let h = words_there path w start (low + 1) n rest i (omega (arith, l)) in
    let e : (low + 1) + i ≡ low + suc i = omega arith in
    record { signal = h.signal; there = h.there; path_is = h.path_is; word_is = h.word_is ∙ ap Some e }

behind_there : (xs ss : List SignalAt) (i : ℕ) (path : Path) (word : Option ℕ) → IsWordAt ss i path word → IsWordAt (xs ++ ss) (length xs + i) path word
behind_there xs ss i path word h = record { signal = h.signal; there = get_behind xs ss i ∙ h.there; path_is = h.path_is; word_is = h.word_is }

spot_there : (ps : List Path) (xs rest : List SignalAt) (path : Path) (d : Declared) (w : Option Bounds)
    → IsThere ps (xs ++ (signals_of path (object_of (length xs) d) w ++ rest)) path (spot_of (object_of (length xs) d) w)
spot_there ps xs rest path d None =
    let one : SignalAt = record { path = path; word = None; width = width_of d.bounds; start = start_of (object_of (length xs) d).kind } in
    let e : length xs + 0 ≡ length xs = omega arith in
    subst (λ n. IsWordAt (xs ++ (one ∷ rest)) n path None) e (behind_there xs (one ∷ rest) 0 path None (record { signal = one; there = refl; path_is = refl; word_is = refl }))
spot_there ps xs rest path d (Some w) = λ i l.
    behind_there xs (word_signals path (width_of d.bounds) (start_of (object_of (length xs) d).kind) (low_of w) (width_of w) ++ rest) i path (Some (low_of w + i))
    (words_there path (width_of d.bounds) (start_of (object_of (length xs) d).kind) (low_of w) (width_of w) rest i l)

word_many : (path : Path) (w : ℕ) (start : Digit) (low n : ℕ) → length (word_signals path w start low n) ≡ n
word_many path w start low zero = refl
word_many path w start low (suc n) = ap suc (word_many path w start (low + 1) n)

pub one_many : (path : Path) (o : DataObject) (w : Option Bounds) → length (signals_of path o w) ≡ count_of w
one_many path o None = refl
one_many path o (Some w) = word_many path (width_of o.bounds) (start_of o.kind) (low_of w) (width_of w)

first_there : (ps : List Path) (path : Path) (n : ℕ) (xs : List SignalAt) (d : Declared) (rest : List SignalAt) → n ≡ length xs
    → IsThere ps (xs ++ (signals_of (below path d.name) (object_of n d) d.words ++ rest)) (below path d.name) (spot_of (object_of n d) d.words)
first_there ps path n xs d rest e =
    subst (λ k. IsThere ps (xs ++ (signals_of (below path d.name) (object_of k d) d.words ++ rest)) (below path d.name) (spot_of (object_of k d) d.words)) (sym e)
    (spot_there ps xs rest (below path d.name) d d.words)

declared_there : (ps : List Path) (path : Path) (n : ℕ) (xs : List SignalAt) (ds : List Declared) → n ≡ length xs → AreThere ps (xs ++ all_signals path n ds) path (children n ds)
declared_there ps path n xs [] e = tt
declared_there ps path n xs (d ∷ ds) e = (
  first_there ps path n xs d (all_signals path (n + count_of d.words) ds) e,
  subst (λ ss. AreThere ps ss path (children (n + count_of d.words) ds))
      (append_assoc xs (signals_of (below path d.name) (object_of n d) d.words) (all_signals path (n + count_of d.words) ds))
      (declared_there ps path (n + count_of d.words) (xs ++ signals_of (below path d.name) (object_of n d) d.words) ds
      (let f = length-append xs (signals_of (below path d.name) (object_of n d) d.words) in let g = one_many (below path d.name) (object_of n d) d.words in omega (arith, e, f, g))),
)

children_named : (first : ℕ) (ds : List Declared) → child_names (children first ds) ≡ names ds
children_named first [] = refl
children_named first (d ∷ ds) = ap (λ ns. d.name ∷ ns) (children_named (first + count_of d.words) ds)

-- ---- along the walk

record IsFit (e : Design) : Type 0 where
  all : AllThere (paths e.nodes) e.signals e.nodes
  short : length e.signals ≤ most_parts

abbrev Starts : ModuleTree → Outside → Design → Type 0
Starts m out d = IsFit d

-- what stood before an instance stands there, and the instance is the first behind it
record Follows (path : Path) (d e : Design) : Type 0 where
  nodes : List Path
  nodes_are : paths e.nodes ≡ paths d.nodes ++ (path ∷ nodes)
  signals : List SignalAt
  signals_are : e.signals ≡ d.signals ++ signals

record Behind (path : Path) (d e : Design) : Type 0 where
  fit : IsFit e
  follows : Follows path d e

record Amid (path : Path) (d : Design) (ds : List Declared) (s : State) : Type 0 where
  fit : IsFit s.design
  follows : Follows path d s.design
  there : AreThere (paths s.design.nodes) s.design.signals path s.children
  differ : Differ (child_names s.children)

abbrev empty_node : Path → NodeAt
empty_node path = record { path = path; children = [] }

kept_fit : (d e : Design) → e.nodes ≡ d.nodes → e.signals ≡ d.signals → IsFit d → IsFit e
kept_fit d e n s h = record {
  all = subst (λ ns. AllThere (paths ns) e.signals ns) (sym n) (subst (λ ss. AllThere (paths d.nodes) ss d.nodes) (sym s) h.all);
  short = subst (λ ss. length ss ≤ most_parts) (sym s) h.short;
}

opened_fit : (path : Path) (ds : List Declared) (d : Design) → IsFit d → AreGood (length d.signals) ds → IsFit (opened path ds d)
opened_fit path ds d h g = record {
  all = subst (λ ps. AllThere ps (d.signals ++ all_signals path (length d.signals) ds) (d.nodes ++ (empty_node path ∷ []))) (sym (map-append path_of d.nodes (empty_node path ∷ [])))
      (all_both (paths d.nodes ++ (path ∷ [])) (d.signals ++ all_signals path (length d.signals) ds) d.nodes (empty_node path ∷ [])
      (all_stay (paths d.nodes) (path ∷ []) d.signals (all_signals path (length d.signals) ds) d.nodes h.all) ((tt, tt), tt));
  short =
      let r = g.room in let e = length-append d.signals (all_signals path (length d.signals) ds) in
      let f = all_many path (length d.signals) ds in omega (arith, r, e, f);
}

opens_amid : (m : ModuleTree) (path : Path) (out : Outside) (d : Design) (constants : Entries) (ds : List Declared) → IsFit d → AreGood (length d.signals) ds
    → Amid path d ds (opening m path out d (scope_of constants d ds) ds)
opens_amid m path out d constants ds h g = record {
  fit = kept_fit (opened path ds d) after keeps.nodes keeps.signals (opened_fit path ds d h g);
  follows = record {
    nodes = [];
    nodes_are = ap paths keeps.nodes ∙ map-append path_of d.nodes (empty_node path ∷ []);
    signals = all_signals path (length d.signals) ds;
    signals_are = keeps.signals;
  };
  there = subst (λ ss. AreThere (paths after.nodes) ss path (children (length d.signals) ds)) (sym keeps.signals) (declared_there (paths after.nodes) path (length d.signals) d.signals ds refl);
  differ = subst Differ (sym (children_named (length d.signals) ds)) g.differ;
}
  where
    after : Design
    after = (opening m path out d (scope_of constants d ds) ds).design

    keeps : KeepsParts (opened path ds d) after
    keeps = joints_keep out.scope out.joints (scope_of constants d ds) (ports_of m) (opened path ds d)

kept_amid : (path : Path) (d : Design) (ds : List Declared) (s t : State) → Amid path d ds s → Keeps s t → Amid path d ds t
kept_amid path d ds s t h k = record {
  fit = kept_fit s.design t.design k.nodes k.signals h.fit;
  follows = record { nodes = h.follows.nodes; nodes_are = ap paths k.nodes ∙ h.follows.nodes_are; signals = h.follows.signals; signals_are = k.signals ∙ h.follows.signals_are };
  there = subst (λ cs. AreThere (paths t.design.nodes) t.design.signals path cs) (sym k.children)
      (subst (λ ns. AreThere (paths ns) t.design.signals path s.children) (sym k.nodes) (subst (λ ss. AreThere (paths s.design.nodes) ss path s.children) (sym k.signals) h.there));
  differ = subst (λ cs. Differ (child_names cs)) (sym k.children) h.differ;
}

follows_on : (path : Path) (below_it : Path) (d c e : Design) → Follows path d c → Follows below_it c e → Follows path d e
follows_on path below_it d c e h g = record {
  nodes = h.nodes ++ (below_it ∷ g.nodes);
  nodes_are = g.nodes_are ∙ ap (λ ps. ps ++ (below_it ∷ g.nodes)) h.nodes_are ∙ append_assoc (paths d.nodes) (path ∷ h.nodes) (below_it ∷ g.nodes);
  signals = h.signals ++ g.signals;
  signals_are = g.signals_are ∙ ap (λ ss. ss ++ g.signals) h.signals_are ∙ append_assoc d.signals h.signals g.signals;
}

second_false : (a b : Bool) → (a && not b) ≡ true → b ≡ false
second_false true false h = refl
second_false true true h = cc
second_false false b h = cc

-- the node of an instance that was walked
node_there : (path : Path) (d e : Design) → Follows path d e → slice_get (paths e.nodes) (length d.nodes) ≡ Some path
node_there path d e h =
    let l : length (paths d.nodes) + 0 ≡ length d.nodes = (let k = length-map d.nodes path_of in omega (arith, k)) in
    ap (slice_get (paths e.nodes)) (sym l) ∙ ap (λ ps. slice_get ps (length (paths d.nodes) + 0)) h.nodes_are ∙ get_behind (paths d.nodes) (path ∷ h.nodes) 0

inner_amid : (path : Path) (d : Design) (ds : List Declared) (i : Identifier) (driven : List Drive) (s : State) (e : Design) → Amid path d ds s → is_fresh i.name s ≡ true
    → Behind (below path i.name) s.design e → Amid path d ds (with_child i.name (length s.design.nodes) driven s e)
inner_amid path d ds i driven s e h fresh b = record {
  fit = b.fit;
  follows = follows_on path (below path i.name) d s.design e h.follows b.follows;
  there = there_both (paths e.nodes) e.signals path s.children ((i.name, Inner (length s.design.nodes)) ∷ []) stay (node_there (below path i.name) s.design e b.follows, tt);
  differ = subst Differ (sym (map-append child_name s.children ((i.name, Inner (length s.design.nodes)) ∷ [])))
      (differ_both (child_names s.children) (i.name ∷ []) h.differ ((λ a. cc), tt) (λ n a c. apart n a (one_of_more n i.name [] c)));
}
  where
    stay : AreThere (paths e.nodes) e.signals path s.children
    stay =
        subst (λ ps. AreThere ps e.signals path s.children) (sym b.follows.nodes_are)
        (subst (λ ss. AreThere (paths s.design.nodes ++ (below path i.name ∷ b.follows.nodes)) ss path s.children) (sym b.follows.signals_are)
        (there_stays (paths s.design.nodes) (below path i.name ∷ b.follows.nodes) s.design.signals b.follows.signals path s.children h.there))

    none : list_any (bytes_eq i.name) (child_names s.children) ≡ false
    none = second_false (is_none (find i.name s.scope)) (list_any (bytes_eq i.name) (child_names s.children)) fresh

    apart : (n : List ℕ) → Among n (child_names s.children) → (n ≡ i.name) ⊎ Among n [] → ⊥
    apart n a (inl f) = let g : list_any (bytes_eq i.name) (child_names s.children) ≡ true = ap (λ m. list_any (bytes_eq m) (child_names s.children)) (sym f) ∙ a in let k = none in cc
    apart n a (inr c) = cc

-- a node in the place of one with its path
set_paths : (ns : List NodeAt) (i : ℕ) (x : NodeAt) → slice_get (paths ns) i ≡ Some x.path → paths (slice_set ns i x) ≡ paths ns
set_paths [] i x h = refl
set_paths (n ∷ ns) zero x h = let e : x.path ≡ n.path = cc in ap (λ p. p ∷ paths ns) e
set_paths (n ∷ ns) (suc i) x h = ap (λ ps. n.path ∷ ps) (set_paths ns i x h)

set_all : (ps : List Path) (ss : List SignalAt) (ns : List NodeAt) (i : ℕ) (x : NodeAt) → AreThere ps ss x.path x.children × Differ (child_names x.children) → AllThere ps ss ns → AllThere ps ss (slice_set ns i x)
set_all ps ss [] i x h k = tt
set_all ps ss (n ∷ ns) zero x h k = (h, k.1)
set_all ps ss (n ∷ ns) (suc i) x h k = (k.0, set_all ps ss ns i x h k.1)

closes_behind : (path : Path) (d : Design) (ds : List Declared) (t : State) → Amid path d ds t → Behind path d (closed path (length d.nodes) t)
closes_behind path d ds t h = record {
  fit = record {
    all = subst (λ ps. AllThere ps t.design.signals (slice_set t.design.nodes (length d.nodes) (record { path = path; children = t.children }))) (sym same)
        (set_all (paths t.design.nodes) t.design.signals t.design.nodes (length d.nodes) (record { path = path; children = t.children }) (h.there, h.differ) h.fit.all);
    short = h.fit.short;
  };
  follows = record { nodes = h.follows.nodes; nodes_are = same ∙ h.follows.nodes_are; signals = h.follows.signals; signals_are = h.follows.signals_are };
}
  where
    same : paths (slice_set t.design.nodes (length d.nodes) (record { path = path; children = t.children })) ≡ paths t.design.nodes
    same = set_paths t.design.nodes (length d.nodes) (record { path = path; children = t.children }) (node_there path d t.design h.follows)

name_steps : Steps Starts Behind Amid
name_steps = record {
  opens = λ m path out d constants ds h e. opens_amid m path out d constants (in_order (ports_of m) ds) h (good_in_order (place_of m constants d) m ds h.short e);
  plain = λ timing path d ds p k s h. plain_holds (Amid path d ds) timing p k s (λ t keeps. kept_amid path d ds s t h keeps);
  given = λ path d ds p v i c s m x h few e. h.fit;
  inner = λ path d ds i driven s e h few is b. inner_amid path d ds i driven s e h is b;
  closes = closes_behind;
}

-- ---- the whole

all_at : (ps : List Path) (ss : List SignalAt) (ns : List NodeAt) (v : ℕ) (x : NodeAt) → AllThere ps ss ns → slice_get ns v ≡ Some x → AreThere ps ss x.path x.children × Differ (child_names x.children)
all_at ps ss [] v x h e = cc
all_at ps ss (n ∷ ns) zero x h e = let f : n ≡ x = cc in subst (λ (y : NodeAt). AreThere ps ss y.path y.children × Differ (child_names y.children)) f h.0
all_at ps ss (n ∷ ns) (suc v) x h e = all_at ps ss ns v x h.1 e

there_at : (ps : List Path) (ss : List SignalAt) (path : Path) (cs : Children) (j : ℕ) (c : List ℕ × Spot) → AreThere ps ss path cs → slice_get cs j ≡ Some c → IsThere ps ss (below path c.0) c.1
there_at ps ss path [] j c h e = cc
there_at ps ss path (d ∷ cs) zero c h e = let f : d ≡ c = cc in subst (λ (x : List ℕ × Spot). IsThere ps ss (below path x.0) x.1) f h.0
there_at ps ss path (d ∷ cs) (suc j) c h e = there_at ps ss path cs j c h.1 e

node_at : (ns : List NodeAt) (k : ℕ) (path : Path) → slice_get (paths ns) k ≡ Some path → (x : NodeAt) × (slice_get ns k ≡ Some x) × (x.path ≡ path)
node_at [] k path h = cc
node_at (n ∷ ns) zero path h = (n, refl, cc)
node_at (n ∷ ns) (suc k) path h = node_at ns k path h

word_at : (d : Design) (n : ℕ) (path : Path) (word : Option ℕ) → IsWordAt d.signals n path word → IsSignalAt d n path word
word_at d n path word h = record { signal = h.signal; there = h.there; path_is = h.path_is; word_is = h.word_is }

spot_at : (d : Design) (path : Path) (x : Spot) → IsThere (paths d.nodes) d.signals path x → IsAt d path x
spot_at d path (Inner k) h = let n = node_at d.nodes k path h in record { node = n.0; there = n.1; path_is = n.2 }
spot_at d path (Sig s) h = word_at d s.0 path None h
spot_at d path (Words f low count) h = λ i l. word_at d (f.0 + i) path (Some (low + i)) (h i l)

among_at : (cs : Children) (j : ℕ) (c : List ℕ × Spot) → slice_get cs j ≡ Some c → Among c.0 (child_names cs)
among_at [] j c e = cc
among_at (d ∷ cs) zero c e = let f : d ≡ c = cc in subst (λ (x : List ℕ × Spot). Among x.0 (child_names (d ∷ cs))) f (among_first d.0 (child_names cs))
among_at (d ∷ cs) (suc j) c e = among_later c.0 d.0 (child_names cs) (among_at cs j c e)

one_name : (cs : Children) → Differ (child_names cs) → (i j : ℕ) (b c : List ℕ × Spot) → slice_get cs i ≡ Some b → slice_get cs j ≡ Some c → b.0 ≡ c.0 → i ≡ j
one_name [] h i j b c e f g = cc
one_name (d ∷ cs) h zero zero b c e f g = refl
one_name (d ∷ cs) h zero (suc j) b c e f g =
    let k : d ≡ b = cc in
    absurd (h.0 (ap (λ n. list_any (bytes_eq n) (child_names cs)) (ap (λ (x : List ℕ × Spot). x.0) k ∙ g) ∙ among_at cs j c f))
one_name (d ∷ cs) h (suc i) zero b c e f g =
    let k : d ≡ c = cc in
    absurd (h.0 (ap (λ n. list_any (bytes_eq n) (child_names cs)) (ap (λ (x : List ℕ × Spot). x.0) k ∙ sym g) ∙ among_at cs i b e))
one_name (d ∷ cs) h (suc i) (suc j) b c e f g = ap suc (one_name cs h.1 i j b c e f g)

starts_fit : (m : ModuleTree) → IsFit (record { signals = []; nodes = []; processes = [] })
starts_fit m = record { all = tt; short = omega arith }

pub names_have_their_paths : Names_have_their_paths
names_have_their_paths ms top =
    design_holds Starts Behind Amid name_steps
    (λ (d : Design). (v j : ℕ) (x : NodeAt) (c : List ℕ × Spot) → slice_get d.nodes v ≡ Some x → slice_get x.children j ≡ Some c → IsAt d (below x.path c.0) c.1) starts_fit
    (λ path e b v j x c f g. spot_at e (below x.path c.0) c.1 (there_at (paths e.nodes) e.signals x.path x.children j c (all_at (paths e.nodes) e.signals e.nodes v x b.fit.all f).0 g)) ms top

pub names_differ : Names_differ
names_differ ms top =
    design_holds Starts Behind Amid name_steps
    (λ (d : Design). (v i j : ℕ) (x : NodeAt) (b c : List ℕ × Spot) → slice_get d.nodes v ≡ Some x → slice_get x.children i ≡ Some b → slice_get x.children j ≡ Some c → b.0 ≡ c.0 → i ≡ j) starts_fit
    (λ path e k v i j x b c f g h n. one_name x.children (all_at (paths e.nodes) e.signals e.nodes v x k.fit.all f).1 i j b c g h n) ms top
