-- A VCD text can be written of each sound flat design of a text, where its names are those of such a text.
use Rattle.std.proofs.Common.{◌≡◌, ◌≢◌, ◌⊎◌, ◌∙◌, ◌+◌, ◌<◌, ◌≤◌, inl, inr, ℕ, zero, suc, Bool, true, false, not, ◌&&◌, List, [], ◌∷◌, ◌++◌, map, length, codes, slice_get, Option, None, Some, Result, Ok, Err, refl, sym, ap, subst, append_assoc, append-nil, arith}
use Rattle.std.proofs.lemmas.List.{length-map}
use Rattle.std.specs.Prelude.{bytes_eq, is_some}
use Rattle.std.specs.Fmt.{decimal}
use Rattle.std.specs.List.{AllByRecursion, list_any}
use Rattle.gpi.specs.declared.design.Flat.{Flat}
use Rattle.gpi.specs.declared.design.Node.{Node}
use Rattle.gpi.specs.declared.design.Signal.{Signal}
use Rattle.gpi.specs.declared.design.Spot.{Spot}
use Rattle.gpi.specs.declared.design.Spot.TheVariants.{Inner, Sig, Words}
use Rattle.gpi.specs.Soundness.{IsSoundFlat, IsTree, climbs}
use Rattle.vcd_text.specs.Hierarchy.{most_inner, top_path}
use Rattle.vcd_text.specs.Names.{is_name}
use Rattle.vcd_text.specs.Spelling.{spelled_step}
use Rattle.vcd_text.specs.Traceable as traceable
use Rattle.vcd_text.specs.Traceable.{AreNamed, HasPaths, IsOpening, IsTraceable, all_differ}
use Rattle.v_flat.specs.declared.scope.rule.Broken.{Broken}
use Rattle.v_flat.specs.Scope.Found.{HoldsOk}
use Rattle.v_flat.specs.Paths.{NodeAt, Path, below, node_of, path_text, signal_of, word_text}
use Rattle.v_flat.specs.Design.{Design, flat_design, in_bytes, modules_in}
use Rattle.v_flat.proofs.ShapeLemmas.Names.{one_of_more}
use Rattle.v_laws.specs.Instances.{IsAt, IsSignalAt}
use Rattle.v_laws.specs.Traces.{Designs_are_traceable, HasNames, IsNamed}
use Rattle.v_laws.proofs.Names.{names_differ, names_have_their_paths}
use Rattle.v_laws.proofs.Filled.{HasPath, IsFilled, IsFull, Starts, designs_full}
use Rattle.v_laws.proofs.Spelled.{source_spells}
use Rattle.v_laws.proofs.Deep.{AreShallow, IsShallow, designs_shallow}
use Rattle.v_laws.proofs.Climbs.{climbs_so}
use Rattle.v_laws.proofs.Ordered.{IsOrdered, designs_ordered}
use Rattle.v_laws.proofs.Covered.{IsCovered, designs_covered}
use Rattle.v_laws.proofs.Numbered.{numbered}

-- ---- lists

get_mapped : {A B : Type 0} (f : A → B) (xs : List A) (i : ℕ) (x : A) → slice_get xs i ≡ Some x → slice_get (map f xs) i ≡ Some (f x)
get_mapped f [] i x h = cc
get_mapped f (y ∷ xs) zero x h = let e : y ≡ x = cc in ap (λ z. Some (f z)) e
get_mapped f (y ∷ xs) (suc i) x h = get_mapped f xs i x h

each_mapped : {A B : Type 0} (f : A → B) (P : B → Type 0) (xs : List A) → ((i : ℕ) (x : A) → slice_get xs i ≡ Some x → P (f x)) → AllByRecursion P (map f xs)
each_mapped f P [] h = tt
each_mapped f P (x ∷ xs) h = (h 0 x refl, each_mapped f P xs (λ i y e. h (suc i) y e))

each_listed : {A : Type 0} (P : A → Type 0) (xs : List A) → ((i : ℕ) (x : A) → slice_get xs i ≡ Some x → P x) → AllByRecursion P xs
each_listed P [] h = tt
each_listed P (x ∷ xs) h = (h 0 x refl, each_listed P xs (λ i y e. h (suc i) y e))

one_of_each : {A : Type 0} (P : A → Type 0) (xs : List A) (i : ℕ) (x : A) → AllByRecursion P xs → slice_get xs i ≡ Some x → P x
one_of_each P [] i x h e = cc
one_of_each P (y ∷ xs) zero x h e = let f : y ≡ x = cc in subst P f h.0
one_of_each P (y ∷ xs) (suc i) x h e = one_of_each P xs i x h.1 e

-- ---- names that differ

abbrev Children : Type 0
Children = List (List ℕ × Spot)

abbrev names_of : Children → List (List ℕ)
names_of children = map (λ child. child.0) children

-- a name that is one of those of some children
record Named (children : Children) (name : List ℕ) : Type 0 where
  at : ℕ
  child : List ℕ × Spot
  there : slice_get children at ≡ Some child
  same : name ≡ child.0

named_later : (c : List ℕ × Spot) (children : Children) (name : List ℕ) → Named children name → Named (c ∷ children) name
named_later c children name n = record { at = suc n.at; child = n.child; there = n.there; same = n.same }

named : (children : Children) (name : List ℕ) → list_any (bytes_eq name) (names_of children) ≡ true → Named children name
named [] name h = absurd (cc)
named (c ∷ children) name h = by (one_of_more name c.0 (names_of children) h) (λ k. named children name k)
  where
    by : (name ≡ c.0) ⊎ (list_any (bytes_eq name) (names_of children) ≡ true) → (list_any (bytes_eq name) (names_of children) ≡ true → Named children name)
        → Named (c ∷ children) name
    by (inl e) later = record { at = 0; child = c; there = refl; same = e }
    by (inr k) later = named_later c children name (later k)

abbrev OneEach : Children → Type 0
OneEach children = (i j : ℕ) (b c : List ℕ × Spot) → slice_get children i ≡ Some b → slice_get children j ≡ Some c → b.0 ≡ c.0 → i ≡ j

later_each : (c : List ℕ × Spot) (children : Children) → OneEach (c ∷ children) → OneEach children
later_each c children h i j a b e f g = let k : suc i ≡ suc j = h (suc i) (suc j) a b e f g in cc

differ : (children : Children) → OneEach children → all_differ (names_of children) ≡ true
differ [] h = refl
differ (c ∷ children) h = by (list_any (bytes_eq c.0) (names_of children)) refl (differ children (later_each c children h))
  where
    by : (b : Bool) → list_any (bytes_eq c.0) (names_of children) ≡ b → all_differ (names_of children) ≡ true → (not b && all_differ (names_of children)) ≡ true
    by true e rest = let n = named children c.0 e in absurd (let k : 0 ≡ suc n.at = h 0 (suc n.at) c n.child refl n.there n.same in cc)
    by false e rest = rest

-- ---- paths

path_below : (path : Path) (name : List ℕ) → IsFilled path → path_text (below path name) ≡ path_text path ++ codes "." ++ name
path_below [] name h = absurd h
path_below (first ∷ []) name h = sym (append_assoc first (codes ".") name)
path_below (first ∷ next ∷ path) name h =
    let more : path_text (below (next ∷ path) name) ≡ path_text (next ∷ path) ++ codes "." ++ name = path_below (next ∷ path) name tt in
    ap (λ (l : List ℕ). first ++ (46 ∷ l)) (more ∙ append_assoc (path_text (next ∷ path)) (codes ".") name)
    ∙ sym (append_assoc first (46 ∷ path_text (next ∷ path)) (46 ∷ name)) ∙ sym (append_assoc (first ++ (46 ∷ path_text (next ∷ path))) (codes ".") name)

module _ (flat : Flat) (d : Design) (signals : flat.signals ≡ map signal_of d.signals) (nodes : flat.nodes ≡ map node_of d.nodes) where
  node_at : (k : ℕ) (path : Path) → (node : NodeAt) → slice_get d.nodes k ≡ Some node → node.path ≡ path → traceable.IsNodeAt flat k (path_text path)
  node_at k path node there is =
      (node_of node, ap (λ (l : List Node). slice_get l k) nodes ∙ get_mapped node_of d.nodes k node there, ap path_text is)

  signal_at : (n : ℕ) (path : Path) (word : Option ℕ) (text : List ℕ) → IsSignalAt d n path word → path_text path ++ word_text word ≡ text
      → traceable.IsSignalAt flat n text
  signal_at n path word text h is = (
    signal_of h.signal,
    ap (λ (l : List Signal). slice_get l n) signals ∙ get_mapped signal_of d.signals n h.signal h.there,
    ap (λ (p : Path). path_text p ++ word_text h.signal.word) h.path_is
        ∙ ap (λ (w : Option ℕ). path_text path ++ word_text w) h.word_is ∙ is,
  )

  spot_at : (path : Path) (x : Spot) → IsAt d path x → traceable.IsAt flat (path_text path) x
  spot_at path (Inner k) h = node_at k path h.node h.there h.path_is
  spot_at path (Sig s) h = signal_at s.0 path None (path_text path) h (append-nil (path_text path))
  spot_at path (Words first low count) h =
      λ i less. signal_at (first.0 + i) path (Some (low + i)) (path_text path ++ codes "[" ++ decimal (low + i) ++ codes "]") (h i less)
      (sym (append_assoc (path_text path ++ codes "[") (decimal (low + i)) (codes "]") ∙ append_assoc (path_text path) (codes "[") (decimal (low + i) ++ codes "]")))

-- ---- a design

-- what is known of the design that a text stands for
holds_of : (P : Design → Type 0) (places : List ℕ) (r : Result Design Broken) (d : Design) → in_bytes places r ≡ Ok d → HoldsOk P r → P d
holds_of P places (Ok a) d e h = let f : a ≡ d = cc in subst P f h
holds_of P places (Err b) d e h = absurd (cc)

filled_long : (path : Path) → IsFilled path → 1 ≤ length path
filled_long [] h = absurd h
filled_long (name ∷ names) h = omega arith

get_there : {A : Type 0} (xs : List A) (i : ℕ) → i < length xs → (x : A) × (slice_get xs i ≡ Some x)
get_there [] i less = absurd (omega (arith, less))
get_there (x ∷ xs) zero less = (x, refl)
get_there (x ∷ xs) (suc i) less = get_there xs i (omega (arith, less))

first_filled : (path : Path) → is_name (path_text path) ≡ true → IsFilled path
first_filled [] h = absurd (cc)
first_filled (name ∷ names) h = tt

some_not : (o : Option (List ℕ)) → is_some o ≡ true → o ≢ None
some_not None h = λ e. absurd (cc)
some_not (Some words) h = λ e. absurd (cc)

module _ (flat : Flat) (has_names : IsNamed flat) (d : Design) (signals : flat.signals ≡ map signal_of d.signals) (nodes : flat.nodes ≡ map node_of d.nodes) (full : IsFull d)
    (shallow : AreShallow d) (ordered : IsOrdered d) (covered : IsCovered d) where
  all_filled : AllByRecursion HasPath d.nodes
  all_filled =
      let tops : flat.nodes ≡ map node_of (full.first ∷ full.more) = nodes ∙ ap (map node_of) full.nodes_are in
      subst (AllByRecursion HasPath) (sym full.nodes_are)
      (first_filled full.first.path (subst (λ (l : List Node). is_name (top_path l) ≡ true) tops has_names.top), full.filled)

  module _ (places : (v j : ℕ) (x : NodeAt) (c : List ℕ × Spot) → slice_get d.nodes v ≡ Some x → slice_get x.children j ≡ Some c → IsAt d (below x.path c.0) c.1)
      (apart : (v i j : ℕ) (x : NodeAt) (b c : List ℕ × Spot) → slice_get d.nodes v ≡ Some x → slice_get x.children i ≡ Some b → slice_get x.children j ≡ Some c → b.0 ≡ c.0 → i ≡ j) where
    paths_at : (v : ℕ) (x : NodeAt) → slice_get d.nodes v ≡ Some x → HasPaths flat (node_of x)
    paths_at v x f =
        each_listed (λ child. traceable.IsAt flat (path_text x.path ++ codes "." ++ child.0) child.1) x.children
        (λ j c g. subst (λ (text : List ℕ). traceable.IsAt flat text c.1) (path_below x.path c.0 (one_of_each HasPath d.nodes v x all_filled f))
        (spot_at flat d signals nodes (below x.path c.0) c.1 (places v j x c f g)))

    names_at : (v : ℕ) (x : NodeAt) → slice_get d.nodes v ≡ Some x → AreNamed (node_of x)
    names_at v x f = record {
      names = one_of_each HasNames (map node_of d.nodes) v (node_of x) (subst (AllByRecursion HasNames) nodes has_names.names) (get_mapped node_of d.nodes v x f);
      differ = differ x.children (λ i j b c e g h. apart v i j x b c f e g h);
    }

    climbs_at : IsSoundFlat flat → (v : ℕ) → v < length flat.nodes → climbs most_inner flat.nodes v ≡ true
    climbs_at sound v less =
        let few : length flat.nodes ≡ length d.nodes = ap (λ (l : List Node). length l) nodes ∙ length-map d.nodes node_of in
        let n = get_there d.nodes v (omega (arith, few, less)) in
        subst (λ (l : List Node). climbs most_inner l v ≡ true) (sym nodes)
        (climbs_so d (subst IsTree nodes sound.tree) (λ w x f. filled_long x.path (one_of_each HasPath d.nodes w x all_filled f)) places most_inner v n.0 n.1
        (one_of_each IsShallow d.nodes v n.0 shallow n.1))

    pub traceable_by : IsSoundFlat flat → is_some (spelled_step flat.step_fs) ≡ true → IsTraceable flat
    traceable_by sound step = record {
      tree = sound.tree;
      spots = sound.spots;
      top = has_names.top;
      names = subst (AllByRecursion AreNamed) (sym nodes) (each_mapped node_of AreNamed d.nodes names_at);
      paths = subst (AllByRecursion (HasPaths flat)) (sym nodes) (each_mapped node_of (HasPaths flat) d.nodes paths_at);
      opening = subst (AllByRecursion IsOpening) (sym signals) (each_mapped signal_of IsOpening d.signals (λ i x e. one_of_each Starts d.signals i x full.start e));
      order = numbered d places flat signals nodes ordered covered;
      step = some_not (spelled_step flat.step_fs) step;
      limits = record { signals = sound.signals; nodes = sound.nodes; wide = sound.wide; inner = climbs_at sound };
    }

pub designs_are_traceable : Designs_are_traceable
designs_are_traceable top text flat h sound has_names =
    let d : Design = h.design in
    let is : in_bytes h.source.places (flat_design (modules_in h.source) top) ≡ Ok d = h.means.is in
    traceable_by flat has_names d h.stands.signals h.stands.nodes (holds_of IsFull h.source.places (flat_design (modules_in h.source) top) d is (designs_full (modules_in h.source) top))
    (holds_of AreShallow h.source.places (flat_design (modules_in h.source) top) d is (designs_shallow (modules_in h.source) top))
    (holds_of IsOrdered h.source.places (flat_design (modules_in h.source) top) d is (designs_ordered (modules_in h.source) top))
    (holds_of IsCovered h.source.places (flat_design (modules_in h.source) top) d is (designs_covered (modules_in h.source) top))
    (holds_of (λ (e : Design). (v j : ℕ) (x : NodeAt) (c : List ℕ × Spot) → slice_get e.nodes v ≡ Some x → slice_get x.children j ≡ Some c → IsAt e (below x.path c.0) c.1)
    h.source.places (flat_design (modules_in h.source) top) d is (names_have_their_paths (modules_in h.source) top))
    (holds_of (λ (e : Design). (v i j : ℕ) (x : NodeAt) (b c : List ℕ × Spot) → slice_get e.nodes v ≡ Some x → slice_get x.children i ≡ Some b → slice_get x.children j ≡ Some c → b.0 ≡ c.0 → i ≡ j)
    h.source.places (flat_design (modules_in h.source) top) d is (names_differ (modules_in h.source) top))
    sound (subst (λ (n : ℕ). is_some (spelled_step n) ≡ true) (sym h.stands.step) (source_spells text h.source h.means.is_source))
