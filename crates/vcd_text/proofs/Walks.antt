-- The declarations of a design, one after the other: each stands where it may.
use Rattle.std.specs.Prelude.{◌≡◌, ◌⊎◌, ◌<◌, ◌≤◌, ◌+◌, ◌||◌, ℕ, zero, suc, not, Bool, true, false, List, [], ◌∷◌, ◌++◌, codes, length, map, Option, None, Some, slice_get, bytes_eq, refl}
use Rattle.std.specs.List.{AllByRecursion, list_all, list_any}
use Rattle.std.proofs.Common.{ap, sym, subst, ◌∙◌, arith, length-append, inl, inr}
use Rattle.std.proofs.lemmas.Bool.{and_parts, true≢false}
use Rattle.std.proofs.lemmas.Slice.Eq.{bytes_eq-Decides}
use Rattle.gpi.specs.declared.design.Spot.TheVariants.{Inner, Sig, Words}
use Rattle.gpi.specs.declared.design.Node.{Node}
use Rattle.gpi.specs.declared.design.Signal.{Signal}
use Rattle.gpi.specs.declared.design.Flat.{Flat}
use Rattle.vcd_text.specs.Names.{is_name}
use Rattle.vcd_text.specs.Hierarchy.{Children, Declaration, Opens, Declares, Closes, children_of, inner_instances, instance_of, most_inner, own_signals}
use Rattle.vcd_text.specs.Traceable.{AreNamed, HasPaths, IsAt, IsNodeAt, all_differ}
use Rattle.vcd_text.specs.Rules.{OpenScope, inner_path, with_name}

-- ---- where a declaration stands

-- the open instances, and whether a signal may stand in the innermost one
pub record Place : Type 0 where
  pub scope : OpenScope
  pub outer : List OpenScope
  pub fresh : Bool

abbrev pub opened : List ℕ → Place → Place
opened name s = record { scope = record { path = inner_path s.scope.path name; uses = λ other. false }; outer = s.outer ++ with_name name s.scope ∷ []; fresh = true }

abbrev pub named : List ℕ → Place → Place
named name s = record { scope = with_name name s.scope; outer = s.outer; fresh = s.fresh }

abbrev pub closed : List OpenScope → OpenScope → Place
closed outer scope = record { scope = scope; outer = outer; fresh = false }

pub record WalksOpen (s : Place) (name : List ℕ) (a : Place) : Type 0 where
  pub good : is_name name ≡ true
  pub unused : s.scope.uses name ≡ false
  pub inner : length s.outer < most_inner
  pub next : a ≡ opened name s

pub record WalksSignal (flat : Flat) (s : Place) (number : ℕ) (name : List ℕ) (a : Place) : Type 0 where
  pub signal : Signal
  pub there : slice_get flat.signals number ≡ Some signal
  pub path : signal.path ≡ inner_path s.scope.path name
  pub good : is_name name ≡ true
  pub unused : s.scope.uses name ≡ false
  pub fresh : s.fresh ≡ true
  pub next : a ≡ named name s

pub record WalksClose (s a : Place) : Type 0 where
  pub outer : List OpenScope
  pub scope : OpenScope
  pub is : s.outer ≡ outer ++ scope ∷ []
  pub next : a ≡ closed outer scope

abbrev pub Walk : Flat → Place → Declaration → Place → Type 0
Walk flat s (Opens name) a = WalksOpen s name a
Walk flat s (Declares number name) a = WalksSignal flat s number name a
Walk flat s Closes a = WalksClose s a

abbrev pub Walks : Flat → Place → List Declaration → Place → Type 0
Walks flat s [] a = a ≡ s
Walks flat s (d ∷ ds) a = (mid : Place) × Walk flat s d mid × Walks flat mid ds a

walks_then : (flat : Flat) (s : Place) (xs ys : List Declaration) (mid a : Place) → Walks flat s xs mid → Walks flat mid ys a → Walks flat s (xs ++ ys) a
walks_then flat s [] ys mid a x y = subst (λ (z : Place). Walks flat z ys a) x y
walks_then flat s (d ∷ xs) ys mid a (next, t, x) y = (next, t, walks_then flat next xs ys mid a x y)

-- ---- names

abbrev SignalNamed : List ℕ → Children → Type 0
SignalNamed n [] = ⊥
SignalNamed n ((name, Sig signal) ∷ children) = (n ≡ name) ⊎ SignalNamed n children
SignalNamed n ((name, Inner node) ∷ children) = SignalNamed n children
SignalNamed n ((name, Words first low count) ∷ children) = SignalNamed n children

abbrev InnerNamed : List ℕ → Children → Type 0
InnerNamed n [] = ⊥
InnerNamed n ((name, Inner node) ∷ children) = (n ≡ name) ⊎ InnerNamed n children
InnerNamed n ((name, Sig signal) ∷ children) = InnerNamed n children
InnerNamed n ((name, Words first low count) ∷ children) = InnerNamed n children

abbrev names_of : Children → List (List ℕ)
names_of children = map (λ child. child.0) children

any_head : (n name : List ℕ) (names : List (List ℕ)) → n ≡ name → list_any (bytes_eq n) (name ∷ names) ≡ true
any_head n name names e = ap (λ (b : Bool). b || list_any (bytes_eq n) names) ((bytes_eq-Decides n name).1 e)

or_right : (a b : Bool) → b ≡ true → (a || b) ≡ true
or_right true b e = refl
or_right false b e = e

or_parts : (a b : Bool) → (a || b) ≡ true → (a ≡ true) ⊎ (b ≡ true)
or_parts true b e = inl refl
or_parts false b e = inr e

any_tail : (n name : List ℕ) (names : List (List ℕ)) → list_any (bytes_eq n) names ≡ true → list_any (bytes_eq n) (name ∷ names) ≡ true
any_tail n name names e = or_right (bytes_eq n name) (list_any (bytes_eq n) names) e

signal_among : (n : List ℕ) (children : Children) → SignalNamed n children → list_any (bytes_eq n) (names_of children) ≡ true
signal_among n [] h = absurd h
signal_among n ((name, Sig signal) ∷ children) (inl e) = any_head n name (names_of children) e
signal_among n ((name, Sig signal) ∷ children) (inr h) = any_tail n name (names_of children) (signal_among n children h)
signal_among n ((name, Inner node) ∷ children) h = any_tail n name (names_of children) (signal_among n children h)
signal_among n ((name, Words first low count) ∷ children) h = any_tail n name (names_of children) (signal_among n children h)

inner_among : (n : List ℕ) (children : Children) → InnerNamed n children → list_any (bytes_eq n) (names_of children) ≡ true
inner_among n [] h = absurd h
inner_among n ((name, Inner node) ∷ children) (inl e) = any_head n name (names_of children) e
inner_among n ((name, Inner node) ∷ children) (inr h) = any_tail n name (names_of children) (inner_among n children h)
inner_among n ((name, Sig signal) ∷ children) h = any_tail n name (names_of children) (inner_among n children h)
inner_among n ((name, Words first low count) ∷ children) h = any_tail n name (names_of children) (inner_among n children h)

-- a name is none of those behind it
not_behind : (n name : List ℕ) (names : List (List ℕ)) → all_differ (name ∷ names) ≡ true → n ≡ name → list_any (bytes_eq n) names ≡ true → ⊥
not_behind n name names differ e h =
    let p = and_parts (not (list_any (bytes_eq name) names)) (all_differ names) differ in
    true≢false (sym p.0 ∙ ap not (ap (λ (l : List ℕ). list_any (bytes_eq l) names) (sym e) ∙ h))

differ_behind : (name : List ℕ) (names : List (List ℕ)) → all_differ (name ∷ names) ≡ true → all_differ names ≡ true
differ_behind name names differ = (and_parts (not (list_any (bytes_eq name) names)) (all_differ names) differ).1

not_both : (n : List ℕ) (children : Children) → all_differ (names_of children) ≡ true → SignalNamed n children → InnerNamed n children → ⊥
not_both n [] differ h g = h
not_both n ((name, Sig signal) ∷ children) differ (inl e) g = not_behind n name (names_of children) differ e (inner_among n children g)
not_both n ((name, Sig signal) ∷ children) differ (inr h) g = not_both n children (differ_behind name (names_of children) differ) h g
not_both n ((name, Inner node) ∷ children) differ h (inl e) = not_behind n name (names_of children) differ e (signal_among n children h)
not_both n ((name, Inner node) ∷ children) differ h (inr g) = not_both n children (differ_behind name (names_of children) differ) h g
not_both n ((name, Words first low count) ∷ children) differ h g = not_both n children (differ_behind name (names_of children) differ) h g

-- ---- what a walk leaves

-- it ends in the same instance, in which no names are used but those before and these
record Goes (s a : Place) (More : List ℕ → Type 0) : Type 0 where
  path : a.scope.path ≡ s.scope.path
  outer : a.outer ≡ s.outer
  uses : (n : List ℕ) → a.scope.uses n ≡ true → (s.scope.uses n ≡ true) ⊎ More n

decided : (b : Bool) → (b ≡ true → ⊥) → b ≡ false
decided true h = absurd (h refl)
decided false h = refl

-- the name of a walk of one name
one_name : (s : Place) (name n : List ℕ) → (bytes_eq n name || s.scope.uses n) ≡ true → (s.scope.uses n ≡ true) ⊎ (n ≡ name)
one_name s name n h = by (or_parts (bytes_eq n name) (s.scope.uses n) h)
  where
    by : (bytes_eq n name ≡ true) ⊎ (s.scope.uses n ≡ true) → (s.scope.uses n ≡ true) ⊎ (n ≡ name)
    by (inl e) = inr ((bytes_eq-Decides n name).0 e)
    by (inr u) = inl u

module _ (flat : Flat) where
  -- ---- the signals of an instance

  abbrev SignalsWalked : Place → Children → Type 0
  SignalsWalked s children = (a : Place) × Walks flat s (own_signals children) a × Goes s a (λ n. SignalNamed n children)

  signals_more : (s : Place) (number : ℕ) (name : List ℕ) (children : Children) → WalksSignal flat s number name (named name s) → (a : Place) → Walks flat (named name s) (own_signals children) a
      → Goes (named name s) a (λ n. SignalNamed n children) → (Named : List ℕ → Type 0) → ((n : List ℕ) → (n ≡ name) ⊎ SignalNamed n children → Named n)
      → (a : Place) × Walks flat s (Declares number name ∷ own_signals children) a × Goes s a Named
  signals_more s number name children w a more g Named kept = (
    a,
    (named name s, w, more),
    record {
      path = g.path;
      outer = g.outer;
      uses = λ n h. by n (g.uses n h);
    },
  )
    where
      by_name : (n : List ℕ) → (s.scope.uses n ≡ true) ⊎ (n ≡ name) → (s.scope.uses n ≡ true) ⊎ Named n
      by_name n (inl u) = inl u
      by_name n (inr e) = inr (kept n (inl e))

      by : (n : List ℕ) → ((bytes_eq n name || s.scope.uses n) ≡ true) ⊎ SignalNamed n children → (s.scope.uses n ≡ true) ⊎ Named n
      by n (inl u) = by_name n (one_name s name n u)
      by n (inr h) = inr (kept n (inr h))

  walk_signals : (children : Children) (s : Place) (path : List ℕ) → s.scope.path ≡ path → s.fresh ≡ true → list_all (λ child. is_name child.0) children ≡ true
      → all_differ (names_of children) ≡ true → AllByRecursion (λ child. IsAt flat (path ++ codes "." ++ child.0) child.1) children
      → ((n : List ℕ) → SignalNamed n children → s.scope.uses n ≡ false) → SignalsWalked s children
  walk_signals [] s path p fresh good differ paths unused = (s, refl, record { path = refl; outer = refl; uses = λ n h. inl h })
  walk_signals ((name, Sig signal) ∷ children) s path p fresh good differ paths unused =
      let parts = and_parts (is_name name) (list_all (λ child. is_name child.0) children) good in
      let at = paths.0 in
      let w : WalksSignal flat s signal.0 name (named name s) = record {
        signal = at.0;
        there = at.1;
        path = at.2 ∙ ap (λ (l : List ℕ). inner_path l name) (sym p);
        good = parts.0;
        unused = unused name (inl refl);
        fresh = fresh;
        next = refl;
      } in
      let more = walk_signals children (named name s) path p fresh parts.1 (differ_behind name (names_of children) differ) paths.1
      (λ n h. decided (bytes_eq n name || s.scope.uses n) (λ u. still n h (one_name s name n u))) in
      signals_more s signal.0 name children w more.0 more.1 more.2 (λ n. SignalNamed n ((name, Sig signal) ∷ children)) (λ n h. h)
    where
      still : (n : List ℕ) → SignalNamed n children → (s.scope.uses n ≡ true) ⊎ (n ≡ name) → ⊥
      still n h (inl u) = true≢false (sym u ∙ unused n (inr h))
      still n h (inr e) = not_behind n name (names_of children) differ e (signal_among n children h)
  walk_signals ((name, Inner node) ∷ children) s path p fresh good differ paths unused =
      walk_signals children s path p fresh (and_parts (is_name name) (list_all (λ child. is_name child.0) children) good).1 (differ_behind name (names_of children) differ) paths.1 unused
  walk_signals ((name, Words first low count) ∷ children) s path p fresh good differ paths unused =
      walk_signals children s path p fresh (and_parts (is_name name) (list_all (λ child. is_name child.0) children) good).1 (differ_behind name (names_of children) differ) paths.1 unused

  -- ---- its instances

  abbrev InstanceWalked : ℕ → Place → List ℕ → ℕ → Type 0
  InstanceWalked room s name node = (a : Place) × Walks flat s (instance_of flat.nodes room name node) a × Goes s a (λ n. n ≡ name)

  abbrev WalksInstances : ℕ → Type 0
  WalksInstances room = (name : List ℕ) (node : ℕ) (s : Place) → is_name name ≡ true → s.scope.uses name ≡ false → length s.outer + room ≤ most_inner
      → IsNodeAt flat node (inner_path s.scope.path name) → InstanceWalked room s name node

  abbrev InnerWalked : ℕ → Place → Children → Type 0
  InnerWalked room s children = (a : Place) × Walks flat s (inner_instances (instance_of flat.nodes room) children) a × Goes s a (λ n. InnerNamed n children)

  instances_more : (room : ℕ) (s : Place) (name : List ℕ) (node : ℕ) (children : Children) → (first : InstanceWalked room s name node) → InnerWalked room first.0 children
      → (Named : List ℕ → Type 0) → ((n : List ℕ) → (n ≡ name) ⊎ InnerNamed n children → Named n)
      → (a : Place) × Walks flat s (instance_of flat.nodes room name node ++ inner_instances (instance_of flat.nodes room) children) a × Goes s a Named
  instances_more room s name node children (mid, x, g) (a, y, h) Named kept = (
    a,
    walks_then flat s (instance_of flat.nodes room name node) (inner_instances (instance_of flat.nodes room) children) mid a x y,
    record { path = h.path ∙ g.path; outer = h.outer ∙ g.outer; uses = λ n u. by n (h.uses n u) },
  )
    where
      by_name : (n : List ℕ) → (s.scope.uses n ≡ true) ⊎ (n ≡ name) → (s.scope.uses n ≡ true) ⊎ Named n
      by_name n (inl u) = inl u
      by_name n (inr e) = inr (kept n (inl e))

      by : (n : List ℕ) → (mid.scope.uses n ≡ true) ⊎ InnerNamed n children → (s.scope.uses n ≡ true) ⊎ Named n
      by n (inl u) = by_name n (g.uses n u)
      by n (inr k) = inr (kept n (inr k))

  walk_inner : (room : ℕ) → WalksInstances room → (children : Children) (s : Place) (path : List ℕ) → s.scope.path ≡ path → list_all (λ child. is_name child.0) children ≡ true
      → all_differ (names_of children) ≡ true → AllByRecursion (λ child. IsAt flat (path ++ codes "." ++ child.0) child.1) children
      → ((n : List ℕ) → InnerNamed n children → s.scope.uses n ≡ false) → length s.outer + room ≤ most_inner → InnerWalked room s children
  walk_inner room each [] s path p good differ paths unused deep = (s, refl, record { path = refl; outer = refl; uses = λ n h. inl h })
  walk_inner room each ((name, Inner node) ∷ children) s path p good differ paths unused deep =
      let parts = and_parts (is_name name) (list_all (λ child. is_name child.0) children) good in
      let first = each name node s parts.0 (unused name (inl refl)) deep (subst (λ (l : List ℕ). IsNodeAt flat node (inner_path l name)) (sym p) paths.0) in
      let more = walk_inner room each children first.0 path (first.2.path ∙ p) parts.1 (differ_behind name (names_of children) differ) paths.1
      (λ n h. decided (first.0.scope.uses n) (λ u. still n h (first.2.uses n u)))
      (subst (λ (l : List OpenScope). length l + room ≤ most_inner) (sym first.2.outer) deep) in
      instances_more room s name node children first more (λ n. InnerNamed n ((name, Inner node) ∷ children)) (λ n h. h)
    where
      still : (n : List ℕ) → InnerNamed n children → (s.scope.uses n ≡ true) ⊎ (n ≡ name) → ⊥
      still n h (inl u) = true≢false (sym u ∙ unused n (inr h))
      still n h (inr e) = not_behind n name (names_of children) differ e (inner_among n children h)
  walk_inner room each ((name, Sig signal) ∷ children) s path p good differ paths unused deep =
      walk_inner room each children s path p (and_parts (is_name name) (list_all (λ child. is_name child.0) children) good).1 (differ_behind name (names_of children) differ) paths.1 unused deep
  walk_inner room each ((name, Words first low count) ∷ children) s path p good differ paths unused deep =
      walk_inner room each children s path p (and_parts (is_name name) (list_all (λ child. is_name child.0) children) good).1 (differ_behind name (names_of children) differ) paths.1 unused deep

  -- ---- all that is declared in an instance

  node_holds : (P : Node → Type 0) (nodes : List Node) (v : ℕ) (node : Node) → slice_get nodes v ≡ Some node → AllByRecursion P nodes → P node
  node_holds P [] v node e all = absurd (cc)
  node_holds P (x ∷ nodes) zero node e all = let same : x ≡ node = cc in subst P same all.0
  node_holds P (x ∷ nodes) (suc v) node e all = node_holds P nodes v node e all.1

  abbrev declared_in : ℕ → Children → List Declaration
  declared_in room children = own_signals children ++ inner_instances (instance_of flat.nodes room) children

  abbrev BodyWalked : ℕ → Place → Children → Type 0
  BodyWalked room s children = (a : Place) × Walks flat s (declared_in room children) a × (a.scope.path ≡ s.scope.path) × (a.outer ≡ s.outer)

  walk_body : (room : ℕ) → WalksInstances room → (node : Node) (s : Place) → s.scope.path ≡ node.path → s.fresh ≡ true → ((n : List ℕ) → s.scope.uses n ≡ false)
      → AreNamed node → HasPaths flat node → length s.outer + room ≤ most_inner → BodyWalked room s node.children
  walk_body room each node s p fresh none good paths deep =
      let own = walk_signals node.children s node.path p fresh good.names good.differ paths (λ n h. none n) in
      let inner = walk_inner room each node.children own.0 node.path (own.2.path ∙ p) good.names good.differ paths (λ n h. decided (own.0.scope.uses n) (λ u. free n h (own.2.uses n u)))
      (subst (λ (l : List OpenScope). length l + room ≤ most_inner) (sym own.2.outer) deep) in
      (inner.0, walks_then flat s (own_signals node.children) (inner_instances (instance_of flat.nodes room) node.children) own.0 inner.0 own.1 inner.1, inner.2.path ∙ own.2.path, inner.2.outer ∙ own.2.outer)
    where
      free : (n : List ℕ) → InnerNamed n node.children → (s.scope.uses n ≡ true) ⊎ SignalNamed n node.children → ⊥
      free n h (inl u) = true≢false (sym u ∙ none n)
      free n h (inr k) = not_both n node.children good.differ k h

  module _ (all_named : AllByRecursion AreNamed flat.nodes) (all_paths : AllByRecursion (HasPaths flat) flat.nodes) where
    children_is : (v : ℕ) (node : Node) → slice_get flat.nodes v ≡ Some node → children_of flat.nodes v ≡ node.children
    children_is v node e = ap (λ (o : Option Node). elim o [ None ↦ [] | Some found ↦ found.children ]) e

    walk_instance : (room : ℕ) → WalksInstances room
    walk_instance zero name v s good unused deep at = (s, refl, record { path = refl; outer = refl; uses = λ n h. inl h })
    walk_instance (suc room) name v s good unused deep (node, there, path) =
        let inside = opened name s in
        let body = walk_body room (walk_instance room) node inside (sym path) refl (λ n. refl) (node_holds AreNamed flat.nodes v node there all_named)
        (node_holds (HasPaths flat) flat.nodes v node there all_paths) (omega (arith, deep, length-append s.outer (with_name name s.scope ∷ []))) in
        let last : Place = closed s.outer (with_name name s.scope) in
        let close : WalksClose body.0 last = record { outer = s.outer; scope = with_name name s.scope; is = body.3; next = refl } in
        let open_it : WalksOpen s name inside = record { good = good; unused = unused; inner = omega (arith, deep); next = refl } in (
          last,
          (
            inside,
            open_it,
            walks_then flat inside (declared_in room (children_of flat.nodes v)) (Closes ∷ []) body.0 last
                (subst (λ (l : Children). Walks flat inside (declared_in room l) body.0) (sym (children_is v node there)) body.1) (last, close, refl),
          ),
          record { path = refl; outer = refl; uses = λ n h. one_name s name n h },
        )

    -- the declarations inside of the top
    pub walk_top : (room : ℕ) (top : Node) → room ≤ most_inner → slice_get flat.nodes 0 ≡ Some top
        → BodyWalked room (record { scope = record { path = top.path; uses = λ n. false }; outer = []; fresh = true }) (children_of flat.nodes 0)
    walk_top room top deep there =
        subst (λ (l : Children). BodyWalked room (record { scope = record { path = top.path; uses = λ n. false }; outer = []; fresh = true }) l) (sym (children_is 0 top there))
        (walk_body room (walk_instance room) top (record { scope = record { path = top.path; uses = λ n. false }; outer = []; fresh = true }) refl refl (λ n. refl)
        (node_holds AreNamed flat.nodes 0 top there all_named) (node_holds (HasPaths flat) flat.nodes 0 top there all_paths) (omega (arith, deep)))
