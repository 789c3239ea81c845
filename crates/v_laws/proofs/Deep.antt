-- No instance of a design stands deeper than 64 below the top.
use Rattle.std.proofs.Common.{◌≡◌, ◌≤◌, ◌+◌, ℕ, zero, suc, true, List, [], ◌∷◌, length, nat_lt, slice_set, Option, None, Some, Ok, sym, subst, arith, length-append}
use Rattle.std.specs.List.{AllByRecursion}
use Rattle.v_syntax.specs.declared.statement.Identifier.{Identifier}
use Rattle.v_syntax.specs.SourceTrees.{ConnectionsTree, KindTree, Ports, Nets, Registers, Integers, Parameters, Drivers, Always, Initial, Instance, ItemTree, ItemAt, ModuleTree}
use Rattle.v_flat.specs.Scope.Found.{HoldsOk, ended, next}
use Rattle.v_flat.specs.Scope.Scope.{Scope, nothing}
use Rattle.v_flat.specs.Headers.{all_names, items_in, later, module_name, parameters_of, ports_of}
use Rattle.v_flat.specs.Declarations.{Declared, declarations, in_order, parameters}
use Rattle.v_flat.specs.Paths.{NodeAt, Path, below}
use Rattle.v_flat.specs.declared.timing.Timing.{Timing}
use Rattle.v_flat.specs.Design.{Design, Modules, Outside, State, Sub, closed, find_module, flat_design, from_top, instance, instance_checked, instance_item, item, items, module_there, modules_checked, no_design, opened, place_of, plain_item, timing_of, top_of, walk, walk_items, with_child}
use Rattle.v_flat.proofs.Holds.{holds_ended, holds_next}
use Rattle.v_flat.proofs.ShapeLemmas.Ends.{holds_next_so}
use Rattle.v_flat.proofs.ShapeLemmas.Kept.{KeepsParts, joints_keep, plain_holds}
use Rattle.v_flat.proofs.ShapeLemmas.Walk.{opening, scope_of}
use Rattle.v_laws.proofs.Along.{room_there}
use Rattle.v_laws.proofs.Filled.{each_both}

-- its path has no more names than the top's and 64
abbrev pub IsShallow : NodeAt → Type 0
IsShallow node = length node.path ≤ 65

abbrev pub AreShallow : Design → Type 0
AreShallow d = AllByRecursion IsShallow d.nodes

abbrev Amid : State → Type 0
Amid s = AreShallow s.design

kept : (d e : Design) → e.nodes ≡ d.nodes → AreShallow d → AreShallow e
kept d e n h = subst (AllByRecursion IsShallow) (sym n) h

set_shallow : (ns : List NodeAt) (i : ℕ) (x : NodeAt) → IsShallow x → AllByRecursion IsShallow ns → AllByRecursion IsShallow (slice_set ns i x)
set_shallow [] i x h k = k
set_shallow (n ∷ ns) zero x h k = (h, k.1)
set_shallow (n ∷ ns) (suc i) x h k = (k.0, set_shallow ns i x h k.1)

below_length : (path : Path) (name : List ℕ) → length (below path name) ≡ length path + 1
below_length path name = length-append path (name ∷ [])

module _ (ms : Modules) where
  -- what is known of the walk over an instance, below which there is room for so many levels
  abbrev Good : Sub → ℕ → Type 0
  Good sub room = nat_lt 0 room ≡ true → (above : List (List ℕ)) (m : ModuleTree) (path : Path) (out : Outside) (d : Design) → length path + room ≤ 66 → AreShallow d
      → HoldsOk AreShallow (sub above m path out d)

  module _ (q : Timing) (sub : Sub) (room : ℕ) (good : Good sub room) (above : List (List ℕ)) (path : Path) (few : length path + room ≤ 65) where
    instance_shallow : (p : ℕ) (m : Identifier) (v : Option ConnectionsTree) (i : Identifier) (c : Option ConnectionsTree) (s : State) → Amid s
        → HoldsOk Amid (instance_item sub room ms above path p m v i c s)
    instance_shallow p m v i c s h =
        holds_next_so Amid (ended (module_there m room above s.design (find_module m.name ms.list))) (λ inner.
        next (ended (instance_checked p v i c s inner)) (λ x.
        next (sub (m.name ∷ above) inner (below path i.name) (record { given = x.0; scope = s.scope; joints = x.1.list }) s.design) (λ e.
        Ok (with_child i.name (length s.design.nodes) x.1.driven s e))))
        (λ inner is. holds_next_so Amid (ended (instance_checked p v i c s inner)) (λ x.
        next (sub (m.name ∷ above) inner (below path i.name) (record { given = x.0; scope = s.scope; joints = x.1.list }) s.design) (λ e.
        Ok (with_child i.name (length s.design.nodes) x.1.driven s e)))
        (λ x checks. holds_next AreShallow Amid
        (sub (m.name ∷ above) inner (below path i.name) (record { given = x.0; scope = s.scope; joints = x.1.list }) s.design)
        (λ e. Ok (with_child i.name (length s.design.nodes) x.1.driven s e))
        (good (room_there m room above s.design (find_module m.name ms.list) inner is) (m.name ∷ above) inner (below path i.name)
        (record { given = x.0; scope = s.scope; joints = x.1.list }) s.design (let l = below_length path i.name in omega (arith, l, few)) h)
        (λ e k. k)))

    plain_shallow : (p : ℕ) (k : KindTree) (s : State) → Amid s → HoldsOk Amid (ended (plain_item q p k s))
    plain_shallow p k s h = holds_ended Amid (plain_item q p k s) (plain_holds Amid q p k s (λ t keeps. kept s.design t.design keeps.nodes h))

    item_shallow : (i : ItemTree) (s : State) → Amid s → HoldsOk Amid (item q sub room ms above path i s)
    item_shallow (ItemAt p (Instance m v i c)) s h = instance_shallow p m v i c s h
    item_shallow (ItemAt p (Nets r ns)) s h = plain_shallow p (Nets r ns) s h
    item_shallow (ItemAt p (Registers r rs)) s h = plain_shallow p (Registers r rs) s h
    item_shallow (ItemAt p (Drivers xs)) s h = plain_shallow p (Drivers xs) s h
    item_shallow (ItemAt p (Always c b)) s h = plain_shallow p (Always c b) s h
    item_shallow (ItemAt p (Initial b)) s h = plain_shallow p (Initial b) s h
    item_shallow (ItemAt p (Ports r is)) s h = plain_shallow p (Ports r is) s h
    item_shallow (ItemAt p (Integers is)) s h = plain_shallow p (Integers is) s h
    item_shallow (ItemAt p (Parameters k r ps)) s h = plain_shallow p (Parameters k r ps) s h

    items_shallow : (is : List ItemTree) (s : State) → Amid s → HoldsOk Amid (items q sub room ms above path is s)
    items_shallow [] s h = h
    items_shallow (i ∷ is) s h =
        holds_next Amid Amid (item q sub room ms above path i s) (items q sub room ms above path is) (item_shallow i s h) (λ t k. items_shallow is t k)

  module _ (sub : Sub) (room : ℕ) (good : Good sub room) (above : List (List ℕ)) (m : ModuleTree) (path : Path) (out : Outside) (d : Design) (few : length path + room ≤ 65)
      (h : AreShallow d) where
    opens : (s : Scope) (ds : List Declared) → Amid (opening m path out d s ds)
    opens s ds =
        let keeps : KeepsParts (opened path ds d) (opening m path out d s ds).design = joints_keep out.scope out.joints s (ports_of m) (opened path ds d) in
        kept (opened path ds d) (opening m path out d s ds).design keeps.nodes
        (each_both IsShallow d.nodes (record { path = path; children = [] } ∷ []) h (omega (arith, few), tt))

    instance_walk : HoldsOk AreShallow (instance sub room ms above m path out d)
    instance_walk =
        holds_next_so AreShallow (parameters (parameters_of m) out.given (later (all_names m)) []) (λ constants.
        next (declarations (place_of m constants d) m) (λ ds.
        walk_items sub room ms above m path out d (scope_of constants d (in_order (ports_of m) ds)) (in_order (ports_of m) ds)))
        (λ constants e. holds_next_so AreShallow (declarations (place_of m constants d) m) (λ ds.
        walk_items sub room ms above m path out d (scope_of constants d (in_order (ports_of m) ds)) (in_order (ports_of m) ds))
        (λ ds is. holds_next Amid AreShallow
        (items (timing_of ms (module_name m).name) sub room ms above path (items_in m) (opening m path out d (scope_of constants d (in_order (ports_of m) ds)) (in_order (ports_of m) ds)))
        (λ t. Ok (closed path (length d.nodes) t))
        (items_shallow (timing_of ms (module_name m).name) sub room good above path few (items_in m)
        (opening m path out d (scope_of constants d (in_order (ports_of m) ds)) (in_order (ports_of m) ds))
        (opens (scope_of constants d (in_order (ports_of m) ds)) (in_order (ports_of m) ds)))
        (λ t k. set_shallow t.design.nodes (length d.nodes) (record { path = path; children = t.children }) (omega (arith, few)) k)))

  walk_shallow : (room : ℕ) (above : List (List ℕ)) (m : ModuleTree) (path : Path) (out : Outside) (d : Design) → length path + room ≤ 65 → AreShallow d
      → HoldsOk AreShallow (walk ms room above m path out d)
  unfolding walk
  walk_shallow zero above m path out d few h = instance_walk (λ a n q o e. Ok e) 0 (λ t. cc) above m path out d few h
  walk_shallow (suc room) above m path out d few h =
      instance_walk (walk ms room) (suc room) (λ t a n q o e less k. walk_shallow room a n q o e (omega (arith, less)) k) above m path out d few h

  top_shallow : (top : Option ModuleTree) → HoldsOk AreShallow (from_top ms top)
  top_shallow None = tt
  top_shallow (Some m) =
      walk_shallow 64 ((module_name m).name ∷ []) m ((module_name m).name ∷ []) (record { given = []; scope = nothing; joints = [] }) no_design (omega arith) tt

  pub designs_shallow : (top : Option (List ℕ)) → HoldsOk AreShallow (flat_design ms top)
  designs_shallow top = holds_next_so AreShallow (modules_checked [] ms.list) (λ u. from_top ms (top_of ms.list top)) (λ u e. top_shallow (top_of ms.list top))
