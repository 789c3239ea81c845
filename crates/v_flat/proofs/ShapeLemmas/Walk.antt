-- What holds along the walk over the instances of a design.
use Rattle.std.proofs.Common.{◌≡◌, ◌+◌, ℕ, zero, suc, Bool, true, false, ◌&&◌, not, List, [], ◌∷◌, ◌++◌, length, nat_lt, nat_le, Option, Some, None, Result, Ok, Err, refl}
use Rattle.std.specs.List.{list_any}
use Rattle.std.specs.Prelude.{bytes_eq}
use Rattle.v_syntax.specs.declared.statement.Identifier.{Identifier}
use Rattle.v_syntax.specs.SourceTrees.{ConnectionsTree, KindTree, Ports, Nets, Registers, Integers, Parameters, Drivers, Always, Initial, Instance, ItemTree, ItemAt, ModuleTree}
use Rattle.v_flat.specs.declared.scope.rule.Broken.{Broken}
use Rattle.v_flat.specs.declared.scope.rule.ElabRule.TheVariants as rule
use Rattle.v_flat.specs.declared.scope.found.Found.{Found}
use Rattle.v_flat.specs.declared.scope.found.Found.TheVariants.{Sound}
use Rattle.v_flat.specs.Scope.Found.{Holds, HoldsOk, both, ended, needs, next, wants}
use Rattle.v_flat.specs.Scope.Limits.{most_parts}
use Rattle.v_flat.specs.Scope.Scope.{Scope, means, nothing}
use Rattle.v_flat.specs.Targets.{Drive}
use Rattle.v_flat.specs.Headers.{all_names, items_in, later, module_name, open_parameters, parameters_of, ports_of}
use Rattle.v_flat.specs.Declarations.{Declared, Entries, Given, declarations, in_order, parameters}
use Rattle.v_flat.specs.Paths.{Path, below}
use Rattle.v_flat.specs.declared.timing.Timing.{Timing}
use Rattle.v_flat.specs.Design.{Design, Joints, Modules, Outside, State, Sub, children, closed, entries, find_module, flat_design, from_top, given_of, instance, instance_checked, instance_item, is_fresh, item, items, joint_count, joints_of, module_there, modules_checked, no_design, opened, place_of, plain_item, port_joints, timing_of, top_of, walk, walk_items, with_child}
use Rattle.v_flat.proofs.Holds.{holds_ended, holds_next}
use Rattle.v_flat.proofs.ShapeLemmas.Ends.{ended_sound, holds_next_so, needs_sound, wants_sound}

-- the state in which the items of an instance are begun
abbrev pub opening : ModuleTree → Path → Outside → Design → Scope → List Declared → State
opening m path out d s ds = record {
  scope = s;
  design = port_joints out.scope out.joints s (ports_of m) (opened path ds d);
  driven = [];
  children = children (length d.signals) ds;
}

abbrev pub scope_of : Entries → Design → List Declared → Scope
scope_of constants d ds = means (constants ++ entries (length d.signals) ds)

-- P is known of what an instance begins with, I of the design before and behind it, and J of the state between two of its items, with the
-- design before it and what it declares
pub record Steps (P : ModuleTree → Outside → Design → Type 0) (I : Path → Design → Design → Type 0) (J : Path → Design → List Declared → State → Type 0) : Type 0 where
  pub opens : (m : ModuleTree) (path : Path) (out : Outside) (d : Design) (constants : Entries) (ds : List Declared) → P m out d
      → declarations (place_of m constants d) m ≡ Ok ds
      → J path d (in_order (ports_of m) ds) (opening m path out d (scope_of constants d (in_order (ports_of m) ds)) (in_order (ports_of m) ds))
  pub plain : (q : Timing) (path : Path) (d : Design) (ds : List Declared) (p : ℕ) (k : KindTree) (s : State) → J path d ds s → Holds (J path d ds) (plain_item q p k s)
  pub given : (path : Path) (d : Design) (ds : List Declared) (p : ℕ) (v : Option ConnectionsTree) (i : Identifier) (c : Option ConnectionsTree) (s : State)
      (m : ModuleTree) (x : List Given × Joints) → J path d ds s → nat_lt (length s.design.nodes) most_parts ≡ true → instance_checked p v i c s m ≡ Sound x
      → P m (record { given = x.0; scope = s.scope; joints = x.1.list }) s.design
  pub inner : (path : Path) (d : Design) (ds : List Declared) (i : Identifier) (driven : List Drive) (s : State) (e : Design) → J path d ds s
      → nat_lt (length s.design.nodes) most_parts ≡ true → is_fresh i.name s ≡ true → I (below path i.name) s.design e
      → J path d ds (with_child i.name (length s.design.nodes) driven s e)
  pub closes : (path : Path) (d : Design) (ds : List Declared) (t : State) → J path d ds t → I path d (closed path (length d.nodes) t)

both_true : (a b : Bool) → (a && b) ≡ true → (a ≡ true) × (b ≡ true)
both_true true b h = (refl, h)
both_true false b h = cc

-- there is room for an instance that is walked
there : (i : Identifier) (room : ℕ) (above : List (List ℕ)) (d : Design) (o : Option ModuleTree) (m : ModuleTree) → ended (module_there i room above d o) ≡ Ok m
    → (nat_lt 0 room ≡ true) × (nat_lt (length d.nodes) most_parts ≡ true)
there i room above d None m e = cc
there i room above d (Some n) m e =
    both_true (nat_lt 0 room) (nat_lt (length d.nodes) most_parts)
    (needs_sound (nat_lt 0 room && nat_lt (length d.nodes) most_parts) rule.TooMany i.at (Sound n) m
    (needs_sound (not (list_any (bytes_eq i.name) above)) rule.RecursiveInstance i.at (needs (nat_lt 0 room && nat_lt (length d.nodes) most_parts) rule.TooMany i.at (Sound n)) m
    (ended_sound (module_there i room above d (Some n)) m e)).1).0

-- its name is new
fresh : (p : ℕ) (v : Option ConnectionsTree) (i : Identifier) (c : Option ConnectionsTree) (s : State) (m : ModuleTree) (x : List Given × Joints)
    → instance_checked p v i c s m ≡ Sound x → is_fresh i.name s ≡ true
fresh p v i c s m x e =
    let asked : Found (List Given × Joints) = both (given_of s.scope v (open_parameters (parameters_of m))) (joints_of s.scope c (ports_of m) s.driven) in
    (wants_sound (is_fresh i.name s) rule.DuplicateName i.at asked x
    (wants_sound (nat_le (length s.design.processes + joint_count c (ports_of m)) most_parts) rule.TooMany p (wants (is_fresh i.name s) rule.DuplicateName i.at asked) x e).1).0

module _ (P : ModuleTree → Outside → Design → Type 0) (I : Path → Design → Design → Type 0) (J : Path → Design → List Declared → State → Type 0) (steps : Steps P I J) where
  -- what is known of the walk over an instance
  abbrev Good : Sub → ℕ → Type 0
  Good sub room = nat_lt 0 room ≡ true → (above : List (List ℕ)) (m : ModuleTree) (path : Path) (out : Outside) (d : Design) → P m out d → HoldsOk (I path d) (sub above m path out d)

  module _ (q : Timing) (sub : Sub) (room : ℕ) (good : Good sub room) (ms : Modules) (above : List (List ℕ)) (path : Path) (d : Design) (ds : List Declared) where
    instance_holds : (p : ℕ) (m : Identifier) (v : Option ConnectionsTree) (i : Identifier) (c : Option ConnectionsTree) (s : State) → J path d ds s
        → HoldsOk (J path d ds) (instance_item sub room ms above path p m v i c s)
    instance_holds p m v i c s h =
        holds_next_so (J path d ds) (ended (module_there m room above s.design (find_module m.name ms.list))) (λ inner.
        next (ended (instance_checked p v i c s inner)) (λ x.
        next (sub (m.name ∷ above) inner (below path i.name) (record { given = x.0; scope = s.scope; joints = x.1.list }) s.design) (λ e.
        Ok (with_child i.name (length s.design.nodes) x.1.driven s e))))
        (λ inner is. holds_next_so (J path d ds) (ended (instance_checked p v i c s inner)) (λ x.
        next (sub (m.name ∷ above) inner (below path i.name) (record { given = x.0; scope = s.scope; joints = x.1.list }) s.design) (λ e.
        Ok (with_child i.name (length s.design.nodes) x.1.driven s e)))
        (λ x checks. holds_next (I (below path i.name) s.design) (J path d ds)
        (sub (m.name ∷ above) inner (below path i.name) (record { given = x.0; scope = s.scope; joints = x.1.list }) s.design)
        (λ e. Ok (with_child i.name (length s.design.nodes) x.1.driven s e))
        (good (there m room above s.design (find_module m.name ms.list) inner is).0 (m.name ∷ above) inner (below path i.name) (record { given = x.0; scope = s.scope; joints = x.1.list }) s.design
        (steps.given path d ds p v i c s inner x h (there m room above s.design (find_module m.name ms.list) inner is).1 (ended_sound (instance_checked p v i c s inner) x checks)))
        (λ e k. steps.inner path d ds i x.1.driven s e h (there m room above s.design (find_module m.name ms.list) inner is).1
        (fresh p v i c s inner x (ended_sound (instance_checked p v i c s inner) x checks)) k)))

    plain_holds : (p : ℕ) (k : KindTree) (s : State) → J path d ds s → HoldsOk (J path d ds) (ended (plain_item q p k s))
    plain_holds p k s h = holds_ended (J path d ds) (plain_item q p k s) (steps.plain q path d ds p k s h)

    item_holds : (i : ItemTree) (s : State) → J path d ds s → HoldsOk (J path d ds) (item q sub room ms above path i s)
    item_holds (ItemAt p (Instance m v i c)) s h = instance_holds p m v i c s h
    item_holds (ItemAt p (Nets r ns)) s h = plain_holds p (Nets r ns) s h
    item_holds (ItemAt p (Registers r rs)) s h = plain_holds p (Registers r rs) s h
    item_holds (ItemAt p (Drivers xs)) s h = plain_holds p (Drivers xs) s h
    item_holds (ItemAt p (Always c b)) s h = plain_holds p (Always c b) s h
    item_holds (ItemAt p (Initial b)) s h = plain_holds p (Initial b) s h
    item_holds (ItemAt p (Ports q is)) s h = plain_holds p (Ports q is) s h
    item_holds (ItemAt p (Integers is)) s h = plain_holds p (Integers is) s h
    item_holds (ItemAt p (Parameters k r ps)) s h = plain_holds p (Parameters k r ps) s h

    items_hold : (is : List ItemTree) (s : State) → J path d ds s → HoldsOk (J path d ds) (items q sub room ms above path is s)
    items_hold [] s h = h
    items_hold (i ∷ is) s h =
        holds_next (J path d ds) (J path d ds) (item q sub room ms above path i s) (items q sub room ms above path is) (item_holds i s h) (λ t k. items_hold is t k)

  instance_walk : (sub : Sub) (room : ℕ) → Good sub room → (ms : Modules) (above : List (List ℕ)) (m : ModuleTree) (path : Path) (out : Outside) (d : Design) → P m out d
      → HoldsOk (I path d) (instance sub room ms above m path out d)
  instance_walk sub room good ms above m path out d h =
      holds_next_so (I path d) (parameters (parameters_of m) out.given (later (all_names m)) []) (λ constants.
      next (declarations (place_of m constants d) m) (λ ds.
      walk_items sub room ms above m path out d (scope_of constants d (in_order (ports_of m) ds)) (in_order (ports_of m) ds)))
      (λ constants e. holds_next_so (I path d) (declarations (place_of m constants d) m) (λ ds.
      walk_items sub room ms above m path out d (scope_of constants d (in_order (ports_of m) ds)) (in_order (ports_of m) ds))
      (λ ds is. holds_next (J path d (in_order (ports_of m) ds)) (I path d)
      (items (timing_of ms (module_name m).name) sub room ms above path (items_in m) (opening m path out d (scope_of constants d (in_order (ports_of m) ds)) (in_order (ports_of m) ds)))
      (λ t. Ok (closed path (length d.nodes) t))
      (items_hold (timing_of ms (module_name m).name) sub room good ms above path d (in_order (ports_of m) ds) (items_in m) (opening m path out d (scope_of constants d (in_order (ports_of m) ds)) (in_order (ports_of m) ds))
      (steps.opens m path out d constants ds h is))
      (λ t k. steps.closes path d (in_order (ports_of m) ds) t k)))

  walk_holds : (ms : Modules) (room : ℕ) (above : List (List ℕ)) (m : ModuleTree) (path : Path) (out : Outside) (d : Design) → P m out d
      → HoldsOk (I path d) (walk ms room above m path out d)
  unfolding walk
  walk_holds ms zero above m path out d h = instance_walk (λ a n q o e. Ok e) 0 (λ t. cc) ms above m path out d h
  walk_holds ms (suc room) above m path out d h =
      instance_walk (walk ms room) (suc room) (λ t a n q o e k. walk_holds ms room a n q o e k) ms above m path out d h

  top_holds : (Q : Design → Type 0) → ((m : ModuleTree) → P m (record { given = []; scope = nothing; joints = [] }) no_design)
      → ((path : Path) (e : Design) → I path no_design e → Q e) → (ms : Modules) (top : Option ModuleTree) → HoldsOk Q (from_top ms top)
  top_holds Q begins ends ms None = tt
  top_holds Q begins ends ms (Some m) =
      holds_ok_of (I ((module_name m).name ∷ []) no_design) Q (walk ms 64 ((module_name m).name ∷ []) m ((module_name m).name ∷ []) (record { given = []; scope = nothing; joints = [] }) no_design)
      (walk_holds ms 64 ((module_name m).name ∷ []) m ((module_name m).name ∷ []) (record { given = []; scope = nothing; joints = [] }) no_design (begins m)) (ends ((module_name m).name ∷ []))
    where
      holds_ok_of : (A B : Design → Type 0) (r : Result Design Broken) → HoldsOk A r → ((e : Design) → A e → B e) → HoldsOk B r
      holds_ok_of A B (Ok e) h f = f e h
      holds_ok_of A B (Err b) h f = tt

  -- what follows of the design behind the top follows of the design of a text
  pub design_holds : (Q : Design → Type 0) → ((m : ModuleTree) → P m (record { given = []; scope = nothing; joints = [] }) no_design)
      → ((path : Path) (e : Design) → I path no_design e → Q e) → (ms : Modules) (top : Option (List ℕ)) → HoldsOk Q (flat_design ms top)
  design_holds Q begins ends ms top =
      holds_next_so Q (modules_checked [] ms.list) (λ u. from_top ms (top_of ms.list top)) (λ u e. top_holds Q begins ends ms (top_of ms.list top))
