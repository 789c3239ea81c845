-- What holds along the walk over the instances of a design, where what an instance is given is known behind it too.
use Rattle.std.proofs.Common.{inl, inr, ◌≡◌, ℕ, zero, suc, Bool, true, false, ◌&&◌, not, List, [], ◌∷◌, length, map, nat_lt, Option, Some, None, Result, Ok, Err, cond, refl, if◌then◌else◌}
use Rattle.std.specs.List.{filter, list_any}
use Rattle.std.specs.Prelude.{bytes_eq}
use Rattle.v_syntax.specs.declared.statement.Identifier.{Identifier}
use Rattle.v_syntax.specs.SourceTrees.{ConnectionsTree, KindTree, Ports, Nets, Registers, Integers, Parameters, Drivers, Always, Initial, Instance, ItemTree, ItemAt, ModuleTree}
use Rattle.v_flat.specs.declared.scope.rule.Broken.{Broken}
use Rattle.v_flat.specs.declared.scope.rule.ElabRule.TheVariants as rule
use Rattle.v_flat.specs.Scope.Limits.{most_parts}
use Rattle.v_flat.specs.Scope.Found.{Holds, HoldsOk, ended, needs, next}
use Rattle.v_flat.specs.declared.scope.found.Found.TheVariants.{Sound}
use Rattle.v_flat.specs.Scope.Scope.{nothing}
use Rattle.v_flat.specs.Headers.{all_names, items_in, later, module_name, parameters_of, port_name, ports_of}
use Rattle.v_flat.specs.Declarations.{Declared, Entries, Given, declarations, in_order, parameters}
use Rattle.v_flat.specs.Paths.{Path, below}
use Rattle.v_flat.specs.Design.{Design, Joints, Modules, Outside, State, Sub, closed, find_module, flat_design, from_top, instance, instance_checked, instance_item, item, items, module_there, modules_checked, no_design, only, place_of, plain_item, timing_of, top_of, unused, used_modules, walk, walk_items, with_child}
use Rattle.v_flat.proofs.Holds.{holds_ended, holds_next}
use Rattle.v_flat.proofs.ShapeLemmas.Ends.{ended_sound, holds_next_so, needs_sound}
use Rattle.v_laws.proofs.Members.{Member}
use Rattle.v_flat.proofs.ShapeLemmas.Names.{Differ}
use Rattle.v_flat.proofs.ShapeLemmas.Ports.{ports_apart}
use Rattle.v_flat.proofs.ShapeLemmas.Walk.{opening, scope_of}

-- what is given to an instance among the items, where no rule is broken in it
abbrev pub outside_of : State → List Given × Joints → Outside
outside_of s x = record { given = x.0; scope = s.scope; joints = x.1.list }

-- the ports of a module have different names, as they have where no rule is broken in its declarations
abbrev pub PortsDiffer : ModuleTree → Type 0
PortsDiffer m = Differ (map port_name (ports_of m))

-- in a text of the modules ms, P is known of what an instance begins with, I of the design before and behind it, and J of the state between two of its items, with what it was
-- given, the design before it and what it declares
pub record Steps (ms : Modules) (P : ModuleTree → Outside → Design → Type 0) (I : ModuleTree → Outside → Design → Design → Type 0)
    (J : ModuleTree → Outside → Design → List Declared → State → Type 0) : Type 0 where
  pub opens : (m : ModuleTree) (path : Path) (out : Outside) (d : Design) (constants : Entries) (ds : List Declared) → P m out d
      → parameters (parameters_of m) out.given (later (all_names m)) [] ≡ Ok constants → declarations (place_of m constants d) m ≡ Ok ds
      → J m out d (in_order (ports_of m) ds) (opening m path out d (scope_of constants d (in_order (ports_of m) ds)) (in_order (ports_of m) ds))
  pub plain : (m : ModuleTree) (out : Outside) (d : Design) (ds : List Declared) (p : ℕ) (k : KindTree) (s : State) → Member (ItemAt p k) (items_in m) → J m out d ds s
      → Holds (J m out d ds) (plain_item (timing_of ms (module_name m).name) p k s)
  pub given : (m : ModuleTree) (out : Outside) (d : Design) (ds : List Declared) (p : ℕ) (v : Option ConnectionsTree) (i : Identifier) (c : Option ConnectionsTree) (s : State)
      (n : ModuleTree) (x : List Given × Joints) → J m out d ds s → Member n ms.list → instance_checked p v i c s n ≡ Sound x → PortsDiffer n → P n (outside_of s x) s.design
  pub inner : (m : ModuleTree) (out : Outside) (d : Design) (ds : List Declared) (p : ℕ) (v : Option ConnectionsTree) (i : Identifier) (c : Option ConnectionsTree) (s : State)
      (n : ModuleTree) (x : List Given × Joints) (e : Design) → J m out d ds s → instance_checked p v i c s n ≡ Sound x → PortsDiffer n → I n (outside_of s x) s.design e
      → J m out d ds (with_child i.name (length s.design.nodes) x.1.driven s e)
  pub closes : (m : ModuleTree) (path : Path) (out : Outside) (d : Design) (ds : List Declared) (t : State) → J m out d ds t → I m out d (closed path (length d.nodes) t)

-- there is room for an instance that is walked
pub room_there : (i : Identifier) (room : ℕ) (above : List (List ℕ)) (d : Design) (o : Option ModuleTree) (m : ModuleTree) → ended (module_there i room above d o) ≡ Ok m → nat_lt 0 room ≡ true
room_there i room above d None m e = cc
room_there i room above d (Some n) m e =
    first_true (nat_lt 0 room) (nat_lt (length d.nodes) most_parts)
    (needs_sound (nat_lt 0 room && nat_lt (length d.nodes) most_parts) rule.TooMany i.at (Sound n) m
    (needs_sound (not (list_any (bytes_eq i.name) above)) rule.RecursiveInstance i.at (needs (nat_lt 0 room && nat_lt (length d.nodes) most_parts) rule.TooMany i.at (Sound n)) m
    (ended_sound (module_there i room above d (Some n)) m e)).1).0
  where
    first_true : (a b : Bool) → (a && b) ≡ true → a ≡ true
    first_true true b h = refl
    first_true false b h = cc

-- and its module is one of the text
module_found : (n : List ℕ) (ms : List ModuleTree) (m : ModuleTree) → find_module n ms ≡ Some m → Member m ms
module_found n [] m e = cc
module_found n (k ∷ ms) m e = go (bytes_eq (module_name k).name n) e (module_found n ms m)
  where
    go : (b : Bool) → (if b then Some k else find_module n ms) ≡ Some m → (find_module n ms ≡ Some m → Member m ms) → Member m (k ∷ ms)
    go true f later = let g : m ≡ k = cc in inl g
    go false f later = inr (later f)

module_is : (i : Identifier) (room : ℕ) (above : List (List ℕ)) (d : Design) (o : Option ModuleTree) (m : ModuleTree) → ended (module_there i room above d o) ≡ Ok m → o ≡ Some m
module_is i room above d None m e = cc
module_is i room above d (Some n) m e =
    let s : Sound n ≡ Sound m =
    (needs_sound (nat_lt 0 room && nat_lt (length d.nodes) most_parts) rule.TooMany i.at (Sound n) m
    (needs_sound (not (list_any (bytes_eq i.name) above)) rule.RecursiveInstance i.at (needs (nat_lt 0 room && nat_lt (length d.nodes) most_parts) rule.TooMany i.at (Sound n)) m
    (ended_sound (module_there i room above d (Some n)) m e)).1).1 in cc

filtered_member : (f : ModuleTree → Bool) (m : ModuleTree) (ms : List ModuleTree) → Member m (filter f ms) → Member m ms
filtered_member f m [] h = h
filtered_member f m (k ∷ ms) h = go (f k) h (filtered_member f m ms)
  where
    go : (b : Bool) → Member m (cond b (k ∷ filter f ms) (filter f ms)) → (Member m (filter f ms) → Member m ms) → Member m (k ∷ ms)
    go true (inl e) later = inl e
    go true (inr g) later = inr (later g)
    go false g later = inr (later g)

only_member : (ms : List ModuleTree) (m : ModuleTree) → only ms ≡ Some m → Member m ms
only_member [] m e = cc
only_member (k ∷ []) m e = let f : m ≡ k = cc in inl f
only_member (k ∷ (n ∷ ms)) m e = cc

top_member : (ms : List ModuleTree) (top : Option (List ℕ)) (m : ModuleTree) → top_of ms top ≡ Some m → Member m ms
top_member ms (Some n) m e = module_found n ms m e
top_member ms None m e =
    filtered_member (λ k. not (list_any (bytes_eq (module_name k).name) (used_modules ms))) m ms (only_member (unused (used_modules ms) ms) m e)

module _ (ms : Modules) (P : ModuleTree → Outside → Design → Type 0) (I : ModuleTree → Outside → Design → Design → Type 0) (J : ModuleTree → Outside → Design → List Declared → State → Type 0) (steps : Steps ms P I J) where
  abbrev Walked : ModuleTree → Outside → Design → Design → Type 0
  Walked m out d e = PortsDiffer m × I m out d e

  -- what is known of the walk over an instance
  abbrev Good : Sub → ℕ → Type 0
  Good sub room = nat_lt 0 room ≡ true → (above : List (List ℕ)) (m : ModuleTree) (path : Path) (out : Outside) (d : Design) → (PortsDiffer m → P m out d)
      → HoldsOk (Walked m out d) (sub above m path out d)

  module _ (sub : Sub) (room : ℕ) (good : Good sub room) (above : List (List ℕ)) (path : Path) (own : ModuleTree) (out : Outside) (d : Design) (ds : List Declared) where
    instance_holds : (p : ℕ) (m : Identifier) (v : Option ConnectionsTree) (i : Identifier) (c : Option ConnectionsTree) (s : State) → J own out d ds s
        → HoldsOk (J own out d ds) (instance_item sub room ms above path p m v i c s)
    instance_holds p m v i c s h =
        holds_next_so (J own out d ds) (ended (module_there m room above s.design (find_module m.name ms.list))) (λ inner.
        next (ended (instance_checked p v i c s inner)) (λ x.
        next (sub (m.name ∷ above) inner (below path i.name) (record { given = x.0; scope = s.scope; joints = x.1.list }) s.design) (λ e.
        Ok (with_child i.name (length s.design.nodes) x.1.driven s e))))
        (λ inner is. holds_next_so (J own out d ds) (ended (instance_checked p v i c s inner)) (λ x.
        next (sub (m.name ∷ above) inner (below path i.name) (record { given = x.0; scope = s.scope; joints = x.1.list }) s.design) (λ e.
        Ok (with_child i.name (length s.design.nodes) x.1.driven s e)))
        (λ x checks. holds_next (Walked inner (outside_of s x) s.design) (J own out d ds)
        (sub (m.name ∷ above) inner (below path i.name) (record { given = x.0; scope = s.scope; joints = x.1.list }) s.design)
        (λ e. Ok (with_child i.name (length s.design.nodes) x.1.driven s e))
        (good (room_there m room above s.design (find_module m.name ms.list) inner is) (m.name ∷ above) inner (below path i.name) (outside_of s x) s.design
        (λ apart. steps.given own out d ds p v i c s inner x h
        (module_found m.name ms.list inner (module_is m room above s.design (find_module m.name ms.list) inner is)) (ended_sound (instance_checked p v i c s inner) x checks) apart))
        (λ e k. steps.inner own out d ds p v i c s inner x e h (ended_sound (instance_checked p v i c s inner) x checks) k.0 k.1)))

    plain_holds : (p : ℕ) (k : KindTree) (s : State) → Member (ItemAt p k) (items_in own) → J own out d ds s → HoldsOk (J own out d ds) (ended (plain_item (timing_of ms (module_name own).name) p k s))
    plain_holds p k s here h = holds_ended (J own out d ds) (plain_item (timing_of ms (module_name own).name) p k s) (steps.plain own out d ds p k s here h)

    item_holds : (i : ItemTree) (s : State) → Member i (items_in own) → J own out d ds s → HoldsOk (J own out d ds) (item (timing_of ms (module_name own).name) sub room ms above path i s)
    item_holds (ItemAt p (Instance m v i c)) s here h = instance_holds p m v i c s h
    item_holds (ItemAt p (Nets r ns)) s here h = plain_holds p (Nets r ns) s here h
    item_holds (ItemAt p (Registers r rs)) s here h = plain_holds p (Registers r rs) s here h
    item_holds (ItemAt p (Drivers xs)) s here h = plain_holds p (Drivers xs) s here h
    item_holds (ItemAt p (Always c b)) s here h = plain_holds p (Always c b) s here h
    item_holds (ItemAt p (Initial b)) s here h = plain_holds p (Initial b) s here h
    item_holds (ItemAt p (Ports q is)) s here h = plain_holds p (Ports q is) s here h
    item_holds (ItemAt p (Integers is)) s here h = plain_holds p (Integers is) s here h
    item_holds (ItemAt p (Parameters k r ps)) s here h = plain_holds p (Parameters k r ps) s here h

    items_hold : (is : List ItemTree) (s : State) → ((i : ItemTree) → Member i is → Member i (items_in own)) → J own out d ds s → HoldsOk (J own out d ds) (items (timing_of ms (module_name own).name) sub room ms above path is s)
    items_hold [] s among h = h
    items_hold (i ∷ is) s among h =
        holds_next (J own out d ds) (J own out d ds) (item (timing_of ms (module_name own).name) sub room ms above path i s) (items (timing_of ms (module_name own).name) sub room ms above path is) (item_holds i s (among i (inl refl)) h) (λ t k. items_hold is t (λ j m. among j (inr m)) k)

  instance_walk : (sub : Sub) (room : ℕ) → Good sub room → (above : List (List ℕ)) (m : ModuleTree) (path : Path) (out : Outside) (d : Design) → (PortsDiffer m → P m out d)
      → HoldsOk (Walked m out d) (instance sub room ms above m path out d)
  instance_walk sub room good above m path out d h =
      holds_next_so (Walked m out d) (parameters (parameters_of m) out.given (later (all_names m)) []) (λ constants.
      next (declarations (place_of m constants d) m) (λ ds.
      walk_items sub room ms above m path out d (scope_of constants d (in_order (ports_of m) ds)) (in_order (ports_of m) ds)))
      (λ constants e. holds_next_so (Walked m out d) (declarations (place_of m constants d) m) (λ ds.
      walk_items sub room ms above m path out d (scope_of constants d (in_order (ports_of m) ds)) (in_order (ports_of m) ds))
      (λ ds is. holds_next (J m out d (in_order (ports_of m) ds)) (Walked m out d)
      (items (timing_of ms (module_name m).name) sub room ms above path (items_in m) (opening m path out d (scope_of constants d (in_order (ports_of m) ds)) (in_order (ports_of m) ds)))
      (λ t. Ok (closed path (length d.nodes) t))
      (items_hold sub room good above path m out d (in_order (ports_of m) ds) (items_in m) (opening m path out d (scope_of constants d (in_order (ports_of m) ds)) (in_order (ports_of m) ds))
      (λ i here. here) (steps.opens m path out d constants ds (h (ports_apart (place_of m constants d) m ds is)) e is))
      (λ t k. (ports_apart (place_of m constants d) m ds is, steps.closes m path out d (in_order (ports_of m) ds) t k))))

  walk_holds : (room : ℕ) (above : List (List ℕ)) (m : ModuleTree) (path : Path) (out : Outside) (d : Design) → (PortsDiffer m → P m out d)
      → HoldsOk (Walked m out d) (walk ms room above m path out d)
  unfolding walk
  walk_holds zero above m path out d h = instance_walk (λ a n q o e. Ok e) 0 (λ t. cc) above m path out d h
  walk_holds (suc room) above m path out d h =
      instance_walk (walk ms room) (suc room) (λ t a n q o e k. walk_holds room a n q o e k) above m path out d h

  top_holds : (Q : Design → Type 0) → ((m : ModuleTree) → Member m ms.list → P m (record { given = []; scope = nothing; joints = [] }) no_design)
      → ((m : ModuleTree) (out : Outside) (e : Design) → I m out no_design e → Q e) → (top : Option ModuleTree) → ((m : ModuleTree) → top ≡ Some m → Member m ms.list) → HoldsOk Q (from_top ms top)
  top_holds Q begins ends None among = tt
  top_holds Q begins ends (Some m) among =
      holds_ok_of (Walked m (record { given = []; scope = nothing; joints = [] }) no_design) Q (walk ms 64 ((module_name m).name ∷ []) m ((module_name m).name ∷ []) (record { given = []; scope = nothing; joints = [] }) no_design)
      (walk_holds 64 ((module_name m).name ∷ []) m ((module_name m).name ∷ []) (record { given = []; scope = nothing; joints = [] }) no_design (λ apart. begins m (among m refl)))
      (λ e k. ends m (record { given = []; scope = nothing; joints = [] }) e k.1)
    where
      holds_ok_of : (A B : Design → Type 0) (r : Result Design Broken) → HoldsOk A r → ((e : Design) → A e → B e) → HoldsOk B r
      holds_ok_of A B (Ok e) h f = f e h
      holds_ok_of A B (Err b) h f = tt

  -- what follows of the design behind the top follows of the design of a text
  pub design_holds : (Q : Design → Type 0) → ((m : ModuleTree) → Member m ms.list → P m (record { given = []; scope = nothing; joints = [] }) no_design)
      → ((m : ModuleTree) (out : Outside) (e : Design) → I m out no_design e → Q e) → (top : Option (List ℕ)) → HoldsOk Q (flat_design ms top)
  design_holds Q begins ends top =
      holds_next_so Q (modules_checked [] ms.list) (λ u. from_top ms (top_of ms.list top)) (λ u e. top_holds Q begins ends (top_of ms.list top) (λ m f. top_member ms.list top m f))
