-- An item that is an instance.
use Rattle.std.proofs.Common.{◌≡◌, ◌<◌, ◌≤◌, ◌-◌, ◌∙◌, ℕ, List, [], ◌∷◌, length, Option, Some, Result, Ok, Err, refl, sym, ap, subst}
use Rattle.gpi.specs.Design.{widths}
use Rattle.v_syntax.specs.SourceTrees.{Instance, ItemAt, ItemTree, ModuleTree, view_module}
use Rattle.v_flat.specs.declared.scope.rule.Broken.{Broken}
use Rattle.v_flat.specs.Scope.Found.{HoldsOk, ended, next}
use Rattle.v_flat.specs.Scope.Limits.{most_parts}
use Rattle.v_flat.specs.Scope.Scope.{Scope, means}
use Rattle.v_header.specs.Names.{texts}
use Rattle.v_flat.specs.Declarations.{Given}
use Rattle.v_flat.specs.Headers.{ports_of}
use Rattle.v_flat.specs.Paths.{Path, below}
use Rattle.v_flat.specs.Design.{Design, Joints, Modules, Outside, State, Sub, find_module, instance_checked, instance_item, module_there, timing_of, walk, with_child}
use Rattle.v_elab.specs.Connect.Joints.{AreJoints}
use Rattle.v_layout.specs.declared.build.parts.Parts.{Parts}
use Rattle.v_layout.specs.Build.Parts.{Grows, IsSoFar}
use Rattle.v_layout.specs.Named.{StaySignals}
use Rattle.v_layout.specs.Texts.{HasText}
use Rattle.v_elab.specs.States.{EndsAs, IsReady}
use Rattle.v_header.specs.Top.Found.{modules_of}
use Rattle.v_elab.specs.Begins.{IsOutside}
use Rattle.v_elab.proofs.BeginEnds.{ends_broken, ends_next, of_ok}
use Rattle.v_elab.specs.declared.inner.Inner.{Inner}
use Rattle.v_elab.specs.declared.level.Level.{Level}
use Rattle.v_elab.specs.declared.waiting.Entered.{Entered}
use Rattle.v_elab.specs.declared.walked.Walked.{Walked}
use Rattle.v_elab.specs.Instances.{IsWalked}
use Rattle.v_elab.specs.Enters.{Enters, HaveTheSame, IsEntered, Leaves, Waits, connections_in, entered}
use Rattle.v_elab.proofs.Left.{left_is, left_ready}
use Rattle.v_elab.specs.WalkSteps.{GoesOn, IsInner, Passes, over_item, walk_below}
use Rattle.v_elab.specs.Walks.{IsMore, Walks}
use Rattle.v_elab.proofs.Chains.{next_next, next_same}
use Rattle.v_elab.proofs.Levels.{one_below}

abbrev Before : Type 0
Before = ModuleTree × (List Given × Joints)

abbrev outside_of : State → Before → Outside
outside_of s y = record { given = y.1.0; scope = s.scope; joints = y.1.1.list }

abbrev child_of : Inner → State → Before → Design → Result State Broken
child_of n s y d = Ok (with_child n.name.now.name (length s.design.nodes) y.1.1.driven s d)

module _ (sub : Sub) (room : ℕ) (ms : Modules) (above : List (List ℕ)) (path : Path) (n : Inner) (s : State) where
  abbrev behind : Before → Result State Broken
  behind y = next (sub (n.module.now.name ∷ above) y.0 (below path n.name.now.name) (outside_of s y) s.design) (child_of n s y)

  abbrev checked_in : ModuleTree → Result (List Given × Joints) Broken
  checked_in m = ended (instance_checked n.at (connections_in n.parameters) n.name.now (connections_in n.ports) s m)

  item_by : instance_item sub room ms above path n.at n.module.now (connections_in n.parameters) n.name.now (connections_in n.ports) s ≡ next (entered room ms above n s) behind
  item_by =
      sym (next_next (ended (module_there n.module.now room above s.design (find_module n.module.now.name ms.list))) (λ m. next (checked_in m) (λ x. (let r : Result Before Broken = Ok (m, x) in r))) behind
      ∙ next_same (ended (module_there n.module.now room above s.design (find_module n.module.now.name ms.list)))
      (λ m. next (next (checked_in m) (λ x. (let r : Result Before Broken = Ok (m, x) in r))) behind) (λ m. next (checked_in m) (λ x. behind (m, x)))
      (λ m. next_next (checked_in m) (λ x. (let r : Result Before Broken = Ok (m, x) in r)) behind))

abbrev item_of : Inner → ItemTree
item_of n = ItemAt n.at (Instance n.module.now (connections_in n.parameters) n.name.now (connections_in n.ports))

abbrev sub_of : Level → Sub
sub_of l = walk_below (modules_of l.modules.now) l.room

-- the level of the instance
pub record IsBelow (l b : Level) (e : Entered) : Type 0 where
  pub modules : modules_of b.modules.now ≡ modules_of l.modules.now
  pub above : texts b.above.now ≡ texts e.above.items
  pub room : b.room ≡ l.room - 1
  pub path : b.path.now ≡ e.path.items
  pub timing : b.timing ≡ timing_of (modules_of b.modules.now) e.module.now.name.name

module _ (l b : Level) (n : Inner) (x : Walked) (r : Result Entered Broken) (e : Entered) (q : Result Parts Broken) (ready : IsReady x.state) (enters : Enters l n x r) (is_entered : r ≡ Ok e)
    (is_below : IsBelow l b e) (walks : Walks b (view_module e.module.now) e.outside e.parts q) where
  waits : Waits l.room x e
  waits = of_ok (λ (z : Entered). Waits l.room x z) r e enters.waits is_entered

  -- the walk below is the definition's
  walked_below : (s : State) (path : Path) (above : List (List ℕ)) (y : Before) → IsWalked s x → IsEntered n s path above y e
      → EndsAs IsSoFar (sub_of l (n.module.now.name ∷ above) y.0 (below path n.name.now.name) (outside_of s y) s.design) q
  walked_below s path above y w i =
      subst (λ (f : Sub). EndsAs IsSoFar (f (n.module.now.name ∷ above) y.0 (below path n.name.now.name) (outside_of s y) s.design) q)
      (ap (λ (k : ℕ). walk (modules_of b.modules.now) k) is_below.room ∙ ap (λ (ms : Modules). walk ms (l.room - 1)) is_below.modules ∙ sym (one_below (modules_of l.modules.now) l.room waits.room_is))
      (subst (λ (m : ModuleTree). EndsAs IsSoFar (walk (modules_of b.modules.now) b.room (n.module.now.name ∷ above) m (below path n.name.now.name) (outside_of s y) s.design) q) (sym i.module_is)
      (walks.is (n.module.now.name ∷ above) (below path n.name.now.name) (outside_of s y) s.design
      (subst (λ (ns : List (List ℕ)). HaveTheSame (n.module.now.name ∷ above) ns) (sym is_below.above) i.above_is)
      (subst (λ (t : List ℕ). HasText (below path n.name.now.name) t) (sym is_below.path) i.path_is) is_below.timing
      (record {
        given = i.given;
        joints = subst (λ (m : ModuleTree). AreJoints s.scope (ports_of m) y.1.1.list e.outside.joints.list.items) i.module_is i.joints;
        around = subst (λ (p : Parts). StaySignals s.scope (widths p.signals)) (sym waits.parts)
            (subst (λ (c : Scope). StaySignals c (widths x.state.parts.signals)) w.is.goes_on.scope ready.signals);
      })
      (subst (λ (p : Parts). IsSoFar s.design p) (sym waits.parts) w.is.parts)))

  pub inner_passed : (it : ItemTree) (p : Parts) (z : Walked) → it ≡ item_of n → q ≡ Ok p → Leaves n.name.now.name e.waiting p z → Passes l (over_item l it) x (Ok z)
  inner_passed it p z is_item built leaves = subst (λ (i : ItemTree). Passes l (over_item l i) x (Ok z)) (sym is_item) (record {
    is = λ above path s same t w.
        subst (λ (k : Result State Broken). EndsAs IsWalked k (let v : Result Walked Broken = Ok z in v)) (sym (item_by (sub_of l) l.room (modules_of l.modules.now) above path n s))
        (ends_next (IsEntered n s path above) IsWalked (entered l.room (modules_of l.modules.now) above n s) (behind (sub_of l) l.room (modules_of l.modules.now) above path n s) r e
        (let v : Result Walked Broken = Ok z in v) (enters.is s path above w t same) is_entered (λ y k i.
        ends_next IsSoFar IsWalked (sub_of l (n.module.now.name ∷ above) y.0 (below path n.name.now.name) (outside_of s y) s.design) (child_of n s y) q p
        (let v : Result Walked Broken = Ok z in v) (walked_below s path above y w i) built
        (λ d j so_far. left_is s l.room x e n.name.now.name y.1.1.driven p z d w waits i.driven leaves so_far)));
    goes_on =
        let m : IsMore e.parts p = of_ok (IsMore e.parts) q p walks.more built in
        let k = left_ready l.room x e n.name.now.name p z ready waits m.grows m.few leaves in
        record { ready = k.0; grows = k.1 };
  })

  pub inner_broken : (it : ItemTree) (f : Broken) → it ≡ item_of n → q ≡ Err f → Passes l (over_item l it) x (Err f)
  inner_broken it f is_item broken = subst (λ (i : ItemTree). Passes l (over_item l i) x (Err f)) (sym is_item) (record {
    is = λ above path s same t w.
        subst (λ (k : Result State Broken). EndsAs IsWalked k (let v : Result Walked Broken = Err f in v)) (sym (item_by (sub_of l) l.room (modules_of l.modules.now) above path n s))
        (ends_next (IsEntered n s path above) IsWalked (entered l.room (modules_of l.modules.now) above n s) (behind (sub_of l) l.room (modules_of l.modules.now) above path n s) r e
        (let v : Result Walked Broken = Err f in v) (enters.is s path above w t same) is_entered (λ y k i.
        ends_broken IsSoFar IsWalked (sub_of l (n.module.now.name ∷ above) y.0 (below path n.name.now.name) (outside_of s y) s.design) (child_of n s y) q f
        (let v : Result Walked Broken = Err f in v) (walked_below s path above y w i) broken refl));
    goes_on = tt;
  })

-- what is entered fits the walk
pub few_below : (l : Level) (n : Inner) (x : Walked) (r : Result Entered Broken) (e : Entered) → IsReady x.state → Enters l n x r → r ≡ Ok e → length e.parts.signals ≤ most_parts
few_below l n x r e ready enters is =
    let w : Waits l.room x e = of_ok (λ (z : Entered). Waits l.room x z) r e enters.waits is in
    subst (λ (p : Parts). length p.signals ≤ most_parts) (sym w.parts) ready.few

pub some_below : (l : Level) (n : Inner) (x : Walked) (r : Result Entered Broken) (e : Entered) → Enters l n x r → r ≡ Ok e → 0 < l.room
some_below l n x r e enters is = (of_ok (λ (z : Entered). Waits l.room x z) r e enters.waits is).room_is

pub not_entered : (l : Level) (n : Inner) (x : Walked) (r : Result Entered Broken) (it : ItemTree) (f : Broken) → Enters l n x r → it ≡ item_of n → r ≡ Err f → Passes l (over_item l it) x (Err f)
not_entered l n x r it f enters is_item broken = subst (λ (i : ItemTree). Passes l (over_item l i) x (Err f)) (sym is_item) (record {
  is = λ above path s same t w.
      subst (λ (k : Result State Broken). EndsAs IsWalked k (let v : Result Walked Broken = Err f in v)) (sym (item_by (sub_of l) l.room (modules_of l.modules.now) above path n s))
      (ends_broken (IsEntered n s path above) IsWalked (entered l.room (modules_of l.modules.now) above n s) (behind (sub_of l) l.room (modules_of l.modules.now) above path n s) r f
      (let v : Result Walked Broken = Err f in v) (enters.is s path above w t same) broken refl);
  goes_on = tt;
})
