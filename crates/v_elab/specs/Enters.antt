-- A means of proof: what an instance among the items of a module is (IEEE 1364-2005, clause 12.1.2), before and behind all that stands
-- below it, for the proofs of elaboration.
use Rattle.std.specs.Prelude.{◌≡◌, ◌<◌, ℕ, List, [], ◌∷◌, ◌++◌, Option, option_map, length, Result, Ok, bytes_eq}
use Rattle.std.specs.Borrow.{Bor}
use Rattle.std.specs.List.{list_any}
use Rattle.name_table.specs.Places.{first_place, noted}
use Rattle.gpi.specs.declared.design.Spot.TheVariants as spot
use Rattle.v_syntax.specs.declared.item.Connections.{Connections}
use Rattle.v_syntax.specs.SourceTrees.{ConnectionsTree, ModuleTree, view_connections, view_module}
use Rattle.v_flat.specs.declared.scope.rule.Broken.{Broken}
use Rattle.v_flat.specs.Scope.Found.{HoldsOk, ended, next}
use Rattle.v_header.specs.Names.{texts}
use Rattle.v_flat.specs.Declarations.{Given}
use Rattle.v_flat.specs.Headers.{ports_of}
use Rattle.v_flat.specs.Paths.{Path, below}
use Rattle.v_flat.specs.Design.{Joints, Modules, State, find_module, instance_checked, module_there}
use Rattle.v_header.specs.Parameter.Given.{GiveTheSame}
use Rattle.v_process.specs.Drive.Digits.{Keeps}
use Rattle.v_elab.specs.Connect.Joints.{AreJoints}
use Rattle.v_layout.specs.declared.build.parts.Parts.{Parts}
use Rattle.v_layout.specs.Texts.{HasText}
use Rattle.v_elab.specs.States.{EndsAs}
use Rattle.v_header.specs.Top.Found.{modules_of}
use Rattle.v_elab.specs.declared.level.Level.{Level}
use Rattle.v_elab.specs.declared.inner.Inner.{Inner}
use Rattle.v_elab.specs.declared.waiting.Waiting.{Waiting}
use Rattle.v_elab.specs.declared.waiting.Entered.{Entered}
use Rattle.v_elab.specs.declared.walked.Walked.{Walked}
use Rattle.v_elab.specs.Instances.{IsWalked}

-- the connections that the code refers to
abbrev pub connections_in : Option (Bor Connections) → Option ConnectionsTree
connections_in c = option_map (λ (x : Bor Connections). view_connections x.now) c

-- the same names stand in both
abbrev pub HaveTheSame : List (List ℕ) → List (List ℕ) → Type 0
HaveTheSame xs ys = (n : List ℕ) → list_any (bytes_eq n) xs ≡ list_any (bytes_eq n) ys

-- what the definition finds before the subtree: the module, the values of parameters, and the joints
abbrev pub entered : ℕ → Modules → List (List ℕ) → Inner → State → Result (ModuleTree × (List Given × Joints)) Broken
entered room ms above i s =
    next (ended (module_there i.module.now room above s.design (find_module i.module.now.name ms.list))) (λ m.
    next (ended (instance_checked i.at (connections_in i.parameters) i.name.now (connections_in i.ports) s m)) (λ x. Ok (m, x)))

-- e is that, in the state s of the instance at this path
pub record IsEntered (i : Inner) (s : State) (path : Path) (above : List (List ℕ)) (x : ModuleTree × (List Given × Joints)) (e : Entered) : Type 0 where
  pub module_is : x.0 ≡ view_module e.module.now
  pub path_is : HasText (below path i.name.now.name) e.path.items
  pub above_is : HaveTheSame (i.module.now.name ∷ above) (texts e.above.items)
  pub given : GiveTheSame e.outside.given x.1.0
  pub joints : AreJoints s.scope (ports_of x.0) x.1.1.list e.outside.joints.list.items
  pub driven : Keeps e.waiting.driven x.1.1.driven

-- there is room for a level more; and what waits is the rest of x
pub record Waits (room : ℕ) (x : Walked) (e : Entered) : Type 0 where
  pub room_is : 0 < room
  pub scope : e.waiting.scope ≡ x.state.scope
  pub parts : e.parts ≡ x.state.parts
  pub children : e.waiting.children ≡ x.state.children
  pub instances : e.waiting.instances ≡ x.instances
  pub node : e.waiting.node ≡ length x.state.parts.nodes.items

pub record Enters (l : Level) (i : Inner) (x : Walked) (r : Result Entered Broken) : Type 0 where
  pub is : (s : State) (path : Path) (above : List (List ℕ)) → IsWalked s x → HasText path l.path.now → HaveTheSame above (texts l.above.now)
      → EndsAs (IsEntered i s path above) (entered l.room (modules_of l.modules.now) above i s) r
  pub waits : HoldsOk (Waits l.room x) r

-- z is what waited, behind an instance of this name; y is built so far
pub record Leaves (name : List ℕ) (w : Waiting) (y : Parts) (z : Walked) : Type 0 where
  pub scope : z.state.scope ≡ w.scope
  pub parts : z.state.parts ≡ y
  pub driven : z.state.driven ≡ w.driven
  pub children : z.state.children ≡ w.children ++ ((name, spot.Inner w.node) ∷ [])
  pub instances : (n : List ℕ) → first_place z.instances n ≡ noted name 0 (first_place w.instances) n
