-- A means of proof: the items of an instance, one after the other.
use Rattle.std.specs.Prelude.{◌≡◌, ℕ, zero, suc, List, Option, None, Some, Result, Ok}
use Rattle.v_syntax.specs.declared.statement.Identifier.{Identifier}
use Rattle.v_syntax.specs.SourceTrees.{ConnectionsTree, KindTree, Instance, ItemAt, ItemTree}
use Rattle.v_flat.specs.declared.scope.rule.Broken.{Broken}
use Rattle.v_flat.specs.Scope.Found.{HoldsOk, ended}
use Rattle.v_header.specs.Names.{texts}
use Rattle.v_flat.specs.Paths.{Path}
use Rattle.v_flat.specs.Design.{Modules, State, Sub, item, items, plain_item, walk}
use Rattle.v_layout.specs.declared.build.parts.Parts.{Parts}
use Rattle.v_layout.specs.Build.Parts.{Grows}
use Rattle.v_layout.specs.Texts.{HasText}
use Rattle.v_elab.specs.States.{EndsAs, IsReady}
use Rattle.v_header.specs.Top.Found.{modules_of}
use Rattle.v_elab.specs.declared.inner.Inner.{Inner}
use Rattle.v_elab.specs.declared.level.Level.{Level}
use Rattle.v_elab.specs.declared.walked.Walked.{Walked}
use Rattle.v_elab.specs.Instances.{IsWalked}
use Rattle.v_elab.specs.Enters.{HaveTheSame, connections_in}

-- the walk over an instance one level further down
abbrev pub walk_below : Modules → ℕ → Sub
walk_below ms zero = λ a n q o e. Ok e
walk_below ms (suc room) = walk ms room

-- items can be walked in y, and it has what was built before, maybe more behind it
pub record GoesOn (x y : Walked) : Type 0 where
  pub ready : IsReady y.state
  pub grows : Grows x.state.parts y.state.parts

-- r is the instance behind some items that the definition walks by f
pub record Passes (l : Level) (f : List (List ℕ) → Path → State → Result State Broken) (x : Walked) (r : Result Walked Broken) : Type 0 where
  pub is : (above : List (List ℕ)) (path : Path) (s : State) → HaveTheSame above (texts l.above.now) → HasText path l.path.now → IsWalked s x → EndsAs IsWalked (f above path s) r
  pub goes_on : HoldsOk (GoesOn x) r

abbrev pub over_item : Level → ItemTree → List (List ℕ) → Path → State → Result State Broken
over_item l i above path s = item l.timing (walk_below (modules_of l.modules.now) l.room) l.room (modules_of l.modules.now) above path i s

abbrev pub over_items : Level → List ItemTree → List (List ℕ) → Path → State → Result State Broken
over_items l is above path s = items l.timing (walk_below (modules_of l.modules.now) l.room) l.room (modules_of l.modules.now) above path is s

-- ---- which items are instances

-- the item is no instance
abbrev pub IsPlain : KindTree → Type 0
IsPlain (Instance m v i c) = ⊥
IsPlain k = Unit {0}

abbrev pub IsInner : ItemTree → Option Inner → Type 0
IsInner (ItemAt p k) None = IsPlain k
IsInner i (Some n) = i ≡ ItemAt n.at (Instance n.module.now (connections_in n.parameters) n.name.now (connections_in n.ports))
