-- A means of proof: what it means that an instance was walked (IEEE 1364-2005, clause 12.1), for the proofs of elaboration.
use Rattle.std.specs.Prelude.{◌≡◌, ◌≤◌, ℕ, List, length, Result}
use Rattle.v_syntax.specs.SourceTrees.{ModuleTree}
use Rattle.v_flat.specs.declared.scope.rule.Broken.{Broken}
use Rattle.v_flat.specs.Scope.Found.{HoldsOk}
use Rattle.v_flat.specs.Scope.Limits.{most_parts}
use Rattle.v_header.specs.Names.{texts}
use Rattle.v_flat.specs.Headers.{module_name, ports_of}
use Rattle.v_flat.specs.Paths.{Path}
use Rattle.v_flat.specs.Design.{Design, Outside, timing_of, walk}
use Rattle.v_layout.specs.declared.build.parts.Parts.{Parts}
use Rattle.v_layout.specs.Build.Parts.{Grows, IsSoFar}
use Rattle.v_layout.specs.Texts.{HasText}
use Rattle.v_elab.specs.States.{EndsAs}
use Rattle.v_header.specs.Top.Found.{modules_of}
use Rattle.v_elab.specs.declared.outside.Outside as code
use Rattle.v_elab.specs.Begins.{IsOutside}
use Rattle.v_elab.specs.declared.level.Level.{Level}
use Rattle.v_elab.specs.Enters.{HaveTheSame}

-- y has what was built before, maybe more signals behind it, and no more than a design may have
pub record IsMore (x y : Parts) : Type 0 where
  pub grows : Grows x y
  pub few : length y.signals ≤ most_parts

-- r is what is built behind the instance of m that stands here and all below it, where x was built before; or the rule that is broken first
pub record Walks (l : Level) (m : ModuleTree) (c : code.Outside) (x : Parts) (r : Result Parts Broken) : Type 0 where
  pub is : (above : List (List ℕ)) (path : Path) (out : Outside) (d : Design) → HaveTheSame above (texts l.above.now) → HasText path l.path.now
      → l.timing ≡ timing_of (modules_of l.modules.now) (module_name m).name → IsOutside (ports_of m) x out c → IsSoFar d x → EndsAs IsSoFar (walk (modules_of l.modules.now) l.room above m path out d) r
  pub more : HoldsOk (IsMore x) r
