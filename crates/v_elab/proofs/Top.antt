-- The parts of a whole design, from the top.
use Rattle.std.proofs.Common.{◌≡◌, ◌∙◌, ℕ, List, [], ◌∷◌, Option, Some, None, Result, Ok, Err, refl, sym, ap, subst}
use Rattle.std.specs.Borrow.{Bor}
use Rattle.gpi.specs.Design.{widths}
use Rattle.v_syntax.specs.declared.source.Module.{Module}
use Rattle.v_syntax.specs.SourceTrees.{ModuleTree, view_module}
use Rattle.v_flat.specs.declared.scope.rule.Broken.{Broken}
use Rattle.v_flat.specs.declared.scope.rule.ElabRule.TheVariants as rule
use Rattle.v_flat.specs.Scope.Found.{next}
use Rattle.v_flat.specs.Scope.Rules.{at}
use Rattle.v_flat.specs.Scope.Scope.{nothing}
use Rattle.v_header.specs.Names.{texts}
use Rattle.v_flat.specs.Declarations.{Given}
use Rattle.v_flat.specs.Headers.{Port, ports_of}
use Rattle.v_flat.specs.Design.{Design, Joint, Modules, Outside, flat_design, from_top, modules_checked, no_design, timing_of, top_of, walk}
use Rattle.v_header.specs.Parameter.Given.{find_given}
use Rattle.v_elab.specs.declared.connect.joint.Joint as code_joint
use Rattle.v_elab.specs.Connect.Joints.{AreJoints}
use Rattle.v_layout.specs.declared.build.parts.Parts.{Parts}
use Rattle.v_layout.specs.Build.Parts.{IsSoFar}
use Rattle.v_layout.specs.Texts.{HasText}
use Rattle.v_elab.specs.States.{EndsAs}
use Rattle.v_header.specs.Top.Found.{module_in, modules_of}
use Rattle.v_header.specs.Top.Modules.{ChecksModules}
use Rattle.v_elab.specs.declared.outside.Outside as code
use Rattle.v_elab.specs.Begins.{IsOutside}
use Rattle.v_elab.specs.declared.level.Level.{Level}
use Rattle.v_elab.specs.Enters.{HaveTheSame}
use Rattle.v_elab.specs.Walks.{Walks}
use Rattle.v_elab.specs.Steps.{IsDesign, IsFromTop}

abbrev nothing_given : Outside
nothing_given = record { given = []; scope = nothing; joints = [] }

is_nothing : (ps : List Port) (x : Parts) (c : code.Outside) → c.given ≡ [] → c.joints.list.items ≡ [] → IsOutside ps x nothing_given c
is_nothing ps x c given joints = record {
  given = λ n. ap (λ (gs : List Given). find_given n gs) given;
  joints = subst (λ (cs : List code_joint.Joint). AreJoints nothing ps [] cs) (sym joints) tt;
  around = λ more n. tt;
}

pub built_from : (ms : Modules) (top : Option (List ℕ)) (o : Option (Bor Module)) (m : Bor Module) (l : Level) (c : code.Outside) (x : Parts) (r : Result Parts Broken)
    → module_in o ≡ top_of ms.list top → o ≡ Some m → modules_of l.modules.now ≡ ms → texts l.above.now ≡ m.now.name.name ∷ [] → l.room ≡ 64 → l.path.now ≡ m.now.name.name → l.timing ≡ timing_of (modules_of l.modules.now) m.now.name.name
    → c.given ≡ [] → c.joints.list.items ≡ [] → IsSoFar no_design x → Walks l (view_module m.now) c x r → IsFromTop ms top r
built_from ms top o m l c x r found is modules above room path timed given joints so_far walks =
    subst (λ (q : Option ModuleTree). EndsAs IsSoFar (from_top ms q) r) (ap module_in (sym is) ∙ found)
    (subst (λ (ns : Modules). EndsAs IsSoFar (from_top ns (Some (view_module m.now))) r) modules
    (subst (λ (k : ℕ). EndsAs IsSoFar (walk (modules_of l.modules.now) k (name ∷ []) (view_module m.now) (name ∷ []) nothing_given no_design) r) room
    (walks.is (name ∷ []) (name ∷ []) nothing_given no_design (subst (λ (ns : List (List ℕ)). HaveTheSame (name ∷ []) ns) (sym above) (λ n. refl))
    (subst (λ (t : List ℕ). HasText (name ∷ []) t) (sym path) (record { named = λ e. cc; is = refl })) timed (is_nothing (ports_of (view_module m.now)) x c given joints) so_far)))
  where
    name : List ℕ
    name = m.now.name.name

pub no_top : (ms : Modules) (top : Option (List ℕ)) (o : Option (Bor Module)) → module_in o ≡ top_of ms.list top → o ≡ None → IsFromTop ms top (Err (at rule.NoTop 0))
no_top ms top o found is =
    subst (λ (q : Option ModuleTree). EndsAs IsSoFar (from_top ms q) (let r : Result Parts Broken = Err (at rule.NoTop 0) in r)) (ap module_in (sym is) ∙ found) refl

-- ---- the modules

pub named_once : (ms : Modules) (top : Option (List ℕ)) (q : Result (List (List ℕ × ℕ)) Broken) (numbers : List (List ℕ × ℕ)) (r : Result Parts Broken) → ChecksModules ms.list q
    → q ≡ Ok numbers → IsFromTop ms top r → IsDesign ms top r
named_once ms top q numbers r checks is h =
    let k : ChecksModules ms.list (Ok numbers) = subst (ChecksModules ms.list) is checks in
    subst (λ (z : Result (Unit {0}) Broken). EndsAs IsSoFar (next z (λ u. from_top ms (top_of ms.list top))) r) (sym k.0) h

pub named_twice : (ms : Modules) (top : Option (List ℕ)) (q : Result (List (List ℕ × ℕ)) Broken) (b : Broken) → ChecksModules ms.list q → q ≡ Err b → IsDesign ms top (Err b)
named_twice ms top q b checks is =
    let k : ChecksModules ms.list (Err b) = subst (ChecksModules ms.list) is checks in
    subst (λ (z : Result (Unit {0}) Broken). EndsAs IsSoFar (next z (λ u. from_top ms (top_of ms.list top))) (let r : Result Parts Broken = Err b in r)) (sym k) refl
