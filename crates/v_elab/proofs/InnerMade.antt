-- An instance with its path, its module and what it is given.
use Rattle.std.proofs.Common.{◌≡◌, ◌<◌, ◌||◌, ℕ, Bool, true, false, List, [], ◌∷◌, ◌++◌, length, bytes_eq, Result, Ok, Err, refl, sym, ap, ◌∙◌, subst}
use Rattle.std.specs.Borrow.{Bor}
use Rattle.std.specs.List.{list_any}
use Rattle.std.proofs.lemmas.List.{length-map}
use Rattle.std.proofs.lemmas.List.Folds.{list_any-append}
use Rattle.v_syntax.specs.declared.source.Module.{Module}
use Rattle.v_syntax.specs.SourceTrees.{ModuleTree, view_module}
use Rattle.v_flat.specs.declared.scope.rule.Broken.{Broken}
use Rattle.v_flat.specs.Scope.Found.{HoldsOk, ended, next}
use Rattle.v_flat.specs.Scope.Limits.{most_parts}
use Rattle.v_header.specs.Names.{texts}
use Rattle.v_flat.specs.Declarations.{Given}
use Rattle.v_flat.specs.Headers.{ports_of}
use Rattle.v_flat.specs.Paths.{Path, node_of}
use Rattle.v_flat.specs.Design.{Joints, State, find_module, instance_checked, module_there}
use Rattle.v_header.specs.Parameter.Given.{GiveTheSame}
use Rattle.v_process.specs.declared.drive.digits.DrivenDigits.{DrivenDigits}
use Rattle.v_process.specs.Drive.Digits.{Keeps}
use Rattle.v_elab.specs.Connect.Joints.{AreJoints}
use Rattle.v_layout.specs.declared.build.parts.Parts.{Parts}
use Rattle.v_layout.specs.Texts.{HasText}
use Rattle.v_elab.specs.States.{EndsAs}
use Rattle.v_header.specs.Top.Found.{modules_of}
use Rattle.v_elab.specs.declared.outside.Outside.{Outside}
use Rattle.v_elab.proofs.BeginEnds.{ends_broken, ends_err, ends_next, of_ok}
use Rattle.v_elab.specs.declared.inner.Inner.{Inner}
use Rattle.v_elab.specs.declared.level.Level.{Level}
use Rattle.v_elab.specs.declared.waiting.Entered.{Entered}
use Rattle.v_elab.specs.declared.waiting.Waiting.{Waiting}
use Rattle.v_elab.specs.declared.walked.Walked.{Walked}
use Rattle.v_elab.specs.Instances.{IsWalked}
use Rattle.v_elab.specs.Enters.{Enters, HaveTheSame, IsEntered, Leaves, Waits, connections_in, entered}
use Rattle.v_elab.specs.InnerSteps.{Checks, IsCheckedAs, IsMade, IsModule, IsRest, IsThere, Notes, walked_with}

-- ---- one module more above

swapped : (a b : Bool) → (a || (b || false)) ≡ (b || a)
swapped true true = refl
swapped true false = refl
swapped false true = refl
swapped false false = refl

one_above : (above names more : List (List ℕ)) (m : List ℕ) → HaveTheSame above names → more ≡ names ++ (m ∷ []) → HaveTheSame (m ∷ above) more
one_above above names more m h e = λ n.
    sym (ap (λ (ns : List (List ℕ)). list_any (bytes_eq n) ns) e ∙ list_any-append (bytes_eq n) names (m ∷ []) ∙ swapped (list_any (bytes_eq n) names) (bytes_eq n m)
    ∙ ap (λ (b : Bool). bytes_eq n m || b) (sym (h n)))

many_nodes : (s : State) (x : Walked) → IsWalked s x → length s.design.nodes ≡ length x.state.parts.nodes.items
many_nodes s x h = sym (ap length h.is.parts.nodes ∙ length-map s.design.nodes node_of)

module _ (l : Level) (i : Inner) (x : Walked) where
  abbrev given_there : State → ModuleTree → Result (List Given × Joints) Broken
  given_there s m = ended (instance_checked i.at (connections_in i.parameters) i.name.now (connections_in i.ports) s m)

  abbrev module_in : State → List (List ℕ) → Result ModuleTree Broken
  module_in s above = ended (module_there i.module.now l.room above s.design (find_module i.module.now.name (modules_of l.modules.now).list))

  abbrev Whole : Type 0
  Whole = Result (ModuleTree × (List Given × Joints)) Broken

  pub enters_ok : (r : Result (Bor Module) Broken) (b : Bor Module) (q : Result (Outside × Walked) Broken) (o : Outside) (y : Walked) (e : Entered)
      → IsThere i.module.now l.room (modules_of l.modules.now) (texts l.above.now) (length x.state.parts.nodes.items) r → r ≡ Ok b → Checks i (view_module b.now) x q → q ≡ Ok (o, y)
      → IsMade l i (view_module b.now) o y e → Enters l i x (Ok e)
  enters_ok r b q o y e there there_is checks checks_is made = record {
    is = λ s path above h t same.
        ends_next IsModule (IsEntered i s path above) (module_in s above) (λ m. next (given_there s m) (λ z. (let w : Whole = Ok (m, z) in w))) r b (let w : Result Entered Broken = Ok e in w)
        (there.is above s.design same (many_nodes s x h)) there_is
        (λ m k is. ends_next (IsCheckedAs s m) (IsEntered i s path above) (given_there s m) (λ z. (let w : Whole = Ok (m, z) in w)) q (o, y) (let w : Result Entered Broken = Ok e in w)
        (subst (λ (n : ModuleTree). EndsAs (IsCheckedAs s n) (given_there s n) q) (sym is) (checks.is s h)) checks_is
        (λ z j given. record {
          module_is = is ∙ sym made.module_is;
          path_is = made.path_is path t;
          above_is = one_above above (texts l.above.now) (texts e.above.items) i.module.now.name same
              (made.above_is ∙ ap (λ (n : List ℕ). texts l.above.now ++ (n ∷ [])) (of_ok (λ (m : Bor Module). m.now.name.name ≡ i.module.now.name) r b there.name_is there_is));
          given = subst (λ (p : Outside). GiveTheSame p.given z.0) (sym made.outside) given.given;
          joints = subst (λ (p : Outside). AreJoints s.scope (ports_of m) z.1.list p.joints.list.items) (sym made.outside) given.joints;
          driven = subst (λ (d : DrivenDigits). Keeps d z.1.driven) (sym made.driven) given.driven;
        }));
    waits =
        let rest : IsRest x y = of_ok (λ (z : Outside × Walked). IsRest x z.1) q (o, y) checks.rest checks_is in
        record {
          room_is = (of_ok (λ (m : Bor Module). (0 < l.room) × (length x.state.parts.nodes.items < most_parts)) r b there.room_is there_is).0;
          scope = made.scope ∙ rest.scope;
          parts = made.parts ∙ rest.parts;
          children = made.children ∙ rest.children;
          instances = made.instances ∙ rest.instances;
          node = made.node ∙ ap (λ p. length p.nodes.items) rest.parts;
        };
  }

  pub unchecked : (r : Result (Bor Module) Broken) (b : Bor Module) (q : Result (Outside × Walked) Broken) (f : Broken)
      → IsThere i.module.now l.room (modules_of l.modules.now) (texts l.above.now) (length x.state.parts.nodes.items) r → r ≡ Ok b → Checks i (view_module b.now) x q → q ≡ Err f
      → Enters l i x (Err f)
  unchecked r b q f there there_is checks checks_is = record {
    is = λ s path above h t same.
        ends_next IsModule (IsEntered i s path above) (module_in s above) (λ m. next (given_there s m) (λ z. (let w : Whole = Ok (m, z) in w))) r b (let w : Result Entered Broken = Err f in w)
        (there.is above s.design same (many_nodes s x h)) there_is
        (λ m k is. ends_broken (IsCheckedAs s m) (IsEntered i s path above) (given_there s m) (λ z. (let w : Whole = Ok (m, z) in w)) q f (let w : Result Entered Broken = Err f in w)
        (subst (λ (n : ModuleTree). EndsAs (IsCheckedAs s n) (given_there s n) q) (sym is) (checks.is s h)) checks_is refl);
    waits = tt;
  }

  pub not_there : (r : Result (Bor Module) Broken) (f : Broken) → IsThere i.module.now l.room (modules_of l.modules.now) (texts l.above.now) (length x.state.parts.nodes.items) r → r ≡ Err f
      → Enters l i x (Err f)
  not_there r f there there_is = record {
    is = λ s path above h t same.
        ends_broken IsModule (IsEntered i s path above) (module_in s above) (λ m. next (given_there s m) (λ z. (let w : Whole = Ok (m, z) in w))) r f (let w : Result Entered Broken = Err f in w)
        (there.is above s.design same (many_nodes s x h)) there_is refl;
    waits = tt;
  }

-- ---- behind it

pub leaves_all : (name : List ℕ) (w v : Waiting) (y : Parts) → Notes name w v → Leaves name w y (walked_with v y)
leaves_all name w v y h = record { scope = h.scope; parts = refl; driven = h.driven; children = h.children; instances = h.instances }
