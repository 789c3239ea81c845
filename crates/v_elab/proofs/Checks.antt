-- What an instance is given from outside, checked.
use Rattle.std.proofs.Common.{◌≡◌, ◌+◌, ℕ, Bool, List, length, nat_le, Option, Result, Ok, Err, refl, sym, ap, ◌∙◌, subst}
use Rattle.v_syntax.specs.SourceTrees.{ModuleTree}
use Rattle.v_flat.specs.declared.scope.rule.Broken.{Broken}
use Rattle.v_flat.specs.declared.scope.rule.ElabRule.TheVariants as rule
use Rattle.v_flat.specs.declared.scope.found.Found.{Found}
use Rattle.v_flat.specs.Scope.Found.{HoldsOk, both, ended, wants}
use Rattle.v_flat.specs.Scope.Limits.{most_parts}
use Rattle.v_flat.specs.Scope.Scope.{Scope, means}
use Rattle.v_flat.specs.Declarations.{Given}
use Rattle.v_flat.specs.Headers.{Port, open_parameters, parameters_of, ports_of}
use Rattle.v_flat.specs.Targets.{Drive}
use Rattle.v_flat.specs.Design.{Joints, State, given_of, instance_checked, is_fresh, joint_count, joints_of}
use Rattle.v_header.specs.Given.Given.{FindsTheSame}
use Rattle.v_header.specs.Parameter.Given.{GiveTheSame}
use Rattle.v_process.specs.declared.drive.digits.DrivenDigits.{DrivenDigits}
use Rattle.v_process.specs.Drive.Digits.{Keeps}
use Rattle.v_elab.specs.declared.connect.joint.Joints as code_joints
use Rattle.v_elab.specs.Connect.Joints.{AreFound, AreJoints}
use Rattle.v_elab.specs.States.{EndsAs}
use Rattle.v_elab.proofs.Ends.{same_count}
use Rattle.v_elab.specs.declared.outside.Outside.{Outside}
use Rattle.v_elab.proofs.BeginEnds.{ends_ok, ends_err}
use Rattle.v_elab.specs.declared.inner.Inner.{Inner}
use Rattle.v_elab.specs.declared.walked.Walked.{Walked}
use Rattle.v_elab.specs.Instances.{IsWalked}
use Rattle.v_elab.specs.Enters.{connections_in}
use Rattle.v_elab.specs.InnerSteps.{AreBothFound, AreGivenBoth, Checks, FoundAs, IsCheckedAs, IsRest}
use Rattle.v_elab.proofs.Founds.{AreJoined, both_as, ended_as, given_as, joints_as, wants_as}
use Rattle.v_elab.proofs.Fresh.{fresh_as}

pub both_found : (s : Scope) (i : Inner) (m : ModuleTree) (ps : List Port) (x : DrivenDigits) (f : Found (List Given)) (g : Found code_joints.Joints) (y : DrivenDigits)
    (r : Found (List Given × code_joints.Joints)) → FindsTheSame (given_of s (connections_in i.parameters) (open_parameters (parameters_of m))) f
    → ((ds : List Drive) → Keeps x ds → AreFound s ps (joints_of s (connections_in i.ports) ps ds) g y) → r ≡ both f g → AreBothFound s i m ps x r y
both_found s i m ps x f g y r h k e = subst (λ (z : Found (List Given × code_joints.Joints)). AreBothFound s i m ps x z y) (sym e) (λ ds d.
    both_as (λ (a b : List Given). GiveTheSame b a) (AreJoined s ps y) (given_of s (connections_in i.parameters) (open_parameters (parameters_of m))) f
    (joints_of s (connections_in i.ports) ps ds) g (given_as (given_of s (connections_in i.parameters) (open_parameters (parameters_of m))) f h)
    (joints_as s ps (joints_of s (connections_in i.ports) ps ds) g y (k ds d)))

-- ---- with what else is broken

abbrev Found2 : Type 0
Found2 = Found (List Given × code_joints.Joints)

module _ (i : Inner) (m : ModuleTree) (x : Walked) (ps : List Port) (n : ℕ) (is_fresh_here is_room : Bool) (f named whole : Found2) (driven : DrivenDigits)
    (r : Result (List Given × code_joints.Joints) Broken) (ports : ps ≡ ports_of m) (count : n ≡ joint_count (connections_in i.ports) ps)
    (room : is_room ≡ nat_le (length x.state.parts.processes + n) most_parts)
    (fresh : (s : State) → IsWalked s x → is_fresh_here ≡ is_fresh i.name.now.name s) (found : AreBothFound (means x.state.scope) i m ps x.state.driven f driven)
    (named_is : named ≡ wants is_fresh_here rule.DuplicateName i.name.now.at f) (whole_is : whole ≡ wants is_room rule.TooMany i.at named) (ended_is : r ≡ ended whole) where
  -- the definition's, by the tests of the code
  found_as : (s : State) → IsWalked s x → EndsAs (AreGivenBoth s.scope (ports_of m) driven) (ended (instance_checked i.at (connections_in i.parameters) i.name.now (connections_in i.ports) s m)) r
  found_as s h =
      subst (λ (z : Result (List Given × code_joints.Joints) Broken). EndsAs (AreGivenBoth s.scope (ports_of m) driven) (ended (instance_checked i.at (connections_in i.parameters) i.name.now (connections_in i.ports) s m)) z)
      (sym (ended_is ∙ ap (λ (z : Found2). ended z) (whole_is ∙ ap (λ (z : Found2). wants is_room rule.TooMany i.at z) named_is)))
      (subst (λ (b : Bool). EndsAs (AreGivenBoth s.scope (ports_of m) driven) (ended (wants b rule.TooMany i.at (wants (is_fresh i.name.now.name s) rule.DuplicateName i.name.now.at (asked s))))
      (ended (wants is_room rule.TooMany i.at (wants is_fresh_here rule.DuplicateName i.name.now.at f))))
      (room ∙ ap (λ (k : ℕ). nat_le (k + n) most_parts) (same_count s x.state h.is)
      ∙ ap (λ (k : ℕ). nat_le (length s.design.processes + k) most_parts) (count ∙ ap (λ (qs : List Port). joint_count (connections_in i.ports) qs) ports))
      (subst (λ (b : Bool). EndsAs (AreGivenBoth s.scope (ports_of m) driven) (ended (wants is_room rule.TooMany i.at (wants b rule.DuplicateName i.name.now.at (asked s))))
      (ended (wants is_room rule.TooMany i.at (wants is_fresh_here rule.DuplicateName i.name.now.at f)))) (fresh s h)
      (ended_as (AreGivenBoth s.scope (ports_of m) driven) (wants is_room rule.TooMany i.at (wants is_fresh_here rule.DuplicateName i.name.now.at (asked s)))
      (wants is_room rule.TooMany i.at (wants is_fresh_here rule.DuplicateName i.name.now.at f))
      (wants_as (AreGivenBoth s.scope (ports_of m) driven) is_room rule.TooMany i.at (wants is_fresh_here rule.DuplicateName i.name.now.at (asked s))
      (wants is_fresh_here rule.DuplicateName i.name.now.at f)
      (wants_as (AreGivenBoth s.scope (ports_of m) driven) is_fresh_here rule.DuplicateName i.name.now.at (asked s) f (here s h))))))
    where
      asked : State → Found (List Given × Joints)
      asked s = both (given_of s.scope (connections_in i.parameters) (open_parameters (parameters_of m))) (joints_of s.scope (connections_in i.ports) (ports_of m) s.driven)

      here : (s : State) → IsWalked s x → FoundAs (AreGivenBoth s.scope (ports_of m) driven) (asked s) f
      here s h =
          subst (λ (qs : List Port). FoundAs (AreGivenBoth s.scope qs driven) (both (given_of s.scope (connections_in i.parameters) (open_parameters (parameters_of m))) (joints_of s.scope (connections_in i.ports) qs s.driven)) f) ports
          (subst (λ (c : Scope). FoundAs (AreGivenBoth c ps driven) (both (given_of c (connections_in i.parameters) (open_parameters (parameters_of m))) (joints_of c (connections_in i.ports) ps s.driven)) f) h.is.goes_on.scope
          (found s.driven h.is.goes_on.driven))

  pub checks_ok : (g : List Given) (js : code_joints.Joints) (o : Outside) (y : Walked) → r ≡ Ok (g, js) → o.given ≡ g → o.joints ≡ js → IsRest x y → y.state.driven ≡ driven
      → Checks i m x (Ok (o, y))
  checks_ok g js o y e given joints rest same = record {
    is = λ s h.
        let z = ends_ok (AreGivenBoth s.scope (ports_of m) driven) (ended (instance_checked i.at (connections_in i.parameters) i.name.now (connections_in i.ports) s m)) r (g, js) (found_as s h) e in
        subst (λ (q : Result (List Given × Joints) Broken). EndsAs (IsCheckedAs s m) q (let w : Result (Outside × Walked) Broken = Ok (o, y) in w)) (sym z.1.0) (record {
          given = subst (λ (k : List Given). GiveTheSame k z.0.0) (sym given) z.1.1.0;
          joints = subst (λ (k : code_joints.Joints). AreJoints s.scope (ports_of m) z.0.1.list k.list.items) (sym joints) z.1.1.1.0;
          driven = subst (λ (k : DrivenDigits). Keeps k z.0.1.driven) (sym same) z.1.1.1.1;
        });
    rest = rest;
  }

  pub checks_broken : (b : Broken) → r ≡ Err b → Checks i m x (Err b)
  checks_broken b e = record {
    is = λ s h.
        subst (λ (q : Result (List Given × Joints) Broken). EndsAs (IsCheckedAs s m) q (let w : Result (Outside × Walked) Broken = Err b in w))
        (sym (ends_err (AreGivenBoth s.scope (ports_of m) driven) (ended (instance_checked i.at (connections_in i.parameters) i.name.now (connections_in i.ports) s m)) r b (found_as s h) e)) refl;
    rest = tt;
  }
