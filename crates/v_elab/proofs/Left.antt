-- An instance behind one inside it.
use Rattle.std.proofs.Common.{◌≡◌, ◌≤◌, ℕ, List, [], ◌∷◌, ◌++◌, length, map, refl, sym, ap, ◌∙◌, subst}
use Rattle.std.proofs.lemmas.List.{length-map}
use Rattle.gpi.specs.Design.{widths}
use Rattle.gpi.specs.declared.design.Spot.{Spot}
use Rattle.gpi.specs.declared.design.Spot.TheVariants as spot
use Rattle.v_flat.specs.Scope.Limits.{most_parts}
use Rattle.v_flat.specs.Scope.Scope.{Scope, means}
use Rattle.v_flat.specs.declared.scope.meaning.Meaning.{Meaning}
use Rattle.v_flat.specs.Targets.{Drive}
use Rattle.v_flat.specs.Paths.{node_of, signal_of}
use Rattle.v_flat.specs.Design.{Design, State, with_child}
use Rattle.v_check.specs.Names.Proper.{AreProper}
use Rattle.v_process.specs.declared.drive.digits.DrivenDigits.{DrivenDigits}
use Rattle.v_process.specs.Drive.Digits.{Keeps}
use Rattle.name_table.specs.Places.{first_place, noted}
use Rattle.v_layout.specs.declared.build.parts.Parts.{Parts}
use Rattle.v_layout.specs.Build.Parts.{Grows, IsSoFar}
use Rattle.v_layout.specs.Named.{StaySignals}
use Rattle.v_elab.specs.States.{IsReady}
use Rattle.v_elab.proofs.Grown.{grown_stay}
use Rattle.v_elab.specs.declared.waiting.Entered.{Entered}
use Rattle.v_elab.specs.declared.walked.Walked.{Walked}
use Rattle.v_elab.specs.Instances.{IsWalked}
use Rattle.v_elab.specs.Enters.{Leaves, Waits}
use Rattle.v_elab.proofs.Fresh.{one_name_more}

-- it is the state that the definition has there
pub left_is : (s : State) (room : ℕ) (x : Walked) (e : Entered) (name : List ℕ) (driven : List Drive) (y : Parts) (z : Walked) (d : Design) → IsWalked s x → Waits room x e
    → Keeps e.waiting.driven driven → Leaves name e.waiting y z → IsSoFar d y → IsWalked (with_child name (length s.design.nodes) driven s d) z
left_is s room x e name driven y z d h w k l so_far = record {
  is = record {
    goes_on = record {
      scope = ap (λ (es : List (List ℕ × Meaning)). means es) (l.scope ∙ w.scope) ∙ h.is.goes_on.scope;
      signals = ap (λ (p : Parts). length p.signals) l.parts ∙ ap length so_far.signals ∙ length-map d.signals signal_of;
      driven = subst (λ (q : DrivenDigits). Keeps q driven) (sym l.driven) k;
    };
    parts = subst (λ (p : Parts). IsSoFar d p) (sym l.parts) so_far;
    children = l.children ∙ ap (λ (cs : List (List ℕ × Spot)). cs ++ ((name, spot.Inner e.waiting.node) ∷ [])) (w.children ∙ h.is.children)
        ∙ ap (λ (n : ℕ). s.children ++ ((name, spot.Inner n) ∷ [])) (w.node ∙ ap length h.is.parts.nodes ∙ length-map s.design.nodes node_of);
  };
  instances = λ n free.
      one_name_more n name s.children (spot.Inner (length s.design.nodes)) x.instances (first_place z.instances n) (h.instances n free)
      (l.instances n ∙ ap (λ (ns : List (List ℕ × ℕ)). noted name 0 (first_place ns) n) w.instances);
}

-- further items can be walked
pub left_ready : (room : ℕ) (x : Walked) (e : Entered) (name : List ℕ) (y : Parts) (z : Walked) → IsReady x.state → Waits room x e → Grows e.parts y → length y.signals ≤ most_parts
    → Leaves name e.waiting y z → IsReady z.state × Grows x.state.parts z.state.parts
left_ready room x e name y z ready w g few l = (
  record {
    proper = subst (λ (es : List (List ℕ × Meaning)). AreProper (means es)) (sym (l.scope ∙ w.scope)) ready.proper;
    signals = subst (λ (es : List (List ℕ × Meaning)). StaySignals (means es) (widths z.state.parts.signals)) (sym (l.scope ∙ w.scope)) (grown_stay (means x.state.scope) x.state.parts z.state.parts more ready.signals);
    few = subst (λ (p : Parts). length p.signals ≤ most_parts) (sym l.parts) few;
  },
  more,
)
  where
    more : Grows x.state.parts z.state.parts
    more = subst (λ (p : Parts). Grows x.state.parts p) (sym l.parts) (subst (λ (p : Parts). Grows p y) w.parts g)
