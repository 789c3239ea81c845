-- The state before the first item, with the assignments of ports.
use Rattle.std.proofs.Common.{◌≡◌, ◌<◌, ◌≤◌, ℕ, List, ◌++◌, length, Vec, refl, sym, ap, ◌∙◌, subst, arith}
use Rattle.gpi.specs.declared.design.Signal.{Signal}
use Rattle.gpi.specs.declared.design.Node.{Node}
use Rattle.gpi.specs.Design.{widths}
use Rattle.v_flat.specs.Scope.Limits.{most_parts}
use Rattle.v_flat.specs.Scope.Scope.{Scope, means}
use Rattle.v_flat.specs.Headers.{Port}
use Rattle.v_flat.specs.Declarations.{Declared, Entries}
use Rattle.v_flat.specs.Paths.{Path}
use Rattle.v_flat.specs.Design.{Design, Joint, entries, opened, port_joints}
use Rattle.v_flat.proofs.ShapeLemmas.Kept.{joints_keep}
use Rattle.v_header.specs.declared.parameter.constants.Constants.{Constants}
use Rattle.v_header.specs.Parameter.Constants.{entries_of}
use Rattle.v_elab.specs.declared.connect.joint.Joint as code_joint
use Rattle.v_elab.specs.Connect.Joints.{AreJoints}
use Rattle.v_layout.specs.declared.build.parts.Parts.{Parts}
use Rattle.v_layout.specs.Build.Parts.{Grows, IsSoFar}
use Rattle.v_layout.specs.Named.{StaySignals}
use Rattle.v_layout.specs.Texts.{HasText}
use Rattle.v_elab.specs.declared.state.State as code_state
use Rattle.v_elab.specs.States.{IsReady, IsState}
use Rattle.v_elab.specs.Opens.{Opens, begun}
use Rattle.v_elab.specs.Ports.{WithPorts}
use Rattle.v_elab.specs.Begins.{IsBegun}
use Rattle.v_elab.specs.BeginSteps.{OpensWith, opened_state}
use Rattle.v_elab.proofs.Grown.{grown_stay}

abbrev with_parts : code_state.State → Parts → code_state.State
with_parts s z = record { scope = s.scope; parts = z; driven = s.driven; children = s.children }

begun_with : (x : Parts) (s : code_state.State) (z : Parts) → IsReady s → Grows x s.parts → length x.nodes.items < length s.parts.nodes.items
    → z.signals ≡ s.parts.signals → z.nodes ≡ s.parts.nodes → IsBegun x (with_parts s z)
begun_with x s z ready g n signals nodes = record {
  ready = record {
    proper = ready.proper;
    signals = subst (λ (ss : List Signal). StaySignals (means s.scope) (widths ss)) (sym signals) ready.signals;
    few = subst (λ (ss : List Signal). length ss ≤ most_parts) (sym signals) ready.few;
  };
  grows = record { more = g.more; signals = signals ∙ g.signals; nodes = let k = g.nodes in let e = ap (λ (v : Vec Node _). length v.items) nodes in omega (arith, k, e) };
  node = let e = ap (λ (v : Vec Node _). length v.items) nodes in omega (arith, n, e);
}

state_with : (text : List ℕ) (c : Constants) (ps : List Port) (ds : List Declared) (cs : List code_joint.Joint) (x : Parts) (s : code_state.State) (z : Parts)
    → Opens text c ds x s → IsReady s → Grows x s.parts → WithPorts (means s.scope) ps cs s.parts z → (path : Path) (outer : Scope) (js : List Joint) (d : Design) → HasText path text
    → AreJoints outer ps js cs → StaySignals outer (widths x.signals) → IsSoFar d x → IsState (opened_state path (entries_of c.list.items) ps ds outer js d) (with_parts s z)
state_with text c ps ds cs x s z opens ready g w path outer js d t a around h = record {
  goes_on = record {
    scope = b.goes_on.scope;
    signals = ap length w.signals ∙ b.goes_on.signals ∙ ap length (sym (joints_keep outer js (means (entries_of c.list.items ++ entries (length d.signals) ds)) ps (opened path ds d)).signals);
    driven = b.goes_on.driven;
  };
  parts = subst (λ (i : Scope). IsSoFar (port_joints outer js i ps (opened path ds d)) z) b.goes_on.scope
      (w.processes outer js (opened path ds d) a (grown_stay outer x s.parts g around) ready.signals b.parts);
  children = b.children;
}
  where
    b : IsState (begun path (entries_of c.list.items) ds d) s
    b = opens path d t h

pub opened_with : (text : List ℕ) (c : Constants) (ps : List Port) (ds : List Declared) (cs : List code_joint.Joint) (x : Parts) (s : code_state.State) (z : Parts)
    → Opens text c ds x s → IsReady s → Grows x s.parts → length x.nodes.items < length s.parts.nodes.items → WithPorts (means s.scope) ps cs s.parts z
    → OpensWith text c ps ds cs x (with_parts s z)
opened_with text c ps ds cs x s z opens ready g n w = record {
  is = state_with text c ps ds cs x s z opens ready g w;
  begun = begun_with x s z ready g n w.signals w.nodes;
}
