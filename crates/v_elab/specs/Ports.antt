-- A means of proof: what it means that the connected ports of an instance have their assignments (IEEE 1364-2005, clause 12.3.9.2), for the
-- proofs of elaboration.
use Rattle.std.specs.Prelude.{◌≡◌, ℕ, List, bytes_eq}
use Rattle.std.specs.List.{IsDistinct}
use Rattle.gpi.specs.Design.{widths}
use Rattle.v_flat.specs.Scope.Scope.{Scope}
use Rattle.v_flat.specs.Headers.{Port}
use Rattle.v_flat.specs.Design.{Design, Joint, port_joints}
use Rattle.v_layout.specs.Named.{StaySignals}
use Rattle.v_elab.specs.declared.connect.joint.Joint as code
use Rattle.v_elab.specs.Connect.Joints.{AreJoints}
use Rattle.v_layout.specs.Build.Parts.{IsSoFar}
use Rattle.v_layout.specs.declared.build.parts.Parts.{Parts}

-- each name stands there once
abbrev pub Differ : List (List ℕ) → Type 0
Differ ns = IsDistinct bytes_eq ns

-- y is x with the assignments of the ports ps of the scope s behind its processes; whatever the scope of the connections is, and whatever
-- joints of the definition the joints cs stand for in it
pub record WithPorts (s : Scope) (ps : List Port) (cs : List code.Joint) (x y : Parts) : Type 0 where
  pub signals : y.signals ≡ x.signals
  pub nodes : y.nodes ≡ x.nodes
  pub processes : (outer : Scope) (js : List Joint) (d : Design) → AreJoints outer ps js cs → StaySignals outer (widths x.signals) → StaySignals s (widths x.signals) → IsSoFar d x
      → IsSoFar (port_joints outer js s ps d) y
