-- A means of proof: what ports are joined to by their names, and the processes of the ports so far.
use Rattle.std.specs.Prelude.{◌≡◌, ℕ, List, [], ◌∷◌, ◌++◌, Option, None, Some, length, bytes_eq, if◌then◌else◌}
use Rattle.std.specs.HashMap.{get_by}
use Rattle.gpi.specs.declared.design.Process.{Process}
use Rattle.gpi.specs.declared.design.Wake.{Wake}
use Rattle.v_flat.specs.declared.scope.meaning.DataObject.{DataObject}
use Rattle.v_flat.specs.declared.scope.meaning.Meaning.{Meaning}
use Rattle.v_flat.specs.declared.scope.meaning.Meaning.TheVariants.{Constant, Object, Later}
use Rattle.v_loop.specs.Reads.Reads.{spans_of}
use Rattle.v_loop.specs.Wakes.Wakes.{WaitForAll}
use Rattle.v_process.specs.Ports.{AssignsInput, AssignsOutput}
use Rattle.v_elab.specs.declared.connect.joint.Joined.{Joined}
use Rattle.v_elab.specs.declared.connect.joint.Joined.TheVariants as joined_kind
use Rattle.v_elab.specs.declared.connect.joint.Joint as code
use Rattle.v_layout.specs.declared.build.parts.Parts.{Parts}
use Rattle.v_elab.specs.declared.joined.JoinedPorts.{JoinedPorts}

-- ---- what ports are joined to

-- by the table of the code
abbrev pub joined_at : JoinedPorts → List ℕ → Option Joined
joined_at x n = get_by (λ k. bytes_eq n k.items) x.by_name

-- by the first joint of a name
abbrev pub first_joined : List code.Joint → List ℕ → Option Joined
first_joined [] n = None
first_joined (c ∷ cs) n = if bytes_eq n c.port.items then Some c.joined else first_joined cs n

-- ---- the process of one port

abbrev pub object_in : Option Meaning → Option DataObject
object_in None = None
object_in (Some Later) = None
object_in (Some (Constant ds b)) = None
object_in (Some (Object o)) = Some o

-- the assignment of the port o, which is joined to this, in a design of so many signals
abbrev pub AssignsPort : DataObject → Joined → ℕ → Process → Type 0
AssignsPort o (joined_kind.Value c xs) count p = (ws : List Wake) × (WaitForAll (spans_of xs.items) count ws × AssignsInput o c ws p)
AssignsPort o (joined_kind.Target t) count p = AssignsOutput o t p

-- its assignment stands behind the processes, where the port is connected and its name is a data object
abbrev pub AddsProcess : Option Joined → Option DataObject → ℕ → List Process → List Process → Type 0
AddsProcess None o count ps qs = qs ≡ ps
AddsProcess (Some j) None count ps qs = qs ≡ ps
AddsProcess (Some j) (Some o) count ps qs = (p : Process) × (AssignsPort o j count p × (qs ≡ ps ++ p ∷ []))

pub record AddsPort (j : Option Joined) (o : Option DataObject) (x y : Parts) : Type 0 where
  pub signals : y.signals ≡ x.signals
  pub nodes : y.nodes ≡ x.nodes
  pub processes : AddsProcess j o (length x.signals) x.processes y.processes
