-- A means of proof: the state of an instance before its first item (IEEE 1364-2005, clause 12.1), for the proofs of elaboration.
use Rattle.std.specs.Prelude.{ℕ, List, [], ◌++◌, length}
use Rattle.v_flat.specs.Scope.Scope.{means}
use Rattle.v_flat.specs.Declarations.{Declared, Entries}
use Rattle.v_flat.specs.Paths.{Path}
use Rattle.v_flat.specs.Design.{Design, State, children, entries, opened}
use Rattle.v_header.specs.declared.parameter.constants.Constants.{Constants}
use Rattle.v_header.specs.Parameter.Constants.{entries_of}
use Rattle.v_layout.specs.declared.build.parts.Parts.{Parts}
use Rattle.v_layout.specs.Build.Parts.{IsSoFar}
use Rattle.v_layout.specs.Texts.{HasText}
use Rattle.v_elab.specs.declared.state.State as code
use Rattle.v_elab.specs.States.{IsState}

-- what the definition begins with, but for the assignments of connected ports
abbrev pub begun : Path → Entries → List Declared → Design → State
begun path constants ds d = record {
  scope = means (constants ++ entries (length d.signals) ds);
  design = opened path ds d;
  driven = [];
  children = children (length d.signals) ds;
}

-- y is the state before the first item of the instance whose path has this text, where x is the design so far
abbrev pub Opens : List ℕ → Constants → List Declared → Parts → code.State → Type 0
Opens text c ds x y = (path : Path) (d : Design) → HasText path text → IsSoFar d x → IsState (begun path (entries_of c.list.items) ds d) y
