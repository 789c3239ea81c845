-- A means of proof: what it means that a process which was found is the one that an item of the definition adds to its state, for the
-- proofs of elaboration.
use Rattle.std.specs.Prelude.{◌≡◌, List}
use Rattle.gpi.specs.declared.design.Process.{Process}
use Rattle.gpi.specs.Design.{proc_of}
use Rattle.v_flat.specs.declared.scope.found.Found.{Found}
use Rattle.v_flat.specs.declared.scope.found.Found.TheVariants.{Sound}
use Rattle.v_flat.specs.Scope.Found.{ForValue, Holds}
use Rattle.v_flat.specs.Targets.{Drive}
use Rattle.v_flat.specs.Statements.{done}
use Rattle.v_flat.specs.Design.{State, adding}

-- v is st with other drives, whatever its processes are
pub record HasDrives (st : State) (ds : List Drive) (v : State) : Type 0 where
  pub scope : v.scope ≡ st.scope
  pub driven : v.driven ≡ ds
  pub children : v.children ≡ st.children

-- u is what the definition finds in the item, in the state st: the same rule is broken first; where none is, the process is added to the
-- state, with the drives ds; and where the definition goes on, it does so with these drives
pub record AddsProcess (st : State) (u : Found State) (ds : List Drive) (f : Found Process) : Type 0 where
  pub finds : done f ≡ done u
  pub adds : Holds (λ (p : Process). u ≡ Sound (adding (proc_of p) ds st)) f
  pub goes_on : ForValue (λ (v : State). HasDrives st ds v) u
