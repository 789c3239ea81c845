-- The staged writes, the oldest first (cocotb 1.8, "Triggers", `ReadWrite`).
use Rattle.std.specs.Prelude.{◌==◌, not, List, [], ◌∷◌, ◌++◌, filter}
use Rattle.gpi.specs.declared.types.SigId.{SigId}
use Rattle.gpi.specs.declared.types.Write.{Write}
use Rattle.run_view.specs.declared.signal_port.staged.Staged.{Staged}

-- a write that is staged is the last one; an older one of its signal is taken out
abbrev pub restaged : SigId → Write → List Staged → List Staged
restaged sig act writes = filter (λ (w : Staged). not (w.sig.0 == sig.0)) writes ++ record { sig = sig; act = act } ∷ []
