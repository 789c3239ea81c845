-- A means of proof: the changes among the touched signals, for the proofs of the fast simulator.
use Rattle.std.specs.Prelude.{ℕ, Bool, not, List, [], ◌∷◌, slice_index_or, if◌then◌else◌}
use Rattle.four_value.specs.Vector.{same_digits}
use Rattle.gpi.specs.declared.types.Report.{Report}
use Rattle.gpi.specs.Activation.{Map}
use Rattle.v_exec.specs.declared.workspace.Touched.{Touched}

-- the changes of the touched signals, in their order
abbrev pub told : Map → List Touched → List Report
told after [] = []
told after (t ∷ ts) =
    if same_digits t.before (slice_index_or after t.sig.0 []) then told after ts
    else record { sig = t.sig; before = t.before; after = slice_index_or after t.sig.0 [] } ∷ told after ts

-- the signal shows something else
abbrev pub differs : Map → Map → ℕ → Bool
differs before after s = not (same_digits (slice_index_or before s []) (slice_index_or after s []))

-- its change
abbrev pub change_at : Map → Map → ℕ → Report
change_at before after s = record { sig = record { 0 = s }; before = slice_index_or before s []; after = slice_index_or after s [] }
