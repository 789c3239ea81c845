-- The end of an instance, with its names.
use Rattle.std.proofs.Common.{◌≡◌, ℕ, List, Result, Ok, Err, IfOk, subst}
use Rattle.port_io.specs.declared.ports.NoMemory.{NoMemory}
use Rattle.gpi.specs.declared.design.Spot.{Spot}
use Rattle.v_flat.specs.Paths.{Path, path_text}
use Rattle.v_flat.specs.Design.{Design}
use Rattle.v_layout.specs.declared.build.parts.Parts.{Parts}
use Rattle.v_layout.specs.Build.Parts.{HasChildren, IsSoFar, named_nodes}
use Rattle.v_elab.specs.declared.state.State as code
use Rattle.v_elab.specs.Closes.{Closes}

pub closes_all : (text : List ℕ) (node : ℕ) (x : code.State) (r : Result Parts NoMemory)
    → ((d : Design) (p : Path) → IsSoFar d x.parts → path_text p ≡ text → IfOk r (IsSoFar (named_nodes node p x.children d))) → IfOk r (HasChildren x.parts) → IfOk r (Closes text node x)
closes_all text node x (Ok y) h k = record {
  is = λ t path s e. subst (λ (cs : List (List ℕ × Spot)). IsSoFar (named_nodes node path cs t.design) y) s.children (h t.design path s.parts e);
  made = k;
}
closes_all text node x (Err n) h k = tt
