-- A means of proof: of which designs of texts waves can be written.
use Rattle.std.specs.Prelude.{ℕ, IsTrue, List, Option}
use Rattle.std.specs.List.{AllByRecursion, list_all}
use Rattle.gpi.specs.Soundness.{IsSoundFlat}
use Rattle.gpi.specs.declared.design.Flat.{Flat}
use Rattle.gpi.specs.declared.design.Node.{Node}
use Rattle.vcd_text.specs.Hierarchy.{top_path}
use Rattle.vcd_text.specs.Names.{is_name}
use Rattle.vcd_text.specs.Traceable.{IsTraceable}
use Rattle.v_design.specs.Designs.{IsDesign}

-- what is declared in an instance has names
abbrev pub HasNames : Node → Type 0
HasNames node = IsTrue (list_all (λ child. is_name child.0) node.children)

-- What no law says of a design of a text: its names are those of a VCD text.
pub record IsNamed (flat : Flat) : Type 0 where
  pub top : IsTrue (is_name (top_path flat.nodes))
  pub names : AllByRecursion HasNames flat.nodes

-- With these a VCD text can be written of each sound flat design that a text stands for.
abbrev pub Designs_are_traceable : Type 0
Designs_are_traceable =
    (top : Option (List ℕ)) (text : List ℕ) (flat : Flat) → IsDesign top text flat → IsSoundFlat flat → IsNamed flat → IsTraceable flat
