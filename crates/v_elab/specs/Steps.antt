-- A means of proof: the design before it is flat.
use Rattle.std.specs.Prelude.{ℕ, List, Option, Result}
use Rattle.v_flat.specs.declared.scope.rule.Broken.{Broken}
use Rattle.v_flat.specs.Design.{Modules, flat_design, from_top, top_of}
use Rattle.v_layout.specs.declared.build.parts.Parts.{Parts}
use Rattle.v_layout.specs.Build.Parts.{IsSoFar}
use Rattle.v_elab.specs.States.{EndsAs}

-- r is what is built of the design of modules of which no two have one name
abbrev pub IsFromTop : Modules → Option (List ℕ) → Result Parts Broken → Type 0
IsFromTop ms top r = EndsAs IsSoFar (from_top ms (top_of ms.list top)) r

-- r is what is built of the design of any modules
abbrev pub IsDesign : Modules → Option (List ℕ) → Result Parts Broken → Type 0
IsDesign ms top r = EndsAs IsSoFar (flat_design ms top) r
