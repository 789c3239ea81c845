-- A means of proof: what the fast simulator holds as a whole, for its proofs.
use Rattle.std.specs.Prelude.{Option, None, Some}
use Rattle.gpi.specs.Content.{Content, no_design}
use Rattle.fast_kernel.specs.declared.simulation.Simulation.{Simulation}
use Rattle.fast_kernel.specs.declared.kernel.FastKernel.{FastKernel}
use Rattle.fast_kernel.specs.Kernel.{content_of, IsLoaded}

abbrev pub content_in : Option Simulation → Content
content_in None = no_design
content_in (Some s) = content_of s

abbrev pub IsLoadedIn : Option Simulation → Type 0
IsLoadedIn None = ⊥
IsLoadedIn (Some s) = IsLoaded s

abbrev pub kernel_content : FastKernel → Content
kernel_content k = content_in k.simulation

abbrev pub HoldsDesign : FastKernel → Type 0
HoldsDesign k = IsLoadedIn k.simulation
