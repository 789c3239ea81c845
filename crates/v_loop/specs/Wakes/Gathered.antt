-- A means of proof: what is found in events, by what was found in those before and in those that are left.
use Rattle.std.specs.Prelude.{List, ◌++◌, Option, None, Some}
use Rattle.gpi.specs.declared.design.Wake.{Wake}
use Rattle.v_flat.specs.declared.scope.rule.Broken.{Broken}
use Rattle.v_flat.specs.declared.scope.found.Found.{Found}
use Rattle.v_flat.specs.Scope.Rules.{earlier}
use Rattle.v_flat.specs.Scope.Found.{each, lost}

-- the broken rule that counts, after this one too
abbrev pub with_fault : Option Broken → Broken → Broken
with_fault None b = b
with_fault (Some a) b = earlier a b

-- the fault and the wakes of the events before, and what is found in those that are left
abbrev pub gathered : Option Broken → List Wake → Found (List Wake) → Found (List Wake)
gathered None ws x = each (λ xs. ws ++ xs) x
gathered (Some b) ws x = lost b x
