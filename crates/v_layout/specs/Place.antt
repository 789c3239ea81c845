-- A means of proof: what is known in an instance before its declarations, as the code has it, for the proofs of elaboration.
use Rattle.std.specs.Prelude.{◌≡◌, List, Result}
use Rattle.v_syntax.specs.SourceTrees.{ModuleTree}
use Rattle.v_flat.specs.declared.scope.rule.Broken.{Broken}
use Rattle.v_flat.specs.Scope.Scope.{Scope, means, before}
use Rattle.v_flat.specs.Declarations.{Declared, Place, declarations}
use Rattle.v_header.specs.declared.parameter.constants.Constants.{Constants}
use Rattle.v_header.specs.Parameter.Constants.{entries_of}
use Rattle.v_layout.specs.declared.place.Place as code

-- names that are no constants mean what they do in the scope of the constants
abbrev pub place_in : code.Place → Place
place_in p = record { constants = entries_of p.constants.now.list.items; others = means p.constants.now.scope; ports = p.ports.now; first = p.first }

-- what is declared, or the rule that is broken first, whatever names mean that are no constants
abbrev pub AreDeclarations : code.Place → ModuleTree → Result (List Declared) Broken → Type 0
AreDeclarations p m r = (others : Scope) → means p.constants.now.scope ≡ before (means (entries_of p.constants.now.list.items)) others
    → r ≡ declarations (record { constants = entries_of p.constants.now.list.items; others = others; ports = p.ports.now; first = p.first }) m
