-- A means of proof: one step of a walk over broken rules.
use Rattle.std.specs.Prelude.{Option, None, Some}
use Rattle.v_flat.specs.declared.scope.rule.Broken.{Broken}
use Rattle.v_flat.specs.Scope.Rules.{earlier}

-- with one more broken rule
abbrev pub with_fault : Option Broken → Broken → Broken
with_fault None b = b
with_fault (Some a) b = earlier a b
