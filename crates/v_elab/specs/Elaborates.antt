-- A means of proof: what it means that a text was elaborated, for the proofs of elaboration.
use Rattle.std.specs.Prelude.{◌≡◌, ℕ, List, Option, Result, Ok, Err}
use Rattle.gpi.specs.declared.design.Flat.{Flat}
use Rattle.v_syntax.specs.declared.source.Source.{Source}
use Rattle.v_syntax.specs.SourceTrees.{view}
use Rattle.v_flat.specs.Scope.Rules.{at}
use Rattle.v_flat.specs.Design.{Design, SourceText, StandsFor, flatten}
use Rattle.v_elab.specs.declared.fault.ElabFault.{ElabFault}
use Rattle.v_elab.specs.declared.fault.ElabFault.TheVariants.{Rule, OutOfMemory}

-- the text with the bytes of its tokens, the units of its modules and its step
abbrev pub text_of : Source → SourceText
text_of s = record { modules = view s; places = s.places.items; units = s.units.items; step_fs = s.step }

-- r is the flat design that a text stands for, or the rule that is broken first, with its byte
abbrev pub Elaborates : SourceText → Option (List ℕ) → Result Flat ElabFault → Type 0
Elaborates text top (Ok f) = (d : Design) × ((flatten text top ≡ Ok d) × StandsFor f d text.step_fs)
Elaborates text top (Err (Rule r p)) = flatten text top ≡ Err (at r p)
Elaborates text top (Err OutOfMemory) = Unit {0}
