-- A means of proof: what is found in one parameter, where names mean what they do in this scope, and what is known behind it.
use Rattle.std.specs.Prelude.{◌≡◌, ℕ, List, Option, None, Some, not, Result, Ok, Err}
use Rattle.four_value.specs.declared.Digit.{Digit}
use Rattle.gpi.specs.Terms.{IsWidth}
use Rattle.v_flat.specs.declared.scope.rule.Broken.{Broken}
use Rattle.v_flat.specs.declared.scope.rule.ElabRule.TheVariants as rule
use Rattle.v_flat.specs.declared.scope.found.Found.{Found}
use Rattle.v_flat.specs.declared.scope.found.Found.TheVariants.{Sound}
use Rattle.v_flat.specs.Scope.Found.{ForValue, both, wants}
use Rattle.v_flat.specs.declared.scope.meaning.Bounds.{Bounds}
use Rattle.v_flat.specs.declared.scope.meaning.Meaning.{Meaning}
use Rattle.v_flat.specs.Scope.Scope.{Scope, find, means, before, width_of}
use Rattle.v_flat.specs.Checks.{is_constant, constant_of}
use Rattle.v_flat.specs.Headers.{Parameter}
use Rattle.v_flat.specs.Declarations.{Given, given_value, vector_bounds, constant_meaning}
use Rattle.v_check.specs.Names.Proper.{IsProper, AreProper}
use Rattle.v_header.specs.declared.parameter.constants.Value.{Value}
use Rattle.v_header.specs.declared.parameter.constants.Constants.{Constants}
use Rattle.v_header.specs.Parameter.Values.{meaning_of}
use Rattle.v_header.specs.Parameter.Constants.{entries_of}

abbrev pub given_or : Option (List Digit) → Found (List Digit) → Found (List Digit)
given_or None own = own
given_or (Some ds) own = Sound ds

-- its range and its value
abbrev pub parameter_found : Parameter → List Given → Scope → Found (Bounds × List Digit)
parameter_found p given s =
    wants (not (is_constant (find p.name.name s))) rule.DuplicateName p.name.at
    (both (vector_bounds p.range s) (given_value p.name.name given (constant_of s p.value)))

-- its range is one of 1 to 128 digits
abbrev pub HasVectorRange : Found (Bounds × List Digit) → Type 0
HasVectorRange x = ForValue (λ (y : Bounds × List Digit). IsWidth (width_of y.0)) x

abbrev pub parameter_entry : Parameter → Bounds × List Digit → List ℕ × Meaning
parameter_entry p x = (p.name.name, constant_meaning p.range x.0 x.1)

-- a value is what was found
abbrev pub IsFoundValue : Parameter → Result (Bounds × List Digit) Broken → Result Value Broken → Type 0
IsFoundValue p (Ok x) (Ok v) = (meaning_of v ≡ constant_meaning p.range x.0 x.1) × IsProper (Some (meaning_of v))
IsFoundValue p (Err a) (Err b) = a ≡ b
IsFoundValue p (Ok x) (Err b) = ⊥
IsFoundValue p (Err a) (Ok v) = ⊥

-- what is known of the parameters so far
pub record AreKnown (others : Scope) (c : Constants) : Type 0 where
  pub scope : means c.scope ≡ before (means (entries_of c.list.items)) others
  pub proper : AreProper (means c.scope)
