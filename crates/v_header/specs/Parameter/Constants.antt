-- A means of proof: the parameters of an instance with their values, as the code has them, and what names mean where they alone are known,
-- for the proofs of elaboration.
use Rattle.std.specs.Prelude.{◌≡◌, ℕ, List, map, false, not, Result, Ok, Err}
use Rattle.v_flat.specs.declared.scope.rule.Broken.{Broken}
use Rattle.v_flat.specs.declared.scope.meaning.Meaning.{Meaning}
use Rattle.v_flat.specs.Scope.Scope.{Scope, find, means, before}
use Rattle.v_flat.specs.Checks.{is_constant}
use Rattle.v_flat.specs.Declarations.{Entries, is_free}
use Rattle.v_check.specs.Names.Proper.{AreProper}
use Rattle.v_header.specs.declared.parameter.constants.Constant.{Constant}
use Rattle.v_header.specs.declared.parameter.constants.Constants.{Constants}
use Rattle.v_header.specs.Parameter.Values.{meaning_of}

-- no name means a constant
abbrev pub HasNoConstants : Scope → Type 0
HasNoConstants s = (n : List ℕ) → is_constant (find n s) ≡ false

abbrev pub entry_of : Constant → List ℕ × Meaning
entry_of c = (c.name.items, meaning_of c.value)

abbrev pub entries_of : List Constant → Entries
entries_of cs = map entry_of cs

-- the scope has these constants and no others
pub record AreConstants (c : Constants) : Type 0 where
  pub names : (n : List ℕ) → is_free n (entries_of c.list.items) ≡ not (is_constant (find n (means c.scope)))
  pub again : before (means (entries_of c.list.items)) (means c.scope) ≡ means c.scope
  -- each vector in it has 1 to 128 digits, each memory at most 65,536 words, and each constant as many digits as its range
  pub proper : AreProper (means c.scope)

-- all parameters have values, and names mean what the parameters do, and else what they mean where no parameter is known
pub record HaveValues (others : Scope) (x : Result Entries Broken) (c : Constants) : Type 0 where
  pub is : x ≡ Ok (entries_of c.list.items)
  pub scope : means c.scope ≡ before (means (entries_of c.list.items)) others
  pub constants : AreConstants c

-- the parameters with their values, or the rule that is broken first in them
abbrev pub AreParameters : Scope → Result Entries Broken → Result Constants Broken → Type 0
AreParameters others x (Ok c) = HaveValues others x c
AreParameters others x (Err b) = x ≡ Err b
