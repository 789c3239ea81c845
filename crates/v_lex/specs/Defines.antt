-- A means of proof: which names are defined behind parts of a text (IEEE 1364-2005, clause 19.3), for the laws of Verilog's lexer.
use Rattle.std.specs.Prelude.{◌≡◌, ◌≢◌, ℕ, List, ◌∷◌, ◌++◌, ◌⊎◌, All}
use lib.Chars.{codes}
use Rattle.v_lex.specs.declared.directive.Directive.TheVariants as directive
use Rattle.v_lex.specs.declared.directive.Content.TheVariants as content
use Rattle.v_lex.specs.Row.{Part}

abbrev pub Defines : List ℕ → Part → Type 0
Defines name p = p.content ≡ content.Directive (directive.Define name)

-- the part neither defines the name nor takes its definition away
abbrev pub Leaves : List ℕ → Part → Type 0
Leaves name p = (p.content ≢ content.Directive (directive.Define name)) × (p.content ≢ content.Directive (directive.Undef name))

-- Of the `define`s and `undef`s of the name among these parts the last is a `define`.
pub record IsDefinedLast (name : List ℕ) (parts : List Part) : Type 0 where
  pub before : List Part
  pub part : Part
  pub behind : List Part
  pub is : parts ≡ before ++ part ∷ behind
  pub defines : Defines name part
  pub leave : All (Leaves name) behind

-- Behind these parts of a text, from its start on, the name is defined: by the last `define` or `undef` of it, or because there is
-- none and it is COCOTB_SIM, which is defined at the start.
abbrev pub IsDefined : List ℕ → List Part → Type 0
IsDefined name parts = IsDefinedLast name parts ⊎ (All (Leaves name) parts × (name ≡ codes "COCOTB_SIM"))
