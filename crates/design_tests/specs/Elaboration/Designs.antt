-- A means of proof: the design of a text, or why it has none, for the test program of elaboration.
use Rattle.std.specs.Prelude.{◌≡◌, ℕ, ◌<◌, List, length, Option, Result, Ok, Err}
use Rattle.port_io.specs.Limits.{most_bytes}
use Rattle.gpi.specs.declared.design.Flat.{Flat}
use Rattle.v_lex.specs.Lexing.{Lexed}
use Rattle.v_lex.specs.Row.{BreaksFirst, Reads}
use Rattle.v_lex.specs.declared.directive.LexRule.{LexRule}
use Rattle.v_syntax.specs.Refusal.{IsSource, height_limit}
use Rattle.v_syntax.specs.SourceTrees.{ModuleTree}
use Rattle.v_syntax.specs.declared.source.Source.{Source}
use Rattle.v_flat.specs.Design.{SourceText}
use Rattle.v_elab.specs.Elaborates.{Elaborates, text_of}
use Rattle.v_elab.specs.declared.fault.ElabFault.{ElabFault}
use Rattle.v_elab.specs.declared.fault.ElabFault.TheVariants.{Rule}
use Rattle.design_tests.specs.declared.elaboration.designs.Refusal.{Refusal}
use Rattle.design_tests.specs.declared.elaboration.designs.Refusal.TheVariants.{TooLong, NoTokens, NoModules, Breaks}

-- The modules that a text spells, with the bytes of its tokens, the units of the modules, and its step.
pub record Spells (text : List ℕ) (source : SourceText) : Type 0 where
  pub lexed : Lexed
  pub reads : Reads text lexed
  pub modules : IsSource height_limit lexed.tokens source.modules
  pub places : source.places ≡ lexed.places
  pub units : source.units ≡ lexed.units
  pub step : source.step_fs ≡ lexed.step

-- No modules spell the tokens of a text.
pub record SpellsNone (text : List ℕ) : Type 0 where
  pub lexed : Lexed
  pub reads : Reads text lexed
  pub none : (modules : List ModuleTree) → IsSource height_limit lexed.tokens modules → ⊥

-- what elaboration gives of the modules that a text spells
pub record Gives (text : List ℕ) (top : Option (List ℕ)) (result : Result Flat ElabFault) : Type 0 where
  pub source : SourceText
  pub spells : Spells text source
  pub elaborates : Elaborates source top result

-- why a text has no design under the top of a name
abbrev pub IsRefused : List ℕ → Option (List ℕ) → Refusal → Type 0
IsRefused text top TooLong = most_bytes < length text
IsRefused text top NoTokens = (rule : LexRule) × (place : ℕ) × BreaksFirst text rule place
IsRefused text top NoModules = SpellsNone text
IsRefused text top (Breaks rule byte) = Gives text top (Err (Rule rule byte))

-- the design that a text stands for, or why it has none
abbrev pub IsDesignOf : List ℕ → Option (List ℕ) → Result Flat Refusal → Type 0
IsDesignOf text top (Ok flat) = Gives text top (Ok flat)
IsDesignOf text top (Err refusal) = IsRefused text top refusal

-- the tokens of a text, or why it has no design, whatever its top
abbrev pub AreTokens : List ℕ → Result Lexed Refusal → Type 0
AreTokens text (Ok lexed) = Reads text lexed
AreTokens text (Err refusal) = (top : Option (List ℕ)) → IsRefused text top refusal

-- the modules of a text, or why it has no design, whatever its top
abbrev pub AreModules : List ℕ → Result Source Refusal → Type 0
AreModules text (Ok source) = Spells text (text_of source)
AreModules text (Err refusal) = (top : Option (List ℕ)) → IsRefused text top refusal
