-- Which texts are designs (IEEE 1364-2005), and by which rule, and where, another one is refused.
use Rattle.std.specs.Prelude.{◌≡◌, ℕ, ◌≤◌, ◌<◌, List, length, Option, Ok, Err, slice_index}
use Rattle.port_io.specs.Limits.{most_bytes}
use Rattle.port_io.specs.Pos.{pos_of}
use Rattle.gpi.specs.declared.design.Flat.{Flat}
use Rattle.v_syntax.specs.declared.token.Token.{Token}
use Rattle.v_syntax.specs.SourceTrees.{ModuleTree}
use Rattle.v_syntax.specs.Refusal.{IsSource, IsSyntaxAt, IsTooDeepAt, height_limit}
use Rattle.v_lex.specs.declared.directive.LexRule.TheVariants as lexical
use Rattle.v_lex.specs.Lexing.{Lexed}
use Rattle.v_lex.specs.Row.{Reads, BreaksFirst}
use Rattle.v_flat.specs.declared.scope.rule.ElabRule.{ElabRule}
use Rattle.v_flat.specs.Scope.Rules.{at}
use Rattle.v_flat.specs.Design.{Design, SourceText, StandsFor, flatten}
use Rattle.v_design.specs.declared.rule.DesignRule.{DesignRule}
use Rattle.v_design.specs.declared.rule.DesignRule.TheVariants as rule
use Rattle.v_design.specs.declared.fault.DesignRefusal.{DesignRefusal}
use Rattle.v_design.specs.declared.fault.DesignRefusal.TheVariants as refusal

-- ---- the modules of a text

-- modules with the bytes of the tokens that they spell, the units of the modules, and the step
abbrev pub source_with : List ModuleTree → Lexed → SourceText
source_with modules read = record { modules = modules; places = read.places; units = read.units; step_fs = read.step }

-- The text breaks no lexical rule, and these modules spell its tokens within the height.
pub record IsSourceOf (text : List ℕ) (source : SourceText) : Type 0 where
  pub read : Lexed
  pub reads : Reads text read
  pub modules : List ModuleTree
  pub spells : IsSource height_limit read.tokens modules
  pub is : source ≡ source_with modules read

-- The text breaks no lexical rule, but no modules within the height spell its tokens; this is the byte of the token that is so refused.
-- The end of the text counts as a token.
pub record IsUnspelled (is_refused : List Token → ℕ → Type 0) (text : List ℕ) (place : ℕ) : Type 0 where
  pub read : Lexed
  pub reads : Reads text read
  pub spells_none : (modules : List ModuleTree) → IsSource height_limit read.tokens modules → ⊥
  pub token : ℕ
  pub refused : is_refused read.tokens token
  pub is : place ≡ slice_index read.places token

-- ---- designs, each under a top: the name of one of the modules, or none, which leaves it to the text

-- The text's modules break no rule, and stand for this design under the top of this name, or else under the only module that no module
-- instantiates.
pub record Means (top : Option (List ℕ)) (text : List ℕ) (source : SourceText) (design : Design) : Type 0 where
  pub short : length text ≤ most_bytes
  pub is_source : IsSourceOf text source
  pub is : flatten source top ≡ Ok design

-- The text is a design under that top, and this is the flat one that it stands for.
pub record IsDesign (top : Option (List ℕ)) (text : List ℕ) (flat : Flat) : Type 0 where
  pub source : SourceText
  pub design : Design
  pub means : Means top text source design
  pub stands : StandsFor flat design source.step_fs

-- ---- refusals

-- The text's modules break this rule first under that top, at this byte.
pub record IsBroken (top : Option (List ℕ)) (text : List ℕ) (r : ElabRule) (place : ℕ) : Type 0 where
  pub source : SourceText
  pub is_source : IsSourceOf text source
  pub is : flatten source top ≡ Err (at r place)

-- The text breaks this rule first under that top, at this byte. Only the rules of elaboration ask for the top.
abbrev pub BreaksAt : Option (List ℕ) → DesignRule → List ℕ → ℕ → Type 0
BreaksAt top rule.BadByte text place = BreaksFirst text lexical.BadByte place
BreaksAt top rule.BadNumber text place = BreaksFirst text lexical.BadNumber place
BreaksAt top rule.UnclosedText text place = BreaksFirst text lexical.UnclosedText place
BreaksAt top rule.Directive text place = BreaksFirst text lexical.Directive place
BreaksAt top rule.Syntax text place = IsUnspelled IsSyntaxAt text place
BreaksAt top rule.TooDeep text place = IsUnspelled IsTooDeepAt text place
BreaksAt top (rule.Elaboration r) text place = IsBroken top text r place

-- The text is no design under that top, for this reason.
abbrev pub IsRefused : Option (List ℕ) → DesignRefusal → List ℕ → Type 0
IsRefused top refusal.TooLong text = most_bytes < length text
IsRefused top (refusal.Broken r pos) text = (length text ≤ most_bytes) × (place : ℕ) × BreaksAt top r text place × (pos ≡ pos_of text place)
