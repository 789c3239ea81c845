-- A means of proof: what a fault says of a text, for the proofs of Verilog's parser.
use Rattle.std.specs.Prelude.{◌≡◌, ℕ, ◌-◌, List, length, Result, Ok, Err}
use Rattle.v_syntax.specs.declared.token.Token.{Token}
use Rattle.v_syntax.specs.declared.source.Module.{Module}
use Rattle.v_syntax.specs.declared.source.Source.{Source}
use Rattle.v_syntax.specs.SourceTrees.{ModuleTree}
use Rattle.v_syntax.specs.Refusal.{IsSyntaxAt, IsTooDeepAt}
use Rattle.v_lex.specs.Lexing.{Lexed, module_count}
use Rattle.v_expression.specs.Phrase.Stops.{Stop, Syntax, TooDeep}
use Rattle.v_parse.specs.declared.fault.ParseFault.{ParseFault}
use Rattle.v_parse.specs.declared.fault.ParseFault.TheVariants as faults

-- its number is that of the refused token
abbrev pub IsFault : List Token → ParseFault → Type 0
IsFault text faults.OutOfMemory = Unit {0}
IsFault text (faults.Syntax p) = IsSyntaxAt text p
IsFault text (faults.TooDeep p) = IsTooDeepAt text p

-- only want of memory
abbrev pub IsRead : {X : Type 0} → (X → Type 0) → Result X ParseFault → Type 0
IsRead is (Ok x) = is x
IsRead is (Err e) = e ≡ faults.OutOfMemory

-- the source has the places of the text's tokens, the unit of time at each `module`, and the text's step
pub record IsPlaced (text : Lexed) (s : Source) : Type 0 where
  pub places : s.places.items ≡ text.places
  pub units : s.units.items ≡ text.units
  pub step : s.step ≡ text.step

-- ---- what is made of modules that were read

-- A means of proof: the source has these modules, and the places, the units and the step of the text, which has a unit for each token
-- `module`.
pub record Makes (modules : List Module) (text : Lexed) (s : Source) : Type 0 where
  pub modules_are : s.modules.items ≡ modules
  pub one_each : length s.units.items ≡ module_count text.tokens
  pub is_placed : IsPlaced text s

abbrev pub MakesSource : List Module → Lexed → Result Source ParseFault → Type 0
MakesSource modules text (Ok s) = Makes modules text s
MakesSource modules text (Err f) = f ≡ faults.OutOfMemory

-- ---- what the list reader gives

-- where it stopped, counted from the front
abbrev pub Told : List Token → ParseFault → Result (List ModuleTree) Stop → Type 0
Told text faults.OutOfMemory read = Unit {0}
Told text (faults.Syntax p) read = (left : ℕ) × (p ≡ length text - left) × (read ≡ Err (Syntax left))
Told text (faults.TooDeep p) read = (left : ℕ) × (p ≡ length text - left) × (read ≡ Err (TooDeep left))

abbrev pub Tells : {X : Type 0} → (X → List ModuleTree) → List Token → Result X ParseFault → Result (List ModuleTree) Stop → Type 0
Tells view text (Ok x) read = read ≡ Ok (view x)
Tells view text (Err f) read = Told text f read
