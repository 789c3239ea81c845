-- What directives set, and what the parts of a text tell (IEEE 1364-2005, clauses 3 and 19): tokens, their places, the units of time that
-- hold there, and the rules that are broken.
use Rattle.std.specs.Prelude.{ℕ, suc, ◌-◌, min, Bool, true, false, not, ◌&&◌, nat_le, List, [], ◌∷◌, ◌++◌, length, take, map, Option, Some}
use Rattle.std.specs.Prelude.{None, if◌then◌else◌}
use Rattle.std.specs.List.{slice_get}
use Rattle.std.specs.Str.{bytes_eq}
use lib.Chars.{codes}
use Rattle.v_syntax.specs.declared.token.Token.{Token}
use Rattle.v_syntax.specs.declared.token.Token.TheVariants as token
use Rattle.v_syntax.specs.declared.word.Keyword.TheVariants as word
use Rattle.v_lex.specs.declared.directive.Directive.{Directive}
use Rattle.v_lex.specs.declared.directive.Directive.TheVariants.{TimeScale, Define, Undef, IfDef, IfNDef, ElsIf, Else, EndIf, ResetAll}
use Rattle.v_lex.specs.declared.directive.Directive.TheVariants.{DefaultNetType, Unnamed, Broken}
use Rattle.v_lex.specs.declared.directive.LexRule.{LexRule}
use Rattle.v_lex.specs.declared.directive.LexRule.TheVariants as rule
use Rattle.v_lex.specs.declared.directive.BrokenRule.{BrokenRule}
use Rattle.v_lex.specs.declared.directive.Content.{Content}
use Rattle.v_lex.specs.declared.directive.Content.TheVariants as content
use Rattle.v_lex.specs.declared.directive.Conditional.{Conditional}

-- what the directives before a place have set
pub record State : Type 0 where
  -- which names are defined
  pub defined : List ℕ → Bool
  -- the open conditionals, the innermost last
  pub conditionals : List Conditional
  -- the unit of time, in femtoseconds (clause 19.8)
  pub unit : ℕ
  -- the least precision so far, in femtoseconds
  pub step : Option ℕ

abbrev pub nanosecond : ℕ
nanosecond = 1000000

-- ---- definitions (clause 19.3)

abbrev pub no_name : List ℕ → Bool
no_name name = false

-- the defined names, with one that is defined or not
abbrev pub with_name : (List ℕ → Bool) → List ℕ → Bool → List ℕ → Bool
with_name defined name is_defined other = if bytes_eq name other then is_defined else defined other

-- COCOTB_SIM is defined at the start.
unfoldable pub start : State
start = record { defined = with_name no_name (codes "COCOTB_SIM") true; conditionals = []; unit = nanosecond; step = None }

-- ---- conditionals (clause 19.4)

abbrev pub innermost : List Conditional → Option Conditional
innermost cs = slice_get cs (length cs - 1)

abbrev pub outer : List Conditional → List Conditional
outer cs = take (length cs - 1) cs

abbrev pub taken_in : Option Conditional → Bool
taken_in None = true
taken_in (Some c) = c.is_taken

-- the part at hand is taken
unfoldable pub is_taken : List Conditional → Bool
is_taken cs = taken_in (innermost cs)

-- one more conditional, with the truth of its condition
abbrev pub opened : List Conditional → ℕ → Bool → List Conditional
opened cs place holds =
    cs ++ record { place = place; is_taken = is_taken cs && holds; may_take = is_taken cs && not holds; has_else = false } ∷ []

-- the next part of a conditional, with the truth of its condition
abbrev pub next_part : Conditional → Bool → Bool → Conditional
next_part c holds is_else =
    record { place = c.place; is_taken = c.may_take && holds; may_take = c.may_take && not holds; has_else = is_else }

abbrev pub may_go_on : Option Conditional → Bool
may_go_on None = false
may_go_on (Some c) = not c.has_else

abbrev pub with_next_part : List Conditional → Bool → Bool → Option Conditional → List Conditional
with_next_part cs holds is_else None = cs
with_next_part cs holds is_else (Some c) = if c.has_else then cs else outer cs ++ next_part c holds is_else ∷ []

-- ---- directives (clause 19)

abbrev pub least : Option ℕ → ℕ → ℕ
least None n = n
least (Some m) n = min m n

-- what a directive at a place makes of the state
unfoldable pub after_directive : State → ℕ → Directive → State
after_directive s place (TimeScale unit precision) = record s { unit = unit; step = Some (least s.step precision) }
after_directive s place (Define name) = record s { defined = with_name s.defined name true }
after_directive s place (Undef name) = record s { defined = with_name s.defined name false }
after_directive s place (IfDef name) = record s { conditionals = opened s.conditionals place (s.defined name) }
after_directive s place (IfNDef name) = record s { conditionals = opened s.conditionals place (not (s.defined name)) }
after_directive s place (ElsIf name) =
    record s { conditionals = with_next_part s.conditionals (s.defined name) false (innermost s.conditionals) }
after_directive s place Else = record s { conditionals = with_next_part s.conditionals true true (innermost s.conditionals) }
after_directive s place EndIf = record s { conditionals = outer s.conditionals }
after_directive s place ResetAll = record s { unit = nanosecond }
after_directive s place DefaultNetType = s
after_directive s place Unnamed = record s { conditionals = opened s.conditionals place false }
after_directive s place Broken = s

abbrev pub is_open : Option Conditional → Bool
is_open None = false
is_open (Some c) = true

-- the directive has its parts, and stands where it may
unfoldable pub is_allowed : State → Directive → Bool
is_allowed s (TimeScale unit precision) = true
is_allowed s (Define name) = true
is_allowed s (Undef name) = true
is_allowed s (IfDef name) = true
is_allowed s (IfNDef name) = true
is_allowed s (ElsIf name) = may_go_on (innermost s.conditionals)
is_allowed s Else = may_go_on (innermost s.conditionals)
is_allowed s EndIf = is_open (innermost s.conditionals)
is_allowed s ResetAll = true
is_allowed s DefaultNetType = true
is_allowed s Unnamed = false
is_allowed s Broken = false

-- ---- the whole text

-- what stands in a text from a place on, and the state at its end
pub record Scan : Type 0 where
  pub tokens : List Token
  pub places : List ℕ
  -- the unit of time that holds at each token, in femtoseconds
  pub units : List ℕ
  pub faults : List BrokenRule
  pub last : State

abbrev pub broken_at : LexRule → ℕ → BrokenRule
broken_at r p = record { rule = r; place = p }

abbrev pub with_token : ℕ → ℕ → Token → Scan → Scan
with_token unit place t scan = record scan { tokens = t ∷ scan.tokens; places = place ∷ scan.places; units = unit ∷ scan.units }

abbrev pub with_fault : ℕ → LexRule → Scan → Scan
with_fault place r scan = record scan { faults = broken_at r place ∷ scan.faults }

-- what stands at a place, before what comes after it
unfoldable pub with_content : State → ℕ → Content → Scan → Scan
with_content s place content.Gap scan = scan
with_content s place (content.Token t) scan = with_token s.unit place t scan
with_content s place (content.Directive d) scan = if is_allowed s d then scan else with_fault place rule.Directive scan
with_content s place (content.Broken r) scan = with_fault place r scan

unfoldable pub after_content : State → ℕ → Content → State
after_content s place content.Gap = s
after_content s place (content.Token t) = s
after_content s place (content.Directive d) = after_directive s place d
after_content s place (content.Broken r) = s

-- A conditional that is left open has the place of its opening directive.
unfoldable pub left_open : List Conditional → List BrokenRule
left_open cs = map (λ c. broken_at rule.Directive c.place) cs

-- of two broken rules the one at the lesser place; at one place the first
abbrev pub earlier : Option BrokenRule → Option BrokenRule → Option BrokenRule
earlier None g = g
earlier (Some f) None = Some f
earlier (Some f) (Some g) = if nat_le f.place g.place then Some f else Some g

-- the first broken rule by place
unfoldable pub earliest : List BrokenRule → Option BrokenRule
earliest [] = None
earliest (f ∷ fs) = earlier (Some f) (earliest fs)

-- ---- the units of modules (clause 19.8)

-- the keyword `module`
abbrev pub is_module : Token → Bool
is_module (token.Keyword word.Module) = true
is_module _ = false

-- the unit that holds at a token where that is `module`, before further ones
abbrev pub with_unit : Token → ℕ → List ℕ → List ℕ
with_unit t unit units = if is_module t then unit ∷ units else units

-- of the units that hold at these tokens, those at each `module`
unfoldable pub at_modules : List Token → List ℕ → List ℕ
at_modules [] units = []
at_modules (t ∷ ts) [] = []
at_modules (t ∷ ts) (unit ∷ units) = with_unit t unit (at_modules ts units)

-- how many of the tokens are `module`
unfoldable pub module_count : List Token → ℕ
module_count [] = 0
module_count (t ∷ ts) = if is_module t then suc (module_count ts) else module_count ts

-- what is told of a text that breaks no rule
pub record Lexed : Type 0 where
  pub tokens : List Token
  -- the byte place of each token, and behind them the end of the text
  pub places : List ℕ
  -- for each token `module` the unit of time that holds there, in femtoseconds
  pub units : List ℕ
  -- the unit of time at the end of the text, in femtoseconds
  pub unit : ℕ
  -- the least precision, in femtoseconds; 1 ns where no directive sets one
  pub step : ℕ
