-- A means of proof: it follows the code, and says nothing that a reader must trust. How the lines of a text are read, one after
-- the other, as a function on lists of lines.
use Rattle.std.specs.Prelude.{ℕ, zero, suc, Bool, true, false, nat_le, List, [], ◌∷◌, ◌++◌, Option, Some, None, Result, Ok, Err, if◌then◌else◌}
use Rattle.py_syntax.specs.Line.{Line}
use Rattle.py_syntax.specs.ModuleTrees.{ModuleLine}
use Rattle.py_syntax.specs.Outline.{Content, Docstring, InModule, InBody, Placed, Refusal, bad_line, no_block, too_deep, at_start, place, depth, has_block, with_last, word_of}
use Rattle.py_syntax.specs.declared.outline.OpenBlock.{OpenBlock}
use Rattle.py_syntax.specs.declared.token.Token.{Token}
use Rattle.py_expression.specs.Shown.{height_limit}
use Rattle.py_parse.specs.ModuleLine.Reading.{line_of}
use Rattle.py_statement.specs.Lines as body
use Rattle.py_statement.specs.Lines.{LineForm, fits, too_high, no_form}

-- what a line says, that it is over the limit on heights, or that it has no form
pub data Said : Type 0 where
  says : Content → Said
  high : Said
  nothing : Said

abbrev pub said_docstring : List Token → Said
said_docstring [] = says Docstring
said_docstring (t ∷ ts) = nothing

abbrev pub said_module : Option ModuleLine → Said
said_module None = nothing
said_module (Some l) = says (InModule l)

abbrev pub said_body : LineForm → Said
said_body (fits l) = says (InBody l)
said_body too_high = high
said_body no_form = nothing

abbrev pub said_by : ℕ → List Token → Bool → Said
said_by d ts true = said_docstring ts
said_by zero ts false = said_module (line_of ts)
said_by (suc d) ts false = said_body (body.line_of height_limit ts)

-- what a line says that stands in so many blocks
unfoldable pub said_of : ℕ → Line → Said
said_of d l = said_by d l.tokens l.is_docstring

-- a line in its place, and the blocks that are open there, or why it is refused
pub data Outcome : Type 0 where
  stands : List OpenBlock → Content → Outcome
  refused : Refusal → Outcome

-- a line with its block, if it is a header
abbrev pub with_block : Line → Bool → Outcome → Outcome
with_block l false out = refused (no_block l.number)
with_block l true out = out

abbrev pub outcome_in : Line → List OpenBlock → Said → Bool → Outcome
outcome_in l cs nothing b = refused (bad_line l.number)
outcome_in l cs high b = with_block l b (refused (too_deep l.number))
outcome_in l cs (says c) b = with_block l b (if nat_le (depth cs) 32 then stands cs c else refused (too_deep l.number))

abbrev pub outcome_by : Line → List Line → Option (List OpenBlock) → Outcome
outcome_by l ls None = refused (bad_line l.number)
outcome_by l ls (Some cs) = outcome_in l cs (said_of (depth cs) l) (has_block l ls)

-- a line that these lines follow
unfoldable pub outcome : List OpenBlock → Line → List Line → Outcome
outcome bs l ls = outcome_by l ls (place l bs)

abbrev pub placed_line : Line → List OpenBlock → Content → Placed
placed_line l cs c = record { depth = depth cs; number = l.number; content = c }

abbrev pub onward : (List Placed → List OpenBlock → Result (List Placed) Refusal) → List Placed → Line → Outcome → Result (List Placed) Refusal
onward more ps l (refused r) = Err r
onward more ps l (stands cs c) = more (ps ++ (placed_line l cs c ∷ [])) (with_last (word_of l.tokens) cs)

-- the lines behind these, in their places
unfoldable pub outline_onto : List Placed → List OpenBlock → List Line → Result (List Placed) Refusal
outline_onto ps bs [] = Ok ps
outline_onto ps bs (l ∷ ls) = onward (λ qs cs. outline_onto qs cs ls) ps l (outcome bs l ls)

unfoldable pub outline_of : List Line → Result (List Placed) Refusal
outline_of ls = outline_onto [] at_start ls
