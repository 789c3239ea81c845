-- A means of proof: how an expression is read, from left to right, as a function on lists of tokens, for the proofs of Python's parser.
-- Where it gives None no expression stands there. `limit` is the greatest height of an expression, of which more is kept than two
-- attributes' names; the code takes `height_limit`.
use Rattle.std.specs.Prelude.{ℕ, zero, suc, ◌+◌, ◌*◌, Bool, ◌&&◌, nat_le, List, [], ◌∷◌, length, Option, Some, None, if◌then◌else◌}
use Rattle.py_syntax.specs.ExpressionTables.{level_of, left_level, prefix_level, function_of, method_of, takes_argument, has_enough, name_at}
use Rattle.py_syntax.specs.declared.constant.Const.{Const}
use Rattle.py_syntax.specs.declared.operator.Bracket.TheVariants as bracket
use Rattle.py_syntax.specs.declared.token.Token.{Token}
use Rattle.py_syntax.specs.declared.token.Token.TheVariants as token
use Rattle.py_syntax.specs.declared.expression.UnOp.{UnOp}
use Rattle.py_syntax.specs.declared.expression.Operation.{Operation}
use Rattle.py_syntax.specs.declared.expression.Function.{Function}
use Rattle.py_syntax.specs.declared.expression.Method.{Method}
use Rattle.py_expression.specs.Shown as node
use Rattle.py_expression.specs.Shown.{Shown, ShownTrees, ShownParts}
use Rattle.py_expression.specs.Frames.{Opened, prefix, infix_op, brackets, subscript, call, format, Frame, Point, wanted, primary, operand, parts, Spot, Step, going, done}
use Rattle.py_expression.specs.Tokens.{prefix_of, operation_at, after_format_close, after_empty_call, attribute_at}
use Rattle.py_expression.specs.Phrase.Marks.{after_open, after_close, after_open_square, after_close_square, after_comma, after_last, after_name}
use Rattle.py_expression.specs.Phrase.Readers.{constant_of}

-- a node is open, and an operand of it is awaited
abbrev pub opened : List Frame → Frame → ℕ → List Token → Spot
opened stack f least ts = record { stack = f ∷ stack; least = least; point = wanted; rest = ts }

abbrev pub behind_primary : List Frame → ℕ → Shown → List Token → Spot
behind_primary stack least e ts = record { stack = stack; least = least; point = primary e; rest = ts }

abbrev pub behind_operand : List Frame → ℕ → Shown → ℕ → List Token → Spot
behind_operand stack least e level ts = record { stack = stack; least = least; point = operand e level; rest = ts }

abbrev pub in_format : List Frame → ℕ → ShownParts → List Token → Spot
in_format stack least ps ts = record { stack = stack; least = least; point = parts ps; rest = ts }

abbrev pub frame : Opened → ℕ → Frame
frame o least = record { opened = o; least = least }

-- Before an operand.

abbrev pub argument_by : List Token → Option (List ℕ) → List Token
argument_by ts None = ts
argument_by ts (Some name) = after_name name ts

-- where an argument begins, behind its name if it is given by that
abbrev pub argument_begin : Function → ℕ → List Token → List Token
argument_begin f n ts = argument_by ts (name_at f n)

-- one more argument of a call
unfoldable pub argument_of : List Frame → ℕ → Function → ShownTrees → List Token → Option Spot
argument_of stack least f es ts =
    if takes_argument f es.count then Some (opened stack (frame (call f es) least) 1 (argument_begin f es.count ts)) else None

-- the end of a call's arguments
unfoldable pub call_end : ℕ → List Frame → ℕ → Function → ShownTrees → List Token → Option Spot
call_end limit stack least f es ts = if has_enough f es.count then Some (behind_primary stack least (node.call limit f es) ts) else None

abbrev pub call_by : ℕ → List Frame → ℕ → Function → List Token → Option (List Token) → Option Spot
call_by limit stack least f ts None = argument_of stack least f node.no_trees ts
call_by limit stack least f ts (Some us) = call_end limit stack least f node.no_trees us

-- behind `f(`
unfoldable pub call_of : ℕ → List Frame → ℕ → Function → List Token → Option Spot
call_of limit stack least f ts = call_by limit stack least f ts (after_close ts)

abbrev pub name_by : ℕ → List Frame → ℕ → List ℕ → List Token → Option Function → Option (List Token) → Option Spot
name_by limit stack least n ts (Some f) (Some us) = call_of limit stack least f us
name_by limit stack least n ts _ _ = Some (behind_primary stack least (node.name n) ts)

-- behind a name
unfoldable pub name_of : ℕ → List Frame → ℕ → List ℕ → List Token → Option Spot
name_of limit stack least n ts = name_by limit stack least n ts (function_of n) (after_open ts)

abbrev pub constant_by : List Frame → ℕ → List Token → Option Const → Option Spot
constant_by stack least ts None = None
constant_by stack least ts (Some c) = Some (behind_primary stack least (node.constant c) ts)

-- a primary begins with this token
unfoldable pub begin_of : ℕ → List Frame → ℕ → Token → List Token → Option Spot
begin_of limit stack least (token.Open bracket.Round) ts = Some (opened stack (frame brackets least) 1 ts)
begin_of limit stack least token.FormatStart ts = Some (in_format stack least node.no_parts ts)
begin_of limit stack least (token.Name n) ts = name_of limit stack least n ts
begin_of limit stack least t ts = constant_by stack least ts (constant_of t)

abbrev pub wanted_by : ℕ → List Frame → ℕ → Token → List Token → Option UnOp → Option Spot
wanted_by limit stack least t ts None = begin_of limit stack least t ts
wanted_by limit stack least t ts (Some op) =
    if nat_le least (prefix_level op) then Some (opened stack (frame (prefix op) least) (prefix_level op) ts) else None

unfoldable pub wanted_of : ℕ → List Frame → ℕ → List Token → Option Spot
wanted_of limit stack least [] = None
wanted_of limit stack least (t ∷ ts) = wanted_by limit stack least t ts (prefix_of t)

-- Behind a primary.

abbrev pub attribute_by : ℕ → List Frame → ℕ → Shown → List ℕ → List Token → Option Method → Option (List Token) → Spot
attribute_by limit stack least e n ts (Some m) (Some us) = behind_primary stack least (node.method_call limit e m) us
attribute_by limit stack least e n ts _ _ = behind_primary stack least (node.attribute limit e n) ts

-- behind `.name`
unfoldable pub attribute_of : ℕ → List Frame → ℕ → Shown → List ℕ → List Token → Spot
attribute_of limit stack least e n ts = attribute_by limit stack least e n ts (method_of n) (after_empty_call ts)

abbrev pub subscript_by : List Frame → ℕ → Shown → List Token → Option (List Token) → Spot
subscript_by stack least e ts (Some us) = opened stack (frame (subscript e) least) 1 us
subscript_by stack least e ts None = behind_operand stack least e 12 ts

abbrev pub follow_by : ℕ → List Frame → ℕ → Shown → List Token → Option (List ℕ × List Token) → Spot
follow_by limit stack least e ts (Some x) = attribute_of limit stack least e x.0 x.1
follow_by limit stack least e ts None = subscript_by stack least e ts (after_open_square ts)

unfoldable pub follow_of : ℕ → List Frame → ℕ → Shown → List Token → Spot
follow_of limit stack least e ts = follow_by limit stack least e ts (attribute_at ts)

-- Behind an operand that no operator takes.

abbrev pub primary_by : List Frame → ℕ → Shown → Option (List Token) → Option Spot
primary_by stack least e None = None
primary_by stack least e (Some ts) = Some (behind_primary stack least e ts)

abbrev pub format_by : List Frame → ℕ → ShownParts → Option (List Token) → Option Spot
format_by stack least ps None = None
format_by stack least ps (Some ts) = Some (in_format stack least ps ts)

abbrev pub comma_by : List Frame → ℕ → Function → ShownTrees → Option (List Token) → Option Spot
comma_by stack least f es None = None
comma_by stack least f es (Some ts) = argument_of stack least f es ts

abbrev pub behind_by : ℕ → List Frame → ℕ → Function → ShownTrees → List Token → Option (List Token) → Option Spot
behind_by limit stack least f es ts (Some us) = call_end limit stack least f es us
behind_by limit stack least f es ts None = comma_by stack least f es (after_comma ts)

-- behind the arguments that were read so far
unfoldable pub behind_argument : ℕ → List Frame → ℕ → Function → ShownTrees → List Token → Option Spot
behind_argument limit stack least f es ts = behind_by limit stack least f es ts (after_last ts)

-- the innermost node takes the operand
unfoldable pub close_of : ℕ → List Frame → ℕ → Opened → Shown → List Token → Option Spot
close_of limit stack least (prefix op) e ts = Some (behind_operand stack least (node.unary limit op e) (prefix_level op) ts)
close_of limit stack least (infix_op op l) e ts = Some (behind_operand stack least (node.infix_of limit op l e) (level_of op) ts)
close_of limit stack least brackets e ts = primary_by stack least (node.bracketed limit e) (after_close ts)
close_of limit stack least (subscript b) e ts = primary_by stack least (node.subscript limit b e) (after_close_square ts)
close_of limit stack least (call f es) e ts = behind_argument limit stack least f (node.with_tree es e) ts
close_of limit stack least (format ps) e ts = format_by stack least (node.with_formatted ps e) (after_format_close ts)

abbrev pub onward : Option Spot → Option Step
onward None = None
onward (Some s) = Some (going s)

unfoldable pub leave_of : ℕ → List Frame → Shown → List Token → Option Step
leave_of limit [] e ts = Some (done e ts)
leave_of limit (f ∷ stack) e ts = onward (close_of limit stack f.least f.opened e ts)

-- Behind an operand.

abbrev pub fits : ℕ → ℕ → Operation → Bool
fits least level op = nat_le least (level_of op) && nat_le (left_level op) level

abbrev pub operand_by : ℕ → List Frame → ℕ → Shown → ℕ → List Token → Option (Operation × List Token) → Option Step
operand_by limit stack least e level ts None = leave_of limit stack e ts
operand_by limit stack least e level ts (Some x) =
    if fits least level x.0 then Some (going (opened stack (frame (infix_op x.0 e) least) (level_of x.0 + 1) x.1)) else leave_of limit stack e ts

unfoldable pub operand_of : ℕ → List Frame → ℕ → Shown → ℕ → List Token → Option Step
operand_of limit stack least e level ts = operand_by limit stack least e level ts (operation_at ts)

-- In an f-string.

unfoldable pub parts_of : ℕ → List Frame → ℕ → ShownParts → List Token → Option Spot
parts_of limit stack least ps (token.FormatText t ∷ ts) = Some (in_format stack least (node.with_text ps t) ts)
parts_of limit stack least ps (token.FormatOpen ∷ ts) = Some (opened stack (frame (format ps) least) 1 ts)
parts_of limit stack least ps (token.FormatEnd ∷ ts) = Some (behind_primary stack least (node.format_string limit ps) ts)
parts_of limit stack least ps _ = None

abbrev pub step_at : ℕ → List Frame → ℕ → List Token → Point → Option Step
step_at limit stack least ts wanted = onward (wanted_of limit stack least ts)
step_at limit stack least ts (primary e) = Some (going (follow_of limit stack least e ts))
step_at limit stack least ts (operand e level) = operand_of limit stack least e level ts
step_at limit stack least ts (parts ps) = onward (parts_of limit stack least ps ts)

unfoldable pub step_of : ℕ → Spot → Option Step
step_of limit s = step_at limit s.stack s.least s.rest s.point

-- the rest of the steps, behind one
abbrev pub run_by : (Spot → Option (Shown × List Token)) → Option Step → Option (Shown × List Token)
run_by more None = None
run_by more (Some (going s)) = more s
run_by more (Some (done e ts)) = Some (e, ts)

-- so many steps
unfoldable pub run : ℕ → ℕ → Spot → Option (Shown × List Token)
run limit zero s = None
run limit (suc n) s = run_by (run limit n) (step_of limit s)

abbrev pub start : ℕ → List Token → Spot
start least ts = record { stack = []; least = least; point = wanted; rest = ts }

-- the expression at the front that binds so tightly at least, and the tokens after it
unfoldable pub read_of : ℕ → ℕ → List Token → Option (Shown × List Token)
read_of limit least ts = run limit (2 * length ts + 1) (start least ts)

abbrev pub expression_of : ℕ → List Token → Option (Shown × List Token)
expression_of limit ts = read_of limit 1 ts

abbrev pub primary_of : ℕ → List Token → Option (Shown × List Token)
primary_of limit ts = read_of limit 12 ts
