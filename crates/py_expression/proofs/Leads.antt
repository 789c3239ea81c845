-- Runs of reading, and single steps.
use Rattle.std.proofs.Common.{◌≡◌, ℕ, ◌+◌, ◌-◌, ◌<◌, ◌≤◌, List, [], ◌∷◌, Option, Some, None, refl, ◌∙◌, arith, true, false}
use Rattle.py_syntax.specs.ExpressionTables.{level_of, left_level}
use Rattle.py_syntax.specs.declared.token.Token.{Token}
use Rattle.py_syntax.specs.declared.expression.Operation.{Operation}
use Rattle.py_expression.specs.Phrase.Marks.{after}
use Rattle.py_expression.specs.Shown.{Shown, ShownParts}
use Rattle.py_expression.specs.Frames.{Frame, infix_op, wanted, Spot, going, done}
use Rattle.py_expression.specs.Tokens.{operation_at}
use Rattle.py_expression.specs.Reading.{step_of, run, wanted_of, follow_of, parts_of, operand_of, operand_by, leave_of, close_of, fits, opened, frame, behind_primary, behind_operand, in_format}
use Rattle.py_expression.specs.Ends.{operation_level, front, NoTail}
use Rattle.py_expression.proofs.Steps.{run_next}

-- The run of n steps from s goes through t, with enough steps left there.
pub record Leads (limit need n : ℕ) (s t : Spot) : Type 0 where
  pub left : ℕ
  pub enough : need ≤ left
  pub same : run limit n s ≡ run limit left t

pub leads_then : (limit a b n : ℕ) (s t u : Spot) → Leads limit a n s t → ((m : ℕ) → a ≤ m → Leads limit b m t u) → Leads limit b n s u
leads_then limit a b n s t u h more = let k : Leads limit b h.left t u = more h.left h.enough in record { left = k.left; enough = k.enough; same = h.same ∙ k.same }

pub leads_here : (limit need n : ℕ) (s : Spot) → need ≤ n → Leads limit need n s s
leads_here limit need n s h = record { left = n; enough = h; same = refl }

-- a step, and the rest
pub leads_step : (limit need n : ℕ) (s t u : Spot) → step_of limit s ≡ Some (going t) → 1 ≤ n → Leads limit need (n - 1) t u → Leads limit need n s u
leads_step limit need n s t u e h k = record { left = k.left; enough = k.enough; same = run_next limit n (n - 1) s t (omega arith) e ∙ k.same }

pub wanted_step : (limit : ℕ) (stack : List Frame) (least : ℕ) (ts : List Token) (s : Spot) → wanted_of limit stack least ts ≡ Some s
    → step_of limit (record { stack = stack; least = least; point = wanted; rest = ts }) ≡ Some (going s)
unfolding step_of
wanted_step limit stack least ts s e = rw e

pub follow_step : (limit : ℕ) (stack : List Frame) (least : ℕ) (v : Shown) (ts : List Token) (s : Spot) → follow_of limit stack least v ts ≡ s
    → step_of limit (behind_primary stack least v ts) ≡ Some (going s)
unfolding step_of
follow_step limit stack least v ts s e = rw e

pub parts_step : (limit : ℕ) (stack : List Frame) (least : ℕ) (ps : ShownParts) (ts : List Token) (s : Spot) → parts_of limit stack least ps ts ≡ Some s
    → step_of limit (in_format stack least ps ts) ≡ Some (going s)
unfolding step_of
parts_step limit stack least ps ts s e = rw e

-- an operator that is taken
fits_yes : (least level : ℕ) (op : Operation) → least ≤ level_of op → left_level op ≤ level → fits least level op ≡ true
fits_yes least level op a b = grind arith

fits_no : (least level : ℕ) (op : Operation) → level_of op < least → fits least level op ≡ false
fits_no least level op a = grind arith

pub infix_step : (limit : ℕ) (stack : List Frame) (least level : ℕ) (v : Shown) (op : Operation) (ts us : List Token)
    → operation_at ts ≡ Some (op, us) → least ≤ level_of op → left_level op ≤ level
    → step_of limit (behind_operand stack least v level ts) ≡ Some (going (opened stack (frame (infix_op op v) least) (level_of op + 1) us))
unfolding step_of operand_of after
infix_step limit stack least level v op ts us e a b = rw (e, fits_yes least level op a b)

-- no operator that is taken
pub operand_leaves : (limit : ℕ) (stack : List Frame) (least level : ℕ) (v : Shown) (ts : List Token) → front ts < least → operand_of limit stack least v level ts ≡ leave_of limit stack v ts
unfolding operand_of after
operand_leaves limit stack least level v ts h = go (operation_at ts) h
  where
    go : (o : Option (Operation × List Token)) → operation_level o < least → operand_by limit stack least v level ts o ≡ leave_of limit stack v ts
    go None k = refl
    go (Some x) k = rw (fits_no least level x.0 k)

pub close_step : (limit : ℕ) (stack : List Frame) (f : Frame) (least level : ℕ) (v : Shown) (ts : List Token) (s : Spot) → front ts < least
    → close_of limit stack f.least f.opened v ts ≡ Some s → step_of limit (behind_operand (f ∷ stack) least v level ts) ≡ Some (going s)
unfolding step_of leave_of after
close_step limit stack f least level v ts s h e = operand_leaves limit (f ∷ stack) least level v ts h ∙ rw e

pub done_step : (limit least level : ℕ) (v : Shown) (ts : List Token) → front ts < least → step_of limit (behind_operand [] least v level ts) ≡ Some (done v ts)
unfolding step_of leave_of after
done_step limit least level v ts h = operand_leaves limit [] least level v ts h

-- nothing follows a primary
pub operand_step : (limit : ℕ) (stack : List Frame) (least : ℕ) (v : Shown) (ts : List Token) → NoTail ts → step_of limit (behind_primary stack least v ts) ≡ Some (going (behind_operand stack least v 12 ts))
unfolding step_of follow_of after
operand_step limit stack least v ts h = rw (h.0, h.1)
