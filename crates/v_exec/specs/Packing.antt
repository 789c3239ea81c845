-- A means of proof: the instructions of expressions and targets, in front of those that follow them.
use Rattle.std.specs.Prelude.{ℕ, zero, suc, ◌+◌, List, ◌∷◌, max}
use Rattle.gpi.specs.declared.selects.Range.{Range}
use Rattle.gpi.specs.declared.terms.Term.{Term}
use Rattle.gpi.specs.declared.terms.Term.TheVariants.{Const, Signal, Word', Select', Unary', Arith', Compare', Logic', Reduce', Shift', Cond', Concat', Repeat', Resize'}
use Rattle.gpi.specs.declared.targets.Object.{Object}
use Rattle.gpi.specs.declared.targets.Object.TheVariants as object
use Rattle.gpi.specs.declared.targets.Target.{Target}
use Rattle.gpi.specs.declared.targets.Target.TheVariants.{Whole, Select, Join'}
use Rattle.gpi.specs.Targets.{target_width}
use Rattle.v_exec.specs.declared.instruction.Instruction.{Instruction}
use Rattle.v_exec.specs.declared.instruction.Instruction.TheVariants as code
use Rattle.v_exec.specs.declared.instruction.Place.{Place}
use Rattle.v_exec.specs.declared.instruction.Place.TheVariants as place
use Rattle.v_exec.specs.declared.instruction.Mode.{Mode}
use Rattle.v_exec.specs.declared.instruction.Mode.TheVariants as mode

-- more instructions than a list in memory can hold
abbrev pub too_many : ℕ
too_many = 9223372036854775808

-- a jump over so many instructions in front of these; to pass over none takes no jump
abbrev pub skip_front : ℕ → List Instruction → List Instruction
skip_front zero is = is
skip_front (suc n) is = code.Skip (suc n) ∷ is

-- ---- expressions

-- the instruction that makes the value of an expression from those of its operands
abbrev pub operation_of : Term → Instruction
operation_of (Const bits) = code.Constant bits
operation_of (Signal s w) = code.Signal s
operation_of (Word' words p i w) = code.Word words w
operation_of (Select' p a range q i w) = code.Select range w
operation_of (Unary' op p a) = code.Unary op
operation_of (Arith' op p a q b) = code.Arith op
operation_of (Compare' op p a q b) = code.Compare op
operation_of (Logic' op p a q b) = code.Logic op
operation_of (Reduce' op p a) = code.Reduce op
operation_of (Shift' op p a q b) = code.Shift op
operation_of (Cond' p t q a r b) = code.Choose
operation_of (Concat' p a q b) = code.Concat
operation_of (Repeat' n p a) = code.Repeat n
operation_of (Resize' p a w) = code.Resize w

-- the instructions that put the value of an expression on top of the operands, in front of others
abbrev pub term_front : Term → List Instruction → List Instruction
term_front (Const bits) is = code.Constant bits ∷ is
term_front (Signal s w) is = code.Signal s ∷ is
term_front (Word' words p i w) is = term_front i (code.Word words w ∷ is)
term_front (Select' p a range q i w) is = term_front a (term_front i (code.Select range w ∷ is))
term_front (Unary' op p a) is = term_front a (code.Unary op ∷ is)
term_front (Arith' op p a q b) is = term_front a (term_front b (code.Arith op ∷ is))
term_front (Compare' op p a q b) is = term_front a (term_front b (code.Compare op ∷ is))
term_front (Logic' op p a q b) is = term_front a (term_front b (code.Logic op ∷ is))
term_front (Reduce' op p a) is = term_front a (code.Reduce op ∷ is)
term_front (Shift' op p a q b) is = term_front a (term_front b (code.Shift op ∷ is))
term_front (Cond' p t q a r b) is = term_front t (term_front a (term_front b (code.Choose ∷ is)))
term_front (Concat' p a q b) is = term_front a (term_front b (code.Concat ∷ is))
term_front (Repeat' n p a) is = term_front a (code.Repeat n ∷ is)
term_front (Resize' p a w) is = term_front a (code.Resize w ∷ is)

-- the room for what needs n operands, and then for what needs m on top of its value
abbrev pub deepest : ℕ → ℕ → ℕ
deepest n m = max n (m + 1)

-- how many operands they need room for
abbrev pub term_depth : Term → ℕ
term_depth (Const bits) = 1
term_depth (Signal s w) = 1
term_depth (Word' words p i w) = term_depth i
term_depth (Select' p a range q i w) = deepest (term_depth a) (term_depth i)
term_depth (Unary' op p a) = term_depth a
term_depth (Arith' op p a q b) = deepest (term_depth a) (term_depth b)
term_depth (Compare' op p a q b) = deepest (term_depth a) (term_depth b)
term_depth (Logic' op p a q b) = deepest (term_depth a) (term_depth b)
term_depth (Reduce' op p a) = term_depth a
term_depth (Shift' op p a q b) = deepest (term_depth a) (term_depth b)
term_depth (Cond' p t q a r b) = deepest (term_depth t) (deepest (term_depth a) (term_depth b))
term_depth (Concat' p a q b) = deepest (term_depth a) (term_depth b)
term_depth (Repeat' n p a) = term_depth a
term_depth (Resize' p a w) = term_depth a

-- ---- targets, whose digits stand on top of the operands

abbrev pub whole_place : Object → Place
whole_place (object.Signal s w) = place.Signal s
whole_place (object.Word words i w) = place.Word words

abbrev pub part_place : Object → Range → ℕ → Place
part_place (object.Signal s w) range count = place.SignalPart s range w count
part_place (object.Word words i w) range count = place.WordPart words range w count

-- the index of a word
abbrev pub object_front : Object → List Instruction → List Instruction
object_front (object.Signal s w) is = is
object_front (object.Word words i w) is = term_front i is

abbrev pub object_depth : Object → ℕ
object_depth (object.Signal s w) = 0
object_depth (object.Word words i w) = term_depth i

-- the instructions that store the digits on top in the target, and take them off
abbrev pub target_front : Mode → Target → List Instruction → List Instruction
target_front how (Whole o) is = object_front o (code.Store (whole_place o) how ∷ is)
target_front how (Select o range i w) is = object_front o (term_front i (code.Store (part_place o range w) how ∷ is))
target_front how (Join' p a q b) is =
    code.Part (target_width b) (target_width a) ∷ target_front how a (code.Part 0 (target_width b) ∷ target_front how b (code.Discard ∷ is))

abbrev pub target_depth : Target → ℕ
target_depth (Whole o) = object_depth o
target_depth (Select o range i w) = deepest (object_depth o) (term_depth i)
target_depth (Join' p a q b) = max (target_depth a) (target_depth b) + 1

-- how many stores they are
abbrev pub target_stores : Target → ℕ
target_stores (Whole o) = 1
target_stores (Select o range i w) = 1
target_stores (Join' p a q b) = target_stores a + target_stores b

-- the same at once: the parts of a braced target are noted, and then written
abbrev pub blocking_front : Target → List Instruction → List Instruction
blocking_front (Whole o) is = target_front mode.Now (Whole o) is
blocking_front (Select o range i w) is = target_front mode.Now (Select o range i w) is
blocking_front (Join' p a q b) is = target_front mode.Noted (Join' p a q b) (code.WriteNoted ∷ is)
