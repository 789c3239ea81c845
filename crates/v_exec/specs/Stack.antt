-- A means of proof: what a stack holds.
use Rattle.std.specs.Prelude.{ℕ, List, reverse, vec_capacity}
use Rattle.four_value.specs.declared.Digit.{Digit}
use Rattle.v_exec.specs.declared.stack.Stack.{Stack}

-- its operands, the top first
unfoldable pub stack_of : Stack → List (List Digit)
stack_of s = reverse s.slots.items

-- how many operands it has room for
abbrev pub stack_room : Stack → ℕ
stack_room s = vec_capacity s.slots
