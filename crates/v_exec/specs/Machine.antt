-- A means of proof: the machine of packed processes, whose operands stand on a stack, the top first.
use Rattle.std.specs.Prelude.{ℕ, zero, suc, List, [], ◌∷◌, ◌++◌, Some, Bool, if◌then◌else◌}
use Rattle.four_value.specs.declared.Digit.{Digit}
use Rattle.four_value.specs.declared.Digit.TheVariants.{One}
use Rattle.four_value.specs.Vector.{number, slice, resize}
use Rattle.gpi.specs.declared.types.Update.{Update}
use Rattle.gpi.specs.Operators.{truth, unary_value, arith_value, compare_value, logic_value, reduce_value, shift_value, choose}
use Rattle.gpi.specs.Selects.{selected, word_at, overlap_of}
use Rattle.gpi.specs.Terms.{read, copies, word_value}
use Rattle.gpi.specs.Targets.{whole_update, part_update}
use Rattle.gpi.specs.Cases.{all_agree}
use Rattle.gpi.specs.Activation.{Map, Run, blocking, nonblocking}
use Rattle.v_exec.specs.declared.instruction.Instruction.{Instruction}
use Rattle.v_exec.specs.declared.instruction.Instruction.TheVariants as code
use Rattle.v_exec.specs.declared.instruction.Place.{Place}
use Rattle.v_exec.specs.declared.instruction.Place.TheVariants as place
use Rattle.v_exec.specs.declared.instruction.Mode.{Mode}
use Rattle.v_exec.specs.declared.instruction.Mode.TheVariants as mode

-- the operands, both maps with the updates so far, and the updates that were noted
pub record Machine : Type 0 where
  pub stack : List (List Digit)
  pub run : Run
  pub noted : List Update

-- ---- stacks; of two operands the second stands on top

abbrev pub on_one : {A : Type 0} → (A → A) → List A → List A
on_one f [] = []
on_one f (a ∷ st) = f a ∷ st

abbrev pub on_two : {A : Type 0} → (A → A → A) → List A → List A
on_two f [] = []
on_two f (b ∷ []) = []
on_two f (b ∷ a ∷ st) = f a b ∷ st

abbrev pub on_three : {A : Type 0} → (A → A → A → A) → List A → List A
on_three f [] = []
on_three f (c ∷ []) = []
on_three f (c ∷ b ∷ []) = []
on_three f (c ∷ b ∷ a ∷ st) = f a b c ∷ st

-- without the top
abbrev pub below : {A : Type 0} → List A → List A
below [] = []
below (a ∷ st) = st

-- a part of the top above it
abbrev pub with_top : {A : Type 0} → (A → A) → List A → List A
with_top f [] = []
with_top f (a ∷ st) = f a ∷ a ∷ st

-- ---- stores

-- the updates of a store by its operands: the digits, and above them the indices
abbrev pub updates_to : Place → List (List Digit) → List Update
updates_to (place.Signal s) [] = []
updates_to (place.Signal s) (ds ∷ st) = whole_update (Some s.0) ds
updates_to (place.Word words) [] = []
updates_to (place.Word words) (i ∷ []) = []
updates_to (place.Word words) (i ∷ ds ∷ st) = whole_update (word_at words (number i)) ds
updates_to (place.SignalPart s range width count) [] = []
updates_to (place.SignalPart s range width count) (i ∷ []) = []
updates_to (place.SignalPart s range width count) (i ∷ ds ∷ st) = part_update (Some s.0) (overlap_of range width (number i) count) ds
updates_to (place.WordPart words range width count) [] = []
updates_to (place.WordPart words range width count) (i ∷ []) = []
updates_to (place.WordPart words range width count) (i ∷ j ∷ []) = []
updates_to (place.WordPart words range width count) (i ∷ j ∷ ds ∷ st) =
    part_update (word_at words (number j)) (overlap_of range width (number i) count) ds

-- the stack without the operands of a store
abbrev pub below_store : {A : Type 0} → Place → List A → List A
below_store (place.Signal s) st = below st
below_store (place.Word words) st = below (below st)
below_store (place.SignalPart s range width count) st = below (below st)
below_store (place.WordPart words range width count) st = below (below (below st))

-- what becomes of the updates of a store, with this stack left
abbrev pub stored : Mode → List Update → List (List Digit) → Machine → Machine
stored mode.Now us st m = record { stack = st; run = blocking us m.run; noted = m.noted }
stored mode.Noted us st m = record { stack = st; run = m.run; noted = m.noted ++ us }
stored (mode.Later n) us st m = record { stack = st; run = nonblocking n us m.run; noted = m.noted }

-- ---- instructions

-- the machine with this stack
abbrev pub with_stack : List (List Digit) → Machine → Machine
with_stack st m = record { stack = st; run = m.run; noted = m.noted }

-- the operands behind an instruction; m are the values that the signals show
abbrev pub stack_after : Instruction → Map → List (List Digit) → List (List Digit)
stack_after (code.Constant ds) m st = ds ∷ st
stack_after (code.Signal s) m st = read m s.0 ∷ st
stack_after (code.Word words w) m st = on_one (λ i. word_value (word_at words (number i)) w (read m)) st
stack_after (code.Select range w) m st = on_two (λ a i. selected a range (number i) w) st
stack_after (code.Unary op) m st = on_one (unary_value op) st
stack_after (code.Arith op) m st = on_two (arith_value op) st
stack_after (code.Compare op) m st = on_two (λ a b. compare_value op a b ∷ []) st
stack_after (code.Logic op) m st = on_two (λ a b. logic_value op a b ∷ []) st
stack_after (code.Reduce op) m st = on_one (λ a. reduce_value op a ∷ []) st
stack_after (code.Shift op) m st = on_two (shift_value op) st
stack_after code.Choose m st = on_three (λ t a b. choose (truth t) a b) st
stack_after code.Concat m st = on_two (λ a b. b ++ a) st
stack_after (code.Repeat n) m st = on_one (copies n) st
stack_after (code.Resize w) m st = on_one (λ a. resize a w) st
stack_after (code.Part low width) m st = with_top (λ a. slice a low width) st
stack_after code.Discard m st = below st
stack_after (code.Unless n) m st = below st
stack_after (code.Skip n) m st = st
stack_after (code.Match kind n) m st = below st
stack_after (code.Store place mode) m st = below_store place st
stack_after code.WriteNoted m st = st
stack_after code.Stop m st = st

-- what an instruction leaves, but for where it goes on
abbrev pub effect : Instruction → Machine → Machine
effect (code.Store place mode) m = stored mode (updates_to place m.stack) (below_store place m.stack) m
effect code.WriteNoted m = record { stack = m.stack; run = blocking m.noted m.run; noted = [] }
effect i m = with_stack (stack_after i m.run.signals m.stack) m

-- n, but 0 where a condition is true
abbrev pub unless : ℕ → Digit → ℕ
unless n One = 0
unless n _ = n

abbrev pub unless_top : ℕ → List (List Digit) → ℕ
unless_top n [] = n
unless_top n (t ∷ st) = unless n (truth t)

-- n where the label on top agrees with the value below it, else 0
abbrev pub where_agree : ℕ → (List Digit → List Digit → Bool) → List (List Digit) → ℕ
where_agree n agree [] = 0
where_agree n agree (label ∷ []) = 0
where_agree n agree (label ∷ ds ∷ st) = if agree ds label then n else 0

-- how many instructions are passed over
abbrev pub passes : Instruction → Machine → ℕ
passes (code.Unless n) m = unless_top n m.stack
passes (code.Skip n) m = n
passes (code.Match kind n) m = where_agree n (all_agree kind) m.stack
passes _ m = 0

-- an instruction, and those behind it, which are given by how many of them are passed over
abbrev pub goes_on : Instruction → (ℕ → Machine → Machine) → Machine → Machine
goes_on code.Stop rest m = m
goes_on i rest m = rest (passes i m) (effect i m)

-- the instructions, of which the first k are passed over, up to a stop
abbrev pub exec : List Instruction → ℕ → Machine → Machine
exec [] k m = m
exec (i ∷ is) zero m = goes_on i (exec is) m
exec (i ∷ is) (suc k) m = exec is k m
