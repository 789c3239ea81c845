-- A means of proof: the statements that a numbered state stands for, for the proofs of tasks that run numbered states.
use Rattle.std.specs.Prelude.{◌≡◌, ℕ, zero, suc, ◌<◌, ◌≤◌, nat_lt, List, length, map, Option, None, Some, slice_get, if◌then◌else◌}
use Rattle.py_syntax.specs.ExpressionTrees.{view}
use Rattle.py_syntax.specs.StatementTrees.{view_caught, view_span}
use Rattle.test_meaning.specs.Body.BodyTrees.{Item, Simple, If, While, For, Try, With, Block, NoItem, Then, Handlers, NoHandler, Catch, Function}
use Rattle.test_meaning.specs.Body.Views.{view_statement}
use Rattle.test_meaning.specs.declared.body.item.Item as code
use Rattle.test_meaning.specs.declared.body.item.Item.TheVariants as item
use Rattle.task_compile.specs.declared.program.Action.{Action}
use Rattle.task_compile.specs.declared.program.Action.TheVariants.{Begin, Elif, Except}
use Rattle.task_compile.specs.declared.program.State.{State}
use Rattle.task_compile.specs.declared.program.CompiledFunction.{CompiledFunction}
use Rattle.task_compile.specs.declared.program.Program.{Program}

-- a number that a state leads to: a lower one than its own, else the end
abbrev pub falling : ℕ → ℕ → ℕ
falling n m = if nat_lt m n then m else 0

-- a statement with these blocks and handlers in the place of its own
abbrev pub with_blocks : code.Item → Block → Block → Handlers → Item
with_blocks (item.Statement s) a b hs = Simple (view_statement s.value)
with_blocks (item.If' e shape all elif_shape elifs other_shape other) a b hs = If (view e) a b
with_blocks (item.While' e shape all) a b hs = While (view e) a
with_blocks (item.For' n span shape all) a b hs = For n (view_span span) a
with_blocks (item.Try' shape all other_shape handlers) a b hs = Try a hs
with_blocks (item.With' e shape all) a b hs = With (view e) a

-- what stands in a block from a state on, where the two functions tell what lower numbers stand for
abbrev pub action_from : (ℕ → Block) → (ℕ → Handlers) → ℕ → State → Action → Block
action_from f g n s (Begin i) =
    Then (with_blocks i.now (f (falling n s.first)) (f (falling n s.second)) (g (falling n s.second))) (f (falling n s.next))
action_from f g n s (Elif e) = Then (If (view e.now) (f (falling n s.first)) (f (falling n s.second))) (f (falling n s.next))
action_from f g n s (Except c) = NoItem

abbrev pub block_from : (ℕ → Block) → (ℕ → Handlers) → ℕ → Option State → Block
block_from f g n None = NoItem
block_from f g n (Some s) = action_from f g n s s.action

-- the handlers of a `try` from a state on
abbrev pub caught_from : (ℕ → Block) → (ℕ → Handlers) → ℕ → State → Action → Handlers
caught_from f g n s (Begin i) = NoHandler
caught_from f g n s (Elif e) = NoHandler
caught_from f g n s (Except c) = Catch (view_caught c.now) (f (falling n s.first)) (g (falling n s.next))

abbrev pub handlers_from : (ℕ → Block) → (ℕ → Handlers) → ℕ → Option State → Handlers
handlers_from f g n None = NoHandler
handlers_from f g n (Some s) = caught_from f g n s s.action

-- the state of a number
abbrev pub state_at : List State → ℕ → Option State
state_at ss zero = None
state_at ss (suc n) = slice_get ss n

-- the block, or the handlers, from the state of a number on, where so many steps are looked at
abbrev mutual
  pub block_within : ℕ → List State → ℕ → Block
  block_within zero ss n = NoItem
  block_within (suc f) ss n = block_from (block_within f ss) (handlers_within f ss) n (state_at ss n)

  pub handlers_within : ℕ → List State → ℕ → Handlers
  handlers_within zero ss n = NoHandler
  handlers_within (suc f) ss n = handlers_from (block_within f ss) (handlers_within f ss) n (state_at ss n)

-- each state leads to lower numbers, so as many steps as the number are enough
unfoldable pub block_at : List State → ℕ → Block
block_at ss n = block_within n ss n

unfoldable pub handlers_at : List State → ℕ → Handlers
handlers_at ss n = handlers_within n ss n

abbrev pub function_in : List State → CompiledFunction → Function
function_in ss f = record { parameters = f.parameters.now; others = f.others.now; body = block_at ss f.first }

-- the functions that a program stands for
abbrev pub functions_in : Program → List Function
functions_in p = map (function_in p.states.items) p.functions.items

-- ---- states that are added

-- the states that were there are there, by the same numbers
pub record IsGrown (before after : List State) : Type 0 where
  pub longer : length before ≤ length after
  pub same : (k : ℕ) → k < length before → slice_get after k ≡ slice_get before k

-- and the number names a state from which on this block stands
pub record Adds (before after : List State) (n : ℕ) (b : Block) : Type 0 where
  pub grown : IsGrown before after
  pub inside : n ≤ length after
  pub is : block_at after n ≡ b

-- or these handlers
pub record AddsHandlers (before after : List State) (n : ℕ) (hs : Handlers) : Type 0 where
  pub grown : IsGrown before after
  pub inside : n ≤ length after
  pub is : handlers_at after n ≡ hs

-- a state stands for this, over the states before it
abbrev pub stands_for : List State → State → Action → Block
stands_for ss s (Begin i) = Then (with_blocks i.now (block_at ss s.first) (block_at ss s.second) (handlers_at ss s.second)) (block_at ss s.next)
stands_for ss s (Elif e) = Then (If (view e.now) (block_at ss s.first) (block_at ss s.second)) (block_at ss s.next)
stands_for ss s (Except c) = NoItem

abbrev pub catches_for : List State → State → Action → Handlers
catches_for ss s (Begin i) = NoHandler
catches_for ss s (Elif e) = NoHandler
catches_for ss s (Except c) = Catch (view_caught c.now) (block_at ss s.first) (handlers_at ss s.next)

-- its numbers are those of states that are there
pub record LeadsBack (ss : List State) (s : State) : Type 0 where
  pub next : s.next ≤ length ss
  pub first : s.first ≤ length ss
  pub second : s.second ≤ length ss

-- one state was added, behind the others
pub record IsAdded (before after : List State) (s : State) (n : ℕ) : Type 0 where
  pub grown : IsGrown before after
  pub last : n ≡ suc (length before)
  pub inside : n ≤ length after
  pub block : block_at after n ≡ stands_for before s s.action
  pub handlers : handlers_at after n ≡ catches_for before s s.action
