-- What stands at a number is what its state begins with.
use Rattle.std.proofs.Common.{◌≡◌, ℕ, zero, suc, ◌+◌, ◌<◌, List, [], ◌∷◌, ◌++◌, length, map, take, get_or, Option, None, Some, refl, sym, ap, ◌∙◌}
use Rattle.std.proofs.lemmas.List.{map-append, take_more}
use Rattle.test_meaning.specs.Body.BodyTrees.{Block, Function, Handlers, NoHandler, NoItem, Then}
use Rattle.task_compile.specs.Reading.{action_from, block_at, block_from, caught_from, falling, function_in, handlers_at, handlers_from, state_at}
use Rattle.task_compile.specs.declared.program.Action.{Action}
use Rattle.task_compile.specs.declared.program.Action.TheVariants as action
use Rattle.task_core.specs.Code.Head.{begun_with}
use Rattle.task_core.specs.declared.code.first.Begun.{Begun}
use Rattle.task_compile.proofs.Reading.{block_end, block_read, handlers_end, handlers_read}
use Rattle.task_compile.specs.declared.program.CompiledFunction.{CompiledFunction}
use Rattle.task_compile.specs.declared.program.State.{State}
use Rattle.task_core.specs.Code.Functions.{function_of}
use Rattle.task_core.specs.States.{begins, read_at}
use Rattle.task_core.specs.declared.code.function.Callable.{Callable}
use Rattle.task_core.specs.declared.states.numbered.Numbered.{Numbered}

pub block_of_state : (ss : List State) (n : ℕ) → block_at ss n ≡ block_from (block_at ss) (handlers_at ss) n (state_at ss n)
block_of_state ss zero = block_end ss
block_of_state ss (suc k) = block_read ss k

pub handlers_of_state : (ss : List State) (n : ℕ) → handlers_at ss n ≡ handlers_from (block_at ss) (handlers_at ss) n (state_at ss n)
handlers_of_state ss zero = handlers_end ss
handlers_of_state ss (suc k) = handlers_read ss k

-- one function more
pub functions_more : (ss : List State) (fs : List (Callable Numbered)) (x : Callable Numbered) (all : List CompiledFunction) (i : ℕ) (f : CompiledFunction)
    → i < length all → f ≡ get_or all i f → function_of read_at x ≡ function_in ss f
    → map (function_of read_at) fs ≡ map (function_in ss) (take i all) → map (function_of read_at) (fs ++ x ∷ []) ≡ map (function_in ss) (take (i + 1) all)
functions_more ss fs x all i f h e same done =
    map-append (function_of read_at) fs (x ∷ [])
    ∙ ap (λ (gs : List Function). gs ++ function_of read_at x ∷ []) done
    ∙ ap (λ (g : Function). map (function_in ss) (take i all) ++ g ∷ []) same
    ∙ sym (ap (λ (gs : List CompiledFunction). map (function_in ss) gs) (take_more all i f h ∙ ap (λ (y : CompiledFunction). take i all ++ y ∷ []) (sym e))
    ∙ map-append (function_in ss) (take i all) (f ∷ []))

-- ---- what begins there

abbrev pub block_by : (ℕ → Block) → (ℕ → Handlers) → ℕ → State → Option Begun → Block
block_by f g n s None = NoItem
block_by f g n s (Some b) = Then (begun_with b (f (falling n s.first)) (f (falling n s.second)) (g (falling n s.second))) (f (falling n s.next))

by_begun : (f : ℕ → Block) (g : ℕ → Handlers) (n : ℕ) (s : State) (a : Action) → action_from f g n s a ≡ block_by f g n s (begins a)
by_begun f g n s (action.Begin i) = refl
by_begun f g n s (action.Elif e) = refl
by_begun f g n s (action.Except c) = refl

pub read_begun : (ss : List State) (n : ℕ) (s : State) (o : Option Begun) → Some s ≡ state_at ss n → o ≡ begins s.action
    → block_at ss n ≡ block_by (block_at ss) (handlers_at ss) n s o
read_begun ss n s o e h =
    block_of_state ss n
    ∙ ap (λ (p : Option State). block_from (block_at ss) (handlers_at ss) n p) (sym e)
    ∙ by_begun (block_at ss) (handlers_at ss) n s s.action
    ∙ ap (λ (p : Option Begun). block_by (block_at ss) (handlers_at ss) n s p) (sym h)

-- the handler that stands there
pub read_handler : (ss : List State) (n : ℕ) (s : State) (a : Action) → Some s ≡ state_at ss n → s.action ≡ a
    → handlers_at ss n ≡ caught_from (block_at ss) (handlers_at ss) n s a
read_handler ss n s a e h =
    handlers_of_state ss n
    ∙ ap (λ (p : Option State). handlers_from (block_at ss) (handlers_at ss) n p) (sym e)
    ∙ ap (λ (b : Action). caught_from (block_at ss) (handlers_at ss) n s b) h

-- nothing stands there
pub read_no_block : (ss : List State) (n : ℕ) → None ≡ state_at ss n → block_at ss n ≡ NoItem
read_no_block ss n e = block_of_state ss n ∙ ap (λ (p : Option State). block_from (block_at ss) (handlers_at ss) n p) (sym e)

pub read_no_handler : (ss : List State) (n : ℕ) → None ≡ state_at ss n → handlers_at ss n ≡ NoHandler
read_no_handler ss n e = handlers_of_state ss n ∙ ap (λ (p : Option State). handlers_from (block_at ss) (handlers_at ss) n p) (sym e)
