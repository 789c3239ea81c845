use Rattle.std.proofs.Common.{◌≡◌, map, take}
use Rattle.task_compile.specs.Reading.{function_in}
use Rattle.task_core.specs.Code.Functions.{function_of}
use Rattle.task_core.specs.States.{read_at}
use Rattle.task_core.proofs.states.functions.numbered_functions.Given as goal

-- the functions so far
abbrev pub invariant-loop-function : goal.invariant-loop-function
invariant-loop-function l =
    map (function_of read_at) l.functions.items ≡ map (function_in l.program.states.items) (take l.function-index l.function-items)
