-- A means of proof: what stands at the number of a state, for the proofs of tasks that keep such numbers.
use Rattle.task_compile.specs.Reading.{block_at, handlers_at}
use Rattle.task_core.specs.Code.Reading.{Reading}
use Rattle.std.specs.Prelude.{Option, None, Some}
use Rattle.task_compile.specs.declared.program.Action.{Action}
use Rattle.task_compile.specs.declared.program.Action.TheVariants as action
use Rattle.task_core.specs.declared.code.first.Begun.{Begun}
use Rattle.task_core.specs.declared.code.first.Begun.TheVariants as begun
use Rattle.task_core.specs.declared.states.numbered.Numbered.{Numbered}

abbrev pub read_at : Numbered → Reading
read_at n = record { block = block_at n.program.now.states.items n.number; handlers = handlers_at n.program.now.states.items n.number }

-- what begins there
abbrev pub begins : Action → Option Begun
begins (action.Begin i) = Some (begun.Item i)
begins (action.Elif e) = Some (begun.Elif e)
begins (action.Except c) = None
