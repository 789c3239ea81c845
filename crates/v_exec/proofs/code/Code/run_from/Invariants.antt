use Rattle.std.proofs.Common.{◌≡◌, ◌-◌, length, vec_capacity}
use Rattle.gpi.specs.Terms.{widths_of}
use Rattle.gpi.specs.Targets.{AreFitting}
use Rattle.v_exec.specs.Machine.{exec}
use Rattle.v_exec.specs.Code.{code_at}
use Rattle.v_exec.specs.Stack.{stack_room}
use Rattle.v_exec.specs.Running.{machine_of, IsRunning, IsSomewhere}
use Rattle.v_exec.proofs.code.Code.run_from.Given as goal

abbrev pub ghost-step : goal.ghost-step
ghost-step g a = g.before

abbrev pub invariant-loop-passed : goal.invariant-loop-passed
invariant-loop-passed g l = record {
  there : IsSomewhere l.self (widths_of l.fn.shown) l.at l.work (length l.fn.later.items) (length l.later.items) (vec_capacity l.later);
  running : IsRunning g.before l.shown l.hidden l.work;
  fits : AreFitting l.later.items (widths_of l.fn.shown);
  widths : widths_of l.shown ≡ widths_of l.fn.shown;
  later_space : vec_capacity l.later ≡ vec_capacity l.fn.later;
  stack_space : stack_room l.work.stack ≡ stack_room l.fn.work.stack;
  noted_space : vec_capacity l.work.noted ≡ vec_capacity l.fn.work.noted;
  touched_space : vec_capacity l.work.touched ≡ vec_capacity l.fn.work.touched;
  is : exec (code_at l.self l.at) 0 (machine_of l.work l.shown l.hidden l.later.items)
      ≡ exec (code_at l.self l.start) 0 (machine_of l.fn.work l.fn.shown l.fn.hidden l.fn.later.items);
}

abbrev pub decreases-loop-passed : goal.decreases-loop-passed
decreases-loop-passed g l = length l.self.instructions.items - l.at
