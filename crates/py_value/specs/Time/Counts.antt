-- A means of proof: what the code keeps of a count of steps, which may be over all that it can hold.
use Rattle.std.specs.Prelude.{ℕ, ◌^◌, ◌%◌, ◌==◌, nat_lt, if◌then◌else◌, Option, Some, None, Ok, Err}
use Rattle.py_syntax.specs.declared.fault_kind.FaultKind.TheVariants.{ValueError}
use Rattle.py_value.specs.Answer.{Answer}
use Rattle.py_value.specs.declared.time.steps.Steps.{Steps}
use Rattle.py_value.specs.Limits.{step_limit}

-- all counts that the code can hold are below it
abbrev pub count_limit : ℕ
count_limit = 2 ^ 128

abbrev pub few : ℕ → Option ℕ
few n = if nat_lt step_limit n then None else Some n

abbrev pub kept : ℕ → Steps
kept n = record { few = few n; odd = (n % 2) == 1 }

-- at least one
abbrev pub some_steps : ℕ → Answer ℕ
some_steps n = if nat_lt 0 n then Ok n else Err ValueError
