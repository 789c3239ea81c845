-- Worked runs are computed.
use Rattle.std.proofs.Common.{refl}
use Rattle.std.specs.Fmt.{digits}
use Rattle.py_value.specs.Integer.Integer.{held}
use Rattle.rig_model.specs.Run.Run.{steps}
use Rattle.rig_model.specs.Run.Texts.{stays_balanced}
use Rattle.rig_model.specs.Run.TestRows.{Budgets, Deadlines, Exact_budget, Least_run, No_test, Options, Read_only_end, Stalled_test, Verdicts}
use Rattle.rig_model.specs.Run.WaitRows.{Clock_cycles, Just_killed, Kill_in_combine, Kill_of_woken, Largest_time, No_past_edge, Phase_last, Read_only_write, Repeated_writes, Rise_first, Ties, With_timeout}
use Rattle.rig_model.specs.Run.DelayRows.{Amid_delay, Delayed_update, Update_of_ended_test}
use Rattle.rig_model.specs.Run.ObjectRows.{Gives_way, Joined_faults, Locks, Random_numbers, Set_and_clear}

pub least_run : Least_run
unfolding digits held steps stays_balanced
least_run = record { lines_are = refl; counts_are = refl; cost_is = refl; balanced = refl }

pub read_only_end : Read_only_end
unfolding digits held steps stays_balanced
read_only_end = record { lines_are = refl; counts_are = refl; cost_is = refl; balanced = refl }

pub stalled_test : Stalled_test
unfolding digits held steps stays_balanced
stalled_test = record { lines_are = refl; counts_are = refl; cost_is = refl; balanced = refl }

pub options : Options
unfolding digits held steps stays_balanced
options = record { lines_are = refl; counts_are = refl; cost_is = refl; balanced = refl }

pub verdicts : Verdicts
unfolding digits held steps stays_balanced
verdicts = record { lines_are = refl; counts_are = refl; cost_is = refl; balanced = refl }

pub no_test : No_test
unfolding digits held steps stays_balanced
no_test = record { lines_are = refl; counts_are = refl; cost_is = refl; balanced = refl }

pub largest_time : Largest_time
unfolding digits held steps stays_balanced
largest_time = record { lines_are = refl; counts_are = refl; cost_is = refl; balanced = refl }

pub ties : Ties
unfolding digits held steps stays_balanced
ties = record { lines_are = refl; counts_are = refl; cost_is = refl; balanced = refl }

pub kill_in_combine : Kill_in_combine
unfolding digits held steps stays_balanced
kill_in_combine = record { lines_are = refl; counts_are = refl; cost_is = refl; balanced = refl }

pub no_past_edge : No_past_edge
unfolding digits held steps stays_balanced
no_past_edge = record { lines_are = refl; counts_are = refl; cost_is = refl; balanced = refl }

pub read_only_write : Read_only_write
unfolding digits held steps stays_balanced
read_only_write = record { lines_are = refl; counts_are = refl; cost_is = refl; balanced = refl }

pub kill_of_woken : Kill_of_woken
unfolding digits held steps stays_balanced
kill_of_woken = record { lines_are = refl; counts_are = refl; cost_is = refl; balanced = refl }

pub with_timeout : With_timeout
unfolding digits held steps stays_balanced
with_timeout = record { lines_are = refl; counts_are = refl; cost_is = refl; balanced = refl }

pub repeated_writes : Repeated_writes
unfolding digits held steps stays_balanced
repeated_writes = record { lines_are = refl; counts_are = refl; cost_is = refl; balanced = refl }

pub clock_cycles : Clock_cycles
unfolding digits held steps stays_balanced
clock_cycles = record { lines_are = refl; counts_are = refl; cost_is = refl; balanced = refl }

pub phase_last : Phase_last
unfolding digits held steps stays_balanced
phase_last = record { lines_are = refl; counts_are = refl; cost_is = refl; balanced = refl }

pub rise_first : Rise_first
unfolding digits held steps stays_balanced
rise_first = record { lines_are = refl; counts_are = refl; cost_is = refl; balanced = refl }

pub set_and_clear : Set_and_clear
unfolding digits held steps stays_balanced
set_and_clear = record { lines_are = refl; counts_are = refl; cost_is = refl; balanced = refl }

pub locks : Locks
unfolding digits held steps stays_balanced
locks = record { lines_are = refl; counts_are = refl; cost_is = refl; balanced = refl }

pub joined_faults : Joined_faults
unfolding digits held steps stays_balanced
joined_faults = record { lines_are = refl; counts_are = refl; cost_is = refl; balanced = refl }

pub just_killed : Just_killed
unfolding digits held steps
just_killed = refl

pub exact_budget : Exact_budget
unfolding digits held steps stays_balanced
exact_budget = record { lines_are = refl; counts_are = refl; cost_is = refl; balanced = refl }

pub budgets : Budgets
unfolding digits held steps
budgets = (refl, refl)

pub deadlines : Deadlines
unfolding digits held steps stays_balanced
deadlines = record { lines_are = refl; counts_are = refl; cost_is = refl; balanced = refl }

pub gives_way : Gives_way
unfolding digits held steps stays_balanced
gives_way = record { lines_are = refl; counts_are = refl; cost_is = refl; balanced = refl }

pub random_numbers : Random_numbers
unfolding digits held steps stays_balanced
random_numbers = record { lines_are = refl; counts_are = refl; cost_is = refl; balanced = refl }

pub delayed_update : Delayed_update
unfolding digits held steps stays_balanced
delayed_update = record { lines_are = refl; counts_are = refl; cost_is = refl; balanced = refl }

pub amid_delay : Amid_delay
unfolding digits held steps
amid_delay = (refl, refl)

pub update_of_ended_test : Update_of_ended_test
unfolding digits held steps stays_balanced
update_of_ended_test = record { lines_are = refl; counts_are = refl; cost_is = refl; balanced = refl }
