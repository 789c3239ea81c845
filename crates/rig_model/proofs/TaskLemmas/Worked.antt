-- Worked rows are computed.
use Rattle.std.proofs.Common.{refl}
use Rattle.std.specs.Fmt.{digits}
use Rattle.py_value.specs.Integer.Integer.{held}
use Rattle.rig_model.specs.Task.ControlRows.{Acts, Calls_and_names, Handler_names, Left_loops, Nested_handlers, Refused_release, Results, Spans, Writes}
use Rattle.rig_model.specs.Task.FaultRows.{Clock_starts, Far_numbers, Which_faults}
use Rattle.rig_model.specs.Task.Rows.{Bad_fails, Deep_calls, Joined_and_killed, Loops_and_handlers, Whole_numbers}
use Rattle.rig_model.specs.Task.WaitRows.{Late_times, Locks_and_leaving, One_cycle, Timeouts}

pub bad_fails : Bad_fails
unfolding digits held
bad_fails = refl

pub deep_calls : Deep_calls
unfolding digits held
deep_calls = refl

pub joined_and_killed : Joined_and_killed
unfolding digits held
joined_and_killed = refl

pub loops_and_handlers : Loops_and_handlers
unfolding digits held
loops_and_handlers = refl

pub whole_numbers : Whole_numbers
unfolding digits held
whole_numbers = refl

pub late_times : Late_times
unfolding digits held
late_times = refl

pub locks_and_leaving : Locks_and_leaving
unfolding digits held
locks_and_leaving = refl

pub one_cycle : One_cycle
unfolding digits held
one_cycle = refl

pub timeouts : Timeouts
unfolding digits held
timeouts = refl

pub handler_names : Handler_names
unfolding digits held
handler_names = refl

pub nested_handlers : Nested_handlers
unfolding digits held
nested_handlers = refl

pub left_loops : Left_loops
unfolding digits held
left_loops = refl

pub calls_and_names : Calls_and_names
unfolding digits held
calls_and_names = refl

pub refused_release : Refused_release
unfolding digits held
refused_release = refl

pub spans : Spans
unfolding digits held
spans = refl

pub writes : Writes
unfolding digits held
writes = refl

pub acts : Acts
unfolding digits held
acts = refl

pub results : Results
unfolding digits held
results = refl

pub which_faults : Which_faults
unfolding digits held
which_faults = refl

pub clock_starts : Clock_starts
unfolding digits held
clock_starts = refl

pub far_numbers : Far_numbers
unfolding digits held
far_numbers = (refl, refl)
