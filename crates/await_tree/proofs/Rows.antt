-- Worked trees.
use Rattle.std.proofs.Common.{refl}
use Rattle.await_tree.specs.Rows.{TreesWork}

pub trees_work : TreesWork
trees_work = record {
  stops = refl;
  stops_free = refl;
  takes = refl;
  takes_held = refl;
  passes = refl;
  all = refl;
  all_held = refl;
  all_left = refl;
  failed_before = refl;
  failed_takes = refl;
  leftmost = refl;
  leftmost_part = refl;
  edge_first = refl;
  change_alone = refl;
  both = refl;
  one_left = refl;
  one_still = refl;
  unawaited = refl;
  event_twice = refl;
  faulted = refl;
  returned = refl;
  first_returned = refl;
  limits = refl;
  late = refl;
  outer_late = refl;
  limited_in_time = refl;
  in_time = refl;
  late_part = refl;
  granted = refl;
  granted_first = refl;
  granted_all = refl;
  kept_lock = refl;
  kept_lock_end = refl;
  one_edge = refl;
  edge_left = refl;
  edge_still = refl;
  two_edges = refl;
  other_edge = refl;
  last_time = refl;
  past_time = refl;
  time_first = refl;
  phase_first = refl;
  limit_last = refl;
  limit_past = refl;
  next_step = refl;
}
