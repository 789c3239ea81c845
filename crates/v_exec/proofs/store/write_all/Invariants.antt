use Rattle.std.proofs.Common.{◌≡◌, ◌≤◌, ◌+◌, ◌-◌, List, length, drop, vec_capacity}
use Rattle.gpi.specs.declared.types.Update.{Update}
use Rattle.gpi.specs.Terms.{widths_of}
use Rattle.gpi.specs.Targets.{AreFitting}
use Rattle.gpi.specs.Activation.{AreHidden, blocking}
use Rattle.v_exec.specs.Workspace.{AreMarks, AreTouched}
use Rattle.v_exec.proofs.store.write_all.Given as goal

abbrev pub ghost-write : goal.ghost-write
ghost-write g a = g.before

abbrev pub invariant-loop-at : goal.invariant-loop-at
invariant-loop-at g l = record {
  inside : l.at ≤ length l.updates;
  widths : widths_of l.shown ≡ widths_of l.fn.shown;
  fits : AreFitting l.updates (widths_of l.shown);
  hidden : AreHidden l.hidden (widths_of l.shown);
  flags : length l.flags.items ≡ length l.fn.flags.items;
  count : length l.flags.items ≡ length l.shown;
  marks : AreMarks l.flags.items l.touched.items;
  touched : AreTouched g.before l.shown l.touched.items;
  few : length l.touched.items ≤ l.at + length l.fn.touched.items;
  space : vec_capacity l.touched ≡ vec_capacity l.fn.touched;
  is : (us : List Update) → blocking (drop l.at l.updates) (record { signals = l.shown; hidden = l.hidden; updates = us })
      ≡ blocking l.updates (record { signals = l.fn.shown; hidden = l.fn.hidden; updates = us });
}

abbrev pub decreases-loop-at : goal.decreases-loop-at
decreases-loop-at g l = length l.updates - l.at
