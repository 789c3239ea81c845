use Rattle.std.proofs.Common.{◌≡◌, ◌≤◌, ◌-◌, List, length, drop}
use Rattle.gpi.specs.declared.types.Update.{Update}
use Rattle.gpi.specs.Terms.{widths_of}
use Rattle.gpi.specs.Activation.{AreHidden, blocking}
use Rattle.gpi.proofs.acts.activation.write_from.Given as goal

abbrev pub invariant-loop-at : goal.invariant-loop-at
invariant-loop-at l = record {
  from : l.from ≤ l.at;
  inside : l.at ≤ length l.updates.items;
  widths : widths_of l.signals.items ≡ widths_of l.fn.signals.items;
  hidden : AreHidden l.hidden.items (widths_of l.fn.signals.items);
  is : (us : List Update) → blocking (drop l.at l.updates.items) (record { signals = l.signals.items; hidden = l.hidden.items; updates = us })
      ≡ blocking (drop l.from l.updates.items) (record { signals = l.fn.signals.items; hidden = l.fn.hidden.items; updates = us });
}

abbrev pub decreases-loop-at : goal.decreases-loop-at
decreases-loop-at l = length l.updates.items - l.at
