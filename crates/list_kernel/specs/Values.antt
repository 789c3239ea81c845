-- A means of proof: what the signals show and hide, for the proofs of the plain simulator.
use Rattle.std.specs.Prelude.{◌≡◌, ℕ, ◌≤◌, false, List, [], length, replicate, slice_index_or, None}
use Rattle.four_value.specs.declared.Digit.{Digit}
use Rattle.gpi.specs.Limits.{most_elements}
use Rattle.gpi.specs.Terms.{widths_of}
use Rattle.gpi.specs.Activation.{AreHidden}
use Rattle.list_kernel.specs.declared.values.Values.{Values}

-- the value that a signal shows
abbrev pub shown_in : Values → ℕ → List Digit
shown_in v s = slice_index_or v.shown.items s []

-- all lists have a place for each signal, and each hidden value has the width of its signal
pub record AreSized (v : Values) : Type 0 where
  pub few : length v.shown.items ≤ most_elements
  pub shown_before : length v.shown_before.items ≡ length v.shown.items
  pub hidden : AreHidden v.hidden.items (widths_of v.shown.items)
  pub hidden_before : length v.hidden_before.items ≡ length v.shown.items

pub record AreValues (v : Values) : Type 0 where
  pub sized : AreSized v
  pub unforced : v.any_forced ≡ false → v.hidden.items ≡ replicate (length v.shown.items) None
  pub unforced_before : v.any_forced ≡ false → v.hidden_before.items ≡ v.hidden.items
