-- A means of proof: what a table of values by name says.
use Rattle.std.specs.Prelude.{ℕ, List, [], Option, Some, None, slice_get, option_and_then, if◌then◌else◌}
use Rattle.std.proofs.Common.{Vec, Global}
use Rattle.std.specs.Option.{option_map_or, option_or}
use Rattle.std.specs.Str.{bytes_eq}
use Rattle.name_table.specs.Places.{first_place}
use Rattle.test_meaning.specs.Rules.Names.{Name}
use Rattle.test_file.specs.declared.list.table.Table.{Table}

abbrev pub value_at : {T : Type 0} → List (List ℕ × ℕ) → List T → Name → Option T
value_at numbers values n = option_and_then (slice_get values) (first_place numbers n)

-- the value of a name, where it has one
abbrev pub value_in : {T : Type 0} → Table T → Name → Option T
value_in t n = value_at t.numbers t.values.items n

-- the values of names, where this one has this value too, which counts where it had none
abbrev pub with_value : {T : Type 0} → Name → T → (Name → Option T) → Name → Option T
with_value m x s n = option_or (s n) (if bytes_eq n m then Some x else None)

abbrev pub list_at : {T : Type 0} → List (List ℕ × ℕ) → List (Vec T Global) → Name → List T
list_at numbers values n = option_map_or (λ v. v.items) (value_at numbers values n) []

-- the values of a name in a table of lists
abbrev pub list_in : {T : Type 0} → Table (Vec T Global) → Name → List T
list_in t n = list_at t.numbers t.values.items n
