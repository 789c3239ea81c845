-- The state of a simulator, waking, and delayed updates (IEEE 1364-2005, clauses 9.2.2, 9.7 and 11).
use Rattle.std.specs.Prelude.{ℕ, suc, ◌+◌, ◌==◌, ◌&&◌, ◌||◌, nat_lt, nat_le, Bool, true, false, not, List, [], ◌∷◌, map, if◌then◌else◌}
use Rattle.std.specs.List.{filter}
use Rattle.four_value.specs.Vector.{digit_at, same_digits, edge_of}
use Rattle.four_value.specs.declared.edges.Edge.{Edge}
use Rattle.four_value.specs.declared.edges.Edge.TheVariants.{Pos as PosEdge, Neg as NegEdge}
use Rattle.gpi.specs.declared.types.Region.{Region}
use Rattle.gpi.specs.declared.types.Region.TheVariants as region
use Rattle.gpi.specs.declared.types.Report.{Report}
use Rattle.gpi.specs.declared.types.Update.{Update}
use Rattle.gpi.specs.declared.types.Delayed.{Delayed}
use Rattle.gpi.specs.declared.design.Wake.{Wake}
use Rattle.gpi.specs.declared.design.WakeEdge.{WakeEdge}
use Rattle.gpi.specs.declared.design.WakeEdge.TheVariants.{Any, Pos, Neg}
use Rattle.gpi.specs.declared.design.Kind.{Kind}
use Rattle.gpi.specs.declared.design.Kind.TheVariants.{Assign, Always, Initial}
use Rattle.gpi.specs.Limits.{latest_update}
use Rattle.gpi.specs.Activation.{Map, Hidden}
use Rattle.gpi.specs.Keys.{holds}
use Rattle.gpi.specs.Design.{Proc}

-- the shown and the hidden values of the signals, the active processes, the changes that are still to be told, the updates that are due,
-- those that wait for the active processes, those that wait for their time, by rising time and for one time in the order in which they
-- came, the time, and where in the time step
pub record State : Type 0 where
  pub signals : Map
  pub hidden : Hidden
  pub active : List ℕ
  pub reports : List Report
  pub due : List Update
  pub later : List Update
  pub delayed : List Delayed
  pub time : ℕ
  pub region : Region

-- the changes between two maps, by rising number from n
abbrev pub changes : ℕ → Map → Map → List Report
changes n [] afters = []
changes n (before ∷ befores) [] = []
changes n (before ∷ befores) (after ∷ afters) =
    if same_digits before after then changes (suc n) befores afters
    else record { sig = record { 0 = n }; before = before; after = after } ∷ changes (suc n) befores afters

abbrev pub edge_fits : WakeEdge → Edge → Bool
edge_fits Any e = true
edge_fits Pos PosEdge = true
edge_fits Pos _ = false
edge_fits Neg NegEdge = true
edge_fits Neg _ = false

-- the wake waits for the change: of its signal, and for an edge one of its lowest digit (clause 9.7.2)
abbrev pub meets : Wake → Report → Bool
meets w c = (w.sig.0 == c.sig.0) && edge_fits w.edge (edge_of (digit_at c.before 0) (digit_at c.after 0))

abbrev pub meets_any : Wake → List Report → Bool
meets_any w [] = false
meets_any w (c ∷ cs) = meets w c || meets_any w cs

-- one of the wakes waits for one of the changes
abbrev pub waits : List Wake → List Report → Bool
waits [] cs = false
waits (w ∷ ws) cs = meets_any w cs || waits ws cs

-- the processes, by rising number from n, that wait for one of the changes and aren't barred
abbrev pub woken : ℕ → List Proc → List Report → List ℕ → List ℕ
woken n [] cs barred = []
woken n (p ∷ ps) cs barred =
    if not (holds n barred) && waits p.wakes cs then n ∷ woken (suc n) ps cs barred else woken (suc n) ps cs barred

-- whether a process isn't woken by its own activation
abbrev pub bars_itself : Kind → Bool
bars_itself Assign = false
bars_itself Always = true
bars_itself Initial = false

-- ---- updates with a delay (clause 9.2.2)

-- the updates of an activation that don't wait for a time
abbrev pub at_once : List Update → List Update
at_once us = filter (λ u. u.delay == 0) us

-- one more that waits: behind those of its time, and before all later ones
abbrev pub with_delayed : Delayed → List Delayed → List Delayed
with_delayed d [] = d ∷ []
with_delayed d (e ∷ es) = if nat_le e.time d.time then e ∷ with_delayed d es else d ∷ e ∷ es

-- an update of an activation at this time, if it waits; one that would come later than the latest time is given up
abbrev pub delaying : ℕ → Update → List Delayed → List Delayed
delaying now u ds =
    if nat_lt 0 u.delay && nat_le (now + u.delay) latest_update then with_delayed (record { time = now + u.delay; update = u }) ds else ds

abbrev pub all_delaying : ℕ → List Update → List Delayed → List Delayed
all_delaying now [] ds = ds
all_delaying now (u ∷ us) ds = all_delaying now us (delaying now u ds)

-- the updates that wait for this time, in order
abbrev pub arriving : ℕ → List Delayed → List Update
arriving t ds = map (λ d. d.update) (filter (λ d. d.time == t) ds)

-- those that wait for another time
abbrev pub waiting_on : ℕ → List Delayed → List Delayed
waiting_on t ds = filter (λ d. not (d.time == t)) ds

abbrev pub delayed_times : List Delayed → List ℕ
delayed_times ds = map (λ d. d.time) ds

-- ---- regions

abbrev pub is_end : Region → Bool
is_end region.Begin = false
is_end region.Active = false
is_end region.Settle = false
is_end region.End = true
