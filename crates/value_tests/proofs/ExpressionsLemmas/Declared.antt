-- Each name that the scene declares means something that it knows, and the events of its queues were made.
use Rattle.std.proofs.Common.{ℕ, zero, suc, Bool, true, false, List, [], ◌∷◌, ◌<◌, if◌then◌else◌, Some, lit<, arith}
use Rattle.std.specs.Prelude.{IfSome, slice_index_or}
use Rattle.std.specs.List.{find}
use Rattle.std.specs.Option.{option_map}
use Rattle.std.specs.Str.{bytes_eq}
use Rattle.gpi.specs.declared.design.Spot.{Spot}
use Rattle.py_evaluate.specs.Attribute.Look.{View, SeenQueue, spot_of, spot_value}
use Rattle.py_evaluate.specs.Attribute.Knows.{Knows, KnowsDesign, KnowsEvents}
use Rattle.value_tests.specs.Expressions.Scene.{queues, seen}

-- what a name means is known
abbrev IsKnown : View → Spot → Type 0
IsKnown view s = Knows view (spot_value s)

-- what each name of a node means
abbrev EachKnown : View → List (List ℕ × Spot) → Type 0
EachKnown view [] = Unit {0}
EachKnown view (c ∷ cs) = IsKnown view c.1 × EachKnown view cs

at : (view : View) (c : List ℕ × Spot) (cs : List (List ℕ × Spot)) (name : List ℕ) (t : Bool) → IsKnown view c.1 → IfSome (spot_of cs name) (IsKnown view)
    → IfSome (option_map (λ (d : List ℕ × Spot). d.1) (if t then Some c else find (λ (d : List ℕ × Spot). bytes_eq d.0 name) cs)) (IsKnown view)
at view c cs name true h k = h
at view c cs name false h k = k

spots_known : (view : View) (cs : List (List ℕ × Spot)) → EachKnown view cs → (name : List ℕ) → IfSome (spot_of cs name) (IsKnown view)
spots_known view [] h name = tt
spots_known view (c ∷ cs) h name = at view c cs name (bytes_eq c.0 name) h.0 (spots_known view cs h.1 name)

-- the names of each node
abbrev names_of : ℕ → List (List ℕ × Spot)
names_of node = slice_index_or seen.nodes node []

top_known : EachKnown seen (names_of 0)
top_known = ((lit< tt, lit< tt), ((lit< tt, lit< tt), (record { signals = omega arith; places = omega arith; numbers = omega arith }, ((lit< tt, lit< tt), tt))))

inner_known : EachKnown seen (names_of 1)
inner_known = ((lit< tt, lit< tt), tt)

pub names_known : KnowsDesign seen
names_known zero name = spots_known seen (names_of 0) top_known name
names_known (suc zero) name = spots_known seen (names_of 1) inner_known name
names_known (suc (suc node)) name = tt

-- what is seen where there is no queue
abbrev no_queue : SeenQueue
no_queue = record { held = 0; is_full = false; items_event = record { 0 = 0 }; space_event = record { 0 = 0 } }

event_known : (n : ℕ) → n < 2 → ((slice_index_or queues n no_queue).items_event.0 < 2) × ((slice_index_or queues n no_queue).space_event.0 < 2)
event_known zero h = (lit< tt, lit< tt)
event_known (suc zero) h = (lit< tt, lit< tt)
event_known (suc (suc n)) h = absurd (omega arith)

pub events_known : KnowsEvents seen
events_known q h = event_known q.0 h
