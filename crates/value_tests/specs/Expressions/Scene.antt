-- A means of proof: what the rows' task sees, for the test program of evaluation.
use Rattle.std.specs.Prelude.{List, [], ◌∷◌, codes, true, false}
use Rattle.four_value.specs.declared.Digit.{Digit}
use Rattle.four_value.specs.declared.Digit.TheVariants.{Zero, One, X, Z}
use Rattle.gpi.specs.declared.design.Spot.TheVariants.{Inner, Sig, Words}
use Rattle.gpi.specs.declared.types.Region.TheVariants.{Begin}
use Rattle.py_value.specs.Places.{Places}
use Rattle.py_evaluate.specs.Attribute.Look.{View, SeenQueue}

abbrev pub places : Places
places = record {
  signals = codes "top.a" ∷ codes "top.clk" ∷ codes "top.m[2]" ∷ codes "top.m[3]" ∷ codes "top.u._path" ∷ [];
  nodes = codes "top" ∷ codes "top.u" ∷ [];
}

-- the digits of the word 3
abbrev pub unresolved : List Digit
unresolved = One ∷ Zero ∷ X ∷ One ∷ []

-- two queues: one is full, with two items, and one is empty; each has two events
abbrev pub queues : List SeenQueue
queues =
    record { held = 2; is_full = true; items_event = record { 0 = 1 }; space_event = record { 0 = 0 } }
    ∷ record { held = 0; is_full = false; items_event = record { 0 = 0 }; space_event = record { 0 = 1 } } ∷ []

abbrev pub seen : View
seen = record {
  places = places;
  nodes = ((codes "a", Sig (record { 0 = 0 })) ∷ (codes "clk", Sig (record { 0 = 1 })) ∷ (codes "m", Words (record { 0 = 2 }) 2 2) ∷ (codes "u", Inner 1) ∷ [])
      ∷ ((codes "_path", Sig (record { 0 = 4 })) ∷ []) ∷ [];
  step_fs = 1000;
  signals = (Z ∷ Z ∷ Z ∷ Z ∷ Z ∷ Z ∷ Z ∷ Z ∷ []) ∷ (One ∷ []) ∷ (One ∷ Zero ∷ One ∷ Zero ∷ []) ∷ unresolved ∷ (One ∷ One ∷ []) ∷ [];
  time = 3000;
  region = Begin;
  events = false ∷ true ∷ [];
  locks = true ∷ false ∷ [];
  ended = false ∷ true ∷ false ∷ [];
  queues = queues;
}
