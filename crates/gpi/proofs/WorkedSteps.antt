-- Worked steps of simulators, computed from the definitions: what each call of the interface answers and leaves, from the
-- opening state of a design on.
use Rattle.std.proofs.Common.{if◌then◌else◌, ◌≡◌, ℕ, ◌+◌, ◌&&◌, ◌||◌, not, Bool, true, false, List, [], ◌∷◌, replicate, length, Option, None, Some, refl, Box, Global}
use Rattle.four_value.specs.declared.Digit.{Digit}
use Rattle.four_value.specs.declared.Digit.TheVariants.{Zero, One, X, Z}
use Rattle.gpi.specs.declared.types.SigId.{SigId}
use Rattle.gpi.specs.declared.types.Told.{Told}
use Rattle.gpi.specs.declared.types.Region.{Region}
use Rattle.gpi.specs.declared.types.Region.TheVariants as region
use Rattle.gpi.specs.declared.types.Key.{Key}
use Rattle.gpi.specs.declared.types.Key.TheVariants as key
use Rattle.gpi.specs.declared.design.Wake.{Wake}
use Rattle.gpi.specs.declared.design.WakeEdge.TheVariants.{Any, Pos}
use Rattle.gpi.specs.declared.design.Kind.TheVariants.{Assign, Always}
use Rattle.gpi.specs.declared.design.Process.{Process}
use Rattle.gpi.specs.declared.design.Signal.{Signal}
use Rattle.gpi.specs.declared.design.Flat.{Flat}
use Rattle.gpi.specs.declared.operators.Unary.TheVariants.{Invert}
use Rattle.gpi.specs.declared.operators.Arith.TheVariants.{And}
use Rattle.gpi.specs.declared.terms.Term.{Term}
use Rattle.gpi.specs.declared.terms.Term.TheVariants as term
use Rattle.gpi.specs.declared.terms.Term.TheViews.{Unary, Arith}
use Rattle.gpi.specs.declared.targets.Object.TheVariants as object
use Rattle.gpi.specs.declared.targets.Target.TheVariants.{Whole}
use Rattle.gpi.specs.declared.acts.Act.{Act}
use Rattle.gpi.specs.declared.acts.Act.TheVariants.{Blocking, Nonblocking}
use Rattle.gpi.specs.Keys.{Keys, same_key, among, raised, raised_by}
use Rattle.gpi.specs.Events.{Event, event, idle, put, force, release}
use Rattle.gpi.specs.Limits.{latest_update}
use Rattle.gpi.specs.Content.{Content, no_counts, opening}

-- a call of the interface
data Call : Type 0 where
  Register : Key → Call
  Remove : Key → Call
  Deposit : ℕ → List Digit → Call
  Force : ℕ → List Digit → Call
  Release : ℕ → Call
  Advance : Call

-- what it answers: nothing, or an event with what it tells and fires, or Idle; and the time and the region then
data Answer : Type 0 where
  Done : Answer
  Moved : Option Told → List Key → ℕ → Region → Answer
  Idle : Answer

abbrev without : List ℕ → Keys → List Key → List ℕ
without [] keys gone = []
without (t ∷ ts) keys gone = if among (key.At t) gone then without ts keys gone else t ∷ without ts keys gone

abbrev with_key : Key → Keys → Keys
with_key (key.At t) keys = record keys { times = t ∷ keys.times }
with_key k keys = record keys { others = λ j. same_key j k || keys.others j }

abbrev without_keys : List Key → Keys → Keys
without_keys gone keys = record { times = without keys.times keys gone; others = λ j. keys.others j && not (among j gone) }

abbrev leaves : Content → Event → Content
leaves c e = record {
  procs = c.procs;
  nets = c.nets;
  state = e.state;
  keys = without_keys e.fired c.keys;
  counts = record c.counts { fired = raised_by e.fired c.counts.fired };
}

abbrev moved : Event → Answer
moved e = Moved e.told e.fired e.state.time e.state.region

abbrev leaves_any : Content → Option Event → Content
leaves_any c None = c
leaves_any c (Some e) = leaves c e

abbrev answer_any : Option Event → Answer
answer_any None = Idle
answer_any (Some e) = moved e

abbrev sig : ℕ → SigId
sig n = record { 0 = n }

abbrev after : Call → Content → Content
after (Register k) c = record c { keys = with_key k c.keys; counts = record c.counts { primed = raised c.counts.primed } }
after (Remove k) c = record c { keys = without_keys (k ∷ []) c.keys; counts = record c.counts { removed = raised c.counts.removed } }
after (Deposit n bits) c = leaves c (put c.procs c.state c.keys (sig n) bits)
after (Force n bits) c = leaves c (force c.procs c.state c.keys (sig n) bits)
after (Release n) c = leaves c (release c.procs c.nets c.state c.keys (sig n))
after Advance c = leaves_any c (event c.procs c.state c.keys)

abbrev answer : Call → Content → Answer
answer (Register k) c = Done
answer (Remove k) c = Done
answer (Deposit n bits) c = moved (put c.procs c.state c.keys (sig n) bits)
answer (Force n bits) c = moved (force c.procs c.state c.keys (sig n) bits)
answer (Release n) c = moved (release c.procs c.nets c.state c.keys (sig n))
answer Advance c = answer_any (event c.procs c.state c.keys)

unfoldable answers : List Call → Content → List Answer
answers [] c = []
answers (x ∷ xs) c = answer x c ∷ answers xs (after x c)

unfoldable content_after : List Call → Content → Content
content_after [] c = c
content_after (x ∷ xs) c = content_after xs (after x c)

-- a design of one process over these signals
abbrev design : List Signal → Process → Flat
design signals p = record { signals = signals; nodes = []; processes = p ∷ []; step_fs = 1000000 }

abbrev wire : ℕ → Signal
wire width = record { path = []; width = width; start = Z }

abbrev reg : ℕ → Signal
reg width = record { path = []; width = width; start = X }

abbrev any : ℕ → Wake
any n = record { sig = sig n; edge = Any }

abbrev tells : ℕ → List Digit → Option Told
tells n bits = Some (record { sig = sig n; bits = bits })

-- `module top(input clk, input [7:0] a, output reg [7:0] q); always @(posedge clk) q <= a; endmodule`

abbrev flop_body : ℕ → Act
flop_body n = Nonblocking (Whole (object.Signal (sig 2) 8)) (term.Signal (sig 1) 8) n

-- its update comes so many steps later
abbrev flop_after : ℕ → Content
flop_after n = opening (design (wire 1 ∷ wire 8 ∷ reg 8 ∷ []) (record { kind = Always; wakes = record { sig = sig 0; edge = Pos } ∷ []; body = flop_body n }))

abbrev flop : Content
flop = flop_after 0

abbrev flop_calls : List Call
flop_calls =
    Register (key.Rise (sig 0)) ∷ Register (key.At 5) ∷ Deposit 0 (One ∷ []) ∷ Register (key.Rise (sig 0)) ∷ Remove (key.Rise (sig 0))
    ∷ Advance ∷ Advance ∷ Advance ∷ Advance ∷ []

flop_answers : answers flop_calls flop
    ≡ Done ∷ Done ∷ Moved (tells 0 (One ∷ [])) (key.Rise (sig 0) ∷ []) 0 region.Begin ∷ Done ∷ Done
    ∷ Moved None [] 0 region.Active ∷ Moved (tells 2 (replicate 8 Z)) [] 0 region.Active
    ∷ Moved None (key.At 5 ∷ []) 5 region.Begin ∷ Idle ∷ []
unfolding answers
flop_answers = refl

flop_counts : (content_after flop_calls flop).counts ≡ record { primed = 3; removed = 1; fired = 2 }
unfolding content_after
flop_counts = refl

abbrev flip_one : List Digit
flip_one = One ∷ replicate 7 Zero

-- keys of every kind: registered before and after a change, removed, in several regions, two times, the next time step alone

abbrev key_calls : List Call
key_calls =
    Register key.NextStep ∷ Advance  -- no time is waited for
    ∷ Register (key.At 3) ∷ Register (key.At 7)
    ∷ Register (key.Change (sig 1)) ∷ Deposit 1 flip_one ∷ Deposit 1 flip_one  -- the second changes nothing
    ∷ Register (key.Rise (sig 0)) ∷ Register (key.Change (sig 0)) ∷ Deposit 0 (One ∷ [])
    ∷ Register (key.Fall (sig 0)) ∷ Remove (key.Fall (sig 0)) ∷ Deposit 0 (Zero ∷ [])
    ∷ Register key.ReadOnly ∷ Register key.ReadWrite
    ∷ Advance  -- the process runs
    ∷ Advance  -- its update is applied
    ∷ Advance  -- the design is settled
    ∷ Register key.ReadWrite ∷ Advance  -- and settled again
    ∷ Advance  -- the time step ends
    ∷ Advance  -- the lesser time
    ∷ Register key.ReadOnly ∷ Advance
    ∷ Register key.NextStep ∷ Remove (key.At 7) ∷ Advance ∷ []  -- no time is waited for any more

key_answers : answers key_calls flop
    ≡ Done ∷ Idle
    ∷ Done ∷ Done
    ∷ Done ∷ Moved (tells 1 flip_one) (key.Change (sig 1) ∷ []) 0 region.Begin ∷ Moved None [] 0 region.Begin
    ∷ Done ∷ Done ∷ Moved (tells 0 (One ∷ [])) (key.Rise (sig 0) ∷ key.Change (sig 0) ∷ []) 0 region.Begin
    ∷ Done ∷ Done ∷ Moved (tells 0 (Zero ∷ [])) [] 0 region.Begin
    ∷ Done ∷ Done
    ∷ Moved None [] 0 region.Active
    ∷ Moved (tells 2 flip_one) [] 0 region.Active
    ∷ Moved None (key.ReadWrite ∷ []) 0 region.Settle
    ∷ Done ∷ Moved None (key.ReadWrite ∷ []) 0 region.Settle
    ∷ Moved None (key.ReadOnly ∷ []) 0 region.End
    ∷ Moved None (key.NextStep ∷ key.At 3 ∷ []) 3 region.Begin
    ∷ Done ∷ Moved None (key.ReadOnly ∷ []) 3 region.End
    ∷ Done ∷ Done ∷ Idle ∷ []
unfolding answers
key_answers = refl

-- twelve were registered, two removed, nine fired: one is left
key_counts : (content_after key_calls flop).counts ≡ record { primed = 12; removed = 2; fired = 9 }
unfolding content_after
key_counts = refl

-- `module top(input en, output y); assign y = en & ~y; endmodule`

-- a box that holds this expression
abbrev boxed : Box Term Global → Term → Box Term Global
boxed b t = record b { value = t }

abbrev loop_body : Box Term Global → Act
loop_body b = Blocking (Whole (object.Signal (sig 1) 1)) (Arith And (boxed b (term.Signal (sig 0) 1)) (boxed b (Unary Invert (boxed b (term.Signal (sig 1) 1)))))

abbrev loop : Box Term Global → Content
loop b = opening (design (wire 1 ∷ wire 1 ∷ []) (record { kind = Assign; wakes = any 0 ∷ any 1 ∷ []; body = loop_body b }))

abbrev loop_calls : List Call
loop_calls = Advance ∷ Advance ∷ Advance ∷ Deposit 0 (Zero ∷ []) ∷ Advance ∷ Advance ∷ Advance ∷ Advance ∷ []

loop_answers : (b : Box Term Global) → answers loop_calls (loop b)
    ≡ Moved None [] 0 region.Active ∷ Moved (tells 1 (X ∷ [])) [] 0 region.Active ∷ Moved None [] 0 region.Active
    ∷ Moved (tells 0 (Zero ∷ [])) [] 0 region.Active
    ∷ Moved None [] 0 region.Active ∷ Moved (tells 1 (Zero ∷ [])) [] 0 region.Active ∷ Moved None [] 0 region.Active ∷ Idle ∷ []
unfolding answers
loop_answers b = refl

abbrev is_idle : Content → Bool
is_idle c = idle c.procs c.state c.keys

loop_is_busy : (b : Box Term Global) → is_idle (loop b) ≡ false
loop_is_busy b = refl

loop_rests : (b : Box Term Global) → is_idle (content_after (Advance ∷ Advance ∷ Advance ∷ []) (loop b)) ≡ true
unfolding content_after
loop_rests b = refl

loop_counts : (b : Box Term Global) → (content_after loop_calls (loop b)).counts ≡ no_counts
unfolding content_after
loop_counts b = refl

-- ---- `always @(posedge clk) q <= #3 a;`

-- the update alone makes a time step, in which NextStep fires; the second edge's update comes in the time step of a key, after what fires
abbrev delay_calls : List Call
delay_calls =
    Register key.NextStep ∷ Deposit 0 (One ∷ []) ∷ Advance ∷ Advance ∷ Advance ∷ Advance
    ∷ Deposit 1 flip_one ∷ Deposit 0 (Zero ∷ []) ∷ Deposit 0 (One ∷ []) ∷ Advance ∷ Register (key.At 6) ∷ Advance ∷ Advance ∷ Advance ∷ []

delay_answers : answers delay_calls (flop_after 3)
    ≡ Done ∷ Moved (tells 0 (One ∷ [])) [] 0 region.Begin
    ∷ Moved None [] 0 region.Active
    ∷ Moved None (key.NextStep ∷ []) 3 region.Begin
    ∷ Moved (tells 2 (replicate 8 Z)) [] 3 region.Active
    ∷ Idle
    ∷ Moved (tells 1 flip_one) [] 3 region.Active ∷ Moved (tells 0 (Zero ∷ [])) [] 3 region.Active ∷ Moved (tells 0 (One ∷ [])) [] 3 region.Active
    ∷ Moved None [] 3 region.Active
    ∷ Done ∷ Moved None (key.At 6 ∷ []) 6 region.Begin
    ∷ Moved (tells 2 flip_one) [] 6 region.Active
    ∷ Idle ∷ []
unfolding answers
delay_answers = refl

-- an update at the latest time, and one that would come after it and is given up
latest_waits : length (content_after (Deposit 0 (One ∷ []) ∷ Advance ∷ []) (flop_after latest_update)).state.delayed ≡ 1
unfolding content_after
latest_waits = refl

later_is_given_up : (content_after (Deposit 0 (One ∷ []) ∷ Advance ∷ []) (flop_after (latest_update + 1))).state.delayed ≡ []
unfolding content_after
later_is_given_up = refl

-- ---- `module top(input a, output y, output reg q); assign y = ~a; endmodule`, with forced signals

abbrev inverter_body : Box Term Global → Act
inverter_body b = Blocking (Whole (object.Signal (sig 1) 1)) (Unary Invert (boxed b (term.Signal (sig 0) 1)))

abbrev inverter : Box Term Global → Content
inverter b = opening (design (wire 1 ∷ wire 1 ∷ reg 1 ∷ []) (record { kind = Assign; wakes = any 0 ∷ []; body = inverter_body b }))

abbrev force_calls : List Call
force_calls =
    Advance ∷ Advance  -- the net is driven
    ∷ Register (key.Fall (sig 1)) ∷ Force 1 (Zero ∷ []) ∷ Force 1 (Zero ∷ [])  -- the second is no change
    ∷ Deposit 0 (One ∷ []) ∷ Advance ∷ Advance  -- its driver writes 0, which is hidden
    ∷ Deposit 0 (Zero ∷ []) ∷ Advance  -- and 1
    ∷ Release 1 ∷ Release 1  -- it shows its driver's value, and is forced no more
    ∷ Force 2 (One ∷ []) ∷ Deposit 2 (Zero ∷ []) ∷ Release 2 ∷ Deposit 2 (Zero ∷ []) ∷ []  -- a register goes on with what it shows

force_answers : (b : Box Term Global) → answers force_calls (inverter b)
    ≡ Moved None [] 0 region.Active ∷ Moved (tells 1 (X ∷ [])) [] 0 region.Active
    ∷ Done ∷ Moved (tells 1 (Zero ∷ [])) (key.Fall (sig 1) ∷ []) 0 region.Active ∷ Moved None [] 0 region.Active
    ∷ Moved (tells 0 (One ∷ [])) [] 0 region.Active ∷ Moved None [] 0 region.Active ∷ Idle
    ∷ Moved (tells 0 (Zero ∷ [])) [] 0 region.Active ∷ Moved None [] 0 region.Active
    ∷ Moved (tells 1 (One ∷ [])) [] 0 region.Active ∷ Moved None [] 0 region.Active
    ∷ Moved (tells 2 (One ∷ [])) [] 0 region.Active ∷ Moved None [] 0 region.Active ∷ Moved None [] 0 region.Active
    ∷ Moved (tells 2 (Zero ∷ [])) [] 0 region.Active ∷ []
unfolding answers
force_answers b = refl
