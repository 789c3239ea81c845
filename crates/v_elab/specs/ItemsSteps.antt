-- A means of proof: the steps in which an item's processes are added.
use Rattle.std.specs.Prelude.{◌≡◌, ℕ, ◌+◌, List, [], ◌∷◌, ◌++◌, length, nat_le, Option, None, Some, Bool, true, false}
use Rattle.gpi.specs.declared.design.Wake.{Wake}
use Rattle.gpi.specs.declared.design.Process.{Process}
use Rattle.v_syntax.specs.declared.item.RegisterTail.{RegisterTail}
use Rattle.v_syntax.specs.declared.item.RegisterTail.TheVariants as tail
use Rattle.v_syntax.specs.StatementTrees.{StatementTree}
use Rattle.v_syntax.specs.SourceTrees.{ControlTree, Implicit, Events, KindTree, Nets, Registers, Drivers, Always, Initial}
use Rattle.v_flat.specs.declared.scope.found.Found.{Found}
use Rattle.v_flat.specs.declared.scope.found.Found.TheVariants.{Sound, Noted, Lost}
use Rattle.v_flat.specs.Scope.Found.{and_then, EachIs, ForValue, Holds}
use Rattle.v_flat.specs.Scope.Limits.{most_parts}
use Rattle.v_flat.specs.Scope.Scope.{Scope}
use Rattle.v_flat.specs.Statements.{statement_reads}
use Rattle.v_flat.specs.declared.timing.Timing.{Timing}
use Rattle.v_flat.specs.Design.{Design, State, wakes_of, events_of, in_turn, net, register, driver, always_item, initial_item, net_count, register_count}
use Rattle.v_elab.specs.declared.state.State as code
use Rattle.v_elab.specs.States.{GoesOn, IsState, Stays}

-- f is what is found in a part of an item, where u is what the definition finds in it, in any state: the same rule is broken first, and
-- where one is, it goes on as the definition does; where none is, it is the state that the definition has then
pub record IsStep (u : State → Found State) (x : code.State) (f : Found code.State) : Type 0 where
  pub goes_on : (s : State) → GoesOn s x → EachIs GoesOn (u s) f
  pub sound : (s : State) → IsState s x → Holds (λ (y : code.State). Holds (λ (t : State). IsState t y) (u s)) f
  pub stays : ForValue (λ (y : code.State). Stays x y) f

-- y is x with this process behind the others
pub record Adds (p : Process) (x y : code.State) : Type 0 where
  pub scope : y.scope ≡ x.scope
  pub driven : y.driven ≡ x.driven
  pub children : y.children ≡ x.children
  pub signals : y.parts.signals ≡ x.parts.signals
  pub nodes : y.parts.nodes ≡ x.parts.nodes
  pub processes : y.parts.processes ≡ x.parts.processes ++ p ∷ []

-- the process that was found is added; where a rule is broken, none is
abbrev pub AddsFound : code.State → Found Process → Found code.State → Type 0
AddsFound x (Sound p) (Sound y) = Adds p x y
AddsFound x (Sound p) (Noted c y) = ⊥
AddsFound x (Sound p) (Lost c) = ⊥
AddsFound x (Noted b p) (Sound y) = ⊥
AddsFound x (Noted b p) (Noted c y) = (b ≡ c) × (y ≡ x)
AddsFound x (Noted b p) (Lost c) = ⊥
AddsFound x (Lost b) (Sound y) = ⊥
AddsFound x (Lost b) (Noted c y) = ⊥
AddsFound x (Lost b) (Lost c) = b ≡ c

-- what an `always` with this statement waits for
abbrev pub awaited : Scope → ControlTree → StatementTree → Design → Found (List Wake)
awaited s Implicit a d = Sound (wakes_of (statement_reads s a) d)
awaited s (Events es) a d = events_of s es

-- g is what is found in the step v too, behind what was found before it
abbrev pub GoesThrough : (State → Found State) → Found code.State → Found code.State → Type 0
GoesThrough v f g = (u : State → Found State) (x : code.State) → IsStep u x f → IsStep (λ s. and_then (u s) v) x g

-- ---- a whole item, by its limit and what else is found in it

-- whether a register has an opening value
abbrev pub is_opening : Option RegisterTail → Bool
is_opening (Some (tail.Value e)) = true
is_opening (Some (tail.Words r)) = false
is_opening None = false

abbrev pub leaves_room : KindTree → ℕ → Bool
leaves_room (Nets r ns) n = nat_le (n + net_count ns) most_parts
leaves_room (Registers r rs) n = nat_le (n + register_count rs) most_parts
leaves_room (Drivers ds) n = nat_le (n + length ds) most_parts
leaves_room (Always c a) n = nat_le (n + 1) most_parts
leaves_room (Initial a) n = nat_le (n + 1) most_parts
leaves_room _ n = true

abbrev pub item_step : Timing → KindTree → State → Found State
item_step timing (Nets r ns) s = in_turn net ns s
item_step timing (Registers r rs) s = in_turn register rs s
item_step timing (Drivers ds) s = in_turn driver ds s
item_step timing (Always c a) s = always_item timing c a s
item_step timing (Initial a) s = initial_item timing a s
item_step timing _ s = Sound s
