-- A means of proof: laws of what is read (IEEE 1364-2005, clauses 6.1.2 and 9.7.5), for the proofs of elaboration: on maps of the signals
-- that agree on it, the same is done.
use Rattle.std.specs.Prelude.{◌≡◌, ◌+◌, ◌≤◌, ◌⊎◌, ℕ, List, [], ◌∷◌, length, slice_get, Option, Some, true, is_some}
use Rattle.four_value.specs.declared.Digit.{Digit}
use Rattle.gpi.specs.declared.design.Kind.TheVariants as process_kind
use Rattle.gpi.specs.declared.design.Wake.{Wake}
use Rattle.gpi.specs.declared.design.WakeEdge.TheVariants.{Any}
use Rattle.gpi.specs.declared.types.Update.{Update}
use Rattle.gpi.specs.Activation.{Map, Hidden, Run, blocking, hidden_in}
use Rattle.gpi.specs.Design.{Proc}
use Rattle.gpi.specs.Terms.{read}
use Rattle.v_syntax.specs.declared.item.Event.{Event}
use Rattle.v_syntax.specs.ExpressionTrees.{Tree, TargetTree}
use Rattle.v_syntax.specs.StatementTrees.{StatementTree}
use Rattle.v_syntax.specs.SourceTrees.{Always, Events, Implicit, ItemAt, ModuleTree}
use Rattle.v_flat.specs.declared.scope.meaning.DataObject.{DataObject}
use Rattle.v_flat.specs.declared.scope.meaning.Meaning.TheVariants.{Object}
use Rattle.v_flat.specs.declared.scope.found.Found.TheVariants.{Sound}
use Rattle.v_flat.specs.Scope.Found.{Holds, HoldsOk}
use Rattle.v_flat.specs.Scope.Scope.{Scope, find}
use Rattle.v_flat.specs.Objects.{count_of}
use Rattle.v_flat.specs.Expressions.{Values, meaning}
use Rattle.v_flat.specs.Checks.{checked}
use Rattle.v_flat.specs.Targets.{target_checked, updates}
use Rattle.v_flat.specs.declared.timing.Timing.{Timing}
use Rattle.v_flat.specs.Statements.{Span, reads, statement_checked, statement_reads, target_read}
use Rattle.v_flat.specs.Headers.{items_in, module_name}
use Rattle.v_flat.specs.Design.{Design, Modules, State, adding, always_item, events_of, flat_design, from, is_read, running, timing_of}

-- the two have the same values of all signals that are read
abbrev pub AgreeOn : List Span → Values → Values → Type 0
AgreeOn xs m n = (k : ℕ) → is_read k xs ≡ true → m k ≡ n k

-- what an expression reads suffices for its value, in each context
abbrev pub Suffices : Scope → Tree → Type 0
Suffices s e = (w : ℕ) (m n : Values) → AgreeOn (reads s e) m n → meaning s e w m ≡ meaning s e w n

-- so it is of each expression in which no rule is broken, selects and words of memories among them
abbrev pub Expressions_read_enough : Type 0
Expressions_read_enough = (s : Scope) (e : Tree) → Holds (λ (w : ℕ). Suffices s e) (checked s e)

-- what the indices of a target read suffices for its updates
abbrev pub SettlesTarget : Scope → TargetTree → Type 0
SettlesTarget s t = (m n : Values) (bits : List Digit) → AgreeOn (target_read s t) m n → updates s t m bits ≡ updates s t n bits

-- so it is of each target of a procedure in which no rule is broken
abbrev pub Targets_read_enough : Type 0
Targets_read_enough = (s : Scope) (t : TargetTree) → Holds (λ (w : ℕ). SettlesTarget s t) (target_checked s t)

-- ---- statements

-- two maps of as many signals, with the same values of all that are read
abbrev pub AreAlike : List Span → Map → Map → Type 0
AreAlike xs m n = (length m ≡ length n) × AgreeOn xs (read m) (read n)

-- the same signals are forced
abbrev pub AreForcedAlike : Hidden → Hidden → Type 0
AreForcedAlike h g = (k : ℕ) → is_some (hidden_in h k) ≡ is_some (hidden_in g k)

-- updates that are made at once, and those that are left for later
abbrev pub leaving : List Update → Run → Run
leaving later r = record r { updates = later }

abbrev pub made_and_left : List Update → List Update → Run → Run
made_and_left at_once later r = leaving later (blocking at_once r)

-- the updates that an activation on m makes at once, and those that it leaves for later, where h are the hidden values: on each map that is like m
-- in what is read, and where the same signals are forced, it makes and leaves the same, in the same order
pub record Settled (timing : Timing) (s : Scope) (a : StatementTree) (m : Map) (h : Hidden) : Type 0 where
  pub at_once : List Update
  pub later : List Update
  pub same : (n : Map) (g : Hidden) → AreAlike (statement_reads s a) m n → AreForcedAlike h g → running timing s a n g ≡ made_and_left at_once later (from n g)

-- whatever the values are
abbrev pub IsSettled : Timing → Scope → StatementTree → Type 0
IsSettled timing s a = (m : Map) (h : Hidden) → Settled timing s a m h

-- so it is of each statement in which no rule is broken, as `@*` waits for what it reads: loops and what a statement reads after it was written among it
abbrev pub Statements_read_enough : Type 0
Statements_read_enough = (timing : Timing) (s : Scope) (a : StatementTree) → Holds (λ (u : Unit {0}). IsSettled timing s a) (statement_checked timing s a)

-- ---- processes

-- the process waits for any change of signal k
abbrev pub IsAwaited : List Wake → ℕ → Type 0
IsAwaited [] k = ⊥
IsAwaited (w ∷ ws) k = ((w.sig.0 ≡ k) × (w.edge ≡ Any)) ⊎ IsAwaited ws k

-- the updates that an activation on m makes at once, and those that it leaves for later, where h are the hidden values: on each map of as many
-- signals that agrees with m on all signals that the process waits for, and where the same signals are forced, it makes and leaves the same, in the
-- same order
pub record Waited (p : Proc) (m : Map) (h : Hidden) : Type 0 where
  pub at_once : List Update
  pub later : List Update
  pub same : (n : Map) (g : Hidden) → length m ≡ length n → ((k : ℕ) → IsAwaited p.wakes k → read m k ≡ read n k) → AreForcedAlike h g
      → p.run n g ≡ made_and_left at_once later (from n g)

-- what the process waits for suffices for all that it does
abbrev pub WaitsForEnough : Proc → Type 0
WaitsForEnough p = (m : Map) (h : Hidden) → Waited p m h

-- so it is of each continuous assignment of a design, those of connected ports among them
abbrev pub Assignments_wait_for_enough : Type 0
Assignments_wait_for_enough = (ms : Modules) (top : Option (List ℕ)) → HoldsOk (λ (d : Design). (i : ℕ) (p : Proc)
    → slice_get d.processes i ≡ Some p → p.kind ≡ process_kind.Assign → WaitsForEnough p) (flat_design ms top)

-- the process is that of an `always` of one of these modules with a list of events: it waits for these, and does that body
pub record ListsEvents (ms : Modules) (p : Proc) : Type 0 where
  pub number : ℕ
  pub own : ModuleTree
  pub is_one : slice_get ms.list number ≡ Some own
  pub line : ℕ
  pub place : ℕ
  pub events : List Event
  pub body : StatementTree
  pub has : slice_get (items_in own) line ≡ Some (ItemAt place (Always (Events events) body))
  pub scope : Scope
  pub waits : events_of scope events ≡ Sound p.wakes
  pub runs : p.run ≡ running (timing_of ms (module_name own).name) scope body

-- what each `always` of a design waits for suffices for all that it does, but for those that list events
abbrev pub Procedures_wait_for_enough : Type 0
Procedures_wait_for_enough = (ms : Modules) (top : Option (List ℕ)) → HoldsOk (λ (d : Design). (i : ℕ) (p : Proc)
    → slice_get d.processes i ≡ Some p → p.kind ≡ process_kind.Always → WaitsForEnough p ⊎ ListsEvents ms p) (flat_design ms top)

-- the signals of each object of the scope are among the first so many
abbrev pub Lies : Scope → ℕ → Type 0
Lies s most = (n : List ℕ) (o : DataObject) → find n s ≡ Some (Object o) → o.first + count_of o.words ≤ most

-- the item adds one process, which waits for enough
pub record AddsWaiting (s t : State) : Type 0 where
  pub process : Proc
  pub added : t ≡ adding process s.driven s
  pub waits : WaitsForEnough process

-- so it is of each `always @*` in which no rule is broken, where the names of its instance stand for signals of the design
abbrev pub Implicit_controls_wait_for_enough : Type 0
Implicit_controls_wait_for_enough = (timing : Timing) (s : State) (a : StatementTree) → Lies s.scope (length s.design.signals) → Holds (AddsWaiting s) (always_item timing Implicit a s)
