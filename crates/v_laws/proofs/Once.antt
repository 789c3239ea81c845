-- No digit of a signal is changed by two continuous assignments of a design.
use Rattle.std.proofs.Common.{◌≡◌, ◌+◌, ◌<◌, ◌≤◌, ◌⊎◌, inl, inr, ◌∙◌, ℕ, List, [], ◌∷◌, length, nat_le, slice_get, Option, Some, None, Ok, refl, sym, ap, arith, length-append}
use Rattle.four_value.proofs.Lengths.{length_resize}
use Rattle.gpi.specs.declared.design.Kind.TheVariants as process_kind
use Rattle.gpi.specs.declared.design.Wake.{Wake}
use Rattle.gpi.specs.Design.{Proc}
use Rattle.gpi.specs.Terms.{read}
use Rattle.v_syntax.specs.declared.statement.Identifier.{Identifier}
use Rattle.v_syntax.specs.declared.item.Direction.TheVariants as direction
use Rattle.v_syntax.specs.StatementTrees.{StatementTree}
use Rattle.v_syntax.specs.SourceTrees.{NetTree, Net as NetOf, Words, Initially, RegisterTree, Register as RegisterOf, DriverTree, Driver, ControlTree, Implicit, Events, ConnectionsTree, KindTree, Ports, Nets, Registers, Integers, Parameters, Drivers, Always, Initial, Instance, ModuleTree}
use Rattle.v_flat.specs.declared.scope.rule.ElabRule.TheVariants as rule
use Rattle.v_flat.specs.declared.scope.found.Found.{Found}
use Rattle.v_flat.specs.declared.scope.found.Found.TheVariants.{Sound}
use Rattle.v_flat.specs.declared.scope.meaning.DataKind.TheVariants.{Input, Net}
use Rattle.v_flat.specs.declared.scope.meaning.DataObject.{DataObject}
use Rattle.v_flat.specs.Scope.Found.{Holds, both, wants, HoldsOk}
use Rattle.v_flat.specs.Scope.Limits.{most_parts}
use Rattle.v_flat.specs.Checks.{checked}
use Rattle.v_flat.specs.Targets.{Drive, driving, target_width, updates}
use Rattle.v_flat.specs.declared.timing.Timing.{Timing}
use Rattle.v_flat.specs.Statements.{assigned_value, reads, statement_checked, statement_reads}
use Rattle.v_flat.specs.Headers.{module_name, Port, all_names, later, parameters_of, ports_of}
use Rattle.v_flat.specs.Declarations.{Declared, Entries, Given, declarations, in_order, parameters, signals_in}
use Rattle.v_flat.specs.Paths.{Path}
use Rattle.v_flat.specs.Design.{Design, Joints, Modules, Outside, State, adding, all_signals, always, always_item, assigning, beginning, closed, driver, events_of, flat_design, in_turn, initial_item, instance_checked, net, net_count, opened, place_of, plain_item, port_joints, register, register_count, running, timing_of, wakes_of, whole_of, with_child}
use Rattle.v_flat.proofs.Holds.{holds_any, holds_both, holds_each, holds_then, holds_wants}
use Rattle.v_flat.proofs.ShapeLemmas.Kept.{joints_keep}
use Rattle.v_flat.proofs.ShapeLemmas.Signals.{all_many}
use Rattle.v_flat.proofs.ShapeLemmas.Walk.{opening, scope_of}
use Rattle.v_flat.proofs.ShapeLemmas.Ports.{ports_apart}
use Rattle.v_laws.specs.Digits.{Changes, IsDriven}
use Rattle.v_laws.specs.Drivers.{NetsHaveNoWords}
use Rattle.v_laws.proofs.Along.{PortsDiffer, Steps, design_holds, outside_of}
use Rattle.v_laws.proofs.Applied.{changed_written}
use Rattle.v_laws.proofs.Directions.{ArePlain, HasDirection, directed, plain_declared}
use Rattle.v_laws.proofs.Driven.{GoesOn, IsNet, driving_goes}
use Rattle.v_laws.proofs.Found.{of_ok}
use Rattle.v_laws.proofs.Joined.{AreJoined, IsJoined, checked_joined}
use Rattle.v_laws.proofs.Members.{Member}
use Rattle.v_laws.proofs.Opening.{AreApart, AreOpened, IsInput, opened_apart}
use Rattle.v_laws.proofs.Places.{HasScope, IsPlaced, constants_are, has_scope, input_or_output, net_words, order_plain, placed_in, placed_once}
use Rattle.v_laws.proofs.Recorded.{TargetRecorded, target_recorded}
use Rattle.v_laws.proofs.Taken.{Assigns, Once, Taken, once_last, one_each, taken_last}

-- ---- between two items

-- signal n is that of a net of the instance
record IsOwnNet (first : ℕ) (ds : List Declared) (n : ℕ) : Type 0 where
  name : List ℕ
  object : DataObject
  placed : IsPlaced name object first ds
  kind : object.kind ≡ Net
  is : object.first ≡ n

-- where a digit that is changed comes from: it was changed before the instance, is driven by one of its outputs above, is one of its inputs,
-- is driven in it, or belongs to an instance below
abbrev Origin : ModuleTree → Outside → Design → List Declared → List Drive → ℕ → ℕ → Type 0
Origin m out d ds driven n k =
    Taken d.processes n k ⊎ (((p : Port) × Member p (ports_of m) × (IsJoined out.scope out.joints p n k ⊎ IsInput (length d.signals) ds p n))
    ⊎ (IsDriven driven n k ⊎ (length d.signals + signals_in ds ≤ n)))

abbrev Starts : ModuleTree → Outside → Design → Type 0
Starts m out d = AreApart out.scope out.joints (ports_of m) d

record Amid (m : ModuleTree) (out : Outside) (d : Design) (ds : List Declared) (s : State) : Type 0 where
  starts : Starts m out d
  scope : HasScope (length d.signals) ds s.scope
  plain : ArePlain ds
  once : Once s.design.processes
  within : (n k : ℕ) → Taken s.design.processes n k → Origin m out d ds s.driven n k
  nets : (n k : ℕ) → IsDriven s.driven n k → IsOwnNet (length d.signals) ds n
  signals : length d.signals + signals_in ds ≤ length s.design.signals
  low : (n k : ℕ) → Taken s.design.processes n k → n < length s.design.signals

-- behind an instance
record Behind (m : ModuleTree) (out : Outside) (d e : Design) : Type 0 where
  once : Once e.processes
  low : (n k : ℕ) → Taken e.processes n k → n < length e.signals
  signals : length d.signals ≤ length e.signals
  within : (n k : ℕ) → Taken e.processes n k → Taken d.processes n k ⊎ (((p : Port) × Member p (ports_of m) × IsJoined out.scope out.joints p n k) ⊎ (length d.signals ≤ n))

module _ (m : ModuleTree) (out : Outside) (d : Design) (ds : List Declared) where
  net_above : (n : ℕ) → IsOwnNet (length d.signals) ds n → length d.signals ≤ n
  net_above n i = let r = (placed_in i.name i.object (length d.signals) ds i.placed).0 in let e = i.is in omega (arith, r, e)

  net_below : (n : ℕ) → IsOwnNet (length d.signals) ds n → n < length d.signals + signals_in ds
  net_below n i = let r = (placed_in i.name i.object (length d.signals) ds i.placed).1 in let e = i.is in omega (arith, r, e)

  -- a digit of a net that isn't driven is changed by none so far
  not_taken : (s : State) → Amid m out d ds s → (n k : ℕ) → IsOwnNet (length d.signals) ds n → (IsDriven s.driven n k → ⊥) → Taken s.design.processes n k → ⊥
  not_taken s h n k i not t = go (h.within n k t)
    where
      above : length d.signals ≤ n
      above = net_above n i

      go : Origin m out d ds s.driven n k → ⊥
      go (inl a) = let u = h.starts.old n k a in absurd (omega (arith, u, above))
      go (inr (inl (p, here, inl j))) = let u = h.starts.low p n k here j in absurd (omega (arith, u, above))
      go (inr (inl (p, here, inr j))) =
          let e = (placed_once p.name i.name j.object i.object (length d.signals) ds j.placed i.placed (j.is ∙ sym i.is)).1 in
          let f : Input ≡ Net = sym j.kind ∙ ap (λ (x : DataObject). x.kind) e ∙ i.kind in cc
      go (inr (inr (inl a))) = not a
      go (inr (inr (inr a))) = let u = net_below n i in absurd (omega (arith, u, a))

  no_words : (s : State) → Amid m out d ds s → NetsHaveNoWords s.scope
  no_words s h n o e k = net_words (length d.signals) ds h.plain n o (h.scope n o e) k

  own_net : (s : State) → Amid m out d ds s → (n : ℕ) → IsNet s.scope n → IsOwnNet (length d.signals) ds n
  own_net s h n i = record { name = i.name; object = i.object; placed = h.scope i.name i.object i.found; kind = i.kind; is = i.first }

  nets_on : (s : State) (es : List Drive) → Amid m out d ds s → GoesOn s.scope s.driven es → (n k : ℕ) → IsDriven es n k → IsOwnNet (length d.signals) ds n
  nets_on s es h g n k b = go (g.nets n k b)
    where
      go : IsDriven s.driven n k ⊎ IsNet s.scope n → IsOwnNet (length d.signals) ds n
      go (inl a) = h.nets n k a
      go (inr i) = own_net s h n i

  origin_on : (es fs : List Drive) → ((n k : ℕ) → IsDriven es n k → IsDriven fs n k) → (n k : ℕ) → Origin m out d ds es n k → Origin m out d ds fs n k
  origin_on es fs f n k (inl a) = inl a
  origin_on es fs f n k (inr (inl a)) = inr (inl a)
  origin_on es fs f n k (inr (inr (inl a))) = inr (inr (inl (f n k a)))
  origin_on es fs f n k (inr (inr (inr a))) = inr (inr (inr a))

  -- ---- items that are no instances

  -- a process whose digits are driven and weren't before
  adds : (s : State) (p : Proc) (es : List Drive) → Amid m out d ds s → GoesOn s.scope s.driven es → ((n k : ℕ) → Assigns p n k → IsDriven es n k × (IsDriven s.driven n k → ⊥)) → Amid m out d ds (adding p es s)
  adds s p es h g f = record {
    starts = h.starts;
    scope = h.scope;
    plain = h.plain;
    once = once_last s.design.processes p h.once (λ n k a t. not_taken s h n k (nets_on s es h g n k (f n k a).0) (f n k a).1 t);
    within = λ n k t. within n k (taken_last s.design.processes p n k t);
    nets = nets_on s es h g;
    signals = h.signals;
    low = λ n k t. low n k (taken_last s.design.processes p n k t);
  }
    where
      within : (n k : ℕ) → Taken s.design.processes n k ⊎ Assigns p n k → Origin m out d ds es n k
      within n k (inl t) = origin_on s.driven es g.keeps n k (h.within n k t)
      within n k (inr a) = inr (inr (inl (f n k a).0))

      low : (n k : ℕ) → Taken s.design.processes n k ⊎ Assigns p n k → n < length s.design.signals
      low n k (inl t) = h.low n k t
      low n k (inr a) = let u = net_below n (nets_on s es h g n k (f n k a).0) in let v = h.signals in omega (arith, u, v)

  -- a process that is no continuous assignment
  adds_other : (s : State) (p : Proc) → ((p.kind ≡ process_kind.Assign) → ⊥) → Amid m out d ds s → Amid m out d ds (adding p s.driven s)
  adds_other s p not h = adds s p s.driven h (record { keeps = λ n k a. a; nets = λ n k a. inl a }) (λ n k a. absurd (not a.0))

  driver_amid : (x : DriverTree) (s : State) → Amid m out d ds s → Holds (Amid m out d ds) (driver x s)
  driver_amid (Driver t e) s h =
      holds_each (λ (w : ℕ × ℕ). TargetRecorded s.scope t s.driven (driving None s.scope t s.driven).driven × Unit {0}) (Amid m out d ds)
      (λ w. adding (assigning s.scope t e s.design) (driving None s.scope t s.driven).driven s) (both (driving None s.scope t s.driven).width (checked s.scope e))
      (holds_both (λ (w : ℕ). TargetRecorded s.scope t s.driven (driving None s.scope t s.driven).driven) (λ (w : ℕ). Unit {0}) (driving None s.scope t s.driven).width (checked s.scope e)
      (target_recorded None s.scope (no_words s h) t s.driven) (holds_any (checked s.scope e)))
      (λ w g. adds s (assigning s.scope t e s.design) (driving None s.scope t s.driven).driven h (driving_goes None s.scope t s.driven) (λ n k a. drives g.0 n k a))
    where
      drives : TargetRecorded s.scope t s.driven (driving None s.scope t s.driven).driven → (n k : ℕ) → Assigns (assigning s.scope t e s.design) n k
          → IsDriven (driving None s.scope t s.driven).driven n k × (IsDriven s.driven n k → ⊥)
      drives g n k a =
          let w = changed_written process_kind.Assign (wakes_of (reads s.scope e) s.design) (λ m. updates s.scope t (read m) (assigned_value (target_width s.scope t) s.scope e (read m))) n k a.1 in
          g (read w.0) (assigned_value (target_width s.scope t) s.scope e (read w.0)) (let l : length (assigned_value (target_width s.scope t) s.scope e (read w.0)) ≡ target_width s.scope t = length_resize _ (target_width s.scope t) in omega (arith, l)) n k w.1

  net_amid : (x : NetTree) (s : State) → Amid m out d ds s → Holds (Amid m out d ds) (net x s)
  net_amid (NetOf i None) s h = h
  net_amid (NetOf i (Some e)) s h = driver_amid (Driver (whole_of i) e) s h

  register_amid : (x : RegisterTree) (s : State) → Amid m out d ds s → Holds (Amid m out d ds) (register x s)
  register_amid (RegisterOf i None) s h = h
  register_amid (RegisterOf i (Some (Words r))) s h = h
  register_amid (RegisterOf i (Some (Initially e))) s h =
      holds_each (λ (w : ℕ). Unit {0}) (Amid m out d ds) (λ w. adding (beginning s.scope (whole_of i) e) s.driven s) (checked s.scope e) (holds_any (checked s.scope e))
      (λ w u. adds_other s (beginning s.scope (whole_of i) e) (λ f. cc) h)

  turn_amid : {A : Type 0} (f : A → State → Found State) (xs : List A) (s : State) → ((x : A) (t : State) → Amid m out d ds t → Holds (Amid m out d ds) (f x t)) → Amid m out d ds s
      → Holds (Amid m out d ds) (in_turn f xs s)
  turn_amid f [] s g h = h
  turn_amid f (x ∷ rest) s g h = holds_then (Amid m out d ds) (Amid m out d ds) (f x s) (in_turn f rest) (g x s h) (λ t k. turn_amid f rest t g k)

  always_amid : (timing : Timing) (c : ControlTree) (b : StatementTree) (s : State) → Amid m out d ds s → Holds (Amid m out d ds) (always_item timing c b s)
  always_amid timing Implicit b s h =
      holds_each (λ (u : Unit {0}). Unit {0}) (Amid m out d ds) (λ u. always timing (wakes_of (statement_reads s.scope b) s.design) b s) (statement_checked timing s.scope b) (holds_any (statement_checked timing s.scope b))
      (λ x u. adds_other s (record { kind = process_kind.Always; wakes = wakes_of (statement_reads s.scope b) s.design; run = running timing s.scope b }) (λ f. cc) h)
  always_amid timing (Events es) b s h =
      holds_each (λ (x : List Wake × Unit {0}). Unit {0}) (Amid m out d ds) (λ x. always timing x.0 b s) (both (events_of s.scope es) (statement_checked timing s.scope b)) (holds_any (both (events_of s.scope es) (statement_checked timing s.scope b)))
      (λ x u. adds_other s (record { kind = process_kind.Always; wakes = x.0; run = running timing s.scope b }) (λ f. cc) h)

  initial_amid : (timing : Timing) (b : StatementTree) (s : State) → Amid m out d ds s → Holds (Amid m out d ds) (initial_item timing b s)
  initial_amid timing b s h =
      holds_each (λ (u : Unit {0}). Unit {0}) (Amid m out d ds) (λ u. adding (record { kind = process_kind.Initial; wakes = []; run = running timing s.scope b }) s.driven s) (statement_checked timing s.scope b) (holds_any (statement_checked timing s.scope b))
      (λ x u. adds_other s (record { kind = process_kind.Initial; wakes = []; run = running timing s.scope b }) (λ f. cc) h)

  room_amid : (p n : ℕ) (s : State) (x : Found State) → Holds (Amid m out d ds) x → Holds (Amid m out d ds) (wants (nat_le (length s.design.processes + n) most_parts) rule.TooMany p x)
  room_amid p n s x h = holds_wants (Amid m out d ds) (nat_le (length s.design.processes + n) most_parts) rule.TooMany p x (λ u. h)

  plain_amid : (timing : Timing) (p : ℕ) (k : KindTree) (s : State) → Amid m out d ds s → Holds (Amid m out d ds) (plain_item timing p k s)
  plain_amid timing p (Nets r ns) s h = room_amid p (net_count ns) s (in_turn net ns s) (turn_amid net ns s net_amid h)
  plain_amid timing p (Registers r rs) s h = room_amid p (register_count rs) s (in_turn register rs s) (turn_amid register rs s register_amid h)
  plain_amid timing p (Drivers xs) s h = room_amid p (length xs) s (in_turn driver xs s) (turn_amid driver xs s driver_amid h)
  plain_amid timing p (Always c b) s h = room_amid p 1 s (always_item timing c b s) (always_amid timing c b s h)
  plain_amid timing p (Initial b) s h = room_amid p 1 s (initial_item timing b s) (initial_amid timing b s h)
  plain_amid timing p (Ports q is) s h = h
  plain_amid timing p (Integers is) s h = h
  plain_amid timing p (Parameters q r ps) s h = h
  plain_amid timing p (Instance n v i c) s h = h

  -- ---- instances

  joined_in : (p : ℕ) (v : Option ConnectionsTree) (i : Identifier) (c : Option ConnectionsTree) (s : State) (n : ModuleTree) (x : List Given × Joints) → Amid m out d ds s → instance_checked p v i c s n ≡ Sound x
      → PortsDiffer n → AreJoined (ports_of n) s.scope s.driven x.1
  joined_in p v i c s n x h e apart = checked_joined s (no_words s h) p v i c n x e apart

  given_starts : (s : State) (n : ModuleTree) (x : List Given × Joints) → Amid m out d ds s → AreJoined (ports_of n) s.scope s.driven x.1 → Starts n (outside_of s x) s.design
  given_starts s n x h j = record {
    once = h.once;
    old = h.low;
    low = λ p i k here a. (let u = net_below i (net p i k here a) in let v = h.signals in omega (arith, u, v));
    new = λ p i k here a t. not_taken s h i k (net p i k here a) (j.new p i k here a).1 t;
    apart = j.apart;
  }
    where
      net : (p : Port) (i k : ℕ) → Member p (ports_of n) → IsJoined s.scope x.1.list p i k → IsOwnNet (length d.signals) ds i
      net p i k here a = nets_on s x.1.driven h j.goes i k (j.new p i k here a).0

  inner_amid : (i : Identifier) (s : State) (n : ModuleTree) (x : List Given × Joints) (e : Design) → Amid m out d ds s → AreJoined (ports_of n) s.scope s.driven x.1 → Behind n (outside_of s x) s.design e
      → Amid m out d ds (with_child i.name (length s.design.nodes) x.1.driven s e)
  inner_amid i s n x e h j b = record {
    starts = h.starts;
    scope = h.scope;
    plain = h.plain;
    once = b.once;
    within = λ a k t. within a k (b.within a k t);
    nets = nets_on s x.1.driven h j.goes;
    signals = let u = h.signals in let v = b.signals in omega (arith, u, v);
    low = b.low;
  }
    where
      within : (a k : ℕ) → Taken s.design.processes a k ⊎ (((p : Port) × Member p (ports_of n) × IsJoined s.scope x.1.list p a k) ⊎ (length s.design.signals ≤ a)) → Origin m out d ds x.1.driven a k
      within a k (inl t) = origin_on s.driven x.1.driven j.goes.keeps a k (h.within a k t)
      within a k (inr (inl (p, here, t))) = inr (inr (inl (j.new p a k here t).0))
      within a k (inr (inr t)) = inr (inr (inr (let u = h.signals in omega (arith, u, t))))

  closes_behind : (path : Path) (t : State) → Amid m out d ds t → Behind m out d (closed path (length d.nodes) t)
  closes_behind path t h = record {
    once = h.once;
    low = h.low;
    signals = let u = h.signals in omega (arith, u);
    within = λ n k a. within n k (h.within n k a);
  }
    where
      within : (n k : ℕ) → Origin m out d ds t.driven n k → Taken d.processes n k ⊎ (((p : Port) × Member p (ports_of m) × IsJoined out.scope out.joints p n k) ⊎ (length d.signals ≤ n))
      within n k (inl a) = inl a
      within n k (inr (inl (p, here, inl a))) = inr (inl (p, here, a))
      within n k (inr (inl (p, here, inr a))) = inr (inr (let u = (placed_in p.name a.object (length d.signals) ds a.placed).0 in let e = a.is in omega (arith, u, e)))
      within n k (inr (inr (inl a))) = inr (inr (net_above n (h.nets n k a)))
      within n k (inr (inr (inr a))) = inr (inr (omega (arith, a)))

-- ---- the beginning of an instance

module _ (m : ModuleTree) (path : Path) (out : Outside) (d : Design) (constants : Entries) (ds : List Declared) (starts : Starts m out d)
    (first : parameters (parameters_of m) out.given (later (all_names m)) [] ≡ Ok constants) (second : declarations (place_of m constants d) m ≡ Ok ds) where
  abbrev own : List Declared
  own = in_order (ports_of m) ds

  scope_is : HasScope (length d.signals) own (scope_of constants d own)
  scope_is = has_scope constants d own (constants_are (parameters_of m) out.given (later (all_names m)) constants first)

  directions : (p : Port) (o : DataObject) → Member p (ports_of m) → IsPlaced p.name o (length d.signals) own → (p.direction ≡ Some direction.Output) ⊎ ((p.direction ≡ Some direction.Input) × (o.kind ≡ Input))
  directions p o here at =
      input_or_output (length d.signals) p (ports_of m) ds here (of_ok (HasDirection p) (declarations (place_of m constants d) m) ds (directed (place_of m constants d) m p refl here) second) o at

  opens_amid : Amid m out d own (opening m path out d (scope_of constants d own) own)
  opens_amid = record {
    starts = starts;
    scope = scope_is;
    plain = order_plain (ports_of m) ds (of_ok ArePlain (declarations (place_of m constants d) m) ds (plain_declared (place_of m constants d) m) second);
    once = known.once;
    within = λ n k t. within n k (known.within n k t);
    nets = λ n k a. absurd a;
    signals = let e = many in omega (arith, e);
    low = λ n k t. low n k (known.within n k t);
  }
    where
      after : Design
      after = port_joints out.scope out.joints (scope_of constants d own) (ports_of m) (opened path own d)

      known : AreOpened out.scope out.joints (ports_of m) d starts own (scope_of constants d own) scope_is directions after
      known = opened_apart out.scope out.joints (ports_of m) d starts own (scope_of constants d own) scope_is directions (opened path own d) refl (ports_apart (place_of m constants d) m ds second)

      many : length after.signals ≡ length d.signals + signals_in own
      many =
          ap length (joints_keep out.scope out.joints (scope_of constants d own) (ports_of m) (opened path own d)).signals ∙ length-append d.signals (all_signals path (length d.signals) own)
          ∙ ap (λ n. length d.signals + n) (all_many path (length d.signals) own)

      within : (n k : ℕ) → Taken d.processes n k ⊎ ((p : Port) × Member p (ports_of m) × (IsJoined out.scope out.joints p n k ⊎ IsInput (length d.signals) own p n)) → Origin m out d own [] n k
      within n k (inl t) = inl t
      within n k (inr a) = inr (inl a)

      low : (n k : ℕ) → Taken d.processes n k ⊎ ((p : Port) × Member p (ports_of m) × (IsJoined out.scope out.joints p n k ⊎ IsInput (length d.signals) own p n)) → n < length after.signals
      low n k (inl t) = let u = starts.old n k t in let e = many in omega (arith, u, e)
      low n k (inr (p, here, inl a)) = let u = starts.low p n k here a in let e = many in omega (arith, u, e)
      low n k (inr (p, here, inr a)) = let u = (placed_in p.name a.object (length d.signals) own a.placed).1 in let e = many in let f = a.is in omega (arith, u, e, f)

-- ---- the whole

once_steps : (ms : Modules) → Steps ms Starts Behind Amid
once_steps ms = record {
  opens = λ m path out d constants ds h first second. opens_amid m path out d constants ds h first second;
  plain = λ m out d ds p k s here h. plain_amid m out d ds (timing_of ms (module_name m).name) p k s h;
  given = λ m out d ds p v i c s n x h among e apart. given_starts m out d ds s n x h (joined_in m out d ds p v i c s n x h e apart);
  inner = λ m out d ds p v i c s n x e h f apart b. inner_amid m out d ds i s n x e h (joined_in m out d ds p v i c s n x h f apart) b;
  closes = λ m path out d ds t h. closes_behind m out d ds path t h;
}

-- no digit of a signal is changed by two continuous assignments
abbrev pub OneAssignment : Design → Type 0
OneAssignment d = (i j : ℕ) (p q : Proc) (n k : ℕ) → slice_get d.processes i ≡ Some p → slice_get d.processes j ≡ Some q → p.kind ≡ process_kind.Assign → q.kind ≡ process_kind.Assign
    → Changes p n k → Changes q n k → i ≡ j

pub one_assignment : (ms : Modules) (top : Option (List ℕ)) → HoldsOk OneAssignment (flat_design ms top)
one_assignment ms top =
    design_holds ms Starts Behind Amid (once_steps ms) OneAssignment
    (λ m among. record {
      once = tt;
      old = λ n k t. absurd t;
      low = λ p n k here j. absurd (let e = j.found in cc);
      new = λ p n k here j t. t;
      apart = λ p q n k here there ne j i. absurd (let e = j.found in cc);
    })
    (λ m out e b i j p q n k f g a c x y. one_each e.processes b.once i j p q n k f g (a, x) (c, y)) top
