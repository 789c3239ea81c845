-- Continuous assignments give values to nets alone, and procedures to registers.
use Rattle.std.proofs.Common.{◌≡◌, ◌+◌, ◌-◌, ◌<◌, ◌≤◌, ◌⊎◌, inl, inr, ◌∙◌, ℕ, zero, suc, List, [], ◌∷◌, ◌++◌, length, nat_le, slice_get, Option, Some, None, Ok, Err, Result, refl, sym, ap, subst, arith, length-append}
use Rattle.std.proofs.lemmas.List.{append_assoc}
use Rattle.four_value.proofs.Lengths.{length_resize}
use Rattle.four_value.specs.declared.Digit.{Digit}
use Rattle.four_value.specs.declared.Digit.TheVariants.{Zero, One as OneDigit, X, Z}
use Rattle.four_value.specs.Vector.{resize}
use Rattle.gpi.specs.declared.design.Kind.{Kind}
use Rattle.gpi.specs.declared.design.Kind.TheVariants as process_kind
use Rattle.gpi.specs.declared.design.Wake.{Wake}
use Rattle.gpi.specs.declared.types.Update.{Update}
use Rattle.gpi.specs.Activation.{Hidden, Map}
use Rattle.gpi.specs.Design.{Proc}
use Rattle.gpi.specs.Targets.{whole_update}
use Rattle.gpi.specs.Terms.{read}
use Rattle.v_syntax.specs.declared.statement.Identifier.{Identifier}
use Rattle.v_syntax.specs.declared.item.Direction.{Direction}
use Rattle.v_syntax.specs.declared.item.Direction.TheVariants as direction
use Rattle.v_syntax.specs.ExpressionTrees.{Tree, TargetTree, Whole}
use Rattle.v_syntax.specs.StatementTrees.{StatementTree}
use Rattle.v_syntax.specs.SourceTrees.{RangeTree, NetTree, Net as NetOf, Words, Initially, RegisterTree, Register as RegisterOf, DriverTree, Driver, ControlTree, Implicit, Events, KindTree, Ports, Nets, Registers, Integers, Parameters, Drivers, Always, Initial, Instance, ItemAt, ModuleTree}
use Rattle.v_flat.specs.declared.scope.rule.Broken.{Broken}
use Rattle.v_flat.specs.declared.scope.rule.ElabRule.TheVariants as rule
use Rattle.v_flat.specs.declared.scope.found.Found.{Found}
use Rattle.v_flat.specs.declared.scope.found.Found.TheVariants.{Sound, Noted, Lost}
use Rattle.v_flat.specs.declared.scope.meaning.Bounds.{Bounds}
use Rattle.v_flat.specs.declared.scope.meaning.DataKind.{DataKind}
use Rattle.v_flat.specs.declared.scope.meaning.DataKind.TheVariants.{Input, Net, Register}
use Rattle.v_flat.specs.declared.scope.meaning.DataObject.{DataObject}
use Rattle.v_flat.specs.declared.scope.meaning.Meaning.{Meaning}
use Rattle.v_flat.specs.declared.scope.meaning.Meaning.TheVariants.{Constant, Object, Later}
use Rattle.v_flat.specs.Scope.Found.{Holds, HoldsOk, both, wants}
use Rattle.v_flat.specs.Scope.Limits.{most_parts}
use Rattle.v_flat.specs.Scope.Scope.{Scope, find, low_of, width_of}
use Rattle.v_flat.specs.Objects.{count_of}
use Rattle.v_flat.specs.Checks.{checked}
use Rattle.v_flat.specs.Targets.{Drive, as_target, driving, name_update, object_update, target_width, updates}
use Rattle.v_flat.specs.declared.timing.Timing.{Timing}
use Rattle.v_flat.specs.Statements.{activation, assigned_value, reads, statement_checked, statement_reads}
use Rattle.v_flat.specs.Headers.{module_name, Port, all_names, items_in, later, parameters_of, ports_of}
use Rattle.v_flat.specs.Declarations.{Declared, Entries, Given, declarations, in_order, parameters}
use Rattle.v_flat.specs.Paths.{Path, SignalAt, below}
use Rattle.v_flat.specs.Design.{Design, Joint, Joints, Modules, Outside, State, adding, all_signals, always, always_item, any_change, assigning, beginning, driver, events_of, find_joint, flat_design, from, in_turn, initial_item, input_joint, input_run, net, net_count, object_of, opened, output_run, output_target, place_of, plain_item, port_joint, port_joints, register, register_count, running, signals_of, start_of, timing_of, wakes_of, whole_of, with_child, word_signals}
use Rattle.v_flat.proofs.Holds.{holds_any, holds_both, holds_each, holds_then, holds_wants}
use Rattle.v_flat.proofs.ShapeLemmas.Kept.{joints_keep}
use Rattle.v_flat.proofs.ShapeLemmas.Walk.{opening, scope_of}
use Rattle.v_laws.specs.Digits.{Changes, Gives, IsDriven, IsWritten, Leaves}
use Rattle.v_laws.specs.Drivers.{NetsHaveNoWords, One_driver, Processes_keep_to_their_kind, start_for}
use Rattle.v_laws.proofs.Along.{Steps, design_holds, outside_of}
use Rattle.v_laws.proofs.Applied.{blocking_leaves, changed_written, updating}
use Rattle.v_laws.proofs.Directions.{ArePlain, HasDirection, directed, plain_declared}
use Rattle.v_laws.proofs.Driven.{IsNet, driving_goes}
use Rattle.v_laws.proofs.Found.{of_ok}
use Rattle.v_laws.proofs.Joined.{AreJoined, IsJoined, checked_joined}
use Rattle.v_laws.proofs.Members.{Member, member_both}
use Rattle.v_laws.proofs.Names.{get_before, get_behind, one_many}
use Rattle.v_laws.proofs.Once.{OneAssignment, one_assignment}
use Rattle.v_laws.proofs.Opening.{IsInput}
use Rattle.v_laws.proofs.Places.{HasScope, IsPlaced, constants_are, has_scope, input_or_output, net_words, order_plain, some_signals}
use Rattle.v_laws.proofs.Procedures.{Only, object_known, statement_keeps}
use Rattle.v_laws.proofs.Recorded.{TargetRecorded, target_recorded}
use Rattle.v_laws.proofs.Registers.{IsRegNamed, declared_reg, reg_object}

-- ---- signals by their opening digits

record IsSort (ss : List SignalAt) (n : ℕ) (digit : Digit) : Type 0 where
  signal : SignalAt
  there : slice_get ss n ≡ Some signal
  is : signal.start ≡ digit

sort_stays : (ss ts : List SignalAt) (n : ℕ) (digit : Digit) → IsSort ss n digit → IsSort (ss ++ ts) n digit
sort_stays ss ts n digit h = record { signal = h.signal; there = get_before ss ts n h.signal h.there; is = h.is }

sort_or_not : (ss : List SignalAt) (n : ℕ) → IsSort ss n X ⊎ (IsSort ss n X → ⊥)
sort_or_not ss n = go (slice_get ss n) refl
  where
    one : (x : SignalAt) → slice_get ss n ≡ Some x → (digit : Digit) → x.start ≡ digit → IsSort ss n X ⊎ (IsSort ss n X → ⊥)
    one x e X f = inl (record { signal = x; there = e; is = f })
    one x e Z f = inr (λ h. (let g : Some x ≡ Some h.signal = sym e ∙ h.there in let k : x ≡ h.signal = cc in let l : Z ≡ X = sym f ∙ ap (λ (y : SignalAt). y.start) k ∙ h.is in cc))
    one x e Zero f = inr (λ h. (let g : Some x ≡ Some h.signal = sym e ∙ h.there in let k : x ≡ h.signal = cc in let l : Zero ≡ X = sym f ∙ ap (λ (y : SignalAt). y.start) k ∙ h.is in cc))
    one x e OneDigit f = inr (λ h. (let g : Some x ≡ Some h.signal = sym e ∙ h.there in let k : x ≡ h.signal = cc in let l : OneDigit ≡ X = sym f ∙ ap (λ (y : SignalAt). y.start) k ∙ h.is in cc))

    go : (o : Option SignalAt) → slice_get ss n ≡ o → IsSort ss n X ⊎ (IsSort ss n X → ⊥)
    go None e = inr (λ h. (let g : None ≡ Some h.signal = sym e ∙ h.there in cc))
    go (Some x) e = one x e x.start refl

word_sort : (path : Path) (w : ℕ) (start : Digit) (low n i : ℕ) → i < n → IsSort (word_signals path w start low n) i start
word_sort path w start low zero i l = absurd (omega (arith, l))
word_sort path w start low (suc n) zero l = record { signal = record { path = path; word = Some low; width = w; start = start }; there = refl; is = refl }
word_sort path w start low (suc n) (suc i) l = let h = word_sort path w start (low + 1) n i (omega (arith, l)) in record { signal = h.signal; there = h.there; is = h.is }

own_sort : (path : Path) (o : DataObject) (w : Option Bounds) (i : ℕ) → i < count_of w → IsSort (signals_of path o w) i (start_of o.kind)
own_sort path o None zero l = record { signal = record { path = path; word = None; width = width_of o.bounds; start = start_of o.kind }; there = refl; is = refl }
own_sort path o None (suc i) l = absurd (omega (arith, l))
own_sort path o (Some w) i l = word_sort path (width_of o.bounds) (start_of o.kind) (low_of w) (width_of w) i l

-- the signals of a declared object
placed_sort : (path : Path) (name : List ℕ) (o : DataObject) (first : ℕ) (xs : List SignalAt) (ds : List Declared) (n : ℕ) → first ≡ length xs → IsPlaced name o first ds → o.first ≤ n
    → n < o.first + count_of o.words → IsSort (xs ++ all_signals path first ds) n (start_of o.kind)
placed_sort path name o first xs [] n e h l u = absurd h
placed_sort path name o first xs (d ∷ ds) n e (inl h) l u =
    subst (λ (p : DataObject). IsSort (xs ++ (signals_of (below path d.name) (object_of first d) d.words ++ rest)) n (start_of p.kind)) (sym h.1)
    (subst (λ i. IsSort (xs ++ (signals_of (below path d.name) (object_of first d) d.words ++ rest)) i (start_of (object_of first d).kind)) at
    (record { signal = s.signal; there = get_behind xs (signals_of (below path d.name) (object_of first d) d.words ++ rest) (n - first) ∙ get_before (signals_of (below path d.name) (object_of first d) d.words) rest (n - first) s.signal s.there; is = s.is }))
  where
    rest : List SignalAt
    rest = all_signals path (first + count_of d.words) ds

    is_first : o.first ≡ first
    is_first = ap (λ (p : DataObject). p.first) h.1

    at : length xs + (n - first) ≡ n
    at = let f = is_first in omega (arith, e, f, l)

    s : IsSort (signals_of (below path d.name) (object_of first d) d.words) (n - first) (start_of (object_of first d).kind)
    s = own_sort (below path d.name) (object_of first d) d.words (n - first) (let f = is_first in let g : count_of o.words ≡ count_of d.words = ap (λ (p : DataObject). count_of p.words) h.1 in omega (arith, f, g, l, u))
placed_sort path name o first xs (d ∷ ds) n e (inr h) l u =
    subst (λ ss. IsSort ss n (start_of o.kind)) (append_assoc xs (signals_of (below path d.name) (object_of first d) d.words) (all_signals path (first + count_of d.words) ds))
    (placed_sort path name o (first + count_of d.words) (xs ++ signals_of (below path d.name) (object_of first d) d.words) ds n
    (let f = length-append xs (signals_of (below path d.name) (object_of first d) d.words) in let g = one_many (below path d.name) (object_of first d) d.words in omega (arith, e, f, g)) h l u)

-- ---- processes

-- it gives values to signals of its kind alone, and a continuous assignment leaves no update
record KeepsTo (ss : List SignalAt) (p : Proc) : Type 0 where
  sort : (n k : ℕ) → Gives p n k → IsSort ss n (start_for p.kind)
  at_once : p.kind ≡ process_kind.Assign → (n k : ℕ) → Leaves p n k → ⊥

abbrev AllKeep : List SignalAt → List Proc → Type 0
AllKeep ss ps = (p : Proc) → Member p ps → KeepsTo ss p

all_stay : (ss ts : List SignalAt) (ps : List Proc) → AllKeep ss ps → AllKeep (ss ++ ts) ps
all_stay ss ts ps h p m = let k = h p m in record { sort = λ n i g. sort_stays ss ts n (start_for p.kind) (k.sort n i g); at_once = k.at_once }

all_more : (ss : List SignalAt) (ps : List Proc) (p : Proc) → AllKeep ss ps → KeepsTo ss p → AllKeep ss (ps ++ (p ∷ []))
all_more ss ps p h k q m = go (member_both q ps (p ∷ []) m)
  where
    go : Member q ps ⊎ Member q (p ∷ []) → KeepsTo ss q
    go (inl a) = h q a
    go (inr (inl e)) = subst (KeepsTo ss) (sym e) k
    go (inr (inr a)) = absurd a

-- a process that makes updates at once
updates_keep : (ss : List SignalAt) (kind : Kind) (wakes : List Wake) (us : Map → List Update) → ((m : Map) (n k : ℕ) → IsWritten (us m) n k → IsSort ss n (start_for kind)) → KeepsTo ss (updating kind wakes us)
updates_keep ss kind wakes us f = record { sort = λ n k g. go n k g; at_once = λ e n k l. none n k l }
  where
    none : (n k : ℕ) → Leaves (updating kind wakes us) n k → ⊥
    none n k l = subst (λ (vs : List Update). IsWritten vs n k) (blocking_leaves (us l.map) (from l.map l.hidden)) l.written

    go : (n k : ℕ) → Gives (updating kind wakes us) n k → IsSort ss n (start_for kind)
    go n k (inl c) = let w = changed_written kind wakes us n k c in f w.0 n k w.1
    go n k (inr l) = absurd (none n k l)

-- ---- the assignments of connected ports

module _ (outer : Scope) (js : List Joint) (all : List Port) (first : ℕ) (ds : List Declared) (s : Scope) (scope : HasScope first ds s)
    (directions : (p : Port) (o : DataObject) → Member p all → IsPlaced p.name o first ds → (p.direction ≡ Some direction.Output) ⊎ ((p.direction ≡ Some direction.Input) × (o.kind ≡ Input)))
    (ss : List SignalAt) (joined : (p : Port) (n k : ℕ) → Member p all → IsJoined outer js p n k → IsSort ss n Z) (input : (p : Port) (n : ℕ) → Member p all → IsInput first ds p n → IsSort ss n Z) where
  output_keeps : (r : Port) (e : Design) (v : Tree) (o : DataObject) (t : Option TargetTree) → Member r all → find_joint r.name js ≡ Some v → r.direction ≡ Some direction.Output → as_target v ≡ t
      → AllKeep ss e.processes → AllKeep ss (output_target outer o t e).processes
  output_keeps r e v o None here f c g h = h
  output_keeps r e v o (Some t) here f c g h =
      all_more ss e.processes (record { kind = process_kind.Assign; wakes = any_change o.first ∷ []; run = output_run outer o t }) h
      (updates_keep ss process_kind.Assign (any_change o.first ∷ []) (λ m. updates outer t (read m) (resize (read m o.first) (target_width outer t)))
      (λ m n k w. joined r n k here (record {
        value = v;
        found = f;
        output = c;
        target = t;
        is = g;
        map = read m;
        bits = resize (read m o.first) (target_width outer t);
        few = (let l = length_resize (read m o.first) (target_width outer t) in omega (arith, l));
        written = w;
      })))

  input_keeps : (r : Port) (e : Design) (v : Tree) (o : DataObject) → Member r all → IsPlaced r.name o first ds → o.kind ≡ Input → AllKeep ss e.processes → AllKeep ss (input_joint outer o v e).processes
  input_keeps r e v o here at kind h =
      all_more ss e.processes (record { kind = process_kind.Assign; wakes = wakes_of (reads outer v) e; run = input_run outer o v }) h
      (updates_keep ss process_kind.Assign (wakes_of (reads outer v) e) (λ m. whole_update (Some o.first) (assigned_value (width_of o.bounds) outer v (read m))) (λ m n k w. input r n here (one m n k w)))
    where
      one : (m : Map) (n k : ℕ) → IsWritten (whole_update (Some o.first) (assigned_value (width_of o.bounds) outer v (read m))) n k → IsInput first ds r n
      one m n k (inl w) = record { object = o; placed = at; kind = kind; is = w.0 }
      one m n k (inr w) = absurd w

  object_keeps : (r : Port) (e : Design) (v : Tree) (o : DataObject) → Member r all → find_joint r.name js ≡ Some v → IsPlaced r.name o first ds → AllKeep ss e.processes
      → AllKeep ss (port_joint outer (Some v) r.direction (Some (Object o)) e).processes
  object_keeps r e v o here f at h = go r.direction refl (directions r o here at)
    where
      go : (b : Option Direction) → r.direction ≡ b → (r.direction ≡ Some direction.Output) ⊎ ((r.direction ≡ Some direction.Input) × (o.kind ≡ Input)) → AllKeep ss (port_joint outer (Some v) b (Some (Object o)) e).processes
      go (Some direction.Output) k x = output_keeps r e v o (as_target v) here f k refl h
      go (Some direction.Input) k (inl x) = absurd (let l : Some direction.Input ≡ Some direction.Output = sym k ∙ x in cc)
      go (Some direction.Input) k (inr x) = input_keeps r e v o here at x.1 h
      go None k (inl x) = absurd (let l : None ≡ Some direction.Output = sym k ∙ x in cc)
      go None k (inr x) = absurd (let l : None ≡ Some direction.Input = sym k ∙ x.0 in cc)

  -- a name that means no object gives no process
  other_keeps : (e : Design) (v : Tree) (x : Option Meaning) (c : Option Direction) → ((o : DataObject) → x ≡ Some (Object o) → ⊥) → AllKeep ss e.processes → AllKeep ss (port_joint outer (Some v) c x e).processes
  other_keeps e v (Some (Object o)) c f h = absurd (f o refl)
  other_keeps e v (Some Later) None f h = h
  other_keeps e v (Some Later) (Some direction.Input) f h = h
  other_keeps e v (Some Later) (Some direction.Output) f h = h
  other_keeps e v (Some (Constant bits b)) None f h = h
  other_keeps e v (Some (Constant bits b)) (Some direction.Input) f h = h
  other_keeps e v (Some (Constant bits b)) (Some direction.Output) f h = h
  other_keeps e v None None f h = h
  other_keeps e v None (Some direction.Input) f h = h
  other_keeps e v None (Some direction.Output) f h = h

  port_keeps : (r : Port) (e : Design) (v : Option Tree) (x : Option Meaning) → Member r all → find_joint r.name js ≡ v → find r.name s ≡ x → AllKeep ss e.processes → AllKeep ss (port_joint outer v r.direction x e).processes
  port_keeps r e None x here f g h = h
  port_keeps r e (Some v) (Some (Object o)) here f g h = object_keeps r e v o here f (scope r.name o g) h
  port_keeps r e (Some v) (Some (Constant bits b)) here f g h = other_keeps e v (Some (Constant bits b)) r.direction (λ o k. cc) h
  port_keeps r e (Some v) (Some Later) here f g h = other_keeps e v (Some Later) r.direction (λ o k. cc) h
  port_keeps r e (Some v) None here f g h = other_keeps e v None r.direction (λ o k. cc) h

  ports_keep : (rest : List Port) (e : Design) → ((p : Port) → Member p rest → Member p all) → AllKeep ss e.processes → AllKeep ss (port_joints outer js s rest e).processes
  ports_keep [] e sub h = h
  ports_keep (r ∷ rest) e sub h =
      ports_keep rest (port_joint outer (find_joint r.name js) r.direction (find r.name s) e) (λ p m. sub p (inr m)) (port_keeps r e (find_joint r.name js) (find r.name s) (sub r (inl refl)) refl refl h)

-- ---- along the walk

record Starts (m : ModuleTree) (out : Outside) (d : Design) : Type 0 where
  all : AllKeep d.signals d.processes
  joined : (p : Port) (n k : ℕ) → Member p (ports_of m) → IsJoined out.scope out.joints p n k → IsSort d.signals n Z

record Behind (m : ModuleTree) (out : Outside) (d e : Design) : Type 0 where
  all : AllKeep e.signals e.processes
  more : List SignalAt
  signals : e.signals ≡ d.signals ++ more

-- a register of the module with a first value
abbrev FirstValues : ModuleTree → Scope → Type 0
FirstValues m s =
    (p : ℕ) (r : Option RangeTree) (rs : List RegisterTree) (i : Identifier) (e : Tree) → Member (ItemAt p (Registers r rs)) (items_in m) → Member (RegisterOf i (Some (Initially e))) rs
    → (o : DataObject) × (find i.name s ≡ Some (Object o)) × (o.kind ≡ Register)

record Amid (m : ModuleTree) (out : Outside) (d : Design) (ds : List Declared) (s : State) : Type 0 where
  all : AllKeep s.design.signals s.design.processes
  more : List SignalAt
  signals : s.design.signals ≡ d.signals ++ more
  scope : HasScope (length d.signals) ds s.scope
  plain : ArePlain ds
  places : (name : List ℕ) (o : DataObject) (n : ℕ) → IsPlaced name o (length d.signals) ds → o.first ≤ n → n < o.first + count_of o.words → IsSort s.design.signals n (start_of o.kind)
  firsts : FirstValues m s.scope

module _ (m : ModuleTree) (out : Outside) (d : Design) (ds : List Declared) where
  no_words : (s : State) → Amid m out d ds s → NetsHaveNoWords s.scope
  no_words s h n o e k = net_words (length d.signals) ds h.plain n o (h.scope n o e) k

  -- an object's first signal
  first_sort : (s : State) → Amid m out d ds s → (name : List ℕ) (o : DataObject) (n : ℕ) (kind : DataKind) → IsPlaced name o (length d.signals) ds → o.kind ≡ kind → o.first ≡ n → IsSort s.design.signals n (start_of kind)
  first_sort s h name o n kind at k e =
      subst (λ (x : DataKind). IsSort s.design.signals n (start_of x)) k (h.places name o n at (omega (arith, e)) (let c = some_signals o.words in omega (arith, e, c)))

  net_sort : (s : State) → Amid m out d ds s → (n : ℕ) → IsNet s.scope n → IsSort s.design.signals n Z
  net_sort s h n i = first_sort s h i.name i.object n Net (h.scope i.name i.object i.found) i.kind i.first

  adds : (s : State) (p : Proc) (es : List Drive) → Amid m out d ds s → KeepsTo s.design.signals p → Amid m out d ds (adding p es s)
  adds s p es h k = record { all = all_more s.design.signals s.design.processes p h.all k; more = h.more; signals = h.signals; scope = h.scope; plain = h.plain; places = h.places; firsts = h.firsts }

  driver_amid : (x : DriverTree) (s : State) → Amid m out d ds s → Holds (Amid m out d ds) (driver x s)
  driver_amid (Driver t e) s h =
      holds_each (λ (w : ℕ × ℕ). TargetRecorded s.scope t s.driven (driving None s.scope t s.driven).driven × Unit {0}) (Amid m out d ds)
      (λ w. adding (assigning s.scope t e s.design) (driving None s.scope t s.driven).driven s) (both (driving None s.scope t s.driven).width (checked s.scope e))
      (holds_both (λ (w : ℕ). TargetRecorded s.scope t s.driven (driving None s.scope t s.driven).driven) (λ (w : ℕ). Unit {0}) (driving None s.scope t s.driven).width (checked s.scope e)
      (target_recorded None s.scope (no_words s h) t s.driven) (holds_any (checked s.scope e)))
      (λ w g. adds s (assigning s.scope t e s.design) (driving None s.scope t s.driven).driven h
      (updates_keep s.design.signals process_kind.Assign (wakes_of (reads s.scope e) s.design) (λ m. updates s.scope t (read m) (assigned_value (target_width s.scope t) s.scope e (read m))) (λ m n k u. drives g.0 m n k u)))
    where
      drives : TargetRecorded s.scope t s.driven (driving None s.scope t s.driven).driven → (m : Map) (n k : ℕ) → IsWritten (updates s.scope t (read m) (assigned_value (target_width s.scope t) s.scope e (read m))) n k
          → IsSort s.design.signals n Z
      drives g m n k u = go (g (read m) (assigned_value (target_width s.scope t) s.scope e (read m)) (let l : length (assigned_value (target_width s.scope t) s.scope e (read m)) ≡ target_width s.scope t = length_resize _ (target_width s.scope t) in omega (arith, l)) n k u)
        where
          new : (IsDriven s.driven n k → ⊥) → IsDriven s.driven n k ⊎ IsNet s.scope n → IsSort s.design.signals n Z
          new not (inl a) = absurd (not a)
          new not (inr i) = net_sort s h n i

          go : IsDriven (driving None s.scope t s.driven).driven n k × (IsDriven s.driven n k → ⊥) → IsSort s.design.signals n Z
          go r = new r.1 ((driving_goes None s.scope t s.driven).nets n k r.0)

  net_amid : (x : NetTree) (s : State) → Amid m out d ds s → Holds (Amid m out d ds) (net x s)
  net_amid (NetOf i None) s h = h
  net_amid (NetOf i (Some e)) s h = driver_amid (Driver (whole_of i) e) s h

  register_amid : (p : ℕ) (r : Option RangeTree) (rs : List RegisterTree) → Member (ItemAt p (Registers r rs)) (items_in m) → (x : RegisterTree) → Member x rs → (s : State) → Amid m out d ds s → Holds (Amid m out d ds) (register x s)
  register_amid p r rs item (RegisterOf i None) here s h = h
  register_amid p r rs item (RegisterOf i (Some (Words t))) here s h = h
  register_amid p r rs item (RegisterOf i (Some (Initially e))) here s h =
      holds_each (λ (w : ℕ). Unit {0}) (Amid m out d ds) (λ w. adding (beginning s.scope (whole_of i) e) s.driven s) (checked s.scope e) (holds_any (checked s.scope e))
      (λ w u. adds s (beginning s.scope (whole_of i) e) s.driven h
      (updates_keep s.design.signals process_kind.Initial [] (λ m. updates s.scope (whole_of i) (read m) (assigned_value (target_width s.scope (whole_of i)) s.scope e (read m))) known))
    where
      own : (o : DataObject) × (find i.name s.scope ≡ Some (Object o)) × (o.kind ≡ Register)
      own = h.firsts p r rs i e item here

      known : (m : Map) (n k : ℕ) → IsWritten (updates s.scope (whole_of i) (read m) (assigned_value (target_width s.scope (whole_of i)) s.scope e (read m))) n k → IsSort s.design.signals n X
      known m n k w =
          object_known (λ n. IsSort s.design.signals n X) s.scope own.0 own.0.words Whole (read m) (assigned_value (target_width s.scope (whole_of i)) s.scope e (read m))
          (λ n l u. subst (λ (x : DataKind). IsSort s.design.signals n (start_of x)) own.2 (h.places i.name own.0 n (h.scope i.name own.0 own.1) l u)) n k (written own.1)
        where
          written : find i.name s.scope ≡ Some (Object own.0) → IsWritten (object_update own.0 own.0.words s.scope Whole (read m) (assigned_value (target_width s.scope (whole_of i)) s.scope e (read m))) n k
          written f = subst (λ (x : Option Meaning). IsWritten (name_update x s.scope Whole (read m) (assigned_value (target_width s.scope (whole_of i)) s.scope e (read m))) n k) f w

  turn_amid : {A : Type 0} (f : A → State → Found State) (xs : List A) (s : State) → ((x : A) → Member x xs → (t : State) → Amid m out d ds t → Holds (Amid m out d ds) (f x t)) → Amid m out d ds s
      → Holds (Amid m out d ds) (in_turn f xs s)
  turn_amid f [] s g h = h
  turn_amid f (x ∷ rest) s g h = holds_then (Amid m out d ds) (Amid m out d ds) (f x s) (in_turn f rest) (g x (inl refl) s h) (λ t k. turn_amid f rest t (λ y m. g y (inr m)) k)

  -- a procedure
  body_keeps : (timing : Timing) (s : State) → Amid m out d ds s → (kind : Kind) (ws : List Wake) (b : StatementTree) → start_for kind ≡ X → (kind ≡ process_kind.Assign → ⊥) → Holds (λ (u : Unit {0}). KeepsTo s.design.signals (record { kind = kind; wakes = ws; run = running timing s.scope b })) (statement_checked timing s.scope b)
  body_keeps timing s h kind ws b e not = weaker (statement_checked timing s.scope b) (statement_keeps (λ n. IsSort s.design.signals n X) timing s.scope registers b)
    where
      registers : (name : List ℕ) (o : DataObject) (n : ℕ) → find name s.scope ≡ Some (Object o) → o.kind ≡ Register → o.first ≤ n → n < o.first + count_of o.words → IsSort s.design.signals n X
      registers name o n f k l u = subst (λ (x : DataKind). IsSort s.design.signals n (start_of x)) k (h.places name o n (h.scope name o f) l u)

      written : (n k : ℕ) → IsWritten [] n k ⊎ IsSort s.design.signals n X → IsSort s.design.signals n X
      written n k (inl w) = absurd w
      written n k (inr q) = q

      changed : (n k : ℕ) → ((r : Map) (q : Hidden) → Only (λ n. IsSort s.design.signals n X) (from r q) (activation timing s.scope b (from r q))) → Changes (record { kind = kind; wakes = ws; run = running timing s.scope b }) n k
          → IsSort s.design.signals n X ⊎ (IsSort s.design.signals n X → ⊥) → IsSort s.design.signals n X
      changed n k f c (inl q) = q
      changed n k f c (inr q) = absurd (c.after ((f c.map c.hidden).signals n k c.digit q c.before))

      gives : ((r : Map) (q : Hidden) → Only (λ n. IsSort s.design.signals n X) (from r q) (activation timing s.scope b (from r q))) → (n k : ℕ) → Gives (record { kind = kind; wakes = ws; run = running timing s.scope b }) n k → IsSort s.design.signals n X
      gives f n k (inl c) = changed n k f c (sort_or_not s.design.signals n)
      gives f n k (inr l) = written n k ((f l.map l.hidden).updates n k l.written)

      weaker : (x : Found (Unit {0})) → Holds (λ (u : Unit {0}). (r : _) → Only (λ n. IsSort s.design.signals n X) r (activation timing s.scope b r)) x
          → Holds (λ (u : Unit {0}). KeepsTo s.design.signals (record { kind = kind; wakes = ws; run = running timing s.scope b })) x
      weaker (Sound u) f = record { sort = λ n k g. subst (λ digit. IsSort s.design.signals n digit) (sym e) (gives (λ r q. f (from r q)) n k g); at_once = λ a. absurd (not a) }
      weaker (Noted r u) f = tt
      weaker (Lost r) f = tt

  always_amid : (timing : Timing) (c : ControlTree) (b : StatementTree) (s : State) → Amid m out d ds s → Holds (Amid m out d ds) (always_item timing c b s)
  always_amid timing Implicit b s h =
      holds_each (λ (u : Unit {0}). KeepsTo s.design.signals (record { kind = process_kind.Always; wakes = wakes_of (statement_reads s.scope b) s.design; run = running timing s.scope b })) (Amid m out d ds)
      (λ u. always timing (wakes_of (statement_reads s.scope b) s.design) b s) (statement_checked timing s.scope b) (body_keeps timing s h process_kind.Always (wakes_of (statement_reads s.scope b) s.design) b refl (λ f. cc))
      (λ u k. adds s (record { kind = process_kind.Always; wakes = wakes_of (statement_reads s.scope b) s.design; run = running timing s.scope b }) s.driven h k)
  always_amid timing (Events es) b s h =
      holds_each (λ (x : List Wake × Unit {0}). Unit {0} × ((ws : List Wake) → KeepsTo s.design.signals (record { kind = process_kind.Always; wakes = ws; run = running timing s.scope b }))) (Amid m out d ds) (λ x. always timing x.0 b s)
      (both (events_of s.scope es) (statement_checked timing s.scope b))
      (holds_both (λ (ws : List Wake). Unit {0}) (λ (u : Unit {0}). (ws : List Wake) → KeepsTo s.design.signals (record { kind = process_kind.Always; wakes = ws; run = running timing s.scope b })) (events_of s.scope es) (statement_checked timing s.scope b)
      (holds_any (events_of s.scope es)) (any_wakes (statement_checked timing s.scope b) (body_keeps timing s h process_kind.Always [] b refl (λ f. cc))))
      (λ x k. adds s (record { kind = process_kind.Always; wakes = x.0; run = running timing s.scope b }) s.driven h (k.1 x.0))
    where
      -- what it waits for is no matter
      gives_same : (ws : List Wake) (n k : ℕ) → Gives (record { kind = process_kind.Always; wakes = ws; run = running timing s.scope b }) n k → Gives (record { kind = process_kind.Always; wakes = []; run = running timing s.scope b }) n k
      gives_same ws n k (inl c) = inl (record { map = c.map; hidden = c.hidden; digit = c.digit; before = c.before; after = c.after })
      gives_same ws n k (inr l) = inr (record { map = l.map; hidden = l.hidden; written = l.written })

      any_wakes : (x : Found (Unit {0})) → Holds (λ (u : Unit {0}). KeepsTo s.design.signals (record { kind = process_kind.Always; wakes = []; run = running timing s.scope b })) x
          → Holds (λ (u : Unit {0}). (ws : List Wake) → KeepsTo s.design.signals (record { kind = process_kind.Always; wakes = ws; run = running timing s.scope b })) x
      any_wakes (Sound u) k = λ ws. record { sort = λ n i g. k.sort n i (gives_same ws n i g); at_once = λ f. cc }
      any_wakes (Noted r u) k = tt
      any_wakes (Lost r) k = tt

  initial_amid : (timing : Timing) (b : StatementTree) (s : State) → Amid m out d ds s → Holds (Amid m out d ds) (initial_item timing b s)
  initial_amid timing b s h =
      holds_each (λ (u : Unit {0}). KeepsTo s.design.signals (record { kind = process_kind.Initial; wakes = []; run = running timing s.scope b })) (Amid m out d ds)
      (λ u. adding (record { kind = process_kind.Initial; wakes = []; run = running timing s.scope b }) s.driven s) (statement_checked timing s.scope b) (body_keeps timing s h process_kind.Initial [] b refl (λ f. cc))
      (λ u k. adds s (record { kind = process_kind.Initial; wakes = []; run = running timing s.scope b }) s.driven h k)

  room_amid : (p n : ℕ) (s : State) (x : Found State) → Holds (Amid m out d ds) x → Holds (Amid m out d ds) (wants (nat_le (length s.design.processes + n) most_parts) rule.TooMany p x)
  room_amid p n s x h = holds_wants (Amid m out d ds) (nat_le (length s.design.processes + n) most_parts) rule.TooMany p x (λ u. h)

  plain_amid : (timing : Timing) (p : ℕ) (k : KindTree) (s : State) → Member (ItemAt p k) (items_in m) → Amid m out d ds s → Holds (Amid m out d ds) (plain_item timing p k s)
  plain_amid timing p (Nets r ns) s here h = room_amid p (net_count ns) s (in_turn net ns s) (turn_amid net ns s (λ x m t k. net_amid x t k) h)
  plain_amid timing p (Registers r rs) s here h = room_amid p (register_count rs) s (in_turn register rs s) (turn_amid register rs s (λ x m t k. register_amid p r rs here x m t k) h)
  plain_amid timing p (Drivers xs) s here h = room_amid p (length xs) s (in_turn driver xs s) (turn_amid driver xs s (λ x m t k. driver_amid x t k) h)
  plain_amid timing p (Always c b) s here h = room_amid p 1 s (always_item timing c b s) (always_amid timing c b s h)
  plain_amid timing p (Initial b) s here h = room_amid p 1 s (initial_item timing b s) (initial_amid timing b s h)
  plain_amid timing p (Ports q is) s here h = h
  plain_amid timing p (Integers is) s here h = h
  plain_amid timing p (Parameters q r ps) s here h = h
  plain_amid timing p (Instance n v i c) s here h = h

  given_starts : (s : State) (n : ModuleTree) (x : List Given × Joints) → Amid m out d ds s → AreJoined (ports_of n) s.scope s.driven x.1 → Starts n (outside_of s x) s.design
  given_starts s n x h j = record { all = h.all; joined = λ p i k here a. (let r = j.new p i k here a in net i k r.1 (j.goes.nets i k r.0)) }
    where
      net : (i k : ℕ) → (IsDriven s.driven i k → ⊥) → IsDriven s.driven i k ⊎ IsNet s.scope i → IsSort s.design.signals i Z
      net i k not (inl a) = absurd (not a)
      net i k not (inr a) = net_sort s h i a

  inner_amid : (i : Identifier) (s : State) (n : ModuleTree) (x : List Given × Joints) (e : Design) → Amid m out d ds s → Behind n (outside_of s x) s.design e → Amid m out d ds (with_child i.name (length s.design.nodes) x.1.driven s e)
  inner_amid i s n x e h b = record {
    all = b.all;
    more = h.more ++ b.more;
    signals = b.signals ∙ ap (λ ss. ss ++ b.more) h.signals ∙ append_assoc d.signals h.more b.more;
    scope = h.scope;
    plain = h.plain;
    places = λ name o a at l u. subst (λ ss. IsSort ss a (start_of o.kind)) (sym b.signals) (sort_stays s.design.signals b.more a (start_of o.kind) (h.places name o a at l u));
    firsts = h.firsts;
  }

module _ (m : ModuleTree) (path : Path) (out : Outside) (d : Design) (constants : Entries) (ds : List Declared) (starts : Starts m out d)
    (first : parameters (parameters_of m) out.given (later (all_names m)) [] ≡ Ok constants) (second : declarations (place_of m constants d) m ≡ Ok ds) where
  abbrev own : List Declared
  own = in_order (ports_of m) ds

  abbrev opened_signals : List SignalAt
  opened_signals = d.signals ++ all_signals path (length d.signals) own

  scope_is : HasScope (length d.signals) own (scope_of constants d own)
  scope_is = has_scope constants d own (constants_are (parameters_of m) out.given (later (all_names m)) constants first)

  directions : (p : Port) (o : DataObject) → Member p (ports_of m) → IsPlaced p.name o (length d.signals) own → (p.direction ≡ Some direction.Output) ⊎ ((p.direction ≡ Some direction.Input) × (o.kind ≡ Input))
  directions p o here at =
      input_or_output (length d.signals) p (ports_of m) ds here (of_ok (HasDirection p) (declarations (place_of m constants d) m) ds (directed (place_of m constants d) m p refl here) second) o at

  inputs : (p : Port) (n : ℕ) → Member p (ports_of m) → IsInput (length d.signals) own p n → IsSort opened_signals n Z
  inputs p n here i =
      let e = i.is in let c = some_signals i.object.words in
      subst (λ (x : DataKind). IsSort opened_signals n (start_of x)) i.kind (placed_sort path p.name i.object (length d.signals) d.signals own n refl i.placed (omega (arith, e)) (omega (arith, e, c)))

  opens_amid : Amid m out d own (opening m path out d (scope_of constants d own) own)
  opens_amid = record {
    all = subst (λ ss. AllKeep ss after.processes) (sym kept) all;
    more = all_signals path (length d.signals) own;
    signals = kept;
    scope = scope_is;
    plain = order_plain (ports_of m) ds (of_ok ArePlain (declarations (place_of m constants d) m) ds (plain_declared (place_of m constants d) m) second);
    places = λ name o n at l u. subst (λ ss. IsSort ss n (start_of o.kind)) (sym kept) (placed_sort path name o (length d.signals) d.signals own n refl at l u);
    firsts = λ p r rs i e item here. reg_object m d constants ds scope_is second i.name (of_ok (IsRegNamed i.name) (declarations (place_of m constants d) m) ds (declared_reg (place_of m constants d) m p r rs i e item here) second);
  }
    where
      after : Design
      after = port_joints out.scope out.joints (scope_of constants d own) (ports_of m) (opened path own d)

      kept : after.signals ≡ d.signals ++ all_signals path (length d.signals) own
      kept = (joints_keep out.scope out.joints (scope_of constants d own) (ports_of m) (opened path own d)).signals

      all : AllKeep (d.signals ++ all_signals path (length d.signals) own) after.processes
      all =
          ports_keep out.scope out.joints (ports_of m) (length d.signals) own (scope_of constants d own) scope_is directions (d.signals ++ all_signals path (length d.signals) own)
          (λ p n k here j. sort_stays d.signals (all_signals path (length d.signals) own) n Z (starts.joined p n k here j)) inputs (ports_of m) (opened path own d) (λ p here. here)
          (all_stay d.signals (all_signals path (length d.signals) own) d.processes starts.all)

sort_steps : (ms : Modules) → Steps ms Starts Behind Amid
sort_steps ms = record {
  opens = λ m path out d constants ds h first second. opens_amid m path out d constants ds h first second;
  plain = λ m out d ds p k s here h. plain_amid m out d ds (timing_of ms (module_name m).name) p k s here h;
  given = λ m out d ds p v i c s n x h among e apart. given_starts m out d ds s n x h (checked_joined s (no_words m out d ds s h) p v i c n x e apart);
  inner = λ m out d ds p v i c s n x e h f apart b. inner_amid m out d ds i s n x e h b;
  closes = λ m path out d ds t h. record { all = h.all; more = h.more; signals = h.signals };
}

-- ---- the whole

pub member_at : (ps : List Proc) (i : ℕ) (p : Proc) → slice_get ps i ≡ Some p → Member p ps
member_at [] i p e = cc
member_at (q ∷ ps) zero p e = inl (let f : p ≡ q = cc in f)
member_at (q ∷ ps) (suc i) p e = inr (member_at ps i p e)

abbrev AllOf : Design → Type 0
AllOf d = AllKeep d.signals d.processes

all_of : (ms : Modules) (top : Option (List ℕ)) → HoldsOk AllOf (flat_design ms top)
all_of ms top =
    design_holds ms Starts Behind Amid (sort_steps ms) AllOf (λ m among. record { all = λ p h. absurd h; joined = λ p n k here j. absurd (let e = j.found in cc) }) (λ m out e b. b.all) top

weaker_ok : {A B : Design → Type 0} (r : Result Design Broken) → HoldsOk A r → ((d : Design) → A d → B d) → HoldsOk B r
weaker_ok (Ok d) h f = f d h
weaker_ok (Err b) h f = tt

pub processes_keep : Processes_keep_to_their_kind
processes_keep ms top = weaker_ok (flat_design ms top) (all_of ms top)
    (λ d h i p n k e g. (let s = (h p (member_at d.processes i p e)).sort n k g in record { signal = s.signal; there = s.there; is = s.is }))

-- of two processes that give one digit values, one of which is a continuous assignment
apart : (d : Design) → OneAssignment d → AllOf d → (i j : ℕ) (p q : Proc) (n k : ℕ) → slice_get d.processes i ≡ Some p → slice_get d.processes j ≡ Some q → p.kind ≡ process_kind.Assign → Gives p n k → Gives q n k
    → i ≡ j
apart d once all i j p q n k e f a g h = go q.kind refl
  where
    own : KeepsTo d.signals p
    own = all p (member_at d.processes i p e)

    other : KeepsTo d.signals q
    other = all q (member_at d.processes j q f)

    at_once : (r : Proc) → KeepsTo d.signals r → r.kind ≡ process_kind.Assign → Gives r n k → Changes r n k
    at_once r keeps b (inl c) = c
    at_once r keeps b (inr l) = absurd (keeps.at_once b n k l)

    never : start_for q.kind ≡ X → ⊥
    never b =
        let x = own.sort n k g in let y = other.sort n k h in
        let c : Some x.signal ≡ Some y.signal = sym x.there ∙ y.there in
        let s : x.signal ≡ y.signal = cc in
        let z : Z ≡ X = sym (ap start_for a) ∙ sym x.is ∙ ap (λ (u : SignalAt). u.start) s ∙ y.is ∙ b in cc

    go : (c : Kind) → q.kind ≡ c → i ≡ j
    go process_kind.Assign b = once i j p q n k e f a b (at_once p own a g) (at_once q other b h)
    go process_kind.Always b = absurd (never (ap start_for b))
    go process_kind.Initial b = absurd (never (ap start_for b))

both_ok : {A B C : Design → Type 0} (r : Result Design Broken) → HoldsOk A r → HoldsOk B r → ((d : Design) → A d → B d → C d) → HoldsOk C r
both_ok (Ok d) h g f = f d h g
both_ok (Err b) h g f = tt

pub one_driver : One_driver
one_driver ms top = both_ok (flat_design ms top) (one_assignment ms top) (all_of ms top) (λ d once all. apart d once all)
