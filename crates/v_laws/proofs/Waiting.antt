-- Each continuous assignment of a design waits for enough, and so does each `always` without a list of events.
use Rattle.std.proofs.Common.{◌≡◌, ◌+◌, ◌≤◌, ◌⊎◌, inl, inr, ◌∙◌, ℕ, suc, Bool, true, false, List, [], ◌∷◌, ◌++◌, length, map, nat_le, slice_get, Option, Some, None, Ok, Err, Result, refl, sym, ap, subst, arith, length-append, if◌then◌else◌}
use Rattle.std.specs.Prelude.{bytes_eq}
use Rattle.std.specs.List.{list_any}
use Rattle.gpi.specs.declared.design.Kind.TheVariants as process_kind
use Rattle.gpi.specs.declared.design.Wake.{Wake}
use Rattle.gpi.specs.Design.{Proc}
use Rattle.v_syntax.specs.declared.statement.Identifier.{Identifier}
use Rattle.v_syntax.specs.declared.item.Direction.{Direction}
use Rattle.v_syntax.specs.declared.item.Direction.TheVariants as direction
use Rattle.v_syntax.specs.ExpressionTrees.{Tree, TargetTree, first_at}
use Rattle.v_syntax.specs.StatementTrees.{StatementTree}
use Rattle.v_syntax.specs.SourceTrees.{NetTree, Net as NetOf, Words, Initially, RegisterTree, Register as RegisterOf, DriverTree, Driver, ControlTree, Implicit, Events, ConnectionTree, Connection, ConnectionsTree, Ordered, Named as NamedConnections, KindTree, Ports, Nets, Registers, Integers, Parameters, Drivers, Always, Initial, Instance, ItemAt, ModuleTree}
use Rattle.v_flat.specs.declared.scope.rule.ElabRule.TheVariants as rule
use Rattle.v_flat.specs.declared.scope.found.Found.{Found}
use Rattle.v_flat.specs.declared.scope.found.Found.TheVariants.{Sound, Noted, Lost}
use Rattle.v_flat.specs.declared.scope.meaning.DataObject.{DataObject}
use Rattle.v_flat.specs.declared.scope.meaning.Meaning.{Meaning}
use Rattle.v_flat.specs.declared.scope.meaning.Meaning.TheVariants.{Constant, Object, Later}
use Rattle.v_flat.specs.Scope.Rules.{at}
use Rattle.v_flat.specs.declared.scope.rule.Broken.{Broken}
use Rattle.v_flat.specs.Scope.Found.{Holds, HoldsOk, both, each, wants}
use Rattle.v_flat.specs.Scope.Limits.{most_parts}
use Rattle.v_flat.specs.Scope.Scope.{Scope, find}
use Rattle.v_flat.specs.Objects.{count_of}
use Rattle.v_flat.specs.Checks.{checked}
use Rattle.v_flat.specs.Targets.{Drive, as_target, driving}
use Rattle.v_flat.specs.Statements.{reads, statement_checked, statement_reads}
use Rattle.v_flat.specs.Headers.{module_name, Port, all_names, find_port, items_in, later, open_parameters, parameters_of, port_name, ports_of}
use Rattle.v_flat.specs.Declarations.{Declared, Entries, Given, in_order, parameters, signals_in}
use Rattle.v_flat.specs.Paths.{Path}
use Rattle.v_flat.specs.Design.{Design, Joint, Joints, Modules, Outside, State, adding, all_signals, always, always_item, any_change, assigning, beginning, driver, events_of, find_joint, flat_design, given_of, in_turn, initial_item, input_joint, input_run, instance_checked, is_fresh, joined, joint, joint_count, joints_of, named_joint, named_joints, net, net_count, opened, ordered_joints, output_joined, output_run, output_target, plain_item, port_joint, port_joints, port_once, register, register_count, running, timing_of, value_checked, wakes_of, whole_of, with_child}
use Rattle.v_flat.proofs.Holds.{holds_any, holds_both, holds_each, holds_lost, holds_then, holds_wants}
use Rattle.v_flat.proofs.ShapeLemmas.Ends.{sound_both, wants_sound}
use Rattle.v_flat.proofs.ShapeLemmas.Kept.{joints_keep}
use Rattle.v_flat.proofs.ShapeLemmas.Names.{Differ, same_name}
use Rattle.v_flat.proofs.ShapeLemmas.Signals.{all_many}
use Rattle.v_flat.proofs.ShapeLemmas.Walk.{opening, scope_of}
use Rattle.v_laws.specs.Reads.{Assignments_wait_for_enough, IsSettled, Lies, ListsEvents, Procedures_wait_for_enough, Suffices, WaitsForEnough}
use Rattle.v_laws.proofs.Along.{PortsDiffer, Steps, design_holds, outside_of}
use Rattle.v_laws.proofs.Awaited.{assigning_waits, implicit_waits, input_waits, output_waits}
use Rattle.v_laws.proofs.Joined.{found_port, one_port}
use Rattle.v_laws.proofs.Members.{Member, member_both}
use Rattle.v_laws.proofs.Places.{HasScope, IsPlaced, constants_are, has_scope}
use Rattle.v_laws.proofs.Settled.{statements_read_enough}
use Rattle.v_laws.proofs.Sorts.{member_at}
use Rattle.v_laws.proofs.Steady.{Steady, target_steady}
use Rattle.v_laws.proofs.Sufficient.{suffices}

is_itself : {A : Type 0} (x : Found A) → Holds (λ (a : A). x ≡ Sound a) x
is_itself (Sound a) = refl
is_itself (Noted b a) = tt
is_itself (Lost b) = tt

at_of : {A : Type 0} (x : A) (xs : List A) → Member x xs → (i : ℕ) × (slice_get xs i ≡ Some x)
at_of x [] h = absurd h
at_of x (y ∷ ys) (inl e) = (0, ap Some (sym e))
at_of x (y ∷ ys) (inr h) = let r = at_of x ys h in (suc r.0, r.1)

weaker_ok : {A B : Design → Type 0} (r : Result Design Broken) → HoldsOk A r → ((d : Design) → A d → B d) → HoldsOk B r
weaker_ok (Ok d) h f = f d h
weaker_ok (Err b) h f = tt

module _ (ms : Modules) where
  -- ---- processes

  abbrev Waits : Proc → Type 0
  Waits p = (p.kind ≡ process_kind.Assign → WaitsForEnough p) × (p.kind ≡ process_kind.Always → WaitsForEnough p ⊎ ListsEvents ms p)

  assign_waits : (p : Proc) → p.kind ≡ process_kind.Assign → WaitsForEnough p → Waits p
  assign_waits p e h = (λ k. h, λ k. absurd (let f : process_kind.Assign ≡ process_kind.Always = sym e ∙ k in cc))

  initial_waits : (p : Proc) → p.kind ≡ process_kind.Initial → Waits p
  initial_waits p e = (λ k. absurd (let f : process_kind.Initial ≡ process_kind.Assign = sym e ∙ k in cc), λ k. absurd (let f : process_kind.Initial ≡ process_kind.Always = sym e ∙ k in cc))

  always_waits : (p : Proc) → p.kind ≡ process_kind.Always → WaitsForEnough p ⊎ ListsEvents ms p → Waits p
  always_waits p e h = (λ k. absurd (let f : process_kind.Always ≡ process_kind.Assign = sym e ∙ k in cc), λ k. h)

  abbrev AllWait : List Proc → Type 0
  AllWait ps = (p : Proc) → Member p ps → Waits p

  one_more_waits : (ps : List Proc) (q : Proc) → AllWait ps → Waits q → AllWait (ps ++ (q ∷ []))
  one_more_waits ps q h w p m = go (member_both p ps (q ∷ []) m)
    where
      go : Member p ps ⊎ Member p (q ∷ []) → Waits p
      go (inl a) = h p a
      go (inr (inl e)) = subst Waits (sym e) w
      go (inr (inr b)) = absurd b

  -- ---- the objects of an instance

  placed_whole : (n : List ℕ) (o : DataObject) (first : ℕ) (ds : List Declared) → IsPlaced n o first ds → o.first + count_of o.words ≤ first + signals_in ds
  placed_whole n o first [] h = absurd h
  placed_whole n o first (d ∷ ds) (inl h) =
      let e : o.first ≡ first = ap (λ (x : DataObject). x.first) h.1 in let f : count_of o.words ≡ count_of d.words = ap (λ (x : DataObject). count_of x.words) h.1 in omega (arith, e, f)
  placed_whole n o first (d ∷ ds) (inr h) = let r = placed_whole n o (first + count_of d.words) ds h in omega (arith, r)

  own_lies : (first most : ℕ) (ds : List Declared) (s : Scope) → HasScope first ds s → first + signals_in ds ≤ most → Lies s most
  own_lies first most ds s h l n o e = let r = placed_whole n o first ds (h n o e) in omega (arith, r, l)

  lies_on : (s : Scope) (a b : ℕ) → a ≤ b → Lies s a → Lies s b
  lies_on s a b l h n o e = let r = h n o e in omega (arith, r, l)

  -- ---- connections

  -- what is so of the connection of a port with this direction
  record JoinsSteady (s : Scope) (d : Option Direction) (e : Tree) : Type 0 where
    output : d ≡ Some direction.Output → (t : TargetTree) → as_target e ≡ Some t → Steady s t
    other : (d ≡ Some direction.Output → ⊥) → Suffices s e

  output_steady : (q : ℕ) (s : Scope) (e : Tree) (ds : List Drive) (o : Option TargetTree) → as_target e ≡ o → Holds (λ (x : List Drive). JoinsSteady s (Some direction.Output) e) (output_joined q s e ds o)
  output_steady q s e ds None f = holds_lost (λ (x : List Drive). JoinsSteady s (Some direction.Output) e) (at rule.BadTarget q) (checked s e)
  output_steady q s e ds (Some t) f =
      holds_each (λ (w : ℕ). Steady s t) (λ (x : List Drive). JoinsSteady s (Some direction.Output) e) (λ w. (driving (Some q) s t ds).driven) (driving (Some q) s t ds).width (target_steady (Some q) s t ds)
      (λ w h. record {
        output = λ k u g. (let i : t ≡ u = (let j : Some t ≡ Some u = sym f ∙ g in cc) in subst (Steady s) i h);
        other = λ k. absurd (k refl);
      })

  joined_steady : (q : ℕ) (s : Scope) (d : Option Direction) (e : Tree) (ds : List Drive) → Holds (λ (x : List Drive). JoinsSteady s d e) (joined q s d e ds)
  joined_steady q s (Some direction.Output) e ds = output_steady q s e ds (as_target e) refl
  joined_steady q s (Some direction.Input) e ds =
      holds_each (λ (w : ℕ). Suffices s e) (λ (x : List Drive). JoinsSteady s (Some direction.Input) e) (λ w. ds) (checked s e) (suffices s e) (λ w h. record { output = λ k. cc; other = λ k. h })
  joined_steady q s None e ds = holds_each (λ (w : ℕ). Suffices s e) (λ (x : List Drive). JoinsSteady s None e) (λ w. ds) (checked s e) (suffices s e) (λ w h. record { output = λ k. cc; other = λ k. h })

  abbrev AllJoin : List Port → Scope → List Joint → Type 0
  AllJoin all s js = (p : Port) (e : Tree) → Member p all → find_joint p.name js ≡ Some e → JoinsSteady s p.direction e

  abbrev AllJoined : List Port → Scope → Joints → Type 0
  AllJoined all s x = AllJoin all s x.list

  module _ (s : Scope) (all : List Port) (differ : Differ (map port_name all)) where
    none_join : (ds : List Drive) → AllJoined all s (record { list = []; driven = ds })
    none_join ds p e m f = cc

    more_join : (r : Port) (v : Tree) (x : Joints) → Member r all → JoinsSteady s r.direction v → AllJoined all s x → AllJoined all s (joint r.name v x)
    more_join r v x here one h p e m f = go (bytes_eq r.name p.name) refl f
      where
        go : (b : Bool) → bytes_eq r.name p.name ≡ b → (if b then Some v else find_joint p.name x.list) ≡ Some e → JoinsSteady s p.direction e
        go true i g =
            let same : r ≡ p = one_port all differ r p here m (same_name r.name p.name i) in
            let value : v ≡ e = cc in subst (λ (t : Tree). JoinsSteady s p.direction t) value (subst (λ (y : Port). JoinsSteady s y.direction v) same one)
        go false i g = h p e m g

    ordered_join : (es : List Tree) (ps : List Port) (ds : List Drive) → ((p : Port) → Member p ps → Member p all) → Holds (AllJoined all s) (ordered_joints s es ps ds)
    ordered_join [] ps ds sub = none_join ds
    ordered_join (e ∷ es) [] ds sub = holds_lost (AllJoined all s) (at rule.BadPort (first_at e)) (checked s e)
    ordered_join (e ∷ es) (p ∷ ps) ds sub =
        holds_then (λ (x : List Drive). JoinsSteady s p.direction e) (AllJoined all s) (joined (first_at e) s p.direction e ds) (λ cs. each (joint p.name e) (ordered_joints s es ps cs))
        (joined_steady (first_at e) s p.direction e ds)
        (λ cs one. holds_each (AllJoined all s) (AllJoined all s) (joint p.name e) (ordered_joints s es ps cs) (ordered_join es ps cs (λ q m. sub q (inr m)))
        (λ x h. more_join p e x (sub p (inl refl)) one h))

    named_join : (q : ℕ) (i : Identifier) (o : Option Port) (v : Option Tree) (ds : List Drive) (rest : List Drive → Found Joints) → ((p : Port) → o ≡ Some p → Member p all)
        → ((cs : List Drive) → Holds (AllJoined all s) (rest cs)) → Holds (AllJoined all s) (named_joint q i s o v ds rest)
    named_join q i None v ds rest sub h = holds_lost (AllJoined all s) (at rule.BadPort i.at) (value_checked s v)
    named_join q i (Some p) None ds rest sub h = h ds
    named_join q i (Some p) (Some e) ds rest sub h =
        holds_then (λ (x : List Drive). JoinsSteady s p.direction e) (AllJoined all s) (joined q s p.direction e ds) (λ cs. each (joint p.name e) (rest cs)) (joined_steady q s p.direction e ds)
        (λ cs one. holds_each (AllJoined all s) (AllJoined all s) (joint p.name e) (rest cs) (h cs) (λ x k. more_join p e x (sub p refl) one k))

    once_there : (i : Identifier) (seen : List (List ℕ)) (o : Option Port) (p : Port) → port_once i seen o ≡ Some p → o ≡ Some p
    once_there i seen None p e = cc
    once_there i seen (Some q) p e = go (list_any (bytes_eq i.name) seen) e
      where
        go : (b : Bool) → (if b then None else Some q) ≡ Some p → Some q ≡ Some p
        go true f = cc
        go false f = f

    all_named : (seen : List (List ℕ)) (cs : List ConnectionTree) (ds : List Drive) → Holds (AllJoined all s) (named_joints s all seen cs ds)
    all_named seen [] ds = none_join ds
    all_named seen (Connection q i v ∷ cs) ds =
        named_join q i (port_once i seen (find_port i.name all)) v ds (named_joints s all (i.name ∷ seen) cs)
        (λ p e. (found_port i.name all p (once_there i seen (find_port i.name all) p e)).0) (λ es. all_named (i.name ∷ seen) cs es)

    joints_join : (c : Option ConnectionsTree) (ds : List Drive) → Holds (AllJoined all s) (joints_of s c all ds)
    joints_join None ds = none_join ds
    joints_join (Some (Ordered es)) ds = ordered_join es all ds (λ p m. m)
    joints_join (Some (NamedConnections cs)) ds = all_named [] cs ds

  -- where no rule is broken in an instance
  checked_joins : (s : State) (p : ℕ) (v : Option ConnectionsTree) (i : Identifier) (c : Option ConnectionsTree) (n : ModuleTree) (x : List Given × Joints)
      → instance_checked p v i c s n ≡ Sound x → PortsDiffer n → AllJoined (ports_of n) s.scope x.1
  checked_joins s p v i c n x e apart = subst (Holds (AllJoined (ports_of n) s.scope)) found (joints_join s.scope (ports_of n) apart c s.driven)
    where
      asked : Found (List Given × Joints)
      asked = both (given_of s.scope v (open_parameters (parameters_of n))) (joints_of s.scope c (ports_of n) s.driven)

      found : joints_of s.scope c (ports_of n) s.driven ≡ Sound x.1
      found =
          sound_both (given_of s.scope v (open_parameters (parameters_of n))) (joints_of s.scope c (ports_of n) s.driven) x
          (wants_sound (is_fresh i.name s) rule.DuplicateName i.at asked x
          (wants_sound (nat_le (length s.design.processes + joint_count c (ports_of n)) most_parts) rule.TooMany p (wants (is_fresh i.name s) rule.DuplicateName i.at asked) x e).1).1

  -- ---- the assignments of connected ports

  module _ (outer : Scope) (js : List Joint) (all : List Port) (join : AllJoin all outer js) (s : Scope) where
    -- the names of the instance above are signals of the design, and its processes wait for enough
    abbrev Good : Design → Type 0
    Good d = Lies outer (length d.signals) × AllWait d.processes

    output_good : (o : DataObject) (v : Tree) (t : Option TargetTree) (d : Design) → ((u : TargetTree) → t ≡ Some u → Steady outer u) → Good d → Good (output_target outer o t d)
    output_good o v None d h g = g
    output_good o v (Some t) d h g = (
      g.0,
      one_more_waits d.processes (record { kind = process_kind.Assign; wakes = any_change o.first ∷ []; run = output_run outer o t }) g.1
          (assign_waits (record { kind = process_kind.Assign; wakes = any_change o.first ∷ []; run = output_run outer o t }) refl (output_waits outer o t (h t refl))),
    )

    input_good : (o : DataObject) (v : Tree) (d : Design) → Suffices outer v → Good d → Good (input_joint outer o v d)
    input_good o v d h g = (
      g.0,
      one_more_waits d.processes (record { kind = process_kind.Assign; wakes = wakes_of (reads outer v) d; run = input_run outer o v }) g.1
          (assign_waits (record { kind = process_kind.Assign; wakes = wakes_of (reads outer v) d; run = input_run outer o v }) refl (input_waits outer d g.0 o v h)),
    )

    port_good : (v : Option Tree) (c : Option Direction) (x : Option Meaning) (d : Design) → ((e : Tree) → v ≡ Some e → JoinsSteady outer c e) → Good d → Good (port_joint outer v c x d)
    port_good (Some e) (Some direction.Output) (Some (Object o)) d h g = output_good o e (as_target e) d (λ u f. (h e refl).output refl u f) g
    port_good (Some e) (Some direction.Input) (Some (Object o)) d h g = input_good o e d ((h e refl).other (λ k. cc)) g
    port_good (Some e) None (Some (Object o)) d h g = input_good o e d ((h e refl).other (λ k. cc)) g
    port_good (Some e) (Some direction.Output) (Some (Constant ds b)) d h g = g
    port_good (Some e) (Some direction.Input) (Some (Constant ds b)) d h g = g
    port_good (Some e) None (Some (Constant ds b)) d h g = g
    port_good (Some e) (Some direction.Output) (Some Later) d h g = g
    port_good (Some e) (Some direction.Input) (Some Later) d h g = g
    port_good (Some e) None (Some Later) d h g = g
    port_good (Some e) (Some direction.Output) None d h g = g
    port_good (Some e) (Some direction.Input) None d h g = g
    port_good (Some e) None None d h g = g
    port_good None c x d h g = g

    all_good : (rest : List Port) (d : Design) → ((p : Port) → Member p rest → Member p all) → Good d → Good (port_joints outer js s rest d)
    all_good [] d sub g = g
    all_good (p ∷ rest) d sub g =
        all_good rest (port_joint outer (find_joint p.name js) p.direction (find p.name s) d) (λ q m. sub q (inr m))
        (port_good (find_joint p.name js) p.direction (find p.name s) d (λ e f. join p e (sub p (inl refl)) f) g)

  -- ---- along the walk

  record Begins (m : ModuleTree) (out : Outside) (d : Design) : Type 0 where
    among : Member m ms.list
    joins : AllJoin (ports_of m) out.scope out.joints
    lies : Lies out.scope (length d.signals)
    wait : AllWait d.processes

  record Amid (m : ModuleTree) (out : Outside) (d : Design) (ds : List Declared) (s : State) : Type 0 where
    among : Member m ms.list
    scope : HasScope (length d.signals) ds s.scope
    signals : length d.signals + signals_in ds ≤ length s.design.signals
    wait : AllWait s.design.processes

  record Behind (m : ModuleTree) (out : Outside) (d e : Design) : Type 0 where
    signals : length d.signals ≤ length e.signals
    wait : AllWait e.processes

  module _ (m : ModuleTree) (out : Outside) (d : Design) (ds : List Declared) where
    lies : (s : State) → Amid m out d ds s → Lies s.scope (length s.design.signals)
    lies s h = own_lies (length d.signals) (length s.design.signals) ds s.scope h.scope h.signals

    adds : (s : State) (p : Proc) (es : List Drive) → Amid m out d ds s → Waits p → Amid m out d ds (adding p es s)
    adds s p es h w = record { among = h.among; scope = h.scope; signals = h.signals; wait = one_more_waits s.design.processes p h.wait w }

    driver_amid : (x : DriverTree) (s : State) → Amid m out d ds s → Holds (Amid m out d ds) (driver x s)
    driver_amid (Driver t e) s h =
        holds_each (λ (w : ℕ × ℕ). Steady s.scope t × Suffices s.scope e) (Amid m out d ds)
        (λ w. adding (assigning s.scope t e s.design) (driving None s.scope t s.driven).driven s) (both (driving None s.scope t s.driven).width (checked s.scope e))
        (holds_both (λ (w : ℕ). Steady s.scope t) (λ (w : ℕ). Suffices s.scope e) (driving None s.scope t s.driven).width (checked s.scope e) (target_steady None s.scope t s.driven) (suffices s.scope e))
        (λ w g. adds s (assigning s.scope t e s.design) (driving None s.scope t s.driven).driven h (assign_waits (assigning s.scope t e s.design) refl (assigning_waits s.scope s.design (lies s h) t e g.0 g.1)))

    net_amid : (x : NetTree) (s : State) → Amid m out d ds s → Holds (Amid m out d ds) (net x s)
    net_amid (NetOf i None) s h = h
    net_amid (NetOf i (Some e)) s h = driver_amid (Driver (whole_of i) e) s h

    register_amid : (x : RegisterTree) (s : State) → Amid m out d ds s → Holds (Amid m out d ds) (register x s)
    register_amid (RegisterOf i None) s h = h
    register_amid (RegisterOf i (Some (Words r))) s h = h
    register_amid (RegisterOf i (Some (Initially e))) s h =
        holds_each (λ (w : ℕ). Unit {0}) (Amid m out d ds) (λ w. adding (beginning s.scope (whole_of i) e) s.driven s) (checked s.scope e) (holds_any (checked s.scope e))
        (λ w u. adds s (beginning s.scope (whole_of i) e) s.driven h (initial_waits (beginning s.scope (whole_of i) e) refl))

    turn_amid : {A : Type 0} (f : A → State → Found State) (xs : List A) (s : State) → ((x : A) (t : State) → Amid m out d ds t → Holds (Amid m out d ds) (f x t)) → Amid m out d ds s
        → Holds (Amid m out d ds) (in_turn f xs s)
    turn_amid f [] s g h = h
    turn_amid f (x ∷ rest) s g h = holds_then (Amid m out d ds) (Amid m out d ds) (f x s) (in_turn f rest) (g x s h) (λ t k. turn_amid f rest t g k)

    always_amid : (q : ℕ) (c : ControlTree) (b : StatementTree) (s : State) → Member (ItemAt q (Always c b)) (items_in m) → Amid m out d ds s → Holds (Amid m out d ds) (always_item (timing_of ms (module_name m).name) c b s)
    always_amid q Implicit b s here h =
        holds_each (λ (u : Unit {0}). IsSettled (timing_of ms (module_name m).name) s.scope b) (Amid m out d ds) (λ u. always (timing_of ms (module_name m).name) (wakes_of (statement_reads s.scope b) s.design) b s) (statement_checked (timing_of ms (module_name m).name) s.scope b) (statements_read_enough (timing_of ms (module_name m).name) s.scope b)
        (λ x g. adds s (record { kind = process_kind.Always; wakes = wakes_of (statement_reads s.scope b) s.design; run = running (timing_of ms (module_name m).name) s.scope b }) s.driven h
        (always_waits (record { kind = process_kind.Always; wakes = wakes_of (statement_reads s.scope b) s.design; run = running (timing_of ms (module_name m).name) s.scope b }) refl (inl (implicit_waits s.scope s.design (lies s h) (timing_of ms (module_name m).name) b g))))
    always_amid q (Events es) b s here h =
        holds_each (λ (x : List Wake × Unit {0}). (events_of s.scope es ≡ Sound x.0) × Unit {0}) (Amid m out d ds) (λ x. always (timing_of ms (module_name m).name) x.0 b s) (both (events_of s.scope es) (statement_checked (timing_of ms (module_name m).name) s.scope b))
        (holds_both (λ (ws : List Wake). events_of s.scope es ≡ Sound ws) (λ (u : Unit {0}). Unit {0}) (events_of s.scope es) (statement_checked (timing_of ms (module_name m).name) s.scope b) (is_itself (events_of s.scope es)) (holds_any (statement_checked (timing_of ms (module_name m).name) s.scope b)))
        (λ x g. adds s (record { kind = process_kind.Always; wakes = x.0; run = running (timing_of ms (module_name m).name) s.scope b }) s.driven h (always_waits (record { kind = process_kind.Always; wakes = x.0; run = running (timing_of ms (module_name m).name) s.scope b }) refl (inr (listed x.0 g.0))))
      where
        listed : (ws : List Wake) → events_of s.scope es ≡ Sound ws → ListsEvents ms (record { kind = process_kind.Always; wakes = ws; run = running (timing_of ms (module_name m).name) s.scope b })
        listed ws e =
            let one = at_of m ms.list h.among in let line = at_of (ItemAt q (Always (Events es) b)) (items_in m) here in
            record {
              number = one.0;
              own = m;
              is_one = one.1;
              line = line.0;
              place = q;
              events = es;
              body = b;
              has = line.1;
              scope = s.scope;
              waits = e;
              runs = refl;
            }

    initial_amid : (b : StatementTree) (s : State) → Amid m out d ds s → Holds (Amid m out d ds) (initial_item (timing_of ms (module_name m).name) b s)
    initial_amid b s h =
        holds_each (λ (u : Unit {0}). Unit {0}) (Amid m out d ds) (λ u. adding (record { kind = process_kind.Initial; wakes = []; run = running (timing_of ms (module_name m).name) s.scope b }) s.driven s) (statement_checked (timing_of ms (module_name m).name) s.scope b) (holds_any (statement_checked (timing_of ms (module_name m).name) s.scope b))
        (λ x u. adds s (record { kind = process_kind.Initial; wakes = []; run = running (timing_of ms (module_name m).name) s.scope b }) s.driven h (initial_waits (record { kind = process_kind.Initial; wakes = []; run = running (timing_of ms (module_name m).name) s.scope b }) refl))

    room_amid : (p n : ℕ) (s : State) (x : Found State) → Holds (Amid m out d ds) x → Holds (Amid m out d ds) (wants (nat_le (length s.design.processes + n) most_parts) rule.TooMany p x)
    room_amid p n s x h = holds_wants (Amid m out d ds) (nat_le (length s.design.processes + n) most_parts) rule.TooMany p x (λ u. h)

    plain_amid : (p : ℕ) (k : KindTree) (s : State) → Member (ItemAt p k) (items_in m) → Amid m out d ds s → Holds (Amid m out d ds) (plain_item (timing_of ms (module_name m).name) p k s)
    plain_amid p (Nets r ns) s here h = room_amid p (net_count ns) s (in_turn net ns s) (turn_amid net ns s net_amid h)
    plain_amid p (Registers r rs) s here h = room_amid p (register_count rs) s (in_turn register rs s) (turn_amid register rs s register_amid h)
    plain_amid p (Drivers xs) s here h = room_amid p (length xs) s (in_turn driver xs s) (turn_amid driver xs s driver_amid h)
    plain_amid p (Always c b) s here h = room_amid p 1 s (always_item (timing_of ms (module_name m).name) c b s) (always_amid p c b s here h)
    plain_amid p (Initial b) s here h = room_amid p 1 s (initial_item (timing_of ms (module_name m).name) b s) (initial_amid b s h)
    plain_amid p (Ports q is) s here h = h
    plain_amid p (Integers is) s here h = h
    plain_amid p (Parameters q r ps) s here h = h
    plain_amid p (Instance n v i c) s here h = h

    inner_amid : (i : Identifier) (s : State) (n : ModuleTree) (x : List Given × Joints) (e : Design) → Amid m out d ds s → Behind n (outside_of s x) s.design e
        → Amid m out d ds (with_child i.name (length s.design.nodes) x.1.driven s e)
    inner_amid i s n x e h b = record { among = h.among; scope = h.scope; signals = let u = h.signals in let v = b.signals in omega (arith, u, v); wait = b.wait }

  opens_amid : (m : ModuleTree) (path : Path) (out : Outside) (d : Design) (constants : Entries) (ds : List Declared) → Begins m out d
      → parameters (parameters_of m) out.given (later (all_names m)) [] ≡ Ok constants
      → Amid m out d (in_order (ports_of m) ds) (opening m path out d (scope_of constants d (in_order (ports_of m) ds)) (in_order (ports_of m) ds))
  opens_amid m path out d constants ds h first = record {
    among = h.among;
    scope = has_scope constants d own (constants_are (parameters_of m) out.given (later (all_names m)) constants first);
    signals = let e = many in omega (arith, e);
    wait = (all_good out.scope out.joints (ports_of m) h.joins (scope_of constants d own) (ports_of m) before (λ p k. k) (lies_on out.scope (length d.signals) (length before.signals) (let e = opens in omega (arith, e)) h.lies, h.wait)).1;
  }
    where
      own : List Declared
      own = in_order (ports_of m) ds

      before : Design
      before = opened path own d

      opens : length before.signals ≡ length d.signals + signals_in own
      opens = length-append d.signals (all_signals path (length d.signals) own) ∙ ap (λ n. length d.signals + n) (all_many path (length d.signals) own)

      many : length (port_joints out.scope out.joints (scope_of constants d own) (ports_of m) before).signals ≡ length d.signals + signals_in own
      many = ap length (joints_keep out.scope out.joints (scope_of constants d own) (ports_of m) before).signals ∙ opens

  -- ---- the whole

  waiting_steps : Steps ms Begins Behind Amid
  waiting_steps = record {
    opens = λ m path out d constants ds h first second. opens_amid m path out d constants ds h first;
    plain = λ m out d ds p k s here h. plain_amid m out d ds p k s here h;
    given = λ m out d ds p v i c s n x h among e apart. record { among = among; joins = checked_joins s p v i c n x e apart; lies = lies m out d ds s h; wait = h.wait };
    inner = λ m out d ds p v i c s n x e h f apart b. inner_amid m out d ds i s n x e h b;
    closes = λ m path out d ds t h. record { signals = let u = h.signals in omega (arith, u); wait = h.wait };
  }

  pub all_wait : (top : Option (List ℕ)) → HoldsOk (λ (d : Design). (i : ℕ) (p : Proc) → slice_get d.processes i ≡ Some p → Waits p) (flat_design ms top)
  all_wait top =
      design_holds ms Begins Behind Amid waiting_steps (λ (d : Design). (i : ℕ) (p : Proc) → slice_get d.processes i ≡ Some p → Waits p)
      (λ m among. record { among = among; joins = λ p e k f. cc; lies = λ n o f. cc; wait = λ p k. absurd k })
      (λ m out e b i p f. b.wait p (member_at e.processes i p f)) top

pub assignments_wait_for_enough : Assignments_wait_for_enough
assignments_wait_for_enough ms top = weaker_ok (flat_design ms top) (all_wait ms top) (λ d h i p e k. (h i p e).0 k)

pub procedures_wait_for_enough : Procedures_wait_for_enough
procedures_wait_for_enough ms top = weaker_ok (flat_design ms top) (all_wait ms top) (λ d h i p e k. (h i p e).1 k)
