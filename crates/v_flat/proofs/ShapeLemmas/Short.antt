-- A design has at most 65,536 instances and as many processes.
use Rattle.std.proofs.Common.{◌≡◌, ◌<◌, ◌≤◌, ◌+◌, ℕ, true, List, [], ◌∷◌, length, map, nat_lt, nat_le, Option, Some, None, refl, ap, arith, length-append}
use Rattle.std.proofs.lemmas.Bool.Decides.{nat_tests}
use Rattle.std.proofs.lemmas.List.{length-set}
use Rattle.gpi.specs.Design.{Proc}
use Rattle.gpi.specs.declared.design.Kind.TheVariants as process_kind
use Rattle.gpi.specs.declared.design.Wake.{Wake}
use Rattle.v_syntax.specs.declared.statement.Identifier.{Identifier}
use Rattle.v_syntax.specs.StatementTrees.{StatementTree}
use Rattle.v_syntax.specs.SourceTrees.{NetTree, Net as NetOf, Words, Initially, RegisterTree, Register as RegisterOf, DriverTree, Driver, ControlTree, Implicit, Events, ConnectionsTree, KindTree, Ports, Nets, Registers, Integers, Parameters, Drivers, Always, Initial, Instance, ModuleTree}
use Rattle.v_flat.specs.declared.scope.rule.ElabRule.TheVariants as rule
use Rattle.v_flat.specs.declared.scope.found.Found.{Found}
use Rattle.v_flat.specs.declared.scope.found.Found.TheVariants as found
use Rattle.v_flat.specs.Scope.Found.{Holds, HoldsOk, both, wants}
use Rattle.v_flat.specs.Scope.Limits.{most_parts}
use Rattle.v_flat.specs.Scope.Scope.{Scope}
use Rattle.v_flat.specs.Checks.{checked}
use Rattle.v_flat.specs.Targets.{Drive, driving}
use Rattle.v_flat.specs.declared.timing.Timing.{Timing}
use Rattle.v_flat.specs.Statements.{statement_checked, statement_reads}
use Rattle.v_flat.specs.Headers.{open_parameters, parameters_of, port_name, ports_of}
use Rattle.v_flat.specs.Declarations.{Declared, Given, in_order}
use Rattle.v_flat.specs.Paths.{Path}
use Rattle.v_flat.specs.Design.{Modules, adding, always, always_item, assigning, beginning, Design, driver, events_of, flat_design, given_of, in_turn, initial_item, instance_checked, is_fresh, joint_count, Joints, joints_of, net, net_count, opened, Outside, place_of, plain_item, register, register_count, running, State, wakes_of, whole_of}
use Rattle.v_flat.proofs.Holds.{holds_any, holds_each, holds_then, holds_wants}
use Rattle.v_flat.proofs.ShapeLemmas.Ends.{sound_both, wants_sound}
use Rattle.v_flat.proofs.ShapeLemmas.Joints.{as_many, few_added}
use Rattle.v_flat.proofs.ShapeLemmas.Names.{Differ}
use Rattle.v_flat.proofs.ShapeLemmas.Ports.{ports_apart}
use Rattle.v_flat.proofs.ShapeLemmas.Kept.{Keeps, joints_keep, plain_keeps}
use Rattle.v_flat.proofs.ShapeLemmas.Walk.{Steps, design_holds, opening, scope_of}

-- so many processes more
abbrev Adds : ℕ → State → State → Type 0
Adds n s t = length t.design.processes ≡ length s.design.processes + n

adds_one : (p : Proc) (ds : List Drive) (s : State) → Adds 1 s (adding p ds s)
adds_one p ds s = length-append s.design.processes (p ∷ [])

adds_none : (s : State) → Adds 0 s s
adds_none s = omega arith

driver_adds : (d : DriverTree) (s : State) → Holds (Adds 1 s) (driver d s)
driver_adds (Driver t e) s =
    holds_each (λ (w : ℕ × ℕ). Unit {0}) (Adds 1 s) (λ w. adding (assigning s.scope t e s.design) (driving None s.scope t s.driven).driven s) (both (driving None s.scope t s.driven).width (checked s.scope e))
    (holds_any (both (driving None s.scope t s.driven).width (checked s.scope e))) (λ w u. adds_one (assigning s.scope t e s.design) (driving None s.scope t s.driven).driven s)

abbrev net_adds_count : NetTree → ℕ
net_adds_count (NetOf i None) = 0
net_adds_count (NetOf i (Some e)) = 1

net_adds : (n : NetTree) (s : State) → Holds (Adds (net_adds_count n) s) (net n s)
net_adds (NetOf i None) s = adds_none s
net_adds (NetOf i (Some e)) s = driver_adds (Driver (whole_of i) e) s

abbrev register_adds_count : RegisterTree → ℕ
register_adds_count (RegisterOf i (Some (Initially e))) = 1
register_adds_count (RegisterOf i (Some (Words r))) = 0
register_adds_count (RegisterOf i None) = 0

register_adds : (r : RegisterTree) (s : State) → Holds (Adds (register_adds_count r) s) (register r s)
register_adds (RegisterOf i None) s = adds_none s
register_adds (RegisterOf i (Some (Words r))) s = adds_none s
register_adds (RegisterOf i (Some (Initially e))) s =
    holds_each (λ (w : ℕ). Unit {0}) (Adds 1 s) (λ w. adding (beginning s.scope (whole_of i) e) s.driven s) (checked s.scope e) (holds_any (checked s.scope e))
    (λ w u. adds_one (beginning s.scope (whole_of i) e) s.driven s)

abbrev all_of : {A : Type 0} → (A → ℕ) → List A → ℕ
all_of size [] = 0
all_of size (x ∷ xs) = size x + all_of size xs

in_turn_adds : {A : Type 0} (f : A → State → Found State) (size : A → ℕ) (xs : List A) (s : State) → ((x : A) (t : State) → Holds (Adds (size x) t) (f x t))
    → Holds (Adds (all_of size xs) s) (in_turn f xs s)
in_turn_adds f size [] s h = adds_none s
in_turn_adds f size (x ∷ rest) s h =
    holds_then (Adds (size x) s) (Adds (size x + all_of size rest) s) (f x s) (in_turn f rest) (h x s)
    (λ t k. weaker (in_turn f rest t) (in_turn_adds f size rest t h) (λ u l. let m : length u.design.processes ≡ length t.design.processes + all_of size rest = l in let n : length t.design.processes ≡ length s.design.processes + size x = k in omega (arith, m, n)))
  where
    weaker : {P Q : State → Type 0} (y : Found State) → Holds P y → ((u : State) → P u → Q u) → Holds Q y
    weaker (found.Sound u) g w = w u g
    weaker (found.Noted b u) g w = tt
    weaker (found.Lost b) g w = tt

nets_counted : (ns : List NetTree) → all_of net_adds_count ns ≡ net_count ns
nets_counted [] = refl
nets_counted (NetOf i None ∷ ns) = let h = nets_counted ns in omega (arith, h)
nets_counted (NetOf i (Some e) ∷ ns) = let h = nets_counted ns in omega (arith, h)

registers_counted : (rs : List RegisterTree) → all_of register_adds_count rs ≡ register_count rs
registers_counted [] = refl
registers_counted (RegisterOf i None ∷ rs) = let h = registers_counted rs in omega (arith, h)
registers_counted (RegisterOf i (Some (Words r)) ∷ rs) = let h = registers_counted rs in omega (arith, h)
registers_counted (RegisterOf i (Some (Initially e)) ∷ rs) = let h = registers_counted rs in omega (arith, h)

drivers_counted : (ds : List DriverTree) → all_of (λ d. 1) ds ≡ length ds
drivers_counted [] = refl
drivers_counted (d ∷ ds) = let h = drivers_counted ds in omega (arith, h)

always_adds : (q : Timing) (c : ControlTree) (b : StatementTree) (s : State) → Holds (Adds 1 s) (always_item q c b s)
always_adds q Implicit b s =
    holds_each (λ (u : Unit {0}). Unit {0}) (Adds 1 s) (λ u. always q (wakes_of (statement_reads s.scope b) s.design) b s) (statement_checked q s.scope b) (holds_any (statement_checked q s.scope b))
    (λ x u. adds_one (record { kind = process_kind.Always; wakes = wakes_of (statement_reads s.scope b) s.design; run = running q s.scope b }) s.driven s)
always_adds q (Events es) b s =
    holds_each (λ (x : List Wake × Unit {0}). Unit {0}) (Adds 1 s) (λ x. always q x.0 b s) (both (events_of s.scope es) (statement_checked q s.scope b)) (holds_any (both (events_of s.scope es) (statement_checked q s.scope b)))
    (λ x u. adds_one (record { kind = process_kind.Always; wakes = x.0; run = running q s.scope b }) s.driven s)

initial_adds : (q : Timing) (b : StatementTree) (s : State) → Holds (Adds 1 s) (initial_item q b s)
initial_adds q b s =
    holds_each (λ (u : Unit {0}). Unit {0}) (Adds 1 s) (λ u. adding (record { kind = process_kind.Initial; wakes = []; run = running q s.scope b }) s.driven s) (statement_checked q s.scope b) (holds_any (statement_checked q s.scope b))
    (λ x u. adds_one (record { kind = process_kind.Initial; wakes = []; run = running q s.scope b }) s.driven s)

-- ---- few

abbrev AreFew : State → Type 0
AreFew t = length t.design.processes ≤ most_parts

with_room_few : (p n m : ℕ) (s : State) (x : Found State) → m ≡ n → Holds (Adds m s) x → Holds AreFew (wants (nat_le (length s.design.processes + n) most_parts) rule.TooMany p x)
with_room_few p n m s x e h = holds_wants AreFew (nat_le (length s.design.processes + n) most_parts) rule.TooMany p x (λ t. fits x h t)
  where
    fits : (y : Found State) → Holds (Adds m s) y → nat_le (length s.design.processes + n) most_parts ≡ true → Holds AreFew y
    fits (found.Sound u) g t = let k : length u.design.processes ≡ length s.design.processes + m = g in grind (arith, nat_tests)
    fits (found.Noted b u) g t = tt
    fits (found.Lost b) g t = tt

plain_few : (q : Timing) (p : ℕ) (k : KindTree) (s : State) → AreFew s → Holds AreFew (plain_item q p k s)
plain_few q p (Nets r ns) s h = with_room_few p (net_count ns) (all_of net_adds_count ns) s (in_turn net ns s) (nets_counted ns) (in_turn_adds net net_adds_count ns s net_adds)
plain_few q p (Registers r rs) s h = with_room_few p (register_count rs) (all_of register_adds_count rs) s (in_turn register rs s) (registers_counted rs) (in_turn_adds register register_adds_count rs s register_adds)
plain_few q p (Drivers ds) s h = with_room_few p (length ds) (all_of (λ d. 1) ds) s (in_turn driver ds s) (drivers_counted ds) (in_turn_adds driver (λ d. 1) ds s driver_adds)
plain_few q p (Always c b) s h = with_room_few p 1 1 s (always_item q c b s) refl (always_adds q c b s)
plain_few q p (Initial b) s h = with_room_few p 1 1 s (initial_item q b s) refl (initial_adds q b s)
plain_few q p (Ports r is) s h = h
plain_few q p (Integers is) s h = h
plain_few q p (Parameters k r ps) s h = h
plain_few q p (Instance m v i ps) s h = h

-- ---- along the walk

-- there is room for the instance and for the assignments of its ports
record HasRoom (m : ModuleTree) (out : Outside) (d : Design) : Type 0 where
  nodes : length d.nodes < most_parts
  processes : length d.processes + length out.joints ≤ most_parts

record IsShort (e : Design) : Type 0 where
  nodes : length e.nodes ≤ most_parts
  processes : length e.processes ≤ most_parts

abbrev Behind : Path → Design → Design → Type 0
Behind path d e = IsShort e

abbrev Amid : Path → Design → List Declared → State → Type 0
Amid path d ds s = IsShort s.design

opens_short : (m : ModuleTree) (path : Path) (out : Outside) (d : Design) (s : Scope) (ds : List Declared) → Differ (map port_name (ports_of m)) → HasRoom m out d
    → IsShort (opening m path out d s ds).design
opens_short m path out d s ds apart h = record {
  nodes =
      let n = h.nodes in
      let k = ap length (joints_keep out.scope out.joints s (ports_of m) (opened path ds d)).nodes in
      let l = length-append d.nodes (record { path = path; children = [] } ∷ []) in omega (arith, n, k, l);
  processes = let n = h.processes in let k = few_added (ports_of m) out.scope out.joints s (opened path ds d) apart in omega (arith, n, k);
}

plain_short : (q : Timing) (p : ℕ) (k : KindTree) (s : State) → IsShort s.design → Holds (λ (t : State). IsShort t.design) (plain_item q p k s)
plain_short q p k s h = join (plain_item q p k s) (plain_keeps q p k s) (plain_few q p k s h.processes)
  where
    join : (x : Found State) → Holds (Keeps s) x → Holds AreFew x → Holds (λ (t : State). IsShort t.design) x
    join (found.Sound t) a b = record { nodes = let n = h.nodes in let e = ap length a.nodes in omega (arith, n, e); processes = b }
    join (found.Noted r t) a b = tt
    join (found.Lost r) a b = tt

given_room : (p : ℕ) (v : Option ConnectionsTree) (i : Identifier) (c : Option ConnectionsTree) (s : State) (m : ModuleTree) (x : List Given × Joints)
    → nat_lt (length s.design.nodes) most_parts ≡ true → instance_checked p v i c s m ≡ found.Sound x
    → HasRoom m (record { given = x.0; scope = s.scope; joints = x.1.list }) s.design
given_room p v i c s m x few e = record { nodes = grind (arith, nat_tests); processes = let k = made in let r = room.0 in grind (arith, nat_tests) }
  where
    asked : Found (List Given × Joints)
    asked = both (given_of s.scope v (open_parameters (parameters_of m))) (joints_of s.scope c (ports_of m) s.driven)

    room : (nat_le (length s.design.processes + joint_count c (ports_of m)) most_parts ≡ true) × (wants (is_fresh i.name s) rule.DuplicateName i.at asked ≡ found.Sound x)
    room = wants_sound (nat_le (length s.design.processes + joint_count c (ports_of m)) most_parts) rule.TooMany p (wants (is_fresh i.name s) rule.DuplicateName i.at asked) x e

    counted : (y : Found Joints) → Holds (λ (j : Joints). length j.list ≡ joint_count c (ports_of m)) y → y ≡ found.Sound x.1 → length x.1.list ≡ joint_count c (ports_of m)
    counted (found.Sound j) h f = cc
    counted (found.Noted b j) h f = cc
    counted (found.Lost b) h f = cc

    made : length x.1.list ≡ joint_count c (ports_of m)
    made = counted (joints_of s.scope c (ports_of m) s.driven) (as_many s.scope c (ports_of m) s.driven)
        (sound_both (given_of s.scope v (open_parameters (parameters_of m))) (joints_of s.scope c (ports_of m) s.driven) x (wants_sound (is_fresh i.name s) rule.DuplicateName i.at asked x room.1).1)

short_steps : Steps HasRoom Behind Amid
short_steps = record {
  opens = λ m path out d constants ds h e. opens_short m path out d (scope_of constants d (in_order (ports_of m) ds)) (in_order (ports_of m) ds) (ports_apart (place_of m constants d) m ds e) h;
  plain = λ q path d ds p k s h. plain_short q p k s h;
  given = λ path d ds p v i c s m x h few e. given_room p v i c s m x few e;
  inner = λ path d ds i driven s e h few is g. g;
  closes = λ path d ds t h. record {
    nodes = let n = h.nodes in let e = length-set t.design.nodes (length d.nodes) (record { path = path; children = t.children }) in omega (arith, n, e);
    processes = h.processes;
  };
}

pub lists_short : (ms : Modules) (top : Option (List ℕ)) → HoldsOk (λ (d : Design). (length d.nodes ≤ most_parts) × (length d.processes ≤ most_parts)) (flat_design ms top)
lists_short ms top =
    design_holds HasRoom Behind Amid short_steps (λ (d : Design). (length d.nodes ≤ most_parts) × (length d.processes ≤ most_parts))
    (λ m. record { nodes = omega arith; processes = omega arith }) (λ path e g. (g.nodes, g.processes)) ms top
