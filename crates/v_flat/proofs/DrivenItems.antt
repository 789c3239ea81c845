-- Over the items of an instance each digit of a net is driven once.
use Rattle.std.proofs.Common.{ℕ, ◌+◌, List, [], ◌∷◌, length, Option, Some, None, Ok, nat_le}
use Rattle.v_syntax.specs.declared.statement.Identifier.{Identifier}
use Rattle.v_syntax.specs.declared.item.Direction.{Direction}
use Rattle.v_syntax.specs.declared.item.Direction.TheVariants as direction
use Rattle.v_syntax.specs.ExpressionTrees.{Tree, TargetTree, first_at}
use Rattle.v_syntax.specs.StatementTrees.{StatementTree}
use Rattle.v_syntax.specs.SourceTrees.{NetTree, Net as NetOf, Words, Initially, RegisterTree, Register as RegisterOf, DriverTree, Driver, ControlTree, Implicit, Events, ConnectionTree, Connection, ConnectionsTree, Ordered, Named as NamedConnections, KindTree, Ports, Nets, Registers, Integers, Parameters, Drivers, Always, Initial, Instance, ItemTree, ItemAt, ModuleTree}
use Rattle.gpi.specs.declared.design.Wake.{Wake}
use Rattle.gpi.specs.declared.design.Kind.TheVariants as process_kind
use Rattle.v_flat.specs.declared.scope.rule.ElabRule.TheVariants as rule
use Rattle.v_flat.specs.declared.scope.found.Found.{Found}
use Rattle.v_flat.specs.Scope.Rules.{at}
use Rattle.v_flat.specs.Scope.Found.{each, both, wants, ended, next}
use Rattle.v_flat.specs.Scope.Scope.{Scope}
use Rattle.v_flat.specs.Scope.Limits.{most_parts}
use Rattle.v_flat.specs.Checks.{checked}
use Rattle.v_flat.specs.Targets.{Drive, driving, as_target}
use Rattle.v_flat.specs.declared.timing.Timing.{Timing}
use Rattle.v_flat.specs.Statements.{statement_checked, statement_reads}
use Rattle.v_flat.specs.Headers.{Port, find_port, ports_of, parameters_of, open_parameters}
use Rattle.v_flat.specs.Declarations.{Given}
use Rattle.v_flat.specs.Design.{Design, Modules, State, Sub, whole_of, adding, assigning, beginning, net, register, driver, in_turn, running, always, always_item, initial_item, wakes_of, events_of, net_count, register_count, plain_item, given_of, Joints, joint, output_joined, joined, ordered_joints, port_once, value_checked, named_joint, named_joints, joints_of, joint_count, find_module, module_there, is_fresh, instance_checked, with_child, instance_item, item, items}
use Rattle.v_flat.specs.Paths.{Path, below}
use Rattle.v_flat.specs.Scope.Found.{Holds, HoldsOk}
use Rattle.v_flat.specs.Laws.{Apart, Digits_are_driven_once}
use Rattle.v_flat.proofs.Holds.{holds_lost, holds_then, holds_each, holds_both, holds_wants, holds_any, holds_ended, holds_next, holds_ok_any}
use Rattle.v_flat.proofs.Driven.{driving_apart}

abbrev IsApart : State → Type 0
IsApart t = Apart t.driven

driver_apart : (d : DriverTree) (s : State) → Apart s.driven → Holds IsApart (driver d s)
driver_apart (Driver t e) s a =
    holds_each (λ (w : ℕ × ℕ). Unit {0}) IsApart (λ w. adding (assigning s.scope t e s.design) (driving None s.scope t s.driven).driven s) (both (driving None s.scope t s.driven).width (checked s.scope e))
    (holds_any (both (driving None s.scope t s.driven).width (checked s.scope e))) (λ w u. driving_apart None s.scope t s.driven a)

net_apart : (n : NetTree) (s : State) → Apart s.driven → Holds IsApart (net n s)
net_apart (NetOf i None) s a = a
net_apart (NetOf i (Some e)) s a = driver_apart (Driver (whole_of i) e) s a

register_apart : (r : RegisterTree) (s : State) → Apart s.driven → Holds IsApart (register r s)
register_apart (RegisterOf i None) s a = a
register_apart (RegisterOf i (Some (Words r))) s a = a
register_apart (RegisterOf i (Some (Initially e))) s a =
    holds_each (λ (w : ℕ). Unit {0}) IsApart (λ w. adding (beginning s.scope (whole_of i) e) s.driven s) (checked s.scope e) (holds_any (checked s.scope e)) (λ w u. a)

in_turn_apart : {A : Type 0} (f : A → State → Found State) (xs : List A) (s : State) → ((x : A) (t : State) → Apart t.driven → Holds IsApart (f x t)) → Apart s.driven → Holds IsApart (in_turn f xs s)
in_turn_apart f [] s h a = a
in_turn_apart f (x ∷ rest) s h a = holds_then IsApart IsApart (f x s) (in_turn f rest) (h x s a) (λ t k. in_turn_apart f rest t h k)

always_apart : (q : Timing) (c : ControlTree) (b : StatementTree) (s : State) → Apart s.driven → Holds IsApart (always_item q c b s)
always_apart q Implicit b s a =
    holds_each (λ (u : Unit {0}). Unit {0}) IsApart (λ u. always q (wakes_of (statement_reads s.scope b) s.design) b s) (statement_checked q s.scope b) (holds_any (statement_checked q s.scope b)) (λ x u. a)
always_apart q (Events es) b s a =
    holds_each (λ (x : List Wake × Unit {0}). Unit {0}) IsApart (λ x. always q x.0 b s) (both (events_of s.scope es) (statement_checked q s.scope b)) (holds_any (both (events_of s.scope es) (statement_checked q s.scope b))) (λ x u. a)

initial_apart : (q : Timing) (b : StatementTree) (s : State) → Apart s.driven → Holds IsApart (initial_item q b s)
initial_apart q b s a =
    holds_each (λ (u : Unit {0}). Unit {0}) IsApart (λ u. adding (record { kind = process_kind.Initial; wakes = []; run = running q s.scope b }) s.driven s) (statement_checked q s.scope b) (holds_any (statement_checked q s.scope b)) (λ x u. a)

room_apart : (p n : ℕ) (s : State) (x : Found State) → Holds IsApart x → Holds IsApart (wants (nat_le (length s.design.processes + n) most_parts) rule.TooMany p x)
room_apart p n s x h = holds_wants IsApart (nat_le (length s.design.processes + n) most_parts) rule.TooMany p x (λ u. h)

plain_apart : (q : Timing) (p : ℕ) (k : KindTree) (s : State) → Apart s.driven → Holds IsApart (plain_item q p k s)
plain_apart q p (Nets r ns) s a = room_apart p (net_count ns) s (in_turn net ns s) (in_turn_apart net ns s net_apart a)
plain_apart q p (Registers r rs) s a = room_apart p (register_count rs) s (in_turn register rs s) (in_turn_apart register rs s register_apart a)
plain_apart q p (Drivers ds) s a = room_apart p (length ds) s (in_turn driver ds s) (in_turn_apart driver ds s driver_apart a)
plain_apart q p (Always c b) s a = room_apart p 1 s (always_item q c b s) (always_apart q c b s a)
plain_apart q p (Initial b) s a = room_apart p 1 s (initial_item q b s) (initial_apart q b s a)
plain_apart q p (Ports h is) s a = a
plain_apart q p (Integers is) s a = a
plain_apart q p (Parameters k r ps) s a = a
plain_apart q p (Instance m v i ps) s a = a

-- ---- instances

abbrev AreApart : Joints → Type 0
AreApart x = Apart x.driven

output_apart : (q : ℕ) (s : Scope) (e : Tree) (ds : List Drive) (t : Option TargetTree) → Apart ds → Holds Apart (output_joined q s e ds t)
output_apart q s e ds None a = holds_lost Apart (at rule.BadTarget q) (checked s e)
output_apart q s e ds (Some t) a =
    holds_each (λ (w : ℕ). Unit {0}) Apart (λ w. (driving (Some q) s t ds).driven) (driving (Some q) s t ds).width (holds_any (driving (Some q) s t ds).width) (λ w u. driving_apart (Some q) s t ds a)

joined_apart : (q : ℕ) (s : Scope) (d : Option Direction) (e : Tree) (ds : List Drive) → Apart ds → Holds Apart (joined q s d e ds)
joined_apart q s (Some direction.Output) e ds a = output_apart q s e ds (as_target e) a
joined_apart q s (Some direction.Input) e ds a = holds_each (λ (w : ℕ). Unit {0}) Apart (λ w. ds) (checked s e) (holds_any (checked s e)) (λ w u. a)
joined_apart q s None e ds a = holds_each (λ (w : ℕ). Unit {0}) Apart (λ w. ds) (checked s e) (holds_any (checked s e)) (λ w u. a)

ordered_apart : (s : Scope) (es : List Tree) (ps : List Port) (ds : List Drive) → Apart ds → Holds AreApart (ordered_joints s es ps ds)
ordered_apart s [] ps ds a = a
ordered_apart s (e ∷ es) [] ds a = holds_lost AreApart (at rule.BadPort (first_at e)) (checked s e)
ordered_apart s (e ∷ es) (p ∷ ps) ds a =
    holds_then Apart AreApart (joined (first_at e) s p.direction e ds) (λ cs. each (joint p.name e) (ordered_joints s es ps cs)) (joined_apart (first_at e) s p.direction e ds a)
    (λ cs k. holds_each AreApart AreApart (joint p.name e) (ordered_joints s es ps cs) (ordered_apart s es ps cs k) (λ x h. h))

named_apart : (q : ℕ) (i : Identifier) (s : Scope) (p : Option Port) (v : Option Tree) (ds : List Drive) (rest : List Drive → Found Joints)
    → ((cs : List Drive) → Apart cs → Holds AreApart (rest cs)) → Apart ds → Holds AreApart (named_joint q i s p v ds rest)
named_apart q i s None v ds rest h a = holds_lost AreApart (at rule.BadPort i.at) (value_checked s v)
named_apart q i s (Some p) None ds rest h a = h ds a
named_apart q i s (Some p) (Some e) ds rest h a =
    holds_then Apart AreApart (joined q s p.direction e ds) (λ cs. each (joint p.name e) (rest cs)) (joined_apart q s p.direction e ds a)
    (λ cs k. holds_each AreApart AreApart (joint p.name e) (rest cs) (h cs k) (λ x g. g))

all_named_apart : (s : Scope) (ps : List Port) (seen : List (List ℕ)) (cs : List ConnectionTree) (ds : List Drive) → Apart ds → Holds AreApart (named_joints s ps seen cs ds)
all_named_apart s ps seen [] ds a = a
all_named_apart s ps seen (Connection q i v ∷ cs) ds a =
    named_apart q i s (port_once i seen (find_port i.name ps)) v ds (named_joints s ps (i.name ∷ seen) cs) (λ es k. all_named_apart s ps (i.name ∷ seen) cs es k) a

joints_apart : (s : Scope) (c : Option ConnectionsTree) (ps : List Port) (ds : List Drive) → Apart ds → Holds AreApart (joints_of s c ps ds)
joints_apart s None ps ds a = a
joints_apart s (Some (Ordered es)) ps ds a = ordered_apart s es ps ds a
joints_apart s (Some (NamedConnections cs)) ps ds a = all_named_apart s ps [] cs ds a

checked_apart : (p : ℕ) (v : Option ConnectionsTree) (i : Identifier) (c : Option ConnectionsTree) (s : State) (m : ModuleTree) → Apart s.driven
    → Holds (λ (x : List Given × Joints). Unit {0} × Apart x.1.driven) (instance_checked p v i c s m)
checked_apart p v i c s m a =
    holds_wants (λ (x : List Given × Joints). Unit {0} × Apart x.1.driven) (nat_le (length s.design.processes + joint_count c (ports_of m)) most_parts) rule.TooMany p
    (wants (is_fresh i.name s) rule.DuplicateName i.at (both (given_of s.scope v (open_parameters (parameters_of m))) (joints_of s.scope c (ports_of m) s.driven)))
    (λ u. holds_wants (λ (x : List Given × Joints). Unit {0} × Apart x.1.driven) (is_fresh i.name s) rule.DuplicateName i.at
    (both (given_of s.scope v (open_parameters (parameters_of m))) (joints_of s.scope c (ports_of m) s.driven))
    (λ w. holds_both (λ (g : List Given). Unit {0}) AreApart (given_of s.scope v (open_parameters (parameters_of m))) (joints_of s.scope c (ports_of m) s.driven)
    (holds_any (given_of s.scope v (open_parameters (parameters_of m)))) (joints_apart s.scope c (ports_of m) s.driven a)))

module _ (q : Timing) (sub : Sub) (room : ℕ) (ms : Modules) (above : List (List ℕ)) (path : Path) where
  instance_apart : (p : ℕ) (m : Identifier) (v : Option ConnectionsTree) (i : Identifier) (c : Option ConnectionsTree) (s : State) → Apart s.driven
      → HoldsOk IsApart (instance_item sub room ms above path p m v i c s)
  instance_apart p m v i c s a =
      holds_next (λ (t : ModuleTree). Unit {0}) IsApart (ended (module_there m room above s.design (find_module m.name ms.list))) (λ inner.
      next (ended (instance_checked p v i c s inner)) (λ x.
      next (sub (m.name ∷ above) inner (below path i.name) (record { given = x.0; scope = s.scope; joints = x.1.list }) s.design) (λ d.
      Ok (with_child i.name (length s.design.nodes) x.1.driven s d))))
      (holds_ok_any (ended (module_there m room above s.design (find_module m.name ms.list))))
      (λ inner u. holds_next (λ (x : List Given × Joints). Unit {0} × Apart x.1.driven) IsApart (ended (instance_checked p v i c s inner)) (λ x.
      next (sub (m.name ∷ above) inner (below path i.name) (record { given = x.0; scope = s.scope; joints = x.1.list }) s.design) (λ d.
      Ok (with_child i.name (length s.design.nodes) x.1.driven s d)))
      (holds_ended (λ (x : List Given × Joints). Unit {0} × Apart x.1.driven) (instance_checked p v i c s inner) (checked_apart p v i c s inner a))
      (λ x k. holds_next (λ (d : Design). Unit {0}) IsApart (sub (m.name ∷ above) inner (below path i.name) (record { given = x.0; scope = s.scope; joints = x.1.list }) s.design)
      (λ d. Ok (with_child i.name (length s.design.nodes) x.1.driven s d))
      (holds_ok_any (sub (m.name ∷ above) inner (below path i.name) (record { given = x.0; scope = s.scope; joints = x.1.list }) s.design)) (λ d w. k.1)))

  ended_apart : (p : ℕ) (k : KindTree) (s : State) → Apart s.driven → HoldsOk IsApart (ended (plain_item q p k s))
  ended_apart p k s a = holds_ended IsApart (plain_item q p k s) (plain_apart q p k s a)

  item_apart : (i : ItemTree) (s : State) → Apart s.driven → HoldsOk IsApart (item q sub room ms above path i s)
  item_apart (ItemAt p (Instance m v i c)) s a = instance_apart p m v i c s a
  item_apart (ItemAt p (Nets r ns)) s a = ended_apart p (Nets r ns) s a
  item_apart (ItemAt p (Registers r rs)) s a = ended_apart p (Registers r rs) s a
  item_apart (ItemAt p (Drivers ds)) s a = ended_apart p (Drivers ds) s a
  item_apart (ItemAt p (Always c b)) s a = ended_apart p (Always c b) s a
  item_apart (ItemAt p (Initial b)) s a = ended_apart p (Initial b) s a
  item_apart (ItemAt p (Ports h is)) s a = a
  item_apart (ItemAt p (Integers is)) s a = a
  item_apart (ItemAt p (Parameters k r ps)) s a = a

  pub items_apart : (is : List ItemTree) (s : State) → Apart s.driven → HoldsOk IsApart (items q sub room ms above path is s)
  items_apart [] s a = a
  items_apart (i ∷ is) s a = holds_next IsApart IsApart (item q sub room ms above path i s) (items q sub room ms above path is) (item_apart i s a) (λ t k. items_apart is t k)

pub driven_once : Digits_are_driven_once
driven_once q sub room ms above path is s a = items_apart q sub room ms above path is s a
