-- What an item that is no instance leaves as it is, and the assignments of connected ports.
use Rattle.std.proofs.Common.{◌≡◌, ◌∙◌, ◌+◌, ℕ, List, [], ◌∷◌, length, nat_le, Option, Some, None, refl}
use Rattle.gpi.specs.declared.design.Kind.TheVariants as process_kind
use Rattle.gpi.specs.declared.design.Wake.{Wake}
use Rattle.v_syntax.specs.declared.item.Direction.{Direction}
use Rattle.v_syntax.specs.declared.item.Direction.TheVariants as direction
use Rattle.v_syntax.specs.ExpressionTrees.{Tree, TargetTree}
use Rattle.v_syntax.specs.StatementTrees.{StatementTree}
use Rattle.v_syntax.specs.SourceTrees.{NetTree, Net as NetOf, Words, Initially, RegisterTree, Register as RegisterOf, DriverTree, Driver, ControlTree, Implicit, Events, KindTree, Ports, Nets, Registers, Integers, Parameters, Drivers, Always, Initial, Instance}
use Rattle.v_flat.specs.declared.scope.rule.ElabRule.TheVariants as rule
use Rattle.v_flat.specs.declared.scope.found.Found.{Found}
use Rattle.v_flat.specs.declared.scope.found.Found.TheVariants as found
use Rattle.v_flat.specs.declared.scope.meaning.DataObject.{DataObject}
use Rattle.v_flat.specs.declared.scope.meaning.Meaning.{Meaning}
use Rattle.v_flat.specs.declared.scope.meaning.Meaning.TheVariants.{Constant, Object, Later}
use Rattle.v_flat.specs.Scope.Found.{Holds, both, wants}
use Rattle.v_flat.specs.Scope.Limits.{most_parts}
use Rattle.v_flat.specs.Scope.Scope.{Scope, find}
use Rattle.v_flat.specs.Checks.{checked}
use Rattle.v_flat.specs.Targets.{as_target, driving}
use Rattle.v_flat.specs.declared.timing.Timing.{Timing}
use Rattle.v_flat.specs.Statements.{statement_checked, statement_reads}
use Rattle.v_flat.specs.Headers.{Port}
use Rattle.v_flat.specs.Design.{Design, Joint, State, adding, always, always_item, assigning, beginning, driver, events_of, find_joint, in_turn, initial_item, net, net_count, output_target, plain_item, port_joint, port_joints, register, register_count, running, wakes_of, whole_of}
use Rattle.v_flat.proofs.Holds.{holds_any, holds_each, holds_then, holds_wants}

-- the same signals, instances, children and names
pub record Keeps (s t : State) : Type 0 where
  pub nodes : t.design.nodes ≡ s.design.nodes
  pub signals : t.design.signals ≡ s.design.signals
  pub children : t.children ≡ s.children
  pub scope : t.scope ≡ s.scope

keeps_itself : (s : State) → Keeps s s
keeps_itself s = record { nodes = refl; signals = refl; children = refl; scope = refl }

keeps_on : (r s t : State) → Keeps r s → Keeps s t → Keeps r t
keeps_on r s t h k = record { nodes = k.nodes ∙ h.nodes; signals = k.signals ∙ h.signals; children = k.children ∙ h.children; scope = k.scope ∙ h.scope }

driver_keeps : (d : DriverTree) (s : State) → Holds (Keeps s) (driver d s)
driver_keeps (Driver t e) s =
    holds_each (λ (w : ℕ × ℕ). Unit {0}) (Keeps s) (λ w. adding (assigning s.scope t e s.design) (driving None s.scope t s.driven).driven s) (both (driving None s.scope t s.driven).width (checked s.scope e))
    (holds_any (both (driving None s.scope t s.driven).width (checked s.scope e)))
    (λ w u. record { nodes = refl; signals = refl; children = refl; scope = refl })

net_keeps : (n : NetTree) (s : State) → Holds (Keeps s) (net n s)
net_keeps (NetOf i None) s = keeps_itself s
net_keeps (NetOf i (Some e)) s = driver_keeps (Driver (whole_of i) e) s

register_keeps : (r : RegisterTree) (s : State) → Holds (Keeps s) (register r s)
register_keeps (RegisterOf i None) s = keeps_itself s
register_keeps (RegisterOf i (Some (Words r))) s = keeps_itself s
register_keeps (RegisterOf i (Some (Initially e))) s =
    holds_each (λ (w : ℕ). Unit {0}) (Keeps s) (λ w. adding (beginning s.scope (whole_of i) e) s.driven s) (checked s.scope e) (holds_any (checked s.scope e))
    (λ w u. record { nodes = refl; signals = refl; children = refl; scope = refl })

holds_weaker : {A : Type 0} (P Q : A → Type 0) (x : Found A) → Holds P x → ((a : A) → P a → Q a) → Holds Q x
holds_weaker P Q (found.Sound a) h f = f a h
holds_weaker P Q (found.Noted b a) h f = tt
holds_weaker P Q (found.Lost b) h f = tt

in_turn_keeps : {A : Type 0} (f : A → State → Found State) (xs : List A) (s : State) → ((x : A) (t : State) → Holds (Keeps t) (f x t)) → Holds (Keeps s) (in_turn f xs s)
in_turn_keeps f [] s h = keeps_itself s
in_turn_keeps f (x ∷ rest) s h =
    holds_then (Keeps s) (Keeps s) (f x s) (in_turn f rest) (h x s)
    (λ t k. holds_weaker (Keeps t) (Keeps s) (in_turn f rest t) (in_turn_keeps f rest t h) (λ u l. keeps_on s t u k l))

always_keeps : (q : Timing) (c : ControlTree) (b : StatementTree) (s : State) → Holds (Keeps s) (always_item q c b s)
always_keeps q Implicit b s =
    holds_each (λ (u : Unit {0}). Unit {0}) (Keeps s) (λ u. always q (wakes_of (statement_reads s.scope b) s.design) b s) (statement_checked q s.scope b) (holds_any (statement_checked q s.scope b))
    (λ x u. record { nodes = refl; signals = refl; children = refl; scope = refl })
always_keeps q (Events es) b s =
    holds_each (λ (x : List Wake × Unit {0}). Unit {0}) (Keeps s) (λ x. always q x.0 b s) (both (events_of s.scope es) (statement_checked q s.scope b)) (holds_any (both (events_of s.scope es) (statement_checked q s.scope b)))
    (λ x u. record { nodes = refl; signals = refl; children = refl; scope = refl })

initial_keeps : (q : Timing) (b : StatementTree) (s : State) → Holds (Keeps s) (initial_item q b s)
initial_keeps q b s =
    holds_each (λ (u : Unit {0}). Unit {0}) (Keeps s) (λ u. adding (record { kind = process_kind.Initial; wakes = []; run = running q s.scope b }) s.driven s) (statement_checked q s.scope b) (holds_any (statement_checked q s.scope b))
    (λ x u. record { nodes = refl; signals = refl; children = refl; scope = refl })

room_keeps : (p n : ℕ) (s : State) (x : Found State) → Holds (Keeps s) x → Holds (Keeps s) (wants (nat_le (length s.design.processes + n) most_parts) rule.TooMany p x)
room_keeps p n s x h = holds_wants (Keeps s) (nat_le (length s.design.processes + n) most_parts) rule.TooMany p x (λ u. h)

pub plain_keeps : (q : Timing) (p : ℕ) (k : KindTree) (s : State) → Holds (Keeps s) (plain_item q p k s)
plain_keeps q p (Nets r ns) s = room_keeps p (net_count ns) s (in_turn net ns s) (in_turn_keeps net ns s net_keeps)
plain_keeps q p (Registers r rs) s = room_keeps p (register_count rs) s (in_turn register rs s) (in_turn_keeps register rs s register_keeps)
plain_keeps q p (Drivers ds) s = room_keeps p (length ds) s (in_turn driver ds s) (in_turn_keeps driver ds s driver_keeps)
plain_keeps q p (Always c b) s = room_keeps p 1 s (always_item q c b s) (always_keeps q c b s)
plain_keeps q p (Initial b) s = room_keeps p 1 s (initial_item q b s) (initial_keeps q b s)
plain_keeps q p (Ports h is) s = keeps_itself s
plain_keeps q p (Integers is) s = keeps_itself s
plain_keeps q p (Parameters k r ps) s = keeps_itself s
plain_keeps q p (Instance m v i ps) s = keeps_itself s

-- what follows of the kept parts
pub plain_holds : (P : State → Type 0) (q : Timing) (p : ℕ) (k : KindTree) (s : State) → ((t : State) → Keeps s t → P t) → Holds P (plain_item q p k s)
plain_holds P q p k s f = holds_weaker (Keeps s) P (plain_item q p k s) (plain_keeps q p k s) f

-- ---- the assignments of connected ports

-- the same signals and instances
pub record KeepsParts (d e : Design) : Type 0 where
  pub nodes : e.nodes ≡ d.nodes
  pub signals : e.signals ≡ d.signals

output_keeps : (outer : Scope) (o : DataObject) (t : Option TargetTree) (d : Design) → KeepsParts d (output_target outer o t d)
output_keeps outer o None d = record { nodes = refl; signals = refl }
output_keeps outer o (Some t) d = record { nodes = refl; signals = refl }

joint_keeps : (outer : Scope) (v : Option Tree) (c : Option Direction) (x : Option Meaning) (d : Design) → KeepsParts d (port_joint outer v c x d)
joint_keeps outer None c x d = record { nodes = refl; signals = refl }
joint_keeps outer (Some e) (Some direction.Output) (Some (Object o)) d = output_keeps outer o (as_target e) d
joint_keeps outer (Some e) (Some direction.Input) (Some (Object o)) d = record { nodes = refl; signals = refl }
joint_keeps outer (Some e) None (Some (Object o)) d = record { nodes = refl; signals = refl }
joint_keeps outer (Some e) (Some direction.Output) (Some (Constant ds b)) d = record { nodes = refl; signals = refl }
joint_keeps outer (Some e) (Some direction.Input) (Some (Constant ds b)) d = record { nodes = refl; signals = refl }
joint_keeps outer (Some e) None (Some (Constant ds b)) d = record { nodes = refl; signals = refl }
joint_keeps outer (Some e) (Some direction.Output) (Some Later) d = record { nodes = refl; signals = refl }
joint_keeps outer (Some e) (Some direction.Input) (Some Later) d = record { nodes = refl; signals = refl }
joint_keeps outer (Some e) None (Some Later) d = record { nodes = refl; signals = refl }
joint_keeps outer (Some e) (Some direction.Output) None d = record { nodes = refl; signals = refl }
joint_keeps outer (Some e) (Some direction.Input) None d = record { nodes = refl; signals = refl }
joint_keeps outer (Some e) None None d = record { nodes = refl; signals = refl }

pub joints_keep : (outer : Scope) (js : List Joint) (s : Scope) (ps : List Port) (d : Design) → KeepsParts d (port_joints outer js s ps d)
joints_keep outer js s [] d = record { nodes = refl; signals = refl }
joints_keep outer js s (p ∷ ps) d =
    let one : Design = port_joint outer (find_joint p.name js) p.direction (find p.name s) d in
    let h : KeepsParts d one = joint_keeps outer (find_joint p.name js) p.direction (find p.name s) d in
    let k : KeepsParts one (port_joints outer js s ps one) = joints_keep outer js s ps one in
    record { nodes = k.nodes ∙ h.nodes; signals = k.signals ∙ h.signals }
