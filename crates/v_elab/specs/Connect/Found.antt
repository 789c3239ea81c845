-- A means of proof: what is found in one connection, and in the connections so far.
use Rattle.std.specs.Prelude.{◌≡◌, ℕ, List, [], ◌∷◌, ◌++◌, Option, None, Some, option_map, slice_get}
use Rattle.std.specs.Borrow.{Bor}
use Rattle.v_syntax.specs.declared.item.Direction.{Direction}
use Rattle.v_syntax.specs.declared.item.Direction.TheVariants as direction
use Rattle.v_syntax.specs.declared.expression.Expression.{Expression}
use Rattle.v_syntax.specs.ExpressionTrees.{Tree, view}
use Rattle.v_flat.specs.declared.scope.rule.ElabRule.TheVariants as rule
use Rattle.v_flat.specs.declared.scope.found.Found.{Found}
use Rattle.v_flat.specs.declared.scope.found.Found.TheVariants.{Sound, Noted, Lost}
use Rattle.v_flat.specs.Scope.Rules.{at}
use Rattle.v_flat.specs.Scope.Found.{lost, each, and_then, Holds}
use Rattle.v_flat.specs.Scope.Scope.{Scope}
use Rattle.v_flat.specs.Headers.{Port}
use Rattle.v_flat.specs.Checks.{checked}
use Rattle.v_flat.specs.Statements.{done}
use Rattle.v_flat.specs.Targets.{Drive}
use Rattle.v_flat.specs.Design.{Joint, Joints, joined, value_checked}
use Rattle.v_process.specs.declared.drive.digits.DrivenDigits.{DrivenDigits}
use Rattle.v_process.specs.Drive.Digits.{Keeps}
use Rattle.v_elab.specs.declared.connect.joint.Joined.{Joined}
use Rattle.v_elab.specs.declared.connect.joint.Joint as code
use Rattle.v_elab.specs.Connect.Joints.{IsJoined, AreJoints}

-- the expression that the code refers to
abbrev pub value_in : Option (Bor Expression) → Option Tree
value_in v = option_map (λ (x : Bor Expression). view x.now) v

-- ---- one port

-- the same rule is broken first, and else the value is the expression
pub record IsFoundValue (s : Scope) (e : Tree) (f : Found Joined) : Type 0 where
  pub rule_is : done f ≡ done (checked s e)
  pub value : Holds (λ (j : Joined). IsJoined s None e j) f

abbrev pub JoinsAs : Scope → Option Direction → Tree → Found (List Drive) → Found Joined → DrivenDigits → Type 0
JoinsAs s d e (Sound es) (Sound j) y = IsJoined s d e j × Keeps y es
JoinsAs s d e (Sound es) (Noted c j) y = ⊥
JoinsAs s d e (Sound es) (Lost c) y = ⊥
JoinsAs s d e (Noted b es) (Noted c j) y = (b ≡ c) × Keeps y es
JoinsAs s d e (Noted b es) (Sound j) y = ⊥
JoinsAs s d e (Noted b es) (Lost c) y = ⊥
JoinsAs s d e (Lost b) (Lost c) y = b ≡ c
JoinsAs s d e (Lost b) (Sound j) y = ⊥
JoinsAs s d e (Lost b) (Noted c j) y = ⊥

abbrev pub IsFoundJoined : ℕ → Scope → Option Direction → Tree → DrivenDigits → Found Joined → DrivenDigits → Type 0
IsFoundJoined q s d e x f y = (ds : List Drive) → Keeps x ds → JoinsAs s d e (joined q s d e ds) f y

abbrev pub IsFoundOutput : ℕ → Scope → Tree → DrivenDigits → Found Joined → DrivenDigits → Type 0
IsFoundOutput q s e x f y = IsFoundJoined q s (Some direction.Output) e x f y

-- ---- one connection

-- its joint, if it makes one; p is where BadPort is broken
abbrev pub connected : ℕ → ℕ → Scope → Option Port → Option Tree → List Drive → Found Joints
connected q p s None v ds = lost (at rule.BadPort p) (value_checked s v)
connected q p s (Some o) None ds = Sound (record { list = []; driven = ds })
connected q p s (Some o) (Some e) ds = each (λ es. record { list = record { port = o.name; value = e } ∷ []; driven = es }) (joined q s o.direction e ds)

-- a joint is added where no rule is broken in it
abbrev pub IsAdded : List ℕ → Found Joined → List code.Joint → Found (Unit {0}) → List code.Joint → Type 0
IsAdded n (Sound j) js (Sound u) ks = (c : code.Joint) × ((ks ≡ js ++ (c ∷ [])) × ((c.port.items ≡ n) × (c.joined ≡ j)))
IsAdded n (Sound j) js (Noted c u) ks = ⊥
IsAdded n (Sound j) js (Lost c) ks = ⊥
IsAdded n (Noted b j) js f ks = f ≡ Noted b tt
IsAdded n (Lost b) js f ks = f ≡ Lost b

-- the joints that are added to js are those of x
abbrev pub Adds : Scope → List Port → Found Joints → List code.Joint → Found (Unit {0}) → List code.Joint → DrivenDigits → Type 0
Adds s ps (Sound x) js (Sound u) ks y = ((more : List code.Joint) × ((ks ≡ js ++ more) × AreJoints s ps x.list more)) × Keeps y x.driven
Adds s ps (Sound x) js (Noted c u) ks y = ⊥
Adds s ps (Sound x) js (Lost c) ks y = ⊥
Adds s ps (Noted b x) js (Noted c u) ks y = (b ≡ c) × Keeps y x.driven
Adds s ps (Noted b x) js (Sound u) ks y = ⊥
Adds s ps (Noted b x) js (Lost c) ks y = ⊥
Adds s ps (Lost b) js (Lost c) ks y = b ≡ c
Adds s ps (Lost b) js (Sound u) ks y = ⊥
Adds s ps (Lost b) js (Noted c u) ks y = ⊥

-- it is one of the ports, if there is one
abbrev pub IsListed : List Port → Option Port → Type 0
IsListed ps None = Unit {0}
IsListed ps (Some p) = (i : ℕ) × (slice_get ps i ≡ Some p)

abbrev pub Connects : Scope → ℕ → ℕ → Option Port → Option Tree → DrivenDigits → List code.Joint → Found (Unit {0}) → List code.Joint → DrivenDigits → Type 0
Connects s q p o v x js f ks y = (ps : List Port) (ds : List Drive) → IsListed ps o → Keeps x ds → Adds s ps (connected q p s o v ds) js f ks y

-- ---- the connections so far

-- js are the joints so far
abbrev pub Goes : Scope → List Port → Found Joints → Found (Unit {0}) → List code.Joint → DrivenDigits → Type 0
Goes s ps (Sound x) (Sound u) js y = AreJoints s ps x.list js × Keeps y x.driven
Goes s ps (Sound x) (Noted c u) js y = ⊥
Goes s ps (Sound x) (Lost c) js y = ⊥
Goes s ps (Noted b x) (Noted c u) js y = (b ≡ c) × Keeps y x.driven
Goes s ps (Noted b x) (Sound u) js y = ⊥
Goes s ps (Noted b x) (Lost c) js y = ⊥
Goes s ps (Lost b) (Lost c) js y = b ≡ c
Goes s ps (Lost b) (Sound u) js y = ⊥
Goes s ps (Lost b) (Noted c u) js y = ⊥

-- joints behind others
abbrev pub after : List Joint → Joints → Joints
after js x = record { list = js ++ x.list; driven = x.driven }

abbrev pub behind : (List Drive → Found Joints) → Joints → Found Joints
behind f x = each (after x.list) (f x.driven)

abbrev pub ThenConnects : Scope → ℕ → ℕ → Option Port → Option Tree → Found (Unit {0}) → DrivenDigits → List code.Joint → Found (Unit {0}) → List code.Joint → DrivenDigits → Type 0
ThenConnects s q p o v f x js g ks y =
    (ps : List Port) (a : Found Joints) → IsListed ps o → Goes s ps a f js x → Goes s ps (and_then a (behind (connected q p s o v))) g ks y
