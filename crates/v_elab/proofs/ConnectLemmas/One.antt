-- What is found in one connection.
use Rattle.std.proofs.Common.{◌≡◌, ℕ, List, [], ◌∷◌, ◌++◌, Option, Some, None, Result, Ok, Err, IfOk, true, false, refl, sym, ap, ◌∙◌, subst}
use Rattle.std.proofs.lemmas.List.{append-nil}
use Rattle.v_syntax.specs.declared.item.Direction.{Direction}
use Rattle.v_syntax.specs.declared.item.Direction.TheVariants as direction
use Rattle.v_syntax.specs.ExpressionTrees.{Tree, TargetTree}
use Rattle.v_flat.specs.declared.scope.rule.Broken.{Broken}
use Rattle.v_flat.specs.declared.scope.rule.ElabRule.TheVariants as rule
use Rattle.v_flat.specs.declared.scope.found.Found.{Found}
use Rattle.v_flat.specs.declared.scope.found.Found.TheVariants.{Sound, Noted, Lost}
use Rattle.v_flat.specs.Scope.Rules.{earlier, at}
use Rattle.v_flat.specs.Scope.Found.{noted, lost, each, and_then, EachIs, Holds, ForValue}
use Rattle.v_flat.specs.Scope.Limits.{counted_width}
use Rattle.v_flat.specs.Scope.Scope.{Scope}
use Rattle.v_flat.proofs.ScopeLemmas.Gathered.{each_each}
use Rattle.v_flat.specs.Headers.{Port}
use Rattle.v_flat.specs.Checks.{checked}
use Rattle.v_flat.specs.Statements.{done}
use Rattle.v_flat.specs.Targets.{Drive, Driving, driving, as_target}
use Rattle.v_flat.specs.Design.{Joint, Joints, joined, output_joined, value_checked}
use Rattle.v_process.specs.declared.drive.digits.DrivenDigits.{DrivenDigits}
use Rattle.v_process.specs.Drive.Digits.{Keeps}
use Rattle.v_check.specs.declared.constants.checked.Checked.{Checked}
use Rattle.v_check.specs.Constants.Checked.{IsChecked, StandsFor}
use Rattle.v_process.specs.declared.target.checked.CheckedTarget.{CheckedTarget}
use Rattle.v_process.specs.Assign.Targets.{GetsAs}
use Rattle.v_process.specs.Outputs.Outputs.{IsOutput}
use Rattle.v_elab.specs.declared.connect.joint.Joined.{Joined}
use Rattle.v_elab.specs.declared.connect.joint.Joined.TheVariants as joined_kind
use Rattle.v_elab.specs.declared.connect.joint.Joint as code
use Rattle.v_elab.specs.Connect.Joints.{IsTargetOf, IsJoined, AreJoints}
use Rattle.v_elab.specs.Connect.Found.{IsFoundValue, JoinsAs, IsFoundJoined, connected, IsAdded, Adds, IsListed, Connects, Goes, after, behind}

-- ---- which rule is broken

pub each_done : {A B : Type 0} (P : A → B → Type 0) (x : Found A) (y : Found B) → EachIs P x y → done y ≡ done x
each_done P (Sound a) (Sound b) h = refl
each_done P (Sound a) (Noted c b) h = absurd h
each_done P (Sound a) (Lost c) h = absurd h
each_done P (Noted d a) (Noted c b) h = ap (λ (z : Broken). (let r : Found (Unit {0}) = Noted z tt in r)) (sym h.0)
each_done P (Noted d a) (Sound b) h = absurd h
each_done P (Noted d a) (Lost c) h = absurd h
each_done P (Lost d) (Lost c) h = ap (λ (z : Broken). (let r : Found (Unit {0}) = Lost z in r)) (sym h)
each_done P (Lost d) (Sound b) h = absurd h
each_done P (Lost d) (Noted c b) h = absurd h

pub each_holds : {A B : Type 0} (P : A → B → Type 0) (Q : A → Type 0) (R : B → Type 0) (x : Found A) (y : Found B) → EachIs P x y → Holds Q x
    → ((a : A) (b : B) → P a b → Q a → R b) → Holds R y
each_holds P Q R (Sound a) (Sound b) h k f = f a b h k
each_holds P Q R (Sound a) (Noted c b) h k f = tt
each_holds P Q R (Sound a) (Lost c) h k f = tt
each_holds P Q R (Noted d a) (Noted c b) h k f = tt
each_holds P Q R (Noted d a) (Sound b) h k f = absurd h
each_holds P Q R (Noted d a) (Lost c) h k f = tt
each_holds P Q R (Lost d) (Lost c) h k f = tt
each_holds P Q R (Lost d) (Sound b) h k f = absurd h
each_holds P Q R (Lost d) (Noted c b) h k f = tt

-- the same of widths that are the same where those beyond 128 are one
pub widths_done : {A : Type 0} (w : A → ℕ) (f : Found A) (x : Found ℕ) → each w f ≡ each counted_width x → done f ≡ done x
widths_done {A} w f x h =
    sym (each_each (λ (n : ℕ). tt) w f) ∙ ap (λ (y : Found ℕ). done y) h ∙ each_each (λ (n : ℕ). tt) counted_width x

-- ---- what is joined

pub joins_by : (s : Scope) (d : Option Direction) (e : Tree) (x : Found (List Drive)) (g : Found Joined) (y : DrivenDigits) → done g ≡ done x
    → ForValue (λ (es : List Drive). Keeps y es) x → Holds (λ (j : Joined). IsJoined s d e j) g → JoinsAs s d e x g y
joins_by s d e (Sound es) (Sound j) y h k i = (i, k)
joins_by s d e (Sound es) (Noted c j) y h k i = cc
joins_by s d e (Sound es) (Lost c) y h k i = cc
joins_by s d e (Noted b es) (Noted c j) y h k i = ((cc), k)
joins_by s d e (Noted b es) (Sound j) y h k i = cc
joins_by s d e (Noted b es) (Lost c) y h k i = cc
joins_by s d e (Lost b) (Lost c) y h k i = cc
joins_by s d e (Lost b) (Sound j) y h k i = cc
joins_by s d e (Lost b) (Noted c j) y h k i = cc

pub value_found : (s : Scope) (e : Tree) (k : Checked → Joined) (f : Found Checked) (g : Found Joined) → IsChecked s e f
    → ((c : Checked) → StandsFor s e c → IsJoined s None e (k c)) → EachIs (λ (c : Checked) (j : Joined). j ≡ k c) f g → IsFoundValue s e g
value_found s e k f g h stands made = record {
  rule_is = each_done (λ (c : Checked) (j : Joined). j ≡ k c) f g made ∙ widths_done (λ (c : Checked). c.width) f (checked s e) h.finds;
  value = each_holds (λ (c : Checked) (j : Joined). j ≡ k c) (λ (c : Checked). StandsFor s e c) (λ (j : Joined). IsJoined s None e j) f g made h.holds
      (λ c j is so. subst (λ (i : Joined). IsJoined s None e i) (sym is) (stands c so));
}

always_keeps : {A : Type 0} (y : DrivenDigits) (ds : List Drive) (x : Found A) → Keeps y ds → ForValue (λ (es : List Drive). Keeps y es) (each (λ (a : A). ds) x)
always_keeps y ds (Sound a) h = h
always_keeps y ds (Noted b a) h = h
always_keeps y ds (Lost b) h = tt

each_same_done : {A B : Type 0} (f : A → B) (x : Found A) → done x ≡ done (each f x)
each_same_done f (Sound a) = refl
each_same_done f (Noted b a) = refl
each_same_done f (Lost b) = refl

plain_joined : (s : Scope) (d : Option Direction) (e : Tree) (g : Found Joined) (y : DrivenDigits) (ds : List Drive) → done g ≡ done (checked s e) → Keeps y ds
    → Holds (λ (j : Joined). IsJoined s d e j) g → JoinsAs s d e (each (λ (w : ℕ). ds) (checked s e)) g y
plain_joined s d e g y ds r k h =
    joins_by s d e (each (λ (w : ℕ). ds) (checked s e)) g y (r ∙ each_same_done (λ (w : ℕ). ds) (checked s e)) (always_keeps y ds (checked s e) k) h

as_input : (s : Scope) (e : Tree) (j : Joined) → IsJoined s None e j → IsJoined s (Some direction.Input) e j
as_input s e (joined_kind.Value c xs) h = h
as_input s e (joined_kind.Target c) h = h

holds_input : (s : Scope) (e : Tree) (g : Found Joined) → Holds (λ (j : Joined). IsJoined s None e j) g → Holds (λ (j : Joined). IsJoined s (Some direction.Input) e j) g
holds_input s e (Sound j) h = as_input s e j h
holds_input s e (Noted b j) h = tt
holds_input s e (Lost b) h = tt

pub value_joined : (q : ℕ) (s : Scope) (e : Tree) (x : DrivenDigits) (g : Found Joined) → IsFoundValue s e g → IsFoundJoined q s None e x g x
value_joined q s e x g h = λ ds k. plain_joined s None e g x ds h.rule_is k h.value

pub input_joined : (q : ℕ) (s : Scope) (e : Tree) (x : DrivenDigits) (g : Found Joined) → IsFoundValue s e g → IsFoundJoined q s (Some direction.Input) e x g x
input_joined q s e x g h = λ ds k. plain_joined s (Some direction.Input) e g x ds h.rule_is k (holds_input s e g h.value)

-- ---- outputs

drives_joined : (s : Scope) (e : Tree) (t : TargetTree) (z : Driving) (f : Found CheckedTarget) (g : Found Joined) (y : DrivenDigits) → as_target e ≡ Some t
    → done f ≡ done z.width → Holds (λ (c : CheckedTarget). GetsAs s t c) f → Keeps y z.driven
    → EachIs (λ (c : CheckedTarget) (j : Joined). j ≡ joined_kind.Target c) f g → JoinsAs s (Some direction.Output) e (each (λ (w : ℕ). z.driven) z.width) g y
drives_joined s e t z f g y is r h k made =
    joins_by s (Some direction.Output) e (each (λ (w : ℕ). z.driven) z.width) g y
    (each_done (λ (c : CheckedTarget) (j : Joined). j ≡ joined_kind.Target c) f g made ∙ r ∙ each_same_done (λ (w : ℕ). z.driven) z.width)
    (always_keeps y z.driven z.width k)
    (each_holds (λ (c : CheckedTarget) (j : Joined). j ≡ joined_kind.Target c) (λ (c : CheckedTarget). GetsAs s t c) (λ (j : Joined). IsJoined s (Some direction.Output) e j) f g made h
    (λ c j same gets. subst (λ (i : Joined). IsJoined s (Some direction.Output) e i) (sym same)
    (subst (λ (o : Option TargetTree). IsTargetOf s o c) (sym is) gets)))

output_by : (q : ℕ) (s : Scope) (e : Tree) (o : Option TargetTree) (x y : DrivenDigits) (f : Found CheckedTarget) (g : Found Joined) → as_target e ≡ o
    → IsOutput q s o x (Some f) y → EachIs (λ (c : CheckedTarget) (j : Joined). j ≡ joined_kind.Target c) f g → (ds : List Drive) → Keeps x ds
    → JoinsAs s (Some direction.Output) e (output_joined q s e ds o) g y
output_by q s e None x y f g is h made = absurd h
output_by q s e (Some t) x y f g is h made = λ ds k.
    let z = driving (Some q) s t ds in
    drives_joined s e t z f g y is (widths_done (λ (c : CheckedTarget). c.width) f z.width (h ds k).target.finds) (h ds k).target.holds (h ds k).driven made

pub output_found : (q : ℕ) (s : Scope) (e : Tree) (x y : DrivenDigits) (f : Found CheckedTarget) (g : Found Joined)
    → IsOutput q s (as_target e) x (Some f) y → EachIs (λ (c : CheckedTarget) (j : Joined). j ≡ joined_kind.Target c) f g → IsFoundJoined q s (Some direction.Output) e x g y
output_found q s e x y f g h made = output_by q s e (as_target e) x y f g refl h made

-- without a value only the rule counts
lost_joins : {A : Type 0} (s : Scope) (d : Option Direction) (e : Tree) (b : Broken) (x : Found A) (v : Found Joined) (y : DrivenDigits) → done v ≡ done x
    → JoinsAs s d e (lost b x) (lost b v) y
lost_joins s d e b (Sound a) (Sound j) y h = refl
lost_joins s d e b (Sound a) (Noted c j) y h = cc
lost_joins s d e b (Sound a) (Lost c) y h = cc
lost_joins s d e b (Noted z a) (Noted c j) y h = let same : z ≡ c = cc in ap (λ (r : Broken). earlier b r) same
lost_joins s d e b (Noted z a) (Sound j) y h = cc
lost_joins s d e b (Noted z a) (Lost c) y h = cc
lost_joins s d e b (Lost z) (Lost c) y h = let same : z ≡ c = cc in ap (λ (r : Broken). earlier b r) same
lost_joins s d e b (Lost z) (Sound j) y h = cc
lost_joins s d e b (Lost z) (Noted c j) y h = cc

none_by : (q : ℕ) (s : Scope) (e : Tree) (o : Option TargetTree) (x y : DrivenDigits) (v : Found Joined) → IsOutput q s o x None y → done v ≡ done (checked s e)
    → (ds : List Drive) → JoinsAs s (Some direction.Output) e (output_joined q s e ds o) (lost (at rule.BadTarget q) v) y
none_by q s e (Some t) x y v none h = absurd none
none_by q s e None x y v none h = λ ds. lost_joins s (Some direction.Output) e (at rule.BadTarget q) (checked s e) v y h

pub no_target_found : (q : ℕ) (s : Scope) (e : Tree) (x y : DrivenDigits) (v g : Found Joined) → IsOutput q s (as_target e) x None y → IsFoundValue s e v
    → g ≡ lost (at rule.BadTarget q) v → IsFoundJoined q s (Some direction.Output) e x g y
no_target_found q s e x y v g none h is = λ ds k.
    subst (λ (f : Found Joined). JoinsAs s (Some direction.Output) e (output_joined q s e ds (as_target e)) f y) (sym is)
    (none_by q s e (as_target e) x y v none h.rule_is ds)

-- ---- connections

pub added_joint : (s : Scope) (ps : List Port) (o : Port) (e : Tree) (n : List ℕ) (x : Found (List Drive)) (j : Found Joined) (js ks : List code.Joint) (u : Found (Unit {0}))
    (y : DrivenDigits) → IsListed ps (Some o) → n ≡ o.name → JoinsAs s o.direction e x j y → IsAdded n j js u ks
    → Adds s ps (each (λ (es : List Drive). (let r : Joints = record { list = record { port = o.name; value = e } ∷ []; driven = es } in r)) x) js u ks y
added_joint s ps o e n (Sound es) (Sound j) js ks (Sound u) y l named h a = (
  (
    a.0 ∷ [],
    (
      a.1.0,
      (
        record {
          place = l.0;
          port = o;
          there = l.1;
          name = refl;
          key = a.1.1.0 ∙ named;
          is_joined = subst (λ (i : Joined). IsJoined s o.direction e i) (sym a.1.1.1) h.0;
        },
        tt,
      ),
    ),
  ),
  h.1,
)
added_joint s ps o e n (Sound es) (Sound j) js ks (Noted c u) y l named h a = absurd a
added_joint s ps o e n (Sound es) (Sound j) js ks (Lost c) y l named h a = absurd a
added_joint s ps o e n (Sound es) (Noted c j) js ks u y l named h a = absurd h
added_joint s ps o e n (Sound es) (Lost c) js ks u y l named h a = absurd h
added_joint s ps o e n (Noted b es) (Sound j) js ks u y l named h a = absurd h
added_joint s ps o e n (Noted b es) (Noted c j) js ks u y l named h a =
    subst (λ (v : Found (Unit {0})). Adds s ps (Noted b (let r : Joints = record { list = record { port = o.name; value = e } ∷ []; driven = es } in r)) js v ks y) (sym a) h
added_joint s ps o e n (Noted b es) (Lost c) js ks u y l named h a = absurd h
added_joint s ps o e n (Lost b) (Sound j) js ks u y l named h a = absurd h
added_joint s ps o e n (Lost b) (Noted c j) js ks u y l named h a = absurd h
added_joint s ps o e n (Lost b) (Lost c) js ks u y l named h a =
    subst (λ (v : Found (Unit {0})). Adds s ps (Lost b) js v ks y) (sym a) h

pub nothing_added : (s : Scope) (q p : ℕ) (o : Port) (x : DrivenDigits) (js : List code.Joint) → Connects s q p (Some o) None x js (Sound tt) js x
nothing_added s q p o x js = λ ps ds l k. (([], (sym (append-nil js), tt)), k)

lost_adds : (s : Scope) (ps : List Port) (b : Broken) (v : Found (Unit {0})) (js ks : List code.Joint) (y : DrivenDigits) → Adds s ps (lost b v) js (lost b v) ks y
lost_adds s ps b (Sound u) js ks y = refl
lost_adds s ps b (Noted c u) js ks y = refl
lost_adds s ps b (Lost c) js ks y = refl

pub nowhere_adds : (s : Scope) (q p : ℕ) (v : Option Tree) (x : DrivenDigits) (js ks : List code.Joint) (f : Found (Unit {0})) → f ≡ lost (at rule.BadPort p) (value_checked s v)
    → Connects s q p None v x js f ks x
nowhere_adds s q p v x js ks f is = λ ps ds l k.
    subst (λ (g : Found (Unit {0})). Adds s ps (connected q p s None v ds) js g ks x) (sym is) (lost_adds s ps (at rule.BadPort p) (value_checked s v) js ks x)

pub port_connects : {E : Type 0} (s : Scope) (q p : ℕ) (o : Port) (v : Option Tree) (e : Tree) (n : List ℕ) (x y : DrivenDigits) (j : Found Joined) (js ks : List code.Joint)
    (r : Result (Found (Unit {0})) E) → v ≡ Some e → n ≡ o.name → IsFoundJoined q s o.direction e x j y → IfOk r (λ (u : Found (Unit {0})). IsAdded n j js u ks)
    → IfOk r (λ (u : Found (Unit {0})). Connects s q p (Some o) v x js u ks y)
port_connects s q p o v e n x y j js ks (Err z) is named h a = tt
port_connects s q p o v e n x y j js ks (Ok u) is named h a = λ ps ds l k.
    subst (λ (w : Option Tree). Adds s ps (connected q p s (Some o) w ds) js u ks y) (sym is)
    (added_joint s ps o e n (joined q s o.direction e ds) j js ks u y l named (h ds k) a)

pub if_input : {E : Type 0} (q : ℕ) (s : Scope) (e : Tree) (x : DrivenDigits) (r : Result (Found Joined) E) → IfOk r (IsFoundValue s e)
    → IfOk r (λ (g : Found Joined). IsFoundJoined q s (Some direction.Input) e x g x)
if_input q s e x (Ok g) h = input_joined q s e x g h
if_input q s e x (Err z) h = tt

pub if_value : {E : Type 0} (q : ℕ) (s : Scope) (e : Tree) (x : DrivenDigits) (r : Result (Found Joined) E) → IfOk r (IsFoundValue s e)
    → IfOk r (λ (g : Found Joined). IsFoundJoined q s None e x g x)
if_value q s e x (Ok g) h = value_joined q s e x g h
if_value q s e x (Err z) h = tt

-- ---- behind others

joints_too : (s : Scope) (ps : List Port) (js ms : List Joint) (cs ds : List code.Joint) → AreJoints s ps js cs → AreJoints s ps ms ds → AreJoints s ps (js ++ ms) (cs ++ ds)
joints_too s ps [] ms [] ds h k = k
joints_too s ps [] ms (c ∷ cs) ds h k = absurd h
joints_too s ps (j ∷ js) ms [] ds h k = absurd h
joints_too s ps (j ∷ js) ms (c ∷ cs) ds h k = (h.0, joints_too s ps js ms cs ds h.1 k)

with_joints : (s : Scope) (ps : List Port) (l : List Joint) (x : Found Joints) (g : Found (Unit {0})) (js ks : List code.Joint) (y : DrivenDigits) → AreJoints s ps l js
    → Adds s ps x js g ks y → Goes s ps (each (after l) x) g ks y
with_joints s ps l (Sound x) (Sound u) js ks y h a =
    (subst (λ (cs : List code.Joint). AreJoints s ps (l ++ x.list) cs) (sym a.0.1.0) (joints_too s ps l x.list js a.0.0 h a.0.1.1), a.1)
with_joints s ps l (Sound x) (Noted c u) js ks y h a = absurd a
with_joints s ps l (Sound x) (Lost c) js ks y h a = absurd a
with_joints s ps l (Noted b x) (Noted c u) js ks y h a = a
with_joints s ps l (Noted b x) (Sound u) js ks y h a = absurd a
with_joints s ps l (Noted b x) (Lost c) js ks y h a = absurd a
with_joints s ps l (Lost b) (Lost c) js ks y h a = a
with_joints s ps l (Lost b) (Sound u) js ks y h a = absurd a
with_joints s ps l (Lost b) (Noted c u) js ks y h a = absurd a

with_noted : (s : Scope) (ps : List Port) (l : List Joint) (b d : Broken) (x : Found Joints) (g : Found (Unit {0})) (js ks : List code.Joint) (y : DrivenDigits) → b ≡ d
    → Adds s ps x js g ks y → Goes s ps (noted b (each (after l) x)) (noted d g) ks y
with_noted s ps l b d (Sound x) (Sound u) js ks y e a = (e, a.1)
with_noted s ps l b d (Sound x) (Noted c u) js ks y e a = absurd a
with_noted s ps l b d (Sound x) (Lost c) js ks y e a = absurd a
with_noted s ps l b d (Noted z x) (Noted c u) js ks y e a = let same : z ≡ c = a.0 in ((cc), a.1)
with_noted s ps l b d (Noted z x) (Sound u) js ks y e a = absurd a
with_noted s ps l b d (Noted z x) (Lost c) js ks y e a = absurd a
with_noted s ps l b d (Lost z) (Lost c) js ks y e a = let same : z ≡ c = a in cc
with_noted s ps l b d (Lost z) (Sound u) js ks y e a = absurd a
with_noted s ps l b d (Lost z) (Noted c u) js ks y e a = absurd a

pub then_sound : (s : Scope) (q p : ℕ) (o : Option Port) (v : Option Tree) (u : Unit {0}) (x y : DrivenDigits) (js ks : List code.Joint) (g : Found (Unit {0}))
    → Connects s q p o v x js g ks y → (ps : List Port) (a : Found Joints) → IsListed ps o → Goes s ps a (Sound u) js x
    → Goes s ps (and_then a (behind (connected q p s o v))) g ks y
then_sound s q p o v u x y js ks g h ps (Sound a) l k = with_joints s ps a.list (connected q p s o v a.driven) g js ks y k.0 (h ps a.driven l k.1)
then_sound s q p o v u x y js ks g h ps (Noted b a) l k = absurd k
then_sound s q p o v u x y js ks g h ps (Lost b) l k = absurd k

pub then_noted : (s : Scope) (q p : ℕ) (o : Option Port) (v : Option Tree) (d : Broken) (u : Unit {0}) (x y : DrivenDigits) (js ks : List code.Joint) (g : Found (Unit {0}))
    → Connects s q p o v x js g ks y → (ps : List Port) (a : Found Joints) → IsListed ps o → Goes s ps a (Noted d u) js x
    → Goes s ps (and_then a (behind (connected q p s o v))) (noted d g) ks y
then_noted s q p o v d u x y js ks g h ps (Sound a) l k = absurd k
then_noted s q p o v d u x y js ks g h ps (Noted b a) l k = with_noted s ps a.list b d (connected q p s o v a.driven) g js ks y k.0 (h ps a.driven l k.1)
then_noted s q p o v d u x y js ks g h ps (Lost b) l k = absurd k

pub then_lost : (s : Scope) (q p : ℕ) (o : Option Port) (v : Option Tree) (d : Broken) (x : DrivenDigits) (js : List code.Joint) (ps : List Port) (a : Found Joints)
    → Goes s ps a (Lost d) js x → Goes s ps (and_then a (behind (connected q p s o v))) (Lost d) js x
then_lost s q p o v d x js ps (Sound a) k = absurd k
then_lost s q p o v d x js ps (Noted b a) k = absurd k
then_lost s q p o v d x js ps (Lost b) k = k
