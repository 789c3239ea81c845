-- Where a loop's register and its turns are found, no rule is broken in them; and where one is, there is nothing else.
use Rattle.std.proofs.Common.{◌≡◌, ℕ, zero, suc, List, Option, Some, None, Result, Ok, Err, IfOk, refl, sym, ap, subst, max}
use Rattle.four_value.specs.declared.Digit.{Digit}
use Rattle.four_value.specs.declared.Digit.TheVariants.{Zero, One, X, Z}
use Rattle.four_value.specs.Vector.{resize}
use Rattle.gpi.specs.Operators.{truth}
use Rattle.v_syntax.specs.ExpressionTrees.{Tree}
use Rattle.v_syntax.specs.StatementTrees.{HeaderTree, Header, Variable as Assigned}
use Rattle.v_flat.specs.declared.scope.rule.Broken.{Broken}
use Rattle.v_flat.specs.declared.scope.rule.ElabRule.TheVariants as rule
use Rattle.v_flat.specs.declared.scope.meaning.Bounds.{Bounds}
use Rattle.v_flat.specs.declared.scope.meaning.DataKind.{DataKind}
use Rattle.v_flat.specs.declared.scope.meaning.DataKind.TheVariants.{Input, Net, Register}
use Rattle.v_flat.specs.declared.scope.meaning.DataObject.{DataObject}
use Rattle.v_flat.specs.declared.scope.meaning.Meaning.{Meaning}
use Rattle.v_flat.specs.declared.scope.meaning.Meaning.TheVariants.{Constant, Object, Later}
use Rattle.v_flat.specs.declared.scope.found.Found.{Found}
use Rattle.v_flat.specs.declared.scope.found.Found.TheVariants.{Sound, Noted, Lost}
use Rattle.v_flat.specs.Scope.Found.{ForValue, and_then, broken, each, ended}
use Rattle.v_flat.specs.Scope.Scope.{Scope, width_of}
use Rattle.v_flat.specs.Checks.{checked, constant_of, given_to}
use Rattle.v_flat.specs.Statements.{Turns, counter, counter_in, first_value, more_turn, most_turns, same_counter, step_checked, turn, turns, turns_from, where_true}
use Rattle.v_loop.proofs.Settled.{IsSettled, constant_settled, same_settled, step_settled}

-- ---- the end of what was found

pub ended_sound : {A : Type 0} (x : Found A) (a : A) → ended x ≡ Ok a → x ≡ Sound a
ended_sound {A} (Sound d) a q = let e : d ≡ a = cc in ap (λ (z : A). (let r : Found A = Sound z in r)) e
ended_sound (Noted c d) a q = absurd (cc)
ended_sound (Lost c) a q = absurd (cc)

pub ended_lost : {A : Type 0} (x : Found A) (b : Broken) → IsSettled x → ended x ≡ Err b → x ≡ Lost b
ended_lost (Sound d) b s q = absurd (cc)
ended_lost (Noted c d) b s q = absurd (cc)
ended_lost {A} (Lost c) b s q = let e : c ≡ b = cc in ap (λ (z : Broken). (let r : Found A = Lost z in r)) e

value_ended : {A : Type 0} (P : A → Type 0) (x : Found A) → ForValue P x → IfOk (ended x) P
value_ended P (Sound d) h = h
value_ended P (Noted c d) h = tt
value_ended P (Lost c) h = tt

pub value_result : {A : Type 0} (P : A → Type 0) (x : Found A) (r : Result A Broken) → r ≡ ended x → ForValue P x → IfOk r P
value_result {A} P x r e h = subst (λ (q : Result A Broken). IfOk q P) (sym e) (value_ended P x h)

-- ---- registers

in_settled : (p : ℕ) (o : DataObject) (w : Option Bounds) (k : DataKind) → IsSettled (counter_in p o w k)
in_settled p o (Some w) k = refl
in_settled p o None Register = refl
in_settled p o None Net = refl
in_settled p o None Input = refl

pub counter_settled : (p : ℕ) (m : Option Meaning) → IsSettled (counter p m)
counter_settled p None = refl
counter_settled p (Some Later) = refl
counter_settled p (Some (Constant ds b)) = refl
counter_settled p (Some (Object o)) = in_settled p o o.words o.kind

-- what is found is no memory
in_plain : (p : ℕ) (o : DataObject) (w : Option Bounds) (k : DataKind) → o.words ≡ w → IfOk (ended (counter_in p o w k)) (λ q. q.words ≡ None)
in_plain p o (Some w) k h = tt
in_plain p o None Register h = h
in_plain p o None Net h = tt
in_plain p o None Input h = tt

counter_plain : (p : ℕ) (m : Option Meaning) → IfOk (ended (counter p m)) (λ q. q.words ≡ None)
counter_plain p None = tt
counter_plain p (Some Later) = tt
counter_plain p (Some (Constant ds b)) = tt
counter_plain p (Some (Object o)) = in_plain p o o.words o.kind refl

pub plain_result : (p : ℕ) (m : Option Meaning) (r : Result DataObject Broken) → r ≡ ended (counter p m) → IfOk r (λ q. q.words ≡ None)
plain_result p m r e = subst (λ (t : Result DataObject Broken). IfOk t (λ q. q.words ≡ None)) (sym e) (counter_plain p m)

-- ---- turns

then_settled : {A B : Type 0} (x : Found A) (f : A → Found B) → IsSettled x → ((a : A) → IsSettled (f a)) → IsSettled (and_then x f)
then_settled (Sound a) f h k = k a
then_settled (Noted b a) f h k = absurd (cc)
then_settled (Lost b) f h k = refl

each_settled : {A B : Type 0} (f : A → B) (x : Found A) → IsSettled x → IsSettled (each f x)
each_settled f (Sound a) h = refl
each_settled f (Noted b a) h = absurd (cc)
each_settled f (Lost b) h = refl

true_settled : (d : Digit) (v : List Digit) (go : Unit {0} → Found Turns) → IsSettled (go tt) → IsSettled (where_true d v go)
true_settled One v go h = h
true_settled Zero v go h = refl
true_settled X v go h = refl
true_settled Z v go h = refl

held_settled : (s : Scope) (c : Tree) → IsSettled (constant_of s c)
held_settled s c = constant_settled (λ w. w) s c (checked s c)

given_settled : (w : ℕ) (s : Scope) (e : Tree) → IsSettled (given_to w s e)
given_settled w s e = constant_settled (max w) s e (checked s e)

from_settled : (left p : ℕ) (n : List ℕ) (o : DataObject) (c d : Tree) (s : Scope) (v : List Digit) → IsSettled (turns_from left p n o c d s v)
from_settled zero p n o c d s v =
    then_settled (constant_of (turn n o v s) c) (λ t. where_true (truth t) v (λ u. broken rule.LoopTooLong p)) (held_settled (turn n o v s) c)
    (λ t. true_settled (truth t) v (λ u. broken rule.LoopTooLong p) refl)
from_settled (suc left) p n o c d s v =
    let w = width_of o.bounds in
    let y = given_to w (turn n o v s) d in
    let k : List Digit → Found Turns = λ e. each (more_turn v) (turns_from left p n o c d s (resize e w)) in
    then_settled (constant_of (turn n o v s) c) (λ t. where_true (truth t) v (λ u. and_then y k)) (held_settled (turn n o v s) c)
    (λ t. true_settled (truth t) v (λ u. and_then y k)
    (then_settled y k (given_settled w (turn n o v s) d)
    (λ e. each_settled (more_turn v) (turns_from left p n o c d s (resize e w)) (from_settled left p n o c d s (resize e w)))))

first_settled : (n : List ℕ) (o : DataObject) (e c : Tree) (s : Scope) → IsSettled (first_value n o e c s)
first_settled n o e c s =
    let w = width_of o.bounds in
    then_settled (given_to w s e) (λ v. each (λ t. resize v w) (constant_of (turn n o (resize v w) s) c)) (given_settled w s e)
    (λ v. each_settled (λ t. resize v w) (constant_of (turn n o (resize v w) s) c) (held_settled (turn n o (resize v w) s) c))

pub turns_settled : (p : ℕ) (h : HeaderTree) (s : Scope) (o : DataObject) → IsSettled (turns p h s o)
turns_settled p (Header (Assigned i e) c (Assigned j d)) s o =
    then_settled (first_value i.name o e c s)
    (λ v. and_then (same_counter i j s) (λ u. and_then (step_checked (turn i.name o v s) d) (λ w. turns_from most_turns p i.name o c d s v)))
    (first_settled i.name o e c s)
    (λ v. then_settled (same_counter i j s) (λ u. and_then (step_checked (turn i.name o v s) d) (λ w. turns_from most_turns p i.name o c d s v)) (same_settled i j s)
    (λ u. then_settled (step_checked (turn i.name o v s) d) (λ w. turns_from most_turns p i.name o c d s v) (step_settled (turn i.name o v s) d)
    (λ w. from_settled most_turns p i.name o c d s v)))
