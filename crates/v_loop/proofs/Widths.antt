-- The values of the turns have the register's width.
use Rattle.std.proofs.Common.{◌≡◌, ℕ, zero, suc, List, length, []}
use Rattle.std.proofs.lemmas.List.Elements.{All-cons, All-nil}
use Rattle.four_value.specs.declared.Digit.{Digit}
use Rattle.four_value.specs.declared.Digit.TheVariants.{Zero, One, X, Z}
use Rattle.four_value.specs.Vector.{resize}
use Rattle.four_value.proofs.Lengths.{length_resize}
use Rattle.gpi.specs.Operators.{truth}
use Rattle.v_syntax.specs.ExpressionTrees.{Tree}
use Rattle.v_syntax.specs.StatementTrees.{HeaderTree, Header, Variable as Assigned}
use Rattle.v_flat.specs.declared.scope.rule.Broken.{Broken}
use Rattle.v_flat.specs.declared.scope.rule.ElabRule.TheVariants as rule
use Rattle.v_flat.specs.declared.scope.meaning.DataObject.{DataObject}
use Rattle.v_flat.specs.declared.scope.found.Found.{Found}
use Rattle.v_flat.specs.declared.scope.found.Found.TheVariants.{Sound, Noted, Lost}
use Rattle.v_flat.specs.Scope.Found.{ForValue, and_then, broken, each, noted}
use Rattle.v_flat.specs.Scope.Scope.{Scope, width_of}
use Rattle.v_flat.specs.Checks.{constant_of, given_to}
use Rattle.v_flat.specs.Statements.{Turns, first_value, more_turn, most_turns, same_counter, step_checked, turn, turns, turns_from, where_true}
use Rattle.v_loop.specs.Turns.{HaveWidth}

for_noted : {A : Type 0} (P : A → Type 0) (b : Broken) (x : Found A) → ForValue P x → ForValue P (noted b x)
for_noted P b (Sound a) h = h
for_noted P b (Noted c a) h = h
for_noted P b (Lost c) h = tt

for_then : {A B : Type 0} (P : A → Type 0) (Q : B → Type 0) (x : Found A) (f : A → Found B) → ForValue P x → ((a : A) → P a → ForValue Q (f a)) → ForValue Q (and_then x f)
for_then P Q (Sound a) f h k = k a h
for_then P Q (Noted b a) f h k = for_noted Q b (f a) (k a h)
for_then P Q (Lost b) f h k = tt

for_each : {A B : Type 0} (P : A → Type 0) (Q : B → Type 0) (f : A → B) (x : Found A) → ForValue P x → ((a : A) → P a → Q (f a)) → ForValue Q (each f x)
for_each P Q f (Sound a) h k = k a h
for_each P Q f (Noted b a) h k = k a h
for_each P Q f (Lost b) h k = tt

abbrev Any : {A : Type 0} → A → Type 0
Any a = Unit {0}

for_any : {A : Type 0} (x : Found A) → ForValue (λ (a : A). Any a) x
for_any (Sound a) = tt
for_any (Noted b a) = tt
for_any (Lost b) = tt

for_true : (P : Turns → Type 0) (d : Digit) (v : List Digit) (go : Unit {0} → Found Turns) → P ([], v) → ForValue P (go tt) → ForValue P (where_true d v go)
for_true P One v go h k = k
for_true P Zero v go h k = h
for_true P X v go h k = h
for_true P Z v go h k = h

abbrev Wide : DataObject → List Digit → Type 0
Wide o v = length v ≡ width_of o.bounds

no_turn : (o : DataObject) (v : List Digit) → Wide o v → HaveWidth (width_of o.bounds) ([], v)
no_turn o v h = (All-nil (λ (v : List Digit). Wide o v), h)

one_turn : (o : DataObject) (v : List Digit) (z : Turns) → Wide o v → HaveWidth (width_of o.bounds) z → HaveWidth (width_of o.bounds) (more_turn v z)
one_turn o v z h g = (All-cons (λ (v : List Digit). Wide o v) v z.0 h g.0, g.1)

wide_from : (left p : ℕ) (n : List ℕ) (o : DataObject) (c d : Tree) (s : Scope) (v : List Digit) → length v ≡ width_of o.bounds
    → ForValue (HaveWidth (width_of o.bounds)) (turns_from left p n o c d s v)
wide_from zero p n o c d s v h =
    for_then (λ (t : List Digit). Any t) (HaveWidth (width_of o.bounds)) (constant_of (turn n o v s) c) (λ t. where_true (truth t) v (λ u. broken rule.LoopTooLong p))
    (for_any (constant_of (turn n o v s) c)) (λ t u. for_true (HaveWidth (width_of o.bounds)) (truth t) v (λ u. broken rule.LoopTooLong p) (no_turn o v h) tt)
wide_from (suc left) p n o c d s v h =
    let w = width_of o.bounds in
    let x = constant_of (turn n o v s) c in
    let y = given_to w (turn n o v s) d in
    let k : List Digit → Found Turns = λ e. each (more_turn v) (turns_from left p n o c d s (resize e w)) in
    for_then (λ (t : List Digit). Any t) (HaveWidth w) x (λ t. where_true (truth t) v (λ u. and_then y k)) (for_any x)
    (λ t u. for_true (HaveWidth w) (truth t) v (λ u. and_then y k) (no_turn o v h)
    (for_then (λ (t : List Digit). Any t) (HaveWidth w) y k (for_any y)
    (λ e u. for_each (HaveWidth w) (HaveWidth w) (more_turn v) (turns_from left p n o c d s (resize e w))
    (wide_from left p n o c d s (resize e w) (length_resize e w)) (λ z g. one_turn o v z h g))))

wide_first : (n : List ℕ) (o : DataObject) (e c : Tree) (s : Scope) → ForValue (λ v. length v ≡ width_of o.bounds) (first_value n o e c s)
wide_first n o e c s =
    let w = width_of o.bounds in
    let x = given_to w s e in
    for_then (λ (t : List Digit). Any t) (λ (v : List Digit). length v ≡ w) x (λ v. each (λ t. resize v w) (constant_of (turn n o (resize v w) s) c)) (for_any x)
    (λ v u. for_each (λ (t : List Digit). Any t) (λ (v : List Digit). length v ≡ w) (λ t. resize v w) (constant_of (turn n o (resize v w) s) c)
    (for_any (constant_of (turn n o (resize v w) s) c)) (λ t u. length_resize v w))

pub wide_turns : (p : ℕ) (h : HeaderTree) (s : Scope) (o : DataObject) → ForValue (HaveWidth (width_of o.bounds)) (turns p h s o)
wide_turns p (Header (Assigned i e) c (Assigned j d)) s o =
    let P = HaveWidth (width_of o.bounds) in
    for_then (λ (v : List Digit). length v ≡ width_of o.bounds) P (first_value i.name o e c s)
    (λ v. and_then (same_counter i j s) (λ u. and_then (step_checked (turn i.name o v s) d) (λ w. turns_from most_turns p i.name o c d s v)))
    (wide_first i.name o e c s)
    (λ v h. for_then (λ (u : Unit {0}). Any u) P (same_counter i j s) (λ u. and_then (step_checked (turn i.name o v s) d) (λ w. turns_from most_turns p i.name o c d s v))
    (for_any (same_counter i j s))
    (λ u x. for_then (λ (u : Unit {0}). Any u) P (step_checked (turn i.name o v s) d) (λ w. turns_from most_turns p i.name o c d s v) (for_any (step_checked (turn i.name o v s) d))
    (λ w y. wide_from most_turns p i.name o c d s v h)))
