-- Constants are settled: there is a value only where no rule is broken.
use Rattle.std.proofs.Common.{◌≡◌, ℕ, List, Option, Some, None, Bool, true, false, refl, bytes_eq, if◌then◌else◌}
use Rattle.four_value.specs.declared.Digit.{Digit}
use Rattle.four_value.specs.Vector.{number}
use Rattle.v_syntax.specs.declared.statement.Identifier.{Identifier}
use Rattle.v_syntax.specs.ExpressionTrees.{Tree, first_at}
use Rattle.v_flat.specs.declared.scope.rule.Broken.{Broken}
use Rattle.v_flat.specs.declared.scope.rule.ElabRule.TheVariants as rule
use Rattle.v_flat.specs.declared.scope.meaning.DataObject.{DataObject}
use Rattle.v_flat.specs.declared.scope.found.Found.{Found}
use Rattle.v_flat.specs.declared.scope.found.Found.TheVariants.{Sound, Noted, Lost}
use Rattle.v_flat.specs.Scope.Rules.{at}
use Rattle.v_flat.specs.Scope.Found.{and_then, fine, lost, needs, settled}
use Rattle.v_flat.specs.Scope.Scope.{Scope, find}
use Rattle.v_flat.specs.Expressions.{meaning, no_signals}
use Rattle.v_flat.specs.Checks.{checked, constant_in, known, known_by, made}
use Rattle.v_flat.specs.Statements.{counter, done, same_counter, step_checked}

abbrev pub IsSettled : {A : Type 0} → Found A → Type 0
IsSettled x = settled x ≡ x

known_settled : (p : ℕ) (ds : List Digit) (o : Option ℕ) → IsSettled (known_by p ds o)
known_settled p ds None = refl
known_settled p ds (Some n) = refl

then_known : (p : ℕ) (g : ℕ → List Digit) (y : Found ℕ) → IsSettled (and_then (settled y) (λ w. known p (g w)))
then_known p g (Sound a) = known_settled p (g a) (number (g a))
then_known p g (Noted b a) = refl
then_known p g (Lost b) = refl

pub constant_settled : (f : ℕ → ℕ) (s : Scope) (e : Tree) (x : Found ℕ) → IsSettled (constant_in f s e x)
constant_settled f s e x = then_known (first_at e) (λ w. meaning s e (f w) no_signals) (needs (made s e) rule.NotConstant (first_at e) x)

done_settled : {A : Type 0} (y : Found A) → IsSettled (done (settled y))
done_settled (Sound a) = refl
done_settled (Noted b a) = refl
done_settled (Lost b) = refl

pub step_settled : (s : Scope) (d : Tree) → IsSettled (step_checked s d)
step_settled s d = done_settled (needs (made s d) rule.NotConstant (first_at d) (checked s d))

lost_settled : (b : Broken) (x : Found DataObject) → IsSettled (let r : Found (Unit {0}) = lost b x in r)
lost_settled b (Sound a) = refl
lost_settled b (Noted c a) = refl
lost_settled b (Lost c) = refl

one_of_two : (ok : Bool) (b : Broken) (x : Found DataObject) → IsSettled (if ok then fine else (let r : Found (Unit {0}) = lost b x in r))
one_of_two true b x = refl
one_of_two false b x = lost_settled b x

pub same_settled : (i j : Identifier) (s : Scope) → IsSettled (same_counter i j s)
same_settled i j s = one_of_two (bytes_eq i.name j.name) (at rule.BadTarget j.at) (counter j.at (find j.name s))
