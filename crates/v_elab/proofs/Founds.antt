-- The same rule is broken first, or both values fit.
use Rattle.std.proofs.Common.{◌≡◌, ℕ, Bool, true, false, List, Option, refl, sym, ap, ◌∙◌}
use Rattle.four_value.specs.declared.Digit.{Digit}
use Rattle.v_flat.specs.declared.scope.rule.Broken.{Broken}
use Rattle.v_flat.specs.declared.scope.rule.ElabRule.{ElabRule}
use Rattle.v_flat.specs.declared.scope.found.Found.{Found}
use Rattle.v_flat.specs.declared.scope.found.Found.TheVariants.{Sound, Noted, Lost}
use Rattle.v_flat.specs.Scope.Rules.{at, earlier}
use Rattle.v_flat.specs.Scope.Found.{both, ended, wants}
use Rattle.v_flat.specs.Scope.Scope.{Scope}
use Rattle.v_flat.specs.Declarations.{Given}
use Rattle.v_flat.specs.Headers.{Port}
use Rattle.v_flat.specs.Design.{Joints}
use Rattle.v_header.specs.Parameter.Given.{GiveTheSame}
use Rattle.v_header.specs.Given.Given.{FindsTheSame, given_values}
use Rattle.v_process.specs.declared.drive.digits.DrivenDigits.{DrivenDigits}
use Rattle.v_process.specs.Drive.Digits.{Keeps}
use Rattle.v_elab.specs.declared.connect.joint.Joints as code_joints
use Rattle.v_elab.specs.Connect.Joints.{AreFound, AreJoints}
use Rattle.v_elab.specs.States.{EndsAs}
use Rattle.v_elab.specs.InnerSteps.{FoundAs}

pub given_as : (x f : Found (List Given)) → FindsTheSame x f → FoundAs (λ (a b : List Given). GiveTheSame b a) x f
given_as (Sound a) (Sound b) h = let e : given_values b ≡ given_values a = cc in λ n. ap (λ (g : List ℕ → Option (List Digit)). g n) e
given_as (Noted x a) (Noted y b) h = let e : y ≡ x = cc in sym e
given_as (Lost x) (Lost y) h = let e : y ≡ x = cc in sym e
given_as (Sound a) (Noted y b) h = cc
given_as (Sound a) (Lost y) h = cc
given_as (Noted x a) (Sound b) h = cc
given_as (Noted x a) (Lost y) h = cc
given_as (Lost x) (Sound b) h = cc
given_as (Lost x) (Noted y b) h = cc

abbrev pub AreJoined : Scope → List Port → DrivenDigits → Joints → code_joints.Joints → Type 0
AreJoined s ps y a b = AreJoints s ps a.list b.list.items × Keeps y a.driven

pub joints_as : (s : Scope) (ps : List Port) (x : Found Joints) (f : Found code_joints.Joints) (y : DrivenDigits) → AreFound s ps x f y → FoundAs (AreJoined s ps y) x f
joints_as s ps (Sound a) (Sound b) y h = h
joints_as s ps (Noted x a) (Noted z b) y h = h.0
joints_as s ps (Lost x) (Lost z) y h = h
joints_as s ps (Sound a) (Noted z b) y h = absurd h
joints_as s ps (Sound a) (Lost z) y h = absurd h
joints_as s ps (Noted x a) (Sound b) y h = absurd h
joints_as s ps (Noted x a) (Lost z) y h = absurd h
joints_as s ps (Lost x) (Sound b) y h = absurd h
joints_as s ps (Lost x) (Noted z b) y h = absurd h

-- both of two
abbrev pub Pairs : {A B C D : Type 0} → (A → B → Type 0) → (C → D → Type 0) → A × C → B × D → Type 0
Pairs P Q a b = P a.0 b.0 × Q a.1 b.1

same_earlier : (a b c d : Broken) → a ≡ b → c ≡ d → earlier a c ≡ earlier b d
same_earlier a b c d h k = ap (λ (x : Broken). earlier x c) h ∙ ap (λ (x : Broken). earlier b x) k

pub both_as : {A B C D : Type 0} (P : A → B → Type 0) (Q : C → D → Type 0) (x : Found A) (f : Found B) (y : Found C) (g : Found D) → FoundAs P x f → FoundAs Q y g
    → FoundAs (Pairs P Q) (both x y) (both f g)
both_as P Q (Sound a) (Sound b) (Sound c) (Sound d) h k = (h, k)
both_as P Q (Sound a) (Sound b) (Noted u c) (Noted v d) h k = k
both_as P Q (Sound a) (Sound b) (Lost u) (Lost v) h k = k
both_as P Q (Noted x a) (Noted z b) (Sound c) (Sound d) h k = h
both_as P Q (Noted x a) (Noted z b) (Noted u c) (Noted v d) h k = same_earlier x z u v h k
both_as P Q (Noted x a) (Noted z b) (Lost u) (Lost v) h k = same_earlier x z u v h k
both_as P Q (Lost x) (Lost z) (Sound c) (Sound d) h k = h
both_as P Q (Lost x) (Lost z) (Noted u c) (Noted v d) h k = same_earlier x z u v h k
both_as P Q (Lost x) (Lost z) (Lost u) (Lost v) h k = same_earlier x z u v h k
both_as P Q (Sound a) (Noted z b) y g h k = absurd h
both_as P Q (Sound a) (Lost z) y g h k = absurd h
both_as P Q (Noted x a) (Sound b) y g h k = absurd h
both_as P Q (Noted x a) (Lost z) y g h k = absurd h
both_as P Q (Lost x) (Sound b) y g h k = absurd h
both_as P Q (Lost x) (Noted z b) y g h k = absurd h
both_as P Q x f (Sound c) (Noted v d) h k = absurd k
both_as P Q x f (Sound c) (Lost v) h k = absurd k
both_as P Q x f (Noted u c) (Sound d) h k = absurd k
both_as P Q x f (Noted u c) (Lost v) h k = absurd k
both_as P Q x f (Lost u) (Sound d) h k = absurd k
both_as P Q x f (Lost u) (Noted v d) h k = absurd k

pub wants_as : {A B : Type 0} (P : A → B → Type 0) (t : Bool) (r : ElabRule) (p : ℕ) (x : Found A) (f : Found B) → FoundAs P x f → FoundAs P (wants t r p x) (wants t r p f)
wants_as P true r p x f h = h
wants_as P false r p (Sound a) (Sound b) h = refl
wants_as P false r p (Noted x a) (Noted z b) h = ap (λ (c : Broken). earlier (at r p) c) h
wants_as P false r p (Lost x) (Lost z) h = ap (λ (c : Broken). earlier (at r p) c) h
wants_as P false r p (Sound a) (Noted z b) h = absurd h
wants_as P false r p (Sound a) (Lost z) h = absurd h
wants_as P false r p (Noted x a) (Sound b) h = absurd h
wants_as P false r p (Noted x a) (Lost z) h = absurd h
wants_as P false r p (Lost x) (Sound b) h = absurd h
wants_as P false r p (Lost x) (Noted z b) h = absurd h

pub ended_as : {A B : Type 0} (P : A → B → Type 0) (x : Found A) (f : Found B) → FoundAs P x f → EndsAs P (ended x) (ended f)
ended_as P (Sound a) (Sound b) h = h
ended_as P (Noted x a) (Noted z b) h = h
ended_as P (Lost x) (Lost z) h = h
ended_as P (Sound a) (Noted z b) h = absurd h
ended_as P (Sound a) (Lost z) h = absurd h
ended_as P (Noted x a) (Sound b) h = absurd h
ended_as P (Noted x a) (Lost z) h = absurd h
ended_as P (Lost x) (Sound b) h = absurd h
ended_as P (Lost x) (Noted z b) h = absurd h
