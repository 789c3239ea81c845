-- What is given to each name by a value before others.
use Rattle.std.proofs.Common.{◌≡◌, ℕ, List, ◌∷◌, Option, Some, None, Bool, refl, sym, ap, ◌∙◌, bytes_eq, if◌then◌else◌}
use Rattle.four_value.specs.declared.Digit.{Digit}
use Rattle.v_syntax.specs.ExpressionTrees.{Tree}
use Rattle.v_flat.specs.declared.scope.rule.Broken.{Broken}
use Rattle.v_flat.specs.declared.scope.rule.ElabRule.{ElabRule}
use Rattle.v_flat.specs.declared.scope.found.Found.{Found}
use Rattle.v_flat.specs.declared.scope.found.Found.TheVariants.{Sound, Noted, Lost}
use Rattle.v_flat.specs.Scope.Found.{each, both, wants}
use Rattle.v_flat.specs.Scope.Scope.{Scope}
use Rattle.v_flat.proofs.ScopeLemmas.Gathered.{each_wants}
use Rattle.v_flat.specs.Checks.{constant_of}
use Rattle.v_flat.specs.Declarations.{Given}
use Rattle.v_flat.specs.Design.{one_more, named_value}
use Rattle.v_header.specs.Parameter.Given.{GiveTheSame}
use Rattle.v_header.specs.Given.Given.{given_values, FindsTheSame}

-- this value for a name, and else what is given without it
abbrev pub with_value : List ℕ → List Digit × (List ℕ → Option (List Digit)) → List ℕ → Option (List Digit)
with_value n x m = if bytes_eq n m then Some x.0 else x.1 m

pub value_first : (n : List ℕ) (v : Found (List Digit)) (x : Found (List Given)) → each given_values (each (one_more n) (both v x)) ≡ each (with_value n) (both v (each given_values x))
value_first n (Sound a) (Sound g) = refl
value_first n (Sound a) (Noted c g) = refl
value_first n (Sound a) (Lost c) = refl
value_first n (Noted b a) (Sound g) = refl
value_first n (Noted b a) (Noted c g) = refl
value_first n (Noted b a) (Lost c) = refl
value_first n (Lost b) (Sound g) = refl
value_first n (Lost b) (Noted c g) = refl
value_first n (Lost b) (Lost c) = refl

-- a value before others that give the same
pub value_too : (n : List ℕ) (v : Found (List Digit)) (x f g : Found (List Given)) → FindsTheSame x f → FindsTheSame (each (one_more n) (both v f)) g
    → FindsTheSame (each (one_more n) (both v x)) g
value_too n v x f g h k =
    k ∙ value_first n v f ∙ ap (λ (y : Found (List ℕ → Option (List Digit))). each (with_value n) (both v y)) h ∙ sym (value_first n v x)

pub maybe_value : (s : Scope) (n : List ℕ) (e : Option Tree) (x f g : Found (List Given)) → FindsTheSame x f → FindsTheSame (named_value s n e f) g
    → FindsTheSame (named_value s n e x) g
maybe_value s n None x f g h k = k ∙ h
maybe_value s n (Some e) x f g h k = value_too n (constant_of s e) x f g h k

pub wanted_too : (ok : Bool) (r : ElabRule) (p : ℕ) (x f : Found (List Given)) → FindsTheSame x f → FindsTheSame (wants ok r p x) (wants ok r p f)
wanted_too ok r p x f h =
    each_wants given_values ok r p f ∙ ap (λ (y : Found (List ℕ → Option (List Digit))). wants ok r p y) h ∙ sym (each_wants given_values ok r p x)

-- ---- a value that was put before others

sound_same : (gs hs : List Given) → GiveTheSame gs hs → each given_values (let r : Found (List Given) = Sound hs in r) ≡ each given_values (let r : Found (List Given) = Sound gs in r)
sound_same gs hs h = λ i. let f : List ℕ → Option (List Digit) = λ n. (sym (h n)) i in let r : Found (List ℕ → Option (List Digit)) = Sound f in r

noted_same : (b : Broken) (gs hs : List Given) → GiveTheSame gs hs → each given_values (let r : Found (List Given) = Noted b hs in r) ≡ each given_values (let r : Found (List Given) = Noted b gs in r)
noted_same b gs hs h = λ i. let f : List ℕ → Option (List Digit) = λ n. (sym (h n)) i in let r : Found (List ℕ → Option (List Digit)) = Noted b f in r

pub put_sound : (n : List ℕ) (x : Found (List Digit × List Given)) (v : List Digit) (gs hs : List Given) → x ≡ Sound (v, gs) → GiveTheSame (record { name = n; value = v } ∷ gs) hs
    → FindsTheSame (each (one_more n) x) (Sound hs)
put_sound n x v gs hs e h = sound_same (record { name = n; value = v } ∷ gs) hs h ∙ ap (λ (y : Found (List Digit × List Given)). each given_values (each (one_more n) y)) (sym e)

pub put_noted : (n : List ℕ) (x : Found (List Digit × List Given)) (b : Broken) (v : List Digit) (gs hs : List Given) → x ≡ Noted b (v, gs)
    → GiveTheSame (record { name = n; value = v } ∷ gs) hs → FindsTheSame (each (one_more n) x) (Noted b hs)
put_noted n x b v gs hs e h = noted_same b (record { name = n; value = v } ∷ gs) hs h ∙ ap (λ (y : Found (List Digit × List Given)). each given_values (each (one_more n) y)) (sym e)
