-- What an expression is in one context, from what was found in it.
use Rattle.std.proofs.Common.{◌≡◌, ℕ, Result, Ok, Err, sym, ap, ◌∙◌, subst}
use Rattle.gpi.specs.declared.terms.Term.{Term}
use Rattle.gpi.specs.Terms.{IsWidth}
use Rattle.v_syntax.specs.ExpressionTrees.{Tree}
use Rattle.v_flat.specs.declared.scope.rule.Broken.{Broken}
use Rattle.v_flat.specs.declared.scope.found.Found.{Found}
use Rattle.v_flat.specs.declared.scope.found.Found.TheVariants.{Sound, Noted, Lost}
use Rattle.v_flat.specs.Scope.Found.{each, ended, Holds}
use Rattle.v_flat.specs.Scope.Scope.{Scope}
use Rattle.v_flat.specs.Scope.Limits.{counted_width}
use Rattle.v_check.specs.Contextual.Contexts.{IsLowered}
use Rattle.v_flat.specs.Checks.{checked}
use Rattle.v_check.specs.declared.constants.checked.Checked.{Checked}
use Rattle.v_check.specs.Constants.Checked.{StandsFor, IsChecked}
use Rattle.v_check.proofs.ConstantsLemmas.Values.{ended_sound, sound_is}
use Rattle.v_check.specs.Terms.{HasTerm}

ends_each : {A B : Type 0} (g : A → B) (x : Found A) (b : Broken) → ended x ≡ Err b → ended (each g x) ≡ Err b
ends_each g (Sound a) b h = absurd (cc)
ends_each {A} {B} g (Noted c a) b h = let k : c ≡ b = cc in ap (λ (d : Broken). (let r : Result B Broken = Err d in r)) k
ends_each {A} {B} g (Lost c) b h = let k : c ≡ b = cc in ap (λ (d : Broken). (let r : Result B Broken = Err d in r)) k

ends_as : {A B : Type 0} (g : A → B) (x : Found A) (b : Broken) → ended (each g x) ≡ Err b → ended x ≡ Err b
ends_as g (Sound a) b h = absurd (cc)
ends_as {A} {B} g (Noted c a) b h = let k : c ≡ b = cc in ap (λ (d : Broken). (let r : Result A Broken = Err d in r)) k
ends_as {A} {B} g (Lost c) b h = let k : c ≡ b = cc in ap (λ (d : Broken). (let r : Result A Broken = Err d in r)) k

pub broken_term : (s : Scope) (e : Tree) (f : Found Checked) (b : Broken) → IsChecked s e f → ended f ≡ Err b → ended (checked s e) ≡ Err b
broken_term s e f b h k = ends_as counted_width (checked s e) b
    (subst (λ (x : Found ℕ). ended x ≡ Err b) h.finds (ends_each (λ (c : Checked). c.width) f b k))

pub has_term : (s : Scope) (e : Tree) (w : ℕ) (f : Found Checked) (c : Checked) (t : Term) → IsWidth w → IsChecked s e f → ended f ≡ Ok c → IsLowered c.form w t → HasTerm s e w t
has_term s e w f c t wide h k made =
    let r : f ≡ Sound c = ended_sound f c k in
    let st : StandsFor s e c = subst (λ (x : Found Checked). Holds (λ (c : Checked). StandsFor s e c) x) r h.holds in
    let found : checked s e ≡ Sound c.width = sound_is c.width (checked s e) (sym (ap (λ (x : Found Checked). each (λ (c : Checked). c.width) x) r) ∙ h.finds) st.proper.1 in record {
      finds = ap (λ (x : Found ℕ). ended x) found ∙ ap (λ (n : ℕ). (let r : Result ℕ Broken = Ok n in r)) (sym st.own);
      makes = record {
        value_is = λ m. made.value_is m ∙ st.means w m;
        width_is = made.width_is;
        sound = λ ws names. made.sound ws (st.sound ws names, wide);
      };
    }
