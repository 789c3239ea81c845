-- What was found, through the ways of putting parts together.
use Rattle.std.proofs.Common.{◌≡◌, ℕ, ◌≤◌, Bool, true, false, refl, sym, ap, ◌∙◌, nat_le, arith}
use Rattle.std.proofs.lemmas.Bool.Decides.{nat_tests}
use Rattle.v_flat.specs.declared.scope.rule.Broken.{Broken}
use Rattle.v_flat.specs.declared.scope.rule.ElabRule.TheVariants as rule
use Rattle.v_flat.specs.declared.scope.found.Found.{Found}
use Rattle.v_flat.specs.declared.scope.found.Found.TheVariants.{Sound, Noted, Lost}
use Rattle.v_flat.specs.Scope.Found.{noted, each, wants, Holds}
use Rattle.v_flat.proofs.ScopeLemmas.Gathered.{each_noted, each_wants}
use Rattle.v_flat.specs.Scope.Limits.{counted_width, most_digits}
use Rattle.v_flat.proofs.ScopeLemmas.CutWidths.{fits_cut}
use Rattle.v_check.specs.Constants.Checked.{sized_at}
use Rattle.v_flat.specs.Checks.{sized}
use Rattle.v_flat.proofs.Holds.{holds_noted}
use Rattle.v_check.specs.declared.constants.checked.Checked.{Checked}
use Rattle.v_check.specs.Constants.Made.{EachIs}

pub sized_width : (p : ℕ) (f : Found Checked) → each (λ (c : Checked). c.width) (sized_at p f) ≡ sized p (each (λ (c : Checked). c.width) f)
sized_width p (Sound c) = each_wants (λ (c : Checked). c.width) (nat_le c.width most_digits) rule.TooWide p (Sound c)
sized_width p (Noted b c) = each_noted (λ (c : Checked). c.width) b (wants (nat_le c.width most_digits) rule.TooWide p (Sound c))
    ∙ ap (λ (y : Found ℕ). noted b y) (each_wants (λ (c : Checked). c.width) (nat_le c.width most_digits) rule.TooWide p (Sound c))
sized_width p (Lost b) = refl

wants_counted : (p w : ℕ) → each counted_width (wants (nat_le w most_digits) rule.TooWide p (Sound w)) ≡ wants (nat_le (counted_width w) most_digits) rule.TooWide p (Sound (counted_width w))
wants_counted p w = each_wants counted_width (nat_le w most_digits) rule.TooWide p (Sound w)
    ∙ ap (λ (ok : Bool). wants ok rule.TooWide p (let r : Found ℕ = Sound (counted_width w) in r)) (sym (fits_cut w))

pub sized_counted : (p : ℕ) (x : Found ℕ) → each counted_width (sized p x) ≡ sized p (each counted_width x)
sized_counted p (Sound w) = wants_counted p w
sized_counted p (Noted b w) = each_noted counted_width b (wants (nat_le w most_digits) rule.TooWide p (Sound w)) ∙ ap (λ (y : Found ℕ). noted b y) (wants_counted p w)
sized_counted p (Lost b) = refl

pub made_width : {A B : Type 0} (P : A → B → Type 0) (g : B → ℕ) (h : A → ℕ) (x : Found A) (f : Found B) → EachIs P x f → ((a : A) (c : B) → P a c → g c ≡ h a) → each g f ≡ each h x
made_width P g h (Sound a) (Sound c) e k = ap (λ (n : ℕ). (let r : Found ℕ = Sound n in r)) (k a c e)
made_width P g h (Noted b a) (Noted d c) e k = ap (λ (n : ℕ). (let r : Found ℕ = Noted d n in r)) (k a c e.1) ∙ ap (λ (t : Broken). (let r : Found ℕ = Noted t (h a) in r)) (sym e.0)
made_width P g h (Lost b) (Lost d) e k = ap (λ (t : Broken). (let r : Found ℕ = Lost t in r)) (sym e)
made_width P g h (Sound a) (Noted d c) e k = absurd e
made_width P g h (Sound a) (Lost d) e k = absurd e
made_width P g h (Noted b a) (Sound c) e k = absurd e
made_width P g h (Noted b a) (Lost d) e k = absurd e
made_width P g h (Lost b) (Sound c) e k = absurd e
made_width P g h (Lost b) (Noted d c) e k = absurd e

pub made_holds : {A B : Type 0} (P : A → B → Type 0) (Q : A → Type 0) (R : B → Type 0) (x : Found A) (f : Found B) → EachIs P x f → Holds Q x
    → ((a : A) (c : B) → P a c → Q a → R c) → Holds R f
made_holds P Q R (Sound a) (Sound c) e h k = k a c e h
made_holds P Q R (Noted b a) (Noted d c) e h k = tt
made_holds P Q R (Lost b) (Lost d) e h k = tt
made_holds P Q R (Sound a) (Noted d c) e h k = tt
made_holds P Q R (Sound a) (Lost d) e h k = tt
made_holds P Q R (Noted b a) (Sound c) e h k = absurd e
made_holds P Q R (Noted b a) (Lost d) e h k = tt
made_holds P Q R (Lost b) (Sound c) e h k = absurd e
made_holds P Q R (Lost b) (Noted d c) e h k = tt

narrow_holds : (R : Checked → Type 0) (p : ℕ) (c : Checked) (ok : Bool) → nat_le c.width most_digits ≡ ok → (c.width ≤ most_digits → R c) → Holds R (wants ok rule.TooWide p (Sound c))
narrow_holds R p c true e h = h (grind (arith, nat_tests))
narrow_holds R p c false e h = tt

pub sized_holds : (R : Checked → Type 0) (p : ℕ) (f : Found Checked) → Holds (λ (c : Checked). c.width ≤ most_digits → R c) f → Holds R (sized_at p f)
sized_holds R p (Sound c) h = narrow_holds R p c (nat_le c.width most_digits) refl h
sized_holds R p (Noted b c) h = holds_noted R b (wants (nat_le c.width most_digits) rule.TooWide p (Sound c))
sized_holds R p (Lost b) h = tt
