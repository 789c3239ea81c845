-- The value of a constant, from what was found in its expression.
use Rattle.std.proofs.Common.{◌≡◌, ℕ, ◌≤◌, List, [], max, Bool, true, false, Result, Ok, Err, refl, sym, ap, ◌∙◌, subst, arith}
use Rattle.four_value.specs.declared.Digit.{Digit}
use Rattle.gpi.specs.Terms.{read}
use Rattle.v_syntax.specs.ExpressionTrees.{Tree, first_at}
use Rattle.v_flat.specs.declared.scope.rule.Broken.{Broken}
use Rattle.v_flat.specs.declared.scope.rule.ElabRule.TheVariants as rule
use Rattle.v_flat.specs.declared.scope.found.Found.{Found}
use Rattle.v_flat.specs.declared.scope.found.Found.TheVariants.{Sound, Noted, Lost}
use Rattle.v_flat.specs.Scope.Found.{lost, each, and_then, settled, needs, ended, Holds}
use Rattle.v_flat.specs.Scope.Rules.{at}
use Rattle.v_flat.specs.Scope.Scope.{Scope}
use Rattle.v_flat.proofs.ScopeLemmas.Gathered.{each_needs}
use Rattle.v_flat.specs.Scope.Limits.{counted_width}
use Rattle.v_check.specs.Contextual.Contexts.{value_in, IsSound}
use Rattle.v_flat.specs.Expressions.{no_signals, meaning}
use Rattle.v_flat.specs.Checks.{made, checked, known, constant_in}
use Rattle.v_check.specs.declared.constants.checked.Checked.{Checked}
use Rattle.v_check.specs.Constants.Checked.{StandsFor, IsChecked}
use Rattle.v_check.proofs.ConstantsLemmas.Unsignalled.{names_none, one_meaning}

abbrev width_or : Found ℕ → ℕ
width_or (Sound n) = n
width_or (Noted b n) = n
width_or (Lost b) = 0

abbrev broken_or : Found ℕ → Broken → Broken
broken_or (Sound n) d = d
broken_or (Noted b n) d = b
broken_or (Lost b) d = b

-- whether there is a sound value, a noted one, or none
abbrev state_of : {A : Type 0} → Found A → ℕ
state_of (Sound n) = 0
state_of (Noted b n) = 1
state_of (Lost b) = 2

counted_state : (x : Found ℕ) → state_of (each counted_width x) ≡ state_of x
counted_state (Sound n) = refl
counted_state (Noted b n) = refl
counted_state (Lost b) = refl

pub sound_is : (n : ℕ) (x : Found ℕ) → (let r : Found ℕ = Sound n in r) ≡ each counted_width x → n ≤ 128 → x ≡ Sound n
sound_is n (Sound w) e h = ap (λ (v : ℕ). (let r : Found ℕ = Sound v in r)) (let k : n ≡ counted_width w = ap (λ (z : Found ℕ). width_or z) e in omega (arith, k, h))
sound_is n (Noted b w) e h = absurd (omega (arith, ap (λ (z : Found ℕ). state_of z) e))
sound_is n (Lost b) e h = absurd (omega (arith, ap (λ (z : Found ℕ). state_of z) e))

pub noted_is : (b : Broken) (n : ℕ) (x : Found ℕ) → (let r : Found ℕ = Noted b n in r) ≡ each counted_width x → settled x ≡ Lost b
noted_is b n (Noted d w) e = ap (λ (z : Broken). (let r : Found ℕ = Lost z in r)) (sym (ap (λ (z : Found ℕ). broken_or z b) e))
noted_is b n (Sound w) e = absurd (omega (arith, ap (λ (z : Found ℕ). state_of z) e))
noted_is b n (Lost d) e = absurd (omega (arith, ap (λ (z : Found ℕ). state_of z) e))

pub lost_is : (b : Broken) (x : Found ℕ) → (let r : Found ℕ = Lost b in r) ≡ each counted_width x → settled x ≡ Lost b
lost_is b (Lost d) e = ap (λ (z : Broken). (let r : Found ℕ = Lost z in r)) (sym (ap (λ (z : Found ℕ). broken_or z b) e))
lost_is b (Sound w) e = absurd (omega (arith, ap (λ (z : Found ℕ). state_of z) e))
lost_is b (Noted d w) e = absurd (omega (arith, ap (λ (z : Found ℕ). state_of z) e))

-- what was found in an expression that has to be made of constants
abbrev pub asked : Scope → Tree → Found Checked → Found Checked
asked s e f = needs (made s e) rule.NotConstant (first_at e) f

asked_finds : (s : Scope) (e : Tree) (f : Found Checked) → IsChecked s e f
    → each (λ (c : Checked). c.width) (asked s e f) ≡ each counted_width (needs (made s e) rule.NotConstant (first_at e) (checked s e))
asked_finds s e f h = each_needs (λ (c : Checked). c.width) (made s e) rule.NotConstant (first_at e) f
    ∙ ap (λ (z : Found ℕ). needs (made s e) rule.NotConstant (first_at e) z) h.finds
    ∙ sym (each_needs counted_width (made s e) rule.NotConstant (first_at e) (checked s e))

lost_state : {A : Type 0} (b : Broken) (x : Found A) → state_of (let r : Found A = lost b x in r) ≡ 2
lost_state b (Sound a) = refl
lost_state b (Noted d a) = refl
lost_state b (Lost d) = refl

-- made of constants, and without a broken rule
both_so : (ok : Bool) (p : ℕ) (f : Found Checked) (c : Checked) → needs ok rule.NotConstant p f ≡ Sound c → (ok ≡ true) × (f ≡ Sound c)
both_so true p f c e = (refl, e)
both_so false p f c e = absurd (omega (arith, sym (lost_state (at rule.NotConstant p) f) ∙ ap (λ (z : Found Checked). state_of z) e))

pub ended_sound : (f : Found Checked) (c : Checked) → ended f ≡ Ok c → f ≡ Sound c
ended_sound (Sound a) c e = let k : a ≡ c = cc in ap (λ (d : Checked). (let r : Found Checked = Sound d in r)) k
ended_sound (Noted b a) c e = absurd (cc)
ended_sound (Lost b) c e = absurd (cc)

ended_lost : (f : Found Checked) (x : Found ℕ) (b : Broken) → each (λ (c : Checked). c.width) f ≡ each counted_width x → ended f ≡ Err b → settled x ≡ Lost b
ended_lost (Sound a) x b h e = absurd (cc)
ended_lost (Noted d a) x b h e = let k : d ≡ b = cc in noted_is d a.width x h ∙ ap (λ (z : Broken). (let r : Found ℕ = Lost z in r)) k
ended_lost (Lost d) x b h e = let k : d ≡ b = cc in lost_is d x h ∙ ap (λ (z : Broken). (let r : Found ℕ = Lost z in r)) k

-- an expression that was asked, and in which no rule is broken
pub record IsAsked (s : Scope) (e : Tree) (c : Checked) : Type 0 where
  pub made_of : made s e ≡ true
  pub stands : StandsFor s e c
  pub width_is : needs (made s e) rule.NotConstant (first_at e) (checked s e) ≡ Sound c.width

pub is_asked : (s : Scope) (e : Tree) (f : Found Checked) (c : Checked) → IsChecked s e f → ended (asked s e f) ≡ Ok c → IsAsked s e c
is_asked s e f c h q =
    let r : asked s e f ≡ Sound c = ended_sound (asked s e f) c q in
    let k = both_so (made s e) (first_at e) f c r in
    let st : StandsFor s e c = subst (λ (x : Found Checked). Holds (λ (c : Checked). StandsFor s e c) x) k.1 h.holds in record {
      made_of = k.0;
      stands = st;
      width_is = sound_is c.width (needs (made s e) rule.NotConstant (first_at e) (checked s e))
          (sym (ap (λ (x : Found Checked). each (λ (c : Checked). c.width) x) r) ∙ asked_finds s e f h) st.proper.1;
    }

-- it names no signal
pub asked_sound : (s : Scope) (e : Tree) (c : Checked) → IsAsked s e c → IsSound c.form []
asked_sound s e c k = k.stands.sound [] (names_none s e [] k.made_of)

pub value_known : (s : Scope) (e : Tree) (c : Checked) (least : ℕ) (ds : List Digit) → IsAsked s e c → ds ≡ value_in c.form (max least c.width) (read [])
    → known (first_at e) ds ≡ constant_in (max least) s e (checked s e)
value_known s e c least ds k v =
    ap (λ (es : List Digit). known (first_at e) es) (v ∙ k.stands.means (max least c.width) (read []) ∙ one_meaning s e (max least c.width) (read []) no_signals k.made_of)
    ∙ ap (λ (x : Found ℕ). and_then (settled x) (λ n. known (first_at e) (meaning s e (max least n) no_signals))) (sym k.width_is)

pub value_lost : (s : Scope) (e : Tree) (f : Found Checked) (least : ℕ) (b : Broken) → IsChecked s e f → ended (asked s e f) ≡ Err b
    → (let r : Found (List Digit) = Lost b in r) ≡ constant_in (max least) s e (checked s e)
value_lost s e f least b h q = ap (λ (x : Found ℕ). and_then x (λ n. known (first_at e) (meaning s e (max least n) no_signals)))
    (sym (ended_lost (asked s e f) (needs (made s e) rule.NotConstant (first_at e) (checked s e)) b (asked_finds s e f h) q))

-- what the code asks
pub asked_ends : (s : Scope) (e : Tree) (f x : Found Checked) (ok : Bool) (p : ℕ) (r q : Result Checked Broken) → x ≡ needs ok rule.NotConstant p f → ok ≡ made s e → p ≡ first_at e
    → r ≡ ended x → r ≡ q → ended (asked s e f) ≡ q
asked_ends s e f x ok p r q h i j k l =
    ap (λ (n : ℕ). ended (needs (made s e) rule.NotConstant n f)) (sym j) ∙ ap (λ (b : Bool). ended (needs b rule.NotConstant p f)) (sym i) ∙ ap (λ (y : Found Checked). ended y) (sym h) ∙ sym k ∙ l
