-- Assignments.
use Rattle.std.proofs.Common.{◌≡◌, ℕ, max, Bool, true, false, List, Option, unwrap_or, Result, Ok, Err, IfOk, is_some, refl, sym, ap, subst, ◌∙◌}
use Rattle.four_value.specs.declared.Digit.{Digit}
use Rattle.four_value.specs.Vector.{resize}
use Rattle.four_value.proofs.Lengths.{length_resize}
use Rattle.gpi.specs.declared.types.Update.{Update}
use Rattle.gpi.specs.declared.acts.Act.{Act}
use Rattle.gpi.specs.Targets.{updates_of}
use Rattle.gpi.specs.Activation.{nonblocking}
use Rattle.gpi.specs.Terms.{read}
use Rattle.v_syntax.specs.declared.statement.AssignmentKind.{AssignmentKind}
use Rattle.v_syntax.specs.declared.statement.AssignmentKind.TheVariants.{Blocking, Nonblocking, Delayed}
use Rattle.v_syntax.specs.ExpressionTrees.{Tree, TargetTree}
use Rattle.v_syntax.specs.StatementTrees.{Assignment}
use Rattle.v_flat.specs.declared.scope.found.Found.{Found}
use Rattle.v_flat.specs.declared.scope.found.Found.TheVariants.{Sound, Noted, Lost}
use Rattle.v_flat.specs.declared.scope.rule.Broken.{Broken}
use Rattle.v_flat.specs.declared.scope.rule.ElabRule.TheVariants as rule
use Rattle.v_flat.specs.Scope.Rules.{at}
use Rattle.v_flat.specs.Scope.Found.{both, Holds, noted, wants}
use Rattle.v_flat.specs.Scope.Limits.{counted_width}
use Rattle.v_flat.specs.Scope.Scope.{Scope}
use Rattle.v_check.specs.Contextual.Contexts.{value_in}
use Rattle.v_flat.specs.Checks.{checked}
use Rattle.v_flat.specs.Expressions.{width, meaning}
use Rattle.v_flat.specs.Targets.{target_checked, target_width, updates}
use Rattle.v_flat.specs.declared.timing.Timing.{Timing}
use Rattle.v_flat.specs.Delays.{steps_of}
use Rattle.v_flat.specs.Statements.{assigned_updates, delay_checked, done}
use Rattle.v_flat.proofs.Holds.{holds_both}
use Rattle.v_check.specs.declared.constants.checked.Checked.{Checked}
use Rattle.v_check.specs.Constants.Checked.{StandsFor, IsChecked}
use Rattle.v_check.proofs.ConstantsLemmas.Combined.{made_holds}
use Rattle.v_process.specs.declared.target.checked.CheckedTarget.{CheckedTarget}
use Rattle.v_process.specs.Assign.Targets.{GetsAs, IsProcedural}
use Rattle.v_process.specs.Act.Assignments.{MakesAssignment}
use Rattle.v_process.specs.Act.Made.{AreAssignments}
use Rattle.v_process.specs.declared.act.moment.Moment.{Moment}
use Rattle.v_process.specs.declared.act.moment.Moment.TheVariants.{AtOnce, Later}
use Rattle.v_process.specs.Act.Statements.{DoesAs, ChecksAssignment, IsFoundStatement, TakesAt, taking}
use Rattle.v_process.proofs.ActLemmas.Done.{done_as, two_done, done_made}

same_updates : (s : Scope) (t : TargetTree) (e : Tree) (c : CheckedTarget) (v : Checked) (m : ℕ → List Digit) → GetsAs s t c → StandsFor s e v
    → updates_of c.target m (resize (value_in v.form (max c.width v.width) m) c.width)
    ≡ assigned_updates s t e m
same_updates s t e c v m h k =
    ap (λ (ds : List Digit). updates_of c.target m (resize ds c.width)) (k.means (max c.width v.width) m)
    ∙ h.gets m (resize (meaning s e (max c.width v.width) m) c.width) (length_resize (meaning s e (max c.width v.width) m) c.width)
    ∙ ap (λ (n : ℕ). updates s t m (resize (meaning s e (max n v.width) m) n)) (sym h.own)
    ∙ ap (λ (n : ℕ). updates s t m (resize (meaning s e (max (target_width s t) n) m) (target_width s t))) (sym k.own)

assignment_does : (timing : Timing) (s : Scope) (m : Moment) (kind : AssignmentKind) (t : TargetTree) (e : Tree) (c : CheckedTarget) (v : Checked) (a : Act)
    → MakesAssignment m c v a → TakesAt timing kind m → GetsAs s t c → StandsFor s e v → DoesAs timing s (Assignment kind t e) a
assignment_does timing s m kind t e c v a made takes h k = record {
  runs = λ r. made.runs r ∙ ap (λ (us : List Update). taking m us r) (same_updates s t e c v (read r.signals) h k)
      ∙ takes (assigned_updates s t e (read r.signals)) r;
  sound = λ ws names. made.sound ws (record {
    target = h.sound ws names.0;
    target_width_is = h.width_is;
    target_width = h.proper;
    value = k.sound ws names.1;
    value_width = k.proper;
  });
}

assignment_is : (m : Moment) (x : Found CheckedTarget) (y : Found Checked) (f : Found Act) → AreAssignments m (both x y) f
    → ChecksAssignment m x y f
assignment_is m x y f made = λ timing s kind t e a takes h k. record {
  finds = done_made (λ (p : CheckedTarget × Checked) (a : Act). MakesAssignment m p.0 p.1 a) (both x y) f made
      ∙ two_done x y a (checked s e)
      (done_as (λ (c : CheckedTarget). c.width) counted_width x a h.finds)
      (done_as (λ (c : Checked). c.width) counted_width y (checked s e) k.finds);
  holds = made_holds (λ (p : CheckedTarget × Checked) (a : Act). MakesAssignment m p.0 p.1 a)
      (λ (p : CheckedTarget × Checked). GetsAs s t p.0 × StandsFor s e p.1) (λ (a : Act). DoesAs timing s (Assignment kind t e) a) (both x y) f made
      (holds_both (λ (c : CheckedTarget). GetsAs s t c) (λ (c : Checked). StandsFor s e c) x y h.holds k.holds)
      (λ p b q st. assignment_does timing s m kind t e p.0 p.1 b q takes st.0 st.1);
}

pub assignment_result : {E : Type 0} (m : Moment) (x : Found CheckedTarget) (y : Found Checked) (r : Result (Found Act) E)
    → IfOk r (AreAssignments m (both x y)) → IfOk r (ChecksAssignment m x y)
assignment_result m x y (Ok f) made = assignment_is m x y f made
assignment_result m x y (Err e) made = tt

-- ---- when its updates come

pub at_once_takes : (timing : Timing) (kind : AssignmentKind) → kind ≡ Blocking → TakesAt timing kind AtOnce
at_once_takes timing kind e = subst (λ (k : AssignmentKind). TakesAt timing k AtOnce) (sym e) (λ us r. refl)

pub later_takes : (timing : Timing) (kind : AssignmentKind) → kind ≡ Nonblocking → TakesAt timing kind (Later 0)
later_takes timing kind e = subst (λ (k : AssignmentKind). TakesAt timing k (Later 0)) (sym e) (λ us r. refl)

pub delay_takes : (timing : Timing) (kind : AssignmentKind) (p : ℕ) (ds : List Digit) (o : Option ℕ) (n : ℕ) → kind ≡ Delayed p ds → o ≡ steps_of timing ds
    → n ≡ unwrap_or o 0 → TakesAt timing kind (Later n)
delay_takes timing kind p ds o n e f g =
    subst (λ (k : AssignmentKind). TakesAt timing k (Later n)) (sym e)
    (λ us r. ap (λ (m : ℕ). nonblocking m us r) (g ∙ ap (λ (x : Option ℕ). unwrap_or x 0) f))

-- ---- with its delay

pub not_asked : {A : Type 0} (timing : Timing) (kind : AssignmentKind) (x : Found A) → kind ≡ Blocking → x ≡ delay_checked timing kind x
not_asked timing kind x e = ap (λ (k : AssignmentKind). delay_checked timing k x) (sym e)

pub not_asked_later : {A : Type 0} (timing : Timing) (kind : AssignmentKind) (x : Found A) → kind ≡ Nonblocking → x ≡ delay_checked timing kind x
not_asked_later timing kind x e = ap (λ (k : AssignmentKind). delay_checked timing k x) (sym e)

pub asked : {A : Type 0} (timing : Timing) (kind : AssignmentKind) (p : ℕ) (ds : List Digit) (o : Option ℕ) (b : Bool) (x y : Found A) → kind ≡ Delayed p ds
    → o ≡ steps_of timing ds → b ≡ is_some o → y ≡ wants b rule.BadDelay p x → y ≡ delay_checked timing kind x
asked timing kind p ds o b x y e f g h =
    h ∙ ap (λ (c : Bool). wants c rule.BadDelay p x) (g ∙ ap (λ (z : Option ℕ). is_some z) f) ∙ ap (λ (k : AssignmentKind). delay_checked timing k x) (sym e)

noted_done : {A : Type 0} (b : Broken) (x : Found A) → done (noted b x) ≡ noted b (done x)
noted_done b (Sound a) = refl
noted_done b (Noted c a) = refl
noted_done b (Lost c) = refl

wants_done : {A : Type 0} (t : Bool) (p : ℕ) (x : Found A) → done (wants t rule.BadDelay p x) ≡ wants t rule.BadDelay p (done x)
wants_done true p x = refl
wants_done false p x = noted_done (at rule.BadDelay p) x

delay_done : {A : Type 0} (timing : Timing) (kind : AssignmentKind) (x : Found A) → done (delay_checked timing kind x) ≡ delay_checked timing kind (done x)
delay_done timing Blocking x = refl
delay_done timing Nonblocking x = refl
delay_done timing (Delayed p ds) x = wants_done (is_some (steps_of timing ds)) p x

noted_holds : {A : Type 0} (P : A → Type 0) (b : Broken) (x : Found A) → Holds P (noted b x)
noted_holds P b (Sound a) = tt
noted_holds P b (Noted c a) = tt
noted_holds P b (Lost c) = tt

wants_holds : {A : Type 0} (P : A → Type 0) (t : Bool) (p : ℕ) (x : Found A) → Holds P x → Holds P (wants t rule.BadDelay p x)
wants_holds P true p x h = h
wants_holds P false p x h = noted_holds P (at rule.BadDelay p) x

delay_holds : {A : Type 0} (P : A → Type 0) (timing : Timing) (kind : AssignmentKind) (x : Found A) → Holds P x → Holds P (delay_checked timing kind x)
delay_holds P timing Blocking x h = h
delay_holds P timing Nonblocking x h = h
delay_holds P timing (Delayed p ds) x h = wants_holds P (is_some (steps_of timing ds)) p x h

-- g is what was found in the target and the value, and f what was found with the delay
pub delay_found : (timing : Timing) (s : Scope) (m : Moment) (kind : AssignmentKind) (t : TargetTree) (e : Tree) (x : Found CheckedTarget) (y : Found Checked)
    (g f : Found Act) → TakesAt timing kind m → IsProcedural s t x → IsChecked s e y → ChecksAssignment m x y g → f ≡ delay_checked timing kind g
    → IsFoundStatement timing s (Assignment kind t e) f
delay_found timing s m kind t e x y g f takes h k made is =
    let found = made timing s kind t e (target_checked s t) takes h k in
    subst (λ (z : Found Act). IsFoundStatement timing s (Assignment kind t e) z) (sym is) (record {
      finds = delay_done timing kind g ∙ ap (λ (z : Found (Unit {0})). delay_checked timing kind z) found.finds;
      holds = delay_holds (λ (a : Act). DoesAs timing s (Assignment kind t e) a) timing kind g found.holds;
    })
