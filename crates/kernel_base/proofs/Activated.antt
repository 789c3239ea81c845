-- The end of an activation.
use Rattle.std.proofs.Common.{◌≡◌, ℕ, suc, ◌+◌, ◌<◌, ◌≤◌, Bool, true, false, List, [], ◌∷◌, length, refl, arith, slice_get, Some, None, Option, ◌∙◌, if◌then◌else◌}
use Rattle.gpi.specs.declared.design.Kind.{Kind}
use Rattle.gpi.specs.declared.design.Kind.TheVariants.{Assign, Always, Initial}
use Rattle.gpi.specs.declared.types.Report.{Report}
use Rattle.four_value.specs.Vector.{same_digits}
use Rattle.gpi.specs.Activation.{Map}
use Rattle.gpi.specs.Design.{Proc}
use Rattle.gpi.specs.State.{State, changes, bars_itself}
use Rattle.gpi.specs.Events.{activate}
use Rattle.kernel_base.specs.Lists.{barred, own_of}
use Rattle.kernel_base.specs.Steps.{AreInside, ran, with_run, ended}

changes_step : (t : Bool) (r : Report) (rs : List Report) (k : ℕ) → r.sig.0 < k → AreInside rs k → AreInside (if t then rs else r ∷ rs) k
changes_step true r rs k h l = l
changes_step false r rs k h l = (h, l)

pub changes_of : (n : ℕ) (a b : Map) (k : ℕ) → n + length a ≤ k → AreInside (changes n a b) k
changes_of n [] b k h = tt
changes_of n (x ∷ a) [] k h = tt
changes_of n (x ∷ a) (y ∷ b) k h =
    changes_step (same_digits x y) (record { sig = record { 0 = n }; before = x; after = y }) (changes (suc n) a b) k (omega arith) (changes_of (suc n) a b k (omega arith))

pub own_barred : (k : Kind) (p : ℕ) (active : List ℕ) → barred (own_of k p) active ≡ (if bars_itself k then p ∷ active else active)
own_barred Assign p active = refl
own_barred Always p active = refl
own_barred Initial p active = refl

-- the two together are an activation
pub activated : (ps : List Proc) (s : State) (p : ℕ) (o : Option Proc) (rest : List ℕ) → (o ≡ None → ⊥)
    → ended ps (record (with_run s (ran o s.signals s.hidden)) { active = rest }) s.signals p o ≡ activate ps (record s { active = rest }) p o
activated ps s p None rest h = absurd (h refl)
activated ps s p (Some proc) rest h = refl

pub ran_state : (ps qs : List Proc) (s t u : State) (before : Map) (p : ℕ) (rest : List ℕ) → (slice_get ps p ≡ None → ⊥) → qs ≡ ps
    → t ≡ with_run s (ran (slice_get ps p) s.signals s.hidden) → before ≡ s.signals → u ≡ ended qs (record t { active = rest }) before p (slice_get qs p)
    → u ≡ activate ps (record s { active = rest }) p (slice_get ps p)
ran_state ps qs s t u before p rest n q f b e =
    e ∙ rw (q, f, b) (activated ps s p (slice_get ps p) rest n)
