-- How parts begin, one after the other, and that what was made stays made.
use Rattle.std.proofs.Common.{◌≡◌, ℕ, true, false, length, refl, ap, sym, subst, ◌∙◌}
use Rattle.std.proofs.lemmas.List.{length-set}
use Rattle.std.specs.Prelude.{slice_set}
use Rattle.py_value.specs.declared.trigger.LockNo.{LockNo}
use Rattle.py_value.specs.Trigger.{Trig}
use Rattle.await_tree.specs.Tree.{Tree, Trees, First, Combine, Limit, Then, is_over, first_of, combine_of, limit_of}
use Rattle.await_tree.specs.Begin.{Facts, Made, KnowsAll, made, with_held, begun, all_begun, then_begun, begin, begin_until, begin_all}

-- a part that is done ends it
pub until_over : (t u : Tree) (ts : Trees) (f g : Facts) → begun u g ≡ begin t f → is_over u ≡ true → all_begun (Then u ts) g ≡ begin_until (Then t ts) f
until_over t u ts f g e h = rw (← e) (rw h refl)

pub until_more : (t u : Tree) (ts us : Trees) (f g k : Facts) → begun u g ≡ begin t f → is_over u ≡ false → all_begun us k ≡ begin_until ts g
    → all_begun (Then u us) k ≡ begin_until (Then t ts) f
until_more t u ts us f g k e h m = rw (← e) (rw h (ap (then_begun u) m))

pub all_more : (t u : Tree) (ts us : Trees) (f g k : Facts) → begun u g ≡ begin t f → all_begun us k ≡ begin_all ts g
    → all_begun (Then u us) k ≡ begin_all (Then t ts) f
all_more t u ts us f g k e m = rw (← e) (ap (then_begun u) m)

pub first_begun : (ts us : Trees) (f g : Facts) (u : Tree) → all_begun us g ≡ begin_until ts f → u ≡ first_of us → begun u g ≡ begin (First ts) f
first_begun ts us f g u m e = rw e (rw (← m) refl)

pub combine_begun : (trig : Trig) (ts us : Trees) (f g : Facts) (u : Tree) → all_begun us g ≡ begin_all ts f → u ≡ combine_of trig us → begun u g ≡ begin (Combine trig ts) f
combine_begun trig ts us f g u m e = rw e (rw (← m) refl)

pub limit_begun : (due : ℕ) (t v : Tree) (f g : Facts) (u : Tree) → begun v g ≡ begin t f → u ≡ limit_of false due v → begun u g ≡ begin (Limit due t) f
limit_begun due t v f g u m e = rw e (rw (← m) refl)

-- ---- what was made stays made

same_made : (f : Facts) (n : ℕ) → length (slice_set f.locks n true) ≡ length f.locks → made (record f { locks = slice_set f.locks n true }) ≡ made f
same_made f n e = ap (λ (k : ℕ). record (made f) { locks = k }) e

pub taken_made : (l : LockNo) (f g : Facts) → g ≡ with_held l f → made g ≡ made f
taken_made l f g e = ap made e ∙ same_made f l.0 (length-set f.locks l.0 true)

pub known_after : (m n : Made) (ts : Trees) → n ≡ m → KnowsAll m ts → KnowsAll n ts
known_after m n ts e h = subst (λ (k : Made). KnowsAll k ts) (sym e) h
