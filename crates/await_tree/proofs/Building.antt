-- The trees of triggers in a row, one after the other from the last, and that each trigger is smaller than its row.
use Rattle.std.proofs.Common.{◌≡◌, ℕ, zero, suc, ◌+◌, ◌≤◌, ◌<◌, List, [], ◌∷◌, length, drop, add-one, refl, ap, sym, ◌∙◌, arith}
use Rattle.std.specs.Prelude.{slice_get, Some}
use Rattle.py_value.specs.Trigger.{Trig, row, IsSound, AreSound, IsOne}
use Rattle.py_value.specs.TriggerCode as code
use Rattle.await_tree.specs.Tree.{Tree, Trees, Then, NoTree}
use Rattle.await_tree.specs.Check.{tree_of, all_trees, only}

row_some : (ts : List Trig) → 1 ≤ code.row_size (row ts)
row_some [] = omega arith
row_some (t ∷ ts) = omega (arith, row_some ts)

pub item_falls : (ts : List Trig) (i : ℕ) (t : Trig) → slice_get ts i ≡ Some t → code.size t + 1 ≤ code.row_size (row ts)
item_falls [] i t h = absurd (cc)
item_falls (x ∷ xs) zero t h = let e : x ≡ t = cc in rw (← e) (omega (arith, row_some xs))
item_falls (x ∷ xs) (suc i) t h = let k : code.size t + 1 ≤ code.row_size (row xs) = item_falls xs i t h in omega arith

pub item_sound : (ts : List Trig) (i : ℕ) (t : Trig) → slice_get ts i ≡ Some t → AreSound (row ts) → IsSound t
item_sound [] i t h s = absurd (cc)
item_sound (x ∷ xs) zero t h s = let e : x ≡ t = cc in rw (← e) s.0
item_sound (x ∷ xs) (suc i) t h s = item_sound xs i t h s.1

item_tree : (ts : List Trig) (i : ℕ) (t : Trig) (now : ℕ) → slice_get ts i ≡ Some t
    → all_trees (row (drop i ts)) now ≡ Then (tree_of t now) (all_trees (row (drop (suc i) ts)) now)
item_tree [] i t now h = absurd (cc)
item_tree (x ∷ xs) zero t now h = let e : x ≡ t = cc in rw (← e) refl
item_tree (x ∷ xs) (suc i) t now h = item_tree xs i t now h

-- one part more stands in front
pub next_trees : (ts : List Trig) (i k : ℕ) (t : Trig) (now : ℕ) (u : Tree) (us vs : Trees) → slice_get ts i ≡ Some t → k ≡ i + 1 → u ≡ tree_of t now
    → us ≡ all_trees (row (drop k ts)) now → vs ≡ Then u us → vs ≡ all_trees (row (drop i ts)) now
next_trees ts i k t now u us vs h n e d v =
    v ∙ (ap (λ (x : Tree). Then x us) e
    ∙ (ap (λ (x : Trees). Then (tree_of t now) x) (d ∙ ap (λ (j : ℕ). all_trees (row (drop j ts)) now) (n ∙ add-one i)) ∙ sym (item_tree ts i t now h)))

pub no_trees : (ts : List Trig) (n now : ℕ) → n ≡ length ts → NoTree ≡ all_trees (row (drop n ts)) now
no_trees [] n now h = rw h refl
no_trees (x ∷ xs) n now h = rw h (no_trees xs (length xs) now refl)

pub whole_row : (ts : List Trig) (n now : ℕ) (us : Trees) → us ≡ all_trees (row (drop n ts)) now → n ≡ 0 → us ≡ all_trees (row ts) now
whole_row ts n now us e h = e ∙ ap (λ (j : ℕ). all_trees (row (drop j ts)) now) h

pub only_tree : (ts : List Trig) (t : Trig) (now : ℕ) (u : Tree) → slice_get ts 0 ≡ Some t → u ≡ tree_of t now → u ≡ only (all_trees (row ts) now)
only_tree [] t now u h e = absurd (cc)
only_tree (x ∷ xs) t now u h e = let d : x ≡ t = cc in rw d e

pub one_is_there : (ts : List Trig) → IsOne (row ts) → 0 < length ts
one_is_there [] h = absurd h
one_is_there (x ∷ xs) h = omega arith
