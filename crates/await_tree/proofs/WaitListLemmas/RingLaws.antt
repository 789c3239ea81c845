-- A ring that is turned round, entry by entry.
use Rattle.std.proofs.Common.{◌≡◌, ℕ, zero, suc, ◌+◌, ◌-◌, ◌<◌, ◌≤◌, ◌||◌, Bool, true, false, List, [], ◌∷◌, ◌++◌, length, take, drop, refl, sym, ap, ◌∙◌, arith, append_assoc, length-append}
use Rattle.py_value.specs.declared.trigger.TaskNo.{TaskNo}
use Rattle.await_tree.specs.WaitList.Ring.{has_entry, is_entry_of, without_entry}
use Rattle.await_tree.specs.declared.wait_list.ready.Entry.{Entry}

entry_at : (o : List Entry) (i : ℕ) → i < length o → (y : Entry) × ((drop i o ≡ y ∷ drop (suc i) o) × (take (suc i) o ≡ take i o ++ y ∷ []))
entry_at [] i h = absurd (omega arith)
entry_at (x ∷ xs) zero h = (x, (refl, refl))
entry_at (x ∷ xs) (suc i) h = let r = entry_at xs i (omega arith) in (r.0, (r.1.0, ap (λ (ys : List Entry). x ∷ ys) r.1.1))

without_more : (task : TaskNo) (xs ys : List Entry) → without_entry task (xs ++ ys) ≡ without_entry task xs ++ without_entry task ys
without_more task [] ys = refl
without_more task (x ∷ xs) ys = decided (is_entry_of task x) refl (without_more task xs ys)
  where
    decided : (b : Bool) → is_entry_of task x ≡ b → without_entry task (xs ++ ys) ≡ without_entry task xs ++ without_entry task ys → without_entry task (x ∷ (xs ++ ys)) ≡ without_entry task (x ∷ xs) ++ without_entry task ys
    decided true e h = rw e h
    decided false e h = rw e (ap (λ (es : List Entry). x ∷ es) h)

has_more : (task : TaskNo) (xs : List Entry) (y : Entry) → has_entry task (xs ++ y ∷ []) ≡ (has_entry task xs || has_entry task (y ∷ []))
has_more task [] y = refl
has_more task (x ∷ xs) y = decided (is_entry_of task x) refl (has_more task xs y)
  where
    decided : (b : Bool) → is_entry_of task x ≡ b → has_entry task (xs ++ y ∷ []) ≡ (has_entry task xs || has_entry task (y ∷ [])) → has_entry task (x ∷ (xs ++ y ∷ [])) ≡ (has_entry task (x ∷ xs) || has_entry task (y ∷ []))
    decided true e h = rw e refl
    decided false e h = rw e h

-- one entry more has gone round
turned_at : (task : TaskNo) (o es fs : List Entry) (i : ℕ) → i < length o → es ≡ drop i o ++ without_entry task (take i o) → fs ≡ drop 1 es ++ without_entry task (take 1 es)
    → fs ≡ drop (suc i) o ++ without_entry task (take (suc i) o)
turned_at task o es fs i h e f =
    let r = entry_at o i h in
    let a : es ≡ r.0 ∷ (drop (suc i) o ++ without_entry task (take i o)) = e ∙ ap (λ (xs : List Entry). xs ++ without_entry task (take i o)) r.1.0 in
    f
    ∙ ap (λ (xs : List Entry). drop 1 xs ++ without_entry task (take 1 xs)) a
    ∙ append_assoc (drop (suc i) o) (without_entry task (take i o)) (without_entry task (r.0 ∷ []))
    ∙ ap (λ (xs : List Entry). drop (suc i) o ++ xs) (sym (without_more task (take i o) (r.0 ∷ [])) ∙ ap (λ (xs : List Entry). without_entry task xs) (sym r.1.1))

found_at : (task : TaskNo) (o es : List Entry) (i : ℕ) (found own : Bool) → i < length o → es ≡ drop i o ++ without_entry task (take i o) → found ≡ has_entry task (take i o)
    → own ≡ has_entry task (take 1 es) → (found || own) ≡ has_entry task (take (suc i) o)
found_at task o es i found own h e f w =
    let r = entry_at o i h in
    let a : es ≡ r.0 ∷ (drop (suc i) o ++ without_entry task (take i o)) = e ∙ ap (λ (xs : List Entry). xs ++ without_entry task (take i o)) r.1.0 in
    let b : own ≡ has_entry task (r.0 ∷ []) = w ∙ ap (λ (xs : List Entry). has_entry task (take 1 xs)) a in
    rw (f, b) (sym (has_more task (take i o) r.0) ∙ ap (λ (xs : List Entry). has_entry task xs) (sym r.1.1))

next_turn : (n left : ℕ) → 0 < left → left ≤ n → n - (left - 1) ≡ suc (n - left)
next_turn n left h k = omega arith

pub turned : (task : TaskNo) (o es fs : List Entry) (left : ℕ) → 0 < left → left ≤ length o
    → es ≡ drop (length o - left) o ++ without_entry task (take (length o - left) o) → fs ≡ drop 1 es ++ without_entry task (take 1 es)
    → fs ≡ drop (length o - (left - 1)) o ++ without_entry task (take (length o - (left - 1)) o)
turned task o es fs left h k e f =
    turned_at task o es fs (length o - left) (omega arith) e f
    ∙ ap (λ (i : ℕ). drop i o ++ without_entry task (take i o)) (sym (next_turn (length o) left h k))

pub turned_found : (task : TaskNo) (o es : List Entry) (left : ℕ) (found own : Bool) → 0 < left → left ≤ length o
    → es ≡ drop (length o - left) o ++ without_entry task (take (length o - left) o) → found ≡ has_entry task (take (length o - left) o)
    → own ≡ has_entry task (take 1 es) → (found || own) ≡ has_entry task (take (length o - (left - 1)) o)
turned_found task o es left found own h k e f w =
    found_at task o es (length o - left) found own (omega arith) e f w
    ∙ ap (λ (i : ℕ). has_entry task (take i o)) (sym (next_turn (length o) left h k))

one_without : (task : TaskNo) (e : Entry) → length (without_entry task (e ∷ [])) ≤ 1
one_without task e = decided (is_entry_of task e) refl
  where
    decided : (b : Bool) → is_entry_of task e ≡ b → length (without_entry task (e ∷ [])) ≤ 1
    decided true h = rw h (omega arith)
    decided false h = rw h (omega arith)

pub turned_fits : (task : TaskNo) (es fs : List Entry) (room now : ℕ) → fs ≡ drop 1 es ++ without_entry task (take 1 es) → length es ≤ room → now ≡ room → length fs ≤ now
turned_fits task [] fs room now e h d = let l : length fs ≡ 0 = ap length e in omega arith
turned_fits task (x ∷ xs) fs room now e h d =
    let one : length (without_entry task (x ∷ [])) ≤ 1 = one_without task x in
    let l : length fs ≡ length xs + length (without_entry task (x ∷ [])) = ap length e ∙ length-append xs (without_entry task (x ∷ [])) in
    omega arith
