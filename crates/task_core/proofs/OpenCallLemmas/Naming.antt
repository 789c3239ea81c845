-- Slots one after the other: those that are made, and the place of a name.
use Rattle.std.proofs.Common.{◌≡◌, ℕ, zero, suc, ◌+◌, ◌<◌, ◌≤◌, true, false, List, [], ◌∷◌, ◌++◌, length, map, take, drop, get_or, Option, None, Some, refl, sym, ap, ◌∙◌, append_assoc, add-one, drop-cons}
use Rattle.std.specs.Prelude.{slice_get, slice_set}
use Rattle.std.specs.Str.{bytes_eq}
use Rattle.std.proofs.lemmas.List.{append-nil, map-append, drop_all, drop-drop, take_all, take_more, set_split}
use Rattle.std.proofs.lemmas.Option.{get_or_from_slice_get, slice_get_within}
use Rattle.py_evaluate.specs.Attribute.Look.{Names}
use Rattle.py_value.specs.declared.value.Value.{Value}
use Rattle.rig_model.specs.Task.Frame.{locals_of, with_local}
use Rattle.task_core.specs.OpenCall.Slots.{local_in, first_valued, valued}
use Rattle.task_core.specs.declared.open_call.slots.Slot.{Slot}

-- ---- the place of a name

-- the first slots don't have the name, and the next one has
pub found_at : (ts : List Slot) (s : Slot) (ds : List Slot) (n : List ℕ) (v : Option Value) → bytes_eq s.name.now n ≡ true
    → map local_in ts ++ with_local (map local_in (s ∷ ds)) n v ≡ map local_in (ts ++ first_valued (s ∷ ds) v)
found_at ts s ds n v b = rw b (sym (map-append local_in ts (record s { value = v } ∷ ds)))

pub passed_at : (ts : List Slot) (s : Slot) (ds : List Slot) (n : List ℕ) (v : Option Value) → bytes_eq s.name.now n ≡ false
    → map local_in ts ++ with_local (map local_in (s ∷ ds)) n v ≡ map local_in (ts ++ s ∷ []) ++ with_local (map local_in ds) n v
passed_at ts s ds n v b =
    rw b (sym (ap (λ (ls : Names). ls ++ with_local (map local_in ds) n v) (map-append local_in ts (s ∷ []))
    ∙ append_assoc (map local_in ts) (local_in s ∷ []) (with_local (map local_in ds) n v)))

rest_at : (ss : List Slot) (k : ℕ) (s : Slot) → k < length ss → s ≡ get_or ss k s → drop k ss ≡ s ∷ drop (k + 1) ss
rest_at ss k s h e = rw add-one (drop-cons ss k s h ∙ ap (λ (x : Slot). x ∷ drop (suc k) ss) (sym e))

front_at : (ss : List Slot) (k : ℕ) (s : Slot) → k < length ss → s ≡ get_or ss k s → take (k + 1) ss ≡ take k ss ++ s ∷ []
front_at ss k s h e = take_more ss k s h ∙ ap (λ (x : Slot). take k ss ++ x ∷ []) (sym e)

-- what the value of a name changes, where the first k slots don't have it
abbrev pub Passed : List Slot → ℕ → List ℕ → Type 0
Passed ss k n = (v : Option Value) → with_local (map local_in ss) n v ≡ map local_in (take k ss) ++ with_local (map local_in (drop k ss)) n v

pub passed_more : (ss : List Slot) (k : ℕ) (n : List ℕ) (s : Slot) → k < length ss → s ≡ get_or ss k s → bytes_eq s.name.now n ≡ false → Passed ss k n → Passed ss (k + 1) n
passed_more ss k n s h e b p v =
    p v
    ∙ ap (λ (ds : List Slot). map local_in (take k ss) ++ with_local (map local_in ds) n v) (rest_at ss k s h e)
    ∙ passed_at (take k ss) s (drop (k + 1) ss) n v b
    ∙ ap (λ (ts : List Slot). map local_in ts ++ with_local (map local_in (drop (k + 1) ss)) n v) (sym (front_at ss k s h e))

pub passed_found : (ss : List Slot) (k : ℕ) (n : List ℕ) (s : Slot) → k < length ss → s ≡ get_or ss k s → bytes_eq s.name.now n ≡ true → Passed ss k n
    → (v : Option Value) → with_local (map local_in ss) n v ≡ map local_in (valued ss (Some k) v)
passed_found ss k n s h e b p v =
    p v
    ∙ ap (λ (ds : List Slot). map local_in (take k ss) ++ with_local (map local_in ds) n v) (rest_at ss k s h e)
    ∙ found_at (take k ss) s (drop (k + 1) ss) n v b
    ∙ ap (λ (ds : List Slot). map local_in (take k ss ++ first_valued ds v)) (sym (rest_at ss k s h e))

pub passed_all : (ss : List Slot) (k : ℕ) (n : List ℕ) → length ss ≤ k → Passed ss k n → (v : Option Value) → with_local (map local_in ss) n v ≡ map local_in (valued ss None v)
passed_all ss k n h p v =
    p v
    ∙ ap (λ (ds : List Slot). map local_in (take k ss) ++ with_local (map local_in ds) n v) (drop_all k ss h)
    ∙ append-nil (map local_in (take k ss))
    ∙ ap (λ (ts : List Slot). map local_in ts) (take_all k ss h)

-- a write to that place
pub valued_set : (ss : List Slot) (k : ℕ) (s : Slot) (v : Option Value) → k < length ss → s ≡ get_or ss k s
    → slice_set ss k (record s { value = v }) ≡ valued ss (Some k) v
valued_set ss k s v h e =
    set_split ss k (record s { value = v }) h
    ∙ ap (λ (ds : List Slot). take k ss ++ ds) (ap (λ (ds : List Slot). record s { value = v } ∷ ds) (ap (λ (j : ℕ). drop j ss) (sym (add-one k)))
    ∙ sym (ap (λ (ds : List Slot). first_valued ds v) (rest_at ss k s h e)))

-- ---- slots that are made

name_at : (ns : List (List ℕ)) (k : ℕ) (n : List ℕ) → slice_get ns k ≡ Some n → drop k ns ≡ n ∷ drop (k + 1) ns
name_at ns k n h =
    rw add-one (drop-cons ns k n (slice_get_within ns k n h) ∙ ap (λ (m : List ℕ). m ∷ drop (suc k) ns) (get_or_from_slice_get ns k n n h))

first : (n : List ℕ) (ns : List (List ℕ)) (vs : List Value) → locals_of (n ∷ ns) vs ≡ record { name = n; value = slice_get vs 0 } ∷ locals_of ns (drop 1 vs)
first n ns [] = refl
first n ns (v ∷ vs) = refl

pub get_dropped : (vs : List Value) (k : ℕ) → slice_get (drop k vs) 0 ≡ slice_get vs k
get_dropped vs zero = refl
get_dropped [] (suc k) = refl
get_dropped (v ∷ vs) (suc k) = get_dropped vs k

-- the names from a place on, with the values that are left
one_more : (ns rest : List (List ℕ)) (at : ℕ) (n : List ℕ) (vs : List Value) (place next : ℕ) (v : Option Value)
    → slice_get ns at ≡ Some n → v ≡ slice_get vs place → drop next vs ≡ drop 1 (drop place vs)
    → locals_of (drop at ns ++ rest) (drop place vs) ≡ record { name = n; value = v } ∷ locals_of (drop (at + 1) ns ++ rest) (drop next vs)
one_more ns rest at n vs place next v h e d =
    let ms : List (List ℕ) = drop (at + 1) ns ++ rest in
    ap (λ (ks : List (List ℕ)). locals_of (ks ++ rest) (drop place vs)) (name_at ns at n h)
    ∙ first n ms (drop place vs)
    ∙ ap (λ (o : Option Value). record { name = n; value = o } ∷ locals_of ms (drop 1 (drop place vs))) (get_dropped vs place ∙ sym e)
    ∙ ap (λ (ws : List Value). record { name = n; value = v } ∷ locals_of ms ws) (sym d)

-- one slot more
pub added_more : (ss rs : List Slot) (s : Slot) (ns rest : List (List ℕ)) (at : ℕ) (vs : List Value) (place next : ℕ)
    → rs ≡ ss ++ s ∷ [] → slice_get ns at ≡ Some s.name.now → s.value ≡ slice_get vs place → drop next vs ≡ drop 1 (drop place vs)
    → map local_in rs ++ locals_of (drop (at + 1) ns ++ rest) (drop next vs) ≡ map local_in ss ++ locals_of (drop at ns ++ rest) (drop place vs)
added_more ss rs s ns rest at vs place next a h e d =
    let ms : Names = locals_of (drop (at + 1) ns ++ rest) (drop next vs) in
    ap (λ (ts : List Slot). map local_in ts ++ ms) a
    ∙ ap (λ (ks : Names). ks ++ ms) (map-append local_in ss (s ∷ []))
    ∙ append_assoc (map local_in ss) (local_in s ∷ []) ms
    ∙ ap (λ (ks : Names). map local_in ss ++ ks) (sym (one_more ns rest at s.name.now vs place next s.value h e d))

-- parameters, and then the other names
pub both_added : (a b c : Names) (ps os : List (List ℕ)) (vs us ws : List Value) → a ≡ []
    → ((rest : List (List ℕ)) → b ++ locals_of rest us ≡ a ++ locals_of (ps ++ rest) vs)
    → ((rest : List (List ℕ)) → c ++ locals_of rest ws ≡ b ++ locals_of (os ++ rest) us) → c ≡ locals_of (ps ++ os) vs
both_added a b c ps os vs us ws e f g =
    sym (append-nil c)
    ∙ g []
    ∙ ap (λ (ns : List (List ℕ)). b ++ locals_of ns us) (append-nil os)
    ∙ f os
    ∙ ap (λ (ls : Names). ls ++ locals_of (ps ++ os) vs) e

-- one value more is taken
pub dropped_more : (vs : List Value) (k : ℕ) → drop (k + 1) vs ≡ drop 1 (drop k vs)
dropped_more vs k = sym (drop-drop 1 k vs)

pub dropped_past : (vs : List Value) (k : ℕ) → length vs ≤ k → drop k vs ≡ drop 1 (drop k vs)
dropped_past vs k h = rw (drop_all k vs h) refl
