-- The parts of a call, one after the other.
use Rattle.std.proofs.Common.{◌≡◌, ◌≤◌, ◌<◌, ℕ, zero, suc, arith, ◌+◌, ◌||◌, Bool, true, false, List, [], ◌∷◌, ◌++◌, length, map, take, drop, get_or, refl, sym, ap, ◌∙◌, subst}
use Rattle.std.proofs.lemmas.List.{map_push}
use Rattle.gpi.specs.Content.{Content}
use Rattle.gpi.specs.Keys.{among}
use Rattle.gpi.specs.declared.types.Key.{Key}
use Rattle.py_value.specs.declared.trigger.TaskNo.{TaskNo}
use Rattle.await_tree.specs.Laws.{IsWithin}
use Rattle.await_tree.specs.Tree as tree
use Rattle.await_tree.specs.Tree.{leaves}
use Rattle.await_tree.specs.Whole.{tree_in}
use Rattle.await_tree.specs.declared.cause.Awaited.{Awaited}
use Rattle.await_tree.specs.declared.tree.Tree.{Tree}
use Rattle.await_tree.specs.WaitList.Keys.{AreAlike, AreFired, AreKeysBut, without_all}
use Rattle.await_tree.proofs.WaitListLemmas.Awaited.{fits_out, narrows_out}
use Rattle.await_tree.specs.WaitList.Waiting.{Waiting, all_waiting, keys_among, keys_of, named, tree_keys}
use Rattle.await_tree.specs.WaitList.Edges.{is_edge}
use Rattle.plain_waits.specs.Kept.{names_of, waiting_in, waiting_of}
use Rattle.await_tree.specs.WaitList.Parts.{Fits, Narrows}
use Rattle.plain_waits.specs.Parts.{left_after}
use Rattle.plain_waits.specs.declared.keeper.WaitList.{WaitList}
use Rattle.plain_waits.specs.declared.waiter.Waiter.{Waiter}
use Rattle.await_tree.proofs.WaitListLemmas.Edges.{AreEdged, all_on, shown}
use Rattle.await_tree.proofs.WaitListLemmas.Members.{among_append}
use Rattle.await_tree.proofs.WaitListLemmas.Rekeys.{fits_after, fits_alike, narrows_alike}
use Rattle.plain_waits.proofs.Walks.{after_within, item_one, item_split, left_alike}

-- ---- held keys

pub held_items : (a b : WaitList) → a.held ≡ b.held → a.held.items ≡ b.held.items
held_items a b e = rw e refl

pub fits_on : (a b : Content) (fired old names : List Key) (before now : WaitList) → now.held ≡ before.held → old ≡ before.held.items → Fits a fired old names → Narrows a b names (names_of now)
    → Fits b fired now.held.items (names_of now)
fits_on a b fired old names before now e o f n =
    subst (λ (hs : List Key). Fits b fired hs (names_of now)) (o ∙ sym (held_items now before e)) (fits_after a b fired old names (names_of now) f n)

-- ---- a task names less

left_names : (old new : WaitList) (on : List Awaited) (t : tree.Tree) → on ≡ leaves t → new.held ≡ old.held
    → AreAlike (tree_keys t ++ named (waiting_in new) old.held.items) (names_of old) → AreAlike (keys_among on ++ names_of new) (names_of old)
left_names old new on t o e h k =
    ap (λ (xs : List Awaited). among k (keys_among xs ++ names_of new)) o
    ∙ ap (λ (hs : List Key). among k (tree_keys t ++ named (waiting_in new) hs)) (held_items new old e)
    ∙ h k

pub changed_names : (change : tree.Tree → tree.Tree) → ((t : tree.Tree) → IsWithin (leaves (change t)) (leaves t)) → (old new : WaitList) (at : ℕ) (x : Waiter) (on : List Awaited)
    → at < length old.waiting.items → x ≡ get_or old.waiting.items at x → on ≡ leaves (tree_in x.tree) → new.held ≡ old.held
    → waiting_in new ≡ take at (waiting_in old) ++ (left_after change (take 1 (drop at (waiting_in old))) ++ drop (at + 1) (waiting_in old))
    → AreAlike (keys_among on ++ names_of new) (names_of old)
changed_names change within old new at x on h is o e n =
    left_names old new on (tree_in x.tree) o e
    (left_alike (waiting_in old) (waiting_in new) at (waiting_of x) (left_after change (waiting_of x ∷ [])) old.held.items (item_split old.waiting.items at x h is)
    (n ∙ ap (λ (ws : List Waiting). take at (waiting_in old) ++ (left_after change ws ++ drop (at + 1) (waiting_in old))) (item_one old.waiting.items at x h is))
    (after_within change (waiting_of x) (within (tree_in x.tree))))

pub dropped_names : (old new : WaitList) (at : ℕ) (x : Waiter) (on : List Awaited)
    → at < length old.waiting.items → x ≡ get_or old.waiting.items at x → on ≡ leaves (tree_in x.tree) → new.held ≡ old.held
    → waiting_in new ≡ take at (waiting_in old) ++ drop (at + 1) (waiting_in old) → AreAlike (keys_among on ++ names_of new) (names_of old)
dropped_names old new at x on h is o e n =
    left_names old new on (tree_in x.tree) o e
    (left_alike (waiting_in old) (waiting_in new) at (waiting_of x) [] old.held.items (item_split old.waiting.items at x h is) n (λ k m. absurd (cc)))

pub fits_left : (c : Content) (fired : List Key) (old new : WaitList) (on : List Awaited) → new.held ≡ old.held → AreAlike (keys_among on ++ names_of new) (names_of old)
    → Fits c fired old.held.items (names_of old) → Fits c fired new.held.items (keys_among on ++ names_of new)
fits_left c fired old new on e h f =
    subst (λ (hs : List Key). Fits c fired hs (keys_among on ++ names_of new)) (sym (held_items new old e))
    (fits_alike c fired old.held.items (names_of old) (keys_among on ++ names_of new) (λ k. sym (h k)) f)

pub narrows_left : (a b : Content) (old new : WaitList) (on : List Awaited) → AreAlike (keys_among on ++ names_of new) (names_of old)
    → Narrows a b (keys_among on ++ names_of new) (names_of new) → Narrows a b (names_of old) (names_of new)
narrows_left a b old new on h n = narrows_alike a b (keys_among on ++ names_of new) (names_of old) (names_of new) (names_of new) h (λ k. refl) n

-- ---- a task leaves

pub taken_few : (items left : List Waiter) (at n : ℕ) → left ≡ take at items ++ drop (at + 1) items → length items ≤ n → length left ≤ n
taken_few items left at n e h = let l : length left ≤ length items = ap_few left items at e in omega arith
  where
    shorter : (xs : List Waiter) (i : ℕ) → length (take i xs ++ drop (suc i) xs) ≤ length xs
    shorter [] zero = omega arith
    shorter [] (suc i) = omega arith
    shorter (x ∷ xs) zero = omega arith
    shorter (x ∷ xs) (suc i) = let l : length (take i xs ++ drop (suc i) xs) ≤ length xs = shorter xs i in omega arith

    ap_few : (ys xs : List Waiter) (i : ℕ) → ys ≡ take i xs ++ drop (i + 1) xs → length ys ≤ length xs
    ap_few ys xs i d =
        let s : length (take i xs ++ drop (suc i) xs) ≤ length xs = shorter xs i in
        let j : i + 1 ≡ suc i = omega arith in
        let q : length ys ≡ length (take i xs ++ drop (suc i) xs) = ap length d ∙ ap (λ (m : ℕ). length (take i xs ++ drop m xs)) j in
        omega arith

-- ---- a task begins to wait

pub begun_list : (items mids after : List Waiter) (x : Waiter) (task : TaskNo) (t : Tree) → after ≡ mids ++ x ∷ [] → mids ≡ items → x.task ≡ task → x.tree ≡ t
    → map waiting_of after ≡ map waiting_of items ++ (let w : Waiting = record { task = task; tree = tree_in t } in w) ∷ []
begun_list items mids after x task t e m h d =
    ap (map waiting_of) (e ∙ ap (λ (xs : List Waiter). xs ++ x ∷ []) m)
    ∙ map_push waiting_of items x
    ∙ ap (λ (w : Waiting). map waiting_of items ++ w ∷ []) whole
  where
    whole : waiting_of x ≡ (let w : Waiting = record { task = task; tree = tree_in t } in w)
    whole = rw (h, d) refl

pub begun_few : (items mids after : List Waiter) (x : Waiter) (n : ℕ) → after ≡ mids ++ x ∷ [] → mids ≡ items → length items < n → length after ≤ n
begun_few items mids after x n e m h =
    let l : length after ≡ length items + 1 = ap length (e ∙ ap (λ (xs : List Waiter). xs ++ x ∷ []) m) ∙ push items in
    omega arith
  where
    push : (xs : List Waiter) → length (xs ++ x ∷ []) ≡ length xs + 1
    push [] = omega arith
    push (y ∷ ys) = let l : length (ys ++ x ∷ []) ≡ length ys + 1 = push ys in omega arith

-- ---- keys are served one after the other

pub items_edged : (ws : List Waiter) → AreEdged (map waiting_of ws)
items_edged [] = tt
items_edged (w ∷ ws) = (shown (tree_in w.tree) w.edges, items_edged ws)

pub served_edges : (old new : WaitList) (fired : List Key) → waiting_in new ≡ all_waiting fired (waiting_in old) → (k : Key) → among k fired ≡ true → among k new.held.items ≡ false
    → among k (names_of new) ≡ true → is_edge k ≡ true
served_edges old new fired e k m n h =
    all_on fired (waiting_in old) k (items_edged old.waiting.items) m
    (ap (λ (ws : List Waiting). among k (keys_of ws)) (sym e) ∙ or_no_held (among k (keys_of (waiting_in new))) (sym (among_append k (keys_of (waiting_in new)) new.held.items) ∙ h))
  where
    or_no_held : (x : Bool) → (x || among k new.held.items) ≡ true → x ≡ true
    or_no_held true d = refl
    or_no_held false d = absurd (let z : true ≡ false = sym d ∙ n in cc)

-- ---- the runner holds keys no more

pub waiting_same : (a b : WaitList) → a.waiting ≡ b.waiting → waiting_in a ≡ waiting_in b
waiting_same a b e = rw e refl

pub names_taken : (fired : List Key) (old now : WaitList) → now.held.items ≡ without_all fired old.held.items → now.waiting ≡ old.waiting
    → names_of now ≡ named (waiting_in old) (without_all fired old.held.items)
names_taken fired old now h e =
    ap (λ (ws : List Waiting). named ws now.held.items) (waiting_same now old e) ∙ ap (λ (hs : List Key). named (waiting_in old) hs) h

pub fits_taken : (c : Content) (fired : List Key) (old now : WaitList) → now.held.items ≡ without_all fired old.held.items → now.waiting ≡ old.waiting
    → AreFired c fired → AreKeysBut c.keys (fired ++ old.held.items) (names_of old) → Fits c fired now.held.items (names_of now)
fits_taken c fired old now h e f b =
    subst (λ (ns : List Key). Fits c fired now.held.items ns) (sym (names_taken fired old now h e))
    (subst (λ (hs : List Key). Fits c fired hs (named (waiting_in old) (without_all fired old.held.items))) (sym h) (fits_out c fired old.held.items (waiting_in old) f b))

pub narrows_taken : (a b : Content) (fired : List Key) (old now : WaitList) (new : List Key) → now.held.items ≡ without_all fired old.held.items → now.waiting ≡ old.waiting
    → AreFired a fired → AreKeysBut a.keys (fired ++ old.held.items) (names_of old) → Narrows a b (names_of now) new → Narrows a b (names_of old) new
narrows_taken a b fired old now new h e f k n =
    narrows_out a b fired old.held.items (waiting_in old) new f k (subst (λ (ns : List Key). Narrows a b ns new) (names_taken fired old now h e) n)
