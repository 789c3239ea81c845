-- Keys that are served one after the other, and a task that begins to wait.
use Rattle.std.proofs.Common.{◌≡◌, ◌||◌, Bool, true, false, List, [], ◌∷◌, ◌++◌, refl, sym, ap, ◌∙◌, append_assoc}
use Rattle.std.specs.Prelude.{Result, Ok, Err, OnOk, OnErr}
use Rattle.gpi.specs.Content.{Content}
use Rattle.gpi.specs.Keys.{among}
use Rattle.gpi.specs.declared.types.Key.{Key}
use Rattle.await_tree.specs.Tree.{leaves}
use Rattle.await_tree.specs.declared.cause.Awaited.{Awaited}
use Rattle.await_tree.specs.declared.cause.Cause.TheVariants as cause
use Rattle.await_tree.specs.WaitList.Keys.{AreAlike, KeepsKeys, Rekeyed, without, without_all}
use Rattle.await_tree.specs.WaitList.Waiting.{Waiting, all_waiting, all_woken, keys_among, keys_of, named, still_waiting, tree_keys, woken}
use Rattle.await_tree.specs.declared.wait_list.ready.Entry.{Entry}
use Rattle.await_tree.proofs.WaitListLemmas.Members.{among_append, keys_of_append}
use Rattle.await_tree.proofs.WaitListLemmas.Rekeys.{rekeyed_alike}

-- ---- keys are served one after the other

pub all_both : (xs ys : List Key) (waiting : List Waiting) → all_waiting (xs ++ ys) waiting ≡ all_waiting ys (all_waiting xs waiting)
all_both [] ys waiting = refl
all_both (x ∷ xs) ys waiting = all_both xs ys (still_waiting (cause.Key x) waiting)

pub woken_both : (xs ys : List Key) (waiting : List Waiting) → all_woken (xs ++ ys) waiting ≡ all_woken xs waiting ++ all_woken ys (all_waiting xs waiting)
woken_both [] ys waiting = refl
woken_both (x ∷ xs) ys waiting =
    ap (λ (es : List Entry). woken (cause.Key x) waiting ++ es) (woken_both xs ys (still_waiting (cause.Key x) waiting))
    ∙ sym (append_assoc (woken (cause.Key x) waiting) (all_woken xs (still_waiting (cause.Key x) waiting)) (all_woken ys (all_waiting xs (still_waiting (cause.Key x) waiting))))

pub without_both : (xs ys held : List Key) → without_all (xs ++ ys) held ≡ without_all ys (without_all xs held)
without_both [] ys held = refl
without_both (x ∷ xs) ys held = without_both xs ys (without x held)

-- ---- a task begins to wait

pub begun_rekeyed : (a b : Content) (on : List Awaited) (waiting after : List Waiting) (w : Waiting) (held now : List Key) → on ≡ leaves w.tree → after ≡ waiting ++ w ∷ [] → now ≡ held
    → Rekeyed a b (keys_among on) (named waiting held) (keys_among on ++ named waiting held) → Rekeyed a b (tree_keys w.tree) (named waiting held) (named after now)
begun_rekeyed a b on waiting after w held now o e n h =
    rekeyed_alike a b (keys_among on) (tree_keys w.tree) (named waiting held) (named waiting held) (keys_among on ++ named waiting held) (named after now)
    (λ k. ap (λ (xs : List Awaited). among k (keys_among xs)) o) (λ k. refl) more h
  where
    mixed : (t w h : Bool) → (t || (w || h)) ≡ ((w || (t || false)) || h)
    mixed true true h = refl
    mixed true false h = refl
    mixed false true h = refl
    mixed false false h = refl

    more : AreAlike (keys_among on ++ named waiting held) (named after now)
    more k =
        among_append k (keys_among on) (named waiting held)
        ∙ ap (λ (x : Bool). among k (keys_among on) || x) (among_append k (keys_of waiting) held)
        ∙ mixed (among k (keys_among on)) (among k (keys_of waiting)) (among k held)
        ∙ ap (λ (x : Bool). (among k (keys_of waiting) || (x || false)) || among k held) (ap (λ (xs : List Awaited). among k (keys_among xs)) o)
        ∙ ap (λ (x : Bool). (among k (keys_of waiting) || x) || among k held) (sym (among_append k (tree_keys w.tree) []))
        ∙ ap (λ (x : Bool). x || among k held) (sym (ap (λ (ws : List Waiting). among k (keys_of ws)) e ∙ ap (among k) (keys_of_append waiting (w ∷ [])) ∙ among_append k (keys_of waiting) (tree_keys w.tree ++ [])))
        ∙ sym (among_append k (keys_of after) held)
        ∙ ap (λ (hs : List Key). among k (named after hs)) (sym n)

-- ---- results

pub always_ok : {T E P : Type 0} (r : Result T E) → P → OnOk r P
always_ok (Ok x) p = p
always_ok (Err e) p = tt

pub always_err : {T E P : Type 0} (r : Result T E) → P → OnErr r P
always_err (Ok x) p = tt
always_err (Err e) p = p

pub kept_same : (c : Content) → KeepsKeys c c
kept_same c = record { procs = refl; nets = refl; state = refl; keys = λ k. refl; fired = refl }
