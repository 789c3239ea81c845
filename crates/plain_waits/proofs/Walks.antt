-- Walks over the list of waiting tasks.
use Rattle.std.proofs.Common.{◌≡◌, ◌≤◌, ◌<◌, ℕ, zero, suc, arith, ◌+◌, ◌-◌, ◌||◌, Bool, true, false, if◌then◌else◌, List, [], ◌∷◌, ◌++◌, length, map, take, drop, get_or, set, refl, sym, ap, subst, eq-eqb, eqb-true, ◌==◌, ◌∙◌, append_assoc, append-nil, add-one, length-append, length-drop}
use Rattle.std.proofs.lemmas.List.{drop-map, drop_all, drop_more, drop_at, drop-set-lt, length-map, length-set, length-take-le, map-append, map-set, take-append-drop, take-map, take-set, take_all, take_at}
use Rattle.std.specs.Prelude.{Option, None, Some, filter}
use Rattle.std.specs.List.{list_any}
use Rattle.gpi.specs.Keys.{among}
use Rattle.gpi.specs.declared.types.Key.{Key}
use Rattle.py_value.specs.declared.trigger.LockNo.{LockNo}
use Rattle.py_value.specs.declared.trigger.TaskNo.{TaskNo}
use Rattle.await_tree.specs.Fire.{awaits, fire, grant, is_among}
use Rattle.await_tree.specs.Laws.{IsWithin}
use Rattle.await_tree.specs.Steps.{rest_of, step_of}
use Rattle.await_tree.specs.Tree.{Tree, Over, Leaf, Cycles, First, Combine, Limit, leaves}
use Rattle.await_tree.specs.Whole.{tree_in}
use Rattle.await_tree.specs.declared.cause.Awaited.{Awaited}
use Rattle.await_tree.specs.declared.cause.Awaited.TheVariants as awaited
use Rattle.await_tree.specs.declared.cause.Cause.{Cause}
use Rattle.await_tree.specs.declared.cause.Cause.TheVariants as cause
use Rattle.await_tree.specs.declared.cause.Given.{Given}
use Rattle.await_tree.specs.declared.cause.Step.{Step}
use Rattle.await_tree.specs.declared.cause.Step.TheVariants.{Still, Done}
use Rattle.await_tree.specs.WaitList.Keys.{AreAlike}
use Rattle.await_tree.specs.WaitList.Waiting.{Granted, Waiting, all_waiting, all_woken, entry_of, key_list, granted, is_of, keys_among, keys_of, left_of, named, still_waiting, tree_keys, wants, without_task, woken}
use Rattle.await_tree.specs.declared.wait_list.ready.Entry.{Entry}
use Rattle.plain_waits.specs.Kept.{waiting_of}
use Rattle.await_tree.specs.WaitList.Parts.{AreWithin}
use Rattle.plain_waits.specs.Parts.{Passes, left_after, left_by, woken_after, woken_by}
use Rattle.plain_waits.specs.declared.waiter.Waiter.{Waiter}
use Rattle.await_tree.proofs.WaitListLemmas.Edges.{left_within}
use Rattle.await_tree.proofs.WaitListLemmas.Members.{among_append, among_right, keys_of_append, or_false_left, or_left, or_no, or_right}

-- ---- one task of the list

pub item_front : (items : List Waiter) (at : ℕ) (x : Waiter) → at < length items → x ≡ get_or items at x
    → drop at (map waiting_of items) ≡ waiting_of x ∷ drop (at + 1) (map waiting_of items)
item_front items at x h e =
    drop-map waiting_of at items
    ∙ ap (map waiting_of) (drop_more items at x h)
    ∙ ap (λ (y : Waiter). waiting_of y ∷ map waiting_of (drop (at + 1) items)) (sym e)
    ∙ ap (λ (ws : List Waiting). waiting_of x ∷ ws) (sym (drop-map waiting_of (at + 1) items))

pub item_one : (items : List Waiter) (at : ℕ) (x : Waiter) → at < length items → x ≡ get_or items at x → take 1 (drop at (map waiting_of items)) ≡ waiting_of x ∷ []
item_one items at x h e = ap (λ (ws : List Waiting). take 1 ws) (item_front items at x h e)

pub item_split : (items : List Waiter) (at : ℕ) (x : Waiter) → at < length items → x ≡ get_or items at x
    → map waiting_of items ≡ take at (map waiting_of items) ++ waiting_of x ∷ drop (at + 1) (map waiting_of items)
item_split items at x h e =
    sym (take-append-drop at (map waiting_of items)) ∙ ap (λ (ws : List Waiting). take at (map waiting_of items) ++ ws) (item_front items at x h e)

take_step : (at : ℕ) (ws : List Waiting) → take (suc at) ws ≡ take at ws ++ take 1 (drop at ws)
take_step zero ws = refl
take_step (suc at) [] = refl
take_step (suc at) (w ∷ ws) = ap (λ (xs : List Waiting). w ∷ xs) (take_step at ws)

drop_step : (at : ℕ) (ws : List Waiting) → drop at ws ≡ take 1 (drop at ws) ++ drop (suc at) ws
drop_step zero [] = refl
drop_step zero (w ∷ ws) = refl
drop_step (suc at) [] = refl
drop_step (suc at) (w ∷ ws) = drop_step at ws

-- ---- a walk goes past a task, or the task leaves

pub passes_on : (ws : List Waiting) (at : ℕ) → at < length ws → Passes ws ws at (at + 1) (take 1 (drop at ws))
passes_on ws at h = record { inside = omega arith; front = rw add-one (take_step at ws); back = refl }

pub passes_gone : (ws ns : List Waiting) (at : ℕ) → at < length ws → ns ≡ take at ws ++ drop (at + 1) ws → Passes ws ns at at []
passes_gone ws ns at h e = record {
  inside = (let l : length ns ≡ length (take at ws) + length (drop (at + 1) ws) = ap length e ∙ length-append (take at ws) (drop (at + 1) ws) in
      let n : length (take at ws) ≡ at = short in
      omega arith);
  front = ap (take at) e ∙ take_at (take at ws) (drop (at + 1) ws) at short ∙ sym (append-nil (take at ws));
  back = ap (drop at) e ∙ drop_at (take at ws) (drop (at + 1) ws) at short;
}
  where
    short : length (take at ws) ≡ at
    short = length-take-le at ws (omega arith)

pub mapped : (items left : List Waiter) (at : ℕ) → left ≡ take at items ++ drop (at + 1) items
    → map waiting_of left ≡ take at (map waiting_of items) ++ drop (at + 1) (map waiting_of items)
mapped items left at e =
    ap (map waiting_of) e
    ∙ map-append waiting_of (take at items) (drop (at + 1) items)
    ∙ ap (λ (ws : List Waiting). ws ++ map waiting_of (drop (at + 1) items)) (sym (take-map waiting_of at items))
    ∙ ap (λ (ws : List Waiting). take at (map waiting_of items) ++ ws) (sym (drop-map waiting_of (at + 1) items))

pub passes_out : (items left : List Waiter) (at : ℕ) → at < length items → left ≡ take at items ++ drop (at + 1) items
    → Passes (map waiting_of items) (map waiting_of left) at at []
passes_out items left at h e =
    passes_gone (map waiting_of items) (map waiting_of left) at (let n : length (map waiting_of items) ≡ length items = length-map items waiting_of in omega arith)
    (mapped items left at e)

pub passes_list : (before after : List Waiting) (at next : ℕ) (left : List Waiting) → Passes before after at next left → after ≡ take at before ++ (left ++ drop (at + 1) before)
passes_list before after at next left p =
    sym (take-append-drop next after)
    ∙ ap (λ (ws : List Waiting). ws ++ drop next after) p.front
    ∙ ap (λ (ws : List Waiting). (take at before ++ left) ++ ws) p.back
    ∙ append_assoc (take at before) left (drop (at + 1) before)

-- ---- what has become of a tree

left_rest : (task : TaskNo) (t : Tree) → left_by (step_of t) ((let w : Waiting = record { task = task; tree = rest_of t } in w) ∷ []) ≡ left_of task t (step_of t) ++ []
left_rest task (Over f) = refl
left_rest task (Leaf on trig) = refl
left_rest task (Cycles key left trig) = refl
left_rest task (First ts) = refl
left_rest task (Combine trig ts) = refl
left_rest task (Limit due t) = refl

woken_rest : (task : TaskNo) (t : Tree) → woken_by (step_of t) ((let w : Waiting = record { task = task; tree = rest_of t } in w) ∷ []) ≡ entry_of task (step_of t) ++ []
woken_rest task (Over f) = refl
woken_rest task (Leaf on trig) = refl
woken_rest task (Cycles key left trig) = refl
woken_rest task (First ts) = refl
woken_rest task (Combine trig ts) = refl
woken_rest task (Limit due t) = refl

module _ (change : Tree → Tree) (items mids : List Waiter) (at : ℕ) (x y : Waiter) (step : Step) (h : at < length items) (is : x ≡ get_or items at x) (m : mids ≡ set items at y)
    (task : y.task ≡ x.task) (answer : step ≡ step_of (change (tree_in x.tree))) (rest : tree_in y.tree ≡ rest_of (change (tree_in x.tree))) where
  changed : waiting_of y ≡ (let w : Waiting = record { task = x.task; tree = rest_of (change (tree_in x.tree)) } in w)
  changed = rw (task, rest) refl

  set_is : map waiting_of mids ≡ set (map waiting_of items) at (waiting_of y)
  set_is = ap (map waiting_of) m ∙ map-set waiting_of items at y

  mid_one : take 1 (drop at (map waiting_of mids)) ≡ waiting_of y ∷ []
  mid_one = ap (λ (ws : List Waiting). take 1 (drop at ws)) set_is ∙ at_set (map waiting_of items) at (let n : length (map waiting_of items) ≡ length items = length-map items waiting_of in omega arith)
    where
      at_set : (ws : List Waiting) (i : ℕ) → i < length ws → take 1 (drop i (set ws i (waiting_of y))) ≡ waiting_of y ∷ []
      at_set [] i l = absurd (omega arith)
      at_set (w ∷ ws) zero l = refl
      at_set (w ∷ ws) (suc i) l = at_set ws i (omega arith)

  pub changed_left : left_by step (take 1 (drop at (map waiting_of mids))) ≡ left_after change (take 1 (drop at (map waiting_of items)))
  changed_left =
      ap (left_by step) mid_one
      ∙ ap (λ (s : Step). left_by s (waiting_of y ∷ [])) answer
      ∙ ap (λ (w : Waiting). left_by (step_of (change (tree_in x.tree))) (w ∷ [])) changed
      ∙ left_rest x.task (change (tree_in x.tree))
      ∙ ap (left_after change) (sym (item_one items at x h is))

  pub changed_woken : woken_by step (take 1 (drop at (map waiting_of mids))) ≡ woken_after change (take 1 (drop at (map waiting_of items)))
  changed_woken =
      ap (woken_by step) mid_one
      ∙ ap (λ (s : Step). woken_by s (waiting_of y ∷ [])) answer
      ∙ ap (λ (w : Waiting). woken_by (step_of (change (tree_in x.tree))) (w ∷ [])) changed
      ∙ woken_rest x.task (change (tree_in x.tree))
      ∙ ap (woken_after change) (sym (item_one items at x h is))

  pub changed_passes : (after : List Waiting) (next : ℕ) → Passes (map waiting_of mids) after at next (left_by step (take 1 (drop at (map waiting_of mids))))
      → Passes (map waiting_of items) after at next (left_after change (take 1 (drop at (map waiting_of items))))
  changed_passes after next p = record {
    inside = p.inside;
    front = p.front ∙ ap (λ (ws : List Waiting). ws ++ left_by step (take 1 (drop at (map waiting_of mids)))) (ap (take at) set_is ∙ take-set (map waiting_of items) at (waiting_of y))
        ∙ ap (λ (ws : List Waiting). take at (map waiting_of items) ++ ws) changed_left;
    back = p.back ∙ ap (drop (at + 1)) set_is ∙ drop-set-lt (at + 1) (map waiting_of items) at (waiting_of y) (omega arith);
  }

pub set_few : (items mids : List Waiter) (at n : ℕ) (y : Waiter) → mids ≡ set items at y → length items ≤ n → length mids ≤ n
set_few items mids at n y m h = let l : length mids ≡ length items = ap length m ∙ length-set items at y in omega arith

-- whether one of the tasks from a place on waits for a key
pub waited_back : (k : Key) (items : List Waiter) (at later : ℕ) (x : Waiter) (has found : Bool) (on : List Awaited) → at < length items → x ≡ get_or items at x → later ≡ at + 1
    → on ≡ leaves (tree_in x.tree) → has ≡ among k (keys_among on) → found ≡ among k (keys_of (drop later (map waiting_of items)))
    → (has || found) ≡ among k (keys_of (drop at (map waiting_of items)))
waited_back k items at later x has found on h e l o p q =
    ap (λ (b : Bool). b || found) (p ∙ ap (λ (ws : List Awaited). among k (keys_among ws)) o)
    ∙ ap (λ (b : Bool). among k (tree_keys (tree_in x.tree)) || b) (q ∙ ap (λ (i : ℕ). among k (keys_of (drop i (map waiting_of items)))) l)
    ∙ sym (among_append k (tree_keys (tree_in x.tree)) (keys_of (drop (at + 1) (map waiting_of items))))
    ∙ ap (λ (ws : List Waiting). among k (keys_of ws)) (sym (item_front items at x h e))

-- one of the tasks from a place on is one of all
pub waited_from : (k : Key) (at : ℕ) (ws : List Waiting) → among k (keys_of (drop at ws)) ≡ true → among k (keys_of ws) ≡ true
waited_from k zero [] h = h
waited_from k zero (w ∷ ws) h = h
waited_from k (suc at) [] h = h
waited_from k (suc at) (w ∷ ws) h = among_right k (tree_keys w.tree) (keys_of ws) (waited_from k at ws h)

-- ---- the keys that a task named

-- of the keys that the task at a place named those that are left, and those of the others
swapped : (a t l b h : Bool) → (l ≡ true → t ≡ true) → (t || ((a || (l || b)) || h)) ≡ ((a || (t || b)) || h)
swapped true true l b h e = refl
swapped true false true b h e = absurd (let z = e refl in cc)
swapped true false false b h e = refl
swapped false true l b h e = refl
swapped false false true b h e = absurd (let z = e refl in cc)
swapped false false false b h e = refl

pub left_alike : (ws ns : List Waiting) (at : ℕ) (w : Waiting) (left : List Waiting) (held : List Key) → ws ≡ take at ws ++ w ∷ drop (at + 1) ws
    → ns ≡ take at ws ++ (left ++ drop (at + 1) ws) → AreWithin (keys_of left) (tree_keys w.tree) → AreAlike (tree_keys w.tree ++ named ns held) (named ws held)
left_alike ws ns at w left held e n h = λ (k : Key).
    among_append k (tree_keys w.tree) (named ns held)
    ∙ ap (λ (b : Bool). among k (tree_keys w.tree) || b) (among_append k (keys_of ns) held ∙ ap (λ (b : Bool). b || among k held) (new_keys k))
    ∙ swapped (among k (keys_of (take at ws))) (among k (tree_keys w.tree)) (among k (keys_of left)) (among k (keys_of (drop (at + 1) ws))) (among k held) (h k)
    ∙ ap (λ (b : Bool). b || among k held) (sym (old_keys k))
    ∙ sym (among_append k (keys_of ws) held)
  where
    new_keys : (k : Key) → among k (keys_of ns) ≡ (among k (keys_of (take at ws)) || (among k (keys_of left) || among k (keys_of (drop (at + 1) ws))))
    new_keys k =
        ap (λ (xs : List Waiting). among k (keys_of xs)) n
        ∙ ap (among k) (keys_of_append (take at ws) (left ++ drop (at + 1) ws))
        ∙ among_append k (keys_of (take at ws)) (keys_of (left ++ drop (at + 1) ws))
        ∙ ap (λ (b : Bool). among k (keys_of (take at ws)) || b) (ap (among k) (keys_of_append left (drop (at + 1) ws)) ∙ among_append k (keys_of left) (keys_of (drop (at + 1) ws)))

    old_keys : (k : Key) → among k (keys_of ws) ≡ (among k (keys_of (take at ws)) || (among k (tree_keys w.tree) || among k (keys_of (drop (at + 1) ws))))
    old_keys k =
        ap (λ (xs : List Waiting). among k (keys_of xs)) e
        ∙ ap (among k) (keys_of_append (take at ws) (w ∷ drop (at + 1) ws))
        ∙ among_append k (keys_of (take at ws)) (tree_keys w.tree ++ keys_of (drop (at + 1) ws))
        ∙ ap (λ (b : Bool). among k (keys_of (take at ws)) || b) (among_append k (tree_keys w.tree) (keys_of (drop (at + 1) ws)))

pub after_within : (change : Tree → Tree) (w : Waiting) → IsWithin (leaves (change w.tree)) (leaves w.tree) → AreWithin (keys_of (left_after change (w ∷ []))) (tree_keys w.tree)
after_within change w h =
    rw (append-nil (left_of w.task (change w.tree) (step_of (change w.tree)))) (left_within w.task w.tree (change w.tree) (step_of (change w.tree)) h)

-- ---- the end of a walk

-- what a walk leaves of a list, task by task
pub record IsEach (F : List Waiting → List Waiting) : Type 0 where
  pub none : F [] ≡ []
  pub more : (w : Waiting) (ws : List Waiting) → F (w ∷ ws) ≡ F (w ∷ []) ++ F ws

each_step : (F : List Waiting → List Waiting) → IsEach F → (at : ℕ) (ws : List Waiting) → F (drop at ws) ≡ F (take 1 (drop at ws)) ++ F (drop (suc at) ws)
each_step F e zero [] = rw e.none refl
each_step F e zero (w ∷ ws) = e.more w ws
each_step F e (suc at) [] = rw e.none refl
each_step F e (suc at) (w ∷ ws) = each_step F e at ws

pub walked : (F : List Waiting → List Waiting) → IsEach F → (before after all : List Waiting) (at next : ℕ) (left : List Waiting)
    → Passes before after at next left → left ≡ F (take 1 (drop at before)) → take at before ++ F (drop at before) ≡ all → take next after ++ F (drop next after) ≡ all
walked F e before after all at next left p l h =
    ap (λ (ws : List Waiting). ws ++ F (drop next after)) p.front
    ∙ ap (λ (ws : List Waiting). (take at before ++ left) ++ F ws) p.back
    ∙ append_assoc (take at before) left (F (drop (at + 1) before))
    ∙ ap (λ (ws : List Waiting). take at before ++ (ws ++ F (drop (at + 1) before))) l
    ∙ ap (λ (i : ℕ). take at before ++ (F (take 1 (drop at before)) ++ F (drop i before))) (add-one at)
    ∙ ap (λ (ws : List Waiting). take at before ++ ws) (sym (each_step F e at before))
    ∙ h

pub walked_all : (F : List Waiting → List Waiting) → IsEach F → (ws all : List Waiting) (at : ℕ) → length ws ≤ at → take at ws ++ F (drop at ws) ≡ all → ws ≡ all
walked_all F e ws all at h w =
    sym (ap (λ (xs : List Waiting). xs ++ F (drop at ws)) (take_all at ws h) ∙ ap (λ (xs : List Waiting). ws ++ F xs) (none ws at h) ∙ ap (λ (xs : List Waiting). ws ++ xs) e.none ∙ append-nil ws) ∙ w
  where
    none : (xs : List Waiting) (i : ℕ) → length xs ≤ i → drop i xs ≡ []
    none [] zero l = refl
    none [] (suc i) l = refl
    none (x ∷ xs) zero l = absurd (omega arith)
    none (x ∷ xs) (suc i) l = none xs i (omega arith)

pub walk_falls : (before after : List Waiting) (at next : ℕ) (left : List Waiting) → Passes before after at next left → at < length before → length after - next < length before - at
walk_falls before after at next left p h = omega (arith, drop_few before (at + 1), drop_few after next, ap length p.back)
  where
    drop_few : (ws : List Waiting) (i : ℕ) → length (drop i ws) ≡ length ws - i
    drop_few [] zero = omega arith
    drop_few [] (suc i) = omega arith
    drop_few (w ∷ ws) zero = omega arith
    drop_few (w ∷ ws) (suc i) = let l : length (drop i ws) ≡ length ws - i = drop_few ws i in omega arith

-- those who wait still, and who is woken
pub each_left : (change : Tree → Tree) → IsEach (left_after change)
each_left change = record { none = refl; more = λ w ws. ap (λ (xs : List Waiting). xs ++ left_after change ws) (sym (append-nil (left_of w.task (change w.tree) (step_of (change w.tree))))) }

pub left_still : (c : Cause) (ws : List Waiting) → left_after (fire c) ws ≡ still_waiting c ws
left_still c [] = refl
left_still c (w ∷ ws) = ap (λ (xs : List Waiting). left_of w.task (fire c w.tree) (step_of (fire c w.tree)) ++ xs) (left_still c ws)

pub woken_still : (c : Cause) (ws : List Waiting) → woken_after (fire c) ws ≡ woken c ws
woken_still c [] = refl
woken_still c (w ∷ ws) = ap (λ (xs : List Entry). entry_of w.task (step_of (fire c w.tree)) ++ xs) (woken_still c ws)

woken_step : (change : Tree → Tree) (at : ℕ) (ws : List Waiting) → woken_after change (drop at ws) ≡ woken_after change (take 1 (drop at ws)) ++ woken_after change (drop (suc at) ws)
woken_step change zero [] = refl
woken_step change zero (w ∷ ws) = ap (λ (xs : List Entry). xs ++ woken_after change ws) (sym (append-nil (entry_of w.task (step_of (change w.tree)))))
woken_step change (suc at) [] = refl
woken_step change (suc at) (w ∷ ws) = woken_step change at ws

-- who is woken goes into the ring
pub woken_walked : (change : Tree → Tree) (before after left : List Waiting) (at next : ℕ) (es fs all : List Entry) → Passes before after at next left
    → fs ≡ es ++ woken_after change (take 1 (drop at before)) → es ++ woken_after change (drop at before) ≡ all → fs ++ woken_after change (drop next after) ≡ all
woken_walked change before after left at next es fs all p f h =
    ap (λ (xs : List Entry). xs ++ woken_after change (drop next after)) f
    ∙ ap (λ (ws : List Waiting). (es ++ woken_after change (take 1 (drop at before))) ++ woken_after change ws) p.back
    ∙ append_assoc es (woken_after change (take 1 (drop at before))) (woken_after change (drop (at + 1) before))
    ∙ ap (λ (i : ℕ). es ++ (woken_after change (take 1 (drop at before)) ++ woken_after change (drop i before))) (add-one at)
    ∙ ap (λ (xs : List Entry). es ++ xs) (sym (woken_step change at before))
    ∙ h

one_entry : (task : TaskNo) (step : Step) → length (entry_of task step) ≤ 1
one_entry task Still = omega arith
one_entry task (Done given) = omega arith

woken_few : (change : Tree → Tree) (ws : List Waiting) → length (woken_after change ws) ≤ length ws
woken_few change [] = omega arith
woken_few change (w ∷ ws) =
    let a : length (woken_after change (w ∷ ws)) ≡ length (entry_of w.task (step_of (change w.tree))) + length (woken_after change ws)
    = length-append (entry_of w.task (step_of (change w.tree))) (woken_after change ws) in
    let b : length (entry_of w.task (step_of (change w.tree))) ≤ 1 = one_entry w.task (step_of (change w.tree)) in
    let c : length (woken_after change ws) ≤ length ws = woken_few change ws in
    omega arith

-- the ring has room on
pub room_walked : (change : Tree → Tree) (before after left : List Waiting) (at next room : ℕ) (es fs : List Entry) → Passes before after at next left
    → fs ≡ es ++ woken_after change (take 1 (drop at before)) → length es + length (drop at before) ≤ room → length fs + length (drop next after) ≤ room
room_walked change before after left at next room es fs p f h =
    let a : length fs ≡ length es + length (woken_after change (take 1 (drop at before))) = ap length f ∙ length-append es (woken_after change (take 1 (drop at before))) in
    let b : length (woken_after change (take 1 (drop at before))) ≤ length (take 1 (drop at before)) = woken_few change (take 1 (drop at before)) in
    let c : length (drop at before) ≡ length (take 1 (drop at before)) + length (drop (suc at) before)
    = ap length (drop_step at before) ∙ length-append (take 1 (drop at before)) (drop (suc at) before) in
    let d : length (drop next after) ≡ length (drop (suc at) before) = ap length p.back ∙ ap (λ (i : ℕ). length (drop i before)) (add-one at) in
    omega arith

-- ---- a task is dropped

pub each_without : (task : TaskNo) → IsEach (without_task task)
each_without task = record { none = refl; more = λ w ws. decided w ws (is_of task w) refl }
  where
    decided : (w : Waiting) (ws : List Waiting) (b : Bool) → is_of task w ≡ b → without_task task (w ∷ ws) ≡ without_task task (w ∷ []) ++ without_task task ws
    decided w ws true e = rw e refl
    decided w ws false e = rw e refl

not_same : (a b : ℕ) → (a ≡ b → ⊥) → (a == b) ≡ false
not_same a b h = decided (a == b) refl
  where
    decided : (x : Bool) → (a == b) ≡ x → (a == b) ≡ false
    decided true e = absurd (h (eqb-true a b e))
    decided false e = e

without_other : (task : TaskNo) (w : Waiting) → is_of task w ≡ false → without_task task (w ∷ []) ≡ w ∷ []
without_other task w h = rw h refl

-- ---- a lock is handed to a task

pub granted_at : (lock : LockNo) (ws : List Waiting) (at : ℕ) → list_any (λ (w : Waiting). awaits (awaited.Lock lock) w.tree) (take at ws) ≡ false
    → list_any (λ (w : Waiting). awaits (awaited.Lock lock) w.tree) (take 1 (drop at ws)) ≡ true
    → granted lock ws ≡ (let g : Granted = record {
      entries = woken_after (grant lock) (take 1 (drop at ws));
      waiting = take at ws ++ (left_after (grant lock) (take 1 (drop at ws)) ++ drop (suc at) ws);
    } in g)
granted_at lock [] zero b t = absurd (cc)
granted_at lock [] (suc at) b t = absurd (cc)
granted_at lock (w ∷ ws) zero b t =
    rw (sym (or_no (wants lock w.tree)) ∙ t, append-nil (entry_of w.task (step_of (grant lock w.tree))), append-nil (left_of w.task (grant lock w.tree) (step_of (grant lock w.tree)))) refl
granted_at lock (w ∷ ws) (suc at) b t =
    let n : wants lock w.tree ≡ false = or_false_left (wants lock w.tree) (list_any (λ (x : Waiting). awaits (awaited.Lock lock) x.tree) (take at ws)) b in
    let m : list_any (λ (x : Waiting). awaits (awaited.Lock lock) x.tree) (take at ws) ≡ false = sym (ap (λ (c : Bool). c || list_any (λ (x : Waiting). awaits (awaited.Lock lock) x.tree) (take at ws)) n) ∙ b in
    rw (n, granted_at lock ws at m t) refl

pub granted_none : (lock : LockNo) (ws : List Waiting) → list_any (λ (w : Waiting). awaits (awaited.Lock lock) w.tree) ws ≡ false
    → granted lock ws ≡ (let g : Granted = record { entries = []; waiting = ws } in g)
granted_none lock [] b = refl
granted_none lock (w ∷ ws) b =
    let n : wants lock w.tree ≡ false = or_false_left (wants lock w.tree) (list_any (λ (x : Waiting). awaits (awaited.Lock lock) x.tree) ws) b in
    let m : list_any (λ (x : Waiting). awaits (awaited.Lock lock) x.tree) ws ≡ false = sym (ap (λ (c : Bool). c || list_any (λ (x : Waiting). awaits (awaited.Lock lock) x.tree) ws) n) ∙ b in
    rw (n, granted_none lock ws m) refl

-- one at a place is one of the list
pub any_at : (p : Waiting → Bool) (ws : List Waiting) (at : ℕ) → list_any p (take 1 (drop at ws)) ≡ true → list_any p ws ≡ true
any_at p [] zero h = h
any_at p [] (suc at) h = h
any_at p (w ∷ ws) zero h = or_left (p w) (list_any p ws) (sym (or_no (p w)) ∙ h)
any_at p (w ∷ ws) (suc at) h = or_right (p w) (list_any p ws) (any_at p ws at h)

-- ---- how many

filter_few : (p : Waiting → Bool) (ws : List Waiting) → length (filter p ws) ≤ length ws
filter_few p [] = omega arith
filter_few p (w ∷ ws) = decided (p w) refl (filter_few p ws)
  where
    decided : (b : Bool) → p w ≡ b → length (filter p ws) ≤ length ws → length (filter p (w ∷ ws)) ≤ length (w ∷ ws)
    decided true e l = rw e (omega arith)
    decided false e l = rw e (omega arith)

pub filter_more : (p : Waiting → Bool) (w : Waiting) (ws : List Waiting) → length (filter p (w ∷ ws)) ≡ (if p w then length (filter p ws) + 1 else length (filter p ws))
filter_more p w ws = decided (p w) refl
  where
    decided : (b : Bool) → p w ≡ b → length (filter p (w ∷ ws)) ≡ (if p w then length (filter p ws) + 1 else length (filter p ws))
    decided true e = rw e (omega arith)
    decided false e = rw e refl

-- how many of the tasks from a place on have a leaf on this
pub reached_few : (on : Awaited) (items : List Waiter) (at later n count : ℕ) → length items ≤ n → at < length items → later ≡ at + 1
    → count ≡ length (filter (λ (w : Waiting). awaits on w.tree) (drop later (map waiting_of items))) → count < n
reached_few on items at later n count l h e c =
    let f : length (filter (λ (w : Waiting). awaits on w.tree) (drop later (map waiting_of items))) ≤ length (drop later (map waiting_of items))
    = filter_few (λ (w : Waiting). awaits on w.tree) (drop later (map waiting_of items)) in
    let d : length (drop later (map waiting_of items)) ≡ length (map waiting_of items) - later = length-drop later (map waiting_of items) in
    let m : length (map waiting_of items) ≡ length items = length-map items waiting_of in
    omega arith

pub reached_back : (on : Awaited) (items : List Waiter) (at later : ℕ) (x : Waiter) (has : Bool) (count : ℕ) (seen : List Awaited) → at < length items → x ≡ get_or items at x
    → later ≡ at + 1 → seen ≡ leaves (tree_in x.tree) → has ≡ is_among on seen
    → count ≡ length (filter (λ (w : Waiting). awaits on w.tree) (drop later (map waiting_of items)))
    → (if has then count + 1 else count) ≡ length (filter (λ (w : Waiting). awaits on w.tree) (drop at (map waiting_of items)))
reached_back on items at later x has count seen h e l s a c =
    ap (λ (b : Bool). let n : ℕ = if b then count + 1 else count in n) (a ∙ ap (is_among on) s)
    ∙ ap (λ (m : ℕ). let n : ℕ = if is_among on (leaves (tree_in x.tree)) then m + 1 else m in n)
    (c ∙ ap (λ (i : ℕ). length (filter (λ (w : Waiting). awaits on w.tree) (drop i (map waiting_of items)))) l)
    ∙ sym (filter_more (λ (w : Waiting). awaits on w.tree) (waiting_of x) (drop (at + 1) (map waiting_of items)))
    ∙ ap (λ (ws : List Waiting). length (filter (λ (w : Waiting). awaits on w.tree) ws)) (sym (item_front items at x h e))

any_append : (p : Waiting → Bool) (xs ys : List Waiting) → list_any p (xs ++ ys) ≡ (list_any p xs || list_any p ys)
any_append p [] ys = refl
any_append p (x ∷ xs) ys = decided (p x) (any_append p xs ys)
  where
    decided : (b : Bool) → list_any p (xs ++ ys) ≡ (list_any p xs || list_any p ys) → (b || list_any p (xs ++ ys)) ≡ ((b || list_any p xs) || list_any p ys)
    decided true h = refl
    decided false h = h

pub any_here : (on : Awaited) (items : List Waiter) (at : ℕ) (x : Waiter) (has : Bool) (seen : List Awaited) → at < length items → x ≡ get_or items at x
    → seen ≡ leaves (tree_in x.tree) → has ≡ is_among on seen → list_any (λ (w : Waiting). awaits on w.tree) (take 1 (drop at (map waiting_of items))) ≡ has
any_here on items at x has seen h e s a =
    ap (list_any (λ (w : Waiting). awaits on w.tree)) (item_one items at x h e)
    ∙ or_no (is_among on (leaves (tree_in x.tree)))
    ∙ sym (a ∙ ap (is_among on) s)

pub any_more : (p : Waiting → Bool) (ws : List Waiting) (at : ℕ) → list_any p (take at ws) ≡ false → list_any p (take 1 (drop at ws)) ≡ false → list_any p (take (at + 1) ws) ≡ false
any_more p ws at h e =
    ap (λ (i : ℕ). list_any p (take i ws)) (add-one at)
    ∙ ap (list_any p) (take_step at ws)
    ∙ any_append p (take at ws) (take 1 (drop at ws))
    ∙ ap (λ (b : Bool). b || list_any p (take 1 (drop at ws))) h
    ∙ e

-- ---- the answers of a step

pub settled_on : (items : List Waiter) (ws : List Waiting) (at : ℕ) (step : Step) → step ≡ Still → at < length items → ws ≡ map waiting_of items
    → Passes ws ws at (at + 1) (left_by step (take 1 (drop at ws)))
settled_on items ws at step e h m = rw e (passes_on ws at (let n : length ws ≡ length items = ap length m ∙ length-map items waiting_of in omega arith))

pub settled_none : (step : Step) (ws : List Waiting) (es : List Entry) → step ≡ Still → es ≡ es ++ woken_by step ws
settled_none step ws es e = rw e (sym (append-nil es))

pub settled_out : (items left : List Waiter) (at : ℕ) (step : Step) (given : Given) → step ≡ Done given → at < length items → left ≡ take at items ++ drop (at + 1) items
    → Passes (map waiting_of items) (map waiting_of left) at at (left_by step (take 1 (drop at (map waiting_of items))))
settled_out items left at step given e h l = rw e (passes_out items left at h l)

pub settled_given : (items : List Waiter) (at : ℕ) (x : Waiter) (step : Step) (given : Given) (es fs : List Entry) → step ≡ Done given → at < length items → x ≡ get_or items at x
    → fs ≡ es ++ (let y : Entry = record { task = x.task; given = given } in y) ∷ [] → fs ≡ es ++ woken_by step (take 1 (drop at (map waiting_of items)))
settled_given items at x step given es fs e h is f = f ∙ ap (λ (ys : List Entry). es ++ ys) (sym (ap (λ (s : Step). woken_by s (take 1 (drop at (map waiting_of items)))) e ∙ ap (woken_by (Done given)) (item_one items at x h is)))

pub room_here : (ws : List Waiting) (at n room : ℕ) → at < length ws → n + length (drop at ws) ≤ room → n < room
room_here ws at n room h r = let l : length (drop at ws) ≡ length ws - at = length-drop at ws in omega arith

pub woken_all : (change : Tree → Tree) (ws : List Waiting) (at : ℕ) (es all : List Entry) → length ws ≤ at → es ++ woken_after change (drop at ws) ≡ all → es ≡ all
woken_all change ws at es all h e = sym (append-nil es) ∙ ap (λ (xs : List Waiting). es ++ woken_after change xs) (sym (drop_all at ws h)) ∙ e

pub some_list : (o : Option Key) (k : Key) → o ≡ Some k → key_list o ≡ k ∷ []
some_list o k e = rw e refl

pub none_list : (o : Option Key) → o ≡ None → key_list o ≡ []
none_list o e = rw e refl

still_few : (c : Cause) (ws : List Waiting) → length (woken c ws) + length (still_waiting c ws) ≤ length ws
still_few c [] = omega arith
still_few c (w ∷ ws) =
    let a : length (woken c (w ∷ ws)) ≡ length (entry_of w.task (step_of (fire c w.tree))) + length (woken c ws) = length-append (entry_of w.task (step_of (fire c w.tree))) (woken c ws) in
    let b : length (still_waiting c (w ∷ ws)) ≡ length (left_of w.task (fire c w.tree) (step_of (fire c w.tree))) + length (still_waiting c ws)
    = length-append (left_of w.task (fire c w.tree) (step_of (fire c w.tree))) (still_waiting c ws) in
    let d : length (entry_of w.task (step_of (fire c w.tree))) + length (left_of w.task (fire c w.tree) (step_of (fire c w.tree))) ≤ 1 = one_of w.task (fire c w.tree) (step_of (fire c w.tree)) in
    let r : length (woken c ws) + length (still_waiting c ws) ≤ length ws = still_few c ws in
    omega arith
  where
    one_of : (task : TaskNo) (t : Tree) (step : Step) → length (entry_of task step) + length (left_of task t step) ≤ 1
    one_of task t Still = omega arith
    one_of task t (Done given) = omega arith

all_few : (ks : List Key) (ws : List Waiting) → length (all_woken ks ws) + length (all_waiting ks ws) ≤ length ws
all_few [] ws = omega arith
all_few (k ∷ ks) ws =
    let a : length (all_woken (k ∷ ks) ws) ≡ length (woken (cause.Key k) ws) + length (all_woken ks (still_waiting (cause.Key k) ws)) = length-append (woken (cause.Key k) ws) (all_woken ks (still_waiting (cause.Key k) ws)) in
    let b : length (woken (cause.Key k) ws) + length (still_waiting (cause.Key k) ws) ≤ length ws = still_few (cause.Key k) ws in
    let d : length (all_woken ks (still_waiting (cause.Key k) ws)) + length (all_waiting ks (still_waiting (cause.Key k) ws)) ≤ length (still_waiting (cause.Key k) ws) = all_few ks (still_waiting (cause.Key k) ws) in
    omega arith

pub served_room : (ks : List Key) (ws : List Waiting) (es fs : List Entry) (after : List Waiting) (room now : ℕ) → after ≡ all_waiting ks ws → fs ≡ es ++ all_woken ks ws → now ≡ room
    → length es + length ws ≤ room → length fs + length after ≤ now
served_room ks ws es fs after room now a f n r =
    let x : length after ≡ length (all_waiting ks ws) = ap length a in
    let y : length fs ≡ length es + length (all_woken ks ws) = ap length f ∙ length-append es (all_woken ks ws) in
    let z : length (all_woken ks ws) + length (all_waiting ks ws) ≤ length ws = all_few ks ws in
    omega arith

pub dropped_one : (items left : List Waiter) (n : ℕ) → 0 < n → n ≡ length items → map waiting_of left ≡ take (n - 1) (map waiting_of items) ++ drop ((n - 1) + 1) (map waiting_of items) → n - 1 ≡ length left
dropped_one items left n h e m =
    let a : length (map waiting_of left) ≡ length left = length-map left waiting_of in
    let b : length (map waiting_of items) ≡ length items = length-map items waiting_of in
    let s : length (take (n - 1) (map waiting_of items)) ≡ n - 1 = length-take-le (n - 1) (map waiting_of items) (omega arith) in
    let t : length (drop ((n - 1) + 1) (map waiting_of items)) ≡ length (map waiting_of items) - ((n - 1) + 1) = length-drop ((n - 1) + 1) (map waiting_of items) in
    let l : length (map waiting_of left) ≡ length (take (n - 1) (map waiting_of items)) + length (drop ((n - 1) + 1) (map waiting_of items))
    = ap length m ∙ length-append (take (n - 1) (map waiting_of items)) (drop ((n - 1) + 1) (map waiting_of items)) in
    omega arith

pub all_dropped : (items : List Waiter) (n : ℕ) → n ≤ 0 → n ≡ length items → map waiting_of items ≡ []
all_dropped [] n h e = refl
all_dropped (x ∷ xs) n h e = absurd (omega arith)

pub granted_here : (lock : LockNo) (ws : List Waiting) (at : ℕ) → list_any (λ (w : Waiting). awaits (awaited.Lock lock) w.tree) (take at ws) ≡ false
    → list_any (λ (w : Waiting). awaits (awaited.Lock lock) w.tree) (take 1 (drop at ws)) ≡ true
    → granted lock ws ≡ (let g : Granted = record {
      entries = woken_after (grant lock) (take 1 (drop at ws));
      waiting = take at ws ++ (left_after (grant lock) (take 1 (drop at ws)) ++ drop (at + 1) ws);
    } in g)
granted_here lock ws at b t = rw add-one (granted_at lock ws at b t)

pub none_there : (p : Waiting → Bool) (ws : List Waiting) (at : ℕ) → length ws ≤ at → list_any p (take at ws) ≡ false → list_any p ws ≡ false
none_there p ws at h e = ap (list_any p) (sym (take_all at ws h)) ∙ e

pub passes_own : (items : List Waiter) (ns : List Waiting) (at : ℕ) (x : Waiter) (task : TaskNo) → at < length items → x ≡ get_or items at x → x.task.0 ≡ task.0
    → ns ≡ take at (map waiting_of items) ++ drop (at + 1) (map waiting_of items) → Passes (map waiting_of items) ns at at (without_task task (take 1 (drop at (map waiting_of items))))
passes_own items ns at x task h is e n =
    rw (item_one items at x h is, eq-eqb x.task.0 task.0 e) (passes_gone (map waiting_of items) ns at (let l : length (map waiting_of items) ≡ length items = length-map items waiting_of in omega arith) n)

pub passes_other : (items : List Waiter) (at : ℕ) (x : Waiter) (task : TaskNo) → at < length items → x ≡ get_or items at x → (x.task.0 ≡ task.0 → ⊥)
    → Passes (map waiting_of items) (map waiting_of items) at (at + 1) (without_task task (take 1 (drop at (map waiting_of items))))
passes_other items at x task h is e =
    subst (λ (ws : List Waiting). Passes (map waiting_of items) (map waiting_of items) at (at + 1) ws)
    (sym (ap (without_task task) (item_one items at x h is) ∙ without_other task (waiting_of x) (not_same x.task.0 task.0 e) ∙ sym (item_one items at x h is)))
    (passes_on (map waiting_of items) at (let l : length (map waiting_of items) ≡ length items = length-map items waiting_of in omega arith))
