-- How the waiters of tasks stand for the waiting leaves of their trees, and which keys the records name then.
use Rattle.std.proofs.Common.{◌≡◌, ◌≢◌, ℕ, Bool, true, false, cond, ◌||◌, ◌&&◌, not, List, [], ◌∷◌, ◌++◌, filter, Option, Some, None, get_or, refl, sym, ap, ◌∙◌, subst, inl, inr, ◌==◌, eq-eqb, ne_eqb, eqb-true}
use Rattle.std.proofs.lemmas.Bool.{cases_eq, cond-true, cond-false, or_cases, and_from, false≢true, not-true, not_from_false}
use Rattle.std.proofs.lemmas.Option.{none-some, same_Some}
use Rattle.gpi.specs.Keys.{among}
use Rattle.gpi.specs.declared.types.Key.{Key}
use Rattle.py_value.specs.declared.trigger.EventNo.{EventNo}
use Rattle.py_value.specs.declared.trigger.LockNo.{LockNo}
use Rattle.py_value.specs.declared.trigger.TaskNo.{TaskNo}
use Rattle.await_tree.specs.Fire.{is_same}
use Rattle.await_tree.specs.Settled.{IsSettled, AreSettled}
use Rattle.await_tree.specs.Tree.{Tree, Trees, Over, Leaf, Cycles, First, Combine, Limit, NoTree, Then, leaves, is_over, first_over, first_faulted, are_over}
use Rattle.await_tree.specs.WaitList.Edges.{has_edges}
use Rattle.await_tree.specs.WaitList.Keys.{AreAlike}
use Rattle.await_tree.specs.WaitList.Waiting.{Waiting, keys_among, keys_of, named, tree_keys, without_task}
use Rattle.await_tree.specs.declared.cause.Awaited.{Awaited}
use Rattle.await_tree.specs.declared.cause.Awaited.TheVariants as awaited
use Rattle.await_tree.proofs.WaitListLemmas.Members.{alike, among_append, among_left, among_right, and_left, and_right, key_on, or_left, or_right, same_is, same_self}
use Rattle.trigger_table.specs.Entries.{HasCause}
use Rattle.trigger_table.specs.Keys.{held_slot, record_keys, runner_keys}
use Rattle.trigger_table.specs.Links.{IsIn, IsApart}
use Rattle.trigger_table.specs.State.{Link, Row, State, AllNeeded, HasRow, IsAbsent, IsNeeded, entry_at, has_some, numbers_of, waiters_on, without_row}
use Rattle.trigger_table.specs.Tied.{AreOn, AreTied, IsKept, IsTied, IsWaitable, are_on, are_settled, are_tied, entry_is_tied, entry_list, is_needed, is_none, is_settled, is_waitable, slot_is_held, slot_is_on, waiting_in}
use Rattle.trigger_table.specs.declared.entries.CauseRecord.{CauseRecord}
use Rattle.trigger_table.proofs.GoneLemmas.{key_named, named_key, one_key, own_key, runner_key, slot_found}
use Rattle.trigger_table.proofs.RowLemmas.{kept, out, waiters_cons, without_none}

abbrev Slots : Type 0
Slots = List (Option CauseRecord)

-- ---- tests

none_is : {T : Type 0} (o : Option T) → is_none o ≡ true → o ≡ None
none_is None h = refl
none_is (Some x) h = absurd (false≢true h)

none_tested : {T : Type 0} (o : Option T) → o ≡ None → is_none o ≡ true
none_tested o h = ap is_none h

mutual
  settled_is : (t : Tree) → is_settled t ≡ true → IsSettled t
  settled_is (Over f) h = tt
  settled_is (Leaf on trig) h = tt
  settled_is (Cycles key left trig) h = tt
  settled_is (First ts) h = (none_is (first_over ts) (and_left (is_none (first_over ts)) (are_settled ts) h), all_settled_is ts (and_right (is_none (first_over ts)) (are_settled ts) h))
  settled_is (Combine trig ts) h =
      let rest : (not (are_over ts) && are_settled ts) ≡ true = and_right (is_none (first_faulted ts)) (not (are_over ts) && are_settled ts) h in (
        none_is (first_faulted ts) (and_left (is_none (first_faulted ts)) (not (are_over ts) && are_settled ts) h),
        not-true (are_over ts) (and_left (not (are_over ts)) (are_settled ts) rest),
        all_settled_is ts (and_right (not (are_over ts)) (are_settled ts) rest),
      )
  settled_is (Limit due t) h = (not-true (is_over t) (and_left (not (is_over t)) (is_settled t) h), settled_is t (and_right (not (is_over t)) (is_settled t) h))

  all_settled_is : (ts : Trees) → are_settled ts ≡ true → AreSettled ts
  all_settled_is NoTree h = tt
  all_settled_is (Then t ts) h = (settled_is t (and_left (is_settled t) (are_settled ts) h), all_settled_is ts (and_right (is_settled t) (are_settled ts) h))

mutual
  settled_tested : (t : Tree) → IsSettled t → is_settled t ≡ true
  settled_tested (Over f) h = refl
  settled_tested (Leaf on trig) h = refl
  settled_tested (Cycles key left trig) h = refl
  settled_tested (First ts) h = and_from _ _ (none_tested (first_over ts) h.0) (all_settled_tested ts h.1)
  settled_tested (Combine trig ts) h = and_from _ _ (none_tested (first_faulted ts) h.0) (and_from _ _ (not_from_false (are_over ts) h.1) (all_settled_tested ts h.2))
  settled_tested (Limit due t) h = and_from _ _ (not_from_false (is_over t) h.0) (settled_tested t h.1)

  all_settled_tested : (ts : Trees) → AreSettled ts → are_settled ts ≡ true
  all_settled_tested NoTree h = refl
  all_settled_tested (Then t ts) h = and_from _ _ (settled_tested t h.0) (all_settled_tested ts h.1)

-- what is the same is equal
pub same_on : (a b : Awaited) → is_same a b ≡ true → a ≡ b
same_on (awaited.Key a) (awaited.Key b) h = ap awaited.Key (same_is a b h)
same_on (awaited.Event a) (awaited.Event b) h = ap (λ (n : ℕ). let e : EventNo = record { 0 = n } in awaited.Event e) (eqb-true a.0 b.0 h)
same_on (awaited.Lock a) (awaited.Lock b) h = ap (λ (n : ℕ). let l : LockNo = record { 0 = n } in awaited.Lock l) (eqb-true a.0 b.0 h)
same_on (awaited.Join a) (awaited.Join b) h = ap (λ (n : ℕ). let t : TaskNo = record { 0 = n } in awaited.Join t) (eqb-true a.0 b.0 h)
same_on x y h = cc

pub on_self : (a : Awaited) → is_same a a ≡ true
on_self (awaited.Key a) = same_self a
on_self (awaited.Event a) = eq-eqb a.0 a.0 refl
on_self (awaited.Lock a) = eq-eqb a.0 a.0 refl
on_self (awaited.Join a) = eq-eqb a.0 a.0 refl

slot_on : (causes : Slots) (number : ℕ) (on : Awaited) → slot_is_on (get_or causes number None) on ≡ true → HasCause causes number on
slot_on causes number on h = go (get_or causes number None) refl h
  where
    go : (slot : Option CauseRecord) → get_or causes number None ≡ slot → slot_is_on slot on ≡ true → HasCause causes number on
    go None is h = absurd (false≢true h)
    go (Some kept) is h = (kept.held, is ∙ ap (λ (a : Awaited). let r : CauseRecord = record { on = a; held = kept.held } in Some r) (same_on kept.on on h))

slot_tested : (causes : Slots) (number : ℕ) (on : Awaited) → HasCause causes number on → slot_is_on (get_or causes number None) on ≡ true
slot_tested causes number on has = ap (λ (o : Option CauseRecord). slot_is_on o on) has.1 ∙ on_self on

on_is : (causes : Slots) (links : List Link) (ons : List Awaited) → are_on causes links ons ≡ true → AreOn causes links ons
on_is causes [] [] h = tt
on_is causes [] (on ∷ ons) h = absurd (false≢true h)
on_is causes (link ∷ links) [] h = absurd (false≢true h)
on_is causes (link ∷ links) (on ∷ ons) h = (
  slot_on causes link.cause on (and_left (slot_is_on (get_or causes link.cause None) on) (are_on causes links ons) h),
  on_is causes links ons (and_right (slot_is_on (get_or causes link.cause None) on) (are_on causes links ons) h),
)

on_tested : (causes : Slots) (links : List Link) (ons : List Awaited) → AreOn causes links ons → are_on causes links ons ≡ true
on_tested causes [] [] h = refl
on_tested causes [] (on ∷ ons) h = absurd h
on_tested causes (link ∷ links) [] h = absurd h
on_tested causes (link ∷ links) (on ∷ ons) h = and_from _ _ (slot_tested causes link.cause on h.0) (on_tested causes links ons h.1)

waitable_is : (t : Tree) → is_waitable t ≡ true → IsWaitable t
waitable_is t h =
    let rest : (is_settled t && has_edges t) ≡ true = and_right (not (is_over t)) (is_settled t && has_edges t) h in
    record {
      waits = not-true (is_over t) (and_left (not (is_over t)) (is_settled t && has_edges t) h);
      settled = settled_is t (and_left (is_settled t) (has_edges t) rest);
      edges = and_right (is_settled t) (has_edges t) rest;
    }

waitable_tested : (t : Tree) → IsWaitable t → is_waitable t ≡ true
waitable_tested t h = and_from _ _ (not_from_false (is_over t) h.waits) (and_from _ _ (settled_tested t h.settled) h.edges)

row_is : (causes : Slots) (row : Row) → entry_is_tied causes row.entry row.links ≡ true → IsTied causes row
row_is causes row h = go row.entry refl h
  where
    go : (entry : Option Waiting) → row.entry ≡ entry → entry_is_tied causes entry row.links ≡ true → IsTied causes row
    go None is h = absurd (false≢true h)
    go (Some w) is h = record {
      waiting = w;
      entry = is;
      on = on_is causes row.links (leaves w.tree) (and_left (are_on causes row.links (leaves w.tree)) (is_waitable w.tree) h);
      tree = waitable_is w.tree (and_right (are_on causes row.links (leaves w.tree)) (is_waitable w.tree) h);
    }

row_tested : (causes : Slots) (row : Row) → IsTied causes row → entry_is_tied causes row.entry row.links ≡ true
row_tested causes row t =
    ap (λ (e : Option Waiting). entry_is_tied causes e row.links) t.entry
    ∙ and_from _ _ (on_tested causes row.links (leaves t.waiting.tree) t.on) (waitable_tested t.waiting.tree t.tree)

tied_is : (causes : Slots) (rows : List Row) → are_tied causes rows ≡ true → AreTied causes rows
tied_is causes [] h = tt
tied_is causes (row ∷ rows) h = (
  row_is causes row (and_left (entry_is_tied causes row.entry row.links) (are_tied causes rows) h),
  tied_is causes rows (and_right (entry_is_tied causes row.entry row.links) (are_tied causes rows) h),
)

tied_tested : (causes : Slots) (rows : List Row) → AreTied causes rows → are_tied causes rows ≡ true
tied_tested causes [] h = refl
tied_tested causes (row ∷ rows) h = and_from _ _ (row_tested causes row h.0) (tied_tested causes rows h.1)

not_empty : {X : Type 0} (xs : List X) → has_some xs ≡ true → xs ≢ []
not_empty [] h none = false≢true h
not_empty (x ∷ xs) h none = absurd (cc)

empty_or : {X : Type 0} (xs : List X) → xs ≢ [] → has_some xs ≡ true
empty_or [] some = absurd (some refl)
empty_or (x ∷ xs) some = refl

needed_is : (number : ℕ) (s : State) → is_needed number s ≡ true → IsNeeded number s
needed_is number s h =
    elim (or_cases (has_some (waiters_on number s.rows)) (slot_is_held (get_or s.causes number None)) h) [
      | inl some ↦ inl (not_empty (waiters_on number s.rows) some)
      | inr held ↦ inr (go (get_or s.causes number None) refl held)
    ]
  where
    go : (slot : Option CauseRecord) → get_or s.causes number None ≡ slot → slot_is_held slot ≡ true → (kept : CauseRecord) × (get_or s.causes number None ≡ Some kept) × (kept.held ≡ true)
    go None is h = absurd (false≢true h)
    go (Some kept) is h = (kept, is, h)

needed_tested : (number : ℕ) (s : State) → IsNeeded number s → is_needed number s ≡ true
needed_tested number s needed =
    elim needed [
      | inl some ↦ or_left (has_some (waiters_on number s.rows)) (slot_is_held (get_or s.causes number None)) (empty_or (waiters_on number s.rows) some)
      | inr held ↦ or_right (has_some (waiters_on number s.rows)) (slot_is_held (get_or s.causes number None)) (ap slot_is_held held.1 ∙ held.2)
    ]

pub needed_of : (s : State) → IsKept s → AllNeeded s
needed_of s kept number some = needed_is number s (kept.needed number some)

pub tied_of : (s : State) → IsKept s → AreTied s.causes s.rows
tied_of s kept = tied_is s.causes s.rows kept.tied

pub kept_of : (s : State) → AllNeeded s → AreTied s.causes s.rows → IsKept s
kept_of s needed tied = record { needed = λ number some. needed_tested number s (needed number some); tied = tied_tested s.causes s.rows tied }

-- ---- records that are waited for stay

pub left_nil : {X : Type 0} (xs ys : List X) → xs ++ ys ≡ [] → xs ≡ []
left_nil [] ys h = refl
left_nil (x ∷ xs) ys h = absurd (cc)

pub right_nil : {X : Type 0} (xs ys : List X) → xs ++ ys ≡ [] → ys ≡ []
right_nil [] ys h = h
right_nil (x ∷ xs) ys h = absurd (cc)

pub filter_none : {X : Type 0} (p : X → Bool) (x : X) (xs : List X) → filter p (x ∷ xs) ≡ [] → (p x ≡ false) × (filter p xs ≡ [])
filter_none p x xs none = go (p x) refl
  where
    go : (b : Bool) → p x ≡ b → (p x ≡ false) × (filter p xs ≡ [])
    go true is = absurd (let e : x ∷ filter p xs ≡ [] = sym (ap (λ (b : Bool). cond b (x ∷ filter p xs) (filter p xs)) is) ∙ none in cc)
    go false is = (is, sym (ap (λ (b : Bool). cond b (x ∷ filter p xs) (filter p xs)) is) ∙ none)

pub on_has : (causes causes' : Slots) (links : List Link) (ons : List Awaited) → ((n : ℕ) (on : Awaited) → filter (λ (link : Link). link.cause == n) links ≢ [] → HasCause causes n on → HasCause causes' n on) → AreOn causes links ons → AreOn causes' links ons
on_has causes causes' [] [] stays h = tt
on_has causes causes' [] (on ∷ ons) stays h = h
on_has causes causes' (link ∷ links) [] stays h = h
on_has causes causes' (link ∷ links) (on ∷ ons) stays h = (
  stays link.cause on (λ none. false≢true (sym (filter_none (λ (l : Link). l.cause == link.cause) link links none).0 ∙ eq-eqb link.cause link.cause refl)) h.0,
  on_has causes causes' links ons (λ n on some has. stays n on (λ none. some (filter_none (λ (l : Link). l.cause == n) link links none).1) has) h.1,
)

-- where what waiters are on stays, they are on what they were
pub tied_has : (causes causes' : Slots) (rows : List Row) → ((n : ℕ) (on : Awaited) → waiters_on n rows ≢ [] → HasCause causes n on → HasCause causes' n on) → AreTied causes rows → AreTied causes' rows
tied_has causes causes' [] stays h = tt
tied_has causes causes' (row ∷ rows) stays h = (
  record {
    waiting = h.0.waiting;
    entry = h.0.entry;
    on = on_has causes causes' row.links (leaves h.0.waiting.tree)
        (λ n on some has. stays n on (λ none. some (left_nil (filter (λ (link : Link). link.cause == n) row.links) (waiters_on n rows) (sym (waiters_cons n row rows) ∙ none))) has) h.0.on;
    tree = h.0.tree;
  },
  tied_has causes causes' rows (λ n on some has. stays n on (λ none. some (right_nil (filter (λ (link : Link). link.cause == n) row.links) (waiters_on n rows) (sym (waiters_cons n row rows) ∙ none))) has) h.1,
)

pub tied_agree : (causes causes' : Slots) (rows : List Row) → ((n : ℕ) → waiters_on n rows ≢ [] → get_or causes' n None ≡ get_or causes n None) → AreTied causes rows → AreTied causes' rows
tied_agree causes causes' rows same h = tied_has causes causes' rows (λ n on some has. (has.0, same n some ∙ has.1)) h

pub tied_without : (causes : Slots) (n : ℕ) (rows : List Row) → AreTied causes rows → AreTied causes (without_row n rows)
tied_without causes n [] h = tt
tied_without causes n (row ∷ rows) h =
    elim (cases_eq row.number n) [
      | inl same ↦ subst (AreTied causes) (sym (out n row rows same)) (tied_without causes n rows h.1)
      | inr differs ↦ subst (AreTied causes) (sym (kept n row rows differs)) (h.0, tied_without causes n rows h.1)
    ]

pub both_nil : {X : Type 0} (xs ys : List X) → xs ≡ [] → ys ≡ [] → xs ++ ys ≡ []
both_nil xs ys h e = ap (λ (zs : List _). zs ++ ys) h ∙ e

-- ---- the keys that the records name are those that waiting tasks or the runner name

leaf_cause : (key : Key) (causes : Slots) (links : List Link) (ons : List Awaited) → AreOn causes links ons → among key (keys_among ons) ≡ true → (number : ℕ) × HasCause causes number (awaited.Key key)
leaf_cause key causes [] [] h is = absurd (false≢true is)
leaf_cause key causes [] (on ∷ ons) h is = absurd h
leaf_cause key causes (link ∷ links) [] h is = absurd h
leaf_cause key causes (link ∷ links) (on ∷ ons) h is =
    elim (or_cases (among key (keys_among (on ∷ []))) (among key (keys_among ons)) (key_on key on ons ∙ is)) [
      | inl here ↦ (link.cause, subst (HasCause causes link.cause) (one_key key on here) h.0)
      | inr there ↦ leaf_cause key causes links ons h.1 there
    ]

row_waiting : (causes : Slots) (row : Row) (rows : List Row) → (t : IsTied causes row) → waiting_in (row ∷ rows) ≡ t.waiting ∷ waiting_in rows
row_waiting causes row rows t = ap (λ (e : Option Waiting). entry_list e ++ waiting_in rows) t.entry

waited_cause : (key : Key) (causes : Slots) (rows : List Row) → AreTied causes rows → among key (keys_of (waiting_in rows)) ≡ true → (number : ℕ) × HasCause causes number (awaited.Key key)
waited_cause key causes [] h is = absurd (false≢true is)
waited_cause key causes (row ∷ rows) h is =
    let keys : among key (tree_keys h.0.waiting.tree ++ keys_of (waiting_in rows)) ≡ true = ap (λ (ws : List Waiting). among key (keys_of ws)) (sym (row_waiting causes row rows h.0)) ∙ is in
    elim (or_cases (among key (tree_keys h.0.waiting.tree)) (among key (keys_of (waiting_in rows))) (sym (among_append key (tree_keys h.0.waiting.tree) (keys_of (waiting_in rows))) ∙ keys)) [
      | inl here ↦ leaf_cause key causes row.links (leaves h.0.waiting.tree) h.0.on here
      | inr there ↦ waited_cause key causes rows h.1 there
    ]

leaf_key : (key : Key) (causes : Slots) (number : ℕ) → HasCause causes number (awaited.Key key) → (links : List Link) (ons : List Awaited) → AreOn causes links ons
    → filter (λ (link : Link). link.cause == number) links ≢ [] → among key (keys_among ons) ≡ true
leaf_key key causes number has [] [] h some = absurd (some refl)
leaf_key key causes number has [] (on ∷ ons) h some = absurd h
leaf_key key causes number has (link ∷ links) [] h some = absurd h
leaf_key key causes number has (link ∷ links) (on ∷ ons) h some =
    elim (cases_eq link.cause number) [
      | inl same ↦
          let e = same_Some _ _ (sym has.1 ∙ ap (λ (j : ℕ). get_or causes j None) (sym same) ∙ h.0.1) in
          let is : awaited.Key key ≡ on = ap (λ (r : CauseRecord). r.on) e in
          sym (key_on key on ons) ∙ or_left (among key (keys_among (on ∷ []))) (among key (keys_among ons)) (ap (λ (a : Awaited). among key (keys_among (a ∷ []))) (sym is) ∙ own_key key)
      | inr differs ↦
          let later : filter (λ (l : Link). l.cause == number) links ≢ [] = λ none. some (cond-false (link.cause == number) _ _ (ne_eqb link.cause number differs) ∙ none) in
          sym (key_on key on ons) ∙ or_right (among key (keys_among (on ∷ []))) (among key (keys_among ons)) (leaf_key key causes number has links ons h.1 later)
    ]

waiter_key : (key : Key) (causes : Slots) (number : ℕ) → HasCause causes number (awaited.Key key) → (rows : List Row) → AreTied causes rows → waiters_on number rows ≢ [] → among key (keys_of (waiting_in rows)) ≡ true
waiter_key key causes number has [] h some = absurd (some refl)
waiter_key key causes number has (row ∷ rows) h some =
    ap (λ (ws : List Waiting). among key (keys_of ws)) (row_waiting causes row rows h.0)
    ∙ go (filter (λ (link : Link). link.cause == number) row.links) refl (λ more. waiter_key key causes number has rows h.1 more)
  where
    go : (own : List Link) → filter (λ (link : Link). link.cause == number) row.links ≡ own → (waiters_on number rows ≢ [] → among key (keys_of (waiting_in rows)) ≡ true) → among key (tree_keys h.0.waiting.tree ++ keys_of (waiting_in rows)) ≡ true
    go [] is later =
        among_right key (tree_keys h.0.waiting.tree) (keys_of (waiting_in rows))
        (later (λ none. some (waiters_cons number row rows ∙ both_nil (filter (λ (link : Link). link.cause == number) row.links) (waiters_on number rows) is none)))
    go (link ∷ links) is later =
        among_left key (tree_keys h.0.waiting.tree) (keys_of (waiting_in rows))
        (leaf_key key causes number has row.links (leaves h.0.waiting.tree) h.0.on (λ none. let e : link ∷ links ≡ [] = sym is ∙ none in absurd (cc)))

pub held_named : (key : Key) (causes : Slots) (number : ℕ) (kept : CauseRecord) → HasCause causes number (awaited.Key key) → get_or causes number None ≡ Some kept → kept.held ≡ true → among key (runner_keys causes) ≡ true
held_named key causes number kept has slot held =
    let e = same_Some _ _ (sym slot ∙ has.1) in
    let on : kept.on ≡ awaited.Key key = ap (λ (r : CauseRecord). r.on) e in
    slot_found held_slot key refl causes number
    (ap (λ (o : Option CauseRecord). among key (held_slot o)) slot
    ∙ ap (λ (b : Bool). among key (cond b (keys_among (kept.on ∷ [])) [])) held
    ∙ ap (λ (a : Awaited). among key (keys_among (a ∷ []))) on ∙ own_key key)

pub names_alike : (s : State) → AllNeeded s → AreTied s.causes s.rows → AreAlike (named (waiting_in s.rows) (runner_keys s.causes)) (record_keys s.causes)
names_alike s needed tied key = alike (among key (named (waiting_in s.rows) (runner_keys s.causes))) (among key (record_keys s.causes)) there back
  where
    there : among key (named (waiting_in s.rows) (runner_keys s.causes)) ≡ true → among key (record_keys s.causes) ≡ true
    there is =
        elim (or_cases (among key (keys_of (waiting_in s.rows))) (among key (runner_keys s.causes)) (sym (among_append key (keys_of (waiting_in s.rows)) (runner_keys s.causes)) ∙ is)) [
          | inl waited ↦ let one = waited_cause key s.causes s.rows tied waited in key_named key s.causes one.0 one.1
          | inr held ↦ let one = runner_key key s.causes held in key_named key s.causes one.0 (true, one.1)
        ]

    back : among key (record_keys s.causes) ≡ true → among key (named (waiting_in s.rows) (runner_keys s.causes)) ≡ true
    back is =
        let one = named_key key s.causes is in
        elim (needed one.0 (λ none. none-some _ (sym none ∙ one.1.1))) [
          | inl some ↦ among_left key (keys_of (waiting_in s.rows)) (runner_keys s.causes) (waiter_key key s.causes one.0 one.1 s.rows tied some)
          | inr held ↦ among_right key (keys_of (waiting_in s.rows)) (runner_keys s.causes) (held_named key s.causes one.0 held.0 one.1 held.1 held.2)
        ]

-- ---- the waiting tasks without one

pub has_entry : (m : ℕ) (rows : List Row) (v : Waiting) → entry_at m rows ≡ Some v → HasRow m rows
has_entry m [] v is = absurd (none-some v is)
has_entry m (row ∷ rows) v is =
    elim (cases_eq row.number m) [
      | inl same ↦ inl same
      | inr differs ↦ inr (has_entry m rows v (sym (cond-false (row.number == m) _ _ (ne_eqb row.number m differs)) ∙ is))
    ]

entry_behind : (m : ℕ) (row : Row) (rows : List Row) (v : Waiting) → IsApart (numbers_of (row ∷ rows)) → entry_at m rows ≡ Some v → entry_at m (row ∷ rows) ≡ Some v
entry_behind m row rows v apart is =
    cond-false (row.number == m) row.entry (entry_at m rows) (ne_eqb row.number m (λ same. apart.0 (subst (λ (j : ℕ). IsIn j (numbers_of rows)) (sym same) (has_entry m rows v is)))) ∙ is

entry_here : (row : Row) (rows : List Row) → entry_at row.number (row ∷ rows) ≡ row.entry
entry_here row rows = cond-true (row.number == row.number) row.entry (entry_at row.number rows) (eq-eqb row.number row.number refl)

one_task : (a b : TaskNo) → a.0 ≡ b.0 → a ≡ b
one_task a b h = ap (λ (n : ℕ). let t : TaskNo = record { 0 = n } in t) h

without_other : (task : TaskNo) (w : Waiting) (ws : List Waiting) → w.task ≢ task → without_task task (w ∷ ws) ≡ w ∷ without_task task ws
without_other task w ws differs = ap (λ (b : Bool). cond (not b) (w ∷ without_task task ws) (without_task task ws)) (ne_eqb w.task.0 task.0 (λ same. differs (one_task w.task task same)))

without_own : (task : TaskNo) (w : Waiting) (ws : List Waiting) → w.task ≡ task → without_task task (w ∷ ws) ≡ without_task task ws
without_own task w ws same = ap (λ (b : Bool). cond (not b) (w ∷ without_task task ws) (without_task task ws)) (eq-eqb w.task.0 task.0 (ap (λ (t : TaskNo). t.0) same))

pub waiting_absent : (task : TaskNo) (rows : List Row) → IsApart (numbers_of rows) → IsAbsent task rows → without_task task (waiting_in rows) ≡ waiting_in rows
waiting_absent task [] apart absent = refl
waiting_absent task (row ∷ rows) apart absent = go row.entry refl (waiting_absent task rows apart.1 (λ m v is. absent m v (entry_behind m row rows v apart is)))
  where
    go : (entry : Option Waiting) → row.entry ≡ entry → without_task task (waiting_in rows) ≡ waiting_in rows → without_task task (entry_list entry ++ waiting_in rows) ≡ entry_list entry ++ waiting_in rows
    go None is later = later
    go (Some w) is later = without_other task w (waiting_in rows) (absent row.number w (entry_here row rows ∙ is)) ∙ ap (λ (ws : List Waiting). w ∷ ws) later

pub waiting_without : (n : ℕ) (task : TaskNo) (rows : List Row) → IsApart (numbers_of rows) → ((w : Waiting) → entry_at n rows ≡ Some w → w.task ≡ task)
    → ((m : ℕ) (v : Waiting) → entry_at m rows ≡ Some v → v.task ≡ task → m ≡ n) → waiting_in (without_row n rows) ≡ without_task task (waiting_in rows)
waiting_without n task [] apart own one = refl
waiting_without n task (row ∷ rows) apart own one =
    elim (cases_eq row.number n) [
      | inl same ↦
          let off : ¬ HasRow n rows = λ there. apart.0 (subst (λ (j : ℕ). IsIn j (numbers_of rows)) (sym same) there) in
          let absent : IsAbsent task rows = λ m v is of.
          off (subst (λ (j : ℕ). HasRow j rows) (one m v (entry_behind m row rows v apart is) of) (has_entry m rows v is)) in
          ap waiting_in (out n row rows same ∙ without_none n rows off) ∙ gone same row.entry refl (waiting_absent task rows apart.1 absent)
      | inr differs ↦
          ap waiting_in (kept n row rows differs)
          ∙ stays differs row.entry refl
          (waiting_without n task rows apart.1
          (λ w is. own w (entry_behind n row rows w apart is)) (λ m v is of. one m v (entry_behind m row rows v apart is) of))
    ]
  where
    gone : row.number ≡ n → (entry : Option Waiting) → row.entry ≡ entry → without_task task (waiting_in rows) ≡ waiting_in rows → waiting_in rows ≡ without_task task (entry_list entry ++ waiting_in rows)
    gone same None is later = sym later
    gone same (Some w) is later =
        let of : w.task ≡ task = own w (ap (λ (j : ℕ). entry_at j (row ∷ rows)) (sym same) ∙ entry_here row rows ∙ is) in
        sym (without_own task w (waiting_in rows) of ∙ later)

    stays : (row.number ≡ n → ⊥) → (entry : Option Waiting) → row.entry ≡ entry → waiting_in (without_row n rows) ≡ without_task task (waiting_in rows)
        → entry_list entry ++ waiting_in (without_row n rows) ≡ without_task task (entry_list entry ++ waiting_in rows)
    stays differs None is later = later
    stays differs (Some v) is later =
        ap (λ (ws : List Waiting). v ∷ ws) later ∙ sym (without_other task v (waiting_in rows) (λ of. differs (one row.number v (entry_here row rows ∙ is) of)))

-- the names where the runner's keys are alike
pub runner_names : (waiting : List Waiting) (held held' : List Key) → AreAlike held held' → AreAlike (named waiting held) (named waiting held')
runner_names waiting held held' same k =
    among_append k (keys_of waiting) held ∙ ap (λ (b : Bool). among k (keys_of waiting) || b) (same k) ∙ sym (among_append k (keys_of waiting) held')
