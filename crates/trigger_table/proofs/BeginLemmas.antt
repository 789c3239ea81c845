-- A task has begun to wait, or waits no more for want of memory.
use Rattle.std.proofs.Common.{◌≡◌, ◌≢◌, ℕ, Bool, true, false, ◌||◌, List, [], ◌∷◌, ◌++◌, length, filter, Option, Some, None, get_or, refl, sym, ap, ◌∙◌, subst, inl, inr, ◌==◌, eq-eqb, ne_eqb, append_assoc}
use Rattle.std.proofs.lemmas.Bool.{cases_eq, cond-true, cond-false, false≢true}
use Rattle.std.proofs.lemmas.Option.{none-some, same_Some}
use Rattle.std.specs.List.{list_any}
use Rattle.gpi.specs.Content.{Content}
use Rattle.gpi.specs.Keys.{among}
use Rattle.py_value.specs.declared.trigger.TaskNo.{TaskNo}
use Rattle.await_tree.specs.Check.{tree_of}
use Rattle.await_tree.specs.Settled.{IsSettled}
use Rattle.await_tree.specs.Tree.{Tree, leaves}
use Rattle.await_tree.specs.declared.cause.Awaited.{Awaited}
use Rattle.await_tree.specs.WaitList.Begun.{IsBegun}
use Rattle.await_tree.specs.WaitList.Keys.{AreAlike, AreKeys, KeepsKeys}
use Rattle.await_tree.specs.WaitList.Parts.{Narrows}
use Rattle.await_tree.specs.WaitList.Waiting.{Waiting, is_of, is_waiting, named}
use Rattle.await_tree.proofs.Settled.{stays_settled}
use Rattle.await_tree.proofs.WaitListLemmas.Edges.{begun_edges}
use Rattle.await_tree.proofs.WaitListLemmas.Members.{alike}
use Rattle.trigger_table.specs.Awaiting.{Reaches, Steady, with_links}
use Rattle.trigger_table.specs.Keys.{record_keys, runner_keys}
use Rattle.trigger_table.specs.Links.{IsIn, IsApart}
use Rattle.trigger_table.specs.Records.{causes_in, rows_in, state_in}
use Rattle.trigger_table.specs.State.{AllNeeded, HasRow, HeldStays, IsAbsent, IsLast, Link, Row, State, links_at, numbers_of, waiters_on, without_row}
use Rattle.trigger_table.specs.Tied.{AreOn, AreTied, IsKept, IsTied, IsWaitable, Shrinks, entry_list, waiting_in}
use Rattle.trigger_table.specs.declared.entries.CauseRecord.{CauseRecord}
use Rattle.trigger_table.specs.declared.records.Records.{Records}
use Rattle.trigger_table.proofs.AwaitLemmas.{narrows_keys, rekeyed_steady, steady_through, runner_named}
use Rattle.trigger_table.proofs.CallLemmas.{on_count}
use Rattle.trigger_table.proofs.EntryLemmas.{rows_apart, waited_known, waited_stay}
use Rattle.trigger_table.proofs.GoneLemmas.{held_within, runner_key}
use Rattle.trigger_table.proofs.RowLemmas.{kept, out, waiters_cons}
use Rattle.trigger_table.proofs.TieLemmas.{both_nil, kept_of, left_nil, names_alike, needed_of, right_nil, runner_names, tied_agree, tied_of}

abbrev Slots : Type 0
Slots = List (Option CauseRecord)

-- ---- a task that doesn't wait has no row

pub absent_of : (task : TaskNo) (rows : List Row) → is_waiting task (waiting_in rows) ≡ false → IsAbsent task rows
absent_of task [] h number w is same = none-some w is
absent_of task (row ∷ rows) h number w is same =
    elim (cases_eq row.number number) [
      | inl here ↦ own row.entry refl (sym (cond-true (row.number == number) _ _ (eq-eqb row.number number here)) ∙ is) h
      | inr differs ↦ absent_of task rows (later row.entry h) number w (sym (cond-false (row.number == number) _ _ (ne_eqb row.number number differs)) ∙ is) same
    ]
  where
    own : (entry : Option Waiting) → row.entry ≡ entry → row.entry ≡ Some w → list_any (is_of task) (entry_list entry ++ waiting_in rows) ≡ false → ⊥
    own None at was off = none-some w (sym at ∙ was)
    own (Some v) at was off =
        let e : v ≡ w = same_Some v w (sym at ∙ was) in
        let own_task : is_of task v ≡ true = eq-eqb v.task.0 task.0 (ap (λ (x : Waiting). x.task.0) e ∙ ap (λ (t : TaskNo). t.0) same) in
        false≢true (sym off ∙ ap (λ (b : Bool). b || list_any (is_of task) (waiting_in rows)) own_task)

    later : (entry : Option Waiting) → list_any (is_of task) (entry_list entry ++ waiting_in rows) ≡ false → list_any (is_of task) (waiting_in rows) ≡ false
    later None off = off
    later (Some v) off = right (is_of task v) off
      where
        right : (b : Bool) → (b || list_any (is_of task) (waiting_in rows)) ≡ false → list_any (is_of task) (waiting_in rows) ≡ false
        right true off = absurd (false≢true (sym off))
        right false off = off

-- ---- a row at the end

pub last_row : (rows : List Row) (row : Row) → IsLast row.number (rows ++ row ∷ [])
last_row rows row = (rows, row, refl, refl)

bare_append : (k : ℕ) (rows more : List Row) → waiters_on k (rows ++ more) ≡ [] → waiters_on k rows ≡ []
bare_append k [] more none = refl
bare_append k (row ∷ rows) more none =
    let parts = sym (waiters_cons k row (rows ++ more)) ∙ none in
    waiters_cons k row rows
    ∙ both_nil (filter (λ (link : Link). link.cause == k) row.links) (waiters_on k rows)
    (left_nil (filter (λ (link : Link). link.cause == k) row.links) (waiters_on k (rows ++ more)) parts)
    (bare_append k rows more (right_nil (filter (λ (link : Link). link.cause == k) row.links) (waiters_on k (rows ++ more)) parts))

pub needed_added : (old new : State) (more : List Row) → new.rows ≡ old.rows ++ more → new.causes ≡ old.causes → AllNeeded old → AllNeeded new
needed_added old new more rows causes all k some =
    elim (all k (λ none. some (ap (λ (cs : Slots). get_or cs k None) causes ∙ none))) [
      | inl waited ↦ inl (λ none. waited (bare_append k old.rows more (sym (ap (waiters_on k) rows) ∙ none)))
      | inr held ↦ inr (held.0, ap (λ (cs : Slots). get_or cs k None) causes ∙ held.1, held.2)
    ]

apart_last : (xs : List ℕ) (n : ℕ) → IsApart (xs ++ n ∷ []) → ¬ IsIn n xs
apart_last [] n apart found = found
apart_last (x ∷ xs) n apart found =
    elim found [
      | inl same ↦ apart.0 (subst (λ (j : ℕ). IsIn j (xs ++ n ∷ [])) (sym same) (at_end xs))
      | inr there ↦ apart_last xs n apart.1 there
    ]
  where
    at_end : (ys : List ℕ) → IsIn n (ys ++ n ∷ [])
    at_end [] = inl refl
    at_end (y ∷ ys) = inr (at_end ys)

numbers_last : (rows : List Row) (row : Row) → numbers_of (rows ++ row ∷ []) ≡ numbers_of rows ++ row.number ∷ []
numbers_last [] row = refl
numbers_last (r ∷ rows) row = ap (λ (ns : List ℕ). r.number ∷ ns) (numbers_last rows row)

-- no task before the last has its number
pub new_number : (records : Records) (rows : List Row) (row : Row) → rows_in records ≡ rows ++ row ∷ [] → ¬ HasRow row.number rows
new_number records rows row is = apart_last (numbers_of rows) row.number (subst IsApart (ap numbers_of is ∙ numbers_last rows row) (rows_apart records))

with_end : (links : List Link) (rows : List Row) (row : Row) → ¬ HasRow row.number rows → row.links ≡ [] → with_links row.number links (rows ++ row ∷ []) ≡ rows ++ record row { links = links } ∷ []
with_end links [] row off bare =
    ap (λ (r : Row). r ∷ []) (cond-true (row.number == row.number) _ _ (eq-eqb row.number row.number refl) ∙ ap (λ (ls : List Link). let r : Row = record row { links = ls ++ links } in r) bare)
with_end links (r ∷ rows) row off bare =
    ap (λ (x : Row). x ∷ with_links row.number links (rows ++ row ∷ [])) (cond-false (r.number == row.number) _ _ (ne_eqb r.number row.number (λ same. off (inl same))))
    ∙ ap (λ (rs : List Row). r ∷ rs) (with_end links rows row (λ there. off (inr there)) bare)

without_end : (rows : List Row) (row : Row) → ¬ HasRow row.number rows → without_row row.number (rows ++ row ∷ []) ≡ rows
without_end [] row off = out row.number row [] refl
without_end (r ∷ rows) row off = kept row.number r (rows ++ row ∷ []) (λ same. off (inl same)) ∙ ap (λ (rs : List Row). r ∷ rs) (without_end rows row (λ there. off (inr there)))

links_end : (rows : List Row) (row : Row) → ¬ HasRow row.number rows → links_at row.number (rows ++ row ∷ []) ≡ row.links
links_end [] row off = cond-true (row.number == row.number) _ _ (eq-eqb row.number row.number refl)
links_end (r ∷ rows) row off = cond-false (r.number == row.number) _ _ (ne_eqb r.number row.number (λ same. off (inl same))) ∙ links_end rows row (λ there. off (inr there))

waiting_end : (rows : List Row) (row : Row) (w : Waiting) → row.entry ≡ Some w → waiting_in (rows ++ row ∷ []) ≡ waiting_in rows ++ w ∷ []
waiting_end [] row w is = ap (λ (e : Option Waiting). entry_list e ++ []) is
waiting_end (r ∷ rows) row w is = ap (λ (ws : List Waiting). entry_list r.entry ++ ws) (waiting_end rows row w is) ∙ sym (append_assoc (entry_list r.entry) (waiting_in rows) (w ∷ []))

tied_end : (causes : Slots) (rows : List Row) (row : Row) → AreTied causes rows → IsTied causes row → AreTied causes (rows ++ row ∷ [])
tied_end causes [] row h own = (own, tt)
tied_end causes (r ∷ rows) row h own = (h.0, tied_end causes rows row h.1 own)

-- ---- the runner's keys

pub held_alike : (old new : Slots) → HeldStays old new → Shrinks old new → AreAlike (runner_keys new) (runner_keys old)
held_alike old new stays shrinks k =
    alike (among k (runner_keys new)) (among k (runner_keys old)) (λ is. let one = runner_key k new is in runner_named k old one.0 (shrinks one.0 _ one.1)) (held_within old new stays k)

-- ---- a task has begun to wait

pub waitable : (tree : Tree) → IsBegun tree → IsWaitable tree
waitable tree b = record {
  waits = b.waits;
  settled = subst IsSettled (sym b.is) (stays_settled.begins (tree_of b.trig b.now) b.facts);
  edges = begun_edges tree b;
}

module _ (old added : Records) (number : ℕ) (w : Waiting) (is : rows_in added ≡ rows_in old ++ record { number = number; entry = Some w; links = [] } ∷ []) (same : causes_in added ≡ causes_in old) where
  abbrev row : List Link → Row
  row links = record { number = number; entry = Some w; links = links }

  pub off : ¬ HasRow number (rows_in old)
  off = new_number added (rows_in old) (row []) is

  grown : (n : ℕ) (new : Slots) → ((kept : CauseRecord) → get_or (causes_in added) n None ≡ Some kept → get_or new n None ≡ Some kept) → waiters_on n (rows_in old) ≢ [] → get_or new n None ≡ get_or (causes_in old) n None
  grown n new grows some =
      let one = waited_known old n some in
      grows one.0 (ap (λ (cs : Slots). get_or cs n None) same ∙ one.1) ∙ sym one.1

  module _ (new : Records) (ons : List Awaited) (r : Reaches number ons (state_in added) (state_in new)) where
    pub rows_now : rows_in new ≡ rows_in old ++ row r.links ∷ []
    rows_now = r.rows ∙ ap (with_links number r.links) is ∙ with_end r.links (rows_in old) (row []) off refl

    pub links_now : length (links_at number (rows_in new)) ≡ length ons
    links_now = ap (λ (rs : List Row). length (links_at number rs)) rows_now ∙ ap length (links_end (rows_in old) (row r.links) off) ∙ on_count (causes_in new) r.links ons r.on

    pub waiting_now : waiting_in (rows_in new) ≡ waiting_in (rows_in old) ++ w ∷ []
    waiting_now = ap waiting_in rows_now ∙ waiting_end (rows_in old) (row r.links) w refl

    pub kept_now : IsKept (state_in old) → ons ≡ leaves w.tree → IsWaitable w.tree → IsKept (state_in new)
    kept_now k all tree =
        kept_of (state_in new) r.needed
        (subst (AreTied (causes_in new)) (sym rows_now)
        (tied_end (causes_in new) (rows_in old) (row r.links)
        (tied_agree (causes_in old) (causes_in new) (rows_in old) (λ n some. grown n (causes_in new) (r.grows n) some) (tied_of (state_in old) k))
        (record { waiting = w; entry = refl; on = subst (AreOn (causes_in new) r.links) all r.on; tree = tree })))

    pub held_now : AreAlike (runner_keys (causes_in new)) (runner_keys (causes_in old))
    held_now k = r.held k ∙ ap (λ (cs : Slots). among k (runner_keys cs)) same

    -- its waiters and its row are taken out again
    module _ (last : Records) (gone : rows_in last ≡ without_row number (rows_in new)) (needed : AllNeeded (state_in last)) (stays : HeldStays (causes_in new) (causes_in last)) (shrinks : Shrinks (causes_in new) (causes_in last)) where
      pub rows_back : rows_in last ≡ rows_in old
      rows_back = gone ∙ ap (without_row number) rows_now ∙ without_end (rows_in old) (row r.links) off

      pub kept_back : IsKept (state_in old) → IsKept (state_in last)
      kept_back k =
          kept_of (state_in last) needed
          (tied_agree (causes_in old) (causes_in last) (rows_in last)
          (λ n some. waited_stay (causes_in new) last shrinks n some ∙ grown n (causes_in new) (r.grows n) (λ none. some (ap (waiters_on n) rows_back ∙ none)))
          (subst (AreTied (causes_in old)) (sym rows_back) (tied_of (state_in old) k)))

      pub held_back : AreAlike (runner_keys (causes_in last)) (runner_keys (causes_in old))
      held_back k = held_alike (causes_in new) (causes_in last) stays shrinks k ∙ held_now k

      pub names_back : IsKept (state_in old) → AreAlike (record_keys (causes_in last)) (record_keys (causes_in old))
      names_back k key =
          sym (names_alike (state_in last) needed (tied_of (state_in last) (kept_back k)) key)
          ∙ ap (λ (ws : List Waiting). among key (named ws (runner_keys (causes_in last)))) (ap waiting_in rows_back)
          ∙ runner_names (waiting_in (rows_in old)) (runner_keys (causes_in last)) (runner_keys (causes_in old)) held_back key
          ∙ names_alike (state_in old) (needed_of (state_in old) k) (tied_of (state_in old) k) key

      pub keys_back : IsKept (state_in old) → (a b c : Content) → AreKeys a.keys (record_keys (causes_in old)) → Steady a b → AreKeys b.keys (record_keys (causes_in new)) → Narrows b c (record_keys (causes_in new)) (record_keys (causes_in last))
          → KeepsKeys a c
      keys_back k a b c first steady keys narrows =
          let all = steady_through a b c steady (rekeyed_steady b c [] (record_keys (causes_in new)) (record_keys (causes_in last)) narrows.keys) in
          record {
            procs = all.procs;
            nets = all.nets;
            state = all.state;
            keys = λ key. narrows_keys b c (record_keys (causes_in new)) (record_keys (causes_in last)) keys narrows key ∙ names_back k key ∙ sym (first key);
            fired = all.fired;
          }
