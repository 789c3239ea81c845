-- What becomes of a task whose tree was told something.
use Rattle.std.proofs.Common.{◌≡◌, ◌≢◌, ℕ, true, List, [], ◌∷◌, ◌++◌, filter, Option, Some, None, get_or, refl, sym, ap, ◌∙◌, subst, ◌==◌}
use Rattle.std.proofs.lemmas.Option.{same_Some}
use Rattle.await_tree.specs.Fire.{fire, grant}
use Rattle.await_tree.specs.Laws.{IsSubsequence}
use Rattle.await_tree.specs.Settled.{IsSettled}
use Rattle.await_tree.specs.Steps.{rest_of, step_of}
use Rattle.await_tree.specs.Tree.{Tree, Over, Leaf, Cycles, First, Combine, Limit, leaves}
use Rattle.await_tree.specs.WaitList.Edges.{has_edges}
use Rattle.await_tree.specs.WaitList.Waiting.{Waiting, entry_of, left_of}
use Rattle.await_tree.specs.declared.cause.Awaited.{Awaited}
use Rattle.await_tree.specs.declared.cause.Cause.{Cause}
use Rattle.await_tree.specs.declared.cause.Given.{Given}
use Rattle.await_tree.specs.declared.cause.Step.{Step}
use Rattle.await_tree.specs.declared.cause.Step.TheVariants.{Still, Done}
use Rattle.await_tree.specs.declared.wait_list.ready.Entry.{Entry}
use Rattle.py_value.specs.declared.trigger.LockNo.{LockNo}
use Rattle.py_value.specs.declared.trigger.TaskNo.{TaskNo}
use Rattle.await_tree.proofs.Settled.{stays_settled}
use Rattle.await_tree.proofs.WaitListLemmas.Edges.{fired_edges, granted_edges}
use Rattle.await_tree.proofs.Within.{leaves_keep_order}
use Rattle.trigger_table.specs.Entries.{HasCause}
use Rattle.trigger_table.specs.Links.{IsApart}
use Rattle.trigger_table.specs.Records.{causes_in, rows_in, state_in}
use Rattle.trigger_table.specs.Serving.{Served, Settles, Trimmed, Untied, leaves_at, leaves_of}
use Rattle.trigger_table.specs.State.{AllNeeded, HasRow, Link, Row, State, entry_at, links_at, links_of, numbers_of, waiters_on, with_entry, without_row}
use Rattle.trigger_table.specs.Tied.{AreOn, AreTied, IsKept, IsTied, IsWaitable, Shrinks, entry_list}
use Rattle.trigger_table.specs.declared.entries.CauseRecord.{CauseRecord}
use Rattle.trigger_table.specs.declared.records.Records.{Records}
use Rattle.trigger_table.proofs.EntryLemmas.{rows_apart, waited_stay}
use Rattle.trigger_table.proofs.ListLemmas.{concat_append, filter_append}
use Rattle.trigger_table.proofs.PlaceLemmas.{Placed, one_place, place_entry, place_links, place_with, place_without, placed_in, split_at}
use Rattle.trigger_table.proofs.RowLemmas.{still_needed}
use Rattle.trigger_table.proofs.TieLemmas.{has_entry, kept_of, left_nil, needed_of, right_nil, tied_agree, tied_has, tied_of}

abbrev Slots : Type 0
Slots = List (Option CauseRecord)

-- ---- ties of rows

pub tied_join : (causes : Slots) (xs ys : List Row) → AreTied causes xs → AreTied causes ys → AreTied causes (xs ++ ys)
tied_join causes [] ys h k = k
tied_join causes (x ∷ xs) ys h k = (h.0, tied_join causes xs ys h.1 k)

pub tied_parts : (causes : Slots) (xs ys : List Row) → AreTied causes (xs ++ ys) → AreTied causes xs × AreTied causes ys
tied_parts causes [] ys h = (tt, h)
tied_parts causes (x ∷ xs) ys h = let later = tied_parts causes xs ys h.1 in ((h.0, later.0), later.1)

pub waiters_both : (n : ℕ) (xs ys : List Row) → waiters_on n (xs ++ ys) ≡ waiters_on n xs ++ waiters_on n ys
waiters_both n xs ys = ap (filter (λ (link : Link). link.cause == n)) (concat_append (λ (r : Row). r.links) xs ys) ∙ filter_append (λ (link : Link). link.cause == n) (links_of xs) (links_of ys)

-- a row comes among rows that are tied
pub tied_placed : (causes : Slots) (new : Records) (front : List Row) (row : Row) (back : List Row) → rows_in new ≡ front ++ row ∷ back → Shrinks causes (causes_in new) → AreTied causes (front ++ back) → IsTied (causes_in new) row → AreTied (causes_in new) (rows_in new)
tied_placed causes new front row back is shrinks others own =
    let parts = tied_parts causes front back others in
    subst (AreTied (causes_in new)) (sym is)
    (tied_join (causes_in new) front (row ∷ back)
    (tied_has causes (causes_in new) front (λ n on some has. still n on (λ none. some (left_nil (waiters_on n front) (waiters_on n (row ∷ back)) (sym (waiters_both n front (row ∷ back)) ∙ none))) has) parts.0) (
      own,
      tied_has causes (causes_in new) back
          (λ n on some has. still n on
          (λ none. some (right_nil (filter (λ (link : Link). link.cause == n) row.links) (waiters_on n back)
          (sym (filter_append (λ (link : Link). link.cause == n) row.links (links_of back)) ∙ right_nil (waiters_on n front) (waiters_on n (row ∷ back)) (sym (waiters_both n front (row ∷ back)) ∙ none)))) has)
          parts.1,
    ))
  where
    still : (n : ℕ) (on : Awaited) → waiters_on n (front ++ row ∷ back) ≢ [] → HasCause causes n on → HasCause (causes_in new) n on
    still n on some has = (has.0, waited_stay causes new shrinks n (λ none. some (ap (waiters_on n) (sym is) ∙ none)) ∙ has.1)

-- ---- a task has been told something

module _ (number : ℕ) (step : Step) (ons : List Awaited) (old new : Records) (u : Untied number step ons (state_in old)) where
  -- it waits on
  module _ (still : step ≡ Still) (t : Trimmed number ons (causes_in new) (rows_in old) (rows_in new)) where
    at_old : Placed number t.changed.front t.row t.changed.back
    at_old = placed_in old number t.changed.front t.row t.changed.back t.changed.was t.changed.of

    own_entry : t.row.entry ≡ Some u.waiting
    own_entry = sym (ap (entry_at number) t.changed.was ∙ place_entry at_old) ∙ u.entry

    pub still_settles : Settles number step (rows_in old) (rows_in new)
    still_settles = record {
      row = t.row;
      left = record t.row { links = t.links } ∷ [];
      waiting = u.waiting;
      entry = own_entry;
      changed = t.changed;
      waits = ap (λ (e : Option Waiting). entry_list e ++ []) own_entry ∙ ap (left_of u.waiting.task u.waiting.tree) (sym still);
    }

    pub still_kept : Shrinks (causes_in old) (causes_in new) → AllNeeded (state_in new) → IsKept (state_in new)
    still_kept shrinks needed =
        kept_of (state_in new) needed
        (tied_placed (causes_in old) new t.changed.front (record t.row { links = t.links }) t.changed.back t.changed.now shrinks
        (subst (AreTied (causes_in old)) (ap (without_row number) t.changed.was ∙ place_without at_old) u.others)
        (record { waiting = u.waiting; entry = own_entry; on = subst (AreOn (causes_in new) t.links) u.are t.on; tree = u.tree still }))

  -- it waits no more
  module _ (given : Given) (done : step ≡ Done given) (rows : rows_in new ≡ without_row number (rows_in old)) where
    pub done_settles : HasRow number (rows_in old) → Settles number step (rows_in old) (rows_in new)
    done_settles has =
        let s = split_at number (rows_in old) has in
        let p = placed_in old number s.front s.row s.back s.is s.of in
        record {
          row = s.row;
          left = [];
          waiting = u.waiting;
          entry = sym (ap (entry_at number) s.is ∙ place_entry p) ∙ u.entry;
          changed = record { front = s.front; back = s.back; of = s.of; was = s.is; now = rows ∙ ap (without_row number) s.is ∙ place_without p };
          waits = ap (left_of u.waiting.task u.waiting.tree) (sym done);
        }

    pub done_kept : Shrinks (causes_in old) (causes_in new) → AllNeeded (state_in new) → IsKept (state_in new)
    done_kept shrinks needed =
        kept_of (state_in new) needed
        (tied_agree (causes_in old) (causes_in new) (rows_in new) (waited_stay (causes_in old) new shrinks) (subst (AreTied (causes_in old)) (sym rows) u.others))

pub untied_has : (number : ℕ) (step : Step) (ons : List Awaited) (s : State) → Untied number step ons s → HasRow number s.rows
untied_has number step ons s u = go s.rows u.entry
  where
    go : (rows : List Row) → entry_at number rows ≡ Some u.waiting → HasRow number rows
    go rows is = has_entry number rows u.waiting is

-- ---- trees

pub own_leaves : (number : ℕ) (rows : List Row) (w : Waiting) → entry_at number rows ≡ Some w → leaves_at number rows ≡ leaves w.tree
own_leaves number rows w is = ap leaves_of is

rest_keeps : (u : Tree) (ys : List Awaited) → IsSubsequence (leaves u) ys → IsSubsequence (leaves (rest_of u)) ys
rest_keeps (Over f) ys h = tt
rest_keeps (Leaf on trig) ys h = h
rest_keeps (Cycles key left trig) ys h = h
rest_keeps (First ts) ys h = h
rest_keeps (Combine trig ts) ys h = h
rest_keeps (Limit due t) ys h = h

waitable_rest : (u : Tree) → step_of u ≡ Still → IsSettled u → has_edges (rest_of u) ≡ true → IsWaitable (rest_of u)
waitable_rest (Over f) still settled edges = absurd (cc)
waitable_rest (Leaf on trig) still settled edges = record { waits = refl; settled = settled; edges = edges }
waitable_rest (Cycles key left trig) still settled edges = record { waits = refl; settled = settled; edges = edges }
waitable_rest (First ts) still settled edges = record { waits = refl; settled = settled; edges = edges }
waitable_rest (Combine trig ts) still settled edges = record { waits = refl; settled = settled; edges = edges }
waitable_rest (Limit due t) still settled edges = record { waits = refl; settled = settled; edges = edges }

left_rest : (task : TaskNo) (u : Tree) → left_of task (rest_of u) (step_of u) ≡ left_of task u (step_of u)
left_rest task (Over f) = refl
left_rest task (Leaf on trig) = refl
left_rest task (Cycles key left trig) = refl
left_rest task (First ts) = refl
left_rest task (Combine trig ts) = refl
left_rest task (Limit due t) = refl

-- what a call does to trees
pub record Comes (come : Tree → Tree) : Type 0 where
  pub keeps : (t : Tree) → IsSubsequence (leaves (come t)) (leaves t)
  pub settled : (t : Tree) → IsSettled t → IsSettled (come t)
  pub edges : (t u : Tree) → u ≡ rest_of (come t) → has_edges t ≡ true → has_edges u ≡ true

pub fire_comes : (c : Cause) → Comes (fire c)
fire_comes c = record { keeps = leaves_keep_order.fires c; settled = stays_settled.fires c; edges = fired_edges c }

pub grant_comes : (l : LockNo) → Comes (grant l)
grant_comes l = record { keeps = leaves_keep_order.grants l; settled = stays_settled.grants l; edges = granted_edges l }

-- ---- a waiting task is told something

pub record TiedAt (number : ℕ) (causes : Slots) (rows : List Row) : Type 0 where
  pub front : List Row
  pub row : Row
  pub back : List Row
  pub is : rows ≡ front ++ row ∷ back
  pub of : row.number ≡ number
  pub tied : IsTied causes row
  pub others : AreTied causes (front ++ back)

pub tied_at : (number : ℕ) (causes : Slots) (rows : List Row) → HasRow number rows → AreTied causes rows → TiedAt number causes rows
tied_at number causes rows has tied =
    let s = split_at number rows has in
    let parts = tied_parts causes s.front (s.row ∷ s.back) (subst (AreTied causes) s.is tied) in
    record { front = s.front; row = s.row; back = s.back; is = s.is; of = s.of; tied = parts.1.0; others = tied_join causes s.front s.back parts.0 parts.1.1 }

module _ (come : Tree → Tree) (comes : Comes come) (number : ℕ) (step : Step) (ons : List Awaited) (old mid : Records) (has : HasRow number (rows_in old)) (kept : IsKept (state_in old))
    (answer : (w : Waiting) → entry_at number (rows_in old) ≡ Some w → step ≡ step_of (come w.tree))
    (are : (w : Waiting) → entry_at number (rows_in mid) ≡ Some w → ons ≡ leaves w.tree)
    (rows : (w : Waiting) → entry_at number (rows_in old) ≡ Some w → rows_in mid ≡ with_entry number (Some (record w { tree = rest_of (come w.tree) })) (rows_in old))
    (causes : causes_in mid ≡ causes_in old) where
  pub at : TiedAt number (causes_in old) (rows_in old)
  at = tied_at number (causes_in old) (rows_in old) has (tied_of (state_in old) kept)

  abbrev now : Waiting
  now = record at.tied.waiting { tree = rest_of (come at.tied.waiting.tree) }

  p : Placed number at.front at.row at.back
  p = placed_in old number at.front at.row at.back at.is at.of

  pub told_entry : entry_at number (rows_in old) ≡ Some at.tied.waiting
  told_entry = ap (entry_at number) at.is ∙ place_entry p ∙ at.tied.entry

  rows_mid : rows_in mid ≡ at.front ++ record at.row { entry = Some now } ∷ at.back
  rows_mid = rows at.tied.waiting told_entry ∙ ap (with_entry number (Some now)) at.is ∙ place_with p (Some now)

  p_mid : Placed number at.front (record at.row { entry = Some now }) at.back
  p_mid = placed_in mid number at.front (record at.row { entry = Some now }) at.back rows_mid at.of

  entry_mid : entry_at number (rows_in mid) ≡ Some now
  entry_mid = ap (entry_at number) rows_mid ∙ place_entry p_mid

  pub told_links : links_at number (rows_in mid) ≡ links_at number (rows_in old)
  told_links = ap (links_at number) rows_mid ∙ place_links p_mid ∙ sym (ap (links_at number) at.is ∙ place_links p)

  waiters_mid : (k : ℕ) → waiters_on k (rows_in mid) ≡ waiters_on k (rows_in old)
  waiters_mid k = ap (waiters_on k) rows_mid ∙ waiters_both k at.front (record at.row { entry = Some now } ∷ at.back) ∙ sym (waiters_both k at.front (at.row ∷ at.back)) ∙ ap (waiters_on k) (sym at.is)

  needed_mid : AllNeeded (state_in mid)
  needed_mid k some =
      let slot : get_or (causes_in mid) k None ≡ get_or (causes_in old) k None = ap (λ (cs : Slots). get_or cs k None) causes in
      still_needed k (state_in old) (state_in mid) slot (waiters_mid k) (needed_of (state_in old) kept k (λ none. some (slot ∙ none)))

  pub told_untied : Untied number step ons (state_in mid)
  told_untied = record {
    waiting = now;
    entry = entry_mid;
    are = are now entry_mid;
    before = leaves at.tied.waiting.tree;
    on = subst (λ (cs : Slots). AreOn cs (links_at number (rows_in mid)) (leaves at.tied.waiting.tree)) (sym causes)
        (subst (λ (ls : List Link). AreOn (causes_in old) ls (leaves at.tied.waiting.tree)) (sym (ap (links_at number) rows_mid ∙ place_links p_mid)) at.tied.on);
    keeps = subst (λ (xs : List Awaited). IsSubsequence xs (leaves at.tied.waiting.tree)) (sym (are now entry_mid)) (rest_keeps (come at.tied.waiting.tree) (leaves at.tied.waiting.tree) (comes.keeps at.tied.waiting.tree));
    tree = λ still.
        waitable_rest (come at.tied.waiting.tree) (sym (answer at.tied.waiting told_entry) ∙ still) (comes.settled at.tied.waiting.tree at.tied.tree.settled)
        (comes.edges at.tied.waiting.tree (rest_of (come at.tied.waiting.tree)) refl at.tied.tree.edges);
    others = subst (λ (cs : Slots). AreTied cs (without_row number (rows_in mid))) (sym causes)
        (subst (AreTied (causes_in old)) (sym (ap (without_row number) rows_mid ∙ place_without p_mid)) at.others);
    needed = needed_mid;
  }

  -- what it came to
  pub told_served : (new : List Row) → Settles number step (rows_in mid) new → Served number come (rows_in old) new
  told_served new s =
      let same = one_place number at.front s.changed.front (record at.row { entry = Some now }) s.row at.back s.changed.back
      (subst (λ (rs : List Row). IsApart (numbers_of rs)) rows_mid (rows_apart mid)) (sym rows_mid ∙ s.changed.was) at.of s.changed.of in
      let waiting : s.waiting ≡ now = same_Some s.waiting now (sym s.entry ∙ sym (ap (λ (r : Row). r.entry) same.rows)) in
      record {
        row = at.row;
        left = s.left;
        waiting = at.tied.waiting;
        entry = at.tied.entry;
        changed = record {
          front = at.front;
          back = at.back;
          of = at.of;
          was = at.is;
          now = s.changed.now ∙ ap (λ (rs : List Row). rs ++ (s.left ++ s.changed.back)) (sym same.fronts) ∙ ap (λ (rs : List Row). at.front ++ (s.left ++ rs)) (sym same.backs);
        };
        waits =
            s.waits ∙ ap (λ (w : Waiting). left_of w.task w.tree step) waiting
            ∙ ap (left_of at.tied.waiting.task (rest_of (come at.tied.waiting.tree))) (answer at.tied.waiting told_entry)
            ∙ left_rest at.tied.waiting.task (come at.tied.waiting.tree);
      }

  pub told_ready : (entries entries' : List Entry) → ((w : Waiting) → entry_at number (rows_in mid) ≡ Some w → entries' ≡ entries ++ entry_of w.task step)
      → (w : Waiting) → entry_at number (rows_in old) ≡ Some w → entries' ≡ entries ++ entry_of w.task (step_of (come w.tree))
  told_ready entries entries' ready w is =
      let same : at.tied.waiting ≡ w = same_Some _ _ (sym told_entry ∙ is) in
      ready now entry_mid ∙ ap (λ (task : TaskNo). entries ++ entry_of task step) (ap (λ (v : Waiting). v.task) same) ∙ ap (λ (st : Step). entries ++ entry_of w.task st) (answer w is)
