-- What is kept of a task: who has a record, and how the rows change where a tree is told something.
use Rattle.std.proofs.Common.{IfSome, IfNone, ◌≡◌, ◌≢◌, ℕ, List, [], ◌∷◌, map, true, false, Option, Some, None, IsSome, get_or, refl, sym, ap, ◌∙◌, subst, inl, inr, ◌==◌, eq-eqb, ne_eqb}
use Rattle.std.proofs.lemmas.Bool.{cases_eq, cond-true, cond-false}
use Rattle.std.proofs.lemmas.Option.{none-some, same_Some}
use Rattle.await_tree.specs.Steps.{rest_of, step_of}
use Rattle.await_tree.specs.WaitList.Waiting.{Waiting}
use Rattle.py_value.specs.declared.trigger.TaskNo.{TaskNo}
use Rattle.await_tree.specs.Tree as tree
use Rattle.await_tree.specs.declared.cause.Awaited.{Awaited}
use Rattle.await_tree.specs.Whole.{tree_in}
use Rattle.await_tree.specs.declared.cause.Step.{Step}
use Rattle.trigger_table.specs.Entries.{HasCause, HasTask, Told}
use Rattle.trigger_table.specs.Indexed.{Sets}
use Rattle.trigger_table.specs.Kept.{link_of, row_of, rows_of, kept_as, IsSound}
use Rattle.trigger_table.specs.Links.{IsIn, IsApart}
use Rattle.trigger_table.specs.Records.{causes_in, rows_in}
use Rattle.trigger_table.specs.Serving.{leaves_at, leaves_of}
use Rattle.trigger_table.specs.Tied.{Shrinks}
use Rattle.trigger_table.specs.declared.records.Records.{Records}
use Rattle.trigger_table.proofs.RingLemmas.{tidy}
use Rattle.trigger_table.specs.Rings.{items, IsTidy}
use Rattle.trigger_table.specs.State.{Link, Row, HasRow, IsAbsent, entry_at, numbers_of, waiters_on, with_entry}
use Rattle.trigger_table.specs.declared.entries.CauseRecord.{CauseRecord}
use Rattle.trigger_table.specs.declared.entries.TaskRecord.{TaskRecord}
use Rattle.trigger_table.specs.declared.rings.Rings.{Rings}
use Rattle.trigger_table.proofs.ListLemmas.{map_on, map_map}
use Rattle.trigger_table.proofs.KeptLemmas.{not_some, listed_row, entry_at_row, numbers_are, some_is, waiters_on_chain}
use Rattle.trigger_table.proofs.NameLemmas.{one_cause}
use Rattle.trigger_table.proofs.TaskLemmas.{one_task}

abbrev Slots : Type 0 → Type 0
Slots T = List (Option T)

-- ---- what is kept of a task changes

abbrev record_of : TaskRecord → Waiting
record_of kept = record { task = kept.task; tree = tree_in kept.tree }

module _ (causes : Slots CauseRecord) (tasks tasks' : Slots TaskRecord) (waiters : Slots (Unit {0})) (bc bt o : Rings) (s : IsSound causes tasks waiters bc bt o) (r : ℕ) (new : TaskRecord) (had : IsSome (get_or tasks r None)) (sets : Sets tasks tasks' r (Some new)) where
  some_still : (n : ℕ) → IsSome (get_or tasks n None) → IsSome (get_or tasks' n None)
  some_still n some =
      elim (cases_eq n r) [
        | inl same ↦ subst IsSome (sym (ap (λ j. get_or tasks' j None) same ∙ sets.changed)) refl
        | inr differs ↦ subst IsSome (sym (sets.others n differs)) some
      ]

  some_before : (n : ℕ) → IsSome (get_or tasks' n None) → IsSome (get_or tasks n None)
  some_before n some =
      elim (cases_eq n r) [
        | inl same ↦ subst (λ j. IsSome (get_or tasks j None)) (sym same) had
        | inr differs ↦ subst IsSome (sets.others n differs) some
      ]

  pub sound_entry : IsSound causes tasks' waiters bc bt o
  sound_entry =
      record {
        ordered = λ n is. s.ordered n (some_before n is);
        kept = λ n l is. let was = s.kept n l is in (was.0, some_still n was.1);
        of_task = λ k n is. let was = s.of_task k n is in (some_still n was.0, was.1, was.2);
        of_cause = s.of_cause;
        task_room = λ n is. s.task_room n (some_before n is);
        chains = s.chains;
      }

  pub rows_entry : rows_of tasks' bc bt o ≡ with_entry r (kept_as (Some new)) (rows_of tasks bc bt o)
  unfolding row_of
  rows_entry =
      map_on _ _ (items o 0) (λ n _.
      elim (cases_eq n r) [
        | inl same ↦
            ap (λ e. let row : Row = record { number = n; entry = kept_as e; links = map (link_of bc) (items bt n) } in row) (ap (λ j. get_or tasks' j None) same ∙ sets.changed)
            ∙ sym (cond-true (n == r) _ _ (eq-eqb n r same))
        | inr differs ↦
            ap (λ e. let row : Row = record { number = n; entry = kept_as e; links = map (link_of bc) (items bt n) } in row) (sets.others n differs)
            ∙ sym (cond-false (n == r) _ _ (ne_eqb n r differs))
      ])
      ∙ sym (map_map (row_of tasks bc bt) _ (items o 0))

module _ (causes : Slots CauseRecord) (tasks : Slots TaskRecord) (waiters : Slots (Unit {0})) (bc bt o : Rings) (s : IsSound causes tasks waiters bc bt o) (tidy_task : IsTidy bt) (tidy_order : IsTidy o) where
  -- a waiting task has a record
  pub kept_row : (r : ℕ) → HasRow r (rows_of tasks bc bt o) → IsSome (get_or tasks r None)
  kept_row r has = (s.kept r 0 (tidy_order.owned r 0 (listed_row causes tasks waiters bc bt o s tidy_task r has))).1

  pub kept_of : (r : ℕ) → HasRow r (rows_of tasks bc bt o) → (kept : TaskRecord) × (get_or tasks r None ≡ Some kept)
  kept_of r has = go (get_or tasks r None) refl (kept_row r has)
    where
      go : (slot : Option TaskRecord) → get_or tasks r None ≡ slot → IsSome slot → (kept : TaskRecord) × (slot ≡ Some kept)
      go None is some = absurd (let f : false ≡ true = some in cc)
      go (Some kept) is some = (kept, refl)

  pub entry_is : (r : ℕ) → HasRow r (rows_of tasks bc bt o) → entry_at r (rows_of tasks bc bt o) ≡ kept_as (get_or tasks r None)
  entry_is r has = entry_at_row causes tasks waiters bc bt o s tidy_task r (listed_row causes tasks waiters bc bt o s tidy_task r has)

  row_of_kept : (r : ℕ) (kept : TaskRecord) → get_or tasks r None ≡ Some kept → IsIn r (items o 0)
  row_of_kept r kept is = tidy_order.listed r 0 (s.ordered r (subst IsSome (sym is) refl))

  pub kept_has_row : (r : ℕ) (kept : TaskRecord) → get_or tasks r None ≡ Some kept → HasRow r (rows_of tasks bc bt o)
  kept_has_row r kept is = subst (IsIn r) (sym (numbers_are causes tasks waiters bc bt o s tidy_task)) (row_of_kept r kept is)

  pub kept_entry : (r : ℕ) (kept : TaskRecord) → get_or tasks r None ≡ Some kept → entry_at r (rows_of tasks bc bt o) ≡ kept_as (Some kept)
  kept_entry r kept is = entry_is r (kept_has_row r kept is) ∙ ap kept_as is

  -- no record of a task where it doesn't wait
  pub absent_task : (task : TaskNo) → IsAbsent task (rows_of tasks bc bt o) → (number : ℕ) → ¬ HasTask tasks number task
  absent_task task absent number has = absent number (record { task = has.0.task; tree = tree_in has.0.tree }) (kept_entry number has.0 has.1) has.2

  no_entry : (r : ℕ) (xs : List ℕ) → ¬ IsIn r xs → entry_at r (map (row_of tasks bc bt) xs) ≡ None
  unfolding row_of
  no_entry r [] off = refl
  no_entry r (x ∷ xs) off = cond-false (x == r) _ _ (ne_eqb x r (λ same. off (inl same))) ∙ no_entry r xs (λ there. off (inr there))

  -- who waits has a record
  pub entry_kept : (r : ℕ) (w : Waiting) → entry_at r (rows_of tasks bc bt o) ≡ Some w → (kept : TaskRecord) × (get_or tasks r None ≡ Some kept) × (kept_as (Some kept) ≡ Some w)
  entry_kept r w is = go (get_or tasks r None) refl
    where
      go : (slot : Option TaskRecord) → get_or tasks r None ≡ slot → (kept : TaskRecord) × (get_or tasks r None ≡ Some kept) × (kept_as (Some kept) ≡ Some w)
      go (Some kept) slot = (kept, slot, sym (kept_entry r kept slot) ∙ is)
      go None slot =
          let off : ¬ IsIn r (items o 0) = λ found. not_some _ slot (s.kept r 0 (tidy_order.owned r 0 found)).1 in
          absurd (none-some w (sym (no_entry r (items o 0) off) ∙ is))

  pub nobody : (task : TaskNo) → ((number : ℕ) → ¬ HasTask tasks number task) → IsAbsent task (rows_of tasks bc bt o)
  nobody task none number w is same =
      let one = entry_kept number w is in
      none number (one.0, one.1, ap (λ (o : Waiting). o.task) (same_Some _ _ one.2) ∙ same)

  pub found_row : (task : TaskNo) (res : Option ℕ) → IfSome res (λ number. HasTask tasks number task) → IfSome res (λ number. HasRow number (rows_of tasks bc bt o))
  found_row task None has = tt
  found_row task (Some number) has = kept_has_row number has.0 has.1

  pub found_entry : (task : TaskNo) (res : Option ℕ) → IfSome res (λ number. HasTask tasks number task) → IfSome res (λ number. (w : Waiting) × (entry_at number (rows_of tasks bc bt o) ≡ Some w) × (w.task ≡ task))
  found_entry task None has = tt
  found_entry task (Some number) has = (record { task = has.0.task; tree = tree_in has.0.tree }, kept_entry number has.0 has.1, has.2)

  pub found_none : (task : TaskNo) (res : Option ℕ) → IfNone res ((number : ℕ) → ¬ HasTask tasks number task) → IfNone res (IsAbsent task (rows_of tasks bc bt o))
  found_none task None none = nobody task none
  found_none task (Some number) none = tt

  -- what is told of a record is told of the task
  pub told_answer : (tasks' : Slots TaskRecord) (r : ℕ) (come : tree.Tree → tree.Tree) (answer : Step) → ((kept : TaskRecord) → get_or tasks r None ≡ Some kept → Told tasks tasks' r kept.task (come (tree_in kept.tree)) answer) → (w : Waiting) → entry_at r (rows_of tasks bc bt o) ≡ Some w → answer ≡ step_of (come w.tree)
  told_answer tasks' r come answer told w is =
      let one = entry_kept r w is in
      (told one.0 one.1).answers ∙ ap (λ (v : Waiting). step_of (come v.tree)) (same_Some _ _ one.2)

  pub told_sound : (tasks' : Slots TaskRecord) (r : ℕ) (come : tree.Tree → tree.Tree) (answer : Step) → ((kept : TaskRecord) → get_or tasks r None ≡ Some kept → Told tasks tasks' r kept.task (come (tree_in kept.tree)) answer) → HasRow r (rows_of tasks bc bt o) → IsSound causes tasks' waiters bc bt o
  told_sound tasks' r come answer told has =
      let one = kept_of r has in
      let t = told one.0 one.1 in
      sound_entry causes tasks tasks' waiters bc bt o s r t.kept (kept_row r has) t.sets

  pub told_rows : (tasks' : Slots TaskRecord) (r : ℕ) (come : tree.Tree → tree.Tree) (answer : Step) → ((kept : TaskRecord) → get_or tasks r None ≡ Some kept → Told tasks tasks' r kept.task (come (tree_in kept.tree)) answer) → HasRow r (rows_of tasks bc bt o) → (w : Waiting) → entry_at r (rows_of tasks bc bt o) ≡ Some w → rows_of tasks' bc bt o ≡ with_entry r (Some (record w { tree = rest_of (come w.tree) })) (rows_of tasks bc bt o)
  told_rows tasks' r come answer told has w is =
      let one = entry_kept r w is in
      let t = told one.0 one.1 in
      let v : record_of one.0 ≡ w = same_Some _ _ one.2 in
      let made : kept_as (Some t.kept) ≡ Some (record w { tree = rest_of (come w.tree) }) =
      ap (λ (n : TaskNo). let x : Waiting = record { task = n; tree = tree_in t.kept.tree } in Some x) t.of
      ∙ ap (λ (x : tree.Tree). let y : Waiting = record { task = one.0.task; tree = x } in Some y) t.rest
      ∙ ap (λ (x : Waiting). let y : Waiting = record x { tree = rest_of (come x.tree) } in Some y) v in
      rows_entry causes tasks tasks' waiters bc bt o s r t.kept (kept_row r has) t.sets ∙ ap (λ e. with_entry r e (rows_of tasks bc bt o)) made

  -- what is told of a record's leaves is told of the task's
  row_kept : (r : ℕ) (has : HasRow r (rows_of tasks bc bt o)) → leaves_at r (rows_of tasks bc bt o) ≡ tree.leaves (tree_in (kept_of r has).0.tree)
  row_kept r has = ap leaves_of (entry_is r has ∙ ap kept_as (kept_of r has).1)

  pub row_leaves : (r : ℕ) (found : List Awaited) → ((kept : TaskRecord) → get_or tasks r None ≡ Some kept → found ≡ tree.leaves (tree_in kept.tree)) → HasRow r (rows_of tasks bc bt o) → found ≡ leaves_at r (rows_of tasks bc bt o)
  row_leaves r found told has = told (kept_of r has).0 (kept_of r has).1 ∙ sym (row_kept r has)

  pub row_lone : (r : ℕ) (found : Option Awaited) → ((kept : TaskRecord) → get_or tasks r None ≡ Some kept → IfSome found (λ on. tree.leaves (tree_in kept.tree) ≡ on ∷ [])) → HasRow r (rows_of tasks bc bt o) → IfSome found (λ on. leaves_at r (rows_of tasks bc bt o) ≡ on ∷ [])
  row_lone r found told has = subst (λ (xs : List Awaited). IfSome found (λ on. xs ≡ on ∷ [])) (sym (row_kept r has)) (told (kept_of r has).0 (kept_of r has).1)

-- a record that there is
pub some_cause : (causes : Slots CauseRecord) (number : ℕ) → get_or causes number None ≢ None → (kept : CauseRecord) × (get_or causes number None ≡ Some kept)
some_cause causes number some = go (get_or causes number None) refl some
  where
    go : (slot : Option CauseRecord) → get_or causes number None ≡ slot → slot ≢ None → (kept : CauseRecord) × (slot ≡ Some kept)
    go None is some = absurd (some refl)
    go (Some kept) is some = (kept, refl)

-- no two tasks have one number
pub rows_apart : (records : Records) → IsApart (numbers_of (rows_in records))
unfolding rows_in
rows_apart records =
    subst IsApart (sym (numbers_are records.causes.slab.slots records.tasks.slab.slots records.waiters.slots records.by_cause records.by_task records.order records.sound (tidy records.by_task))) ((tidy records.order).apart 0)

-- what a waiter is on has a record
pub waited_known : (records : Records) (n : ℕ) → waiters_on n (rows_in records) ≢ [] → (kept : CauseRecord) × (get_or (causes_in records) n None ≡ Some kept)
unfolding rows_in
waited_known records n some =
    some_cause records.causes.slab.slots n (some_is (get_or records.causes.slab.slots n None) (there (items records.by_cause n) refl))
  where
    chain : map (λ (link : Link). link.waiter) (waiters_on n (rows_in records)) ≡ items records.by_cause n
    chain = waiters_on_chain records.causes.slab.slots records.tasks.slab.slots records.waiters.slots records.by_cause records.by_task records.order records.sound (tidy records.by_task) n

    bare : (links : List Link) → map (λ (link : Link). link.waiter) links ≡ [] → links ≡ []
    bare [] h = refl
    bare (link ∷ links) h = absurd (cc)

    there : (xs : List ℕ) → items records.by_cause n ≡ xs → IsSome (get_or records.causes.slab.slots n None)
    there [] is = absurd (some (bare (waiters_on n (rows_in records)) (chain ∙ is)))
    there (w ∷ ws) is = (records.sound.of_cause w n ((tidy records.by_cause).owned w n (subst (IsIn w) (sym is) (inl refl)))).0

-- where records only went, those stayed that a waiter is on
pub waited_stay : (old : Slots CauseRecord) (records : Records) → Shrinks old (causes_in records) → (n : ℕ) → waiters_on n (rows_in records) ≢ [] → get_or (causes_in records) n None ≡ get_or old n None
waited_stay old records shrinks n some = let one = waited_known records n some in one.1 ∙ sym (shrinks n one.0 one.1)

-- no two tasks that wait are one
pub tasks_apart : (records : Records) (m n : ℕ) (v w : Waiting) → entry_at m (rows_in records) ≡ Some v → entry_at n (rows_in records) ≡ Some w → v.task ≡ w.task → m ≡ n
unfolding rows_in
tasks_apart records m n v w is at same =
    let s = records.sound in
    let one = entry_kept _ _ _ _ _ _ s (tidy records.by_task) (tidy records.order) m v is in
    let two = entry_kept _ _ _ _ _ _ s (tidy records.by_task) (tidy records.order) n w at in
    one_task records.tasks.slab.slots records.tasks.index records.tasks.indexed v.task m n
    (one.0, one.1, ap (λ (x : Waiting). x.task) (same_Some _ _ one.2))
    (two.0, two.1, ap (λ (x : Waiting). x.task) (same_Some _ _ two.2) ∙ sym same)

-- no two records are of one cause
pub causes_apart : (records : Records) (on : Awaited) (m n : ℕ) → HasCause (causes_in records) m on → HasCause (causes_in records) n on → m ≡ n
causes_apart records on m n one two = one_cause records.causes.slab.slots records.causes.index records.causes.indexed on m n one two
