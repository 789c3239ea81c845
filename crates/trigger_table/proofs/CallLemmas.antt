-- What the calls of the table leave of its records, and how much there is to do.
use Rattle.std.proofs.Common.{◌≡◌, ℕ, suc, ◌+◌, ◌≤◌, Bool, true, false, cond, List, [], ◌∷◌, ◌++◌, length, Option, Some, None, slice_get, refl, sym, ap, ◌∙◌, subst, inl, inr, arith, ◌==◌, eq-eqb, ne_eqb, length-append}
use Rattle.std.proofs.lemmas.Bool.{cases_eq, cond-true, cond-false}
use Rattle.std.proofs.lemmas.Option.{none-some, same_Some}
use Rattle.py_value.specs.declared.trigger.TaskNo.{TaskNo}
use Rattle.await_tree.specs.Tree.{leaves}
use Rattle.await_tree.specs.WaitList.Waiting.{Waiting, is_of, without_task}
use Rattle.await_tree.specs.declared.cause.Awaited.{Awaited}
use Rattle.trigger_table.specs.Records.{causes_in, rows_in, state_in}
use Rattle.trigger_table.specs.State.{AllNeeded, HasRow, Link, Row, State, entry_at, links_at, links_of, numbers_of, without_row}
use Rattle.trigger_table.specs.Tied.{AreOn, AreTied, IsKept, IsTied, Shrinks, entry_list, waiting_in}
use Rattle.trigger_table.specs.Work.{leaf_count, of_task}
use Rattle.trigger_table.specs.declared.entries.CauseRecord.{CauseRecord}
use Rattle.trigger_table.specs.declared.records.Records.{Records}
use Rattle.trigger_table.proofs.EntryLemmas.{rows_apart, tasks_apart, waited_stay}
use Rattle.trigger_table.proofs.RowLemmas.{kept, out}
use Rattle.trigger_table.proofs.TieLemmas.{kept_of, tied_agree, tied_of, tied_without, waiting_without}

abbrev Slots : Type 0
Slots = List (Option CauseRecord)

-- ---- a task has left

pub dropped_tied : (n : ℕ) (causes : Slots) (rows : List Row) (new : Records) → rows_in new ≡ without_row n rows → Shrinks causes (causes_in new) → AreTied causes rows → AreTied (causes_in new) (rows_in new)
dropped_tied n causes rows new is shrinks tied =
    tied_agree causes (causes_in new) (rows_in new) (waited_stay causes new shrinks) (subst (AreTied causes) (sym is) (tied_without causes n rows tied))

pub dropped_kept : (n : ℕ) (s : State) (new : Records) → rows_in new ≡ without_row n s.rows → Shrinks s.causes (causes_in new) → AllNeeded (state_in new) → IsKept s → IsKept (state_in new)
dropped_kept n s new is shrinks needed kept_s = kept_of (state_in new) needed (dropped_tied n s.causes s.rows new is shrinks (tied_of s kept_s))

pub dropped_waiting : (records : Records) (n : ℕ) (w : Waiting) (task : TaskNo) (rows : List Row) → entry_at n (rows_in records) ≡ Some w → w.task ≡ task → rows ≡ without_row n (rows_in records) → waiting_in rows ≡ without_task task (waiting_in (rows_in records))
dropped_waiting records n w task rows is of gone =
    ap waiting_in gone
    ∙ waiting_without n task (rows_in records) (rows_apart records)
    (λ v at. ap (λ (x : Waiting). x.task) (same_Some v w (sym at ∙ is)) ∙ of)
    (λ m v at same. tasks_apart records m n v w at is (same ∙ sym of))

pub fewer_rows : (n : ℕ) (rows : List Row) → length (without_row n rows) ≤ length rows
fewer_rows n [] = omega arith
fewer_rows n (row ∷ rows) =
    elim (cases_eq row.number n) [
      | inl same ↦ let e = ap length (out n row rows same) in omega (arith, e, fewer_rows n rows)
      | inr differs ↦ let e = ap length (kept n row rows differs) in omega (arith, e, fewer_rows n rows)
    ]

-- ---- how much there is to do

pub on_count : (causes : Slots) (links : List Link) (ons : List Awaited) → AreOn causes links ons → length links ≡ length ons
on_count causes [] [] h = refl
on_count causes [] (on ∷ ons) h = absurd h
on_count causes (link ∷ links) [] h = absurd h
on_count causes (link ∷ links) (on ∷ ons) h = ap suc (on_count causes links ons h.1)

row_waiting : (causes : Slots) (row : Row) (rows : List Row) → (t : IsTied causes row) → waiting_in (row ∷ rows) ≡ t.waiting ∷ waiting_in rows
row_waiting causes row rows t = ap (λ (e : Option Waiting). entry_list e ++ waiting_in rows) t.entry

pub leaves_counted : (causes : Slots) (rows : List Row) → AreTied causes rows → length (links_of rows) ≡ leaf_count (waiting_in rows)
leaves_counted causes [] h = refl
leaves_counted causes (row ∷ rows) h =
    let own = on_count causes row.links (leaves h.0.waiting.tree) h.0.on in
    let rest = leaves_counted causes rows h.1 in
    let split = length-append row.links (links_of rows) in
    let all = ap leaf_count (row_waiting causes row rows h.0) in
    omega (arith, own, rest, split, all)

pub rows_counted : (causes : Slots) (rows : List Row) → AreTied causes rows → length rows ≡ length (waiting_in rows)
rows_counted causes [] h = refl
rows_counted causes (row ∷ rows) h =
    let rest = rows_counted causes rows h.1 in
    let all = ap length (row_waiting causes row rows h.0) in
    omega (arith, rest, all)

links_in : (n : ℕ) (causes : Slots) (rows : List Row) (w : Waiting) → AreTied causes rows → entry_at n rows ≡ Some w → length (links_at n rows) ≡ length (leaves w.tree)
links_in n causes [] w h is = absurd (none-some w is)
links_in n causes (row ∷ rows) w h is =
    elim (cases_eq row.number n) [
      | inl same ↦
          let e : h.0.waiting ≡ w = same_Some _ _ (sym h.0.entry ∙ sym (cond-true (row.number == n) _ _ (eq-eqb row.number n same)) ∙ is) in
          let l : links_at n (row ∷ rows) ≡ row.links = cond-true (row.number == n) _ _ (eq-eqb row.number n same) in
          ap length l ∙ on_count causes row.links (leaves h.0.waiting.tree) h.0.on ∙ ap (λ (v : Waiting). length (leaves v.tree)) e
      | inr differs ↦
          let l : links_at n (row ∷ rows) ≡ links_at n rows = cond-false (row.number == n) _ _ (ne_eqb row.number n differs) in
          let e : entry_at n rows ≡ Some w = sym (cond-false (row.number == n) _ _ (ne_eqb row.number n differs)) ∙ is in
          ap length l ∙ links_in n causes rows w h.1 e
    ]

own_counted : (n : ℕ) (causes : Slots) (rows : List Row) (w : Waiting) (task : TaskNo) → AreTied causes rows → entry_at n rows ≡ Some w → w.task ≡ task → length (leaves w.tree) ≤ leaf_count (of_task task (waiting_in rows))
own_counted n causes [] w task h is of = absurd (none-some w is)
own_counted n causes (row ∷ rows) w task h is of =
    let all : leaf_count (of_task task (waiting_in (row ∷ rows))) ≡ leaf_count (of_task task (h.0.waiting ∷ waiting_in rows)) = ap (λ (ws : List Waiting). leaf_count (of_task task ws)) (row_waiting causes row rows h.0) in
    elim (cases_eq row.number n) [
      | inl same ↦
          let e : h.0.waiting ≡ w = same_Some _ _ (sym h.0.entry ∙ sym (cond-true (row.number == n) _ _ (eq-eqb row.number n same)) ∙ is) in
          let own : is_of task h.0.waiting ≡ true = eq-eqb h.0.waiting.task.0 task.0 (ap (λ (v : Waiting). v.task.0) e ∙ ap (λ (t : TaskNo). t.0) of) in
          let more : leaf_count (of_task task (h.0.waiting ∷ waiting_in rows)) ≡ length (leaves h.0.waiting.tree) + leaf_count (of_task task (waiting_in rows)) = ap (λ (b : Bool). leaf_count (cond b (h.0.waiting ∷ of_task task (waiting_in rows)) (of_task task (waiting_in rows)))) own in
          let size : length (leaves h.0.waiting.tree) ≡ length (leaves w.tree) = ap (λ (v : Waiting). length (leaves v.tree)) e in
          omega (arith, all, more, size)
      | inr differs ↦
          let e : entry_at n rows ≡ Some w = sym (cond-false (row.number == n) _ _ (ne_eqb row.number n differs)) ∙ is in
          let later = own_counted n causes rows w task h.1 e of in
          let more : leaf_count (of_task task (waiting_in rows)) ≤ leaf_count (of_task task (h.0.waiting ∷ waiting_in rows)) = grown (is_of task h.0.waiting) in
          omega (arith, all, later, more)
    ]
  where
    grown : (b : Bool) → leaf_count (of_task task (waiting_in rows)) ≤ leaf_count (cond b (h.0.waiting ∷ of_task task (waiting_in rows)) (of_task task (waiting_in rows)))
    grown true = omega arith
    grown false = omega arith

-- a task has as many waiters as its tree has leaves
pub task_links : (n : ℕ) (s : State) (w : Waiting) (task : TaskNo) → IsKept s → entry_at n s.rows ≡ Some w → w.task ≡ task → length (links_at n s.rows) ≤ leaf_count (of_task task (waiting_in s.rows))
task_links n s w task kept_s is of =
    let tied = tied_of s kept_s in
    let links = links_in n s.causes s.rows w tied is in
    let own = own_counted n s.causes s.rows w task tied is of in
    omega (arith, links, own)

pub links_counted : (s : State) → IsKept s → length (links_of s.rows) ≡ leaf_count (waiting_in s.rows)
links_counted s kept_s = leaves_counted s.causes s.rows (tied_of s kept_s)

pub tasks_counted : (s : State) → IsKept s → length s.rows ≡ length (waiting_in s.rows)
tasks_counted s kept_s = rows_counted s.causes s.rows (tied_of s kept_s)

-- a task that leaves takes its waiters with it
pub record LessWork (n : ℕ) (old new : List Row) : Type 0 where
  pub tasks : length new + 1 ≤ length old
  pub links : length (links_of new) + length (links_at n old) ≤ length (links_of old)

pub less_work : (n : ℕ) (rows : List Row) → HasRow n rows → LessWork n rows (without_row n rows)
less_work n [] has = absurd has
less_work n (row ∷ rows) has =
    let split = length-append row.links (links_of rows) in
    elim (cases_eq row.number n) [
      | inl same ↦
          let gone = out n row rows same in
          let l : links_at n (row ∷ rows) ≡ row.links = cond-true (row.number == n) _ _ (eq-eqb row.number n same) in
          record {
            tasks = omega (arith, ap length gone, fewer_rows n rows);
            links = omega (arith, ap (λ (rs : List Row). length (links_of rs)) gone, fewer_links n rows, split, ap length l);
          }
      | inr differs ↦
          let stays = kept n row rows differs in
          let there : HasRow n rows = elim has [ inl same ↦ absurd (differs same) | inr there ↦ there ] in
          let later = less_work n rows there in
          let l : links_at n (row ∷ rows) ≡ links_at n rows = cond-false (row.number == n) _ _ (ne_eqb row.number n differs) in
          record {
            tasks = omega (arith, ap length stays, later.tasks);
            links = omega (arith, ap (λ (rs : List Row). length (links_of rs)) stays, later.links, split, ap length l, length-append row.links (links_of (without_row n rows)));
          }
    ]
  where
    fewer_links : (m : ℕ) (rs : List Row) → length (links_of (without_row m rs)) ≤ length (links_of rs)
    fewer_links m [] = omega arith
    fewer_links m (r ∷ rs) =
        elim (cases_eq r.number m) [
          | inl same ↦ omega (arith, ap (λ (xs : List Row). length (links_of xs)) (out m r rs same), fewer_links m rs, length-append r.links (links_of rs))
          | inr differs ↦ omega (arith, ap (λ (xs : List Row). length (links_of xs)) (kept m r rs differs), fewer_links m rs, length-append r.links (links_of rs), length-append r.links (links_of (without_row m rs)))
        ]

pub first_row : (rows : List Row) (n : ℕ) → Some n ≡ slice_get (numbers_of rows) 0 → HasRow n rows
first_row [] n is = absurd (none-some n (sym is))
first_row (row ∷ rows) n is = inl (same_Some row.number n (sym is))

pub no_row : (rows : List Row) → None ≡ slice_get (numbers_of rows) 0 → rows ≡ []
no_row [] is = refl
no_row (row ∷ rows) is = absurd (none-some row.number is)
