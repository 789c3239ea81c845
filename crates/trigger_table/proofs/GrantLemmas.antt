-- A lock is handed to the first task that waits for it.
use Rattle.std.proofs.Common.{◌≡◌, ℕ, ◌<◌, ◌≤◌, Bool, true, ◌||◌, List, [], ◌∷◌, ◌++◌, length, filter, take, Some, None, slice_get, refl, sym, ap, ◌∙◌, subst, arith, length-append}
use Rattle.std.proofs.lemmas.Bool.{cond-true}
use Rattle.std.proofs.lemmas.Option.{same_Some}
use Rattle.await_tree.specs.Fire.{grant}
use Rattle.await_tree.specs.Steps.{step_of}
use Rattle.await_tree.specs.Tree.{leaves}
use Rattle.await_tree.specs.WaitList.Waiting.{Granted, Waiting, entry_of, granted, is_wanted, left_of, wants}
use Rattle.await_tree.specs.declared.cause.Awaited.TheVariants as awaited
use Rattle.await_tree.specs.declared.wait_list.ready.Entry.{Entry}
use Rattle.py_value.specs.declared.trigger.LockNo.{LockNo}
use Rattle.trigger_table.specs.Entries.{HasCause}
use Rattle.trigger_table.specs.Links.{IsApart}
use Rattle.trigger_table.specs.Members.{members_on}
use Rattle.trigger_table.specs.Records.{causes_in, rows_in, state_in}
use Rattle.trigger_table.specs.Serving.{Served}
use Rattle.trigger_table.specs.State.{HasRow, Row, entry_at, links_at, numbers_of}
use Rattle.trigger_table.specs.Tied.{AreTied, IsKept, IsTied, waiting_in}
use Rattle.trigger_table.specs.Work.{first_wanting, leaf_count}
use Rattle.trigger_table.specs.declared.members.Member.{Member}
use Rattle.trigger_table.specs.declared.records.Records.{Records}
use Rattle.trigger_table.proofs.CallLemmas.{on_count}
use Rattle.trigger_table.proofs.EntryLemmas.{causes_apart, rows_apart}
use Rattle.trigger_table.proofs.FireLemmas.{Unwanted, unwanted}
use Rattle.trigger_table.proofs.PlaceLemmas.{Same, one_place, place_entry}
use Rattle.trigger_table.proofs.ServeLemmas.{FirstOn, all_rows, first_on_rows, left_few, none_on_rows, on_leaves, row_at, row_waiting, rows_off, served_has, served_links, served_some, tied_count, waiting_both}
use Rattle.trigger_table.proofs.SettleLemmas.{tied_parts}
use Rattle.trigger_table.proofs.TieLemmas.{tied_of}

-- nobody waits for it
pub nobody_wants : (lock : LockNo) (n : ℕ) (records : Records) → IsKept (state_in records) → HasCause (causes_in records) n (awaited.Lock lock) → None ≡ slice_get (members_on n (rows_in records)) 0 → Unwanted lock (waiting_in (rows_in records))
nobody_wants lock n records kept of none =
    unwanted lock (waiting_in (rows_in records))
    (rows_off (causes_in records) n (awaited.Lock lock) (rows_in records) (λ k has. causes_apart records (awaited.Lock lock) k n has of) (tied_of (state_in records) kept) (none_on_rows n (rows_in records) none))

pub record Hands (lock : LockNo) (old new : List Row) (entries entries' : List Entry) : Type 0 where
  pub wanted : is_wanted lock (waiting_in old) ≡ true
  pub waiting : waiting_in new ≡ (granted lock (waiting_in old)).waiting
  pub ready : entries' ≡ entries ++ (granted lock (waiting_in old)).entries
  pub few : length new ≤ length old

module _ (lock : LockNo) (n : ℕ) (m : Member) (old : Records) (kept : IsKept (state_in old)) (of : HasCause (causes_in old) n (awaited.Lock lock)) (next : Some m ≡ slice_get (members_on n (rows_in old)) 0) where
  f : FirstOn n (rows_in old) m
  f = first_on_rows n (rows_in old) m next

  pub hand_has : HasRow m.number (rows_in old)
  hand_has = served_has old n [] (rows_in old) m refl f

  pub hand_some : 0 < length (links_at m.number (rows_in old))
  hand_some = served_some old n [] (rows_in old) m refl f

  tied_split : AreTied (causes_in old) (f.skip ++ f.row ∷ f.back)
  tied_split = subst (AreTied (causes_in old)) f.is (tied_of (state_in old) kept)

  tied_row : IsTied (causes_in old) f.row
  tied_row = (tied_parts (causes_in old) f.skip (f.row ∷ f.back) tied_split).1.0

  off : Unwanted lock (waiting_in f.skip)
  off = unwanted lock (waiting_in f.skip)
      (rows_off (causes_in old) n (awaited.Lock lock) f.skip (λ k has. causes_apart old (awaited.Lock lock) k n has of) (tied_parts (causes_in old) f.skip (f.row ∷ f.back) tied_split).0 f.none)

  wanted_tree : wants lock tied_row.waiting.tree ≡ true
  wanted_tree = on_leaves (causes_in old) n (awaited.Lock lock) f.row.links (leaves tied_row.waiting.tree) of tied_row.on f.some

  waiting_is : waiting_in (rows_in old) ≡ waiting_in f.skip ++ tied_row.waiting ∷ waiting_in f.back
  waiting_is = ap waiting_in f.is ∙ waiting_both f.skip (f.row ∷ f.back) ∙ ap (λ (ws : List Waiting). waiting_in f.skip ++ ws) (row_waiting (causes_in old) f.row f.back tied_row)

  granted_is : granted lock (waiting_in (rows_in old)) ≡ record {
    entries = entry_of tied_row.waiting.task (step_of (grant lock tied_row.waiting.tree));
    waiting = waiting_in f.skip ++ (left_of tied_row.waiting.task (grant lock tied_row.waiting.tree) (step_of (grant lock tied_row.waiting.tree)) ++ waiting_in f.back);
  }
  granted_is =
      ap (granted lock) waiting_is ∙ off.passed (tied_row.waiting ∷ waiting_in f.back)
      ∙ ap (λ (g : Granted). let x : Granted = record { entries = g.entries; waiting = waiting_in f.skip ++ g.waiting } in x) (cond-true (wants lock tied_row.waiting.tree) _ _ wanted_tree)

  pub hand_work : leaf_count (first_wanting lock (waiting_in (rows_in old))) ≡ length (links_at m.number (rows_in old))
  hand_work =
      let first : first_wanting lock (waiting_in (rows_in old)) ≡ tied_row.waiting ∷ [] =
      ap (first_wanting lock) waiting_is ∙ off.later (tied_row.waiting ∷ waiting_in f.back)
      ∙ ap (take 1) (cond-true (wants lock tied_row.waiting.tree) (tied_row.waiting ∷ filter (λ (v : Waiting). wants lock v.tree) (waiting_in f.back)) (filter (λ (v : Waiting). wants lock v.tree) (waiting_in f.back)) wanted_tree) in
      omega (arith, ap leaf_count first, ap length (served_links old n [] (rows_in old) m refl f), on_count (causes_in old) f.row.links (leaves tied_row.waiting.tree) tied_row.on)

  pub hand_waits : 1 ≤ length (waiting_in (rows_in old))
  hand_waits = omega (arith, ap length waiting_is, length-append (waiting_in f.skip) (tied_row.waiting ∷ waiting_in f.back))

  hand_entry : entry_at m.number (rows_in old) ≡ Some tied_row.waiting
  hand_entry = ap (entry_at m.number) (all_rows old n [] (rows_in old) m refl f) ∙ place_entry (row_at old n [] (rows_in old) m refl f) ∙ tied_row.entry

  module _ (new : Records) (entries entries' : List Entry) (served : Served m.number (grant lock) (rows_in old) (rows_in new)) (kept_new : IsKept (state_in new))
      (ready : (v : Waiting) → entry_at m.number (rows_in old) ≡ Some v → entries' ≡ entries ++ entry_of v.task (step_of (grant lock v.tree))) where
    same : Same f.skip served.changed.front f.row served.row f.back served.changed.back
    same = one_place m.number f.skip served.changed.front f.row served.row f.back served.changed.back (subst (λ (rs : List Row). IsApart (numbers_of rs)) f.is (rows_apart old)) (sym f.is ∙ served.changed.was) f.of served.changed.of

    own : served.waiting ≡ tied_row.waiting
    own = same_Some _ _ (sym served.entry ∙ ap (λ (r : Row). r.entry) (sym same.rows) ∙ tied_row.entry)

    left_is : waiting_in served.left ≡ left_of tied_row.waiting.task (grant lock tied_row.waiting.tree) (step_of (grant lock tied_row.waiting.tree))
    left_is = served.waits ∙ ap (λ (v : Waiting). left_of v.task (grant lock v.tree) (step_of (grant lock v.tree))) own

    new_is : rows_in new ≡ f.skip ++ (served.left ++ f.back)
    new_is = served.changed.now ∙ ap (λ (rs : List Row). rs ++ (served.left ++ served.changed.back)) (sym same.fronts) ∙ ap (λ (rs : List Row). f.skip ++ (served.left ++ rs)) (sym same.backs)

    waiting_new : waiting_in (rows_in new) ≡ waiting_in f.skip ++ (waiting_in served.left ++ waiting_in f.back)
    waiting_new = ap waiting_in new_is ∙ waiting_both f.skip (served.left ++ f.back) ∙ ap (λ (ws : List Waiting). waiting_in f.skip ++ ws) (waiting_both served.left f.back)

    pub hand_hands : Hands lock (rows_in old) (rows_in new) entries entries'
    hand_hands = record {
      wanted = ap (is_wanted lock) waiting_is ∙ off.wanted (tied_row.waiting ∷ waiting_in f.back) ∙ ap (λ (b : Bool). b || is_wanted lock (waiting_in f.back)) wanted_tree;
      waiting = waiting_new ∙ ap (λ (ws : List Waiting). waiting_in f.skip ++ (ws ++ waiting_in f.back)) left_is ∙ sym (ap (λ (g : Granted). g.waiting) granted_is);
      ready = ready tied_row.waiting hand_entry ∙ ap (λ (es : List Entry). entries ++ es) (sym (ap (λ (g : Granted). g.entries) granted_is));
      few = omega (
        arith,
        tied_count (causes_in new) (rows_in new) (tied_of (state_in new) kept_new),
        tied_count (causes_in old) (rows_in old) (tied_of (state_in old) kept),
        ap length waiting_new,
        ap length waiting_is,
        length-append (waiting_in f.skip) (waiting_in served.left ++ waiting_in f.back),
        length-append (waiting_in served.left) (waiting_in f.back),
        length-append (waiting_in f.skip) (tied_row.waiting ∷ waiting_in f.back),
        ap length left_is,
        left_few tied_row.waiting.task (grant lock tied_row.waiting.tree) (step_of (grant lock tied_row.waiting.tree)),
      );
    }
