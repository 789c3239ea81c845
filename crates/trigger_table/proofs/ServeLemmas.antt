-- The tasks that wait on a cause are told it, one after the other.
use Rattle.std.proofs.Common.{◌≡◌, ◌≢◌, ℕ, suc, ◌+◌, ◌*◌, ◌<◌, ◌≤◌, Bool, true, false, ◌||◌, cond, List, [], ◌∷◌, ◌++◌, length, map, filter, Option, Some, None, slice_get, get_or, refl, sym, ap, ◌∙◌, subst, inl, inr, arith, ◌==◌, eq-eqb, ne_eqb, length-append}
use Rattle.std.proofs.lemmas.Bool.{cases_eq, cond-true, cond-false, false≢true, or_cases, false_from_ne_true}
use Rattle.std.proofs.lemmas.List.{append_assoc, append-nil}
use Rattle.std.proofs.lemmas.Option.{none-some, same_Some}
use Rattle.await_tree.specs.Fire.{awaits, fire, is_among, is_same, reach_of}
use Rattle.await_tree.specs.Steps.{step_of}
use Rattle.await_tree.specs.Tree.{Tree, Over, Leaf, Cycles, First, Combine, Limit, is_over, leaves}
use Rattle.await_tree.specs.WaitList.Waiting.{Waiting, entry_of, left_of, reached_tasks, still_waiting, woken}
use Rattle.await_tree.specs.declared.cause.Awaited.{Awaited}
use Rattle.await_tree.specs.declared.cause.Cause.{Cause}
use Rattle.await_tree.specs.declared.cause.Step.{Step}
use Rattle.await_tree.specs.declared.cause.Step.TheVariants.{Still, Done}
use Rattle.await_tree.specs.declared.wait_list.ready.Entry.{Entry}
use Rattle.py_value.specs.declared.trigger.TaskNo.{TaskNo}
use Rattle.await_tree.proofs.Settled.{fire_still}
use Rattle.await_tree.proofs.WaitListLemmas.Members.{or_left, or_right}
use Rattle.trigger_table.specs.Entries.{HasCause}
use Rattle.trigger_table.specs.Links.{IsApart, IsIn}
use Rattle.trigger_table.specs.Members.{after, beyond, members_of, members_on, own_members, waiters_of}
use Rattle.trigger_table.specs.Records.{causes_in, rows_in, state_in}
use Rattle.trigger_table.specs.Serving.{Served}
use Rattle.trigger_table.specs.State.{HasRow, Link, Row, State, entry_at, links_at, numbers_of, waiters_on}
use Rattle.trigger_table.specs.Tied.{AreOn, AreTied, IsKept, IsTied, Shrinks, entry_list, waiting_in}
use Rattle.trigger_table.specs.Work.{leaf_count, reached_by}
use Rattle.trigger_table.specs.declared.entries.CauseRecord.{CauseRecord}
use Rattle.trigger_table.specs.declared.members.Member.{Member}
use Rattle.trigger_table.specs.declared.records.Records.{Records}
use Rattle.trigger_table.proofs.CallLemmas.{on_count}
use Rattle.trigger_table.proofs.EntryLemmas.{causes_apart, rows_apart, waited_known}
use Rattle.trigger_table.proofs.ListLemmas.{concat_append, filter_append}
use Rattle.trigger_table.proofs.MemberLemmas.{after_amid, in_amid, members_apart}
use Rattle.trigger_table.proofs.PlaceLemmas.{Placed, Same, has_placed, one_place, place_entry, place_links, placed_in}
use Rattle.trigger_table.proofs.RowLemmas.{waiters_cons}
use Rattle.trigger_table.proofs.SettleLemmas.{tied_parts, waiters_both}
use Rattle.trigger_table.proofs.TieLemmas.{filter_none, left_nil, on_self, right_nil, same_on, tied_of}

abbrev Slots : Type 0
Slots = List (Option CauseRecord)

abbrev pub on_cause : ℕ → Link → Bool
on_cause n link = link.cause == n

-- ---- who is reached

-- no leaf is on it where no waiter is on its record
off_leaves : (causes : Slots) (n : ℕ) (on : Awaited) (links : List Link) (ons : List Awaited) → ((k : ℕ) → HasCause causes k on → k ≡ n) → AreOn causes links ons → filter (on_cause n) links ≡ [] → is_among on ons ≡ false
off_leaves causes n on [] [] one h none = refl
off_leaves causes n on [] (own ∷ ons) one h none = absurd h
off_leaves causes n on (link ∷ links) [] one h none = absurd h
off_leaves causes n on (link ∷ links) (own ∷ ons) one h none =
    let parts = filter_none (on_cause n) link links none in
    false_from_ne_true (is_same on own || is_among on ons) (λ is.
    elim (or_cases (is_same on own) (is_among on ons) is) [
      | inl same ↦
          let at : link.cause ≡ n = one link.cause (subst (HasCause causes link.cause) (sym (same_on on own same)) h.0) in
          false≢true (sym parts.0 ∙ eq-eqb link.cause n at)
      | inr there ↦ false≢true (sym (off_leaves causes n on links ons one h.1 parts.1) ∙ there)
    ])

-- a leaf is on it where a waiter is on its record
pub on_leaves : (causes : Slots) (n : ℕ) (on : Awaited) (links : List Link) (ons : List Awaited) → HasCause causes n on → AreOn causes links ons → filter (on_cause n) links ≢ [] → is_among on ons ≡ true
on_leaves causes n on [] ons has h some = absurd (some refl)
on_leaves causes n on (link ∷ links) [] has h some = absurd h
on_leaves causes n on (link ∷ links) (own ∷ ons) has h some =
    elim (cases_eq link.cause n) [
      | inl same ↦
          let e = same_Some _ _ (sym has.1 ∙ ap (λ (j : ℕ). get_or causes j None) (sym same) ∙ h.0.1) in
          let is : on ≡ own = ap (λ (r : CauseRecord). r.on) e in
          or_left (is_same on own) (is_among on ons) (ap (is_same on) (sym is) ∙ on_self on)
      | inr differs ↦
          or_right (is_same on own) (is_among on ons)
          (on_leaves causes n on links ons has h.1 (λ none. some (cond-false (link.cause == n) _ _ (ne_eqb link.cause n differs) ∙ none)))
    ]

abbrev pub AreOff : Awaited → List Waiting → Type 0
AreOff on [] = Unit {0}
AreOff on (w ∷ ws) = (awaits on w.tree ≡ false) × AreOff on ws

pub row_waiting : (causes : Slots) (row : Row) (rows : List Row) → (t : IsTied causes row) → waiting_in (row ∷ rows) ≡ t.waiting ∷ waiting_in rows
row_waiting causes row rows t = ap (λ (e : Option Waiting). entry_list e ++ waiting_in rows) t.entry

pub rows_off : (causes : Slots) (n : ℕ) (on : Awaited) (rows : List Row) → ((k : ℕ) → HasCause causes k on → k ≡ n) → AreTied causes rows → waiters_on n rows ≡ [] → AreOff on (waiting_in rows)
rows_off causes n on [] one h none = tt
rows_off causes n on (row ∷ rows) one h none =
    let both = sym (waiters_cons n row rows) ∙ none in
    subst (AreOff on) (sym (row_waiting causes row rows h.0)) (
      off_leaves causes n on row.links (leaves h.0.waiting.tree) one h.0.on (left_nil (filter (on_cause n) row.links) (waiters_on n rows) both),
      rows_off causes n on rows one h.1 (right_nil (filter (on_cause n) row.links) (waiters_on n rows) both),
    )

-- whom the cause doesn't reach it leaves as they are
pub record Quiet (c : Cause) (ws : List Waiting) : Type 0 where
  pub still : still_waiting c ws ≡ ws
  pub none_woken : woken c ws ≡ []
  pub none : reached_by c ws ≡ []

still_step : (t : Tree) → is_over t ≡ false → step_of t ≡ Still
still_step (Over f) h = absurd (false≢true (sym h))
still_step (Leaf on trig) h = refl
still_step (Cycles key left trig) h = refl
still_step (First ts) h = refl
still_step (Combine trig ts) h = refl
still_step (Limit due t) h = refl

pub quiet : (c : Cause) (causes : Slots) (rows : List Row) → AreTied causes rows → AreOff (reach_of c) (waiting_in rows) → Quiet c (waiting_in rows)
quiet c causes [] h off = record { still = refl; none_woken = refl; none = refl }
quiet c causes (row ∷ rows) h off =
    let w : Waiting = h.0.waiting in
    let parts : AreOff (reach_of c) (h.0.waiting ∷ waiting_in rows) = subst (AreOff (reach_of c)) (row_waiting causes row rows h.0) off in
    let later = quiet c causes rows h.1 parts.1 in
    let same : fire c h.0.waiting.tree ≡ h.0.waiting.tree = fire_still c h.0.waiting.tree h.0.tree.settled parts.0 in
    let step : step_of (fire c h.0.waiting.tree) ≡ Still = ap step_of same ∙ still_step h.0.waiting.tree h.0.tree.waits in
    subst (Quiet c) (sym (row_waiting causes row rows h.0)) (record {
      still =
          ap (λ (s : Step). left_of h.0.waiting.task (fire c h.0.waiting.tree) s ++ still_waiting c (waiting_in rows)) step
          ∙ ap (λ (t : Tree). let v : Waiting = record { task = h.0.waiting.task; tree = t } in v ∷ still_waiting c (waiting_in rows)) same
          ∙ ap (λ (ws : List Waiting). h.0.waiting ∷ ws) later.still;
      none_woken = ap (λ (s : Step). entry_of h.0.waiting.task s ++ woken c (waiting_in rows)) step ∙ later.none_woken;
      none = ap (λ (b : Bool). cond b (h.0.waiting ∷ reached_by c (waiting_in rows)) (reached_by c (waiting_in rows))) parts.0 ∙ later.none;
    })

-- ---- lists of waiting tasks

pub still_both : (c : Cause) (xs ys : List Waiting) → still_waiting c (xs ++ ys) ≡ still_waiting c xs ++ still_waiting c ys
still_both c [] ys = refl
still_both c (w ∷ xs) ys =
    ap (λ (ws : List Waiting). left_of w.task (fire c w.tree) (step_of (fire c w.tree)) ++ ws) (still_both c xs ys)
    ∙ sym (append_assoc (left_of w.task (fire c w.tree) (step_of (fire c w.tree))) (still_waiting c xs) (still_waiting c ys))

pub woken_both : (c : Cause) (xs ys : List Waiting) → woken c (xs ++ ys) ≡ woken c xs ++ woken c ys
woken_both c [] ys = refl
woken_both c (w ∷ xs) ys =
    ap (λ (es : List Entry). entry_of w.task (step_of (fire c w.tree)) ++ es) (woken_both c xs ys)
    ∙ sym (append_assoc (entry_of w.task (step_of (fire c w.tree))) (woken c xs) (woken c ys))

pub waiting_both : (xs ys : List Row) → waiting_in (xs ++ ys) ≡ waiting_in xs ++ waiting_in ys
waiting_both xs ys = concat_append (λ (row : Row). entry_list row.entry) xs ys

pub reached_both : (c : Cause) (xs ys : List Waiting) → reached_by c (xs ++ ys) ≡ reached_by c xs ++ reached_by c ys
reached_both c xs ys = filter_append (λ (w : Waiting). awaits (reach_of c) w.tree) xs ys

-- ---- the first waiter on a cause

-- these are of one task
abbrev pub AreOwn : ℕ → List Member → Type 0
AreOwn number [] = Unit {0}
AreOwn number (m ∷ ms) = (m.number ≡ number) × AreOwn number ms

pub record FirstOn (n : ℕ) (rows : List Row) (m : Member) : Type 0 where
  pub skip : List Row
  pub row : Row
  pub back : List Row
  pub is : rows ≡ skip ++ row ∷ back
  pub none : waiters_on n skip ≡ []
  pub of : row.number ≡ m.number
  pub some : filter (on_cause n) row.links ≢ []
  pub more : List Member
  pub own : AreOwn m.number more
  pub members : members_on n rows ≡ m ∷ (more ++ members_on n back)
  pub few : length more + 1 ≤ length row.links

fewer : (n : ℕ) (links : List Link) → length (filter (on_cause n) links) ≤ length links
fewer n [] = omega arith
fewer n (link ∷ links) = go (on_cause n link) (fewer n links)
  where
    go : (b : Bool) → length (filter (on_cause n) links) ≤ length links → length (cond b (link ∷ filter (on_cause n) links) (filter (on_cause n) links)) ≤ suc (length links)
    go true h = omega (arith, h)
    go false h = omega (arith, h)

abbrev pub member_with : ℕ → Link → Member
member_with number link = record { waiter = link.waiter; number = number }

own_all : (number : ℕ) (links : List Link) → AreOwn number (map (member_with number) links)
own_all number [] = tt
own_all number (link ∷ links) = (refl, own_all number links)

length_with : (number : ℕ) (links : List Link) → length (map (member_with number) links) ≡ length links
length_with number [] = refl
length_with number (link ∷ links) = ap suc (length_with number links)

pub first_on_rows : (n : ℕ) (rows : List Row) (m : Member) → Some m ≡ slice_get (members_on n rows) 0 → FirstOn n rows m
first_on_rows n [] m is = absurd (none-some m (sym is))
first_on_rows n (row ∷ rows) m is = go (filter (on_cause n) row.links) refl (λ next. first_on_rows n rows m next)
  where
    go : (own : List Link) → filter (on_cause n) row.links ≡ own → (Some m ≡ slice_get (members_on n rows) 0 → FirstOn n rows m) → FirstOn n (row ∷ rows) m
    go [] none rest =
        let gone : members_on n (row ∷ rows) ≡ members_on n rows = ap (λ (ls : List Link). map (member_with row.number) ls ++ members_on n rows) none in
        let later = rest (is ∙ ap (λ (ms : List Member). slice_get ms 0) gone) in
        record {
          skip = row ∷ later.skip;
          row = later.row;
          back = later.back;
          is = ap (λ (rs : List Row). row ∷ rs) later.is;
          none = waiters_cons n row later.skip ∙ ap (λ (ls : List Link). ls ++ waiters_on n later.skip) none ∙ later.none;
          of = later.of;
          some = later.some;
          more = later.more;
          own = later.own;
          members = gone ∙ later.members;
          few = later.few;
        }
    go (link ∷ links) some rest =
        let all : members_on n (row ∷ rows) ≡ member_with row.number link ∷ (map (member_with row.number) links ++ members_on n rows) = ap (λ (ls : List Link). map (member_with row.number) ls ++ members_on n rows) some in
        let one : m ≡ member_with row.number link = same_Some m (member_with row.number link) (is ∙ ap (λ (ms : List Member). slice_get ms 0) all) in
        let number : row.number ≡ m.number = sym (ap (λ (x : Member). x.number) one) in
        record {
          skip = [];
          row = row;
          back = rows;
          is = refl;
          none = refl;
          of = number;
          some = λ none. let e : link ∷ links ≡ [] = sym some ∙ none in absurd (cc);
          more = map (member_with row.number) links;
          own = subst (λ (k : ℕ). AreOwn k (map (member_with row.number) links)) number (own_all row.number links);
          members = all ∙ ap (λ (x : Member). x ∷ (map (member_with row.number) links ++ members_on n rows)) (sym one);
          few = omega (arith, length_with row.number links, ap length some, fewer n row.links);
        }

-- where there is none, no waiter is on it
pub none_on_rows : (n : ℕ) (rows : List Row) → None ≡ slice_get (members_on n rows) 0 → waiters_on n rows ≡ []
none_on_rows n [] is = refl
none_on_rows n (row ∷ rows) is = go (filter (on_cause n) row.links) refl (λ next. none_on_rows n rows next)
  where
    go : (own : List Link) → filter (on_cause n) row.links ≡ own → (None ≡ slice_get (members_on n rows) 0 → waiters_on n rows ≡ []) → waiters_on n (row ∷ rows) ≡ []
    go [] none rest =
        waiters_cons n row rows ∙ ap (λ (ls : List Link). ls ++ waiters_on n rows) none
        ∙ rest (is ∙ ap (λ (ls : List Link). slice_get (map (member_with row.number) ls ++ members_on n rows) 0) none)
    go (link ∷ links) some rest =
        absurd (none-some (member_with row.number link) (is ∙ ap (λ (ls : List Link). slice_get (map (member_with row.number) ls ++ members_on n rows) 0) some))

-- ---- the next task

beyond_own : (number : ℕ) (own post : List Member) → AreOwn number own → beyond number (own ++ post) ≡ beyond number post
beyond_own number [] post h = refl
beyond_own number (x ∷ own) post h = cond-true (x.number == number) (beyond number (own ++ post)) (x ∷ (own ++ post)) (eq-eqb x.number number h.0) ∙ beyond_own number own post h.1

own_few : (number : ℕ) (ms : List Member) → length (own_members number ms) ≤ length ms
own_few number [] = omega arith
own_few number (x ∷ ms) = less (x.number == number) (own_few number ms)
  where
    less : (b : Bool) → length (own_members number ms) ≤ length ms → length (cond b (x ∷ own_members number ms) (own_members number ms)) ≤ suc (length ms)
    less true h = omega (arith, h)
    less false h = omega (arith, h)

members_past : (number n : ℕ) (row : Row) (links : List Link) (post : List Member) → row.number ≢ number → own_members number (map (member_with row.number) links ++ post) ≡ own_members number post
members_past number n row [] post differs = refl
members_past number n row (link ∷ links) post differs = cond-false (row.number == number) _ _ (ne_eqb row.number number differs) ∙ members_past number n row links post differs

pub none_own : (number n : ℕ) (rows : List Row) → ¬ HasRow number rows → own_members number (members_on n rows) ≡ []
none_own number n [] off = refl
none_own number n (row ∷ rows) off =
    members_past number n row (filter (on_cause n) row.links) (members_on n rows) (λ same. off (inl same)) ∙ none_own number n rows (λ there. off (inr there))

beyond_none : (number : ℕ) (ms : List Member) → own_members number ms ≡ [] → beyond number ms ≡ ms
beyond_none number [] none = refl
beyond_none number (x ∷ ms) none = go (x.number == number) refl
  where
    go : (b : Bool) → (x.number == number) ≡ b → beyond number (x ∷ ms) ≡ x ∷ ms
    go true same = absurd (let e : x ∷ own_members number ms ≡ [] = sym (cond-true (x.number == number) (x ∷ own_members number ms) (own_members number ms) same) ∙ none in cc)
    go false differs = cond-false (x.number == number) (beyond number ms) (x ∷ ms) differs

-- the waiters behind those of this task are those of the rows behind it
module _ (records : Records) (n : ℕ) (done rest : List Row) (m : Member) (is : rows_in records ≡ done ++ rest) (f : FirstOn n rest m) where
  pub all_rows : rows_in records ≡ (done ++ f.skip) ++ f.row ∷ f.back
  all_rows = is ∙ ap (λ (rs : List Row). done ++ rs) f.is ∙ sym (append_assoc done f.skip (f.row ∷ f.back))

  pub row_at : Placed m.number (done ++ f.skip) f.row f.back
  row_at = placed_in records m.number (done ++ f.skip) f.row f.back all_rows f.of

  all_members : members_on n (rows_in records) ≡ members_on n done ++ m ∷ (f.more ++ members_on n f.back)
  all_members = ap (members_on n) is ∙ concat_append (members_of n) done rest ∙ ap (λ (ms : List Member). members_on n done ++ ms) f.members

  pub member_in : IsIn m.waiter (waiters_of (members_on n (rows_in records)))
  member_in = subst (λ (ms : List Member). IsIn m.waiter (waiters_of ms)) (sym all_members) (in_amid (members_on n done) m (f.more ++ members_on n f.back))

  after_members : after m.waiter (members_on n (rows_in records)) ≡ f.more ++ members_on n f.back
  after_members =
      ap (after m.waiter) all_members
      ∙ after_amid (members_on n done) m (f.more ++ members_on n f.back) (subst (λ (ms : List Member). IsApart (waiters_of ms)) all_members (members_apart records n))

  pub next_members : beyond m.number (after m.waiter (members_on n (rows_in records))) ≡ members_on n f.back
  next_members =
      ap (beyond m.number) after_members ∙ beyond_own m.number f.more (members_on n f.back) f.own
      ∙ beyond_none m.number (members_on n f.back) (none_own m.number n f.back row_at.behind)

  pub own_count : length (own_members m.number (after m.waiter (members_on n (rows_in records)))) + 1 ≤ length f.row.links
  own_count =
      let split : own_members m.number (f.more ++ members_on n f.back) ≡ own_members m.number f.more ++ own_members m.number (members_on n f.back) = filter_append (λ (x : Member). x.number == m.number) f.more (members_on n f.back) in
      omega (
        arith,
        ap (λ (ms : List Member). length (own_members m.number ms)) after_members,
        ap length split,
        length-append (own_members m.number f.more) (own_members m.number (members_on n f.back)),
        own_few m.number f.more,
        ap length (none_own m.number n f.back row_at.behind),
        f.few,
      )

  pub served_has : HasRow m.number (rows_in records)
  served_has = subst (HasRow m.number) (sym all_rows) (has_placed m.number (done ++ f.skip) f.row f.back f.of)

  pub served_links : links_at m.number (rows_in records) ≡ f.row.links
  served_links = ap (links_at m.number) all_rows ∙ place_links row_at

  pub served_some : 0 < length (links_at m.number (rows_in records))
  served_some = omega (arith, ap length served_links, f.few)

-- ---- the tasks are told one after the other

-- So many tasks were told the cause: what they came to, and the rows of the others, from the one with the next waiter on it.
pub record Serving (n : ℕ) (c : Cause) (at : Option Member) (count : ℕ) (first now : List Row) (before after_all : List Entry) (from to : ℕ) : Type 0 where
  pub done : List Row
  pub rest : List Row
  pub is : now ≡ done ++ rest
  pub next : at ≡ slice_get (members_on n rest) 0
  pub waiting : waiting_in done ++ still_waiting c (waiting_in rest) ≡ still_waiting c (waiting_in first)
  pub ready : after_all ++ woken c (waiting_in rest) ≡ before ++ woken c (waiting_in first)
  pub counted : count + length (reached_by c (waiting_in rest)) ≡ length (reached_by c (waiting_in first))
  pub rows : count + length rest ≤ length first
  pub few : length now ≤ length first
  pub room : length after_all + length (waiting_in rest) ≤ length before + length (waiting_in first)
  pub ticks : to + 8 * leaf_count (reached_by c (waiting_in rest)) ≤ from + 1 + 8 * leaf_count (reached_by c (waiting_in first))

pub serve_begins : (n : ℕ) (c : Cause) (at : Option Member) (first : List Row) (before : List Entry) (from to : ℕ) → at ≡ slice_get (members_on n first) 0 → to ≡ from + 1 → Serving n c at 0 first first before before from to
serve_begins n c at first before from to next ticks = record {
  done = [];
  rest = first;
  is = refl;
  next = next;
  waiting = refl;
  ready = refl;
  counted = omega arith;
  rows = omega arith;
  few = omega arith;
  room = omega arith;
  ticks = omega (arith, ticks);
}

leaf_both : (xs ys : List Waiting) → leaf_count (xs ++ ys) ≡ leaf_count xs + leaf_count ys
leaf_both [] ys = omega arith
leaf_both (w ∷ xs) ys = omega (arith, leaf_both xs ys)

entry_count : (task : TaskNo) (t : Tree) (s : Step) → length (entry_of task s) + length (left_of task t s) ≡ 1
entry_count task t Still = refl
entry_count task t (Done given) = refl

pub left_few : (task : TaskNo) (t : Tree) (s : Step) → length (left_of task t s) ≤ 1
left_few task t Still = omega arith
left_few task t (Done given) = omega arith

-- what waits in the rows of a tied list
pub tied_count : (causes : Slots) (rows : List Row) → AreTied causes rows → length (waiting_in rows) ≡ length rows
tied_count causes [] h = refl
tied_count causes (row ∷ rows) h = ap length (row_waiting causes row rows h.0) ∙ ap suc (tied_count causes rows h.1)

module _ (n : ℕ) (c : Cause) (m : Member) (count : ℕ) (initial now : Records) (before after_all : List Entry) (from to : ℕ)
    (s : Serving n c (Some m) count (rows_in initial) (rows_in now) before after_all from to)
    (of : HasCause (causes_in initial) n (reach_of c)) (kept : IsKept (state_in now)) (shrinks : Shrinks (causes_in initial) (causes_in now)) where
  pub f : FirstOn n s.rest m
  f = first_on_rows n s.rest m s.next

  pub step_in : IsIn m.waiter (waiters_of (members_on n (rows_in now)))
  step_in = member_in now n s.done s.rest m s.is f

  pub step_has : HasRow m.number (rows_in now)
  step_has = served_has now n s.done s.rest m s.is f

  pub step_some : 0 < length (links_at m.number (rows_in now))
  step_some = served_some now n s.done s.rest m s.is f

  pub step_own : length (own_members m.number (after m.waiter (members_on n (rows_in now)))) + 1 ≤ length (links_at m.number (rows_in now))
  step_own = omega (arith, own_count now n s.done s.rest m s.is f, ap length (served_links now n s.done s.rest m s.is f))

  tied_rest : AreTied (causes_in now) s.rest
  tied_rest = (tied_parts (causes_in now) s.done s.rest (subst (AreTied (causes_in now)) s.is (tied_of (state_in now) kept))).1

  tied_split : AreTied (causes_in now) (f.skip ++ f.row ∷ f.back)
  tied_split = subst (AreTied (causes_in now)) f.is tied_rest

  tied_skip : AreTied (causes_in now) f.skip
  tied_skip = (tied_parts (causes_in now) f.skip (f.row ∷ f.back) tied_split).0

  pub tied_row : IsTied (causes_in now) f.row
  tied_row = (tied_parts (causes_in now) f.skip (f.row ∷ f.back) tied_split).1.0

  -- the record of the cause is the one that it had
  one : (k : ℕ) → HasCause (causes_in now) k (reach_of c) → k ≡ n
  one k has = causes_apart initial (reach_of c) k n (has.0, shrinks k _ has.1) of

  waited : waiters_on n (rows_in now) ≢ []
  waited none =
      f.some (left_nil (filter (on_cause n) f.row.links) (waiters_on n f.back)
      (sym (waiters_cons n f.row f.back)
      ∙ right_nil (waiters_on n (s.done ++ f.skip)) (waiters_on n (f.row ∷ f.back)) (sym (waiters_both n (s.done ++ f.skip) (f.row ∷ f.back)) ∙ ap (waiters_on n) (sym (all_rows now n s.done s.rest m s.is f)) ∙ none)))

  of_now : HasCause (causes_in now) n (reach_of c)
  of_now =
      let k = waited_known now n waited in
      (k.0.held, k.1 ∙ ap (λ (a : Awaited). let r : CauseRecord = record { on = a; held = k.0.held } in Some r) (ap (λ (r : CauseRecord). r.on) (same_Some _ _ (sym (shrinks n k.0 k.1) ∙ of.1))))

  quiet_skip : Quiet c (waiting_in f.skip)
  quiet_skip = quiet c (causes_in now) f.skip tied_skip (rows_off (causes_in now) n (reach_of c) f.skip one tied_skip f.none)

  w : Waiting
  w = tied_row.waiting

  is_reached : awaits (reach_of c) tied_row.waiting.tree ≡ true
  is_reached = on_leaves (causes_in now) n (reach_of c) f.row.links (leaves tied_row.waiting.tree) of_now tied_row.on f.some

  rest_is : waiting_in s.rest ≡ waiting_in f.skip ++ tied_row.waiting ∷ waiting_in f.back
  rest_is = ap waiting_in f.is ∙ waiting_both f.skip (f.row ∷ f.back) ∙ ap (λ (ws : List Waiting). waiting_in f.skip ++ ws) (row_waiting (causes_in now) f.row f.back tied_row)

  reached_rest : reached_by c (waiting_in s.rest) ≡ tied_row.waiting ∷ reached_by c (waiting_in f.back)
  reached_rest =
      ap (reached_by c) rest_is ∙ reached_both c (waiting_in f.skip) (tied_row.waiting ∷ waiting_in f.back)
      ∙ ap (λ (ws : List Waiting). ws ++ reached_by c (tied_row.waiting ∷ waiting_in f.back)) quiet_skip.none
      ∙ cond-true (awaits (reach_of c) tied_row.waiting.tree) _ _ is_reached

  pub step_entry : entry_at m.number (rows_in now) ≡ Some tied_row.waiting
  step_entry = ap (entry_at m.number) (all_rows now n s.done s.rest m s.is f) ∙ place_entry (row_at now n s.done s.rest m s.is f) ∙ tied_row.entry

  leaf_links : length (links_at m.number (rows_in now)) ≡ length (leaves tied_row.waiting.tree)
  leaf_links = ap length (served_links now n s.done s.rest m s.is f) ∙ on_count (causes_in now) f.row.links (leaves tied_row.waiting.tree) tied_row.on

  pub step_few : count + 1 ≤ length (rows_in initial)
  step_few = omega (arith, s.rows, ap length f.is, length-append f.skip (f.row ∷ f.back))

  pub step_room : length after_all + 1 ≤ length before + length (waiting_in (rows_in initial))
  step_room = omega (arith, s.room, ap length rest_is, length-append (waiting_in f.skip) (tied_row.waiting ∷ waiting_in f.back))

  module _ (next : Option Member) (new : List Row) (entries : List Entry) (to_now : ℕ)
      (next_is : next ≡ slice_get (beyond m.number (after m.waiter (members_on n (rows_in now)))) 0)
      (served : Served m.number (fire c) (rows_in now) new)
      (ready : (v : Waiting) → entry_at m.number (rows_in now) ≡ Some v → entries ≡ after_all ++ entry_of v.task (step_of (fire c v.tree)))
      (ticks : to_now ≤ to + 8 * length (links_at m.number (rows_in now))) where
    came : Tree
    came = fire c tied_row.waiting.tree

    same : Same (s.done ++ f.skip) served.changed.front f.row served.row f.back served.changed.back
    same = one_place m.number (s.done ++ f.skip) served.changed.front f.row served.row f.back served.changed.back
        (subst (λ (rs : List Row). IsApart (numbers_of rs)) (all_rows now n s.done s.rest m s.is f) (rows_apart now)) (sym (all_rows now n s.done s.rest m s.is f) ∙ served.changed.was) f.of served.changed.of

    own : served.waiting ≡ tied_row.waiting
    own = same_Some _ _ (sym served.entry ∙ ap (λ (r : Row). r.entry) (sym same.rows) ∙ tied_row.entry)

    left_is : waiting_in served.left ≡ left_of tied_row.waiting.task (fire c tied_row.waiting.tree) (step_of (fire c tied_row.waiting.tree))
    left_is = served.waits ∙ ap (λ (v : Waiting). left_of v.task (fire c v.tree) (step_of (fire c v.tree))) own

    new_is : new ≡ ((s.done ++ f.skip) ++ served.left) ++ f.back
    new_is =
        served.changed.now ∙ ap (λ (rs : List Row). rs ++ (served.left ++ served.changed.back)) (sym same.fronts) ∙ ap (λ (rs : List Row). (s.done ++ f.skip) ++ (served.left ++ rs)) (sym same.backs)
        ∙ sym (append_assoc (s.done ++ f.skip) served.left f.back)

    still_rest : still_waiting c (waiting_in s.rest) ≡ waiting_in f.skip ++ (waiting_in served.left ++ still_waiting c (waiting_in f.back))
    still_rest =
        ap (still_waiting c) rest_is ∙ still_both c (waiting_in f.skip) (tied_row.waiting ∷ waiting_in f.back)
        ∙ ap (λ (ws : List Waiting). ws ++ still_waiting c (tied_row.waiting ∷ waiting_in f.back)) quiet_skip.still
        ∙ ap (λ (ws : List Waiting). waiting_in f.skip ++ (ws ++ still_waiting c (waiting_in f.back))) (sym left_is)

    woken_rest : woken c (waiting_in s.rest) ≡ entry_of tied_row.waiting.task (step_of (fire c tied_row.waiting.tree)) ++ woken c (waiting_in f.back)
    woken_rest =
        ap (woken c) rest_is ∙ woken_both c (waiting_in f.skip) (tied_row.waiting ∷ waiting_in f.back)
        ∙ ap (λ (es : List Entry). es ++ woken c (tied_row.waiting ∷ waiting_in f.back)) quiet_skip.none_woken

    entries_are : entries ≡ after_all ++ entry_of tied_row.waiting.task (step_of (fire c tied_row.waiting.tree))
    entries_are = ready tied_row.waiting step_entry

    done_is : waiting_in ((s.done ++ f.skip) ++ served.left) ≡ waiting_in s.done ++ (waiting_in f.skip ++ waiting_in served.left)
    done_is =
        waiting_both (s.done ++ f.skip) served.left ∙ ap (λ (ws : List Waiting). ws ++ waiting_in served.left) (waiting_both s.done f.skip)
        ∙ append_assoc (waiting_in s.done) (waiting_in f.skip) (waiting_in served.left)

    left_count : length (waiting_in served.left) ≤ 1
    left_count = omega (arith, ap length left_is, left_few tied_row.waiting.task (fire c tied_row.waiting.tree) (step_of (fire c tied_row.waiting.tree)))

    now_count : length (waiting_in s.done) + (length (waiting_in f.skip) + (1 + length (waiting_in f.back))) ≡ length (rows_in now)
    now_count =
        let all = tied_count (causes_in now) (rows_in now) (tied_of (state_in now) kept) in
        omega (arith, all, ap (λ (rs : List Row). length (waiting_in rs)) s.is, ap length (waiting_both s.done s.rest), length-append (waiting_in s.done) (waiting_in s.rest), ap length rest_is, length-append (waiting_in f.skip) (tied_row.waiting ∷ waiting_in f.back))

    new_count : length (waiting_in new) ≤ length (waiting_in s.done) + (length (waiting_in f.skip) + (1 + length (waiting_in f.back)))
    new_count =
        omega (
          arith,
          ap (λ (rs : List Row). length (waiting_in rs)) new_is,
          ap length (waiting_both ((s.done ++ f.skip) ++ served.left) f.back),
          length-append (waiting_in ((s.done ++ f.skip) ++ served.left)) (waiting_in f.back),
          ap length done_is,
          length-append (waiting_in s.done) (waiting_in f.skip ++ waiting_in served.left),
          length-append (waiting_in f.skip) (waiting_in served.left),
          left_count,
        )

    pub serve_next : length (waiting_in new) ≡ length new → Serving n c next (count + 1) (rows_in initial) new before entries from to_now
    serve_next all = record {
      done = (s.done ++ f.skip) ++ served.left;
      rest = f.back;
      is = new_is;
      next = next_is ∙ ap (λ (ms : List Member). slice_get ms 0) (next_members now n s.done s.rest m s.is f);
      waiting =
          ap (λ (ws : List Waiting). ws ++ still_waiting c (waiting_in f.back)) done_is
          ∙ append_assoc (waiting_in s.done) (waiting_in f.skip ++ waiting_in served.left) (still_waiting c (waiting_in f.back))
          ∙ ap (λ (ws : List Waiting). waiting_in s.done ++ ws) (append_assoc (waiting_in f.skip) (waiting_in served.left) (still_waiting c (waiting_in f.back)) ∙ sym still_rest)
          ∙ s.waiting;
      ready =
          ap (λ (es : List Entry). es ++ woken c (waiting_in f.back)) entries_are
          ∙ append_assoc after_all (entry_of tied_row.waiting.task (step_of (fire c tied_row.waiting.tree))) (woken c (waiting_in f.back))
          ∙ ap (λ (es : List Entry). after_all ++ es) (sym woken_rest) ∙ s.ready;
      counted = omega (arith, s.counted, ap length reached_rest);
      rows = omega (arith, s.rows, ap length f.is, length-append f.skip (f.row ∷ f.back));
      few = omega (arith, all, new_count, now_count, s.few);
      room = omega (
        arith,
        s.room,
        ap length rest_is,
        length-append (waiting_in f.skip) (tied_row.waiting ∷ waiting_in f.back),
        ap length entries_are,
        length-append after_all (entry_of tied_row.waiting.task (step_of (fire c tied_row.waiting.tree))),
        entry_count tied_row.waiting.task (fire c tied_row.waiting.tree) (step_of (fire c tied_row.waiting.tree)),
      );
      ticks = omega (arith, s.ticks, ticks, ap leaf_count reached_rest, leaf_links);
    }

-- all were told
pub record Reached (c : Cause) (count : ℕ) (first now : List Row) (before after_all : List Entry) (from to : ℕ) : Type 0 where
  pub answer : count ≡ reached_tasks c (waiting_in first)
  pub waiting : waiting_in now ≡ still_waiting c (waiting_in first)
  pub ready : after_all ≡ before ++ woken c (waiting_in first)
  pub ticks : to ≤ from + 8 * leaf_count (reached_by c (waiting_in first)) + 1

pub serve_ends : (n : ℕ) (c : Cause) (count : ℕ) (initial now : Records) (before after_all : List Entry) (from to : ℕ) → Serving n c None count (rows_in initial) (rows_in now) before after_all from to
    → HasCause (causes_in initial) n (reach_of c) → IsKept (state_in now) → Shrinks (causes_in initial) (causes_in now) → Reached c count (rows_in initial) (rows_in now) before after_all from to
serve_ends n c count initial now before after_all from to s of kept shrinks =
    let tied = (tied_parts (causes_in now) s.done s.rest (subst (AreTied (causes_in now)) s.is (tied_of (state_in now) kept))).1 in
    let off = rows_off (causes_in now) n (reach_of c) s.rest (λ k has. causes_apart initial (reach_of c) k n (has.0, shrinks k _ has.1) of) tied (none_on_rows n s.rest s.next) in
    let q = quiet c (causes_in now) s.rest tied off in
    record {
      answer = omega (arith, s.counted, ap length q.none);
      waiting = ap waiting_in s.is ∙ waiting_both s.done s.rest ∙ ap (λ (ws : List Waiting). waiting_in s.done ++ ws) (sym q.still) ∙ s.waiting;
      ready = sym (append-nil after_all) ∙ ap (λ (es : List Entry). after_all ++ es) (sym q.none_woken) ∙ s.ready;
      ticks = omega (arith, s.ticks, ap leaf_count q.none);
    }

-- what has no record nobody waits for
pub unrecorded_off : (on : Awaited) (s : State) → IsKept s → ((k : ℕ) → ¬ HasCause s.causes k on) → AreOff on (waiting_in s.rows)
unrecorded_off on s kept none = absent s.rows (tied_of s kept)
  where
    bare_leaves : (links : List Link) (ons : List Awaited) → AreOn s.causes links ons → is_among on ons ≡ false
    bare_leaves [] [] h = refl
    bare_leaves [] (own ∷ ons) h = absurd h
    bare_leaves (link ∷ links) [] h = absurd h
    bare_leaves (link ∷ links) (own ∷ ons) h =
        false_from_ne_true (is_same on own || is_among on ons) (λ is.
        elim (or_cases (is_same on own) (is_among on ons) is) [
          | inl same ↦ none link.cause (subst (HasCause s.causes link.cause) (sym (same_on on own same)) h.0)
          | inr there ↦ false≢true (sym (bare_leaves links ons h.1) ∙ there)
        ])

    absent : (rows : List Row) → AreTied s.causes rows → AreOff on (waiting_in rows)
    absent [] h = tt
    absent (row ∷ rows) h = subst (AreOff on) (sym (row_waiting s.causes row rows h.0)) (bare_leaves row.links (leaves h.0.waiting.tree) h.0.on, absent rows h.1)

-- where the cause has no record it reaches nobody
pub nobody_reached : (c : Cause) (s : State) → IsKept s → ((k : ℕ) → ¬ HasCause s.causes k (reach_of c)) → Quiet c (waiting_in s.rows)
nobody_reached c s kept none = quiet c s.causes s.rows (tied_of s kept) (unrecorded_off (reach_of c) s kept none)
