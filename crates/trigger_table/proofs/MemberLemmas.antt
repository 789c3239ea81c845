-- The chain of a cause is its waiters, each with its task.
use Rattle.std.proofs.Common.{IfSome, ◌≡◌, ◌≢◌, ℕ, Bool, not, cond, List, [], ◌∷◌, ◌++◌, map, filter, Option, Some, None, IsSome, slice_get, refl, sym, ap, ◌∙◌, subst, inl, inr, ◌==◌, eq-eqb, ne_eqb}
use Rattle.std.proofs.lemmas.Bool.{cases_eq, cond-true, cond-false}
use Rattle.std.proofs.lemmas.Option.{none-some, same_Some}
use Rattle.trigger_table.specs.declared.entries.CauseRecord.{CauseRecord}
use Rattle.trigger_table.specs.declared.entries.TaskRecord.{TaskRecord}
use Rattle.trigger_table.specs.declared.members.Member.{Member}
use Rattle.trigger_table.specs.declared.records.Records.{Records}
use Rattle.trigger_table.specs.declared.rings.Rings.{Rings}
use Rattle.trigger_table.specs.Kept.{IsSound, all_waiters, link_of, number_or_zero, row_of, rows_of}
use Rattle.trigger_table.specs.Links.{IsApart, IsIn, behind, is_list}
use Rattle.trigger_table.specs.Members.{after, beyond, members_on, own_members, rest_from, waiters_of, with_task}
use Rattle.trigger_table.specs.Records.{rows_in}
use Rattle.trigger_table.specs.Rings.{IsTidy, items, list_of}
use Rattle.trigger_table.specs.State.{Link, Row, concat_by, drop_link, links_of, waiters_on}
use Rattle.trigger_table.proofs.KeptLemmas.{in_all, not_some, waiters_on_chain}
use Rattle.trigger_table.proofs.ListLemmas.{IsIn_filter, filter_append, filter_map, filter_on, filter_swap, map_append, map_map, map_on, map_self}
use Rattle.trigger_table.proofs.RingLemmas.{tidy}

abbrev Slots : Type 0 → Type 0
Slots T = List (Option T)

abbrev pub member_in : Rings → ℕ → Member
member_in by_task waiter = record { waiter = waiter; number = number_or_zero (list_of by_task waiter) }

some_same : (l : Option ℕ) (c : ℕ) → IsSome l → (number_or_zero l == c) ≡ is_list c l
some_same None c some = cc
some_same (Some x) c some = refl

pub waiters_in : (bt : Rings) (ws : List ℕ) → waiters_of (map (member_in bt) ws) ≡ ws
waiters_in bt ws = map_map (member_in bt) (λ (m : Member). m.waiter) ws ∙ map_self (λ (k : ℕ). k) ws (λ k. refl)

-- one task's waiters on a cause
row_members : (bc bt : Rings) (n c : ℕ) (ws : List ℕ) → ((w : ℕ) → IsIn w ws → list_of bt w ≡ Some n)
    → map (λ (link : Link). let m : Member = record { waiter = link.waiter; number = n } in m) (filter (λ (link : Link). link.cause == c) (map (link_of bc) ws))
    ≡ map (member_in bt) (filter (λ (w : ℕ). number_or_zero (list_of bc w) == c) ws)
unfolding link_of
row_members bc bt n c ws own =
    ap (map (λ (link : Link). let m : Member = record { waiter = link.waiter; number = n } in m)) (filter_map (link_of bc) (λ (link : Link). link.cause == c) ws)
    ∙ map_map (link_of bc) (λ (link : Link). let m : Member = record { waiter = link.waiter; number = n } in m) (filter (λ (w : ℕ). number_or_zero (list_of bc w) == c) ws)
    ∙ map_on _ (member_in bt) (filter (λ (w : ℕ). number_or_zero (list_of bc w) == c) ws)
    (λ w found. ap (λ (o : Option ℕ). let m : Member = record { waiter = w; number = number_or_zero o } in m) (sym (own w (IsIn_filter (λ (k : ℕ). number_or_zero (list_of bc k) == c) w ws found))))

module _ (causes : Slots CauseRecord) (tasks : Slots TaskRecord) (waiters : Slots (Unit {0})) (bc bt o : Rings) (s : IsSound causes tasks waiters bc bt o) (tidy_task : IsTidy bt) where
  rows_members : (c : ℕ) (xs : List ℕ) → members_on c (map (row_of tasks bc bt) xs) ≡ map (member_in bt) (filter (λ (w : ℕ). number_or_zero (list_of bc w) == c) (concat_by (items bt) xs))
  unfolding row_of
  rows_members c [] = refl
  rows_members c (x ∷ xs) =
      ap (λ (ms : List Member). ms ++ members_on c (map (row_of tasks bc bt) xs)) (row_members bc bt x c (items bt x) (λ w found. tidy_task.owned w x found))
      ∙ ap (λ (ms : List Member). map (member_in bt) (filter (λ (w : ℕ). number_or_zero (list_of bc w) == c) (items bt x)) ++ ms) (rows_members c xs)
      ∙ sym (map_append (member_in bt) (filter (λ (w : ℕ). number_or_zero (list_of bc w) == c) (items bt x)) (filter (λ (w : ℕ). number_or_zero (list_of bc w) == c) (concat_by (items bt) xs)))
      ∙ ap (map (member_in bt)) (sym (filter_append (λ (w : ℕ). number_or_zero (list_of bc w) == c) (items bt x) (concat_by (items bt) xs)))

  pub members_chain : (c : ℕ) → members_on c (rows_of tasks bc bt o) ≡ map (member_in bt) (items bc c)
  members_chain c =
      rows_members c (items o 0)
      ∙ ap (map (member_in bt))
      (filter_on _ _ (all_waiters bt o) (λ k found. let one = in_all causes tasks waiters bc bt o s tidy_task k found in some_same (list_of bc k) c (s.of_task k one.0 one.1).1)
      ∙ sym (s.chains c))

-- ---- of the records

pub member_chain : (records : Records) (c : ℕ) → members_on c (rows_in records) ≡ map (member_in records.by_task) (items records.by_cause c)
unfolding rows_in
member_chain records c = members_chain _ _ _ _ _ _ records.sound (tidy records.by_task) c

pub member_waiters : (records : Records) (c : ℕ) → waiters_of (members_on c (rows_in records)) ≡ items records.by_cause c
member_waiters records c = ap waiters_of (member_chain records c) ∙ waiters_in records.by_task (items records.by_cause c)

-- no waiter stands twice on a cause
pub members_apart : (records : Records) (c : ℕ) → IsApart (waiters_of (members_on c (rows_in records)))
members_apart records c = subst IsApart (sym (member_waiters records c)) ((tidy records.by_cause).apart c)

pub member_owned : (records : Records) (c w : ℕ) → IsIn w (waiters_of (members_on c (rows_in records))) → list_of records.by_cause w ≡ Some c
member_owned records c w found = (tidy records.by_cause).owned w c (subst (IsIn w) (member_waiters records c) found)

whole_task : (w : ℕ) (o : Option ℕ) → IsSome o → with_task w o ≡ Some (record { waiter = w; number = number_or_zero o })
whole_task w None some = absurd (not_some {T = ℕ} None refl some)
whole_task w (Some n) some = refl

first_mapped : (f : ℕ → Member) (ws : List ℕ) (w : ℕ) → slice_get ws 0 ≡ Some w → slice_get (map f ws) 0 ≡ Some (f w)
first_mapped f [] w is = absurd (none-some w is)
first_mapped f (x ∷ xs) w is = ap (λ (k : ℕ). Some (f k)) (same_Some x w is)

none_mapped : (f : ℕ → Member) (ws : List ℕ) → slice_get ws 0 ≡ None → slice_get (map f ws) 0 ≡ None
none_mapped f [] is = refl
none_mapped f (x ∷ xs) is = absurd (none-some x (sym is))

after_mapped : (bt : Rings) (ws : List ℕ) (v w : ℕ) → behind v ws ≡ Some w → slice_get (after v (map (member_in bt) ws)) 0 ≡ Some (member_in bt w)
after_mapped bt [] v w is = absurd (none-some w is)
after_mapped bt (x ∷ xs) v w is =
    elim (cases_eq x v) [
      | inl same ↦
          ap (λ (ms : List Member). slice_get ms 0) (cond-true (x == v) (map (member_in bt) xs) (after v (map (member_in bt) xs)) (eq-eqb x v same))
          ∙ first_mapped (member_in bt) xs w (sym (cond-true (x == v) (slice_get xs 0) (behind v xs) (eq-eqb x v same)) ∙ is)
      | inr differs ↦
          ap (λ (ms : List Member). slice_get ms 0) (cond-false (x == v) (map (member_in bt) xs) (after v (map (member_in bt) xs)) (ne_eqb x v differs))
          ∙ after_mapped bt xs v w (sym (cond-false (x == v) (slice_get xs 0) (behind v xs) (ne_eqb x v differs)) ∙ is)
    ]

none_after : (bt : Rings) (ws : List ℕ) (v : ℕ) → behind v ws ≡ None → slice_get (after v (map (member_in bt) ws)) 0 ≡ None
none_after bt [] v is = refl
none_after bt (x ∷ xs) v is =
    elim (cases_eq x v) [
      | inl same ↦
          ap (λ (ms : List Member). slice_get ms 0) (cond-true (x == v) (map (member_in bt) xs) (after v (map (member_in bt) xs)) (eq-eqb x v same))
          ∙ none_mapped (member_in bt) xs (sym (cond-true (x == v) (slice_get xs 0) (behind v xs) (eq-eqb x v same)) ∙ is)
      | inr differs ↦
          ap (λ (ms : List Member). slice_get ms 0) (cond-false (x == v) (map (member_in bt) xs) (after v (map (member_in bt) xs)) (ne_eqb x v differs))
          ∙ none_after bt xs v (sym (cond-false (x == v) (slice_get xs 0) (behind v xs) (ne_eqb x v differs)) ∙ is)
    ]

module _ (records : Records) (c : ℕ) where
  -- a waiter on a cause has a task
  tasked : (w : ℕ) → list_of records.by_cause w ≡ Some c → with_task w (list_of records.by_task w) ≡ Some (member_in records.by_task w)
  tasked w is = whole_task w (list_of records.by_task w) (records.sound.of_cause w c is).1

  pub no_member : None ≡ slice_get (items records.by_cause c) 0 → None ≡ slice_get (members_on c (rows_in records)) 0
  no_member is = sym (ap (λ (ms : List Member). slice_get ms 0) (member_chain records c) ∙ none_mapped (member_in records.by_task) (items records.by_cause c) (sym is))

  pub first_member : (w : ℕ) (r : Option Member) → Some w ≡ slice_get (items records.by_cause c) 0 → list_of records.by_cause w ≡ Some c → r ≡ with_task w (list_of records.by_task w) → r ≡ slice_get (members_on c (rows_in records)) 0
  first_member w r is owned made =
      made ∙ tasked w owned ∙ sym (ap (λ (ms : List Member). slice_get ms 0) (member_chain records c) ∙ first_mapped (member_in records.by_task) (items records.by_cause c) w (sym is))

  pub no_next : (v : ℕ) → None ≡ behind v (items records.by_cause c) → None ≡ slice_get (after v (members_on c (rows_in records))) 0
  no_next v is = sym (ap (λ (ms : List Member). slice_get (after v ms) 0) (member_chain records c) ∙ none_after records.by_task (items records.by_cause c) v (sym is))

  pub next_member : (v w : ℕ) (r : Option Member) → Some w ≡ behind v (items records.by_cause c) → list_of records.by_cause w ≡ Some c → r ≡ with_task w (list_of records.by_task w) → r ≡ slice_get (after v (members_on c (rows_in records))) 0
  next_member v w r is owned made =
      made ∙ tasked w owned ∙ sym (ap (λ (ms : List Member). slice_get (after v ms) 0) (member_chain records c) ∙ after_mapped records.by_task (items records.by_cause c) v w (sym is))

  pub is_member : (w : ℕ) (r : Option Member) → list_of records.by_cause w ≡ Some c → r ≡ with_task w (list_of records.by_task w) → IfSome r (λ (m : Member). IsIn m.waiter (waiters_of (members_on c (rows_in records))))
  is_member w r owned made =
      subst (λ (o : Option Member). IfSome o (λ (m : Member). IsIn m.waiter (waiters_of (members_on c (rows_in records))))) (sym (made ∙ tasked w owned))
      (subst (IsIn w) (sym (member_waiters records c)) ((tidy records.by_cause).listed w c owned))

-- ---- a waiter leaves

abbrev pub keeps_link : ℕ → Link → Bool
keeps_link w link = not (link.waiter == w)

pub links_drop : (w : ℕ) (rows : List Row) → links_of (drop_link w rows) ≡ filter (keeps_link w) (links_of rows)
links_drop w [] = refl
links_drop w (row ∷ rows) =
    ap (λ (ls : List Link). filter (keeps_link w) row.links ++ ls) (links_drop w rows) ∙ sym (filter_append (keeps_link w) row.links (links_of rows))

pub keeps_all : (w : ℕ) (links : List Link) → ¬ IsIn w (map (λ (link : Link). link.waiter) links) → filter (keeps_link w) links ≡ links
keeps_all w [] off = refl
keeps_all w (link ∷ links) off =
    ap (λ (b : Bool). cond (not b) (link ∷ filter (keeps_link w) links) (filter (keeps_link w) links)) (ne_eqb link.waiter w (λ same. off (inl same)))
    ∙ ap (λ (ls : List Link). link ∷ ls) (keeps_all w links (λ there. off (inr there)))

-- the waiters on another cause than this one's stay
pub others_stay : (records : Records) (w : ℕ) (rows : List Row) (res : Option ℕ) → res ≡ list_of records.by_cause w → rows ≡ drop_link w (rows_in records)
    → IfSome res (λ (cause : ℕ). (other : ℕ) → other ≢ cause → waiters_on other rows ≡ waiters_on other (rows_in records))
unfolding rows_in
others_stay records w rows None is made = tt
others_stay records w rows (Some cause) is made = λ other differs.
    ap (waiters_on other) made
    ∙ ap (filter (λ (link : Link). link.cause == other)) (links_drop w (rows_in records))
    ∙ filter_swap (λ (link : Link). link.cause == other) (keeps_link w) (links_of (rows_in records))
    ∙ keeps_all w (waiters_on other (rows_in records))
    (λ found. differs (same_Some other cause
    (sym ((tidy records.by_cause).owned w other (subst (IsIn w) (waiters_on_chain _ _ _ _ _ _ records.sound (tidy records.by_task) other) found)) ∙ sym is)))

-- ---- going on to the next task

pub record Suffix (w : ℕ) (ms : List Member) : Type 0 where
  pub pre : List Member
  pub is : ms ≡ pre ++ after w ms

after_suffix : (w : ℕ) (ms : List Member) → Suffix w ms
after_suffix w [] = record { pre = []; is = refl }
after_suffix w (m ∷ ms) =
    elim (cases_eq m.waiter w) [
      | inl same ↦ record { pre = m ∷ []; is = ap (λ (xs : List Member). m ∷ xs) (sym (cond-true (m.waiter == w) ms (after w ms) (eq-eqb m.waiter w same))) }
      | inr differs ↦
          let later = after_suffix w ms in
          record { pre = m ∷ later.pre; is = ap (λ (xs : List Member). m ∷ xs) (later.is ∙ ap (λ (xs : List Member). later.pre ++ xs) (sym (cond-false (m.waiter == w) ms (after w ms) (ne_eqb m.waiter w differs)))) }
    ]

pub in_amid : (pre : List Member) (m : Member) (post : List Member) → IsIn m.waiter (waiters_of (pre ++ m ∷ post))
in_amid [] m post = inl refl
in_amid (y ∷ pre) m post = inr (in_amid pre m post)

pub after_amid : (pre : List Member) (m : Member) (post : List Member) → IsApart (waiters_of (pre ++ m ∷ post)) → after m.waiter (pre ++ m ∷ post) ≡ post
after_amid [] m post apart = cond-true (m.waiter == m.waiter) post (after m.waiter post) (eq-eqb m.waiter m.waiter refl)
after_amid (x ∷ pre) m post apart =
    cond-false (x.waiter == m.waiter) (pre ++ m ∷ post) (after m.waiter (pre ++ m ∷ post)) (ne_eqb x.waiter m.waiter (λ same. apart.0 (subst (λ (k : ℕ). IsIn k (waiters_of (pre ++ m ∷ post))) (sym same) (in_amid pre m post))))
    ∙ after_amid pre m post apart.1

rest_suffix : (pre post : List Member) → IsApart (waiters_of (pre ++ post)) → rest_from (slice_get post 0) (pre ++ post) ≡ post
rest_suffix pre [] apart = refl
rest_suffix pre (m ∷ post) apart = ap (λ (xs : List Member). m ∷ xs) (after_amid pre m post apart)

-- what comes behind a waiter is all from the next one on
pub rest_after : (ms : List Member) (w : ℕ) (next : Option Member) → IsApart (waiters_of ms) → next ≡ slice_get (after w ms) 0 → rest_from next ms ≡ after w ms
rest_after ms w next apart is =
    let s = after_suffix w ms in
    let at : next ≡ slice_get (after w ms) 0 = is in
    ap (λ (o : Option Member). rest_from o ms) at
    ∙ ap (rest_from (slice_get (after w ms) 0)) s.is
    ∙ rest_suffix s.pre (after w ms) (subst (λ (xs : List Member). IsApart (waiters_of xs)) s.is apart)

pub beyond_same : (number : ℕ) (m : Member) (ms : List Member) → m.number ≡ number → beyond number (m ∷ ms) ≡ beyond number ms
beyond_same number m ms same = cond-true (m.number == number) (beyond number ms) (m ∷ ms) (eq-eqb m.number number same)

pub beyond_other : (number : ℕ) (m : Member) (ms : List Member) → m.number ≢ number → beyond number (m ∷ ms) ≡ m ∷ ms
beyond_other number m ms differs = cond-false (m.number == number) (beyond number ms) (m ∷ ms) (ne_eqb m.number number differs)

pub own_same : (number : ℕ) (m : Member) (ms : List Member) → m.number ≡ number → own_members number (m ∷ ms) ≡ m ∷ own_members number ms
own_same number m ms same = cond-true (m.number == number) (m ∷ own_members number ms) (own_members number ms) (eq-eqb m.number number same)
