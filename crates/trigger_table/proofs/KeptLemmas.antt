-- What a change of the chains makes of the state of `Records`.
use Rattle.std.proofs.Common.{Result, Ok, Err, IfOk, OnErr, ◌≡◌, ◌≢◌, ℕ, ◌<◌, ◌≤◌, List, [], ◌∷◌, ◌++◌, map, filter, Bool, true, false, not, Option, Some, None, is_some, IsSome, OnSome, IfNone, IfSome, slice_get, get_or, refl, sym, ap, ◌∙◌, subst, inl, inr, arith, ◌==◌, eq-eqb, ne_eqb}
use Rattle.std.proofs.lemmas.Bool.{cases_eq, cond-true, cond-false}
use Rattle.std.proofs.lemmas.List.{append_assoc, append-nil}
use Rattle.std.proofs.lemmas.Option.{none-some, same_Some}
use Rattle.trigger_table.specs.declared.rings.Rings.{Rings}
use Rattle.trigger_table.specs.Rings.{items, list_of, key_limit, SameLists, Moves, IsTidy}
use Rattle.trigger_table.specs.Links.{without, IsIn, IsApart}
use Rattle.trigger_table.specs.Links.{is_list}
use Rattle.trigger_table.proofs.LinkLemmas.{IsIn-without, without_head, without_absent}
use Rattle.slab.specs.Slab.{Slab, Updates}
use Rattle.trigger_table.specs.State.{Link, Row, concat_by, links_of, add_link, row_without, drop_link, without_row, IsLast, HasNoLinks, waiters_on, has_some, tail_of, numbers_of, HasRow, links_at, entry_at, row_behead, behead, waits_on, first_on}
use Rattle.trigger_table.specs.Indexed.{Sets}
use Rattle.trigger_table.specs.Kept.{number_or_zero, link_of, row_of, rows_of, kept_as, all_waiters, IsSound}
use Rattle.trigger_table.specs.declared.entries.TaskRecord.{TaskRecord}
use Rattle.trigger_table.specs.declared.entries.CauseRecord.{CauseRecord}
use Rattle.trigger_table.proofs.ListLemmas.{map_on, concat_on, filter_on, filter_append, filter_swap, concat_append, concat_without, concat_without_one, IsIn_concat, IsIn_filter, map_append, map_map, filter_map, map_last}

abbrev Slots : Type 0 → Type 0
Slots T = List (Option T)

-- the same, where the slab made room before
pub sets_after : {T : Type 0} (old mid new : Slab T) (key : ℕ) (slot : Option T) → mid ≡ record old { capacity = mid.capacity } → Updates mid new key slot → Sets old.slots new.slots key slot
sets_after {T} old mid new key slot kept u =
    let slots = ap (λ (s : Slab T). s.slots) kept in
    record { changed = u.changed; others = λ other differs. u.others other differs ∙ ap (λ (xs : List (Option T)). get_or xs other None) slots }

pub free_after : {T : Type 0} (old mid : Slab T) (key : ℕ) → mid ≡ record old { capacity = mid.capacity } → get_or mid.slots key None ≡ None → get_or old.slots key None ≡ None
free_after {T} old mid key kept free = ap (λ (xs : List (Option T)). get_or xs key None) (sym (ap (λ (s : Slab T). s.slots) kept)) ∙ free

pub same_lists : (s : Rings) → SameLists s s
same_lists s = record { lists = λ list. refl; keys = λ key. refl }

none_of : {T : Type 0} (o : Option T) → ((x : T) → o ≢ Some x) → o ≡ None
none_of None never = refl
none_of (Some x) never = absurd (never x refl)

pub not_some : {T : Type 0} (o : Option T) → o ≡ None → ¬ IsSome o
not_some None none some = cc
not_some (Some x) none some = cc

apart_last : (front : List ℕ) (last k : ℕ) → IsApart (front ++ last ∷ []) → IsIn k front → k ≢ last
apart_last [] last k apart found same = found
apart_last (x ∷ front) last k apart found same =
    elim found [
      | inl here ↦ apart.0 (last_in front last x (sym same ∙ sym here))
      | inr there ↦ apart_last front last k apart.1 there same
    ]
  where
    last_in : (front : List ℕ) (last x : ℕ) → last ≡ x → IsIn x (front ++ last ∷ [])
    last_in [] last x same = inl same
    last_in (y ∷ front) last x same = inr (last_in front last x same)

pub is_last_in : (front : List ℕ) (last : ℕ) → IsIn last (front ++ last ∷ [])
is_last_in [] last = inl refl
is_last_in (y ∷ front) last = inr (is_last_in front last)

pub on_some : {T P : Type 0} (o : Option T) → P → OnSome o P
on_some None p = tt
on_some (Some x) p = p

pub if_none : {T P : Type 0} (o : Option T) → P → IfNone o P
if_none None p = p
if_none (Some x) p = tt

pub never_none : {T : Type 0} (P : Type 0) (o : Option T) → IsSome o → IfNone o P
never_none P None some = absurd (let e : false ≡ true = some in cc)
never_none P (Some x) some = tt

pub first_in : (xs : List ℕ) (w : ℕ) → slice_get xs 0 ≡ Some w → IsIn w xs
first_in [] w is = absurd (none-some w is)
first_in (x ∷ xs) w is = inl (same_Some x w is)

pub none_in : (xs : List ℕ) → None ≡ slice_get xs 0 → xs ≡ []
none_in [] is = refl
none_in (x ∷ xs) is = absurd (none-some x is)

pub tidy_back : (s s' : Rings) → SameLists s s' → IsTidy s' → IsTidy s
tidy_back s s' same tidy =
    record {
      listed = λ k l is. subst (IsIn k) (same.lists l) (tidy.listed k l (same.keys k ∙ is));
      owned = λ k l found. sym (same.keys k) ∙ tidy.owned k l (subst (IsIn k) (sym (same.lists l)) found);
      apart = λ l. subst IsApart (same.lists l) (tidy.apart l);
    }

-- ---- chains that stay

module _ (tasks : Slots TaskRecord) (bc bt o bc' bt' o' : Rings) (sc : SameLists bc bc') (st : SameLists bt bt') (so : SameLists o o') where
  pub rows_same : rows_of tasks bc' bt' o' ≡ rows_of tasks bc bt o
  unfolding row_of link_of
  rows_same =
      rw (so.lists 0) (map_on _ _ (items o 0) (λ n _.
      let links = ap (map (link_of bc')) (st.lists n) ∙ map_on (link_of bc') (link_of bc) (items bt n) (λ w _. ap (λ l. let link : Link = record { waiter = w; cause = number_or_zero l } in link) (sc.keys w)) in
      ap (λ ls. let row : Row = record { number = n; entry = kept_as (get_or tasks n None); links = ls } in row) links))

  all_same : all_waiters bt' o' ≡ all_waiters bt o
  all_same = rw (so.lists 0) (concat_on _ _ (items o 0) (λ n _. st.lists n))

  pub sound_same : (causes : Slots CauseRecord) (waiters : Slots (Unit {0})) → IsSound causes tasks waiters bc bt o → key_limit bt ≤ key_limit bt' → IsSound causes tasks waiters bc' bt' o'
  sound_same causes waiters s grows_t =
      record {
        ordered = λ n is. so.keys n ∙ s.ordered n is;
        kept = λ n l is. s.kept n l (sym (so.keys n) ∙ is);
        of_task = λ w n is. let was = s.of_task w n (sym (st.keys w) ∙ is) in (was.0, subst IsSome (sym (sc.keys w)) was.1, was.2);
        of_cause = λ w c is. let was = s.of_cause w c (sym (sc.keys w) ∙ is) in (was.0, subst IsSome (sym (st.keys w)) was.1);
        task_room = λ n is. omega (arith, s.task_room n is);
        chains = λ c. sc.lists c ∙ s.chains c ∙ sym (filter_on _ _ _ (λ w _. ap (is_list c) (sc.keys w)) ∙ ap (filter (λ w. is_list c (list_of bc w))) all_same);
      }

module _ (causes : Slots CauseRecord) (tasks : Slots TaskRecord) (waiters : Slots (Unit {0})) (bc bt o : Rings) (s : IsSound causes tasks waiters bc bt o) (tidy : IsTidy bt) where
  pub free_task : (w : ℕ) → get_or waiters w None ≡ None → list_of bt w ≡ None
  free_task w free = none_of _ (λ n is. not_some _ free (s.of_task w n is).2)

  pub free_cause : (w : ℕ) → list_of bt w ≡ None → list_of bc w ≡ None
  free_cause w free = none_of _ (λ c is. not_some _ free (s.of_cause w c is).1)

  off_all : (w : ℕ) → list_of bt w ≡ None → ¬ IsIn w (all_waiters bt o)
  off_all w free found =
      let one = IsIn_concat w (items bt) (items o 0) found in
      none-some one.0 (sym free ∙ tidy.owned w one.0 one.2)

  pub in_all : (w : ℕ) → IsIn w (all_waiters bt o) → (n : ℕ) × (list_of bt w ≡ Some n)
  in_all w found = let one = IsIn_concat w (items bt) (items o 0) found in (one.0, tidy.owned w one.0 one.2)

  pub waiters_are_all : map (λ (link : Link). link.waiter) (links_of (rows_of tasks bc bt o)) ≡ all_waiters bt o
  unfolding row_of link_of
  waiters_are_all = by_rows (items o 0)
    where
      by_rows : (xs : List ℕ) → map (λ (link : Link). link.waiter) (links_of (map (row_of tasks bc bt) xs)) ≡ concat_by (items bt) xs
      by_rows [] = refl
      by_rows (x ∷ xs) =
          map_append _ (map (link_of bc) (items bt x)) _
          ∙ ap (λ ys. ys ++ map (λ (link : Link). link.waiter) (links_of (map (row_of tasks bc bt) xs))) (map_map (link_of bc) (λ (link : Link). link.waiter) (items bt x) ∙ self (items bt x))
          ∙ ap (λ ys. items bt x ++ ys) (by_rows xs)
        where
          self : (xs : List ℕ) → map (λ k. (link_of bc k).waiter) xs ≡ xs
          self [] = refl
          self (x ∷ xs) = ap (λ ys. x ∷ ys) (self xs)

  -- ---- a waiter joins the last task

  module _ (waiters' : Slots (Unit {0})) (bc' bt' : Rings) (w r c : ℕ) (tidy_order : IsTidy o) (free : get_or waiters w None ≡ None) (sets : Sets waiters waiters' w (Some tt)) (known : IsSome (get_or causes c None)) (bcm : Moves bc bc' w (Some c)) (bcl : items bc' c ≡ items bc c ++ w ∷ []) (bco : (other : ℕ) → other ≢ c → items bc' other ≡ items bc other) (btm : Moves bt bt' w (Some r)) (btl : items bt' r ≡ items bt r ++ w ∷ []) (bto : (other : ℕ) → other ≢ r → items bt' other ≡ items bt other) (is_last : (front : List ℕ) × (items o 0 ≡ front ++ r ∷ [])) where
    no_task : list_of bt w ≡ None
    no_task = free_task w free

    others_than : (xs : List ℕ) → ¬ IsIn w xs → (k : ℕ) → IsIn k xs → k ≢ w
    others_than xs off k found same = off (subst (λ j. IsIn j xs) same found)

    link_all : all_waiters bt' o ≡ all_waiters bt o ++ w ∷ []
    link_all =
        let front = is_last.0 in
        let apart : IsApart (front ++ r ∷ []) = subst IsApart is_last.1 (tidy_order.apart 0) in
        rw is_last.1
        (concat_append (items bt') front (r ∷ [])
        ∙ ap (λ xs. xs ++ (items bt' r ++ [])) (concat_on (items bt') (items bt) front (λ k found. bto k (apart_last front r k apart found)))
        ∙ ap (λ xs. concat_by (items bt) front ++ xs) (append-nil _ ∙ btl)
        ∙ sym (append_assoc (concat_by (items bt) front) (items bt r) (w ∷ []))
        ∙ ap (λ xs. xs ++ w ∷ []) (ap (λ xs. concat_by (items bt) front ++ xs) (sym (append-nil (items bt r))) ∙ sym (concat_append (items bt) front (r ∷ []))))

    chain_front : (cause : ℕ) → filter (λ k. is_list cause (list_of bc' k)) (all_waiters bt o) ≡ items bc cause
    chain_front cause =
        filter_on _ _ (all_waiters bt o) (λ k found. ap (is_list cause) (bcm.others k (others_than _ (off_all w no_task) k found)))
        ∙ sym (s.chains cause)

    link_chain : (cause : ℕ) → items bc' cause ≡ filter (λ k. is_list cause (list_of bc' k)) (all_waiters bt' o)
    link_chain cause =
        rw (link_all, filter_append (λ k. is_list cause (list_of bc' k)) (all_waiters bt o) (w ∷ []), chain_front cause, bcm.moved)
        (elim (cases_eq c cause) [
          | inl same ↦ rw (cond-true (c == cause) (w ∷ []) [] (eq-eqb c cause same)) (ap (items bc') (sym same) ∙ bcl ∙ ap (λ j. items bc j ++ w ∷ []) same)
          | inr differs ↦ rw (cond-false (c == cause) (w ∷ []) [] (ne_eqb c cause differs)) (bco cause (λ same. differs (sym same)) ∙ sym (append-nil _))
        ])

    pub sound_link : IsSound causes tasks waiters' bc' bt' o
    sound_link =
        record {
          ordered = s.ordered;
          kept = s.kept;
          of_task = λ k n is.
              elim (cases_eq k w) [
                | inl same ↦
                    let rn : r ≡ n = same_Some r n (sym btm.moved ∙ ap (list_of bt') (sym same) ∙ is) in
                    let in_order : IsIn r (items o 0) = subst (IsIn r) (sym is_last.1) (is_last_in is_last.0 r) in (
                      subst (λ j. IsSome (get_or tasks j None)) rn (s.kept r 0 (tidy_order.owned r 0 in_order)).1,
                      subst IsSome (sym (ap (list_of bc') same ∙ bcm.moved)) refl,
                      subst IsSome (sym (ap (λ j. get_or waiters' j None) same ∙ sets.changed)) refl,
                    )
                | inr differs ↦
                    let was = s.of_task k n (sym (btm.others k differs) ∙ is) in
                    (was.0, subst IsSome (sym (bcm.others k differs)) was.1, subst IsSome (sym (sets.others k differs)) was.2)
              ];
          of_cause = λ k n is.
              elim (cases_eq k w) [
                | inl same ↦
                    let cn : c ≡ n = same_Some c n (sym bcm.moved ∙ ap (list_of bc') (sym same) ∙ is) in
                    (subst (λ j. IsSome (get_or causes j None)) cn known, subst IsSome (sym (ap (list_of bt') same ∙ btm.moved)) refl)
                | inr differs ↦
                    let was = s.of_cause k n (sym (bcm.others k differs) ∙ is) in
                    (was.0, subst IsSome (sym (btm.others k differs)) was.1)
              ];
          task_room = λ n is. omega (arith, s.task_room n is, btm.limit);
          chains = link_chain;
        }

    links_kept : (n : ℕ) → map (link_of bc') (items bt n) ≡ map (link_of bc) (items bt n)
    unfolding link_of
    links_kept n =
        map_on _ _ (items bt n) (λ k found.
        let differs : k ≢ w = λ same. none-some n (sym no_task ∙ ap (list_of bt) (sym same) ∙ tidy.owned k n found) in
        ap (λ l. let link : Link = record { waiter = k; cause = number_or_zero l } in link) (bcm.others k differs))

    pub rows_link : rows_of tasks bc' bt' o ≡ add_link r (record { waiter = w; cause = c }) (rows_of tasks bc bt o)
    unfolding row_of link_of
    rows_link =
        map_on _ _ (items o 0) (λ n _.
        elim (cases_eq n r) [
          | inl same ↦
              let links : map (link_of bc') (items bt' n) ≡ map (link_of bc) (items bt n) ++ record { waiter = w; cause = c } ∷ [] =
              ap (λ j. map (link_of bc') (items bt' j)) same ∙ ap (map (link_of bc')) btl ∙ map_append (link_of bc') (items bt r) (w ∷ [])
              ∙ ap (λ l. map (link_of bc') (items bt r) ++ record { waiter = w; cause = number_or_zero l } ∷ []) bcm.moved
              ∙ ap (λ ls. ls ++ record { waiter = w; cause = c } ∷ []) (links_kept r ∙ ap (λ j. map (link_of bc) (items bt j)) (sym same)) in
              ap (λ ls. let row : Row = record { number = n; entry = kept_as (get_or tasks n None); links = ls } in row) links
              ∙ sym (cond-true (n == r) _ _ (eq-eqb n r same))
          | inr differs ↦
              ap (λ ls. let row : Row = record { number = n; entry = kept_as (get_or tasks n None); links = ls } in row) (ap (map (link_of bc')) (bto n differs) ∙ links_kept n)
              ∙ sym (cond-false (n == r) _ _ (ne_eqb n r differs))
        ])
        ∙ sym (map_map (row_of tasks bc bt) _ (items o 0))

  -- ---- a waiter leaves

  module _ (waiters' : Slots (Unit {0})) (bc' bt' : Rings) (w : ℕ) (sets : Sets waiters waiters' w None) (bcm : Moves bc bc' w None) (bcs : (list : ℕ) → items bc' list ≡ without w (items bc list)) (btm : Moves bt bt' w None) (bts : (list : ℕ) → items bt' list ≡ without w (items bt list)) where
    unlink_all : all_waiters bt' o ≡ without w (all_waiters bt o)
    unlink_all = concat_on _ _ (items o 0) (λ n _. bts n) ∙ concat_without w (items bt) (items o 0)

    still : (k n : ℕ) (old new : Rings) → Moves old new w None → list_of new k ≡ Some n → k ≢ w
    still k n old new moves is same = none-some n (sym moves.moved ∙ ap (list_of new) (sym same) ∙ is)

    pub sound_unlink : IsSound causes tasks waiters' bc' bt' o
    sound_unlink =
        record {
          ordered = s.ordered;
          kept = s.kept;
          of_task = λ k n is.
              let differs = still k n bt bt' btm is in
              let was = s.of_task k n (sym (btm.others k differs) ∙ is) in
              (was.0, subst IsSome (sym (bcm.others k differs)) was.1, subst IsSome (sym (sets.others k differs)) was.2);
          of_cause = λ k n is.
              let differs = still k n bc bc' bcm is in
              let was = s.of_cause k n (sym (bcm.others k differs) ∙ is) in
              (was.0, subst IsSome (sym (btm.others k differs)) was.1);
          task_room = λ n is. omega (arith, s.task_room n is, btm.limit);
          chains = λ c.
              bcs c ∙ ap (without w) (s.chains c) ∙ filter_swap _ _ (all_waiters bt o)
              ∙ filter_on _ _ (without w (all_waiters bt o)) (λ k found. ap (is_list c) (sym (bcm.others k (IsIn-without w k (all_waiters bt o) found).1)))
              ∙ ap (filter (λ k. is_list c (list_of bc' k))) (sym unlink_all);
        }

    pub rows_unlink : rows_of tasks bc' bt' o ≡ drop_link w (rows_of tasks bc bt o)
    unfolding row_of link_of
    rows_unlink =
        map_on _ _ (items o 0) (λ n _.
        let links =
        ap (map (link_of bc')) (bts n)
        ∙ map_on (link_of bc') (link_of bc) (without w (items bt n)) (λ k found. ap (λ l. let link : Link = record { waiter = k; cause = number_or_zero l } in link) (bcm.others k (IsIn-without w k (items bt n) found).1))
        ∙ sym (filter_map (link_of bc) (λ (link : Link). not (link.waiter == w)) (items bt n)) in
        ap (λ ls. let row : Row = record { number = n; entry = kept_as (get_or tasks n None); links = ls } in row) links)
        ∙ sym (map_map (row_of tasks bc bt) (row_without w) (items o 0))

  -- ---- a task without a waiter leaves

  module _ (tasks' : Slots TaskRecord) (o' : Rings) (r : ℕ) (sets : Sets tasks tasks' r None) (om : Moves o o' r None) (os : (list : ℕ) → items o' list ≡ without r (items o list)) (bare : items bt r ≡ []) where
    remove_all : all_waiters bt o' ≡ all_waiters bt o
    remove_all = ap (concat_by (items bt)) (os 0) ∙ concat_without_one (items bt) r (items o 0) bare

    pub sound_remove : IsSound causes tasks' waiters bc bt o'
    sound_remove =
        record {
          ordered = λ n is.
              let differs : n ≢ r = λ same. not_some _ (ap (λ j. get_or tasks' j None) same ∙ sets.changed) is in
              om.others n differs ∙ s.ordered n (subst IsSome (sets.others n differs) is);
          kept = λ n l is.
              let differs : n ≢ r = λ same. none-some l (sym om.moved ∙ ap (list_of o') (sym same) ∙ is) in
              let was = s.kept n l (sym (om.others n differs) ∙ is) in
              (was.0, subst IsSome (sym (sets.others n differs)) was.1);
          of_task = λ k n is.
              let was = s.of_task k n is in
              let differs : n ≢ r = λ same. subst (IsIn k) (ap (items bt) same ∙ bare) (tidy.listed k n is) in
              (subst IsSome (sym (sets.others n differs)) was.0, was.1, was.2);
          of_cause = s.of_cause;
          task_room = λ n is.
              let differs : n ≢ r = λ same. not_some _ (ap (λ j. get_or tasks' j None) same ∙ sets.changed) is in
              s.task_room n (subst IsSome (sets.others n differs) is);
          chains = λ c. s.chains c ∙ ap (filter (λ k. is_list c (list_of bc k))) (sym remove_all);
        }

    pub rows_remove : rows_of tasks' bc bt o' ≡ without_row r (rows_of tasks bc bt o)
    unfolding row_of
    rows_remove =
        ap (map (row_of tasks' bc bt)) (os 0)
        ∙ map_on _ _ (without r (items o 0)) (λ n found. ap (λ e. let row : Row = record { number = n; entry = kept_as e; links = map (link_of bc) (items bt n) } in row) (sets.others n (IsIn-without r n (items o 0) found).1))
        ∙ sym (filter_map (row_of tasks bc bt) (λ (row : Row). not (row.number == r)) (items o 0))

  -- ---- a task begins to wait

  module _ (tasks' : Slots TaskRecord) (o' : Rings) (r : ℕ) (entry : TaskRecord) (tidy_order : IsTidy o) (free : get_or tasks r None ≡ None) (room : r < key_limit bt) (sets : Sets tasks tasks' r (Some entry)) (om : Moves o o' r (Some 0)) (ol : items o' 0 ≡ items o 0 ++ r ∷ []) where
    no_waiters : (xs : List ℕ) → ((k : ℕ) → IsIn k xs → list_of bt k ≡ Some r) → xs ≡ []
    no_waiters [] owned = refl
    no_waiters (x ∷ xs) owned = absurd (not_some _ free (s.of_task x r (owned x (inl refl))).0)

    bare_new : items bt r ≡ []
    bare_new = no_waiters (items bt r) (λ k found. tidy.owned k r found)

    add_all : all_waiters bt o' ≡ all_waiters bt o
    add_all =
        ap (concat_by (items bt)) ol ∙ concat_append (items bt) (items o 0) (r ∷ [])
        ∙ ap (λ xs. all_waiters bt o ++ xs) (append-nil _ ∙ bare_new) ∙ append-nil _

    pub sound_add : IsSound causes tasks' waiters bc bt o'
    sound_add =
        record {
          ordered = λ n is.
              elim (cases_eq n r) [
                | inl same ↦ ap (list_of o') same ∙ om.moved
                | inr differs ↦ om.others n differs ∙ s.ordered n (subst IsSome (sets.others n differs) is)
              ];
          kept = λ n l is.
              elim (cases_eq n r) [
                | inl same ↦
                    (sym (same_Some 0 l (sym om.moved ∙ ap (list_of o') (sym same) ∙ is)), subst IsSome (sym (ap (λ j. get_or tasks' j None) same ∙ sets.changed)) refl)
                | inr differs ↦
                    let was = s.kept n l (sym (om.others n differs) ∙ is) in
                    (was.0, subst IsSome (sym (sets.others n differs)) was.1)
              ];
          of_task = λ k n is.
              let was = s.of_task k n is in
              let differs : n ≢ r = λ same. not_some _ (ap (λ j. get_or tasks j None) same ∙ free) was.0 in
              (subst IsSome (sym (sets.others n differs)) was.0, was.1, was.2);
          of_cause = s.of_cause;
          task_room = λ n is.
              elim (cases_eq n r) [
                | inl same ↦ omega arith
                | inr differs ↦ s.task_room n (subst IsSome (sets.others n differs) is)
              ];
          chains = λ c. s.chains c ∙ ap (filter (λ k. is_list c (list_of bc k))) (sym add_all);
        }

    pub rows_add : rows_of tasks' bc bt o' ≡ rows_of tasks bc bt o ++ record { number = r; entry = kept_as (Some entry); links = [] } ∷ []
    unfolding row_of
    rows_add =
        let Made : ℕ → Option TaskRecord → List Link → Row = λ n e ls. record { number = n; entry = kept_as e; links = ls } in
        ap (map (row_of tasks' bc bt)) ol ∙ map_append (row_of tasks' bc bt) (items o 0) (r ∷ [])
        ∙ ap (λ xs. map (row_of tasks' bc bt) (items o 0) ++ Made r xs (map (link_of bc) (items bt r)) ∷ []) sets.changed
        ∙ ap (λ ls. map (row_of tasks' bc bt) (items o 0) ++ Made r (Some entry) (map (link_of bc) ls) ∷ []) bare_new
        ∙ ap (λ rows. rows ++ Made r (Some entry) [] ∷ []) (map_on _ _ (items o 0) (λ n found.
        let differs : n ≢ r = λ same. not_some _ (ap (λ j. get_or tasks j None) same ∙ free) (s.kept n 0 (tidy_order.owned n 0 found)).1 in
        ap (λ e. Made n e (map (link_of bc) (items bt n))) (sets.others n differs)))

  -- ---- what the rows say of the chains

  pub bare_of : (r : ℕ) → HasNoLinks r (rows_of tasks bc bt o) → IsIn r (items o 0) × (items bt r ≡ [])
  unfolding row_of
  bare_of r has = by_rows (items o 0) has
    where
      unmapped : (xs : List ℕ) → map (link_of bc) xs ≡ [] → xs ≡ []
      unmapped [] same = refl
      unmapped (x ∷ xs) same = absurd (cc)

      by_rows : (xs : List ℕ) → HasNoLinks r (map (row_of tasks bc bt) xs) → IsIn r xs × (items bt r ≡ [])
      by_rows [] has = absurd has
      by_rows (x ∷ xs) has =
          elim has [
            | inl here ↦ (inl here.0, ap (items bt) (sym here.0) ∙ unmapped (items bt x) here.1)
            | inr there ↦ let later = by_rows xs there in (inr later.0, later.1)
          ]

  pub last_of : (r : ℕ) → IsLast r (rows_of tasks bc bt o) → (front : List ℕ) × (items o 0 ≡ front ++ r ∷ [])
  unfolding row_of
  last_of r is_last =
      let found = map_last (row_of tasks bc bt) (items o 0) is_last.0 is_last.1 is_last.2 in
      let same : found.1 ≡ r = ap (λ (row : Row). row.number) found.3 ∙ is_last.3 in
      (found.0, found.2 ∙ ap (λ y. found.0 ++ y ∷ []) same)

  pub links_are : links_of (rows_of tasks bc bt o) ≡ map (link_of bc) (all_waiters bt o)
  unfolding row_of
  links_are = by_rows (items o 0)
    where
      by_rows : (xs : List ℕ) → links_of (map (row_of tasks bc bt) xs) ≡ map (link_of bc) (concat_by (items bt) xs)
      by_rows [] = refl
      by_rows (x ∷ xs) = ap (λ ls. map (link_of bc) (items bt x) ++ ls) (by_rows xs) ∙ sym (map_append (link_of bc) (items bt x) (concat_by (items bt) xs))

  some_same : (l : Option ℕ) (c : ℕ) → IsSome l → (number_or_zero l == c) ≡ is_list c l
  some_same None c some = cc
  some_same (Some x) c some = refl

  self_waiters : (xs : List ℕ) → map (λ (link : Link). link.waiter) (map (link_of bc) xs) ≡ xs
  unfolding link_of
  self_waiters [] = refl
  self_waiters (x ∷ xs) = ap (λ ys. x ∷ ys) (self_waiters xs)

  -- the chain of a cause has the waiters on it
  pub waiters_on_chain : (c : ℕ) → map (λ (link : Link). link.waiter) (waiters_on c (rows_of tasks bc bt o)) ≡ items bc c
  unfolding link_of
  waiters_on_chain c =
      ap (λ ls. map (λ (link : Link). link.waiter) (filter (λ (link : Link). link.cause == c) ls)) links_are
      ∙ ap (map (λ (link : Link). link.waiter)) (filter_map (link_of bc) (λ (link : Link). link.cause == c) (all_waiters bt o))
      ∙ self_waiters _
      ∙ filter_on _ _ (all_waiters bt o) (λ k found. let one = in_all k found in some_same (list_of bc k) c (s.of_task k one.0 one.1).1)
      ∙ sym (s.chains c)

  pub numbers_are : numbers_of (rows_of tasks bc bt o) ≡ items o 0
  unfolding row_of
  numbers_are = by_rows (items o 0)
    where
      by_rows : (xs : List ℕ) → numbers_of (map (row_of tasks bc bt) xs) ≡ xs
      by_rows [] = refl
      by_rows (x ∷ xs) = ap (λ ys. x ∷ ys) (by_rows xs)

  pub links_at_row : (r : ℕ) → IsIn r (items o 0) → links_at r (rows_of tasks bc bt o) ≡ map (link_of bc) (items bt r)
  unfolding row_of
  links_at_row r found = by_rows (items o 0) found
    where
      by_rows : (xs : List ℕ) → IsIn r xs → links_at r (map (row_of tasks bc bt) xs) ≡ map (link_of bc) (items bt r)
      by_rows [] found = absurd found
      by_rows (x ∷ xs) found =
          elim (cases_eq x r) [
            | inl same ↦ cond-true (x == r) _ _ (eq-eqb x r same) ∙ ap (λ n. map (link_of bc) (items bt n)) same
            | inr differs ↦
                cond-false (x == r) _ _ (ne_eqb x r differs)
                ∙ by_rows xs (elim found [ inl here ↦ absurd (differs here) | inr there ↦ there ])
          ]

  pub entry_at_row : (r : ℕ) → IsIn r (items o 0) → entry_at r (rows_of tasks bc bt o) ≡ kept_as (get_or tasks r None)
  unfolding row_of
  entry_at_row r found = by_rows (items o 0) found
    where
      by_rows : (xs : List ℕ) → IsIn r xs → entry_at r (map (row_of tasks bc bt) xs) ≡ kept_as (get_or tasks r None)
      by_rows [] found = absurd found
      by_rows (x ∷ xs) found =
          elim (cases_eq x r) [
            | inl same ↦ cond-true (x == r) _ _ (eq-eqb x r same) ∙ ap (λ n. kept_as (get_or tasks n None)) same
            | inr differs ↦
                cond-false (x == r) _ _ (ne_eqb x r differs)
                ∙ by_rows xs (elim found [ inl here ↦ absurd (differs here) | inr there ↦ there ])
          ]

  -- the task of the first waiter of a cause
  chain_of : ℕ → ℕ → Bool
  chain_of c k = is_list c (list_of bc k)

  on_row : (c x : ℕ) → IsIn x (items o 0) → waits_on c (row_of tasks bc bt x) ≡ has_some (filter (λ k. is_list c (list_of bc k)) (items bt x))
  unfolding row_of link_of
  on_row c x listed =
      ap has_some (filter_map (link_of bc) (λ (link : Link). link.cause == c) (items bt x))
      ∙ some_map (filter (λ k. number_or_zero (list_of bc k) == c) (items bt x))
      ∙ ap has_some (filter_on _ _ (items bt x) (λ k found. some_same (list_of bc k) c (s.of_task k x (tidy.owned k x found)).1))
    where
      some_map : (xs : List ℕ) → has_some (map (link_of bc) xs) ≡ has_some xs
      some_map [] = refl
      some_map (x ∷ xs) = refl

  first_rows : (c : ℕ) (xs : List ℕ) → ((x : ℕ) → IsIn x xs → IsIn x (items o 0)) → (first : Option ℕ) → slice_get (filter (λ k. is_list c (list_of bc k)) (concat_by (items bt) xs)) 0 ≡ first → ((w n : ℕ) → first ≡ Some w → list_of bt w ≡ Some n → first_on c (map (row_of tasks bc bt) xs) ≡ Some n) × (first ≡ None → first_on c (map (row_of tasks bc bt) xs) ≡ None)
  unfolding row_of
  first_rows c [] listed first is = (λ w n some owner. absurd (none-some w (is ∙ some)), λ none. refl)
  first_rows c (x ∷ xs) listed first is =
      let p : ℕ → Bool = λ k. is_list c (list_of bc k) in
      let split = filter_append p (items bt x) (concat_by (items bt) xs) in
      go (first_rows c xs (λ k found. listed k (inr found)) first) (filter p (items bt x)) refl (ap (λ ks. slice_get ks 0) (sym split) ∙ is)
    where
      go : (slice_get (filter (λ k. is_list c (list_of bc k)) (concat_by (items bt) xs)) 0 ≡ first → ((w n : ℕ) → first ≡ Some w → list_of bt w ≡ Some n → first_on c (map (row_of tasks bc bt) xs) ≡ Some n) × (first ≡ None → first_on c (map (row_of tasks bc bt) xs) ≡ None)) → (here : List ℕ) → filter (λ k. is_list c (list_of bc k)) (items bt x) ≡ here → slice_get (filter (λ k. is_list c (list_of bc k)) (items bt x) ++ filter (λ k. is_list c (list_of bc k)) (concat_by (items bt) xs)) 0 ≡ first → ((w n : ℕ) → first ≡ Some w → list_of bt w ≡ Some n → first_on c (map (row_of tasks bc bt) (x ∷ xs)) ≡ Some n) × (first ≡ None → first_on c (map (row_of tasks bc bt) (x ∷ xs)) ≡ None)
      go rest [] empty read =
          let later = rest (ap (λ ks. slice_get (ks ++ filter (λ k. is_list c (list_of bc k)) (concat_by (items bt) xs)) 0) (sym empty) ∙ read) in
          let passed = cond-false _ _ _ (on_row c x (listed x (inl refl)) ∙ ap has_some empty) in
          (λ w n some owner. passed ∙ later.0 w n some owner, λ none. passed ∙ later.1 none)
      go rest (k ∷ ks) full read =
          let is_k : Some k ≡ first = ap (λ js. slice_get (js ++ filter (λ j. is_list c (list_of bc j)) (concat_by (items bt) xs)) 0) (sym full) ∙ read in
          let member : IsIn k (items bt x) = IsIn_filter _ k (items bt x) (subst (IsIn k) (sym full) (inl refl)) in (
            λ w n some owner.
                let same : k ≡ w = same_Some k w (is_k ∙ some) in
                let is_n : x ≡ n = same_Some x n (sym (tidy.owned k x member) ∙ ap (list_of bt) same ∙ owner) in
                cond-true _ _ _ (on_row c x (listed x (inl refl)) ∙ ap has_some full) ∙ ap Some is_n,
            λ none. absurd (none-some k (sym none ∙ sym is_k)),
          )

  pub first_task : (c w n : ℕ) → slice_get (items bc c) 0 ≡ Some w → list_of bt w ≡ Some n → first_on c (rows_of tasks bc bt o) ≡ Some n
  first_task c w n is owner = (first_rows c (items o 0) (λ x found. found) _ (ap (λ ks. slice_get ks 0) (sym (s.chains c)) ∙ is)).0 w n refl owner

  pub no_first_task : (c : ℕ) → slice_get (items bc c) 0 ≡ None → first_on c (rows_of tasks bc bt o) ≡ None
  no_first_task c is = (first_rows c (items o 0) (λ x found. found) _ (ap (λ ks. slice_get ks 0) (sym (s.chains c)) ∙ is)).1 refl

  -- ---- the leftmost waiter of a task leaves

  module _ (bc' bt' : Rings) (w r : ℕ) (front : slice_get (items bt r) 0 ≡ Some w) (bcm : Moves bc bc' w None) (btm : Moves bt bt' w None) (bts : (list : ℕ) → items bt' list ≡ without w (items bt list)) where
    beheaded : (xs : List ℕ) → slice_get xs 0 ≡ Some w → IsApart xs → without w xs ≡ tail_of xs
    beheaded [] is apart = absurd (none-some w is)
    beheaded (x ∷ xs) is apart =
        let same : x ≡ w = same_Some x w is in
        without_head w x xs same ∙ without_absent w xs (λ found. apart.0 (subst (λ k. IsIn k xs) (sym same) found))

    owner_is : list_of bt w ≡ Some r
    owner_is = tidy.owned w r (first_in (items bt r) front)
      where
        first_in : (xs : List ℕ) → slice_get xs 0 ≡ Some w → IsIn w xs
        first_in [] is = absurd (none-some w is)
        first_in (x ∷ xs) is = inl (same_Some x w is)

    relinked : (xs : List ℕ) → ¬ IsIn w xs → map (link_of bc') xs ≡ map (link_of bc) xs
    unfolding link_of
    relinked xs off = map_on _ _ xs (λ k found. ap (λ l. let link : Link = record { waiter = k; cause = number_or_zero l } in link) (bcm.others k (λ same. off (subst (λ j. IsIn j xs) same found))))

    rest_map : (xs : List ℕ) → map (link_of bc) (tail_of xs) ≡ tail_of (map (link_of bc) xs)
    rest_map [] = refl
    rest_map (x ∷ xs) = refl

    pub rows_pop : rows_of tasks bc' bt' o ≡ behead r (rows_of tasks bc bt o)
    unfolding row_of
    rows_pop =
        map_on _ _ (items o 0) (λ n _.
        elim (cases_eq n r) [
          | inl same ↦
              let links =
              ap (map (link_of bc')) (bts n) ∙ relinked (without w (items bt n)) (λ found. (IsIn-without w w (items bt n) found).1 refl)
              ∙ ap (map (link_of bc)) (beheaded (items bt n) (ap (λ j. slice_get (items bt j) 0) same ∙ front) (tidy.apart n)) ∙ rest_map (items bt n) in
              ap (λ ls. let row : Row = record { number = n; entry = kept_as (get_or tasks n None); links = ls } in row) links
              ∙ sym (cond-true (n == r) _ _ (eq-eqb n r same))
          | inr differs ↦
              let off : ¬ IsIn w (items bt n) = λ found. differs (same_Some n r (sym (tidy.owned w n found) ∙ owner_is)) in
              let links = ap (map (link_of bc')) (bts n ∙ without_absent w (items bt n) off) ∙ relinked (items bt n) off in
              ap (λ ls. let row : Row = record { number = n; entry = kept_as (get_or tasks n None); links = ls } in row) links
              ∙ sym (cond-false (n == r) _ _ (ne_eqb n r differs))
        ])
        ∙ sym (map_map (row_of tasks bc bt) (row_behead r) (items o 0))

  -- what is told of the waiter that leaves
  pub popped : (w r : ℕ) (res : Option ℕ) → res ≡ list_of bc w → IsIn r (items o 0) → slice_get (items bt r) 0 ≡ Some w → IfSome res (λ cause. (waiter : ℕ) × (rest : List Link) × (links_at r (rows_of tasks bc bt o) ≡ record { waiter = waiter; cause = cause } ∷ rest))
  unfolding link_of
  popped w r None same listed front = tt
  popped w r (Some c) same listed front = (w, map (link_of bc) (tail_of (items bt r)), links_at_row r listed ∙ by_list (items bt r) front)
    where
      by_list : (xs : List ℕ) → slice_get xs 0 ≡ Some w → map (link_of bc) xs ≡ record { waiter = w; cause = c } ∷ map (link_of bc) (tail_of xs)
      by_list [] is = absurd (none-some w is)
      by_list (x ∷ xs) is =
          let here = same_Some x w is in
          ap (λ l. l ∷ map (link_of bc) xs) (ap (link_of bc) here ∙ ap (λ (l : Option ℕ). let link : Link = record { waiter = w; cause = number_or_zero l } in link) (sym same))

  pub listed_row : (r : ℕ) → HasRow r (rows_of tasks bc bt o) → IsIn r (items o 0)
  listed_row r has = subst (IsIn r) numbers_are has

  pub no_links : (r : ℕ) → IsIn r (items o 0) → None ≡ slice_get (items bt r) 0 → links_at r (rows_of tasks bc bt o) ≡ []
  no_links r listed none = links_at_row r listed ∙ ap (map (link_of bc)) (none_in (items bt r) none)

  -- the owner of the first waiter of a cause is the first task on it
  pub first_owner : (c w : ℕ) (owner : Option ℕ) → owner ≡ list_of bt w → slice_get (items bc c) 0 ≡ Some w → list_of bc w ≡ Some c → owner ≡ first_on c (rows_of tasks bc bt o)
  first_owner c w None same is member = absurd (not_some _ (sym same) (s.of_cause w c member).1)
  first_owner c w (Some n) same is member = sym (first_task c w n is (sym same))

-- a record of a cause joins or leaves
module _ (causes causes' : Slots CauseRecord) (tasks : Slots TaskRecord) (waiters : Slots (Unit {0})) (bc bt o : Rings) (s : IsSound causes tasks waiters bc bt o) where
  with_causes : ((w c : ℕ) → list_of bc w ≡ Some c → IsSome (get_or causes' c None)) → IsSound causes' tasks waiters bc bt o
  with_causes stay =
      record {
        ordered = s.ordered;
        kept = s.kept;
        of_task = s.of_task;
        of_cause = λ w c is. (stay w c is, (s.of_cause w c is).1);
        task_room = s.task_room;
        chains = s.chains;
      }

  pub sound_make : (c : ℕ) (made : CauseRecord) → Sets causes causes' c (Some made) → IsSound causes' tasks waiters bc bt o
  sound_make c made sets =
      with_causes (λ w k is.
      elim (cases_eq k c) [
        | inl same ↦ subst IsSome (sym (ap (λ j. get_or causes' j None) same ∙ sets.changed)) refl
        | inr differs ↦ subst IsSome (sym (sets.others k differs)) (s.of_cause w k is).0
      ])

  pub sound_unmake : (c : ℕ) → IsTidy bc → IsTidy bt → waiters_on c (rows_of tasks bc bt o) ≡ [] → Sets causes causes' c None → IsSound causes' tasks waiters bc bt o
  sound_unmake c tidy_bc tidy bare sets =
      let empty : items bc c ≡ [] = sym (waiters_on_chain causes tasks waiters bc bt o s tidy c) ∙ ap (map (λ (link : Link). link.waiter)) bare in
      with_causes (λ w k is.
      elim (cases_eq k c) [
        | inl same ↦ absurd (subst (IsIn w) (ap (items bc) same ∙ empty) (tidy_bc.listed w k is))
        | inr differs ↦ subst IsSome (sym (sets.others k differs)) (s.of_cause w k is).0
      ])

  pub sound_made : {E : Type 0} (res : Result ℕ E) (made : CauseRecord) → IfOk res (λ number. Sets causes causes' number (Some made)) → OnErr res (causes' ≡ causes) → IsSound causes' tasks waiters bc bt o
  sound_made (Ok number) made sets kept = sound_make number made sets
  sound_made (Err e) made sets kept = subst (λ (cs : Slots CauseRecord). IsSound cs tasks waiters bc bt o) (sym kept) s

module _ (causes : Slots CauseRecord) (tasks : Slots TaskRecord) (waiters : Slots (Unit {0})) (bc bt o : Rings) (s : IsSound causes tasks waiters bc bt o) (tidy : IsTidy bt) where
  unmapped_links : (ls : List Link) → map (λ (link : Link). link.waiter) ls ≡ [] → ls ≡ []
  unmapped_links [] same = refl
  unmapped_links (l ∷ ls) same = absurd (cc)

  pub has_waiters : (c : ℕ) (first : Option ℕ) → first ≡ slice_get (items bc c) 0 → is_some first ≡ true → waiters_on c (rows_of tasks bc bt o) ≢ []
  has_waiters c first is some empty =
      let none = ap (λ ks. slice_get ks 0) (sym (waiters_on_chain causes tasks waiters bc bt o s tidy c) ∙ ap (map (λ (link : Link). link.waiter)) empty) in
      let f : false ≡ true = sym (ap is_some (is ∙ none)) ∙ some in cc

  pub bare_waiters : (c : ℕ) (first : Option ℕ) → first ≡ slice_get (items bc c) 0 → is_some first ≡ false → waiters_on c (rows_of tasks bc bt o) ≡ []
  bare_waiters c None is none = unmapped_links _ (waiters_on_chain causes tasks waiters bc bt o s tidy c ∙ none_in (items bc c) is)
  bare_waiters c (Some w) is none = absurd (let f : true ≡ false = none in cc)

pub known_cause : (causes : Slots CauseRecord) (tasks : Slots TaskRecord) (waiters : Slots (Unit {0})) (bc bt o : Rings) → IsSound causes tasks waiters bc bt o → (w : ℕ) (res : Option ℕ) → res ≡ list_of bc w → IfSome res (λ cause. get_or causes cause None ≢ None)
known_cause causes tasks waiters bc bt o s w None is = tt
known_cause causes tasks waiters bc bt o s w (Some c) is = λ none. not_some _ none (s.of_cause w c (sym is)).0

pub some_is : {T : Type 0} (o : Option T) → IsSome o → o ≢ None
some_is None some none = let f : false ≡ true = some in cc
some_is (Some x) some none = none-some x (sym none)

pub on_err : {T E P : Type 0} (r : Result T E) → P → OnErr r P
on_err (Ok x) p = tt
on_err (Err e) p = p

pub no_rows : (tasks : Slots TaskRecord) (bc bt o : Rings) → items o 0 ≡ [] → rows_of tasks bc bt o ≡ []
no_rows tasks bc bt o none = ap (map (row_of tasks bc bt)) none
