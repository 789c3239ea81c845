-- A task begins to wait, leaf by leaf.
use Rattle.std.proofs.Common.{◌≡◌, ◌≢◌, ℕ, zero, suc, ◌+◌, ◌≤◌, ◌<◌, Bool, true, false, cond, ◌||◌, ◌&&◌, List, [], ◌∷◌, ◌++◌, length, filter, take, drop, Option, Some, None, get_or, refl, sym, ap, ◌∙◌, subst, inl, inr, arith, ◌==◌, eq-eqb, ne_eqb, add-one, append_assoc, append-nil, length-append}
use Rattle.std.proofs.lemmas.Bool.{cases_eq, cond-true, cond-false, or_cases, false≢true}
use Rattle.std.proofs.lemmas.Option.{none-some, same_Some}
use Rattle.std.proofs.lemmas.List.{length-take-le, map-append, take_all}
use Rattle.gpi.specs.Content.{Content, IsAsked, Registers}
use Rattle.gpi.specs.Keys.{among, has, same_key}
use Rattle.gpi.specs.declared.types.Counts.{Counts}
use Rattle.gpi.specs.declared.types.Key.{Key}
use Rattle.await_tree.specs.declared.cause.Awaited.{Awaited}
use Rattle.await_tree.specs.declared.cause.Awaited.TheVariants as awaited
use Rattle.await_tree.specs.WaitList.Keys.{AreAlike, AreAsked, AreKeys, Rekeyed}
use Rattle.await_tree.specs.WaitList.Parts.{Fits, Narrows}
use Rattle.await_tree.specs.WaitList.Waiting.{keys_among}
use Rattle.await_tree.proofs.WaitListLemmas.Awaited.{asked_upto, fits_again, joined_at, keys_upto, one_within, other_at, registered_next}
use Rattle.await_tree.proofs.WaitListLemmas.Members.{alike, among_append, among_first, among_left, among_right, keys_among_append}
use Rattle.await_tree.proofs.WaitListLemmas.Rekeys.{joins_registered, joins_there, rekeyed_alike}
use Rattle.trigger_table.specs.Awaiting.{Adds, FallsShort, Joined, Reaches, Steady, with_links}
use Rattle.trigger_table.specs.Entries.{HasCause}
use Rattle.trigger_table.specs.Indexed.{Sets}
use Rattle.trigger_table.specs.Keys.{record_keys, runner_keys}
use Rattle.trigger_table.specs.Links.{IsIn}
use Rattle.trigger_table.specs.Records.{causes_in, rows_in, state_in}
use Rattle.trigger_table.specs.State.{AllNeeded, HasRow, IsLast, IsNeeded, Link, Row, State, numbers_of, waiters_on}
use Rattle.trigger_table.specs.Tied.{AreOn, Grows, SameSlots, Shrinks}
use Rattle.trigger_table.specs.declared.entries.CauseRecord.{CauseRecord}
use Rattle.trigger_table.specs.declared.records.Records.{Records}
use Rattle.trigger_table.proofs.EntryLemmas.{some_cause, waited_known}
use Rattle.trigger_table.proofs.LinkLemmas.{IsIn_last}
use Rattle.trigger_table.proofs.GoneLemmas.{key_named, named_key, one_key, runner_key}
use Rattle.trigger_table.proofs.ListLemmas.{filter_append}
use Rattle.trigger_table.proofs.RowLemmas.{waiters_cons}
use Rattle.trigger_table.proofs.TieLemmas.{both_nil, filter_none, held_named, left_nil, right_nil}

abbrev Slots : Type 0
Slots = List (Option CauseRecord)

-- ---- waiters join a task

abbrev joined : ℕ → List Link → Row → Row
joined n ls row = cond (row.number == n) (record row { links = row.links ++ ls }) row

joined_number : (n : ℕ) (ls : List Link) (row : Row) → (joined n ls row).number ≡ row.number
joined_number n ls row = elim (row.number == n) as (λ b. (let r : Row = cond b (record row { links = row.links ++ ls }) row in r).number ≡ row.number) [ true ↦ refl | false ↦ refl ]

joined_same : (n : ℕ) (ls : List Link) (row : Row) → row.number ≡ n → joined n ls row ≡ record row { links = row.links ++ ls }
joined_same n ls row same = cond-true _ _ _ (eq-eqb row.number n same)

joined_other : (n : ℕ) (ls : List Link) (row : Row) → row.number ≢ n → joined n ls row ≡ row
joined_other n ls row differs = cond-false _ _ _ (ne_eqb row.number n differs)

joined_none : (n : ℕ) (row : Row) → joined n [] row ≡ row
joined_none n row =
    elim (cases_eq row.number n) [
      | inl same ↦ joined_same n [] row same ∙ ap (λ (ls : List Link). let r : Row = record row { links = ls } in r) (append-nil row.links)
      | inr differs ↦ joined_other n [] row differs
    ]

pub with_none : (n : ℕ) (rows : List Row) → with_links n [] rows ≡ rows
with_none n [] = refl
with_none n (row ∷ rows) = ap (λ (r : Row). r ∷ with_links n [] rows) (joined_none n row) ∙ ap (λ (rs : List Row). row ∷ rs) (with_none n rows)

joined_both : (n : ℕ) (ls ms : List Link) (row : Row) → joined n ms (joined n ls row) ≡ joined n (ls ++ ms) row
joined_both n ls ms row =
    elim (cases_eq row.number n) [
      | inl same ↦
          ap (joined n ms) (joined_same n ls row same) ∙ joined_same n ms (record row { links = row.links ++ ls }) same
          ∙ ap (λ (xs : List Link). let r : Row = record row { links = xs } in r) (append_assoc row.links ls ms) ∙ sym (joined_same n (ls ++ ms) row same)
      | inr differs ↦ ap (joined n ms) (joined_other n ls row differs) ∙ joined_other n ms row differs ∙ sym (joined_other n (ls ++ ms) row differs)
    ]

with_both : (n : ℕ) (ls ms : List Link) (rows : List Row) → with_links n ms (with_links n ls rows) ≡ with_links n (ls ++ ms) rows
with_both n ls ms [] = refl
with_both n ls ms (row ∷ rows) =
    ap (λ (r : Row). r ∷ with_links n ms (with_links n ls rows)) (joined_both n ls ms row) ∙ ap (λ (rs : List Row). joined n (ls ++ ms) row ∷ rs) (with_both n ls ms rows)

pub last_with : (n : ℕ) (ls : List Link) (rows : List Row) → IsLast n rows → IsLast n (with_links n ls rows)
last_with n ls rows last =
    (with_links n ls last.0, joined n ls last.1, ap (with_links n ls) last.2 ∙ map-append (joined n ls) last.0 (last.1 ∷ []), joined_number n ls last.1 ∙ last.3)

pub has_last : (n : ℕ) (rows : List Row) → IsLast n rows → HasRow n rows
has_last n rows last =
    subst (λ (rs : List Row). HasRow n rs) (sym last.2)
    (subst (IsIn n) (sym (map-append (λ (row : Row). row.number) last.0 (last.1 ∷ []))) (subst (λ (j : ℕ). IsIn n (numbers_of last.0 ++ j ∷ [])) (sym last.3) (IsIn_last n (numbers_of last.0))))

-- ---- who waits waits on

bare_joined : (c n : ℕ) (ls : List Link) (row : Row) → filter (λ (link : Link). link.cause == c) (joined n ls row).links ≡ [] → filter (λ (link : Link). link.cause == c) row.links ≡ []
bare_joined c n ls row none =
    elim (cases_eq row.number n) [
      | inl same ↦
          left_nil (filter (λ (link : Link). link.cause == c) row.links) (filter (λ (link : Link). link.cause == c) ls)
          (sym (filter_append (λ (link : Link). link.cause == c) row.links ls)
          ∙ sym (ap (λ (r : Row). filter (λ (link : Link). link.cause == c) r.links) (joined_same n ls row same)) ∙ none)
      | inr differs ↦ sym (ap (λ (r : Row). filter (λ (link : Link). link.cause == c) r.links) (joined_other n ls row differs)) ∙ none
    ]

bare_with : (c n : ℕ) (ls : List Link) (rows : List Row) → waiters_on c (with_links n ls rows) ≡ [] → waiters_on c rows ≡ []
bare_with c n ls [] none = none
bare_with c n ls (row ∷ rows) none =
    let parts = sym (waiters_cons c (joined n ls row) (with_links n ls rows)) ∙ none in
    waiters_cons c row rows
    ∙ both_nil (filter (λ (link : Link). link.cause == c) row.links) (waiters_on c rows)
    (bare_joined c n ls row (left_nil (filter (λ (link : Link). link.cause == c) (joined n ls row).links) (waiters_on c (with_links n ls rows)) parts))
    (bare_with c n ls rows (right_nil (filter (λ (link : Link). link.cause == c) (joined n ls row).links) (waiters_on c (with_links n ls rows)) parts))

waiter_joined : (n : ℕ) (link : Link) (rows : List Row) → HasRow n rows → waiters_on link.cause (with_links n (link ∷ []) rows) ≢ []
waiter_joined n link [] has none = absurd has
waiter_joined n link (row ∷ rows) has none =
    let p : Link → Bool = λ l. l.cause == link.cause in
    let parts = sym (waiters_cons link.cause (joined n (link ∷ []) row) (with_links n (link ∷ []) rows)) ∙ none in
    elim has [
      | inl same ↦
          let own : filter p (row.links ++ link ∷ []) ≡ [] = sym (ap (λ (r : Row). filter p r.links) (joined_same n (link ∷ []) row same))
          ∙ left_nil (filter p (joined n (link ∷ []) row).links) (waiters_on link.cause (with_links n (link ∷ []) rows)) parts in
          let last : filter p (link ∷ []) ≡ [] = right_nil (filter p row.links) (filter p (link ∷ [])) (sym (filter_append p row.links (link ∷ [])) ∙ own) in
          false≢true (sym (filter_none p link [] last).0 ∙ eq-eqb link.cause link.cause refl)
      | inr there ↦ waiter_joined n link rows there (right_nil (filter p (joined n (link ∷ []) row).links) (waiters_on link.cause (with_links n (link ∷ []) rows)) parts)
    ]

-- ---- records that came

pub runner_named : (key : Key) (slots : Slots) (number : ℕ) → get_or slots number None ≡ Some (record { on = awaited.Key key; held = true }) → among key (runner_keys slots) ≡ true
runner_named key slots number is = held_named key slots number (record { on = awaited.Key key; held = true }) (true, is) is refl

record_within : (slots slots' : Slots) → Grows slots slots' → (k : Key) → among k (record_keys slots) ≡ true → among k (record_keys slots') ≡ true
record_within slots slots' grows k is = let one = named_key k slots is in key_named k slots' one.0 (one.1.0, grows one.0 _ one.1.1)

runner_within : (slots slots' : Slots) → Grows slots slots' → (k : Key) → among k (runner_keys slots) ≡ true → among k (runner_keys slots') ≡ true
runner_within slots slots' grows k is = let one = runner_key k slots is in runner_named k slots' one.0 (grows one.0 _ one.1)

pub same_records : (slots slots' : Slots) → SameSlots slots slots' → AreAlike (record_keys slots') (record_keys slots)
same_records slots slots' same k =
    alike (among k (record_keys slots')) (among k (record_keys slots)) (record_within slots' slots (λ n kept is. sym (same n) ∙ is) k) (record_within slots slots' (λ n kept is. same n ∙ is) k)

pub same_runner : (slots slots' : Slots) → SameSlots slots slots' → AreAlike (runner_keys slots') (runner_keys slots)
same_runner slots slots' same k =
    alike (among k (runner_keys slots')) (among k (runner_keys slots)) (runner_within slots' slots (λ n kept is. sym (same n) ∙ is) k) (runner_within slots slots' (λ n kept is. same n ∙ is) k)

-- ---- records with one more, or as many

pub joined_there : (on : Awaited) (cause : ℕ) (slots slots' : Slots) → SameSlots slots slots' → HasCause slots cause on → Joined on cause slots slots'
joined_there on cause slots slots' same has = record {
  has = (has.0, same cause ∙ has.1);
  grows = λ n kept is. same n ∙ is;
  only = λ n kept is. inr (sym (same n) ∙ is);
  free = λ kept is held. sym (same cause) ∙ is;
}

pub joined_made : (on : Awaited) (cause : ℕ) (slots slots' : Slots) → get_or slots cause None ≡ None → Sets slots slots' cause (Some (record { on = on; held = false })) → Joined on cause slots slots'
joined_made on cause slots slots' vacant sets = record {
  has = (false, sets.changed);
  grows = λ n kept is.
      elim (cases_eq n cause) [
        | inl same ↦ absurd (none-some kept (sym vacant ∙ ap (λ (j : ℕ). get_or slots j None) (sym same) ∙ is))
        | inr differs ↦ sets.others n differs ∙ is
      ];
  only = λ n kept is. elim (cases_eq n cause) [ inl same ↦ inl same | inr differs ↦ inr (sym (sets.others n differs) ∙ is) ];
  free = λ kept is held.
      absurd (let e : record { on = on; held = false } ≡ kept = same_Some _ _ (sym sets.changed ∙ is) in
      false≢true (ap (λ (r : CauseRecord). r.held) e ∙ held));
}

module _ (on : Awaited) (cause : ℕ) (slots slots' : Slots) (j : Joined on cause slots slots') where
  pub names_joined : AreAlike (record_keys slots') (keys_among (on ∷ []) ++ record_keys slots)
  names_joined k = alike (among k (record_keys slots')) (among k (keys_among (on ∷ []) ++ record_keys slots)) there back
    where
      there : among k (record_keys slots') ≡ true → among k (keys_among (on ∷ []) ++ record_keys slots) ≡ true
      there is =
          let one = named_key k slots' is in
          elim (j.only one.0 _ one.1.1) [
            | inl same ↦
                let e = same_Some _ _ (sym one.1.1 ∙ ap (λ (n : ℕ). get_or slots' n None) same ∙ j.has.1) in
                let own : awaited.Key k ≡ on = ap (λ (r : CauseRecord). r.on) e in
                among_left k (keys_among (on ∷ [])) (record_keys slots) (ap (λ (a : Awaited). among k (keys_among (a ∷ []))) (sym own) ∙ among_first k [])
            | inr was ↦ among_right k (keys_among (on ∷ [])) (record_keys slots) (key_named k slots one.0 (one.1.0, was))
          ]

      back : among k (keys_among (on ∷ []) ++ record_keys slots) ≡ true → among k (record_keys slots') ≡ true
      back is =
          elim (or_cases (among k (keys_among (on ∷ []))) (among k (record_keys slots)) (sym (among_append k (keys_among (on ∷ [])) (record_keys slots)) ∙ is)) [
            | inl own ↦ key_named k slots' cause (subst (HasCause slots' cause) (one_key k on own) j.has)
            | inr was ↦ record_within slots slots' j.grows k was
          ]

  runner_joined : AreAlike (runner_keys slots') (runner_keys slots)
  runner_joined k = alike (among k (runner_keys slots')) (among k (runner_keys slots)) there (runner_within slots slots' j.grows k)
    where
      there : among k (runner_keys slots') ≡ true → among k (runner_keys slots) ≡ true
      there is =
          let one = runner_key k slots' is in
          elim (j.only one.0 _ one.1) [
            | inl same ↦ runner_named k slots cause (j.free _ (ap (λ (n : ℕ). get_or slots' n None) (sym same) ∙ one.1) refl)
            | inr was ↦ runner_named k slots one.0 was
          ]

needed_with : (n k : ℕ) (ls : List Link) (old new : State) → new.rows ≡ with_links n ls old.rows → get_or new.causes k None ≡ get_or old.causes k None → IsNeeded k old → IsNeeded k new
needed_with n k ls old new rows slot needed =
    elim needed [
      | inl some ↦ inl (λ none. some (bare_with k n ls old.rows (sym (ap (waiters_on k) rows) ∙ none)))
      | inr held ↦ inr (held.0, slot ∙ held.1, held.2)
    ]

pub reaches_of : (number waiter cause : ℕ) (on : Awaited) (old new : State) → HasRow number old.rows → new.rows ≡ with_links number (record { waiter = waiter; cause = cause } ∷ []) old.rows
    → Joined on cause old.causes new.causes → AllNeeded old → Reaches number (on ∷ []) old new
reaches_of number waiter cause on old new has rows j all =
    let link : Link = record { waiter = waiter; cause = cause } in
    record {
      links = link ∷ [];
      rows = rows;
      on = (j.has, tt);
      grows = j.grows;
      held = runner_joined on cause old.causes new.causes j;
      names = names_joined on cause old.causes new.causes j;
      needed = λ k some.
          let one = some_cause new.causes k some in
          elim (j.only k one.0 one.1) [
            | inl same ↦ subst (λ (n : ℕ). IsNeeded n new) (sym same) (inl (λ none. waiter_joined number link old.rows has (sym (ap (waiters_on cause) rows) ∙ none)))
            | inr was ↦ needed_with number k (link ∷ []) old new rows (one.1 ∙ sym was) (all k (λ none. none-some one.0 (sym none ∙ was)))
          ];
    }

pub reaches_none : (number : ℕ) (old new : State) → new.rows ≡ old.rows → SameSlots old.causes new.causes → AllNeeded old → Reaches number [] old new
reaches_none number old new rows same all =
    let is : new.rows ≡ with_links number [] old.rows = rows ∙ sym (with_none number old.rows) in
    record {
      links = [];
      rows = is;
      on = tt;
      grows = λ n kept at. same n ∙ at;
      held = same_runner old.causes new.causes same;
      names = same_records old.causes new.causes same;
      needed = λ k some. needed_with number k [] old new is (same k) (all k (λ none. some (same k ∙ none)));
    }

on_grows : (slots slots' : Slots) (links : List Link) (ons : List Awaited) → Grows slots slots' → AreOn slots links ons → AreOn slots' links ons
on_grows slots slots' [] [] grows h = tt
on_grows slots slots' [] (on ∷ ons) grows h = h
on_grows slots slots' (link ∷ links) [] grows h = h
on_grows slots slots' (link ∷ links) (on ∷ ons) grows h = ((h.0.0, grows link.cause _ h.0.1), on_grows slots slots' links ons grows h.1)

on_both : (slots : Slots) (ls ms : List Link) (xs ys : List Awaited) → AreOn slots ls xs → AreOn slots ms ys → AreOn slots (ls ++ ms) (xs ++ ys)
on_both slots [] ms [] ys h k = k
on_both slots [] ms (x ∷ xs) ys h k = absurd h
on_both slots (l ∷ ls) ms [] ys h k = absurd h
on_both slots (l ∷ ls) ms (x ∷ xs) ys h k = (h.0, on_both slots ls ms xs ys h.1 k)

pub reaches_through : (number : ℕ) (xs ys : List Awaited) (a b c : State) → Reaches number xs a b → Reaches number ys b c → Reaches number (xs ++ ys) a c
reaches_through number xs ys a b c h e = record {
  links = h.links ++ e.links;
  rows = e.rows ∙ ap (with_links number e.links) h.rows ∙ with_both number h.links e.links a.rows;
  on = on_both c.causes h.links e.links xs ys (on_grows b.causes c.causes h.links xs e.grows h.on) e.on;
  grows = λ n kept is. e.grows n kept (h.grows n kept is);
  held = λ k. e.held k ∙ h.held k;
  names = λ k.
      e.names k
      ∙ among_append k (keys_among ys) (record_keys b.causes)
      ∙ ap (λ (x : Bool). among k (keys_among ys) || x) (h.names k ∙ among_append k (keys_among xs) (record_keys a.causes))
      ∙ turned (among k (keys_among xs)) (among k (keys_among ys)) (among k (record_keys a.causes))
      ∙ ap (λ (x : Bool). x || among k (record_keys a.causes)) (sym (ap (among k) (keys_among_append xs ys) ∙ among_append k (keys_among xs) (keys_among ys)))
      ∙ sym (among_append k (keys_among (xs ++ ys)) (record_keys a.causes));
  needed = e.needed;
}
  where
    turned : (x y r : Bool) → (y || (x || r)) ≡ ((x || y) || r)
    turned true true r = refl
    turned true false r = refl
    turned false true r = refl
    turned false false r = refl

-- ---- the simulator

pub adds_keys : (a b : Content) (on : Awaited) (names names' : List Key) → Adds a on b → AreKeys a.keys names → AreAlike names' (keys_among (on ∷ []) ++ names) → AreKeys b.keys names'
adds_keys a b (awaited.Key key) names names' j g al k = j.keys k ∙ ap (λ (x : Bool). same_key k key || x) (g k) ∙ sym (al k)
adds_keys a b (awaited.Event event) names names' e g al k = ap (λ (c : Content). has k c.keys) e ∙ g k ∙ sym (al k)
adds_keys a b (awaited.Lock lock) names names' e g al k = ap (λ (c : Content). has k c.keys) e ∙ g k ∙ sym (al k)
adds_keys a b (awaited.Join task) names names' e g al k = ap (λ (c : Content). has k c.keys) e ∙ g k ∙ sym (al k)

pub steady_same : (a b : Content) → b ≡ a → Steady a b
steady_same a b e = record { procs = ap (λ (c : Content). c.procs) e; nets = ap (λ (c : Content). c.nets) e; state = ap (λ (c : Content). c.state) e; fired = ap (λ (c : Content). c.counts.fired) e }

pub steady_through : (a b c : Content) → Steady a b → Steady b c → Steady a c
steady_through a b c h e = record { procs = e.procs ∙ h.procs; nets = e.nets ∙ h.nets; state = e.state ∙ h.state; fired = e.fired ∙ h.fired }

pub adds_steady : (a b : Content) (on : Awaited) → Adds a on b → Steady a b
adds_steady a b (awaited.Key key) j = record { procs = j.procs; nets = j.nets; state = j.state; fired = ap (λ (c : Counts). c.fired) j.counts }
adds_steady a b (awaited.Event event) e = steady_same a b e
adds_steady a b (awaited.Lock lock) e = steady_same a b e
adds_steady a b (awaited.Join task) e = steady_same a b e

pub rekeyed_steady : (a b : Content) (asked old new : List Key) → Rekeyed a b asked old new → Steady a b
rekeyed_steady a b asked old new h = record { procs = h.procs; nets = h.nets; state = h.state; fired = ap (λ (c : Counts). c.fired) h.counts }

pub narrows_keys : (b c : Content) (old new : List Key) → AreKeys b.keys old → Narrows b c old new → AreKeys c.keys new
narrows_keys b c old new g n k = n.keys.keys k ∙ ap (λ (x : Bool). among k new && (x || false)) (g k) ∙ kept (among k new) (among k old) (n.within k)
  where
    kept : (m o : Bool) → (m ≡ true → o ≡ true) → (m && (o || false)) ≡ m
    kept true true h = refl
    kept true false h = absurd (false≢true (h refl))
    kept false o h = refl

-- what has a record is registered, if it is a key
pub adds_there : (c : Content) (slots : Slots) (cause : ℕ) (on : Awaited) → AreKeys c.keys (record_keys slots) → HasCause slots cause on → Adds c on c
adds_there c slots cause (awaited.Key key) g h = joins_there c key (g key ∙ key_named key slots cause h)
adds_there c slots cause (awaited.Event event) g h = refl
adds_there c slots cause (awaited.Lock lock) g h = refl
adds_there c slots cause (awaited.Join task) g h = refl

-- what has no record isn't
pub absent_out : (c : Content) (slots : Slots) (on : Awaited) → AreKeys c.keys (record_keys slots) → ((n : ℕ) → ¬ HasCause slots n on) → (k : Key) → among k (keys_among (on ∷ [])) ≡ true → has k c.keys ≡ false
absent_out c slots on g none k is = g k ∙ go (among k (record_keys slots)) refl
  where
    go : (b : Bool) → among k (record_keys slots) ≡ b → among k (record_keys slots) ≡ false
    go true named = absurd (let one = named_key k slots named in none one.0 (subst (HasCause slots one.0) (sym (one_key k on is)) one.1))
    go false named = named

-- ---- want of memory

pub short_of : (number most : ℕ) (before after : Content) (old new : State) → new.rows ≡ old.rows → SameSlots old.causes new.causes → AllNeeded old → Steady before after
    → AreKeys after.keys (record_keys old.causes) → FallsShort number most before after old new
short_of number most before after old new rows same all steady keys = record {
  ons = [];
  few = omega arith;
  reaches = reaches_none number old new rows same all;
  steady = steady;
  keys = λ k. keys k ∙ sym (same_records old.causes new.causes same k);
}

pub slots_same : (slots slots' : Slots) → slots' ≡ slots → SameSlots slots slots'
slots_same slots slots' e n = ap (λ (cs : Slots). get_or cs n None) e

-- a record that was made and taken out again
pub sets_back : (slots mid slots' : Slots) (cause : ℕ) (slot : Option CauseRecord) → get_or slots cause None ≡ None → Sets slots mid cause slot → Sets mid slots' cause None → SameSlots slots slots'
sets_back slots mid slots' cause slot vacant made gone n =
    elim (cases_eq n cause) [
      | inl same ↦ ap (λ (j : ℕ). get_or slots' j None) same ∙ gone.changed ∙ sym vacant ∙ ap (λ (j : ℕ). get_or slots j None) (sym same)
      | inr differs ↦ gone.others n differs ∙ made.others n differs
    ]

-- a record that was made and let go again, since no waiter came
pub made_back : (old : Records) (mid : Slots) (on : Awaited) (cause : ℕ) (new : State) → get_or (causes_in old) cause None ≡ None → Sets (causes_in old) mid cause (Some (record { on = on; held = false }))
    → new.rows ≡ rows_in old → ((n : ℕ) → n ≢ cause → get_or new.causes n None ≡ get_or mid n None) → Shrinks mid new.causes → (get_or new.causes cause None ≢ None → IsNeeded cause new)
    → SameSlots (causes_in old) new.causes
made_back old mid on cause new vacant made rows others shrinks needed n =
    elim (cases_eq n cause) [
      | inl same ↦ ap (λ (j : ℕ). get_or new.causes j None) same ∙ gone (get_or new.causes cause None) refl ∙ sym vacant ∙ ap (λ (j : ℕ). get_or (causes_in old) j None) (sym same)
      | inr differs ↦ others n differs ∙ made.others n differs
    ]
  where
    unneeded : (kept : CauseRecord) → get_or new.causes cause None ≡ Some kept → ¬ IsNeeded cause new
    unneeded kept is need =
        elim need [
          | inl some ↦ (let one = waited_known old cause (λ none. some (ap (waiters_on cause) rows ∙ none)) in none-some one.0 (sym vacant ∙ one.1))
          | inr held ↦
              (let e : record { on = on; held = false } ≡ held.0 = same_Some _ _ (sym made.changed ∙ shrinks cause held.0 held.1) in
              false≢true (ap (λ (r : CauseRecord). r.held) e ∙ held.2))
        ]

    gone : (slot : Option CauseRecord) → get_or new.causes cause None ≡ slot → get_or new.causes cause None ≡ None
    gone None is = is
    gone (Some kept) is = absurd (unneeded kept is (needed (λ none. none-some kept (sym none ∙ is))))

-- ---- leaf by leaf

one_there : (xs : List Awaited) (at : ℕ) (spare : Awaited) → at < length xs → take 1 (drop at xs) ≡ get_or xs at spare ∷ []
one_there [] at spare h = absurd (omega arith)
one_there (x ∷ xs) zero spare h = refl
one_there (x ∷ xs) (suc at) spare h = one_there xs at spare (omega arith)

take_more : (xs : List Awaited) (at : ℕ) → take (suc at) xs ≡ take at xs ++ take 1 (drop at xs)
take_more xs zero = refl
take_more [] (suc at) = refl
take_more (x ∷ xs) (suc at) = ap (λ (ys : List Awaited). x ∷ ys) (take_more xs at)

module _ (number : ℕ) (xs : List Awaited) (at : ℕ) (spare : Awaited) (inside : at < length xs) (a b : Content) (s0 s1 : State)
    (first : AreKeys a.keys (record_keys s0.causes)) (reaches : Reaches number (take at xs) s0 s1)
    (keys : Rekeyed a b (keys_among (take at xs)) (record_keys s0.causes) (keys_among xs ++ record_keys s0.causes)) where
  abbrev leaf : Awaited
  leaf = get_or xs at spare

  pub keys_now : AreKeys b.keys (record_keys s1.causes)
  keys_now k = keys_upto a b xs at (record_keys s0.causes) first keys k ∙ sym (reaches.names k)

  pub asked_now : AreAsked a (keys_among xs) → AreAsked b (keys_among (leaf ∷ []))
  asked_now asked k m n = asked_upto a b xs at (record_keys s0.causes) first keys asked k (one_within at xs k (ap (λ (ys : List Awaited). among k (keys_among ys)) (one_there xs at spare inside) ∙ m)) n

  pub reaches_next : (s2 : State) → Reaches number (leaf ∷ []) s1 s2 → Reaches number (take (at + 1) xs) s0 s2
  reaches_next s2 r =
      subst (λ (ys : List Awaited). Reaches number ys s0 s2) (sym (ap (λ (i : ℕ). take i xs) (add-one at) ∙ take_more xs at ∙ ap (λ (ys : List Awaited). take at xs ++ ys) (one_there xs at spare inside)))
      (reaches_through number (take at xs) (leaf ∷ []) s0 s1 s2 reaches r)

  pub keys_next : (c : Content) → Adds b leaf c → Rekeyed a c (keys_among (take (at + 1) xs)) (record_keys s0.causes) (keys_among xs ++ record_keys s0.causes)
  keys_next c adds = registered_next a b c xs at (record_keys s0.causes) keys (added leaf refl adds)
    where
      now : AreKeys b.keys (keys_among (take at xs) ++ record_keys s0.causes)
      now = keys_upto a b xs at (record_keys s0.causes) first keys

      none : (d : Awaited) → keys_among (d ∷ []) ≡ [] → (own : Key) → d ≡ awaited.Key own → ⊥
      none d e own same = (let z : own ∷ [] ≡ [] = sym (ap (λ (x : Awaited). keys_among (x ∷ [])) same) ∙ e in absurd (cc))

      still : (d : Awaited) → leaf ≡ d → keys_among (d ∷ []) ≡ [] → c ≡ b → Rekeyed b c (keys_among (take 1 (drop at xs))) (keys_among xs ++ record_keys s0.causes) (keys_among xs ++ record_keys s0.causes)
      still d e bare same =
          subst (λ (x : Content). Rekeyed b x (keys_among (take 1 (drop at xs))) (keys_among xs ++ record_keys s0.causes) (keys_among xs ++ record_keys s0.causes)) (sym same)
          (other_at b xs at spare (record_keys s0.causes) inside (λ own k. none d bare own (sym e ∙ k)) now)

      added : (d : Awaited) → leaf ≡ d → Adds b d c → Rekeyed b c (keys_among (take 1 (drop at xs))) (keys_among xs ++ record_keys s0.causes) (keys_among xs ++ record_keys s0.causes)
      added (awaited.Key key) e j = joined_at b c xs at key (record_keys s0.causes) (ap keys_among (one_there xs at spare inside ∙ ap (λ (x : Awaited). x ∷ []) e)) now j
      added (awaited.Event event) e j = still (awaited.Event event) e refl j
      added (awaited.Lock lock) e j = still (awaited.Lock lock) e refl j
      added (awaited.Join task) e j = still (awaited.Join task) e refl j

  pub short_next : (c : Content) (s2 : State) → FallsShort number 0 b c s1 s2 → FallsShort number (length xs) a c s0 s2
  short_next c s2 f = record {
    ons = take at xs ++ f.ons;
    few = omega (arith, f.few, length-append (take at xs) f.ons, length-take-le at xs (omega arith));
    reaches = reaches_through number (take at xs) f.ons s0 s1 s2 reaches f.reaches;
    steady = steady_through a b c (rekeyed_steady a b (keys_among (take at xs)) (record_keys s0.causes) (keys_among xs ++ record_keys s0.causes) keys) f.steady;
    keys = f.keys;
  }

pub reaches_all : (number : ℕ) (xs : List Awaited) (at : ℕ) (s0 s1 : State) → length xs ≤ at → Reaches number (take at xs) s0 s1 → Reaches number xs s0 s1
reaches_all number xs at s0 s1 h r = subst (λ (ys : List Awaited). Reaches number ys s0 s1) (take_all at xs h) r

pub keys_all : (number : ℕ) (xs : List Awaited) (at : ℕ) (a b : Content) (s0 s1 : State) → length xs ≤ at → Reaches number (take at xs) s0 s1
    → Rekeyed a b (keys_among (take at xs)) (record_keys s0.causes) (keys_among xs ++ record_keys s0.causes) → Rekeyed a b (keys_among xs) (record_keys s0.causes) (record_keys s1.causes)
keys_all number xs at a b s0 s1 h r keys =
    rekeyed_alike a b (keys_among (take at xs)) (keys_among xs) (record_keys s0.causes) (record_keys s0.causes) (keys_among xs ++ record_keys s0.causes) (record_keys s1.causes)
    (λ k. ap (λ (ys : List Awaited). among k (keys_among ys)) (take_all at xs h)) (λ k. refl) (λ k. sym ((reaches_all number xs at s0 s1 h r).names k)) keys

-- ---- a record is made, and its key registered

own_among : (key : Key) (on : Awaited) → on ≡ awaited.Key key → among key (keys_among (on ∷ [])) ≡ true
own_among key on is = ap (λ (a : Awaited). among key (keys_among (a ∷ []))) is ∙ among_first key []

pub asked_own : (c : Content) (on : Awaited) (key : Key) → on ≡ awaited.Key key → AreAsked c (keys_among (on ∷ [])) → ((k : Key) → among k (keys_among (on ∷ [])) ≡ true → has k c.keys ≡ false)
    → IsAsked (length c.state.signals) c.state key
asked_own c on key is asked out = asked key (own_among key on is) (out key (own_among key on is))

pub out_own : (c : Content) (on : Awaited) (key : Key) → on ≡ awaited.Key key → ((k : Key) → among k (keys_among (on ∷ [])) ≡ true → has k c.keys ≡ false) → has key c.keys ≡ false
out_own c on key is out = out key (own_among key on is)

pub adds_registered : (a b : Content) (on : Awaited) (key : Key) → on ≡ awaited.Key key → has key a.keys ≡ false → Registers a key b → Adds a on b
adds_registered a b on key is out r = subst (λ (d : Awaited). Adds a d b) (sym is) (joins_registered a b key r out)

pub adds_other : (c : Content) (on : Awaited) → ((key : Key) → on ≡ awaited.Key key → ⊥) → Adds c on c
adds_other c (awaited.Key key) none = absurd (none key refl)
adds_other c (awaited.Event event) none = refl
adds_other c (awaited.Lock lock) none = refl
adds_other c (awaited.Join task) none = refl

pub vacant_bare : (old : Records) (cause : ℕ) → get_or (causes_in old) cause None ≡ None → waiters_on cause (rows_in old) ≡ []
vacant_bare old cause vacant = go (waiters_on cause (rows_in old)) refl
  where
    go : (links : List Link) → waiters_on cause (rows_in old) ≡ links → waiters_on cause (rows_in old) ≡ []
    go [] is = is
    go (link ∷ links) is =
        absurd (let one = waited_known old cause (λ none. let e : link ∷ links ≡ [] = sym is ∙ none in absurd (cc)) in none-some one.0 (sym vacant ∙ one.1))

pub sets_along : (slots mid cs : Slots) (cause : ℕ) (slot : Option CauseRecord) → Sets slots mid cause slot → cs ≡ mid → Sets slots cs cause slot
sets_along slots mid cs cause slot sets same = subst (λ (xs : Slots). Sets slots xs cause slot) (sym same) sets

pub made_fits : (a b : Content) (on : Awaited) (cause : ℕ) (slots cs : Slots) (fired : List Key) → fired ≡ [] → get_or slots cause None ≡ None
    → Sets slots cs cause (Some (record { on = on; held = false })) → AreKeys a.keys (record_keys slots) → Adds a on b → Fits b fired (runner_keys cs) (record_keys cs)
made_fits a b on cause slots cs fired none vacant sets keys adds =
    subst (λ (ks : List Key). Fits b ks (runner_keys cs) (record_keys cs)) (sym none)
    (fits_again b (runner_keys cs) (record_keys cs) (adds_keys a b on (record_keys slots) (record_keys cs) adds keys (names_joined on cause slots cs (joined_made on cause slots cs vacant sets))))

-- the record and its key went again, since no waiter came
pub made_short : (number : ℕ) (old : Records) (on : Awaited) (cause : ℕ) (mid : Slots) (new : State) (a b c : Content) → AllNeeded (state_in old) → get_or (causes_in old) cause None ≡ None
    → Sets (causes_in old) mid cause (Some (record { on = on; held = false })) → new.rows ≡ rows_in old → ((n : ℕ) → n ≢ cause → get_or new.causes n None ≡ get_or mid n None)
    → Shrinks mid new.causes → (get_or new.causes cause None ≢ None → IsNeeded cause new) → AreKeys a.keys (record_keys (causes_in old)) → Adds a on b
    → Narrows b c (record_keys mid) (record_keys new.causes) → FallsShort number 0 a c (state_in old) new
made_short number old on cause mid new a b c all vacant sets rows others shrinks needed keys adds narrows =
    let same = made_back old mid on cause new vacant sets rows others shrinks needed in
    let made : AreKeys b.keys (record_keys mid) = adds_keys a b on (record_keys (causes_in old)) (record_keys mid) adds keys (names_joined on cause (causes_in old) mid (joined_made on cause (causes_in old) mid vacant sets)) in
    short_of number 0 a c (state_in old) new rows same all
    (steady_through a b c (adds_steady a b on adds) (rekeyed_steady b c [] (record_keys mid) (record_keys new.causes) narrows.keys))
    (λ k. narrows_keys b c (record_keys mid) (record_keys new.causes) made narrows k ∙ same_records (causes_in old) new.causes same k)
