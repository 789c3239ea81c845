-- How the rows change where a waiter or a task leaves.
use Rattle.std.proofs.Common.{◌≡◌, ◌≢◌, ℕ, ◌+◌, List, [], ◌∷◌, ◌++◌, length, filter, Bool, true, false, not, cond, Option, Some, None, get_or, refl, sym, ap, ◌∙◌, subst, inl, inr, arith, ◌==◌, eq-eqb, ne_eqb}
use Rattle.std.proofs.lemmas.Bool.{cases_eq, cond-true, cond-false}
use Rattle.std.proofs.lemmas.Option.{same_Some}
use Rattle.trigger_table.specs.Links.{IsIn, IsApart}
use Rattle.trigger_table.specs.State.{Link, Row, tail_of, numbers_of, HasRow, links_at, entry_at, row_behead, behead, without_row, HasNoLinks, State, links_of, waiters_on, IsNeeded, AllNeeded, HeldStays}
use Rattle.trigger_table.proofs.ListLemmas.{filter_append}
use Rattle.trigger_table.specs.declared.entries.CauseRecord.{CauseRecord}

module _ (n : ℕ) where
  here : (row : Row) {X : Type 0} (x y : X) → row.number ≡ n → cond (row.number == n) x y ≡ x
  here row x y same = cond-true _ x y (eq-eqb row.number n same)

  past : (row : Row) {X : Type 0} (x y : X) → row.number ≢ n → cond (row.number == n) x y ≡ y
  past row x y differs = cond-false _ x y (ne_eqb row.number n differs)

  behead_number : (row : Row) → (row_behead n row).number ≡ row.number
  behead_number row = elim (row.number == n) as (λ b. (let r : Row = cond b (record row { links = tail_of row.links }) row in r).number ≡ row.number) [ true ↦ refl | false ↦ refl ]

  pub numbers-behead : (rows : List Row) → numbers_of (behead n rows) ≡ numbers_of rows
  numbers-behead [] = refl
  numbers-behead (row ∷ rows) = ap (λ k. k ∷ numbers_of (behead n rows)) (behead_number row) ∙ ap (λ ks. row.number ∷ ks) (numbers-behead rows)

  pub links_at-behead : (rows : List Row) → links_at n (behead n rows) ≡ tail_of (links_at n rows)
  links_at-behead [] = refl
  links_at-behead (row ∷ rows) =
      elim (cases_eq row.number n) [
        | inl same ↦ rw (here row (record row { links = tail_of row.links }) row same, here row row.links (links_at n rows) same) (here row _ _ same)
        | inr differs ↦ rw (past row (record row { links = tail_of row.links }) row differs, past row row.links (links_at n rows) differs) (past row _ _ differs ∙ links_at-behead rows)
      ]

  pub entry_at-behead : (rows : List Row) → entry_at n (behead n rows) ≡ entry_at n rows
  entry_at-behead [] = refl
  entry_at-behead (row ∷ rows) =
      elim (cases_eq row.number n) [
        | inl same ↦ rw (here row (record row { links = tail_of row.links }) row same, here row row.entry (entry_at n rows) same) (here row _ _ same)
        | inr differs ↦ rw (past row (record row { links = tail_of row.links }) row differs, past row row.entry (entry_at n rows) differs) (past row _ _ differs ∙ entry_at-behead rows)
      ]

  pub out : (row : Row) (rows : List Row) → row.number ≡ n → without_row n (row ∷ rows) ≡ without_row n rows
  out row rows same = ap (λ b. cond (not b) (row ∷ without_row n rows) (without_row n rows)) (eq-eqb row.number n same)

  pub kept : (row : Row) (rows : List Row) → row.number ≢ n → without_row n (row ∷ rows) ≡ row ∷ without_row n rows
  kept row rows differs = ap (λ b. cond (not b) (row ∷ without_row n rows) (without_row n rows)) (ne_eqb row.number n differs)

  pub without-behead : (rows : List Row) → without_row n (behead n rows) ≡ without_row n rows
  without-behead [] = refl
  without-behead (row ∷ rows) =
      elim (cases_eq row.number n) [
        | inl same ↦ out (row_behead n row) (behead n rows) (behead_number row ∙ same) ∙ without-behead rows ∙ sym (out row rows same)
        | inr differs ↦
            ap (λ r. without_row n (r ∷ behead n rows)) (past row (record row { links = tail_of row.links }) row differs)
            ∙ kept row (behead n rows) differs ∙ ap (λ rs. row ∷ rs) (without-behead rows) ∙ sym (kept row rows differs)
      ]

  pub has_no_links : (rows : List Row) → HasRow n rows → links_at n rows ≡ [] → HasNoLinks n rows
  has_no_links [] has none = has
  has_no_links (row ∷ rows) has none =
      elim (cases_eq row.number n) [
        | inl same ↦ inl (same, sym (here row row.links (links_at n rows) same) ∙ none)
        | inr differs ↦
            let later : HasRow n rows = elim has [ inl same ↦ absurd (differs same) | inr there ↦ there ] in
            inr (has_no_links rows later (sym (past row row.links (links_at n rows) differs) ∙ none))
      ]

  -- a number that no row has
  pub without_none : (rows : List Row) → ¬ HasRow n rows → without_row n rows ≡ rows
  without_none [] none = refl
  without_none (row ∷ rows) none = kept row rows (λ same. none (inl same)) ∙ ap (λ rs. row ∷ rs) (without_none rows (λ there. none (inr there)))

-- a task has one waiter less, and no other task changed
pub record Fewer (n : ℕ) (old new : List Row) : Type 0 where
  pub has : HasRow n old → HasRow n new
  pub entry : entry_at n new ≡ entry_at n old
  pub rows : without_row n new ≡ without_row n old
  pub fewer : length (links_at n new) + 1 ≡ length (links_at n old)

pub fewer_by : (n : ℕ) (old new : List Row) (link : Link) (rest : List Link) → links_at n old ≡ link ∷ rest → new ≡ behead n old → Fewer n old new
fewer_by n old new link rest is made =
    let count : length (links_at n new) ≡ length rest = ap (λ rows. length (links_at n rows)) made ∙ ap length (links_at-behead n old) ∙ ap (λ ls. length (tail_of ls)) is in
    record {
      has = λ has. subst (IsIn n) (sym (ap numbers_of made ∙ numbers-behead n old)) has;
      entry = ap (entry_at n) made ∙ entry_at-behead n old;
      rows = ap (without_row n) made ∙ without-behead n old;
      fewer = omega (arith, count, ap length is);
    }

-- ---- what is needed stays needed

pub waiters_cons : (k : ℕ) (row : Row) (rows : List Row) → waiters_on k (row ∷ rows) ≡ filter (λ (link : Link). link.cause == k) row.links ++ waiters_on k rows
waiters_cons k row rows = filter_append (λ (link : Link). link.cause == k) row.links (links_of rows)

behead_none : (n : ℕ) (rows : List Row) → ¬ HasRow n rows → behead n rows ≡ rows
behead_none n [] none = refl
behead_none n (row ∷ rows) none =
    ap (λ r. r ∷ behead n rows) (past n row (record row { links = tail_of row.links }) row (λ same. none (inl same)))
    ∙ ap (λ rs. row ∷ rs) (behead_none n rows (λ there. none (inr there)))

-- the waiters of another cause stay
pub waiters-behead : (k n : ℕ) (rows : List Row) (link : Link) (rest : List Link) → IsApart (numbers_of rows) → links_at n rows ≡ link ∷ rest → link.cause ≢ k → waiters_on k (behead n rows) ≡ waiters_on k rows
waiters-behead k n [] link rest apart is other = refl
waiters-behead k n (row ∷ rows) link rest apart is other =
    let p : Link → Bool = λ l. l.cause == k in
    elim (cases_eq row.number n) [
      | inl same ↦
          let links : row.links ≡ link ∷ rest = sym (here n row row.links (links_at n rows) same) ∙ is in
          let off : ¬ HasRow n rows = λ there. apart.0 (subst (λ j. IsIn j (numbers_of rows)) (sym same) there) in
          let first : filter p (tail_of row.links) ≡ filter p row.links = ap (λ ls. filter p (tail_of ls)) links ∙ sym (cond-false (link.cause == k) _ _ (ne_eqb link.cause k other)) ∙ ap (filter p) (sym links) in
          ap (λ r. waiters_on k (r ∷ behead n rows)) (here n row (record row { links = tail_of row.links }) row same)
          ∙ ap (λ rs. waiters_on k (record row { links = tail_of row.links } ∷ rs)) (behead_none n rows off)
          ∙ waiters_cons k (record row { links = tail_of row.links }) rows ∙ ap (λ ls. ls ++ waiters_on k rows) first ∙ sym (waiters_cons k row rows)
      | inr differs ↦
          ap (λ r. waiters_on k (r ∷ behead n rows)) (past n row (record row { links = tail_of row.links }) row differs)
          ∙ waiters_cons k row (behead n rows)
          ∙ ap (λ ls. filter p row.links ++ ls) (waiters-behead k n rows link rest apart.1 (sym (past n row row.links (links_at n rows) differs) ∙ is) other)
          ∙ sym (waiters_cons k row rows)
    ]

pub waiters-without : (k n : ℕ) (rows : List Row) → IsApart (numbers_of rows) → links_at n rows ≡ [] → waiters_on k (without_row n rows) ≡ waiters_on k rows
waiters-without k n [] apart is = refl
waiters-without k n (row ∷ rows) apart is =
    elim (cases_eq row.number n) [
      | inl same ↦
          let links : row.links ≡ [] = sym (here n row row.links (links_at n rows) same) ∙ is in
          let off : ¬ HasRow n rows = λ there. apart.0 (subst (λ j. IsIn j (numbers_of rows)) (sym same) there) in
          ap (waiters_on k) (out n row rows same ∙ without_none n rows off)
          ∙ ap (λ ls. filter (λ (link : Link). link.cause == k) ls ++ waiters_on k rows) (sym links) ∙ sym (waiters_cons k row rows)
      | inr differs ↦
          ap (waiters_on k) (kept n row rows differs) ∙ waiters_cons k row (without_row n rows)
          ∙ ap (λ ls. filter (λ (link : Link). link.cause == k) row.links ++ ls) (waiters-without k n rows apart.1 (sym (past n row row.links (links_at n rows) differs) ∙ is))
          ∙ sym (waiters_cons k row rows)
    ]

pub still_needed : (k : ℕ) (s s' : State) → get_or s'.causes k None ≡ get_or s.causes k None → waiters_on k s'.rows ≡ waiters_on k s.rows → IsNeeded k s → IsNeeded k s'
still_needed k s s' slot waiters needed =
    elim needed [
      | inl some ↦ inl (λ none. some (sym waiters ∙ none))
      | inr held ↦ inr (held.0, slot ∙ held.1, held.2)
    ]

-- a waiter of one cause leaves, and that cause's record is let go where nothing needs it
pub all_needed : (n c : ℕ) (old mid new : State) (link : Link) (rest : List Link) → IsApart (numbers_of old.rows) → links_at n old.rows ≡ link ∷ rest → link.cause ≡ c → mid.rows ≡ behead n old.rows → mid.causes ≡ old.causes → new.rows ≡ mid.rows → ((other : ℕ) → other ≢ c → get_or new.causes other None ≡ get_or mid.causes other None) → (get_or new.causes c None ≢ None → IsNeeded c new) → AllNeeded old → AllNeeded new
all_needed n c old mid new link rest apart is of rows causes rows' others this all k some =
    elim (cases_eq k c) [
      | inl same ↦ subst (λ j. IsNeeded j new) (sym same) (this (λ none. some (ap (λ j. get_or new.causes j None) same ∙ none)))
      | inr differs ↦
          let slot = others k differs ∙ ap (λ (cs : List (Option CauseRecord)). get_or cs k None) causes in
          still_needed k old new slot
          (ap (waiters_on k) (rows' ∙ rows) ∙ waiters-behead k n old.rows link rest apart is (λ same. differs (sym same ∙ of)))
          (all k (λ none. some (slot ∙ none)))
    ]

-- a task without a waiter leaves
pub needed_after : (n : ℕ) (old mid new : State) → IsApart (numbers_of old.rows) → links_at n old.rows ≡ [] → mid.rows ≡ old.rows → mid.causes ≡ old.causes → new.rows ≡ without_row n mid.rows → new.causes ≡ mid.causes → AllNeeded old → AllNeeded new
needed_after n old mid new apart bare rows causes rows' causes' all k some =
    let slot = ap (λ (cs : List (Option CauseRecord)). get_or cs k None) (causes' ∙ causes) in
    still_needed k old new slot (ap (waiters_on k) (rows' ∙ ap (without_row n) rows) ∙ waiters-without k n old.rows apart bare) (all k (λ none. some (slot ∙ none)))

pub not_needed : (k : ℕ) (s : State) (kept : CauseRecord) → waiters_on k s.rows ≡ [] → get_or s.causes k None ≡ Some kept → not kept.held ≡ true → ¬ IsNeeded k s
not_needed k s kept bare slot free needed =
    elim needed [
      | inl some ↦ some bare
      | inr held ↦
          let same = same_Some _ _ (sym slot ∙ held.1) in
          let f : false ≡ true = sym (ap not (ap (λ (r : CauseRecord). r.held) same ∙ held.2)) ∙ free in cc
    ]

pub held_step : (c : ℕ) (first : List (Option CauseRecord)) (mid new : State) → HeldStays first mid.causes → ((other : ℕ) → other ≢ c → get_or new.causes other None ≡ get_or mid.causes other None) → (IsNeeded c mid → new.causes ≡ mid.causes) → HeldStays first new.causes
held_step c first mid new before others stays k kept slot held =
    let was = before k kept slot held in
    elim (cases_eq k c) [
      | inl same ↦
          let needed : IsNeeded c mid = inr (kept, ap (λ j. get_or mid.causes j None) (sym same) ∙ was, held) in
          ap (λ (cs : List (Option CauseRecord)). get_or cs k None) (stays needed) ∙ was
      | inr differs ↦ others k differs ∙ was
    ]

pub held_along : (first mid new : List (Option CauseRecord)) → HeldStays first mid → mid ≡ new → HeldStays first new
held_along first mid new before same k kept slot held = ap (λ (cs : List (Option CauseRecord)). get_or cs k None) (sym same) ∙ before k kept slot held

pub held_then : (first mid new : List (Option CauseRecord)) → HeldStays first mid → HeldStays mid new → HeldStays first new
held_then first mid new before later k kept slot held = later k kept (before k kept slot held) held
