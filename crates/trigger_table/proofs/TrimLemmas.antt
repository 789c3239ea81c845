-- A task's waiters are gone over from left to right, beside the leaves of its tree.
use Rattle.std.proofs.Common.{◌≡◌, ◌≢◌, ℕ, zero, suc, ◌+◌, ◌≤◌, Bool, true, false, not, List, [], ◌∷◌, ◌++◌, length, filter, take, drop, Option, Some, None, slice_get, get_or, refl, sym, ap, ◌∙◌, subst, inl, inr, arith, ◌==◌, eq-eqb, ne_eqb, length-append}
use Rattle.std.proofs.lemmas.Bool.{cases_eq, cond-true, cond-false, false≢true}
use Rattle.std.proofs.lemmas.List.{append_assoc, append-nil}
use Rattle.std.proofs.lemmas.Option.{none-some, same_Some}
use Rattle.await_tree.specs.Fire.{is_same}
use Rattle.await_tree.specs.Laws.{IsSubsequence}
use Rattle.await_tree.specs.declared.cause.Awaited.{Awaited}
use Rattle.trigger_table.specs.Cursor.{cause_at, waiters_at}
use Rattle.trigger_table.specs.Entries.{HasCause}
use Rattle.trigger_table.specs.Links.{IsApart, IsIn, behind}
use Rattle.trigger_table.specs.Records.{causes_in, rows_in}
use Rattle.trigger_table.specs.Serving.{Trimmed, Trimming, is_first}
use Rattle.trigger_table.specs.State.{AllNeeded, HasLink, HasRow, IsNeeded, Link, Row, State, drop_link, links_at, links_of, waiters_on}
use Rattle.trigger_table.specs.Tied.{AreOn, Shrinks}
use Rattle.trigger_table.specs.declared.entries.CauseRecord.{CauseRecord}
use Rattle.trigger_table.specs.declared.records.Records.{Records}
use Rattle.trigger_table.proofs.CallLemmas.{on_count}
use Rattle.trigger_table.proofs.EntryLemmas.{waited_stay}
use Rattle.trigger_table.proofs.ListLemmas.{concat_append, filter_append}
use Rattle.trigger_table.proofs.PlaceLemmas.{ApartRow, Placed, behind_amid, drop_placed, has_placed, has_waiter, is_amid, one_less, place_links, placed_in, row_apart, split_at, waiters_in}
use Rattle.trigger_table.proofs.RowLemmas.{still_needed}
use Rattle.trigger_table.proofs.TieLemmas.{left_nil, on_has, right_nil, same_on, on_self}

abbrev Slots : Type 0
Slots = List (Option CauseRecord)

-- ---- lists

take_next : (n : ℕ) (xs : List Awaited) (x : Awaited) (more : List Awaited) → drop n xs ≡ x ∷ more → (take (suc n) xs ≡ take n xs ++ x ∷ []) × (drop (suc n) xs ≡ more)
take_next zero [] x more is = absurd (cc)
take_next zero (y ∷ xs) x more is = let first : y ≡ x = cc in let rest : xs ≡ more = cc in (ap (λ (z : Awaited). z ∷ []) first, rest)
take_next (suc n) [] x more is = absurd (cc)
take_next (suc n) (y ∷ xs) x more is = let later = take_next n xs x more is in (ap (λ (zs : List Awaited). y ∷ zs) later.0, later.1)

take_all : (n : ℕ) (xs : List Awaited) → drop n xs ≡ [] → take n xs ≡ xs
take_all zero [] is = refl
take_all zero (x ∷ xs) is = absurd (cc)
take_all (suc n) [] is = refl
take_all (suc n) (x ∷ xs) is = ap (λ (zs : List Awaited). x ∷ zs) (take_all n xs is)

inside_next : (n : ℕ) (xs : List Awaited) (x : Awaited) (more : List Awaited) → drop n xs ≡ x ∷ more → suc n ≤ length xs
inside_next zero [] x more is = absurd (cc)
inside_next zero (y ∷ xs) x more is = omega arith
inside_next (suc n) [] x more is = absurd (cc)
inside_next (suc n) (y ∷ xs) x more is = let later = inside_next n xs x more is in omega (arith, later)

length_take : (n : ℕ) (xs : List Awaited) → n ≤ length xs → length (take n xs) ≡ n
length_take zero xs inside = refl
length_take (suc n) [] inside = absurd (omega (arith, inside))
length_take (suc n) (x ∷ xs) inside = ap suc (length_take n xs (omega (arith, inside)))

sub_tail : (x : Awaited) (xs : List Awaited) (ys : List Awaited) → IsSubsequence (x ∷ xs) ys → IsSubsequence xs ys
sub_tail x [] ys h = tt
sub_tail x (z ∷ xs) [] h = absurd h
sub_tail x (z ∷ xs) (y ∷ ys) h =
    elim h [
      | inl both ↦ inr both.1
      | inr later ↦ inr (sub_tail x (z ∷ xs) ys later)
    ]

sub_next : (x : Awaited) (xs : List Awaited) (y : Awaited) (ys : List Awaited) → IsSubsequence (x ∷ xs) (y ∷ ys) → IsSubsequence xs ys
sub_next x xs y ys h = elim h [ inl both ↦ both.1 | inr later ↦ sub_tail x xs ys later ]

sub_other : (xs : List Awaited) (y : Awaited) (ys : List Awaited) → is_first y xs ≡ false → IsSubsequence xs (y ∷ ys) → IsSubsequence xs ys
sub_other [] y ys off h = tt
sub_other (x ∷ xs) y ys off h =
    elim h [
      | inl both ↦ absurd (false≢true (sym off ∙ ap (is_same y) both.0 ∙ on_self y))
      | inr later ↦ later
    ]

sub_none : (xs : List Awaited) → IsSubsequence xs [] → xs ≡ []
sub_none [] h = refl
sub_none (x ∷ xs) h = absurd h

on_join : (causes : Slots) (ls ms : List Link) (xs ys : List Awaited) → AreOn causes ls xs → AreOn causes ms ys → AreOn causes (ls ++ ms) (xs ++ ys)
on_join causes [] ms [] ys h k = k
on_join causes [] ms (x ∷ xs) ys h k = absurd h
on_join causes (l ∷ ls) ms [] ys h k = absurd h
on_join causes (l ∷ ls) ms (x ∷ xs) ys h k = (h.0, on_join causes ls ms xs ys h.1 k)

-- what stands at a place is the first of those from there on
pub first_at : (on : Awaited) (xs : List Awaited) (at : ℕ) (d : Awaited) → suc at ≤ length xs → is_first on (drop at xs) ≡ is_same on (get_or xs at d)
first_at on [] at d inside = absurd (omega (arith, inside))
first_at on (x ∷ xs) zero d inside = refl
first_at on (x ∷ xs) (suc at) d inside = first_at on xs at d (omega (arith, inside))

-- ---- a waiter leaves

-- a waiter leaves that one cause, and that cause's record is let go where nothing needs it
pub needed_parted : (c : ℕ) (old mid new : State) → mid.causes ≡ old.causes → ((k : ℕ) → k ≢ c → waiters_on k mid.rows ≡ waiters_on k old.rows) → new.rows ≡ mid.rows
    → ((other : ℕ) → other ≢ c → get_or new.causes other None ≡ get_or mid.causes other None) → (get_or new.causes c None ≢ None → IsNeeded c new) → AllNeeded old → AllNeeded new
needed_parted c old mid new causes waiters rows others this all k some =
    elim (cases_eq k c) [
      | inl same ↦ subst (λ (j : ℕ). IsNeeded j new) (sym same) (this (λ none. some (ap (λ (j : ℕ). get_or new.causes j None) same ∙ none)))
      | inr differs ↦
          let slot : get_or new.causes k None ≡ get_or old.causes k None = others k differs ∙ ap (λ (cs : Slots). get_or cs k None) causes in
          still_needed k old new slot (ap (waiters_on k) rows ∙ waiters k differs) (all k (λ none. some (slot ∙ none)))
    ]

-- ---- the waiter that is next

pub record Facing (causes : Slots) (left : List Link) (more : List Awaited) (w : ℕ) : Type 0 where
  pub link : Link
  pub rest : List Link
  pub on : Awaited
  pub others : List Awaited
  pub is : left ≡ link ∷ rest
  pub of : link.waiter ≡ w
  pub are : more ≡ on ∷ others
  pub has : HasCause causes link.cause on
  pub later : AreOn causes rest others

facing : (causes : Slots) (left : List Link) (more : List Awaited) (w : ℕ) → Some w ≡ slice_get (waiters_in left) 0 → AreOn causes left more → Facing causes left more w
facing causes [] more w is h = absurd (none-some w (sym is))
facing causes (link ∷ rest) [] w is h = absurd h
facing causes (link ∷ rest) (on ∷ others) w is h = record { link = link; rest = rest; on = on; others = others; is = refl; of = sym (same_Some w link.waiter is); are = refl; has = h.0; later = h.1 }

first_is : (on : Awaited) (xs : List Awaited) → is_first on xs ≡ true → (more : List Awaited) × (xs ≡ on ∷ more)
first_is on [] h = absurd (false≢true h)
first_is on (x ∷ xs) h = (xs, ap (λ (a : Awaited). a ∷ xs) (sym (same_on on x h)))

cause_amid : (stayed : List Link) (link : Link) (left : List Link) → ¬ IsIn link.waiter (waiters_in stayed) → cause_at link.waiter (stayed ++ link ∷ left) ≡ Some link.cause
cause_amid [] link left off = cond-true (link.waiter == link.waiter) (Some link.cause) (cause_at link.waiter left) (eq-eqb link.waiter link.waiter refl)
cause_amid (l ∷ stayed) link left off =
    cond-false (l.waiter == link.waiter) (Some l.cause) (cause_at link.waiter (stayed ++ link ∷ left)) (ne_eqb l.waiter link.waiter (λ same. off (inl same)))
    ∙ cause_amid stayed link left (λ there. off (inr there))

apart_before : (stayed : List Link) (link : Link) (left : List Link) → IsApart (waiters_in (stayed ++ link ∷ left)) → ¬ IsIn link.waiter (waiters_in stayed)
apart_before [] link left h found = found
apart_before (l ∷ stayed) link left h found =
    elim found [
      | inl same ↦ h.0 (subst (λ (k : ℕ). IsIn k (waiters_in (stayed ++ link ∷ left))) (sym same) (is_amid stayed link left))
      | inr there ↦ apart_before stayed link left h.1 there
    ]

-- ---- it begins

pub trim_begins : (records : Records) (number : ℕ) (ons before : List Awaited) (at : Option ℕ) → HasRow number (rows_in records) → AreOn (causes_in records) (links_at number (rows_in records)) before → IsSubsequence ons before
    → at ≡ slice_get (waiters_at number (rows_in records)) 0 → Trimming number ons 0 at (causes_in records) (rows_in records) (rows_in records)
trim_begins records number ons before at has on keeps next =
    let s = split_at number (rows_in records) has in
    let links : links_at number (rows_in records) ≡ s.row.links = ap (links_at number) s.is ∙ place_links (placed_in records number s.front s.row s.back s.is s.of) in
    record {
      row = s.row;
      stayed = [];
      left = s.row.links;
      changed = record { front = s.front; back = s.back; of = s.of; was = s.is; now = s.is };
      next = next ∙ ap (λ (ls : List Link). slice_get (waiters_in ls) 0) links;
      inside = omega arith;
      on = tt;
      more = before;
      on_left = subst (λ (ls : List Link). AreOn (causes_in records) ls before) links on;
      keeps = keeps;
    }

-- ---- one waiter more

module _ (number : ℕ) (ons : List Awaited) (kept w : ℕ) (old : List Row) (records : Records) (t : Trimming number ons kept (Some w) (causes_in records) old (rows_in records)) where
  now_row : Row
  now_row = record t.row { links = t.stayed ++ t.left }

  pub at_row : Placed number t.changed.front (record t.row { links = t.stayed ++ t.left }) t.changed.back
  at_row = placed_in records number t.changed.front (record t.row { links = t.stayed ++ t.left }) t.changed.back t.changed.now t.changed.of

  pub trim_has : HasRow number (rows_in records)
  trim_has = subst (HasRow number) (sym t.changed.now) (has_placed number t.changed.front (record t.row { links = t.stayed ++ t.left }) t.changed.back t.changed.of)

  pub links_now : links_at number (rows_in records) ≡ t.stayed ++ t.left
  links_now = ap (links_at number) t.changed.now ∙ place_links at_row

  pub trim_faces : Facing (causes_in records) t.left t.more w
  trim_faces = facing (causes_in records) t.left t.more w t.next t.on_left

  all_links : t.stayed ++ t.left ≡ t.stayed ++ trim_faces.link ∷ trim_faces.rest
  all_links = ap (λ (ls : List Link). t.stayed ++ ls) trim_faces.is

  apart_now : ApartRow t.changed.front (record t.row { links = t.stayed ++ t.left }) t.changed.back
  apart_now = row_apart records t.changed.front (record t.row { links = t.stayed ++ t.left }) t.changed.back t.changed.now

  own_apart : IsApart (waiters_in (t.stayed ++ trim_faces.link ∷ trim_faces.rest))
  own_apart = subst (λ (ls : List Link). IsApart (waiters_in ls)) all_links apart_now.own

  in_row : IsIn w (waiters_in (t.stayed ++ t.left))
  in_row = subst (λ (ls : List Link). IsIn w (waiters_in ls)) (sym all_links) (subst (λ (k : ℕ). IsIn k (waiters_in (t.stayed ++ trim_faces.link ∷ trim_faces.rest))) trim_faces.of (is_amid t.stayed trim_faces.link trim_faces.rest))

  pub trim_of : IsIn w (waiters_at number (rows_in records))
  trim_of = subst (λ (ls : List Link). IsIn w (waiters_in ls)) (sym links_now) in_row

  pub trim_link : HasLink w (rows_in records)
  trim_link = subst (HasLink w) (sym t.changed.now) (has_waiter t.changed.front (record t.row { links = t.stayed ++ t.left }) t.changed.back w in_row)

  pub trim_cause : cause_at w (links_at number (rows_in records)) ≡ Some trim_faces.link.cause
  trim_cause =
      ap (cause_at w) (links_now ∙ all_links)
      ∙ ap (λ (k : ℕ). cause_at k (t.stayed ++ trim_faces.link ∷ trim_faces.rest)) (sym trim_faces.of)
      ∙ cause_amid t.stayed trim_faces.link trim_faces.rest (apart_before t.stayed trim_faces.link trim_faces.rest own_apart)

  pub trim_next : behind w (waiters_at number (rows_in records)) ≡ slice_get (waiters_in trim_faces.rest) 0
  trim_next =
      ap (λ (ls : List Link). behind w (waiters_in ls)) (links_now ∙ all_links)
      ∙ ap (λ (k : ℕ). behind k (waiters_in (t.stayed ++ trim_faces.link ∷ trim_faces.rest))) (sym trim_faces.of)
      ∙ behind_amid t.stayed trim_faces.link trim_faces.rest own_apart

  stayed_count : length t.stayed ≡ kept
  stayed_count = on_count (causes_in records) t.stayed (take kept ons) t.on ∙ length_take kept ons t.inside

  pub trim_count : length (links_at number (rows_in records)) ≡ kept + 1 + length trim_faces.rest
  trim_count = omega (arith, ap length (links_now ∙ all_links), length-append t.stayed (trim_faces.link ∷ trim_faces.rest), stayed_count)

  sub_now : IsSubsequence (drop kept ons) (trim_faces.on ∷ trim_faces.others)
  sub_now = subst (IsSubsequence (drop kept ons)) trim_faces.are t.keeps

  -- it is on the next leaf
  pub trim_stays : is_first trim_faces.on (drop kept ons) ≡ true → Trimming number ons (kept + 1) (behind w (waiters_at number (rows_in records))) (causes_in records) old (rows_in records)
  trim_stays first =
      let f = first_is trim_faces.on (drop kept ons) first in
      let n = take_next kept ons trim_faces.on f.0 f.1 in
      let one : suc kept ≡ kept + 1 = omega arith in
      let again : (t.stayed ++ trim_faces.link ∷ []) ++ trim_faces.rest ≡ t.stayed ++ t.left = append_assoc t.stayed (trim_faces.link ∷ []) trim_faces.rest ∙ sym all_links in
      record {
        row = t.row;
        stayed = t.stayed ++ trim_faces.link ∷ [];
        left = trim_faces.rest;
        changed = record {
          front = t.changed.front;
          back = t.changed.back;
          of = t.changed.of;
          was = t.changed.was;
          now = t.changed.now ∙ ap (λ (ls : List Link). t.changed.front ++ record t.row { links = ls } ∷ t.changed.back) (sym again);
        };
        next = trim_next;
        inside = subst (λ (k : ℕ). k ≤ length ons) one (inside_next kept ons trim_faces.on f.0 f.1);
        on = subst (λ (k : ℕ). AreOn (causes_in records) (t.stayed ++ trim_faces.link ∷ []) (take k ons)) one
            (subst (AreOn (causes_in records) (t.stayed ++ trim_faces.link ∷ [])) (sym n.0)
            (on_join (causes_in records) t.stayed (trim_faces.link ∷ []) (take kept ons) (trim_faces.on ∷ []) t.on (trim_faces.has, tt)));
        more = trim_faces.others;
        on_left = trim_faces.later;
        keeps = subst (λ (k : ℕ). IsSubsequence (drop k ons) trim_faces.others) one
            (subst (λ (xs : List Awaited). IsSubsequence xs trim_faces.others) (sym n.1)
            (sub_next trim_faces.on f.0 trim_faces.on trim_faces.others (subst (λ (xs : List Awaited). IsSubsequence xs (trim_faces.on ∷ trim_faces.others)) f.1 sub_now)));
      }

  -- it isn't
  module _ (after : Records) (made : rows_in after ≡ drop_link w (rows_in records)) (shrinks : Shrinks (causes_in records) (causes_in after)) where
    pub rows_less : rows_in after ≡ t.changed.front ++ record t.row { links = t.stayed ++ trim_faces.rest } ∷ t.changed.back
    rows_less =
        made ∙ ap (drop_link w) t.changed.now
        ∙ drop_placed t.changed.front (record t.row { links = t.stayed ++ t.left }) t.changed.back w apart_now in_row
        ∙ ap (λ (ls : List Link). t.changed.front ++ record t.row { links = ls } ∷ t.changed.back) less
      where
        less : filter (λ (link : Link). not (link.waiter == w)) (t.stayed ++ t.left) ≡ t.stayed ++ trim_faces.rest
        less =
            ap (filter (λ (link : Link). not (link.waiter == w))) all_links
            ∙ ap (λ (k : ℕ). filter (λ (link : Link). not (link.waiter == k)) (t.stayed ++ trim_faces.link ∷ trim_faces.rest)) (sym trim_faces.of)
            ∙ one_less t.stayed trim_faces.link trim_faces.rest own_apart

    bare_row : (n : ℕ) → waiters_on n (rows_in after) ≡ [] → filter (λ (link : Link). link.cause == n) (t.stayed ++ trim_faces.rest) ≡ []
    bare_row n none =
        let q : Link → Bool = λ (link : Link). link.cause == n in
        let row : Row = record t.row { links = t.stayed ++ trim_faces.rest } in
        let split : waiters_on n (rows_in after) ≡ filter q (links_of t.changed.front) ++ filter q ((t.stayed ++ trim_faces.rest) ++ links_of t.changed.back) =
        ap (waiters_on n) rows_less
        ∙ ap (filter q) (concat_append (λ (r : Row). r.links) t.changed.front (row ∷ t.changed.back))
        ∙ filter_append q (links_of t.changed.front) ((t.stayed ++ trim_faces.rest) ++ links_of t.changed.back) in
        left_nil (filter q (t.stayed ++ trim_faces.rest)) (filter q (links_of t.changed.back))
        (sym (filter_append q (t.stayed ++ trim_faces.rest) (links_of t.changed.back)) ∙ right_nil (filter q (links_of t.changed.front)) (filter q ((t.stayed ++ trim_faces.rest) ++ links_of t.changed.back)) (sym split ∙ none))

    has_still : (n : ℕ) (on : Awaited) → waiters_on n (rows_in after) ≢ [] → HasCause (causes_in records) n on → HasCause (causes_in after) n on
    has_still n on some has = (has.0, waited_stay (causes_in records) after shrinks n some ∙ has.1)

    pub trim_goes : is_first trim_faces.on (drop kept ons) ≡ false → Trimming number ons kept (behind w (waiters_at number (rows_in records))) (causes_in after) old (rows_in after)
    trim_goes off = record {
      row = t.row;
      stayed = t.stayed;
      left = trim_faces.rest;
      changed = record { front = t.changed.front; back = t.changed.back; of = t.changed.of; was = t.changed.was; now = rows_less };
      next = trim_next;
      inside = t.inside;
      on = on_has (causes_in records) (causes_in after) t.stayed (take kept ons)
          (λ n on some has. has_still n on (λ none. some (left_nil (filter (λ (link : Link). link.cause == n) t.stayed) (filter (λ (link : Link). link.cause == n) trim_faces.rest) (sym (filter_append (λ (link : Link). link.cause == n) t.stayed trim_faces.rest) ∙ bare_row n none))) has) t.on;
      more = trim_faces.others;
      on_left = on_has (causes_in records) (causes_in after) trim_faces.rest trim_faces.others
          (λ n on some has. has_still n on (λ none. some (right_nil (filter (λ (link : Link). link.cause == n) t.stayed) (filter (λ (link : Link). link.cause == n) trim_faces.rest) (sym (filter_append (λ (link : Link). link.cause == n) t.stayed trim_faces.rest) ∙ bare_row n none))) has) trim_faces.later;
      keeps = sub_other (drop kept ons) trim_faces.on trim_faces.others off sub_now;
    }

    pub trim_less : length (links_at number (rows_in after)) + 1 ≡ length (links_at number (rows_in records))
    trim_less =
        let now = ap (links_at number) rows_less ∙ place_links (placed_in after number t.changed.front (record t.row { links = t.stayed ++ trim_faces.rest }) t.changed.back rows_less t.changed.of) in
        omega (arith, ap length now, length-append t.stayed trim_faces.rest, trim_count, stayed_count)

-- ---- it ends

no_left : (left : List Link) → None ≡ slice_get (waiters_in left) 0 → left ≡ []
no_left [] is = refl
no_left (link ∷ left) is = absurd (none-some link.waiter is)

no_more : (causes : Slots) (left : List Link) (more : List Awaited) → left ≡ [] → AreOn causes left more → more ≡ []
no_more causes [] [] none h = refl
no_more causes [] (on ∷ more) none h = absurd h
no_more causes (link ∷ left) more none h = absurd (cc)

pub trim_ends : (number : ℕ) (ons : List Awaited) (kept : ℕ) (causes : Slots) (old new : List Row) → Trimming number ons kept None causes old new → Trimmed number ons causes old new
trim_ends number ons kept causes old new t =
    let none = no_left t.left t.next in
    let all : take kept ons ≡ ons = take_all kept ons (sub_none (drop kept ons) (subst (IsSubsequence (drop kept ons)) (no_more causes t.left t.more none t.on_left) t.keeps)) in
    record {
      row = t.row;
      links = t.stayed ++ t.left;
      changed = t.changed;
      on = subst (λ (ls : List Link). AreOn causes ls ons) (sym (append-nil t.stayed) ∙ ap (λ (ls : List Link). t.stayed ++ ls) (sym none)) (subst (AreOn causes t.stayed) all t.on);
    }

-- no more have stayed than are left
pub trim_kept : (number : ℕ) (ons : List Awaited) (kept : ℕ) (old : List Row) (records : Records) → Trimming number ons kept None (causes_in records) old (rows_in records) → kept ≤ length (links_at number (rows_in records))
trim_kept number ons kept old records t =
    let links : links_at number (rows_in records) ≡ t.stayed ++ t.left = ap (links_at number) t.changed.now ∙ place_links (placed_in records number t.changed.front (record t.row { links = t.stayed ++ t.left }) t.changed.back t.changed.now t.changed.of) in
    omega (arith, ap length links, length-append t.stayed t.left, on_count (causes_in records) t.stayed (take kept ons) t.on, length_take kept ons t.inside)
