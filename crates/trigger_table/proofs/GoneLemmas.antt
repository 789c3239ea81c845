-- A record leaves, and with it the key that it names.
use Rattle.std.proofs.Common.{◌≡◌, ◌≢◌, ℕ, zero, suc, Bool, true, false, cond, ◌||◌, List, [], ◌∷◌, Option, Some, None, get_or, refl, sym, ap, ◌∙◌, subst, inl, inr}
use Rattle.std.proofs.lemmas.Bool.{cases_eq, or_cases, false≢true, false_from_ne_true}
use Rattle.std.proofs.lemmas.Option.{none-some, same_Some}
use Rattle.gpi.specs.Content.{Content, Removes}
use Rattle.gpi.specs.Keys.{among, has, same_key}
use Rattle.gpi.specs.declared.types.Key.{Key}
use Rattle.await_tree.specs.declared.cause.Awaited.{Awaited}
use Rattle.await_tree.specs.declared.cause.Awaited.TheVariants as awaited
use Rattle.await_tree.specs.WaitList.Keys.{AreAlike}
use Rattle.await_tree.specs.WaitList.Waiting.{keys_among}
use Rattle.trigger_table.specs.Entries.{HasCause}
use Rattle.trigger_table.specs.Indexed.{Sets}
use Rattle.trigger_table.specs.Keys.{slot_keys, held_slot, record_keys, runner_keys}
use Rattle.await_tree.specs.WaitList.Parts.{AreWithin, Fits, Narrows}
use Rattle.trigger_table.specs.State.{State, HeldStays, IsNeeded, concat_by}
use Rattle.trigger_table.specs.Tied.{Shrinks}
use Rattle.trigger_table.specs.declared.entries.CauseRecord.{CauseRecord}
use Rattle.await_tree.proofs.WaitListLemmas.Members.{within_both, alike, among_append, among_left, among_right, or_left, or_right, same_is, same_self, within_self}
use Rattle.await_tree.proofs.WaitListLemmas.Rekeys.{fits_after, first_goes, first_stays, first_there, fits_alike, narrows_alike, narrows_none}

abbrev Slots : Type 0
Slots = List (Option CauseRecord)

-- ---- keys of slots

found_slot : (f : Option CauseRecord → List Key) (key : Key) (slots : Slots) → among key (concat_by f slots) ≡ true → (number : ℕ) × (among key (f (get_or slots number None)) ≡ true)
found_slot f key [] is = absurd (false≢true is)
found_slot f key (slot ∷ slots) is =
    elim (or_cases (among key (f slot)) (among key (concat_by f slots)) (sym (among_append key (f slot) (concat_by f slots)) ∙ is)) [
      | inl here ↦ (0, here)
      | inr there ↦ let later = found_slot f key slots there in (suc later.0, later.1)
    ]

pub slot_found : (f : Option CauseRecord → List Key) (key : Key) → among key (f None) ≡ false → (slots : Slots) (number : ℕ) → among key (f (get_or slots number None)) ≡ true → among key (concat_by f slots) ≡ true
slot_found f key none [] number is = absurd (false≢true (sym none ∙ is))
slot_found f key none (slot ∷ slots) zero is = among_left key (f slot) (concat_by f slots) is
slot_found f key none (slot ∷ slots) (suc number) is = among_right key (f slot) (concat_by f slots) (slot_found f key none slots number is)

pub one_key : (key : Key) (on : Awaited) → among key (keys_among (on ∷ [])) ≡ true → on ≡ awaited.Key key
one_key key (awaited.Key own) is = ap awaited.Key (sym (same_is key own (by_left (same_key key own) is)))
  where
    by_left : (b : Bool) → (b || false) ≡ true → b ≡ true
    by_left true is = refl
    by_left false is = is
one_key key (awaited.Event event) is = absurd (false≢true is)
one_key key (awaited.Lock lock) is = absurd (false≢true is)
one_key key (awaited.Join task) is = absurd (false≢true is)

pub own_key : (key : Key) → among key (keys_among (awaited.Key key ∷ [])) ≡ true
own_key key = or_left (same_key key key) false (same_self key)

slot_key : (key : Key) (slot : Option CauseRecord) → among key (slot_keys slot) ≡ true → (held : Bool) × (slot ≡ Some (record { on = awaited.Key key; held = held }))
slot_key key None is = absurd (false≢true is)
slot_key key (Some kept) is = (kept.held, ap (λ (a : Awaited). let r : CauseRecord = record { on = a; held = kept.held } in Some r) (one_key key kept.on is))

held_key : (key : Key) (slot : Option CauseRecord) → among key (held_slot slot) ≡ true → slot ≡ Some (record { on = awaited.Key key; held = true })
held_key key None is = absurd (false≢true is)
held_key key (Some kept) is = go kept.held refl
  where
    go : (b : Bool) → kept.held ≡ b → Some kept ≡ Some (record { on = awaited.Key key; held = true })
    go true held =
        let on : kept.on ≡ awaited.Key key = one_key key kept.on (subst (λ (b : Bool). among key (cond b (keys_among (kept.on ∷ [])) []) ≡ true) held is) in
        ap (λ (a : Awaited). let r : CauseRecord = record { on = a; held = kept.held } in Some r) on
        ∙ ap (λ (b : Bool). let r : CauseRecord = record { on = awaited.Key key; held = b } in Some r) held
    go false free = absurd (false≢true (subst (λ (b : Bool). among key (cond b (keys_among (kept.on ∷ [])) []) ≡ true) free is))

pub named_key : (key : Key) (slots : Slots) → among key (record_keys slots) ≡ true → (number : ℕ) × HasCause slots number (awaited.Key key)
named_key key slots is =
    let one = found_slot slot_keys key slots is in
    (one.0, slot_key key (get_or slots one.0 None) one.1)

pub key_named : (key : Key) (slots : Slots) (number : ℕ) → HasCause slots number (awaited.Key key) → among key (record_keys slots) ≡ true
key_named key slots number has = slot_found slot_keys key refl slots number (ap (λ (o : Option CauseRecord). among key (slot_keys o)) has.1 ∙ own_key key)

pub runner_key : (key : Key) (slots : Slots) → among key (runner_keys slots) ≡ true → (number : ℕ) × (get_or slots number None ≡ Some (record { on = awaited.Key key; held = true }))
runner_key key slots is =
    let one = found_slot held_slot key slots is in
    (one.0, held_key key (get_or slots one.0 None) one.1)

-- ---- the record that leaves

module _ (slots slots' : Slots) (number : ℕ) (left : CauseRecord) (was : get_or slots number None ≡ Some left) (sets : Sets slots slots' number None) (gone : (other : ℕ) → ¬ HasCause slots' other left.on) where
  stays : (k : ℕ) (on : Awaited) → HasCause slots' k on → HasCause slots k on
  stays k on has =
      let differs : k ≢ number = λ same. none-some _ (sym sets.changed ∙ ap (λ j. get_or slots' j None) (sym same) ∙ has.1) in
      (has.0, sym (sets.others k differs) ∙ has.1)

  -- what has another record than this one has it still
  other_stays : (k : ℕ) (on : Awaited) → k ≢ number → HasCause slots k on → HasCause slots' k on
  other_stays k on differs has = (has.0, sets.others k differs ∙ has.1)

  -- the runner holds none of the keys that leave
  held_stay : left.held ≡ false → AreWithin (runner_keys slots) (record_keys slots')
  held_stay free key is =
      let one = runner_key key slots is in
      let differs : one.0 ≢ number = λ same.
      let e : left ≡ record { on = awaited.Key key; held = true } = same_Some _ _ (sym was ∙ ap (λ j. get_or slots j None) (sym same) ∙ one.1) in
      false≢true (sym free ∙ ap (λ (r : CauseRecord). r.held) e) in
      key_named key slots' one.0 (other_stays one.0 (awaited.Key key) differs (true, one.1))

  module _ (key : Key) (of_key : left.on ≡ awaited.Key key) where
    pub key_gone : among key (record_keys slots') ≡ false
    key_gone = false_from_ne_true (among key (record_keys slots')) (λ is.
        let one = named_key key slots' is in
        gone one.0 (subst (HasCause slots' one.0) (sym of_key) one.1))

    pub keys_before : AreAlike (record_keys slots) (key ∷ record_keys slots')
    keys_before k = alike (among k (record_keys slots)) (same_key k key || among k (record_keys slots')) there back
      where
        there : among k (record_keys slots) ≡ true → (same_key k key || among k (record_keys slots')) ≡ true
        there is =
            let one = named_key k slots is in
            elim (cases_eq one.0 number) [
              | inl same ↦
                  let e : record { on = awaited.Key k; held = one.1.0 } ≡ left = same_Some _ _ (sym one.1.1 ∙ ap (λ j. get_or slots j None) same ∙ was) in
                  let keys : awaited.Key k ≡ awaited.Key key = ap (λ (r : CauseRecord). r.on) e ∙ of_key in
                  let at : k ≡ key = cc in
                  or_left (same_key k key) (among k (record_keys slots')) (ap (same_key k) (sym at) ∙ same_self k)
              | inr differs ↦ or_right (same_key k key) (among k (record_keys slots')) (key_named k slots' one.0 (other_stays one.0 (awaited.Key k) differs one.1))
            ]

        back : (same_key k key || among k (record_keys slots')) ≡ true → among k (record_keys slots) ≡ true
        back is =
            elim (or_cases (same_key k key) (among k (record_keys slots')) is) [
              | inl same ↦
                  key_named k slots number
                  (left.held, was ∙ ap (λ (a : Awaited). let r : CauseRecord = record { on = a; held = left.held } in Some r) (of_key ∙ ap awaited.Key (sym (same_is k key same))))
              | inr later ↦ let one = named_key k slots' later in key_named k slots one.0 (stays one.0 (awaited.Key k) one.1)
            ]

    module _ (before after : Content) (fired : List Key) (free : left.held ≡ false) (fits : Fits before fired (runner_keys slots) (record_keys slots)) where
      fits_front : Fits before fired (runner_keys slots) (key ∷ record_keys slots')
      fits_front = fits_alike before fired (runner_keys slots) (record_keys slots) (key ∷ record_keys slots') keys_before fits

      pub goes_there : among key fired ≡ false → has key before.keys ≡ true
      goes_there unfired = first_there before after fired (runner_keys slots) key (record_keys slots') fits_front (held_stay free) (rw (unfired, key_gone) refl)

      pub key_goes : among key fired ≡ false → Removes before key after → Narrows before after (record_keys slots) (record_keys slots')
      key_goes unfired removes =
          narrows_alike before after (key ∷ record_keys slots') (record_keys slots) (record_keys slots') (record_keys slots') (λ k. sym (keys_before k)) (λ k. refl)
          (first_goes before after fired (runner_keys slots) key (record_keys slots') fits_front (held_stay free) (rw (unfired, key_gone) refl) removes)

      pub fired_goes : among key fired ≡ true → Narrows before before (record_keys slots) (record_keys slots')
      fired_goes is =
          narrows_alike before before (key ∷ record_keys slots') (record_keys slots) (record_keys slots') (record_keys slots') (λ k. sym (keys_before k)) (λ k. refl)
          (first_stays before before fired (runner_keys slots) key (record_keys slots') fits_front (held_stay free) (or_left (among key fired) (among key (record_keys slots')) is))

  -- it is no key's
  pub other_goes : ((key : Key) → left.on ≡ awaited.Key key → ⊥) → (before : Content) (fired : List Key) → Fits before fired (runner_keys slots) (record_keys slots) → Narrows before before (record_keys slots) (record_keys slots')
  other_goes no_key before fired fits =
      narrows_none before (record_keys slots) (record_keys slots') (λ k h. within k (fits.keys.within k h)) (λ k is. let one = named_key k slots' is in key_named k slots one.0 (stays one.0 (awaited.Key k) one.1))
    where
      within : (k : Key) → among k (record_keys slots) ≡ true → among k (record_keys slots') ≡ true
      within k is =
          let one = named_key k slots is in
          let differs : one.0 ≢ number = λ same.
          let e : left ≡ record { on = awaited.Key k; held = one.1.0 } = same_Some _ _ (sym was ∙ ap (λ j. get_or slots j None) (sym same) ∙ one.1.1) in
          no_key k (ap (λ (r : CauseRecord). r.on) e) in
          key_named k slots' one.0 (other_stays one.0 (awaited.Key k) differs one.1)

-- what nothing needs isn't held
pub unheld : (number : ℕ) (s : State) (left : CauseRecord) → ¬ IsNeeded number s → get_or s.causes number None ≡ Some left → left.held ≡ false
unheld number s left free slot = false_from_ne_true left.held (λ held. free (inr (left, slot, held)))

-- what the runner held it holds still
pub held_within : (slots slots' : Slots) → HeldStays slots slots' → AreWithin (runner_keys slots) (runner_keys slots')
held_within slots slots' stay key is =
    let one = runner_key key slots is in
    slot_found held_slot key refl slots' one.0 (ap (λ (o : Option CauseRecord). among key (held_slot o)) (stay one.0 (record { on = awaited.Key key; held = true }) one.1 refl) ∙ own_key key)

-- the simulator and the records are in step after a call too
pub fits_on : (a b : Content) (fired : List Key) (slots slots' : Slots) → Fits a fired (runner_keys slots) (record_keys slots) → Narrows a b (record_keys slots) (record_keys slots') → HeldStays slots slots' → Fits b fired (runner_keys slots') (record_keys slots')
fits_on a b fired slots slots' fits narrows stay =
    let after = fits_after a b fired (runner_keys slots) (record_keys slots) (record_keys slots') fits narrows in
    record {
      keys = record {
        within = after.keys.within;
        rest = λ k named out. within_both fired fired (runner_keys slots) (runner_keys slots') (within_self fired) (held_within slots slots' stay) k (after.keys.rest k named out);
      };
      out = after.out;
    }

pub held_self : (slots : Slots) → HeldStays slots slots
held_self slots number kept slot held = slot

-- ---- records only go

pub shrinks_self : (slots : Slots) → Shrinks slots slots
shrinks_self slots number kept is = is

pub shrinks_sets : (slots slots' : Slots) (number : ℕ) → Sets slots slots' number None → Shrinks slots slots'
shrinks_sets slots slots' number sets n kept is =
    elim (cases_eq n number) [
      | inl same ↦ absurd (none-some kept (sym sets.changed ∙ ap (λ (j : ℕ). get_or slots' j None) (sym same) ∙ is))
      | inr differs ↦ sym (sets.others n differs) ∙ is
    ]

pub shrinks_through : (first mid mid' last : Slots) → Shrinks first mid → mid' ≡ mid → Shrinks mid' last → Shrinks first last
shrinks_through first mid mid' last one same two number kept is = one number kept (ap (λ (cs : Slots). get_or cs number None) (sym same) ∙ two number kept is)
