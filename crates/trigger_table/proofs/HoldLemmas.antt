-- The runner comes to hold a key, or lets go of it.
use Rattle.std.proofs.Common.{◌≡◌, ◌≢◌, ℕ, Bool, true, false, not, ◌||◌, ◌&&◌, List, ◌∷◌, ◌++◌, Option, Some, None, get_or, refl, sym, ap, ◌∙◌, subst, inl, inr}
use Rattle.std.proofs.lemmas.Bool.{cases_eq, or_cases, and_from, and_parts, false≢true, not-true, not_from_false, false_from_ne_true}
use Rattle.std.proofs.lemmas.Option.{none-some, same_Some}
use Rattle.gpi.specs.Content.{Content}
use Rattle.gpi.specs.Keys.{among, has, same_key}
use Rattle.gpi.specs.declared.types.Key.{Key}
use Rattle.await_tree.specs.declared.cause.Awaited.{Awaited}
use Rattle.await_tree.specs.declared.cause.Awaited.TheVariants as awaited
use Rattle.await_tree.specs.WaitList.Keys.{AreAlike, without}
use Rattle.await_tree.specs.WaitList.Parts.{Fits, Narrows}
use Rattle.await_tree.proofs.WaitListLemmas.Members.{alike, among_append, among_left, among_right, among_without, or_left, or_right, same_is, same_self}
use Rattle.await_tree.proofs.WaitListLemmas.Rekeys.{narrows_alike}
use Rattle.trigger_table.specs.Awaiting.{Joined}
use Rattle.trigger_table.specs.Entries.{HasCause}
use Rattle.trigger_table.specs.Indexed.{Sets}
use Rattle.trigger_table.specs.Keys.{record_keys, runner_keys}
use Rattle.trigger_table.specs.Records.{causes_in, rows_in, state_in}
use Rattle.trigger_table.specs.State.{AllNeeded, IsNeeded, State, waiters_on}
use Rattle.trigger_table.specs.Tied.{AreTied, IsKept, SameSlots, Shrinks}
use Rattle.trigger_table.specs.declared.entries.CauseRecord.{CauseRecord}
use Rattle.trigger_table.specs.declared.records.Records.{Records}
use Rattle.trigger_table.proofs.AwaitLemmas.{runner_named}
use Rattle.trigger_table.proofs.EntryLemmas.{causes_apart, some_cause, waited_stay}
use Rattle.trigger_table.proofs.GoneLemmas.{key_named, named_key, runner_key}
use Rattle.trigger_table.proofs.TieLemmas.{kept_of, needed_of, tied_agree, tied_has, tied_of}

abbrev Slots : Type 0
Slots = List (Option CauseRecord)

needed_rows : (k : ℕ) (s s' : State) → s'.rows ≡ s.rows → get_or s'.causes k None ≡ get_or s.causes k None → IsNeeded k s → IsNeeded k s'
needed_rows k s s' rows slot needed =
    elim needed [
      | inl some ↦ inl (λ none. some (ap (waiters_on k) (sym rows) ∙ none))
      | inr held ↦ inr (held.0, slot ∙ held.1, held.2)
    ]

-- nothing has changed
pub same_kept : (s s' : State) → s'.rows ≡ s.rows → SameSlots s.causes s'.causes → IsKept s → IsKept s'
same_kept s s' rows same kept =
    kept_of s' (λ k some. needed_rows k s s' rows (same k) (needed_of s kept k (λ none. some (same k ∙ none))))
    (tied_agree s.causes s'.causes s'.rows (λ n some. same n) (subst (AreTied _) (sym rows) (tied_of s kept)))

-- ---- a key comes to be held

module _ (key : Key) (number : ℕ) (s0 s2 : State) (mid : Slots) (j : Joined (awaited.Key key) number s0.causes mid) (rows : s2.rows ≡ s0.rows)
    (held : (kept : CauseRecord) → get_or mid number None ≡ Some kept → Sets mid s2.causes number (Some (record kept { held = true }))) where
  sets : Sets mid s2.causes number (Some (record { on = awaited.Key key; held = true }))
  sets = held _ j.has.1

  pub has_after : (n : ℕ) (on : Awaited) → HasCause s0.causes n on → HasCause s2.causes n on
  has_after n on h =
      elim (cases_eq n number) [
        | inl same ↦
            let own : awaited.Key key ≡ on = ap (λ (r : CauseRecord). r.on) (same_Some _ _ (sym j.has.1 ∙ ap (λ (k : ℕ). get_or mid k None) (sym same) ∙ j.grows n _ h.1)) in
            (true, ap (λ (k : ℕ). get_or s2.causes k None) same ∙ sets.changed ∙ ap (λ (a : Awaited). let r : CauseRecord = record { on = a; held = true } in Some r) own)
        | inr differs ↦ (h.0, sets.others n differs ∙ j.grows n _ h.1)
      ]

  pub held_kept : IsKept s0 → IsKept s2
  held_kept kept = kept_of s2 needed (tied_has s0.causes s2.causes s2.rows (λ n on some has. has_after n on has) (subst (AreTied _) (sym rows) (tied_of s0 kept)))
    where
      needed : AllNeeded s2
      needed k some =
          elim (cases_eq k number) [
            | inl same ↦ inr (record { on = awaited.Key key; held = true }, ap (λ (n : ℕ). get_or s2.causes n None) same ∙ sets.changed, refl)
            | inr differs ↦
                let one = some_cause s2.causes k some in
                elim (j.only k one.0 (sym (sets.others k differs) ∙ one.1)) [
                  | inl same ↦ absurd (differs same)
                  | inr was ↦ needed_rows k s0 s2 rows (one.1 ∙ sym was) (needed_of s0 kept k (λ none. none-some one.0 (sym none ∙ was)))
                ]
          ]

  pub held_runner : AreAlike (runner_keys s2.causes) (key ∷ runner_keys s0.causes)
  held_runner k = alike (among k (runner_keys s2.causes)) (same_key k key || among k (runner_keys s0.causes)) there back
    where
      there : among k (runner_keys s2.causes) ≡ true → (same_key k key || among k (runner_keys s0.causes)) ≡ true
      there is =
          let one = runner_key k s2.causes is in
          elim (cases_eq one.0 number) [
            | inl same ↦
                let e = same_Some _ _ (sym one.1 ∙ ap (λ (n : ℕ). get_or s2.causes n None) same ∙ sets.changed) in
                let on : awaited.Key k ≡ awaited.Key key = ap (λ (r : CauseRecord). r.on) e in
                let at : k ≡ key = cc in
                or_left (same_key k key) (among k (runner_keys s0.causes)) (ap (same_key k) (sym at) ∙ same_self k)
            | inr differs ↦
                elim (j.only one.0 _ (sym (sets.others one.0 differs) ∙ one.1)) [
                  | inl same ↦ absurd (differs same)
                  | inr was ↦ or_right (same_key k key) (among k (runner_keys s0.causes)) (runner_named k s0.causes one.0 was)
                ]
          ]

      back : (same_key k key || among k (runner_keys s0.causes)) ≡ true → among k (runner_keys s2.causes) ≡ true
      back is =
          elim (or_cases (same_key k key) (among k (runner_keys s0.causes)) is) [
            | inl own ↦ ap (λ (i : Key). among i (runner_keys s2.causes)) (same_is k key own) ∙ runner_named key s2.causes number sets.changed
            | inr was ↦
                let one = runner_key k s0.causes was in
                elim (cases_eq one.0 number) [
                  | inl same ↦
                      let e = same_Some _ _ (sym (j.grows one.0 _ one.1) ∙ ap (λ (n : ℕ). get_or mid n None) same ∙ j.has.1) in
                      let on : awaited.Key k ≡ awaited.Key key = ap (λ (r : CauseRecord). r.on) e in
                      let at : k ≡ key = cc in
                      ap (λ (i : Key). among i (runner_keys s2.causes)) at ∙ runner_named key s2.causes number sets.changed
                  | inr differs ↦ runner_named k s2.causes one.0 (sets.others one.0 differs ∙ j.grows one.0 _ one.1)
                ]
          ]

-- ---- a key is held no more

module _ (key : Key) (number : ℕ) (old : Records) (mid : Slots) (own : HasCause (causes_in old) number (awaited.Key key))
    (freed : (kept : CauseRecord) → get_or (causes_in old) number None ≡ Some kept → Sets (causes_in old) mid number (Some (record kept { held = false }))) where
  free : Sets (causes_in old) mid number (Some (record { on = awaited.Key key; held = false }))
  free = freed _ own.1

  -- the record of another key that the runner holds is another
  apart : (k : Key) (m : ℕ) → get_or (causes_in old) m None ≡ Some (record { on = awaited.Key k; held = true }) → k ≢ key → m ≢ number
  apart k m is differs same =
      let e = same_Some _ _ (sym is ∙ ap (λ (n : ℕ). get_or (causes_in old) n None) same ∙ own.1) in
      let on : awaited.Key k ≡ awaited.Key key = ap (λ (r : CauseRecord). r.on) e in
      differs (cc)

  has_mid : (n : ℕ) (on : Awaited) → HasCause (causes_in old) n on → HasCause mid n on
  has_mid n on h =
      elim (cases_eq n number) [
        | inl same ↦
            (false, ap (λ (k : ℕ). get_or mid k None) same ∙ free.changed ∙ ap (λ (a : Awaited). let r : CauseRecord = record { on = a; held = false } in Some r) (ap (λ (r : CauseRecord). r.on) (same_Some _ _ (sym own.1 ∙ ap (λ (k : ℕ). get_or (causes_in old) k None) (sym same) ∙ h.1))))
        | inr differs ↦ (h.0, free.others n differs ∙ h.1)
      ]

  has_old : (n : ℕ) (on : Awaited) → HasCause mid n on → HasCause (causes_in old) n on
  has_old n on h =
      elim (cases_eq n number) [
        | inl same ↦
            (own.0, ap (λ (k : ℕ). get_or (causes_in old) k None) same ∙ own.1 ∙ ap (λ (a : Awaited). let r : CauseRecord = record { on = a; held = own.0 } in Some r) (ap (λ (r : CauseRecord). r.on) (same_Some _ _ (sym free.changed ∙ ap (λ (k : ℕ). get_or mid k None) (sym same) ∙ h.1))))
        | inr differs ↦ (h.0, sym (free.others n differs) ∙ h.1)
      ]

  pub names_mid : AreAlike (record_keys mid) (record_keys (causes_in old))
  names_mid k =
      alike (among k (record_keys mid)) (among k (record_keys (causes_in old)))
      (λ is. let one = named_key k mid is in key_named k (causes_in old) one.0 (has_old one.0 (awaited.Key k) one.1))
      (λ is. let one = named_key k (causes_in old) is in key_named k mid one.0 (has_mid one.0 (awaited.Key k) one.1))

  pub fits_mid : (c : Content) (fired : List Key) → (among key fired ≡ false → has key c.keys ≡ true) → Fits c fired (runner_keys (causes_in old)) (record_keys (causes_in old)) → Fits c fired (runner_keys mid) (record_keys mid)
  fits_mid c fired known f = record {
    keys = record {
      within = λ k is. names_mid k ∙ f.keys.within k is;
      rest = λ k named out.
          elim (or_cases (among k fired) (among k (runner_keys (causes_in old))) (sym (among_append k fired (runner_keys (causes_in old))) ∙ f.keys.rest k (sym (names_mid k) ∙ named) out)) [
            | inl is ↦ among_left k fired (runner_keys mid) is
            | inr held ↦ go k out held (among k fired) refl
          ];
    };
    out = f.out;
  }
    where
      go : (k : Key) → has k c.keys ≡ false → among k (runner_keys (causes_in old)) ≡ true → (b : Bool) → among k fired ≡ b → among k (fired ++ runner_keys mid) ≡ true
      go k out held true is = among_left k fired (runner_keys mid) is
      go k out held false is =
          let one = runner_key k (causes_in old) held in
          let differs : k ≢ key = λ same. false≢true (sym out ∙ ap (λ (i : Key). has i c.keys) same ∙ known (ap (λ (i : Key). among i fired) (sym same) ∙ is)) in
          among_right k fired (runner_keys mid) (runner_named k mid one.0 (free.others one.0 (apart k one.0 one.1 differs) ∙ one.1))

  module _ (new : Records) (rows : rows_in new ≡ rows_in old) (others : (n : ℕ) → n ≢ number → get_or (causes_in new) n None ≡ get_or mid n None) (shrinks : Shrinks mid (causes_in new))
      (needed : get_or (causes_in new) number None ≢ None → IsNeeded number (state_in new)) where
    pub freed_kept : IsKept (state_in old) → IsKept (state_in new)
    freed_kept kept =
        kept_of (state_in new) all
        (tied_has (causes_in old) (causes_in new) (rows_in new)
        (λ n on some h. (let m = has_mid n on h in (m.0, waited_stay mid new shrinks n some ∙ m.1)))
        (subst (AreTied _) (sym rows) (tied_of (state_in old) kept)))
      where
        all : AllNeeded (state_in new)
        all k some =
            elim (cases_eq k number) [
              | inl same ↦ subst (λ (n : ℕ). IsNeeded n (state_in new)) (sym same) (needed (λ none. some (ap (λ (n : ℕ). get_or (causes_in new) n None) same ∙ none)))
              | inr differs ↦
                  let slot = others k differs ∙ free.others k differs in
                  needed_rows k (state_in old) (state_in new) rows slot (needed_of (state_in old) kept k (λ none. some (slot ∙ none)))
            ]

    pub freed_runner : AreAlike (runner_keys (causes_in new)) (without key (runner_keys (causes_in old)))
    freed_runner k = alike (among k (runner_keys (causes_in new))) (among k (runner_keys (causes_in old)) && not (same_key key k)) there_is back ∙ sym (among_without k key (runner_keys (causes_in old)))
      where
        there_is : among k (runner_keys (causes_in new)) ≡ true → (among k (runner_keys (causes_in old)) && not (same_key key k)) ≡ true
        there_is is =
            let one = runner_key k (causes_in new) is in
            let was : get_or mid one.0 None ≡ Some (record { on = awaited.Key k; held = true }) = shrinks one.0 _ one.1 in
            let differs : one.0 ≢ number = λ same.
            (let e = same_Some _ _ (sym free.changed ∙ ap (λ (n : ℕ). get_or mid n None) (sym same) ∙ was) in
            false≢true (ap (λ (r : CauseRecord). r.held) e)) in
            let at : get_or (causes_in old) one.0 None ≡ Some (record { on = awaited.Key k; held = true }) = sym (free.others one.0 differs) ∙ was in
            and_from _ _ (runner_named k (causes_in old) one.0 at)
            (not_from_false (same_key key k) (false_from_ne_true (same_key key k) (λ same.
            differs (causes_apart old (awaited.Key key) one.0 number (true, at ∙ ap (λ (i : Key). let r : CauseRecord = record { on = awaited.Key i; held = true } in Some r) (sym (same_is key k same))) own))))

        back : (among k (runner_keys (causes_in old)) && not (same_key key k)) ≡ true → among k (runner_keys (causes_in new)) ≡ true
        back is =
            let both = and_parts (among k (runner_keys (causes_in old))) (not (same_key key k)) is in
            let one = runner_key k (causes_in old) both.0 in
            let differs : k ≢ key = λ same. false≢true (sym (not-true (same_key key k) both.1) ∙ ap (same_key key) same ∙ same_self key) in
            let off = apart k one.0 one.1 differs in
            runner_named k (causes_in new) one.0 (others one.0 off ∙ free.others one.0 off ∙ one.1)

    pub freed_narrows : (a b : Content) → Narrows a b (record_keys mid) (record_keys (causes_in new)) → Narrows a b (record_keys (causes_in old)) (record_keys (causes_in new))
    freed_narrows a b n = narrows_alike a b (record_keys mid) (record_keys (causes_in old)) (record_keys (causes_in new)) (record_keys (causes_in new)) names_mid (λ k. refl) n

-- a key that has no record isn't held
pub not_held : (key : Key) (slots : Slots) → ((n : ℕ) → ¬ HasCause slots n (awaited.Key key)) → AreAlike (runner_keys slots) (without key (runner_keys slots))
not_held key slots none k = alike (among k (runner_keys slots)) (among k (runner_keys slots) && not (same_key key k)) there back ∙ sym (among_without k key (runner_keys slots))
  where
    there : among k (runner_keys slots) ≡ true → (among k (runner_keys slots) && not (same_key key k)) ≡ true
    there is =
        and_from _ _ is (not_from_false (same_key key k) (false_from_ne_true (same_key key k) (λ same.
        let one = runner_key k slots is in
        none one.0 (true, one.1 ∙ ap (λ (i : Key). let r : CauseRecord = record { on = awaited.Key i; held = true } in Some r) (sym (same_is key k same))))))

    back : (among k (runner_keys slots) && not (same_key key k)) ≡ true → among k (runner_keys slots) ≡ true
    back is = (and_parts (among k (runner_keys slots)) (not (same_key key k)) is).0

-- a key that has no record isn't named
pub not_named : (key : Key) (slots : Slots) → ((n : ℕ) → ¬ HasCause slots n (awaited.Key key)) → among key (record_keys slots) ≡ false
not_named key slots none = false_from_ne_true (among key (record_keys slots)) (λ is. let one = named_key key slots is in none one.0 one.1)
