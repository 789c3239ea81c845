-- Lists without a number, and what a change of the links makes of the lists.
use Rattle.std.proofs.Common.{◌≡◌, ◌≢◌, ◌⊎◌, ℕ, zero, suc, ◌+◌, ◌*◌, ◌/◌, ◌%◌, ◌==◌, true, not, cond, List, [], ◌∷◌, ◌++◌, length, Option, None, Some, slice_get, refl, sym, ap, ◌∙◌, subst, inl, inr, arith, eq-eqb, ne_eqb}
use Rattle.std.proofs.lemmas.Bool.{cases_eq, cond-true, cond-false, or_left, or_right, or_cases, and_from, and_parts, not-true, not_from_false, false_from_ne_true, eqb-true, false≢true}
use Rattle.std.proofs.lemmas.Option.{none-some, same_Some}
use Rattle.trigger_table.specs.Links.{IsIn, IsApart, without, behind, is_in, is_apart, is_chain, walk, Chain, AreLists}

-- ---- lists

pub without_head : (key own : ℕ) (keys : List ℕ) → own ≡ key → without key (own ∷ keys) ≡ without key keys
without_head key own keys same = ap (λ b. cond (not b) (own ∷ without key keys) (without key keys)) (eq-eqb own key same)

pub without_past : (key own : ℕ) (keys : List ℕ) → own ≢ key → without key (own ∷ keys) ≡ own ∷ without key keys
without_past key own keys differs = ap (λ b. cond (not b) (own ∷ without key keys) (without key keys)) (ne_eqb own key differs)

pub without_absent : (key : ℕ) (keys : List ℕ) → ¬ IsIn key keys → without key keys ≡ keys
without_absent key [] absent = refl
without_absent key (own ∷ keys) absent =
    without_past key own keys (λ same. absent (inl same)) ∙ ap (λ ks. own ∷ ks) (without_absent key keys (λ there. absent (inr there)))

-- what stands in a list without a number stands in the list, and is another one
pub IsIn-without : (key k : ℕ) (keys : List ℕ) → IsIn k (without key keys) → IsIn k keys × (k ≢ key)
IsIn-without key k [] found = absurd found
IsIn-without key k (own ∷ keys) found =
    elim (cases_eq own key) [
      | inl same ↦
          let later = IsIn-without key k keys (subst (IsIn k) (without_head key own keys same) found) in
          (inr later.0, later.1)
      | inr differs ↦
          elim (subst (IsIn k) (without_past key own keys differs) found) [
            | inl here ↦ (inl here, λ same. differs (here ∙ same))
            | inr there ↦ let later = IsIn-without key k keys there in (inr later.0, later.1)
          ]
    ]

pub IsIn_without : (key k : ℕ) (keys : List ℕ) → IsIn k keys → k ≢ key → IsIn k (without key keys)
IsIn_without key k [] found differs = absurd found
IsIn_without key k (own ∷ keys) found differs =
    elim (cases_eq own key) [
      | inl same ↦
          elim found [
            | inl here ↦ absurd (differs (sym here ∙ same))
            | inr there ↦ subst (IsIn k) (sym (without_head key own keys same)) (IsIn_without key k keys there differs)
          ]
      | inr other ↦
          let later : IsIn k (own ∷ without key keys) = elim found [ inl here ↦ inl here | inr there ↦ inr (IsIn_without key k keys there differs) ] in
          subst (IsIn k) (sym (without_past key own keys other)) later
    ]

pub IsApart-without : (key : ℕ) (keys : List ℕ) → IsApart keys → IsApart (without key keys)
IsApart-without key [] apart = tt
IsApart-without key (own ∷ keys) apart =
    elim (cases_eq own key) [
      | inl same ↦ subst IsApart (sym (without_head key own keys same)) (IsApart-without key keys apart.1)
      | inr differs ↦
          subst IsApart (sym (without_past key own keys differs))
          (λ found. apart.0 (IsIn-without key own keys found).0, IsApart-without key keys apart.1)
    ]

pub length-without : (key : ℕ) (keys : List ℕ) → IsIn key keys → IsApart keys → length (without key keys) + 1 ≡ length keys
length-without key [] found apart = absurd found
length-without key (own ∷ keys) found apart =
    elim (cases_eq own key) [
      | inl same ↦
          let off : ¬ IsIn key keys = λ there. apart.0 (subst (λ k. IsIn k keys) (sym same) there) in
          let shorter = ap length (without_head key own keys same ∙ without_absent key keys off) in
          omega (arith, shorter)
      | inr differs ↦
          let there : IsIn key keys = elim found [ inl here ↦ absurd (differs here) | inr there ↦ there ] in
          omega (arith, ap length (without_past key own keys differs), length-without key keys there apart.1)
    ]

pub IsIn-last : (key k : ℕ) (keys : List ℕ) → IsIn k (keys ++ key ∷ []) → IsIn k keys ⊎ (key ≡ k)
IsIn-last key k [] found = elim found [ inl here ↦ inr here | inr there ↦ absurd there ]
IsIn-last key k (own ∷ keys) found =
    elim found [
      | inl here ↦ inl (inl here)
      | inr there ↦ elim (IsIn-last key k keys there) [ inl front ↦ inl (inr front) | inr last ↦ inr last ]
    ]

pub IsIn_front : (key k : ℕ) (keys : List ℕ) → IsIn k keys → IsIn k (keys ++ key ∷ [])
IsIn_front key k [] found = absurd found
IsIn_front key k (own ∷ keys) found = elim found [ inl here ↦ inl here | inr there ↦ inr (IsIn_front key k keys there) ]

pub IsIn_last : (key : ℕ) (keys : List ℕ) → IsIn key (keys ++ key ∷ [])
IsIn_last key [] = inl refl
IsIn_last key (own ∷ keys) = inr (IsIn_last key keys)

pub IsApart-last : (key : ℕ) (keys : List ℕ) → IsApart keys → ¬ IsIn key keys → IsApart (keys ++ key ∷ [])
IsApart-last key [] apart off = (λ found. found, tt)
IsApart-last key (own ∷ keys) apart off = (
  λ found. elim (IsIn-last key own keys found) [ inl front ↦ apart.0 front | inr last ↦ off (inl (sym last)) ],
  IsApart-last key keys apart.1 (λ there. off (inr there)),
)

pub first_in : (keys : List ℕ) (key : ℕ) → slice_get keys 0 ≡ Some key → IsIn key keys
first_in [] key is = absurd (none-some key is)
first_in (own ∷ keys) key is = inl (same_Some own key is)

-- ---- chains

half : (k : ℕ) → (2 * k + 1) / 2 ≡ k
half k = omega arith

odd_differs : (a b : ℕ) → 2 * a + 1 ≢ 2 * b
odd_differs a b same = omega arith

odd_same : (a b : ℕ) → 2 * a + 1 ≡ 2 * b + 1 → a ≡ b
odd_same a b same = omega arith

pub walk_chain : (next : ℕ → ℕ) (from to : ℕ) (keys : List ℕ) → Chain next from keys to → walk next (length keys) from ≡ keys
walk_chain next from to [] chain = refl
walk_chain next from to (key ∷ keys) chain =
    ap (λ n. n / 2 ∷ walk next (length keys) (next n)) chain.0 ∙ ap (λ k. k ∷ walk next (length keys) (next (2 * key + 1))) (half key)
    ∙ ap (λ ks. key ∷ ks) (walk_chain next (next (2 * key + 1)) to keys chain.1)

pub length-walk : (next : ℕ → ℕ) (count from : ℕ) → length (walk next count from) ≡ count
length-walk next zero from = refl
length-walk next (suc count) from = ap suc (length-walk next count (next from))

even_head : (node list : ℕ) → node ≡ 2 * list → node % 2 ≡ 0
even_head node list is = omega arith

odd_node : (node key : ℕ) → node ≡ 2 * key + 1 → node % 2 ≢ 0
odd_node node key is even = omega arith

-- the key of the node at which a chain begins is the first
pub chain_front : (next : ℕ → ℕ) (from list : ℕ) (keys : List ℕ) → Chain next from keys (2 * list) → cond (from % 2 == 0) None (Some (from / 2)) ≡ slice_get keys 0
chain_front next from list [] chain = let even : from % 2 ≡ 0 = even_head from list chain in cond-true (from % 2 == 0) None (Some (from / 2)) (eq-eqb (from % 2) 0 even)
chain_front next from list (key ∷ keys) chain =
    cond-false (from % 2 == 0) None (Some (from / 2)) (ne_eqb (from % 2) 0 (odd_node from key chain.0)) ∙ ap Some (ap (λ n. n / 2) chain.0 ∙ half key)

pub chain_behind : (next : ℕ → ℕ) (list key : ℕ) (keys : List ℕ) (from : ℕ) → Chain next from keys (2 * list) → IsIn key keys → cond (next (2 * key + 1) % 2 == 0) None (Some (next (2 * key + 1) / 2)) ≡ behind key keys
chain_behind next list key [] from chain found = absurd found
chain_behind next list key (own ∷ keys) from chain found = go (cases_eq own key) (chain_behind next list key keys (next (2 * own + 1)) chain.1)
  where
    answer : ℕ → Option ℕ
    answer k = cond (next (2 * k + 1) % 2 == 0) None (Some (next (2 * k + 1) / 2))

    go : (own ≡ key) ⊎ (own ≡ key → ⊥) → (IsIn key keys → answer key ≡ behind key keys) → answer key ≡ behind key (own ∷ keys)
    go (inl same) later =
        subst (λ k. answer k ≡ slice_get keys 0) same (chain_front next (next (2 * own + 1)) list keys chain.1)
        ∙ sym (cond-true (own == key) (slice_get keys 0) (behind key keys) (eq-eqb own key same))
    go (inr differs) later =
        let there : IsIn key keys = elim found [ inl here ↦ absurd (differs here) | inr there ↦ there ] in
        later there ∙ sym (cond-false (own == key) (slice_get keys 0) (behind key keys) (ne_eqb own key differs))

pub behind_in : (key : ℕ) (keys : List ℕ) (other : ℕ) → behind key keys ≡ Some other → IsIn other keys
behind_in key [] other is = absurd (none-some other is)
behind_in key (own ∷ keys) other is =
    elim (cases_eq own key) [
      | inl same ↦ inr (first_in keys other (sym (cond-true _ _ _ (eq-eqb own key same)) ∙ is))
      | inr differs ↦ inr (behind_in key keys other (sym (cond-false _ _ _ (ne_eqb own key differs)) ∙ is))
    ]

-- ---- tests

pub in_true : (key : ℕ) (keys : List ℕ) → IsIn key keys → is_in key keys ≡ true
in_true key [] found = absurd found
in_true key (own ∷ keys) found =
    elim found [
      | inl here ↦ or_left (own == key) (is_in key keys) (eq-eqb own key here)
      | inr there ↦ or_right (own == key) (is_in key keys) (in_true key keys there)
    ]

pub in_is : (key : ℕ) (keys : List ℕ) → is_in key keys ≡ true → IsIn key keys
in_is key [] is = absurd (false≢true is)
in_is key (own ∷ keys) is =
    elim (or_cases (own == key) (is_in key keys) is) [ inl here ↦ inl (eqb-true own key here) | inr there ↦ inr (in_is key keys there) ]

pub apart_true : (keys : List ℕ) → IsApart keys → is_apart keys ≡ true
apart_true [] apart = refl
apart_true (key ∷ keys) apart =
    and_from _ _ (not_from_false (is_in key keys) (false_from_ne_true (is_in key keys) (λ is. apart.0 (in_is key keys is)))) (apart_true keys apart.1)

pub apart_is : (keys : List ℕ) → is_apart keys ≡ true → IsApart keys
apart_is [] is = tt
apart_is (key ∷ keys) is =
    let both = and_parts (not (is_in key keys)) (is_apart keys) is in
    (λ found. false≢true (sym (not-true (is_in key keys) both.0) ∙ in_true key keys found), apart_is keys both.1)

pub chain_true : (next : ℕ → ℕ) (to : ℕ) (keys : List ℕ) (from : ℕ) → Chain next from keys to → is_chain next from keys to ≡ true
chain_true next to [] from chain = eq-eqb from to chain
chain_true next to (key ∷ keys) from chain = and_from _ _ (eq-eqb from (2 * key + 1) chain.0) (chain_true next to keys (next (2 * key + 1)) chain.1)

pub chain_is : (next : ℕ → ℕ) (to : ℕ) (keys : List ℕ) (from : ℕ) → is_chain next from keys to ≡ true → Chain next from keys to
chain_is next to [] from is = eqb-true from to is
chain_is next to (key ∷ keys) from is =
    let both = and_parts (from == 2 * key + 1) (is_chain next (next (2 * key + 1)) keys to) is in
    (eqb-true from (2 * key + 1) both.0, chain_is next to keys (next (2 * key + 1)) both.1)

-- lists told by what stands in them
pub record Linked (next prev : ℕ → ℕ) (owner : ℕ → Option ℕ) (lists : ℕ → List ℕ) : Type 0 where
  pub back : (node : ℕ) → prev (next node) ≡ node
  pub forth : (node : ℕ) → next (prev node) ≡ node
  pub alone : (key : ℕ) → owner key ≡ None → next (2 * key + 1) ≡ 2 * key + 1
  pub chained : (list : ℕ) → Chain next (next (2 * list)) (lists list) (2 * list)
  pub listed : (key list : ℕ) → owner key ≡ Some list → IsIn key (lists list)
  pub owned : (key list : ℕ) → IsIn key (lists list) → owner key ≡ Some list
  pub apart : (list : ℕ) → IsApart (lists list)

pub linked_of : (next prev : ℕ → ℕ) (owner : ℕ → Option ℕ) (lists : ℕ → List ℕ) → AreLists next prev owner lists → Linked next prev owner lists
linked_of next prev owner lists are =
    record {
      back = are.back;
      forth = are.forth;
      alone = are.alone;
      chained = λ list. chain_is next (2 * list) (lists list) (next (2 * list)) (are.chained list);
      listed = λ key list is. in_is key (lists list) (are.listed key list is);
      owned = λ key list found. are.owned key list (in_true key (lists list) found);
      apart = λ list. apart_is (lists list) (are.apart list);
    }

pub lists_of : (next prev : ℕ → ℕ) (owner : ℕ → Option ℕ) (lists : ℕ → List ℕ) → Linked next prev owner lists → AreLists next prev owner lists
lists_of next prev owner lists are =
    record {
      back = are.back;
      forth = are.forth;
      alone = are.alone;
      chained = λ list. chain_true next (2 * list) (lists list) (next (2 * list)) (are.chained list);
      listed = λ key list is. in_true key (lists list) (are.listed key list is);
      owned = λ key list found. are.owned key list (in_is key (lists list) found);
      apart = λ list. apart_true (lists list) (are.apart list);
    }

-- ---- a key leaves its list

module _ (next prev : ℕ → ℕ) (owner : ℕ → Option ℕ) (lists : ℕ → List ℕ) (is : Linked next prev owner lists) (key : ℕ) where
  abbrev node : ℕ
  node = 2 * key + 1

  -- the links once the node stands alone
  abbrev pub next_without : ℕ → ℕ
  next_without n = cond (n == node) node (cond (n == prev node) (next node) (next n))

  abbrev pub prev_without : ℕ → ℕ
  prev_without n = cond (n == node) node (cond (n == next node) (prev node) (prev n))

  abbrev pub owner_without : ℕ → Option ℕ
  owner_without k = cond (k == key) None (owner k)

  at_node : next_without node ≡ node
  at_node = cond-true _ _ _ (eq-eqb node node refl)

  abbrev skip : ℕ → ℕ
  skip n = cond (n == node) (next node) n

  -- the links skip the node
  skips : (n : ℕ) → n ≢ node → next_without n ≡ skip (next n)
  skips n differs =
      cond-false (n == node) _ _ (ne_eqb n node differs)
      ∙ elim (cases_eq n (prev node)) [
        | inl same ↦
            let to : next n ≡ node = ap next same ∙ is.forth node in
            cond-true (n == prev node) _ _ (eq-eqb n (prev node) same) ∙ sym (cond-true (next n == node) (next node) (next n) (eq-eqb (next n) node to))
        | inr other ↦
            let past : next n ≢ node = λ to. other (sym (is.back n) ∙ ap prev to) in
            cond-false (n == prev node) _ _ (ne_eqb n (prev node) other) ∙ sym (cond-false (next n == node) (next node) (next n) (ne_eqb (next n) node past))
      ]

  twice : skip (next node) ≡ next node
  twice =
      elim (cases_eq (next node) node) [
        | inl same ↦ cond-true (next node == node) (next node) (next node) (eq-eqb (next node) node same)
        | inr other ↦ cond-false (next node == node) (next node) (next node) (ne_eqb (next node) node other)
      ]

  skipped : (n : ℕ) → n ≢ node → skip n ≡ n
  skipped n differs = cond-false (n == node) (next node) n (ne_eqb n node differs)

  chain_without : (list : ℕ) (keys : List ℕ) (from : ℕ) → Chain next from keys (2 * list) → Chain next_without (skip from) (without key keys) (2 * list)
  chain_without list [] from chain = skipped from (λ same. odd_differs key list (sym same ∙ chain)) ∙ chain
  chain_without list (own ∷ keys) from chain = go (cases_eq own key) (chain_without list keys (next (2 * own + 1)) chain.1)
    where
      go : (own ≡ key) ⊎ (own ≡ key → ⊥) → Chain next_without (skip (next (2 * own + 1))) (without key keys) (2 * list) → Chain next_without (skip from) (without key (own ∷ keys)) (2 * list)
      go (inl same) later =
          let at : from ≡ node = chain.0 ∙ ap (λ k. 2 * k + 1) same in
          let there : skip (next (2 * own + 1)) ≡ skip from =
          ap (λ k. skip (next (2 * k + 1))) same ∙ twice ∙ sym (cond-true (from == node) (next node) from (eq-eqb from node at)) in
          subst (λ ks. Chain next_without (skip from) ks (2 * list)) (sym (without_head key own keys same))
          (subst (λ n. Chain next_without n (without key keys) (2 * list)) there later)
      go (inr differs) later =
          let past : 2 * own + 1 ≢ node = λ same. differs (odd_same own key same) in
          let stays : skip from ≡ 2 * own + 1 = skipped from (λ same. past (sym chain.0 ∙ same)) ∙ chain.0 in
          subst (λ ks. Chain next_without (skip from) ks (2 * list)) (sym (without_past key own keys differs))
          (stays, subst (λ n. Chain next_without n (without key keys) (2 * list)) (sym (skips (2 * own + 1) past)) later)

  pub back_without : prev node ≢ node → (n : ℕ) → prev_without (next_without n) ≡ n
  back_without linked n = go (cases_eq n node) (cases_eq n (prev node))
    where
      go : (n ≡ node) ⊎ (n ≡ node → ⊥) → (n ≡ prev node) ⊎ (n ≡ prev node → ⊥) → prev_without (next_without n) ≡ n
      go (inl same) at =
          ap prev_without (cond-true (n == node) node (cond (n == prev node) (next node) (next n)) (eq-eqb n node same))
          ∙ cond-true (node == node) node (cond (node == next node) (prev node) (prev node)) (eq-eqb node node refl) ∙ sym same
      go (inr other) (inl before) =
          let past : next node ≢ node = λ loop. linked (sym (ap prev loop) ∙ is.back node) in
          ap prev_without
          (cond-false (n == node) node (cond (n == prev node) (next node) (next n)) (ne_eqb n node other) ∙ cond-true (n == prev node) (next node) (next n) (eq-eqb n (prev node) before))
          ∙ cond-false (next node == node) node (cond (next node == next node) (prev node) (prev (next node))) (ne_eqb (next node) node past)
          ∙ cond-true (next node == next node) (prev node) (prev (next node)) (eq-eqb (next node) (next node) refl) ∙ sym before
      go (inr other) (inr differs) =
          let past : next n ≢ node = λ to. differs (sym (is.back n) ∙ ap prev to) in
          let off : next n ≢ next node = λ to. other (sym (is.back n) ∙ ap prev to ∙ is.back node) in
          ap prev_without
          (cond-false (n == node) node (cond (n == prev node) (next node) (next n)) (ne_eqb n node other) ∙ cond-false (n == prev node) (next node) (next n) (ne_eqb n (prev node) differs))
          ∙ cond-false (next n == node) node (cond (next n == next node) (prev node) (prev (next n))) (ne_eqb (next n) node past)
          ∙ cond-false (next n == next node) (prev node) (prev (next n)) (ne_eqb (next n) (next node) off) ∙ is.back n

  pub forth_without : next node ≢ node → (n : ℕ) → next_without (prev_without n) ≡ n
  forth_without linked n = go (cases_eq n node) (cases_eq n (next node))
    where
      go : (n ≡ node) ⊎ (n ≡ node → ⊥) → (n ≡ next node) ⊎ (n ≡ next node → ⊥) → next_without (prev_without n) ≡ n
      go (inl same) at =
          ap next_without (cond-true (n == node) node (cond (n == next node) (prev node) (prev n)) (eq-eqb n node same)) ∙ at_node ∙ sym same
      go (inr other) (inl after) =
          let past : prev node ≢ node = λ loop. linked (sym (ap next loop) ∙ is.forth node) in
          ap next_without
          (cond-false (n == node) node (cond (n == next node) (prev node) (prev n)) (ne_eqb n node other) ∙ cond-true (n == next node) (prev node) (prev n) (eq-eqb n (next node) after))
          ∙ cond-false (prev node == node) node (cond (prev node == prev node) (next node) (next (prev node))) (ne_eqb (prev node) node past)
          ∙ cond-true (prev node == prev node) (next node) (next (prev node)) (eq-eqb (prev node) (prev node) refl) ∙ sym after
      go (inr other) (inr differs) =
          let past : prev n ≢ node = λ to. differs (sym (is.forth n) ∙ ap next to) in
          let off : prev n ≢ prev node = λ to. other (sym (is.forth n) ∙ ap next to ∙ is.forth node) in
          ap next_without
          (cond-false (n == node) node (cond (n == next node) (prev node) (prev n)) (ne_eqb n node other) ∙ cond-false (n == next node) (prev node) (prev n) (ne_eqb n (next node) differs))
          ∙ cond-false (prev n == node) node (cond (prev n == prev node) (next node) (next (prev n))) (ne_eqb (prev n) node past)
          ∙ cond-false (prev n == prev node) (next node) (next (prev n)) (ne_eqb (prev n) (prev node) off) ∙ is.forth n

  -- a key that a list has isn't alone
  apart_node : (list : ℕ) (keys : List ℕ) (from : ℕ) → Chain next from keys (2 * list) → IsIn key keys → next node ≢ node
  apart_node list keys from chain found loop = go keys from chain found
    where
      -- a chain that comes to the node never leaves it
      stuck : (keys : List ℕ) → Chain next node keys (2 * list) → ⊥
      stuck [] chain = odd_differs key list chain
      stuck (own ∷ keys) chain =
          let same : own ≡ key = odd_same own key (sym chain.0) in
          stuck keys (subst (λ n. Chain next n keys (2 * list)) (ap (λ k. next (2 * k + 1)) same ∙ loop) chain.1)

      go : (keys : List ℕ) (from : ℕ) → Chain next from keys (2 * list) → IsIn key keys → ⊥
      go [] from chain found = found
      go (own ∷ keys) from chain found =
          elim found [
            | inl here ↦ stuck keys (subst (λ n. Chain next n keys (2 * list)) (ap (λ k. next (2 * k + 1)) here ∙ loop) chain.1)
            | inr there ↦ go keys (next (2 * own + 1)) chain.1 there
          ]

  owner_at : owner_without key ≡ None
  owner_at = cond-true (key == key) None (owner key) (eq-eqb key key refl)

  owner_past : (k : ℕ) → k ≢ key → owner_without k ≡ owner k
  owner_past k differs = cond-false (k == key) None (owner k) (ne_eqb k key differs)

  pub linked_without : (list : ℕ) → owner key ≡ Some list → Linked next_without prev_without owner_without (λ l. without key (lists l))
  linked_without list owns =
      let moves : next node ≢ node = apart_node list (lists list) (next (2 * list)) (is.chained list) (is.listed key list owns) in
      let moved : prev node ≢ node = λ loop. moves (sym (ap next loop) ∙ is.forth node) in
      record {
        back = back_without moved;
        forth = forth_without moves;
        alone = alone;
        chained = λ l. subst (λ n. Chain next_without n (without key (lists l)) (2 * l)) (sym (skips (2 * l) (λ same. odd_differs key l (sym same)))) (chain_without l (lists l) (next (2 * l)) (is.chained l));
        listed = listed;
        owned = λ k l found. let was = IsIn-without key k (lists l) found in owner_past k was.1 ∙ is.owned k l was.0;
        apart = λ l. IsApart-without key (lists l) (is.apart l);
      }
    where
      alone : (k : ℕ) → owner_without k ≡ None → next_without (2 * k + 1) ≡ 2 * k + 1
      alone k none =
          elim (cases_eq k key) [
            | inl same ↦ subst (λ j. next_without (2 * j + 1) ≡ 2 * j + 1) (sym same) at_node
            | inr differs ↦
                let past : 2 * k + 1 ≢ node = λ same. differs (odd_same k key same) in
                let was = is.alone k (sym (owner_past k differs) ∙ none) in
                skips (2 * k + 1) past ∙ ap skip was ∙ skipped (2 * k + 1) past
          ]

      listed : (k l : ℕ) → owner_without k ≡ Some l → IsIn k (without key (lists l))
      listed k l some =
          elim (cases_eq k key) [
            | inl same ↦ absurd (none-some l (sym owner_at ∙ ap owner_without (sym same) ∙ some))
            | inr differs ↦ IsIn_without key k (lists l) (is.listed k l (sym (owner_past k differs) ∙ some)) differs
          ]

-- ---- a key joins a list as its last

module _ (next prev : ℕ → ℕ) (owner : ℕ → Option ℕ) (lists : ℕ → List ℕ) (is : Linked next prev owner lists) (list key : ℕ) (free : owner key ≡ None) where
  abbrev the_node : ℕ
  the_node = 2 * key + 1

  abbrev head : ℕ
  head = 2 * list

  abbrev pub next_with : ℕ → ℕ
  next_with n = cond (n == the_node) head (cond (n == prev head) the_node (next n))

  abbrev pub prev_with : ℕ → ℕ
  prev_with n = cond (n == head) the_node (cond (n == the_node) (prev head) (prev n))

  abbrev pub owner_with : ℕ → Option ℕ
  owner_with k = cond (k == key) (Some list) (owner k)

  abbrev pub lists_with : ℕ → List ℕ
  lists_with l = cond (l == list) (lists l ++ key ∷ []) (lists l)

  alone : next the_node ≡ the_node
  alone = is.alone key free

  alone_back : prev the_node ≡ the_node
  alone_back = sym (ap prev alone) ∙ is.back the_node

  head_differs : head ≢ the_node
  head_differs same = odd_differs key list (sym same)

  off_list : (l : ℕ) → ¬ IsIn key (lists l)
  off_list l found = none-some l (sym free ∙ is.owned key l found)

  -- whatever led to the head leads to the node
  abbrev into : ℕ → ℕ
  into n = cond (n == head) the_node n

  into_past : (n : ℕ) → n ≢ head → into n ≡ n
  into_past n differs = cond-false (n == head) the_node n (ne_eqb n head differs)

  leads : (n : ℕ) → n ≢ the_node → next_with n ≡ into (next n)
  leads n differs =
      cond-false (n == the_node) head (cond (n == prev head) the_node (next n)) (ne_eqb n the_node differs)
      ∙ elim (cases_eq n (prev head)) [
        | inl same ↦
            let to : next n ≡ head = ap next same ∙ is.forth head in
            cond-true (n == prev head) the_node (next n) (eq-eqb n (prev head) same) ∙ sym (cond-true (next n == head) the_node (next n) (eq-eqb (next n) head to))
        | inr other ↦
            let past : next n ≢ head = λ to. other (sym (is.back n) ∙ ap prev to) in
            cond-false (n == prev head) the_node (next n) (ne_eqb n (prev head) other) ∙ sym (into_past (next n) past)
      ]

  from_node : next_with the_node ≡ head
  from_node = cond-true (the_node == the_node) head (cond (the_node == prev head) the_node (next the_node)) (eq-eqb the_node the_node refl)

  abbrev added : ℕ → List ℕ → List ℕ
  added l keys = cond (l == list) (keys ++ key ∷ []) keys

  added_here : (l : ℕ) (keys : List ℕ) → l ≡ list → added l keys ≡ keys ++ key ∷ []
  added_here l keys same = cond-true (l == list) (keys ++ key ∷ []) keys (eq-eqb l list same)

  added_past : (l : ℕ) (keys : List ℕ) → l ≢ list → added l keys ≡ keys
  added_past l keys differs = cond-false (l == list) (keys ++ key ∷ []) keys (ne_eqb l list differs)

  added_cons : (l own : ℕ) (keys : List ℕ) → added l (own ∷ keys) ≡ own ∷ added l keys
  added_cons l own keys =
      elim (cases_eq l list) [
        | inl same ↦ added_here l (own ∷ keys) same ∙ ap (λ ks. own ∷ ks) (sym (added_here l keys same))
        | inr differs ↦ added_past l (own ∷ keys) differs ∙ ap (λ ks. own ∷ ks) (sym (added_past l keys differs))
      ]

  double_same : (a b : ℕ) → 2 * a ≡ 2 * b → a ≡ b
  double_same a b same = omega arith

  chain_with : (l : ℕ) (keys : List ℕ) (from : ℕ) → Chain next from keys (2 * l) → ¬ IsIn key keys → Chain next_with (into from) (added l keys) (2 * l)
  chain_with l [] from chain off = go (cases_eq l list)
    where
      go : (l ≡ list) ⊎ (l ≡ list → ⊥) → Chain next_with (into from) (added l []) (2 * l)
      go (inl same) =
          let at : from ≡ head = chain ∙ ap (λ k. 2 * k) same in
          subst (λ ks. Chain next_with (into from) ks (2 * l)) (sym (added_here l [] same))
          (cond-true (from == head) the_node from (eq-eqb from head at), from_node ∙ ap (λ k. 2 * k) (sym same))
      go (inr differs) =
          subst (λ ks. Chain next_with (into from) ks (2 * l)) (sym (added_past l [] differs))
          (into_past from (λ at. differs (double_same l list (sym chain ∙ at))) ∙ chain)
  chain_with l (own ∷ keys) from chain off =
      let later = chain_with l keys (next (2 * own + 1)) chain.1 (λ there. off (inr there)) in
      let other : 2 * own + 1 ≢ the_node = λ same. off (inl (odd_same own key same)) in
      subst (λ ks. Chain next_with (into from) ks (2 * l)) (sym (added_cons l own keys)) (
        into_past from (λ at. odd_differs own list (sym chain.0 ∙ at)) ∙ chain.0,
        subst (λ n. Chain next_with n (added l keys) (2 * l)) (sym (leads (2 * own + 1) other)) later,
      )

  back_with : (n : ℕ) → prev_with (next_with n) ≡ n
  back_with n = go (cases_eq n the_node) (cases_eq n (prev head))
    where
      at_head : prev_with head ≡ the_node
      at_head = cond-true (head == head) the_node (cond (head == the_node) (prev head) (prev head)) (eq-eqb head head refl)

      go : (n ≡ the_node) ⊎ (n ≡ the_node → ⊥) → (n ≡ prev head) ⊎ (n ≡ prev head → ⊥) → prev_with (next_with n) ≡ n
      go (inl same) at =
          ap prev_with (cond-true (n == the_node) head (cond (n == prev head) the_node (next n)) (eq-eqb n the_node same)) ∙ at_head ∙ sym same
      go (inr other) (inl last) =
          ap prev_with (cond-false (n == the_node) head (cond (n == prev head) the_node (next n)) (ne_eqb n the_node other) ∙ cond-true (n == prev head) the_node (next n) (eq-eqb n (prev head) last))
          ∙ cond-false (the_node == head) the_node (cond (the_node == the_node) (prev head) (prev the_node)) (ne_eqb the_node head (λ same. head_differs (sym same)))
          ∙ cond-true (the_node == the_node) (prev head) (prev the_node) (eq-eqb the_node the_node refl) ∙ sym last
      go (inr other) (inr differs) =
          let off : next n ≢ head = λ to. differs (sym (is.back n) ∙ ap prev to) in
          let past : next n ≢ the_node = λ to. other (sym (is.back n) ∙ ap prev to ∙ alone_back) in
          ap prev_with (cond-false (n == the_node) head (cond (n == prev head) the_node (next n)) (ne_eqb n the_node other) ∙ cond-false (n == prev head) the_node (next n) (ne_eqb n (prev head) differs))
          ∙ cond-false (next n == head) the_node (cond (next n == the_node) (prev head) (prev (next n))) (ne_eqb (next n) head off)
          ∙ cond-false (next n == the_node) (prev head) (prev (next n)) (ne_eqb (next n) the_node past) ∙ is.back n

  forth_with : (n : ℕ) → next_with (prev_with n) ≡ n
  forth_with n = go (cases_eq n head) (cases_eq n the_node)
    where
      last_differs : prev head ≢ the_node
      last_differs same = head_differs (sym (is.forth head) ∙ ap next same ∙ alone)

      go : (n ≡ head) ⊎ (n ≡ head → ⊥) → (n ≡ the_node) ⊎ (n ≡ the_node → ⊥) → next_with (prev_with n) ≡ n
      go (inl same) at =
          ap next_with (cond-true (n == head) the_node (cond (n == the_node) (prev head) (prev n)) (eq-eqb n head same)) ∙ from_node ∙ sym same
      go (inr other) (inl here) =
          ap next_with (cond-false (n == head) the_node (cond (n == the_node) (prev head) (prev n)) (ne_eqb n head other) ∙ cond-true (n == the_node) (prev head) (prev n) (eq-eqb n the_node here))
          ∙ leads (prev head) last_differs ∙ ap into (is.forth head) ∙ cond-true (head == head) the_node head (eq-eqb head head refl) ∙ sym here
      go (inr other) (inr differs) =
          let past : prev n ≢ the_node = λ to. differs (sym (is.forth n) ∙ ap next to ∙ alone) in
          ap next_with (cond-false (n == head) the_node (cond (n == the_node) (prev head) (prev n)) (ne_eqb n head other) ∙ cond-false (n == the_node) (prev head) (prev n) (ne_eqb n the_node differs))
          ∙ leads (prev n) past ∙ ap into (is.forth n) ∙ into_past n other

  owned_past : (k : ℕ) → k ≢ key → owner_with k ≡ owner k
  owned_past k differs = cond-false (k == key) (Some list) (owner k) (ne_eqb k key differs)

  owned_at : (k : ℕ) → k ≡ key → owner_with k ≡ Some list
  owned_at k same = cond-true (k == key) (Some list) (owner k) (eq-eqb k key same)

  pub linked_with : Linked next_with prev_with owner_with lists_with
  linked_with =
      record {
        back = back_with;
        forth = forth_with;
        alone = stays;
        chained = λ l. subst (λ n. Chain next_with n (lists_with l) (2 * l)) (sym (leads (2 * l) (λ same. odd_differs key l (sym same)))) (chain_with l (lists l) (next (2 * l)) (is.chained l) (off_list l));
        listed = listed;
        owned = owned;
        apart = apart;
      }
    where
      stays : (k : ℕ) → owner_with k ≡ None → next_with (2 * k + 1) ≡ 2 * k + 1
      stays k none =
          elim (cases_eq k key) [
            | inl same ↦ absurd (none-some list (sym none ∙ owned_at k same))
            | inr differs ↦
                let was = is.alone k (sym (owned_past k differs) ∙ none) in
                leads (2 * k + 1) (λ same. differs (odd_same k key same)) ∙ ap into was ∙ into_past (2 * k + 1) (odd_differs k list)
          ]

      listed : (k l : ℕ) → owner_with k ≡ Some l → IsIn k (lists_with l)
      listed k l some =
          elim (cases_eq k key) [
            | inl same ↦
                let here : list ≡ l = same_Some list l (sym (owned_at k same) ∙ some) in
                subst (IsIn k) (sym (added_here l (lists l) (sym here))) (subst (λ j. IsIn k (lists l ++ j ∷ [])) same (IsIn_last k (lists l)))
            | inr differs ↦
                let was = is.listed k l (sym (owned_past k differs) ∙ some) in
                elim (cases_eq l list) [
                  | inl here ↦ subst (IsIn k) (sym (added_here l (lists l) here)) (IsIn_front key k (lists l) was)
                  | inr there ↦ subst (IsIn k) (sym (added_past l (lists l) there)) was
                ]
          ]

      owned : (k l : ℕ) → IsIn k (lists_with l) → owner_with k ≡ Some l
      owned k l found =
          elim (cases_eq l list) [
            | inl here ↦
                elim (IsIn-last key k (lists l) (subst (IsIn k) (added_here l (lists l) here) found)) [
                  | inl front ↦ owned_past k (λ same. off_list l (subst (λ j. IsIn j (lists l)) same front)) ∙ is.owned k l front
                  | inr last ↦ owned_at k (sym last) ∙ ap Some (sym here)
                ]
            | inr there ↦
                let was = subst (IsIn k) (added_past l (lists l) there) found in
                owned_past k (λ same. off_list l (subst (λ j. IsIn j (lists l)) same was)) ∙ is.owned k l was
          ]

      apart : (l : ℕ) → IsApart (lists_with l)
      apart l =
          elim (cases_eq l list) [
            | inl here ↦ subst IsApart (sym (added_here l (lists l) here)) (IsApart-last key (lists l) (is.apart l) (off_list l))
            | inr there ↦ subst IsApart (sym (added_past l (lists l) there)) (is.apart l)
          ]
