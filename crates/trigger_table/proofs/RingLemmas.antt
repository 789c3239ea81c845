-- What a write to the links makes of the lists.
use Rattle.std.proofs.Common.{◌≡◌, ◌≢◌, ◌⊎◌, ℕ, zero, suc, ◌+◌, ◌*◌, ◌/◌, ◌%◌, ◌<◌, ◌≤◌, ◌==◌, Bool, cond, List, [], ◌∷◌, ◌++◌, length, Option, None, Some, slice_get, get_or, set, refl, sym, ap, ◌∙◌, subst, inl, inr, arith, eq-eqb, ne_eqb}
use Rattle.std.specs.List.{count_by}
use Rattle.std.proofs.lemmas.Bool.{cases_eq, cases_lt, cond-true, cond-false}
use Rattle.std.proofs.lemmas.Option.{none-some, same_Some}
use Rattle.std.proofs.lemmas.List.{get_or-set_same, get_or-set_other, length-set, get_or_append_left, get_or_past, length-append}
use Rattle.std.proofs.Math.Seq.{get_or-append_seam}
use Rattle.trigger_table.specs.Links.{IsIn, IsApart, without, behind, step, owner_in, is_list, keys_in, walk, Chain, IsLinked}
use Rattle.std.proofs.Common.{IfSome, add_comm}
use Rattle.std.proofs.lemmas.List.Sums.{sum_by-cons}
use Rattle.trigger_table.specs.Rings.{IsTidy}
use Rattle.trigger_table.specs.declared.rings.Rings.{Rings}
use Rattle.trigger_table.proofs.LinkLemmas.{chain_front, chain_behind, behind_in, first_in, Linked, linked_of, lists_of, walk_chain, length-walk, without_absent, length-without, next_without, prev_without, owner_without, linked_without, next_with, prev_with, owner_with, lists_with, linked_with}

-- ---- links that agree

chain_on : (f g : ℕ → ℕ) (same : (n : ℕ) → g n ≡ f n) (to : ℕ) (keys : List ℕ) (from from' : ℕ) → from' ≡ from → Chain f from keys to → Chain g from' keys to
chain_on f g same to [] from from' at chain = at ∙ chain
chain_on f g same to (key ∷ keys) from from' at chain = (at ∙ chain.0, chain_on f g same to keys (f (2 * key + 1)) (g (2 * key + 1)) (same (2 * key + 1)) chain.1)

pub linked_on : (next next' prev prev' : ℕ → ℕ) (owner owner' : ℕ → Option ℕ) (lists lists' : ℕ → List ℕ) → ((n : ℕ) → next' n ≡ next n) → ((n : ℕ) → prev' n ≡ prev n) → ((k : ℕ) → owner' k ≡ owner k) → ((l : ℕ) → lists' l ≡ lists l) → Linked next prev owner lists → Linked next' prev' owner' lists'
linked_on next next' prev prev' owner owner' lists lists' nexts prevs owners same is =
    record {
      back = λ n. ap prev' (nexts n) ∙ prevs (next n) ∙ is.back n;
      forth = λ n. ap next' (prevs n) ∙ nexts (prev n) ∙ is.forth n;
      alone = λ k none. nexts (2 * k + 1) ∙ is.alone k (sym (owners k) ∙ none);
      chained = λ l. subst (λ ks. Chain next' (next' (2 * l)) ks (2 * l)) (sym (same l)) (chain_on next next' nexts (2 * l) (lists l) (next (2 * l)) (next' (2 * l)) (nexts (2 * l)) (is.chained l));
      listed = λ k l some. subst (IsIn k) (sym (same l)) (is.listed k l (sym (owners k) ∙ some));
      owned = λ k l found. owners k ∙ is.owned k l (subst (IsIn k) (same l) found);
      apart = λ l. subst IsApart (sym (same l)) (is.apart l);
    }

-- ---- lists that are as long as they are owned

pub keys_are : (next : List ℕ) (owners : List (Option ℕ)) (list : ℕ) (keys : List ℕ) → Chain (step next) (step next (2 * list)) keys (2 * list) → length keys ≡ count_by (is_list list) owners → keys_in next owners list ≡ keys
unfolding keys_in
keys_are next owners list keys chain count =
    ap (λ n. walk (step next) n (step next (2 * list))) (sym count) ∙ walk_chain (step next) (step next (2 * list)) (2 * list) keys chain

pub length-keys : (next : List ℕ) (owners : List (Option ℕ)) (list : ℕ) → length (keys_in next owners list) ≡ count_by (is_list list) owners
unfolding keys_in
length-keys next owners list = length-walk (step next) (count_by (is_list list) owners) (step next (2 * list))

-- what a change comes to, where it gives these lists
pub record Becomes (next prev : List ℕ) (owners : List (Option ℕ)) (lists : ℕ → List ℕ) : Type 0 where
  pub linked : IsLinked next prev owners
  pub keys : (list : ℕ) → keys_in next owners list ≡ lists list

pub becomes : (next prev : List ℕ) (owners : List (Option ℕ)) (lists : ℕ → List ℕ) → length next ≡ 2 * length owners → length prev ≡ 2 * length owners → Linked (step next) (step prev) (owner_in owners) lists → ((list : ℕ) → length (lists list) ≡ count_by (is_list list) owners) → Becomes next prev owners lists
becomes next prev owners lists nexts prevs is counts =
    let keys : (list : ℕ) → keys_in next owners list ≡ lists list = λ list. keys_are next owners list (lists list) (is.chained list) (counts list) in
    record {
      linked = record {
        next_count = nexts;
        prev_count = prevs;
        lists = lists_of (step next) (step prev) (owner_in owners) (keys_in next owners) (linked_on (step next) (step next) (step prev) (step prev) (owner_in owners) (owner_in owners) lists (keys_in next owners) (λ n. refl) (λ n. refl) (λ k. refl) keys is);
      };
      keys = keys;
    }

pub linked_in : (next prev : List ℕ) (owners : List (Option ℕ)) → IsLinked next prev owners → Linked (step next) (step prev) (owner_in owners) (keys_in next owners)
linked_in next prev owners is = linked_of (step next) (step prev) (owner_in owners) (keys_in next owners) is.lists

-- ---- writes

step_set : (links : List ℕ) (at to n : ℕ) → at < length links → step (set links at to) n ≡ cond (n == at) to (step links n)
step_set links at to n within =
    elim (cases_eq n at) [
      | inl same ↦ subst (λ k. step (set links k to) n ≡ to) same (get_or-set_same links n to n (subst (λ k. k < length links) (sym same) within)) ∙ sym (cond-true (n == at) to (step links n) (eq-eqb n at same))
      | inr differs ↦ get_or-set_other links at n to n differs ∙ sym (cond-false (n == at) to (step links n) (ne_eqb n at differs))
    ]

pub owner_set : (owners : List (Option ℕ)) (at : ℕ) (to : Option ℕ) (n : ℕ) → at < length owners → owner_in (set owners at to) n ≡ cond (n == at) to (owner_in owners n)
owner_set owners at to n within =
    elim (cases_eq n at) [
      | inl same ↦ subst (λ k. owner_in (set owners k to) n ≡ to) same (get_or-set_same owners n to None (subst (λ k. k < length owners) (sym same) within)) ∙ sym (cond-true (n == at) to (owner_in owners n) (eq-eqb n at same))
      | inr differs ↦ get_or-set_other owners at n to None differs ∙ sym (cond-false (n == at) to (owner_in owners n) (ne_eqb n at differs))
    ]

abbrev one_if : Bool → ℕ
one_if b = cond b 1 0

count_cons : (p : Option ℕ → Bool) (x : Option ℕ) (xs : List (Option ℕ)) → count_by p (x ∷ xs) ≡ count_by p xs + one_if (p x)
count_cons p x xs = sum_by-cons (λ y. cond (p y) 1 0) x xs ∙ add_comm (cond (p x) 1 0) (count_by p xs)

count_set : (p : Option ℕ → Bool) (xs : List (Option ℕ)) (i : ℕ) (y : Option ℕ) → i < length xs → count_by p (set xs i y) + one_if (p (get_or xs i None)) ≡ count_by p xs + one_if (p y)
count_set p [] i y within = absurd (omega arith)
count_set p (x ∷ xs) zero y within = omega (arith, count_cons p x xs, count_cons p y xs)
count_set p (x ∷ xs) (suc i) y within = omega (arith, count_cons p x xs, count_cons p x (set xs i y), count_set p xs i y (omega arith))

step_past : (links : List ℕ) (n : ℕ) → length links ≤ n → step links n ≡ n
step_past links n past = get_or_past links n n past

-- a link leads to a node that there is
pub link_within : (next prev : List ℕ) (n : ℕ) → length prev ≡ length next → ((k : ℕ) → step prev (step next k) ≡ k) → n < length next → step next n < length next
link_within next prev n same back within =
    elim (cases_lt (step next n) (length next)) [
      | inl below ↦ below
      | inr past ↦ absurd (let stays : step prev (step next n) ≡ step next n = step_past prev (step next n) (omega (arith, past, same)) in omega (arith, stays, back n, past, within))
    ]

-- ---- a key leaves

module _ (next prev : List ℕ) (owners : List (Option ℕ)) (is : IsLinked next prev owners) (key list : ℕ) (owns : owner_in owners key ≡ Some list) where
  abbrev it : ℕ
  it = 2 * key + 1

  linked : Linked (step next) (step prev) (owner_in owners) (keys_in next owners)
  linked = linked_in next prev owners is

  pub key_within : key < length owners
  key_within =
      elim (cases_lt key (length owners)) [
        | inl below ↦ below
        | inr past ↦ absurd (none-some list (sym (get_or_past owners key None past) ∙ owns))
      ]

  pub node_within : it < length next
  node_within = omega (arith, key_within, is.next_count)

  pub after_within : step next it < length next
  after_within = link_within next prev it (omega (arith, is.next_count, is.prev_count)) is.lists.back node_within

  pub before_within : step prev it < length next
  before_within =
      let within : step prev it < length prev = link_within prev next it (omega (arith, is.next_count, is.prev_count)) is.lists.forth (omega (arith, node_within, is.next_count, is.prev_count)) in
      omega (arith, within, is.next_count, is.prev_count)

  abbrev next_out : List ℕ
  next_out = set (set next (step prev it) (step next it)) it it

  abbrev prev_out : List ℕ
  prev_out = set (set prev (step next it) (step prev it)) it it

  nexts_out : (n : ℕ) → step next_out n ≡ next_without (step next) (step prev) (owner_in owners) (keys_in next owners) linked key n
  nexts_out n =
      step_set (set next (step prev it) (step next it)) it it n (rw (length-set next (step prev it) (step next it)) node_within)
      ∙ ap (cond (n == it) it) (step_set next (step prev it) (step next it) n before_within)

  prevs_out : (n : ℕ) → step prev_out n ≡ prev_without (step next) (step prev) (owner_in owners) (keys_in next owners) linked key n
  prevs_out n =
      step_set (set prev (step next it) (step prev it)) it it n (rw (length-set prev (step next it) (step prev it)) (omega (arith, node_within, is.next_count, is.prev_count)))
      ∙ ap (cond (n == it) it) (step_set prev (step next it) (step prev it) n (omega (arith, after_within, is.next_count, is.prev_count)))

  counts_out : (l : ℕ) → length (without key (keys_in next owners l)) ≡ count_by (is_list l) (set owners key None)
  counts_out l = go (cases_eq list l)
    where
      before : count_by (is_list l) (set owners key None) + one_if (is_list l (Some list)) ≡ count_by (is_list l) owners
      before = omega (arith, subst (λ o. count_by (is_list l) (set owners key None) + one_if (is_list l o) ≡ count_by (is_list l) owners + one_if (is_list l None)) owns (count_set (is_list l) owners key None key_within))

      all : length (keys_in next owners l) ≡ count_by (is_list l) owners
      all = length-keys next owners l

      go : (list ≡ l) ⊎ (list ≡ l → ⊥) → length (without key (keys_in next owners l)) ≡ count_by (is_list l) (set owners key None)
      go (inl same) =
          let shorter = length-without key (keys_in next owners l) (linked.listed key l (owns ∙ ap Some same)) (linked.apart l) in
          let one : one_if (list == l) ≡ 1 = ap one_if (eq-eqb list l same) in
          omega (arith, before, all, shorter, one)
      go (inr differs) =
          let as_long = ap length (without_absent key (keys_in next owners l) (λ found. differs (same_Some list l (sym owns ∙ linked.owned key l found)))) in
          let none : one_if (list == l) ≡ 0 = ap one_if (ne_eqb list l differs) in
          omega (arith, before, all, as_long, none)

  pub goes_out : Becomes next_out prev_out (set owners key None) (λ l. without key (keys_in next owners l))
  goes_out =
      becomes next_out prev_out (set owners key None) (λ l. without key (keys_in next owners l))
      (simp length-set is.next_count) (simp length-set is.prev_count)
      (linked_on _ _ _ _ (owner_without (step next) (step prev) (owner_in owners) (keys_in next owners) linked key) _ (λ l. without key (keys_in next owners l)) _ nexts_out prevs_out (λ k. owner_set owners key None k key_within) (λ l. refl)
      (linked_without (step next) (step prev) (owner_in owners) (keys_in next owners) linked key list owns))
      counts_out

-- ---- a key joins

module _ (next prev : List ℕ) (owners : List (Option ℕ)) (is : IsLinked next prev owners) (list key : ℕ) (free : owner_in owners key ≡ None) (list_in : list < length owners) (key_in : key < length owners) where
  abbrev own_node : ℕ
  own_node = 2 * key + 1

  abbrev own_head : ℕ
  own_head = 2 * list

  pub all_linked : Linked (step next) (step prev) (owner_in owners) (keys_in next owners)
  all_linked = linked_in next prev owners is

  pub last_within : step prev own_head < length next
  last_within =
      let within : step prev own_head < length prev = link_within prev next own_head (omega (arith, is.next_count, is.prev_count)) is.lists.forth (omega (arith, list_in, is.prev_count)) in
      omega (arith, within, is.next_count, is.prev_count)

  abbrev next_in : List ℕ
  next_in = set (set next (step prev own_head) own_node) own_node own_head

  abbrev prev_in : List ℕ
  prev_in = set (set prev own_node (step prev own_head)) own_head own_node

  nexts_in : (n : ℕ) → step next_in n ≡ next_with (step next) (step prev) (owner_in owners) (keys_in next owners) all_linked list key free n
  nexts_in n =
      step_set (set next (step prev own_head) own_node) own_node own_head n (rw (length-set next (step prev own_head) own_node) (omega (arith, key_in, is.next_count)))
      ∙ ap (cond (n == own_node) own_head) (step_set next (step prev own_head) own_node n last_within)

  prevs_in : (n : ℕ) → step prev_in n ≡ prev_with (step next) (step prev) (owner_in owners) (keys_in next owners) all_linked list key free n
  prevs_in n =
      step_set (set prev own_node (step prev own_head)) own_head own_node n (rw (length-set prev own_node (step prev own_head)) (omega (arith, list_in, is.prev_count)))
      ∙ ap (cond (n == own_head) own_node) (step_set prev own_node (step prev own_head) n (omega (arith, key_in, is.prev_count)))

  abbrev lists_in : ℕ → List ℕ
  lists_in = lists_with (step next) (step prev) (owner_in owners) (keys_in next owners) all_linked list key free

  pub list_here : lists_in list ≡ keys_in next owners list ++ key ∷ []
  list_here = cond-true (list == list) (keys_in next owners list ++ key ∷ []) (keys_in next owners list) (eq-eqb list list refl)

  pub list_past : (l : ℕ) → l ≢ list → lists_in l ≡ keys_in next owners l
  list_past l differs = cond-false (l == list) (keys_in next owners l ++ key ∷ []) (keys_in next owners l) (ne_eqb l list differs)

  counts_in : (l : ℕ) → length (lists_in l) ≡ count_by (is_list l) (set owners key (Some list))
  counts_in l = go (cases_eq l list)
    where
      after : count_by (is_list l) (set owners key (Some list)) ≡ count_by (is_list l) owners + one_if (is_list l (Some list))
      after = omega (arith, subst (λ o. count_by (is_list l) (set owners key (Some list)) + one_if (is_list l o) ≡ count_by (is_list l) owners + one_if (is_list l (Some list))) free (count_set (is_list l) owners key (Some list) key_in))

      all : length (keys_in next owners l) ≡ count_by (is_list l) owners
      all = length-keys next owners l

      go : (l ≡ list) ⊎ (l ≡ list → ⊥) → length (lists_in l) ≡ count_by (is_list l) (set owners key (Some list))
      go (inl same) =
          let longer = ap length (cond-true (l == list) (keys_in next owners l ++ key ∷ []) (keys_in next owners l) (eq-eqb l list same)) in
          let one : one_if (list == l) ≡ 1 = ap one_if (eq-eqb list l (sym same)) in
          omega (arith, after, all, longer, one, length-append (keys_in next owners l) (key ∷ []))
      go (inr differs) =
          let as_long = ap length (list_past l differs) in
          let none : one_if (list == l) ≡ 0 = ap one_if (ne_eqb list l (λ same. differs (sym same))) in
          omega (arith, after, all, as_long, none)

  pub comes_in : Becomes next_in prev_in (set owners key (Some list)) lists_in
  comes_in =
      becomes next_in prev_in (set owners key (Some list)) lists_in
      (simp length-set is.next_count) (simp length-set is.prev_count)
      (linked_on _ _ _ _ (owner_with (step next) (step prev) (owner_in owners) (keys_in next owners) all_linked list key free) _ lists_in _ nexts_in prevs_in (λ k. owner_set owners key (Some list) k key_in) (λ l. refl)
      (linked_with (step next) (step prev) (owner_in owners) (keys_in next owners) all_linked list key free))
      counts_in

-- ---- room for one more

step_push : (links : List ℕ) (n : ℕ) → step (links ++ length links ∷ []) n ≡ step links n
step_push links n =
    elim (cases_lt n (length links)) [
      | inl below ↦ get_or_append_left links (length links ∷ []) n n below
      | inr past ↦ go past (cases_eq n (length links)) ∙ sym (step_past links n past)
    ]
  where
    go : length links ≤ n → (n ≡ length links) ⊎ (n ≡ length links → ⊥) → step (links ++ length links ∷ []) n ≡ n
    go past (inl same) = subst (λ k. step (links ++ length links ∷ []) k ≡ k) (sym same) (get_or-append_seam links (length links) [] (length links))
    go past (inr differs) = get_or_past (links ++ length links ∷ []) n n (omega (arith, length-append links (length links ∷ [])))

-- two more nodes, each of which stands alone
steps_push : (links : List ℕ) (n first second : ℕ) → first ≡ length links → second ≡ length links + 1 → step ((links ++ first ∷ []) ++ second ∷ []) n ≡ step links n
steps_push links n first second at next =
    let longer : second ≡ length (links ++ first ∷ []) = omega (arith, length-append links (first ∷ []), next) in
    ap (λ k. step ((links ++ first ∷ []) ++ k ∷ []) n) longer ∙ step_push (links ++ first ∷ []) n
    ∙ ap (λ k. step (links ++ k ∷ []) n) at ∙ step_push links n

owner_push : (owners : List (Option ℕ)) (k : ℕ) → owner_in (owners ++ None ∷ []) k ≡ owner_in owners k
owner_push [] zero = refl
owner_push [] (suc k) = refl
owner_push (o ∷ owners) zero = refl
owner_push (o ∷ owners) (suc k) = owner_push owners k

count_push : (list : ℕ) (owners : List (Option ℕ)) → count_by (is_list list) (owners ++ None ∷ []) ≡ count_by (is_list list) owners
count_push list [] = refl
count_push list (o ∷ owners) = omega (arith, count_cons (is_list list) o (owners ++ None ∷ []), count_cons (is_list list) o owners, count_push list owners)

pub grown : (next prev : List ℕ) (owners : List (Option ℕ)) (first second : ℕ) → IsLinked next prev owners → first ≡ length next → second ≡ length next + 1 → Becomes ((next ++ first ∷ []) ++ second ∷ []) ((prev ++ first ∷ []) ++ second ∷ []) (owners ++ None ∷ []) (keys_in next owners)
grown next prev owners first second is at after =
    becomes ((next ++ first ∷ []) ++ second ∷ []) ((prev ++ first ∷ []) ++ second ∷ []) (owners ++ None ∷ []) (keys_in next owners)
    (simp length-append (omega (arith, is.next_count))) (simp length-append (omega (arith, is.prev_count)))
    (linked_on (step next) _ (step prev) _ (owner_in owners) _ (keys_in next owners) _ (λ n. steps_push next n first second at after)
    (λ n. steps_push prev n first second (omega (arith, at, is.next_count, is.prev_count)) (omega (arith, after, is.next_count, is.prev_count))) (λ k. owner_push owners k) (λ l. refl)
    (linked_in next prev owners is))
    (λ l. length-keys next owners l ∙ sym (count_push l owners))

-- ---- what the calls read and write

get_or_any : (links : List ℕ) (i d e : ℕ) → i < length links → get_or links i d ≡ get_or links i e
get_or_any [] i d e within = absurd (omega arith)
get_or_any (x ∷ links) zero d e within = refl
get_or_any (x ∷ links) (suc i) d e within = get_or_any links i d e (omega arith)

pub read_step : (links : List ℕ) (i read : ℕ) → read ≡ get_or links i read → i < length links → read ≡ step links i
read_step links i read is within = is ∙ get_or_any links i read i within

module _ (next prev : List ℕ) (owners : List (Option ℕ)) (is : IsLinked next prev owners) (key list before after : ℕ) (owns : owner_in owners key ≡ Some list) (is_before : before ≡ get_or prev (2 * key + 1) before) (is_after : after ≡ get_or next (2 * key + 1) after) where
  read_before : before ≡ step prev (2 * key + 1)
  read_before = read_step prev (2 * key + 1) before is_before (omega (arith, node_within next prev owners is key list owns, is.next_count, is.prev_count))

  read_after : after ≡ step next (2 * key + 1)
  read_after = read_step next (2 * key + 1) after is_after (node_within next prev owners is key list owns)

  pub before_below : before < length next
  before_below = subst (λ n. n < length next) (sym read_before) (before_within next prev owners is key list owns)

  pub after_below : after < length prev
  after_below = subst (λ n. n < length prev) (sym read_after) (omega (arith, after_within next prev owners is key list owns, is.next_count, is.prev_count))

  pub key_out : Becomes (set (set next before after) (2 * key + 1) (2 * key + 1)) (set (set prev after before) (2 * key + 1) (2 * key + 1)) (set owners key None) (λ l. without key (keys_in next owners l))
  key_out =
      subst (λ n. Becomes (set (set next n after) (2 * key + 1) (2 * key + 1)) (set (set prev after n) (2 * key + 1) (2 * key + 1)) (set owners key None) (λ l. without key (keys_in next owners l))) (sym read_before)
      (subst (λ n. Becomes (set (set next (step prev (2 * key + 1)) n) (2 * key + 1) (2 * key + 1)) (set (set prev n (step prev (2 * key + 1))) (2 * key + 1) (2 * key + 1)) (set owners key None) (λ l. without key (keys_in next owners l))) (sym read_after)
      (goes_out next prev owners is key list owns))

pub nobody_goes : (next prev : List ℕ) (owners : List (Option ℕ)) → IsLinked next prev owners → (key : ℕ) → owner_in owners key ≡ None → (l : ℕ) → keys_in next owners l ≡ without key (keys_in next owners l)
nobody_goes next prev owners is key free l =
    sym (without_absent key (keys_in next owners l) (λ found. none-some l (sym free ∙ (linked_in next prev owners is).owned key l found)))

module _ (next prev : List ℕ) (owners : List (Option ℕ)) (is : IsLinked next prev owners) (list key last : ℕ) (free : owner_in owners key ≡ None) (list_in : list < length owners) (key_in : key < length owners) (is_last : last ≡ get_or prev (2 * list) last) where
  read_last : last ≡ step prev (2 * list)
  read_last = read_step prev (2 * list) last is_last (omega (arith, list_in, is.prev_count))

  pub last_below : last < length next
  last_below = subst (λ n. n < length next) (sym read_last) (last_within next prev owners is list key free list_in key_in)

  abbrev with_key : ℕ → List ℕ
  with_key = lists_with (step next) (step prev) (owner_in owners) (keys_in next owners) (all_linked next prev owners is list key free list_in key_in) list key free

  joined : Becomes (set (set next last (2 * key + 1)) (2 * key + 1) (2 * list)) (set (set prev (2 * key + 1) last) (2 * list) (2 * key + 1)) (set owners key (Some list)) with_key
  joined =
      subst (λ n. Becomes (set (set next n (2 * key + 1)) (2 * key + 1) (2 * list)) (set (set prev (2 * key + 1) n) (2 * list) (2 * key + 1)) (set owners key (Some list)) with_key) (sym read_last)
      (comes_in next prev owners is list key free list_in key_in)

  pub key_in_linked : IsLinked (set (set next last (2 * key + 1)) (2 * key + 1) (2 * list)) (set (set prev (2 * key + 1) last) (2 * list) (2 * key + 1)) (set owners key (Some list))
  key_in_linked = joined.linked

  pub key_in_here : keys_in (set (set next last (2 * key + 1)) (2 * key + 1) (2 * list)) (set owners key (Some list)) list ≡ keys_in next owners list ++ key ∷ []
  key_in_here = joined.keys list ∙ list_here next prev owners is list key free list_in key_in

  pub key_in_past : (l : ℕ) → l ≢ list → keys_in (set (set next last (2 * key + 1)) (2 * key + 1) (2 * list)) (set owners key (Some list)) l ≡ keys_in next owners l
  key_in_past l differs = joined.keys l ∙ list_past next prev owners is list key free list_in key_in l differs

-- ---- what the calls answer

abbrev key_of : ℕ → Option ℕ
key_of node = cond (node % 2 == 0) None (Some (node / 2))

pub front_is : (next prev : List ℕ) (owners : List (Option ℕ)) → IsLinked next prev owners → (list read : ℕ) → list < length owners → read ≡ get_or next (2 * list) read → cond (read % 2 == 0) None (Some (read / 2)) ≡ slice_get (keys_in next owners list) 0
front_is next prev owners is list read within reads =
    let at : read ≡ step next (2 * list) = read_step next (2 * list) read reads (omega (arith, within, is.next_count)) in
    ap key_of at ∙ chain_front (step next) (step next (2 * list)) list (keys_in next owners list) ((linked_in next prev owners is).chained list)

pub behind_is : (next prev : List ℕ) (owners : List (Option ℕ)) → IsLinked next prev owners → (list key read : ℕ) → owner_in owners key ≡ Some list → read ≡ get_or next (2 * key + 1) read → cond (read % 2 == 0) None (Some (read / 2)) ≡ behind key (keys_in next owners list)
behind_is next prev owners is list key read owns reads =
    let at : read ≡ step next (2 * key + 1) = read_step next (2 * key + 1) read reads (node_within next prev owners is key list owns) in
    ap key_of at
    ∙ chain_behind (step next) list key (keys_in next owners list) (step next (2 * list)) ((linked_in next prev owners is).chained list) ((linked_in next prev owners is).listed key list owns)

pub none_beyond : (next prev : List ℕ) (owners : List (Option ℕ)) → IsLinked next prev owners → (list : ℕ) → length owners ≤ list → keys_in next owners list ≡ []
none_beyond next prev owners is list past = go (keys_in next owners list) ((linked_in next prev owners is).chained list)
  where
    alone : step next (2 * list) ≡ 2 * list
    alone = step_past next (2 * list) (omega (arith, past, is.next_count))

    go : (keys : List ℕ) → Chain (step next) (step next (2 * list)) keys (2 * list) → keys ≡ []
    go [] chain = refl
    go (key ∷ keys) chain = absurd (let e : 2 * list ≡ 2 * key + 1 = sym alone ∙ chain.0 in omega arith)

pub first_member : (next prev : List ℕ) (owners : List (Option ℕ)) → IsLinked next prev owners → (list : ℕ) (answer : Option ℕ) → answer ≡ slice_get (keys_in next owners list) 0 → IfSome answer (λ key. owner_in owners key ≡ Some list)
first_member next prev owners is list None same = tt
first_member next prev owners is list (Some key) same = (linked_in next prev owners is).owned key list (first_in (keys_in next owners list) key (sym same))

pub next_member : (next prev : List ℕ) (owners : List (Option ℕ)) → IsLinked next prev owners → (list key : ℕ) (answer : Option ℕ) → answer ≡ behind key (keys_in next owners list) → IfSome answer (λ other. owner_in owners other ≡ Some list)
next_member next prev owners is list key None same = tt
next_member next prev owners is list key (Some other) same = (linked_in next prev owners is).owned other list (behind_in key (keys_in next owners list) other (sym same))

pub no_keys : (next : List ℕ) (owners : List (Option ℕ)) (list : ℕ) → owners ≡ [] → keys_in next owners list ≡ []
unfolding keys_in
no_keys next owners list none = ap (λ os. walk (step next) (count_by (is_list list) os) (step next (2 * list))) none

pub nothing_linked : IsLinked [] [] []
nothing_linked = (becomes [] [] [] (λ l. []) refl refl (record {
  back = λ n. refl;
  forth = λ n. refl;
  alone = λ k none. refl;
  chained = λ l. refl;
  listed = λ k l some. absurd (none-some l some);
  owned = λ k l found. absurd found;
  apart = λ l. tt;
}) (λ l. refl)).linked

pub grown_by : (next prev next' prev' : List ℕ) (owners owners' : List (Option ℕ)) (first : ℕ) → IsLinked next prev owners → first ≡ length next → next' ≡ (next ++ first ∷ []) ++ (first + 1) ∷ [] → prev' ≡ (prev ++ first ∷ []) ++ (first + 1) ∷ [] → owners' ≡ owners ++ None ∷ [] → Becomes next' prev' owners' (keys_in next owners)
grown_by next prev next' prev' owners owners' first is at nexts prevs owns = rw (nexts, prevs, owns) (grown next prev owners first (first + 1) is at (ap (λ n. n + 1) at))

pub owners_stay : (owners owners' : List (Option ℕ)) → owners' ≡ owners ++ None ∷ [] → (k : ℕ) → owner_in owners' k ≡ owner_in owners k
owners_stay owners owners' owns k = ap (λ os. owner_in os k) owns ∙ owner_push owners k

-- what is true of all lists
pub tidy : (rings : Rings) → IsTidy rings
tidy rings =
    let is = linked_in rings.next.items rings.prev.items rings.owners.items rings.linked in
    record { listed = is.listed; owned = is.owned; apart = is.apart }
