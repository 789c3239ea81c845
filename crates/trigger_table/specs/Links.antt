-- A means of proof: lists of numbers that are linked by index. The links of the lists are rings of nodes: list `n` has the head `2 * n`, and key `k` the node
-- `2 * k + 1`.
use Rattle.std.specs.Prelude.{◌≡◌, ℕ, zero, suc, ◌+◌, ◌*◌, ◌/◌, ◌==◌, Bool, false, not, List, [], ◌∷◌, filter, length, Option, None, Some, slice_index_or, ◌⊎◌, if◌then◌else◌, ◌||◌, ◌&&◌, true, slice_get}
use Rattle.std.specs.List.{count_by}

-- ---- lists

-- the number stands in the list
abbrev pub IsIn : ℕ → List ℕ → Type 0
IsIn key [] = ⊥
IsIn key (own ∷ keys) = (own ≡ key) ⊎ IsIn key keys

-- no number stands in the list twice
abbrev pub IsApart : List ℕ → Type 0
IsApart [] = Unit {0}
IsApart (key ∷ keys) = (¬ IsIn key keys) × IsApart keys

-- the list without this number
abbrev pub without : ℕ → List ℕ → List ℕ
without key keys = filter (λ own. not (own == key)) keys

-- the number that stands next behind this one
abbrev pub behind : ℕ → List ℕ → Option ℕ
behind key [] = None
behind key (own ∷ keys) = if own == key then slice_get keys 0 else behind key keys

-- ---- links

-- the node that a link leads to: one beyond the last stands alone
abbrev pub step : List ℕ → ℕ → ℕ
step links node = slice_index_or links node node

abbrev pub owner_in : List (Option ℕ) → ℕ → Option ℕ
owner_in owners key = slice_index_or owners key None

-- it is this list
abbrev pub is_list : ℕ → Option ℕ → Bool
is_list list None = false
is_list list (Some own) = own == list

-- the keys of so many nodes from this one on
abbrev pub walk : (ℕ → ℕ) → ℕ → ℕ → List ℕ
walk next zero node = []
walk next (suc more) node = node / 2 ∷ walk next more (next node)

-- the keys of a list: as many nodes behind its head as there are keys that it owns
unfoldable pub keys_in : List ℕ → List (Option ℕ) → ℕ → List ℕ
keys_in next owners list = walk (step next) (count_by (is_list list) owners) (step next (2 * list))

-- from one node the links lead over the nodes of these keys to another node
abbrev pub Chain : (ℕ → ℕ) → ℕ → List ℕ → ℕ → Type 0
Chain next from [] to = from ≡ to
Chain next from (key ∷ keys) to = (from ≡ 2 * key + 1) × Chain next (next (2 * key + 1)) keys to

-- ---- tests

abbrev pub is_in : ℕ → List ℕ → Bool
is_in key [] = false
is_in key (own ∷ keys) = own == key || is_in key keys

abbrev pub is_apart : List ℕ → Bool
is_apart [] = true
is_apart (key ∷ keys) = not (is_in key keys) && is_apart keys

abbrev pub is_chain : (ℕ → ℕ) → ℕ → List ℕ → ℕ → Bool
is_chain next from [] to = from == to
is_chain next from (key ∷ keys) to = from == 2 * key + 1 && is_chain next (next (2 * key + 1)) keys to

-- Links in both directions, and who owns each key, are those of lists.
pub record AreLists (next prev : ℕ → ℕ) (owner : ℕ → Option ℕ) (lists : ℕ → List ℕ) : Type 0 where
  pub back : (node : ℕ) → prev (next node) ≡ node
  pub forth : (node : ℕ) → next (prev node) ≡ node
  pub alone : (key : ℕ) → owner key ≡ None → next (2 * key + 1) ≡ 2 * key + 1
  pub chained : (list : ℕ) → is_chain next (next (2 * list)) (lists list) (2 * list) ≡ true
  pub listed : (key list : ℕ) → owner key ≡ Some list → is_in key (lists list) ≡ true
  pub owned : (key list : ℕ) → is_in key (lists list) ≡ true → owner key ≡ Some list
  pub apart : (list : ℕ) → is_apart (lists list) ≡ true

-- there are two links for each key, a head's and a node's, and they are those of lists
pub record IsLinked (next prev : List ℕ) (owners : List (Option ℕ)) : Type 0 where
  pub next_count : length next ≡ 2 * length owners
  pub prev_count : length prev ≡ 2 * length owners
  pub lists : AreLists (step next) (step prev) (owner_in owners) (keys_in next owners)
