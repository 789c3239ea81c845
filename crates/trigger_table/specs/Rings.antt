-- A means of proof: what contracts say of `Rings`: which keys its lists have, and which list has a key.
use Rattle.std.specs.Prelude.{◌≡◌, ◌≢◌, ℕ, List, length, Option, Some}
use Rattle.trigger_table.specs.Links.{IsIn, IsApart, keys_in, owner_in}
use Rattle.trigger_table.specs.declared.rings.Rings.{Rings}

-- the keys of a list, in order
abbrev pub items : Rings → ℕ → List ℕ
items rings list = keys_in rings.next.items rings.owners.items list

-- the list that a key is in
abbrev pub list_of : Rings → ℕ → Option ℕ
list_of rings key = owner_in rings.owners.items key

-- there is room for lists and keys below this number
abbrev pub key_limit : Rings → ℕ
key_limit rings = length rings.owners.items

pub record SameLists (old new : Rings) : Type 0 where
  pub lists : (list : ℕ) → items new list ≡ items old list
  pub keys : (key : ℕ) → list_of new key ≡ list_of old key

-- the key is in this list now, or in none, and each other one where it was
pub record Moves (old new : Rings) (key : ℕ) (list : Option ℕ) : Type 0 where
  pub moved : list_of new key ≡ list
  pub others : (other : ℕ) → other ≢ key → list_of new other ≡ list_of old other
  pub limit : key_limit new ≡ key_limit old

-- what is true of all lists: a key stands in the list that has it, once, and in no other
pub record IsTidy (rings : Rings) : Type 0 where
  pub listed : (key list : ℕ) → list_of rings key ≡ Some list → IsIn key (items rings list)
  pub owned : (key list : ℕ) → IsIn key (items rings list) → list_of rings key ≡ Some list
  pub apart : (list : ℕ) → IsApart (items rings list)
