-- A means of proof: how an index finds the records of a slab.
use Rattle.std.specs.Prelude.{◌≡◌, ◌≢◌, ℕ, Bool, true, false, List, Option, Some, None, slice_index_or}
use Rattle.std.specs.HashMap.{HashMap, get}

-- these slots are those, but for one
pub record Sets {T : Type 0} (old new : List (Option T)) (number : ℕ) (slot : Option T) : Type 0 where
  pub changed : slice_index_or new number None ≡ slot
  pub others : (other : ℕ) → other ≢ number → slice_index_or new other None ≡ slice_index_or old other None

-- the slot has a record of this name
abbrev pub is_named : {K T : Type 0} → (K → K → Bool) → (T → K) → K → Option T → Bool
is_named eq name_in name None = false
is_named eq name_in name (Some x) = eq (name_in x) name

-- the index gives a number for a name exactly where the record of that number has it
pub record IsIndexed {K T S : Type 0} (eq : K → K → Bool) (name_in : T → K) (slots : List (Option T)) (index : HashMap K ℕ S) : Type 0 where
  pub found : (name : K) (number : ℕ) → get eq index name ≡ Some number → is_named eq name_in name (slice_index_or slots number None) ≡ true
  pub listed : (name : K) (number : ℕ) → is_named eq name_in name (slice_index_or slots number None) ≡ true → get eq index name ≡ Some number
