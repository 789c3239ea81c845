-- A means of proof: registered keys, told by lists, for the test program of simulators.
use Rattle.std.specs.Prelude.{◌≡◌, List, [], ◌∷◌, ◌++◌, filter, not, Option, None, Some}
use Rattle.gpi.specs.Keys.{Keys, among, has, same_key}
use Rattle.gpi.specs.declared.types.Fired.{Fired}
use Rattle.gpi.specs.declared.types.Key.{Key}

-- the registered keys are those of the list
abbrev pub AreKeys : Keys → List Key → Type 0
AreKeys keys ks = (key : Key) → has key keys ≡ among key ks

abbrev pub key_list : Option Key → List Key
key_list None = []
key_list (Some key) = key ∷ []

-- the keys that fired, in order
abbrev pub keys_in : Fired → List Key
keys_in fired = key_list fired.first ++ key_list fired.second

-- the keys without this one
abbrev pub without : Key → List Key → List Key
without key keys = filter (λ own. not (same_key own key)) keys

-- the keys without each of these
abbrev pub without_all : List Key → List Key → List Key
without_all [] keys = keys
without_all (gone ∷ more) keys = without_all more (without gone keys)
