-- A means of proof: keys that are times, for the proofs of the fast simulator.
use Rattle.std.specs.Prelude.{◌≡◌, ℕ, false, IsTrue, List}
use Rattle.gpi.specs.declared.types.Key.{Key}
use Rattle.gpi.specs.declared.types.Key.TheVariants.{At}
use Rattle.gpi.specs.Keys.{holds}

-- the key is no time of these
abbrev pub IsNewTime : Key → List ℕ → Type 0
IsNewTime (At t) ts = holds t ts ≡ false
IsNewTime _ ts = Unit {0}

-- the key is no time, or one of these
abbrev pub IsOldTime : Key → List ℕ → Type 0
IsOldTime (At t) ts = IsTrue (holds t ts)
IsOldTime _ ts = Unit {0}
