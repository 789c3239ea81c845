-- A means of proof: what a name in a VCD text is made of (IEEE 1364-2005, clause 18.2).
use Rattle.std.specs.Prelude.{ℕ, List, [], ◌∷◌, Bool, false, ◌||◌, ◌&&◌, ◌==◌, nat_le}
use Rattle.std.specs.List.{list_all}

-- a letter or `_`
abbrev pub begins_name : ℕ → Bool
begins_name byte = (nat_le 65 byte && nat_le byte 90) || (nat_le 97 byte && nat_le byte 122) || (byte == 95)

-- a letter, `_`, a digit or `$`
abbrev pub is_in_name : ℕ → Bool
is_in_name byte = begins_name byte || (nat_le 48 byte && nat_le byte 57) || (byte == 36)

-- a name: it is made of these, and doesn't begin with a digit or `$`
abbrev pub is_name : List ℕ → Bool
is_name [] = false
is_name (byte ∷ bytes) = begins_name byte && list_all is_in_name bytes
