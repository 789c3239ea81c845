-- A means of proof: what is known of a name's place, once one item more was looked at.
use Rattle.std.specs.Prelude.{ℕ, Bool, false, Option, Some, None, if◌then◌else◌}
use Rattle.std.specs.Option.{option_map_or, option_or}
use Rattle.std.specs.Str.{bytes_eq}
use Rattle.test_meaning.specs.Rules.Names.{Name}

-- the item has this place, and defines the name or doesn't
abbrev pub noted_if : ℕ → Bool → Option ℕ → Option ℕ
noted_if i b o = option_or o (if b then Some i else None)

-- the item has this place, and perhaps defines a name
abbrev pub noted_at : ℕ → Name → Option Name → Option ℕ → Option ℕ
noted_at i n d o = noted_if i (option_map_or (bytes_eq n) d false) o
