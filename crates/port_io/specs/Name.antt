-- What a name shows.
use Rattle.std.specs.Prelude.{ℕ, List, [], None, Some}
use Rattle.port_io.specs.declared.name.Name.TheInside.{Inside}

-- the bytes, or none where nothing was stored
abbrev pub name_bytes : Inside → List ℕ
name_bytes name = elim name.bytes [ None ↦ [] | Some stored ↦ stored.items ]
