-- A means of proof: the names that the code tells, as the definition has them, for the proofs of elaboration.
use Rattle.std.specs.Prelude.{ℕ, List, [], ◌∷◌, map}
use Rattle.std.specs.Borrow.{Bor}
use Rattle.v_syntax.specs.SourceTrees.{HeaderPortTree, HeaderPortOf, ItemTree}
use Rattle.v_flat.specs.Scope.Scope.{Scope, before}
use Rattle.v_flat.specs.Headers.{HeadedPort, Parameter, later, names_in}

-- the bytes of names that the code refers to
abbrev pub texts : List (Bor (List ℕ)) → List (List ℕ)
texts ns = map (λ (n : Bor (List ℕ)). n.now) ns

-- the name of a port as the header has it
abbrev pub header_port_name : HeaderPortTree → List ℕ
header_port_name (HeaderPortOf h i) = i.name

-- the name of a port with its head
abbrev pub headed_name : HeadedPort → List ℕ
headed_name p = p.name.name

-- the name of a parameter
abbrev pub parameter_name : Parameter → List ℕ
parameter_name p = p.name.name

-- what one item declares, but for parameters
abbrev pub item_names : ItemTree → List (List ℕ)
item_names i = names_in (i ∷ [])

-- these names are declared further on, and any other means what it meant
unfoldable pub and_later : List (List ℕ) → Scope → Scope
and_later ns s = before (later ns) s
