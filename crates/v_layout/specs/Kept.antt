-- A means of proof: what is declared of names, as the code keeps it, for the proofs of elaboration.
use Rattle.std.specs.Prelude.{ℕ, ◌+◌, List, [], ◌∷◌, map, Option, min, option_map, bytes_eq, if◌then◌else◌}
use Rattle.v_flat.specs.Scope.Limits.{most_parts}
use Rattle.v_flat.specs.Declarations.{Sort, Wire, Reg, Integer, Declared}
use Rattle.v_layout.specs.declared.details.Sort as code_sort
use Rattle.v_layout.specs.declared.details.Sort.TheVariants as code_sorts
use Rattle.v_layout.specs.declared.details.Declared as code

abbrev pub sort_in : code_sort.Sort → Sort
sort_in code_sorts.Wire = Wire
sort_in code_sorts.Reg = Reg
sort_in code_sorts.Integer = Integer

-- a name with what is declared of it
abbrev pub named_declared : List ℕ → code.Declared → Declared
named_declared n d = record { name = n; direction = d.direction; sort = option_map sort_in d.sort; bounds = d.bounds; words = d.words }

-- the entries of a table
abbrev pub declared_kept : {K : Type 0} → (K → List ℕ) → K × code.Declared → Declared
declared_kept items e = named_declared (items e.0) e.1

abbrev pub declared_in : {K : Type 0} → (K → List ℕ) → List (K × code.Declared) → List Declared
declared_in items es = map (declared_kept items) es

-- a name that has a declaration gets this one in its place, and another one goes last
abbrev pub put_declared : Declared → List Declared → List Declared
put_declared x [] = x ∷ []
put_declared x (d ∷ ds) = if bytes_eq d.name x.name then x ∷ ds else d ∷ put_declared x ds

-- signals are counted up to one more than a design may have
abbrev pub counted_signals : ℕ → ℕ
counted_signals n = min n (most_parts + 1)
