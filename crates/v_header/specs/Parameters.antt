-- A means of proof: the parameters that the code tells, as the definition has them, for the proofs of elaboration.
use Rattle.std.specs.Prelude.{List, [], ◌∷◌, Option, map, option_map}
use Rattle.std.specs.Borrow.{Bor}
use Rattle.v_syntax.specs.declared.item.Range.{Range}
use Rattle.v_syntax.specs.ExpressionTrees.{view}
use Rattle.v_syntax.specs.SourceTrees.{RangeTree, ItemTree, view_range}
use Rattle.v_flat.specs.Headers.{Parameter, is_local, item_parameters}
use Rattle.v_header.specs.declared.parameters.Parameter as code

-- the range that the code refers to, where it refers to one
abbrev pub range_in : Option (Bor Range) → Option RangeTree
range_in r = option_map (λ (x : Bor Range). view_range x.now) r

-- a parameter with the parts that the code refers to
abbrev pub parameter_in : code.Parameter → Parameter
parameter_in p = record { is_local = is_local p.kind; range = range_in p.range; name = p.name.now; value = view p.value.now }

-- all of them, in order
abbrev pub parameters_in : List code.Parameter → List Parameter
parameters_in ps = map parameter_in ps

-- what one item declares
abbrev pub parameters_in_item : ItemTree → List Parameter
parameters_in_item i = item_parameters (i ∷ [])
