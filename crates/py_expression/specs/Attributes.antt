-- A means of proof: an attribute, as its object and its name, for the proofs of Python's parser.
use Rattle.std.specs.Prelude.{ℕ, List, Option, Some, None}
use Rattle.py_syntax.specs.ExpressionTrees.{Tree, Attribute}

-- an attribute's object and name
unfoldable pub split_of : Tree → Option (Tree × List ℕ)
split_of (Attribute e n) = Some (e, n)
split_of _ = None
