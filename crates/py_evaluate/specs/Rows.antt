-- A means of proof: lists of the code's trees.
use Rattle.std.specs.Prelude.{◌≡◌, ◌⊎◌, ℕ, List, [], ◌∷◌}
use Rattle.py_syntax.specs.ExpressionTrees.{Trees, NoTree, Then, Parts, NoPart, view, view_part}
use Rattle.py_syntax.specs.declared.expression.Expression.{Expression}
use Rattle.py_syntax.specs.declared.expression.FormatPart.{FormatPart}
use Rattle.py_syntax.specs.declared.expression.FormatPart.TheVariants as part
use Rattle.py_value.specs.Shown.{shown}
use Rattle.py_evaluate.specs.Attribute.Outcome.{Outcome, Scope, gives, bind}
use Rattle.py_evaluate.specs.Eval.{eval}
use Rattle.py_evaluate.specs.Wants.{Wants, Behind}

abbrev pub trees_of : List Expression → Trees
trees_of [] = NoTree
trees_of (e ∷ es) = Then (view e) (trees_of es)

abbrev pub parts_of : List FormatPart → Parts
parts_of [] = NoPart
parts_of (p ∷ ps) = view_part p (parts_of ps)

-- the text of one part
abbrev pub part_bytes : Scope → FormatPart → ℕ → Outcome (List ℕ)
part_bytes s (part.Text t) k = gives t k
part_bytes s (part.Formatted' p e) k = bind (eval s (view e) k) (λ v j. gives (shown s.view.places v) j)

abbrev pub PartWants : Scope → FormatPart → ℕ → ℕ → Type 0
PartWants s (part.Text t) k j = j ≡ k
PartWants s (part.Formatted' p e) k j = Wants s (view e) k j ⊎ Behind (eval s (view e) k) (λ v i. j ≡ i)
