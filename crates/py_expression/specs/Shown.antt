-- A means of proof: what is kept of a tree while a text is read, for the proofs of Python's parser: the tree and its height, or, where it
-- is too high, the names of its two outermost attributes.
use Rattle.std.specs.Prelude.{ℕ, ◌+◌, max, nat_le, nat_lt, List, if◌then◌else◌}
use Rattle.py_syntax.specs.ExpressionTrees.{Tree, Constant, FormatString, Name, Bracketed, Attribute, Subscript, Call, MethodCall, Unary, Infix, Trees, NoTree, Then, Parts, NoPart, TextThen, FormattedThen, height}
use Rattle.py_syntax.specs.declared.constant.Const.{Const}
use Rattle.py_syntax.specs.declared.constant.Const.TheVariants as constants
use Rattle.py_syntax.specs.declared.expression.UnOp.{UnOp}
use Rattle.py_syntax.specs.declared.expression.Operation.{Operation}
use Rattle.py_syntax.specs.declared.expression.Function.{Function}
use Rattle.py_syntax.specs.declared.expression.Method.{Method}

-- the greatest height of a line that is accepted
abbrev pub height_limit : ℕ
height_limit = 64

pub record Shown : Type 0 where
  pub tree : Tree
  pub height : ℕ

abbrev pub nothing : Tree
nothing = Constant constants.Absent

-- a tree with no part but its attribute's name
unfoldable pub cut : Tree → Tree
cut (Attribute e n) = Attribute nothing n
cut _ = nothing

-- what is kept of a tree that is too high
unfoldable pub hollow : Tree → Tree
hollow (Attribute e n) = Attribute (cut e) n
hollow _ = nothing

-- What is kept of a tree. It is kept whole up to two above the limit on an expression's height, since a statement may take two
-- attributes off its first expression. A greater height counts as one above that.
unfoldable pub shown : ℕ → Tree → Shown
shown limit e = if nat_le (height e) (limit + 2) then record { tree = e; height = height e } else record { tree = hollow e; height = limit + 3 }

-- a tree whose highest part has the height h, or what is kept of it
unfoldable pub fitted : ℕ → Tree → ℕ → Shown
fitted limit e h = if nat_lt h (limit + 2) then record { tree = e; height = h + 1 } else record { tree = hollow e; height = limit + 3 }

-- the nodes, of parts as they are kept

abbrev pub constant : Const → Shown
constant c = record { tree = Constant c; height = 1 }

abbrev pub name : List ℕ → Shown
name n = record { tree = Name n; height = 1 }

unfoldable pub bracketed : ℕ → Shown → Shown
bracketed limit e = fitted limit (Bracketed e.tree) e.height

unfoldable pub attribute : ℕ → Shown → List ℕ → Shown
attribute limit e n = fitted limit (Attribute e.tree n) e.height

unfoldable pub subscript : ℕ → Shown → Shown → Shown
subscript limit e i = fitted limit (Subscript e.tree i.tree) (max e.height i.height)

unfoldable pub method_call : ℕ → Shown → Method → Shown
method_call limit e m = fitted limit (MethodCall e.tree m) e.height

unfoldable pub unary : ℕ → UnOp → Shown → Shown
unary limit op e = fitted limit (Unary op e.tree) e.height

unfoldable pub infix_of : ℕ → Operation → Shown → Shown → Shown
infix_of limit op l r = fitted limit (Infix op l.tree r.tree) (max l.height r.height)

-- arguments, how many they are, and the greatest height
pub record ShownTrees : Type 0 where
  pub trees : Trees
  pub count : ℕ
  pub height : ℕ

unfoldable pub snoc : Trees → Tree → Trees
snoc NoTree x = Then x NoTree
snoc (Then e es) x = Then e (snoc es x)

abbrev pub no_trees : ShownTrees
no_trees = record { trees = NoTree; count = 0; height = 0 }

unfoldable pub with_tree : ShownTrees → Shown → ShownTrees
with_tree es e = record { trees = snoc es.trees e.tree; count = es.count + 1; height = max es.height e.height }

unfoldable pub call : ℕ → Function → ShownTrees → Shown
call limit f es = fitted limit (Call f es.trees) es.height

-- parts of an f-string, and the greatest height
pub record ShownParts : Type 0 where
  pub parts : Parts
  pub height : ℕ

-- parts, and then others
unfoldable pub joined : Parts → Parts → Parts
joined NoPart qs = qs
joined (TextThen t ps) qs = TextThen t (joined ps qs)
joined (FormattedThen e ps) qs = FormattedThen e (joined ps qs)

abbrev pub no_parts : ShownParts
no_parts = record { parts = NoPart; height = 0 }

unfoldable pub with_text : ShownParts → List ℕ → ShownParts
with_text ps t = record { parts = joined ps.parts (TextThen t NoPart); height = ps.height }

unfoldable pub with_formatted : ShownParts → Shown → ShownParts
with_formatted ps e = record { parts = joined ps.parts (FormattedThen e.tree NoPart); height = max ps.height e.height }

unfoldable pub format_string : ℕ → ShownParts → Shown
format_string limit ps = fitted limit (FormatString ps.parts) ps.height
