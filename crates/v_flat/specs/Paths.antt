-- Signals and instances by their paths, and the texts of paths (IEEE 1364-2005, clause 12.5).
use Rattle.std.specs.Prelude.{ℕ, List, [], ◌∷◌, ◌++◌, Option, None, Some, decimal}
use Rattle.four_value.specs.declared.Digit.{Digit}
use Rattle.gpi.specs.declared.design.Signal.{Signal}
use Rattle.gpi.specs.declared.design.Node.{Node}
use Rattle.gpi.specs.declared.design.Spot.{Spot}

-- the names from the top down
abbrev pub Path : Type 0
Path = List (List ℕ)

abbrev pub below : Path → List ℕ → Path
below path n = path ++ (n ∷ [])

-- a signal: a word of a memory has its index behind the memory's path
pub record SignalAt : Type 0 where
  pub path : Path
  pub word : Option ℕ
  pub width : ℕ
  pub start : Digit

-- an instance, and the names that are declared in it
pub record NodeAt : Type 0 where
  pub path : Path
  pub children : List (List ℕ × Spot)

-- ---- as texts: `top.inner.name`, `top.mem[3]`

abbrev pub path_text : Path → List ℕ
path_text [] = []
path_text (n ∷ []) = n
path_text (n ∷ m ∷ ns) = n ++ (46 ∷ path_text (m ∷ ns))

abbrev pub word_text : Option ℕ → List ℕ
word_text None = []
word_text (Some i) = 91 ∷ (decimal i ++ (93 ∷ []))

abbrev pub signal_of : SignalAt → Signal
signal_of s = record { path = path_text s.path ++ word_text s.word; width = s.width; start = s.start }

abbrev pub node_of : NodeAt → Node
node_of n = record { path = path_text n.path; children = n.children }
