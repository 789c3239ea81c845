-- A means of proof: the signals of declared names by the text of the instance's path.
use Rattle.std.specs.Prelude.{ℕ, List, [], ◌∷◌, ◌++◌, map, option_map}
use Rattle.four_value.specs.declared.Digit.{Digit}
use Rattle.gpi.specs.declared.design.Signal.{Signal}
use Rattle.v_flat.specs.declared.scope.meaning.Bounds.{Bounds}
use Rattle.v_flat.specs.Scope.Scope.{low_of, width_of}
use Rattle.v_flat.specs.Declarations.{Declared, kind_of}
use Rattle.v_flat.specs.Paths.{signal_of}
use Rattle.v_flat.specs.Design.{word_signals, signals_of, object_of, start_of}
use Rattle.v_layout.specs.declared.details.Declared as code
use Rattle.v_layout.specs.Kept.{sort_in}

-- a name behind a path
abbrev pub dotted : List ℕ → List ℕ → List ℕ
dotted text n = text ++ (46 ∷ n)

-- words of a memory whose path has this text
abbrev pub words_at : List ℕ → ℕ → Digit → ℕ → ℕ → List Signal
words_at text w start i n = map signal_of (word_signals (text ∷ []) w start i n)

-- a net or a register whose path has this text, or a word of a memory
abbrev pub vector_at : List ℕ → code.Declared → Signal
vector_at text d = record { path = text; width = width_of d.bounds; start = start_of (kind_of d.direction (option_map sort_in d.sort)) }

-- all words of a memory whose path has this text
abbrev pub memory_at : List ℕ → code.Declared → Bounds → List Signal
memory_at text d w = words_at text (width_of d.bounds) (start_of (kind_of d.direction (option_map sort_in d.sort))) (low_of w) (width_of w)

-- the signals of what is declared, whose path has this text
abbrev pub signals_at : List ℕ → Declared → List Signal
signals_at text d = map signal_of (signals_of (text ∷ []) (object_of 0 d) d.words)

-- those of all names
abbrev pub signals_below : List ℕ → List Declared → List Signal
signals_below text [] = []
signals_below text (d ∷ ds) = signals_at (dotted text d.name) d ++ signals_below text ds
