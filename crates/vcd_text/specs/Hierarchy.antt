-- What a VCD text declares of a design (IEEE 1364-2005, clause 18.2.3): its instances inside one another, and the signals in each.
use Rattle.std.specs.Prelude.{ℕ, zero, suc, ◌+◌, ◌&&◌, nat_le, nat_lt, not, Bool, false, List, [], ◌∷◌, ◌++◌, length, None, Some, slice_get}
use Rattle.std.specs.List.{filter, list_any, range_with_len}
use Rattle.gpi.specs.declared.design.Spot.{Spot}
use Rattle.gpi.specs.declared.design.Spot.TheVariants.{Inner, Sig, Words}
use Rattle.gpi.specs.declared.design.Node.{Node}
use Rattle.gpi.specs.declared.design.Flat.{Flat}

-- a line of the declarations: an instance begins, a signal stands in it under a name, an instance ends
pub data Declaration : Type 0 where
  Opens : (name : List ℕ) → Declaration
  Declares : (signal : ℕ) → (name : List ℕ) → Declaration
  Closes : Declaration

-- what is declared in an instance: its names, and what each of them means
abbrev pub Children : Type 0
Children = List (List ℕ × Spot)

-- the children of a node, by its number
abbrev pub children_of : List Node → ℕ → Children
children_of nodes node = elim (slice_get nodes node) [ None ↦ [] | Some found ↦ found.children ]

-- the signals of an instance, in order
abbrev pub own_signals : Children → List Declaration
own_signals [] = []
own_signals ((name, Sig signal) ∷ children) = Declares signal.0 name ∷ own_signals children
own_signals ((name, Inner node) ∷ children) = own_signals children
own_signals ((name, Words first low count) ∷ children) = own_signals children

-- the instances of an instance, in order, where this is what is declared of a node of that name
abbrev pub inner_instances : (List ℕ → ℕ → List Declaration) → Children → List Declaration
inner_instances declared [] = []
inner_instances declared ((name, Inner node) ∷ children) = declared name node ++ inner_instances declared children
inner_instances declared ((name, Sig signal) ∷ children) = inner_instances declared children
inner_instances declared ((name, Words first low count) ∷ children) = inner_instances declared children

-- an instance and all inside it, where so many instances stand inside one another at the most
abbrev pub instance_of : List Node → ℕ → List ℕ → ℕ → List Declaration
instance_of nodes zero name node = []
instance_of nodes (suc inner) name node =
    Opens name ∷ own_signals (children_of nodes node) ++ inner_instances (instance_of nodes inner) (children_of nodes node) ++ Closes ∷ []

-- the path of the top, which is its name
abbrev pub top_path : List Node → List ℕ
top_path [] = []
top_path (node ∷ nodes) = node.path

-- how many instances may stand inside one another below the top
abbrev pub most_inner : ℕ
most_inner = 64

-- the declarations of a design: the top, and in it each instance in order, each with its signals before its instances
abbrev pub declarations : List Node → List Declaration
declarations nodes = instance_of nodes (suc most_inner) (top_path nodes) 0

-- the signals that are declared, in that order
abbrev pub declared_signals : List Declaration → List ℕ
declared_signals [] = []
declared_signals (Declares signal name ∷ declarations) = signal ∷ declared_signals declarations
declared_signals (Opens name ∷ declarations) = declared_signals declarations
declared_signals (Closes ∷ declarations) = declared_signals declarations

-- ---- words of memories, which a VCD text leaves out

-- the signal is a word of this memory
abbrev pub is_word_of : ℕ → List ℕ × Spot → Bool
is_word_of signal (name, Words first low count) = nat_le first.0 signal && nat_lt signal (first.0 + count)
is_word_of signal (name, Sig other) = false
is_word_of signal (name, Inner node) = false

-- the signal is a word of a memory
abbrev pub is_word : List Node → ℕ → Bool
is_word nodes signal = list_any (λ node. list_any (is_word_of signal) node.children) nodes

-- the signals that are no words of memories, by rising number
abbrev pub traced_signals : Flat → List ℕ
traced_signals flat = filter (λ signal. not (is_word flat.nodes signal)) (range_with_len 0 (length flat.signals))
