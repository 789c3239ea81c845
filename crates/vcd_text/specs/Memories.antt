-- A means of proof: the memories of a design, for the proof that their words are left out.
use Rattle.std.specs.Prelude.{ℕ, ◌+◌, ◌&&◌, nat_le, nat_lt, not, Bool, List, [], ◌∷◌, ◌++◌}
use Rattle.std.specs.List.{list_any}
use Rattle.gpi.specs.declared.design.Spot.TheVariants.{Inner, Sig, Words}
use Rattle.gpi.specs.declared.design.Node.{Node}
use Rattle.vcd_text.specs.Hierarchy.{Children}
use Rattle.vcd_text.specs.declared.memories.Memory.{Memory}

-- the signal is a word of the memory
abbrev pub has_word : ℕ → Memory → Bool
has_word signal memory = nat_le memory.first signal && nat_lt signal (memory.first + memory.count)

-- the memories of an instance, in order
abbrev pub memories_in : Children → List Memory
memories_in [] = []
memories_in ((name, Words first low count) ∷ children) = record { first = first.0; count = count } ∷ memories_in children
memories_in ((name, Sig signal) ∷ children) = memories_in children
memories_in ((name, Inner node) ∷ children) = memories_in children

-- those of all instances
abbrev pub memories_of : List Node → List Memory
memories_of [] = []
memories_of (node ∷ nodes) = memories_in node.children ++ memories_of nodes

-- the signal is a word of none of them
abbrev pub is_outside : List Memory → ℕ → Bool
is_outside memories signal = not (list_any (has_word signal) memories)
