-- A means of proof: the lines of declarations, part by part.
use Rattle.std.specs.Prelude.{ℕ, List, ◌++◌, map}
use Rattle.gpi.specs.declared.design.Signal.{Signal}
use Rattle.gpi.specs.declared.design.Flat.{Flat}
use Rattle.vcd_text.specs.Hierarchy.{Children, own_signals, inner_instances, instance_of}
use Rattle.vcd_text.specs.Text.{declaration_line}

-- those of the signals of an instance
abbrev pub signal_lines : List Signal → Children → List (List ℕ)
signal_lines signals children = map (declaration_line signals) (own_signals children)

-- those of an instance and all inside it, where so many stand inside one another at the most
abbrev pub instance_lines : Flat → ℕ → List ℕ → ℕ → List (List ℕ)
instance_lines flat room name node = map (declaration_line flat.signals) (instance_of flat.nodes room name node)

-- those of the instances of an instance
abbrev pub inner_lines : Flat → ℕ → Children → List (List ℕ)
inner_lines flat room children = map (declaration_line flat.signals) (inner_instances (instance_of flat.nodes room) children)

-- those of all that is declared in an instance
abbrev pub inside_lines : Flat → ℕ → Children → List (List ℕ)
inside_lines flat room children = signal_lines flat.signals children ++ inner_lines flat room children
