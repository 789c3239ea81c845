-- A means of proof: declared names in the order of ports, as the code tells them, for the proofs of elaboration.
use Rattle.std.specs.Prelude.{List, map}
use Rattle.v_flat.specs.Declarations.{Declared}
use Rattle.v_layout.specs.declared.details.Line.{Line}
use Rattle.v_layout.specs.Kept.{named_declared}

abbrev pub line_in : Line → Declared
line_in l = named_declared l.name.now l.declared

abbrev pub lines_in : List Line → List Declared
lines_in ls = map line_in ls
