use Rattle.std.proofs.Common.{◌≡◌, length}
use Rattle.py_parse.specs.Found.{lines_in}
use Rattle.py_parse.specs.Reading.{outline_onto, outline_of}
use Rattle.py_parse.proofs.reader.lines_in_place.Given as goal

abbrev pub invariant-lines : goal.invariant-lines
invariant-lines l = outline_onto (lines_in l.all) l.blocks l.rest ≡ outline_of l.fn.lines

abbrev pub decreases-lines : goal.decreases-lines
decreases-lines l = length l.rest
