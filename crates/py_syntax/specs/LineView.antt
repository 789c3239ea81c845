-- A means of proof: what contracts see of a logical line and of the lines of a text, for the proofs of Python's lexer and parser.
use Rattle.std.specs.Prelude.{List}
use Rattle.py_syntax.specs.Line.{Line}
use Rattle.py_syntax.specs.declared.line.LogicalLine.TheInside.{Inside as LineInside}
use Rattle.py_syntax.specs.declared.line.Lines.TheInside.{Inside as LinesInside}

abbrev pub line_view : LineInside → Line
line_view a = record { indentation = a.indentation; number = a.number.0; is_docstring = a.is_docstring; tokens = a.tokens.items }

abbrev pub lines_view : LinesInside → List Line
lines_view a = a.lines.items
