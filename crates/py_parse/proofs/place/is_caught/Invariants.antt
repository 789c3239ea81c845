use Rattle.std.proofs.Common.{◌≡◌, drop}
use Rattle.py_syntax.specs.Outline.{is_caught}
use Rattle.py_parse.proofs.place.is_caught.Given as goal

abbrev pub invariant-loop-next : goal.invariant-loop-next
invariant-loop-next l = is_caught l.indentation (drop l.next-index l.following) ≡ is_caught l.indentation l.fn.following
