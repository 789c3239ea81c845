-- The names so far have their places.
use Rattle.std.proofs.Common.{List, take}
use Rattle.test_meaning.specs.Rules.Names.{Name}
use Rattle.test_names.specs.Locals.Own.{AreNumbered, with_names}
use Rattle.test_names.proofs.locals.numbered.add_all.Given as goal

abbrev pub invariant-loop-name : goal.invariant-loop-name
invariant-loop-name l = (ns : List Name) → AreNumbered ns l.fn.before → AreNumbered (with_names ns (take l.name-index l.found)) l.names
