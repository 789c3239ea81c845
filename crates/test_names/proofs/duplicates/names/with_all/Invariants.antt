-- The names so far are new.
use Rattle.std.proofs.Common.{◌≡◌, false, List, map, take, ◌++◌}
use Rattle.test_meaning.specs.Rules.Names.{Name, come_twice}
use Rattle.test_names.specs.Duplicates.Twice.{AreNames}
use Rattle.test_names.proofs.duplicates.names.with_all.Given as goal

abbrev pub invariant-loop-one : goal.invariant-loop-one
invariant-loop-one g l = (ns : List Name) → AreNames ns l.fn.before
    → (come_twice ns (map g.T.Named.name (take l.one-index l.found)) ≡ false) × AreNames (ns ++ map g.T.Named.name (take l.one-index l.found)) l.names
