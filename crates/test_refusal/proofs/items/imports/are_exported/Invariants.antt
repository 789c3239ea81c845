-- All names so far are exported.
use Rattle.std.proofs.Common.{◌≡◌, drop}
use Rattle.std.specs.List.{list_all}
use Rattle.test_meaning.specs.Rules.Rules.{is_exported}
use Rattle.test_refusal.proofs.items.imports.are_exported.Given as goal

abbrev pub invariant-loop-name : goal.invariant-loop-name
invariant-loop-name l = list_all (is_exported l.origin) l.names ≡ list_all (is_exported l.origin) (drop l.name-index l.names)
