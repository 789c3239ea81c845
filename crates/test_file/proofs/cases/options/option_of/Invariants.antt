-- None of those so far has the name.
use Rattle.std.proofs.Common.{◌≡◌, drop}
use Rattle.std.specs.List.{find}
use Rattle.std.specs.Str.{bytes_eq}
use Rattle.test_file.proofs.cases.options.option_of.Given as goal

abbrev pub invariant-loop-setting : goal.invariant-loop-setting
invariant-loop-setting g l = find (λ s. bytes_eq s.name l.name) l.settings ≡ find (λ s. bytes_eq s.name l.name) (drop l.setting-index l.settings)
