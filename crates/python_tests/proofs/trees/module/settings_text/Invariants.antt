use Rattle.std.proofs.Common.{◌≡◌, take}
use Rattle.std.specs.List.{flat_map}
use Rattle.python_tests.specs.Trees.ModuleText.{setting_text}
use Rattle.python_tests.proofs.trees.module.settings_text.Given as goal

abbrev pub invariant-loop-setting : goal.invariant-loop-setting
invariant-loop-setting l = l.text.items ≡ flat_map setting_text (take l.setting-index l.settings)
