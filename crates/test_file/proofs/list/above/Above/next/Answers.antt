-- The decorator's options, or none.
use Rattle.std.proofs.Common.{◌≡◌, List, Bor, Option, Some, None, ap, refl, sym, ◌∙◌}
use Rattle.std.specs.Option.{unwrap_or}
use Rattle.std.specs.Prelude.{option_copied, []}
use Rattle.py_syntax.specs.declared.module.Setting.{Setting}
use Rattle.test_file.proofs.list.above.Above.next.Goals as goal

-- what is read of a slice or an empty one
read_or : (s : Option (Bor (List Setting))) (b r : Bor (List Setting)) → r ≡ unwrap_or s b → b.now ≡ [] → unwrap_or (option_copied s) [] ≡ r.now
read_or None b r e h = sym (ap (λ (x : Bor (List Setting)). x.now) e ∙ h)
read_or (Some x) b r e h = sym (ap (λ (y : Bor (List Setting)). y.now) e)

pub returns : goal.returns
returns c = λ l b. record { number = refl; name = refl; further = sym c.further.ensures; settings = read_or c.args.self.now.settings _ _ c.unwrap_or.ensures refl }
