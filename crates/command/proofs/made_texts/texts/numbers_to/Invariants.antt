-- The numbers before this one stand there.
use Rattle.std.specs.Prelude.{◌≡◌, ◌+◌, ◌-◌, ◌≤◌, string_bytes}
use Rattle.command.specs.MadeTexts.Texts.{numbers_to}
use Rattle.command.proofs.made_texts.texts.numbers_to.Given as goal

abbrev pub invariant-loop-number : goal.invariant-loop-number
invariant-loop-number l = (string_bytes l.text ≡ numbers_to (l.number-counter - 1)) × (l.number-counter ≤ l.last + 1)
