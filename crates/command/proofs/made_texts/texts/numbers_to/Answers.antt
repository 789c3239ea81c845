-- One number after the other.
use Rattle.std.specs.Prelude.{◌≡◌, ℕ, ◌+◌, ◌-◌, ◌≤◌, List, ◌++◌, codes, decimal, string_bytes}
use Rattle.std.proofs.Common.{arith, ap, sym, ◌∙◌, append-nil}
use Rattle.std.proofs.lemmas.Fmt.{decimal_digit}
use Rattle.command.specs.MadeTexts.Texts.{numbers_to}
use Rattle.command.proofs.MadeTextsLemmas.Numbers.{next_number}
use Rattle.command.proofs.made_texts.texts.numbers_to.Goals as goal
use Rattle.command.proofs.made_texts.texts.numbers_to.Goals.{else-loop-number-test, then-loop-number-test+in_ok-write+else-number-counter-last}

-- a text that grows by one number
grown : (number : ℕ) (old new : List ℕ) → 2 ≤ number → new ≡ old ++ (codes ", " ++ decimal number) → old ≡ numbers_to (number - 1) → new ≡ numbers_to number
grown number old new some more before =
    more ∙ ap (λ (text : List ℕ). text ++ (codes ", " ++ decimal number)) before ∙ next_number (number - 1) number (omega arith) (omega arith)

pub loop-number-init : goal.loop-number-init
loop-number-init c = (c.in_ok-text.ensures.ok ∙ sym (append-nil (decimal 1) ∙ decimal_digit 1 (omega arith)), omega (arith, c.requires))

pub loop-number-preserved : goal.loop-number-preserved
loop-number-preserved c =
    let number = c.loop-number.number-counter in
    let all : number ≡ (number + 1) - 1 = omega arith in (
      grown number (string_bytes c.loop-number.text) (string_bytes c.write.new.self) c.loop-number.auto.number-counter c.in_ok-write.ensures.bytes c.loop-number.invariant.0
          ∙ ap numbers_to all,
      omega (arith, c.loop-number-test.true),
    )

pub returns : goal.returns
returns c =
    let number = c.loop-number.number-counter in
    elim c.loop-number-test.branch [
      | else-loop-number-test w ↦
          let all : number - 1 ≡ c.args.last = omega (arith, c.loop-number.invariant.1, w.loop-number-test.false) in
          ap string_bytes w.text-is ∙ c.loop-number.invariant.0 ∙ ap numbers_to all
      | then-loop-number-test+in_ok-write+else-number-counter-last w ↦
          let all : number ≡ c.args.last = omega (arith, w.loop-number-test.true) in
          ap string_bytes w.text-is
          ∙ grown number (string_bytes c.loop-number.text) (string_bytes w.write.new.self) c.loop-number.auto.number-counter w.in_ok-write.ensures.bytes c.loop-number.invariant.0
          ∙ ap numbers_to all
    ]
