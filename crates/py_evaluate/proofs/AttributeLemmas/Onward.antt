-- One evaluation after another: the next number doesn't fall where it falls in neither.
use Rattle.std.proofs.Common.{ℕ, ◌≤◌, Ok, Err, arith}
use Rattle.py_value.specs.Answer.{Answer}
use Rattle.py_evaluate.specs.Attribute.Outcome.{Outcome, after, bind}

after_rises : {A B : Type 0} (a : Answer A) (k j : ℕ) (f : A → ℕ → Outcome B) → k ≤ j → ((x : A) (i : ℕ) → i ≤ (f x i).next) → k ≤ (after a j f).next
after_rises (Ok x) k j f h p = let q = p x j in omega (arith, h, q)
after_rises (Err kind) k j f h p = h

pub bind_rises : {A B : Type 0} (o : Outcome A) (k : ℕ) (f : A → ℕ → Outcome B) → k ≤ o.next → ((x : A) (i : ℕ) → i ≤ (f x i).next) → k ≤ (bind o f).next
bind_rises o k f h p = after_rises o.answer k o.next f h p
