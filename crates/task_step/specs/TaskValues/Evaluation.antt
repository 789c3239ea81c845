-- A means of proof: what an evaluation tells its caller, for the proofs of a task's statements.
use Rattle.std.specs.Prelude.{◌≡◌, ℕ, ◌≤◌, Result, Ok, Err}
use Rattle.py_value.specs.Answer.{Answer}
use Rattle.py_evaluate.specs.declared.attribute.fault.OperationFault.{OperationFault}
use Rattle.py_evaluate.specs.declared.attribute.fault.OperationFault.TheVariants as faults
use Rattle.py_evaluate.specs.Attribute.Outcome.{Outcome, EndsAs}

-- What is read off the value that was returned is the value of the outcome, or the fault is its fault; and the next number is that of the outcome. After
-- want of memory there is neither, and the next number is any that isn't below the old one.
pub record Evaluation {A B : Type 0} (result : Result B OperationFault) (read : B → A) (old next : ℕ) (o : Outcome A) : Type 0 where
  pub ends : EndsAs result read next o
  pub rises : old ≤ next

-- the value of an answer, or its fault; after want of memory there is neither
abbrev pub AnswersFault : {A : Type 0} → OperationFault → Answer A → Type 0
AnswersFault (faults.Raised kind) answer = answer ≡ Err kind
AnswersFault faults.OutOfMemory answer = Unit {0}

abbrev pub Answers : {A : Type 0} → Answer A → Result A OperationFault → Type 0
Answers answer (Ok a) = answer ≡ Ok a
Answers answer (Err fault) = AnswersFault fault answer
