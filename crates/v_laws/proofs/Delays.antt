-- What holds where no rule is broken holds with a delay.
use Rattle.std.proofs.Common.{ℕ, Bool, true, false, is_some}
use Rattle.v_syntax.specs.declared.statement.AssignmentKind.{AssignmentKind}
use Rattle.v_syntax.specs.declared.statement.AssignmentKind.TheVariants.{Blocking, Delayed, Nonblocking}
use Rattle.v_flat.specs.declared.scope.rule.ElabRule.TheVariants as rule
use Rattle.v_flat.specs.declared.scope.found.Found.{Found}
use Rattle.v_flat.specs.Scope.Rules.{at}
use Rattle.v_flat.specs.Scope.Found.{Holds, wants}
use Rattle.v_flat.specs.declared.timing.Timing.{Timing}
use Rattle.v_flat.specs.Delays.{steps_of}
use Rattle.v_flat.specs.Statements.{delay_checked}
use Rattle.v_flat.proofs.Holds.{holds_noted}

wants_holds : {A : Type 0} (P : A → Type 0) (t : Bool) (p : ℕ) (x : Found A) → Holds P x → Holds P (wants t rule.BadDelay p x)
wants_holds P true p x h = h
wants_holds P false p x h = holds_noted P (at rule.BadDelay p) x

pub holds_delay : {A : Type 0} (P : A → Type 0) (timing : Timing) (k : AssignmentKind) (x : Found A) → Holds P x → Holds P (delay_checked timing k x)
holds_delay P timing Blocking x h = h
holds_delay P timing Nonblocking x h = h
holds_delay P timing (Delayed p ds) x h = wants_holds P (is_some (steps_of timing ds)) p x h
