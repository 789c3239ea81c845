use Rattle.std.specs.Prelude.{ℕ, List, Option}
use Rattle.std.proofs.Common.{ap}
use Rattle.vcd_text.specs.Reader.{is_there}
use Rattle.vcd_text.proofs.reader.scope_at.Goals as goal

pub returns-clause-none : goal.returns-clause-none
returns-clause-none c = λ name. ap (λ (places : List ℕ → Option ℕ). is_there (places name)) c.new.ensures
