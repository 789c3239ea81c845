-- A statement one level down.
use Rattle.std.proofs.Common.{◌≡◌, ℕ, suc, ◌+◌, refl, arith}
use Rattle.v_syntax.specs.declared.statement.StatementPlace.{StatementPlace}
use Rattle.v_statement.specs.Reading.{lower, statement_of}

lower_some : (end room : ℕ) (place : StatementPlace) (r : ℕ) → room ≡ suc r → lower end room place ≡ statement_of end r place
unfolding lower
lower_some end room place r h = rw h refl

pub lower_least : (end room : ℕ) (place : StatementPlace) (r : ℕ) → room ≡ r + 1 → lower end room place ≡ statement_of end r place
lower_least end room place r h = lower_some end room place r (omega arith)
