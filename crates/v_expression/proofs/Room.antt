-- What the readers of one level down are.
use Rattle.std.proofs.Common.{◌≡◌, ℕ, zero, suc, ◌-◌, ◌<◌, List, arith, refl, Ok}
use Rattle.v_syntax.specs.declared.token.Token.{Token}
use Rattle.v_expression.specs.Reading.{Readers, layer, below, down}

pub below_down : (end room : ℕ) → 0 < room → below end room ≡ layer end (room - 1) (below end (room - 1))
unfolding below
below_down end zero h = absurd (omega arith)
below_down end (suc n) h = let e : suc n - 1 ≡ n = omega arith in rw e refl

pub down_some : (room : ℕ) (sub : Readers) (ts : List Token) → 0 < room → down room sub ts ≡ Ok sub
unfolding down
down_some zero sub ts h = absurd (omega arith)
down_some (suc n) sub ts h = refl

pub ruleset room_laws = (below_down, down_some)
