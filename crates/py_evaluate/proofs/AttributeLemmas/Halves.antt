-- A number of digits whose highest is 1 lies half a turn twice below.
use Rattle.std.proofs.Common.{◌≡◌, ℕ, suc, zero, ◌+◌, ◌-◌, ◌^◌, ◌≤◌, arith}
use Rattle.std.specs.Prelude.{pos, ◌-ℤ◌}
use Rattle.std.proofs.Math.Nat.{pow-suc}
use Rattle.std.proofs.lemmas.Int.{ints}

double : (w : ℕ) → 1 ≤ w → 2 ^ w ≡ 2 ^ (w - 1) + 2 ^ (w - 1)
double zero h = absurd (omega arith)
double (suc v) h = let e : suc v - 1 ≡ v = omega arith in let p = pow-suc 2 v in rw e (omega (arith, p))

down : (n h : ℕ) → h ≤ n → pos (n - h) -ℤ pos h ≡ pos n -ℤ pos (h + h)
down n h k = omega (arith, ints, k)

pub half_down : (w n : ℕ) → 1 ≤ w → 2 ^ (w - 1) ≤ n → pos (n - 2 ^ (w - 1)) -ℤ pos (2 ^ (w - 1)) ≡ pos n -ℤ pos (2 ^ w)
half_down w n h k = rw (double w h) (down n (2 ^ (w - 1)) k)
