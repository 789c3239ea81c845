-- Counts of bytes that go on.
use Rattle.std.proofs.Common.{◌≡◌, ℕ, ◌+◌, Option, None, Some, refl, ap, zero-add, arith}
use Rattle.py_syntax.specs.Texts.{after}

pub after_after : (n k : ℕ) (x : Option ℕ) → after n (after k x) ≡ after (n + k) x
after_after n k None = refl
after_after n k (Some m) = ap (λ i. Some i) (let e : n + (k + m) ≡ n + k + m = omega arith in e)

pub after_zero : (x : Option ℕ) → after 0 x ≡ x
after_zero None = refl
after_zero (Some m) = ap (λ i. Some i) (zero-add m)
