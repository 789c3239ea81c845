-- To pass over none takes no jump.
use Rattle.std.proofs.Common.{◌≡◌, ℕ, zero, suc, ◌<◌, List, ◌∷◌, refl, arith}
use Rattle.v_exec.specs.declared.instruction.Instruction.{Instruction}
use Rattle.v_exec.specs.declared.instruction.Instruction.TheVariants as code
use Rattle.v_exec.specs.Packing.{skip_front}

pub skip_none : (n : ℕ) (is : List Instruction) → n ≡ 0 → skip_front n is ≡ is
skip_none zero is e = refl
skip_none (suc n) is e = absurd (omega (arith, e))

pub skip_some : (n : ℕ) (is : List Instruction) → 0 < n → skip_front n is ≡ code.Skip n ∷ is
skip_some zero is h = absurd (omega (arith, h))
skip_some (suc n) is h = refl

pub ruleset skips = (skip_none, skip_some)
