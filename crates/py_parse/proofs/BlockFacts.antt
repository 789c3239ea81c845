-- Closing blocks, one after the other.
use Rattle.std.proofs.Common.{◌≡◌, ℕ, ◌<◌, true, false, List, [], ◌∷◌, length, refl, arith}
use Rattle.py_syntax.specs.Outline.{within}
use Rattle.py_syntax.specs.declared.outline.OpenBlock.{OpenBlock}
use Rattle.py_parse.specs.Blocks.{outer, is_deeper}

pub within_deeper : (n : ℕ) (bs : List OpenBlock) → is_deeper n bs ≡ true → within n bs ≡ within n (outer bs)
within_deeper n [] e = refl
within_deeper n (b ∷ bs) e = rw e refl

pub within_here : (n : ℕ) (bs : List OpenBlock) → is_deeper n bs ≡ false → within n bs ≡ bs
within_here n [] e = refl
within_here n (b ∷ bs) e = rw e refl

pub fewer_outside : (n : ℕ) (bs : List OpenBlock) → is_deeper n bs ≡ true → length (outer bs) < length bs
fewer_outside n [] e = cc
fewer_outside n (b ∷ bs) e = omega arith
