-- The last of pieces that were put one after the other is kept.
use Rattle.std.specs.Prelude.{◌≡◌, ℕ, List, [], ◌∷◌, Some, refl}
use Rattle.std.specs.List.{last_or}
use Rattle.std.proofs.Common.{ap, sym, subst}
use Rattle.command.specs.LastLine.Last.{KeepsLast, KeepsLastOf, NoneFails}

pub keeps_last : KeepsLast
keeps_last before [] after same = ap Some (sym same)
keeps_last before (piece ∷ pieces) after (mid, kept, rest) =
    subst (λ (first : List ℕ). last_or (Some first) pieces ≡ Some after) kept (keeps_last mid pieces after rest)

pub keeps_last_of : KeepsLastOf
keeps_last_of before [] after some taken = absurd (some refl)
keeps_last_of before (piece ∷ pieces) after some taken = keeps_last before (piece ∷ pieces) after taken

pub none_fails : NoneFails
none_fails before pieces after (front, broken, more, split, (mid, taken, last)) = last
