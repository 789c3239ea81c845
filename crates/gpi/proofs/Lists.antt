-- Steps along lists.
use Rattle.std.proofs.Common.{◌≡◌, ℕ, ◌+◌, ◌<◌, ◌&&◌, List, length, drop, get_or, refl}
use Rattle.std.proofs.lemmas.List.{drop_more}
use Rattle.four_value.specs.declared.Digit.{Digit}
use Rattle.four_value.specs.declared.Digit.TheVariants.{X}
use Rattle.gpi.specs.declared.acts.CaseKind.{CaseKind}
use Rattle.gpi.specs.Cases.{digits_agree, all_agree}

pub agree_drop : (kind : CaseKind) (xs ys : List Digit) (i : ℕ) → i < length xs → i < length ys
    → all_agree kind (drop i xs) (drop i ys) ≡ (digits_agree kind (get_or xs i X) (get_or ys i X) && all_agree kind (drop (i + 1) xs) (drop (i + 1) ys))
agree_drop kind xs ys i h k = rw (drop_more xs i X h, drop_more ys i X k) refl
