-- Parts of a line, put together one after the other.
use Rattle.std.proofs.Common.{◌≡◌, ℕ, List, ◌++◌, append_assoc}

pub joined_four : (a b c d e f : List ℕ) → ((((a ++ b) ++ c) ++ d) ++ e) ++ f ≡ (a ++ (((b ++ c) ++ d) ++ e)) ++ f
joined_four a b c d e f = simp append_assoc

pub joined_five : (a b c d e f g : List ℕ) → (((((a ++ b) ++ c) ++ d) ++ e) ++ f) ++ g ≡ (a ++ ((((b ++ c) ++ d) ++ e) ++ f)) ++ g
joined_five a b c d e f g = simp append_assoc
