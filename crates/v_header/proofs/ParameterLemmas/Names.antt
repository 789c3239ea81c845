-- Names are equal where their bytes are.
use Rattle.std.proofs.Common.{◌≡◌, ℕ, List, Bool, true, false, refl, sym, bytes_eq}
use Rattle.std.proofs.lemmas.Slice.Eq.{bytes_eq-Decides}

pub same_name : (k n : List ℕ) → bytes_eq k n ≡ true → k ≡ n
same_name k n h = (bytes_eq-Decides k n).0 h

pub own_name : (k n : List ℕ) → k ≡ n → bytes_eq k n ≡ true
own_name k n h = (bytes_eq-Decides k n).1 h

turned : (k n : List ℕ) (a b : Bool) → bytes_eq k n ≡ a → bytes_eq n k ≡ b → a ≡ b
turned k n true true p q = refl
turned k n false false p q = refl
turned k n true false p q = let e : bytes_eq n k ≡ true = own_name n k (sym (same_name k n p)) in cc
turned k n false true p q = let e : bytes_eq k n ≡ true = own_name k n (sym (same_name n k q)) in cc

-- whichever stands first
pub either_way : (k n : List ℕ) → bytes_eq k n ≡ bytes_eq n k
either_way k n = turned k n (bytes_eq k n) (bytes_eq n k) refl refl
