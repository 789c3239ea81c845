-- With more levels below, a reader answers the same, unless it stopped at the height.
use Rattle.std.proofs.Common.{◌≡◌, Result, Ok, Err, refl}
use Rattle.v_expression.specs.Phrase.Stops.{Stop, Syntax, TooDeep, ◌>>=◌}

abbrev pub Extends : {A : Type 0} → Result A Stop → Result A Stop → Type 0
Extends (Err (TooDeep n)) r = Unit {0}
Extends (Err (Syntax n)) r = r ≡ Err (Syntax n)
Extends (Ok x) r = r ≡ Ok x

pub same : {A : Type 0} → (m : Result A Stop) → Extends m m
same (Ok x) = refl
same (Err (Syntax n)) = refl
same (Err (TooDeep n)) = tt

pub extends_then : {A B : Type 0} → (f g : A → Result B Stop) → ((x : A) → Extends (f x) (g x)) → (m p : Result A Stop) → Extends m p → Extends (m >>= f) (p >>= g)
extends_then f g next (Ok x) p e = rw e (next x)
extends_then f g next (Err (Syntax n)) p e = rw e
extends_then f g next (Err (TooDeep n)) p e = tt
