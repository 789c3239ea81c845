-- What stands behind the last dot, from one byte to the next.
use Rattle.std.proofs.Common.{◌≡◌, ℕ, suc, ◌+◌, ◌<◌, Bool, true, false, List, length, drop, get_or, Option, Some, None, refl, add-one, drop-cons}
use Rattle.std.specs.Prelude.{◌==◌, unwrap_or, if◌then◌else◌}
use Rattle.std.specs.Option.{option_or}
use Rattle.py_evaluate.specs.Attribute.Attribute.{behind_dot}

last_by : (o : Option (List ℕ)) (t : Bool) (bs name : List ℕ) → unwrap_or (option_or o (if t then Some bs else None)) name ≡ unwrap_or o (if t then bs else name)
last_by (Some x) t bs name = refl
last_by None true bs name = refl
last_by None false bs name = refl

pub next : (path : List ℕ) (at : ℕ) (name : List ℕ) → at < length path → unwrap_or (behind_dot (drop at path)) name ≡ unwrap_or (behind_dot (drop (at + 1) path)) (if get_or path at 0 == 46 then drop (at + 1) path else name)
next path at name h =
    rw (add-one, drop-cons path at 0 h) (last_by (behind_dot (drop (suc at) path)) (get_or path at 0 == 46) (drop (suc at) path) name)
