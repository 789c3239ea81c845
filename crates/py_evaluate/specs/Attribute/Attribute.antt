-- Attributes of values, words of memories, the text that `str` gives, and the signal whose width `len` tells (the language reference, 6.3.1
-- and 6.3.2; the library reference, "Built-in Functions").
use Rattle.std.specs.Prelude.{ℕ, ◌+◌, ◌-◌, ◌^◌, ◌==◌, ◌&&◌, nat_lt, nat_le, List, [], ◌∷◌, length, codes, Option, Some, None, is_some, unwrap_or, if◌then◌else◌, Ok, Err, ℤ, pos, negsuc, ◌-ℤ◌}
use Rattle.std.specs.Option.{option_or}
use Rattle.std.specs.Str.{bytes_eq}
use Rattle.four_value.specs.declared.Digit.{Digit}
use Rattle.gpi.specs.declared.types.SigId.{SigId}
use Rattle.py_syntax.specs.declared.fault_kind.FaultKind.TheVariants.{AttributeError, IndexError, OverflowError, TypeError, ValueError}
use Rattle.py_value.specs.Integer.Integer.{held}
use Rattle.py_value.specs.Answer.{Answer, and_then}
use Rattle.py_value.specs.Limits.{text_limit}
use Rattle.py_value.specs.Places.{Places}
use Rattle.four_value.specs.Vector.{digit_letters, number}
use Rattle.py_value.specs.Shown.{shown}
use Rattle.py_value.specs.declared.value.Value.{Value}
use Rattle.py_value.specs.declared.value.Value.TheVariants.{Truth, Text, Vector, Words, Signal}
use Rattle.py_value.specs.Operator.Number.{one_number, whole}

-- ---- texts

abbrev pub text_value : List ℕ → Answer Value
text_value bs = if nat_lt text_limit (length bs) then Err OverflowError else Ok (Text bs)

-- `str(v)`
abbrev pub str_value : Places → Value → Answer Value
str_value places v = text_value (shown places v)

-- ---- paths

-- the byte `.`
abbrev pub dot : ℕ
dot = 46

-- what stands behind the last dot
abbrev pub behind_dot : List ℕ → Option (List ℕ)
behind_dot [] = None
behind_dot (b ∷ bs) = option_or (behind_dot bs) (if b == dot then Some bs else None)

-- the part of a path behind its last dot, or the whole path where it has none
abbrev pub name_of_path : List ℕ → List ℕ
name_of_path path = unwrap_or (behind_dot path) path

-- `_path` and `_name` of a signal or a hierarchy
abbrev pub path_attribute : List ℕ → List ℕ → Answer Value
path_attribute path name =
    if bytes_eq name (codes "_path") then text_value path
    else (if bytes_eq name (codes "_name") then text_value (name_of_path path) else Err AttributeError)

-- ---- vectors

-- the number in two's complement of w digits whose unsigned number is n
abbrev pub signed_number : ℕ → ℕ → ℤ
signed_number w n = if nat_lt n (2 ^ (w - 1)) then pos n else pos n -ℤ pos (2 ^ w)

abbrev pub signed_integer : ℕ → Option ℕ → Answer Value
signed_integer w (Some n) = whole (held (signed_number w n))
signed_integer w None = Err ValueError

abbrev pub vector_attribute : List Digit → List ℕ → Answer Value
vector_attribute ds name =
    if bytes_eq name (codes "integer") then and_then (one_number (Vector ds)) (λ z. whole (held z))
    else (if bytes_eq name (codes "signed_integer") then signed_integer (length ds) (number ds)
    else (if bytes_eq name (codes "binstr") then Ok (Text (digit_letters ds))
    else (if bytes_eq name (codes "is_resolvable") then Ok (Truth (is_some (number ds)))
    else Err AttributeError)))

-- ---- memories and signals

-- a word of a memory whose words have the indices from low on
abbrev pub word_at : SigId → ℕ → ℕ → ℤ → Answer Value
word_at first low count (pos n) = if nat_le low n && nat_lt n (low + count) then Ok (Signal (record { 0 = first.0 + (n - low) })) else Err IndexError
word_at first low count (negsuc n) = Err IndexError

abbrev pub indexed : Value → Value → Answer Value
indexed (Words first low count) i = and_then (one_number i) (word_at first low count)
indexed _ i = Err TypeError

-- the signal that a value is: `len` takes it, and edges do
abbrev pub signal_of : Value → Answer SigId
signal_of (Signal s) = Ok s
signal_of _ = Err TypeError
