-- The units of time of a directive, and how many of one it may ask for (IEEE 1364-2005, clause 19.8).
use Rattle.std.specs.Prelude.{ℕ, List, Option, Some, None, if◌then◌else◌}
use Rattle.std.specs.Str.{bytes_eq}
use lib.Chars.{codes}

-- femtoseconds of a unit of time
abbrev pub unit_of : List ℕ → Option ℕ
unit_of word =
    if bytes_eq word (codes "s") then Some 1000000000000000
    else (if bytes_eq word (codes "ms") then Some 1000000000000
    else (if bytes_eq word (codes "us") then Some 1000000000
    else (if bytes_eq word (codes "ns") then Some 1000000
    else (if bytes_eq word (codes "ps") then Some 1000 else (if bytes_eq word (codes "fs") then Some 1 else None)))))

abbrev pub magnitude_of : List ℕ → Option ℕ
magnitude_of digits =
    if bytes_eq digits (codes "1") then Some 1
    else (if bytes_eq digits (codes "10") then Some 10 else (if bytes_eq digits (codes "100") then Some 100 else None))
