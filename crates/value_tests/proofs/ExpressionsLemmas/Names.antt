-- Names one after the other, and what the scene knows of them.
use Rattle.std.proofs.Common.{◌≡◌, ℕ, Bool, true, false, List, [], ◌∷◌, ◌++◌, if◌then◌else◌, Some, refl, ap}
use Rattle.std.specs.Prelude.{IfSome}
use Rattle.std.specs.List.{find}
use Rattle.std.specs.Option.{option_and_then}
use Rattle.std.specs.Str.{bytes_eq}
use Rattle.py_evaluate.specs.Attribute.Look.{View, Names, Local, local}
use Rattle.py_evaluate.specs.Attribute.Knows.{KnowsNames, Knows}
use Rattle.value_tests.specs.declared.expressions.variables.Variable.{Variable}
use Rattle.value_tests.specs.Expressions.Variables.{local_of, locals_of}

pub locals_more : (vs : List Variable) (v : Variable) → locals_of (vs ++ v ∷ []) ≡ locals_of vs ++ local_of v ∷ []
locals_more [] v = refl
locals_more (w ∷ ws) v = ap (λ ls. local_of w ∷ ls) (locals_more ws v)

-- the value of each name, the first of that name or not
abbrev pub EachKnown : View → Names → Type 0
EachKnown view [] = Unit {0}
EachKnown view (l ∷ ls) = IfSome l.value (Knows view) × EachKnown view ls

at : (view : View) (l : Local) (ls : Names) (n : List ℕ) (t : Bool) → IfSome l.value (Knows view) → IfSome (local ls n) (Knows view)
    → IfSome (option_and_then (λ (m : Local). m.value) (if t then Some l else find (λ (m : Local). bytes_eq m.name n) ls)) (Knows view)
at view l ls n true h k = h
at view l ls n false h k = k

pub names_known : (view : View) (ls : Names) → EachKnown view ls → KnowsNames view ls
names_known view [] h n = tt
names_known view (l ∷ ls) h n = at view l ls n (bytes_eq l.name n) h.0 (names_known view ls h.1 n)
