-- A means of proof: what a call gave, against what reading gives, for the proofs of Python's parser.
use Rattle.std.specs.Prelude.{◌≡◌, List, map, Result, Ok, Err, Box}
use Rattle.std.proofs.Common.{Vec, Global}
use Rattle.py_syntax.specs.Line.{Line}
use Rattle.py_syntax.specs.Outline.{Placed, view_placed, view_content, Refusal, bad_line, no_block, too_deep, Refused, at_start}
use Rattle.py_syntax.specs.declared.outline.PlacedLine.{PlacedLine}
use Rattle.py_syntax.specs.declared.outline.Content as code
use Rattle.py_parse.specs.Reading.{Said, says, high, nothing, Outcome, stands, refused, placed_line}
use Rattle.py_parse.specs.declared.blocks.Blocks.{Blocks}
use Rattle.py_parse.specs.declared.fault.ContentFault.{ContentFault}
use Rattle.py_parse.specs.declared.fault.ContentFault.TheVariants as content_fault
use Rattle.py_parse.specs.declared.fault.PyFault.{PyFault}
use Rattle.py_parse.specs.declared.fault.PyFault.TheVariants as fault

abbrev pub lines_in : Vec PlacedLine Global → List Placed
lines_in v = map view_placed v.items

-- the refusal that the fault is; want of memory is none
abbrev pub IsFault : Refusal → PyFault → Type 0
IsFault r (fault.BadLine n) = r ≡ bad_line n
IsFault r (fault.NoBlock n) = r ≡ no_block n
IsFault r (fault.TooDeep n) = r ≡ too_deep n
IsFault r fault.OutOfMemory = Unit {0}

-- the same for a reading
abbrev pub Fails : {A : Type 0} → PyFault → Result A Refusal → Type 0
Fails (fault.BadLine n) read = read ≡ Err (bad_line n)
Fails (fault.NoBlock n) read = read ≡ Err (no_block n)
Fails (fault.TooDeep n) read = read ≡ Err (too_deep n)
Fails fault.OutOfMemory read = Unit {0}

abbrev pub Gives : {X A : Type 0} → (X → A) → Result X PyFault → Result A Refusal → Type 0
Gives view (Ok x) read = read ≡ Ok (view x)
Gives view (Err e) read = Fails e read

-- the first broken rule of the lines; want of memory is none
abbrev pub IsBroken : List Line → PyFault → Type 0
IsBroken ls (fault.BadLine n) = Refused at_start ls (bad_line n)
IsBroken ls (fault.NoBlock n) = Refused at_start ls (no_block n)
IsBroken ls (fault.TooDeep n) = Refused at_start ls (too_deep n)
IsBroken ls fault.OutOfMemory = Unit {0}

-- these lines, unless memory ran out
abbrev pub AreFound : List Placed → Result (Vec PlacedLine Global) PyFault → Type 0
AreFound ps (Ok v) = lines_in v ≡ ps
AreFound ps (Err e) = e ≡ fault.OutOfMemory

-- this refusal, unless memory ran out
abbrev pub IsRefused : {X : Type 0} → Refusal → Result X PyFault → Type 0
IsRefused r (Ok v) = ⊥
IsRefused r (Err e) = IsFault r e

-- What the code gave for a line, against what is read of it.

abbrev pub IsSaid : {Z : Type 0} → Result (Box code.Content Z) ContentFault → Said → Type 0
IsSaid (Ok c) said = said ≡ says (view_content c.value)
IsSaid (Err content_fault.Nothing) said = said ≡ nothing
IsSaid (Err content_fault.TooHigh) said = said ≡ high
IsSaid (Err content_fault.OutOfMemory) said = Unit {0}

abbrev pub FailsSo : PyFault → Outcome → Type 0
FailsSo (fault.BadLine n) out = out ≡ refused (bad_line n)
FailsSo (fault.NoBlock n) out = out ≡ refused (no_block n)
FailsSo (fault.TooDeep n) out = out ≡ refused (too_deep n)
FailsSo fault.OutOfMemory out = Unit {0}

abbrev pub IsOutcome : Line → Result (Blocks × PlacedLine) PyFault → Outcome → Type 0
IsOutcome l (Ok x) out = (out ≡ stands x.0 (view_content x.1.content)) × (view_placed x.1 ≡ placed_line l x.0 (view_content x.1.content))
IsOutcome l (Err e) out = FailsSo e out
