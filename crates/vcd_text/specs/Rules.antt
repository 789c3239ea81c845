-- A means of proof: the rules of a VCD text, line by line: which lines may stand behind those before, and what is known then.
use Rattle.std.specs.Prelude.{◌≡◌, ◌⊎◌, ◌<◌, ◌≤◌, ◌+◌, ◌||◌, ℕ, Bool, true, false, List, [], ◌∷◌, ◌++◌, codes, map, length, take, replicate, Some, slice_get, bytes_eq}
use Rattle.four_value.specs.declared.Digit.{Digit}
use Rattle.four_value.specs.Vector.{digit_byte}
use Rattle.gpi.specs.Limits.{most_elements}
use Rattle.vcd_text.specs.Spelling.{line, value_line, time_line}
use Rattle.vcd_text.specs.Hierarchy.{most_inner}
use Rattle.vcd_text.specs.Forms.{IsStep, IsScope, IsVar, IsTime, IsValue}
use Rattle.vcd_text.specs.Reading.{HasLines, last_line}
use Rattle.vcd_text.specs.declared.change.Change.{Change}
use Rattle.vcd_text.specs.declared.reader.Known.{Known}
use Rattle.vcd_text.specs.declared.reader.Part.{Part}
use Rattle.vcd_text.specs.declared.reader.Part.TheVariants.{Step, Top, Inside, Ended, Start, Dump, Opening, Changes}

-- ---- what is known behind some lines

-- an instance whose end is still to come: its path, and which names are used in it
pub record OpenScope : Type 0 where
  pub path : List ℕ
  pub uses : List ℕ → Bool

-- A means of proof: where a text stands behind some of its lines, as a reader of it keeps that. `part` says of what part of the text the next line
-- is; `outer` are the open instances around the innermost one, from the top on. A signal may be declared where no instance stands in the innermost
-- one yet (`fresh`), with a number that is at least `free`. So many instances there are, so many opening values are told, and this is the last time,
-- which waits for a value or not.
pub record ReadState : Type 0 where
  pub part : Part
  pub scope : OpenScope
  pub outer : List OpenScope
  pub nodes : ℕ
  pub fresh : Bool
  pub free : ℕ
  pub known : List Known
  pub told : ℕ
  pub time : ℕ
  pub waits : Bool
  pub changes : List Change

abbrev pub no_scope : OpenScope
no_scope = record { path = []; uses = λ name. false }

-- where each text stands before its first line
abbrev pub begun : ReadState
begun = record { part = Step; scope = no_scope; outer = []; nodes = 0; fresh = false; free = 0; known = []; told = 0; time = 0; waits = false; changes = [] }

-- the instance uses this name, too
abbrev pub with_name : List ℕ → OpenScope → OpenScope
with_name name scope = record { path = scope.path; uses = λ other. bytes_eq other name || scope.uses other }

-- the path of what has this name in an instance
abbrev pub inner_path : List ℕ → List ℕ → List ℕ
inner_path path name = path ++ codes "." ++ name

-- ---- what a line changes

-- the next line is of this part
abbrev pub goes_to : Part → ReadState → ReadState
goes_to part s = record s { part = part }

-- the top begins
abbrev pub with_top : List ℕ → ReadState → ReadState
with_top name s = record s { part = Inside; scope = record { path = name; uses = λ other. false }; nodes = 1; fresh = true }

-- an instance of this name begins in the innermost one
abbrev pub with_instance : List ℕ → ReadState → ReadState
with_instance name s = record s {
  scope = record { path = inner_path s.scope.path name; uses = λ other. false };
  outer = s.outer ++ with_name name s.scope ∷ [];
  nodes = s.nodes + 1;
  fresh = true;
}

-- a signal stands in the innermost instance
abbrev pub with_signal : ℕ → List ℕ → Digit → ℕ → ReadState → ReadState
with_signal number name start width s = record s {
  scope = with_name name s.scope;
  free = number + 1;
  known = s.known ++ record { number = number; path = inner_path s.scope.path name; width = width; start = start } ∷ [];
}

-- the innermost instance ends, and these are those around it
abbrev pub with_end : List OpenScope → OpenScope → ReadState → ReadState
with_end outer scope s = record s { scope = scope; outer = outer; fresh = false }

abbrev pub with_opening : ReadState → ReadState
with_opening s = record s { told = s.told + 1 }

abbrev pub with_time : ℕ → ReadState → ReadState
with_time time s = record s { time = time; waits = true }

abbrev pub with_value : Known → List ℕ → ReadState → ReadState
with_value signal digits s = record s { waits = false; changes = s.changes ++ record { time = s.time; path = signal.path; digits = digits } ∷ [] }

-- ---- which lines there may be

-- the line is this one, behind which the next part begins
pub record TakesWord (word : List ℕ) (next : Part) (before : ReadState) (text : List ℕ) (after : ReadState) : Type 0 where
  pub is : text ≡ word
  pub next_is : after ≡ goes_to next before

pub record TakesStep (before : ReadState) (text : List ℕ) (after : ReadState) : Type 0 where
  pub step : ℕ
  pub is : IsStep text step
  pub next_is : after ≡ goes_to Top before

pub record TakesTop (before : ReadState) (text : List ℕ) (after : ReadState) : Type 0 where
  pub name : List ℕ
  pub is : IsScope text name
  pub next_is : after ≡ with_top name before

-- an instance begins, whose name is new in the innermost one; 64 stand inside one another below the top at the most
pub record TakesInstance (before : ReadState) (text : List ℕ) (after : ReadState) : Type 0 where
  pub name : List ℕ
  pub is : IsScope text name
  pub unused : before.scope.uses name ≡ false
  pub inner : length before.outer < most_inner
  pub few : before.nodes < most_elements
  pub next_is : after ≡ with_instance name before

-- a signal, whose name is new in the innermost instance, stands before all instances in it; numbers rise
pub record TakesSignal (before : ReadState) (text : List ℕ) (after : ReadState) : Type 0 where
  pub number : ℕ
  pub name : List ℕ
  pub start : Digit
  pub width : ℕ
  pub is : IsVar text number name start width
  pub unused : before.scope.uses name ≡ false
  pub first : before.fresh ≡ true
  pub rises : before.free ≤ number
  pub next_is : after ≡ with_signal number name start width before

-- the innermost instance ends: the top, or one that stands in another
abbrev pub Ends : ReadState → ReadState → Type 0
Ends before after =
    ((before.outer ≡ []) × (after ≡ goes_to Ended before))
    ⊎ ((outer : List OpenScope) × (scope : OpenScope) × (before.outer ≡ outer ++ scope ∷ []) × (after ≡ with_end outer scope before))

pub record TakesEnd (before : ReadState) (text : List ℕ) (after : ReadState) : Type 0 where
  pub is : text ≡ line (codes "$upscope $end")
  pub ends : Ends before after

abbrev pub TakesDeclaration : ReadState → List ℕ → ReadState → Type 0
TakesDeclaration before text after = TakesInstance before text after ⊎ (TakesSignal before text after ⊎ TakesEnd before text after)

-- the opening value of the next signal; behind the last one the changes begin
pub record TakesValue (before : ReadState) (text : List ℕ) (after : ReadState) : Type 0 where
  pub signal : Known
  pub there : slice_get before.known before.told ≡ Some signal
  pub is : text ≡ value_line signal.number (replicate signal.width (digit_byte signal.start))
  pub next_is : after ≡ with_opening before

pub record TakesLast (before : ReadState) (text : List ℕ) (after : ReadState) : Type 0 where
  pub all : length before.known ≤ before.told
  pub is : text ≡ line (codes "$end")
  pub next_is : after ≡ goes_to Changes before

abbrev pub TakesOpening : ReadState → List ℕ → ReadState → Type 0
TakesOpening before text after = TakesValue before text after ⊎ TakesLast before text after

-- a time, which is later than the last one, and behind which a value of some signal stands
pub record TakesTime (before : ReadState) (text : List ℕ) (after : ReadState) : Type 0 where
  pub time : ℕ
  pub is : IsTime text time
  pub later : before.time < time
  pub apart : before.waits ≡ false
  pub some : 0 < length before.known
  pub next_is : after ≡ with_time time before

-- digits of a signal that is declared, as many as it has
pub record TakesChange (before : ReadState) (text : List ℕ) (after : ReadState) : Type 0 where
  pub place : ℕ
  pub signal : Known
  pub there : slice_get before.known place ≡ Some signal
  pub digits : List ℕ
  pub is : IsValue text signal.number digits
  pub width : length digits ≡ signal.width
  pub next_is : after ≡ with_value signal digits before

abbrev pub TakesNext : ReadState → List ℕ → ReadState → Type 0
TakesNext before text after = TakesTime before text after ⊎ TakesChange before text after

-- the line may be the next one, and the text stands so behind it
abbrev pub TakesIn : Part → ReadState → List ℕ → ReadState → Type 0
TakesIn Step = TakesStep
TakesIn Top = TakesTop
TakesIn Inside = TakesDeclaration
TakesIn Ended = TakesWord (line (codes "$enddefinitions $end")) Start
TakesIn Start = TakesWord (time_line 0) Dump
TakesIn Dump = TakesWord (line (codes "$dumpvars")) Opening
TakesIn Opening = TakesOpening
TakesIn Changes = TakesNext

abbrev pub Takes : ReadState → List ℕ → ReadState → Type 0
Takes before text after = TakesIn before.part before text after

-- the lines may stand one behind the other, and the text stands so behind them
abbrev pub TakesLines : ReadState → List (List ℕ) → ReadState → Type 0
TakesLines before [] after = after ≡ before
TakesLines before (text ∷ texts) after = (mid : ReadState) × Takes before text mid × TakesLines mid texts after

-- a text may end here
pub record IsOver (s : ReadState) : Type 0 where
  pub part : s.part ≡ Changes
  pub apart : s.waits ≡ false

-- ---- what a reader answers

-- the text keeps the rules, and tells these changes
pub record IsRead (text : List ℕ) (changes : List Change) : Type 0 where
  pub lines : List (List ℕ)
  pub split : HasLines text lines []
  pub last : ReadState
  pub taken : TakesLines begun (map line lines) last
  pub over : IsOver last
  pub told : changes ≡ last.changes

-- the lines before this one may stand so, but not with this one behind them
pub record BreaksAt (lines : List (List ℕ)) (number : ℕ) : Type 0 where
  pub before : ℕ
  pub counted : number ≡ before + 1
  pub there : before < length lines
  pub front : ReadState
  pub taken : TakesLines begun (map line (take before lines)) front
  pub broken : (other : ReadState) → TakesLines begun (map line (take number lines)) other → ⊥

-- the lines may stand so, but the text can't end there; this is its last line
pub record EndsEarly (text : List ℕ) (lines : List (List ℕ)) (open_line : List ℕ) (number : ℕ) : Type 0 where
  pub front : ReadState
  pub taken : TakesLines begun (map line lines) front
  pub unended : (changes : List Change) → IsRead text changes → ⊥
  pub last : number ≡ last_line lines open_line

-- the text is refused at the line of this number, from 1
abbrev pub IsRefused : List ℕ → ℕ → Type 0
IsRefused text number =
    (lines : List (List ℕ)) × (open_line : List ℕ) × HasLines text lines open_line × (BreaksAt lines number ⊎ EndsEarly text lines open_line number)
