-- What words ask for.
use Rattle.std.specs.Prelude.{◌≡◌, ◌≢◌, ◌≤◌, ◌∷◌, ◌&&◌, ◌||◌, ℕ, Bool, true, false, not, IsTrue, List, [], length, Option, Some, None, option_map, codes}
use Rattle.std.specs.Str.Parse.{IsNumeral, digits_value}
use Rattle.command.specs.CommandWords.Words.{Said, Say, Text, values_of}
use Rattle.command.specs.declared.command_words.reading.Reading.{Reading}
use Rattle.command.specs.declared.command_words.reading.Work.{Work}
use Rattle.command.specs.declared.command_words.reading.Work.TheVariants as work

-- what to run: the tests of a file on a design, where the top module may be named; or generated texts, by their number
pub data Asked : Type 0 where
  files : Text → Text → Option Text → Asked
  made : ℕ → Asked

pub record Form : Type 0 where
  pub asked : Asked
  pub budget : ℕ
  pub seed : ℕ
  pub trace : Bool
  pub vcd : Bool

-- 1 to 20 digits, of a number in these bounds
abbrev pub SaysNumber : ℕ → ℕ → Text → ℕ → Type 0
SaysNumber least most text n = (length text ≤ 20) × IsNumeral 10 text × (n ≡ digits_value 10 text) × (least ≤ n) × (n ≤ most)

-- an option's number, by the values that are given to it: at most one, and the number that it has without any
abbrev pub IsNumber : ℕ → ℕ → ℕ → List Text → ℕ → Type 0
IsNumber without least most [] n = n ≡ without
IsNumber without least most (text ∷ []) n = SaysNumber least most text n
IsNumber without least most (a ∷ b ∷ rest) n = ⊥

-- the run may cost 1 to 2^40, and 10,000,000 where nothing is said
abbrev pub IsBudget : List Text → ℕ → Type 0
IsBudget = IsNumber 10000000 1 1099511627776

-- the seed is 0 to 2^64 - 1, and 0 where nothing is said
abbrev pub IsSeed : List Text → ℕ → Type 0
IsSeed = IsNumber 0 0 18446744073709551615

-- the number of generated texts is 0 to 2^32 - 1
abbrev pub IsMade : Text → ℕ → Type 0
IsMade = SaysNumber 0 4294967295

-- a flag is given once at most
abbrev pub IsFlag : List Text → Bool → Type 0
IsFlag [] flag = flag ≡ false
IsFlag (a ∷ []) flag = flag ≡ true
IsFlag (a ∷ b ∷ rest) flag = ⊥

-- a name is given once at most, and isn't empty
abbrev pub IsGiven : List Text → Option Text → Type 0
IsGiven [] name = name ≡ None
IsGiven (text ∷ []) name = (name ≡ Some text) × (text ≢ [])
IsGiven (a ∷ b ∷ rest) name = ⊥

abbrev pub AreFiles : Text → Text → List Text → Asked → Type 0
AreFiles design tests tops asked =
    (top : Option Text) × (asked ≡ files design tests top) × (design ≢ []) × (tests ≢ []) × IsGiven tops top

abbrev pub IsGenerated : Text → Asked → Type 0
IsGenerated text asked = (n : ℕ) × (asked ≡ made n) × IsMade text n

-- exactly one of two forms, by the files, the values of `--top` and those of `--made`: two files and no `--made`, or `--made`, no file
-- and no `--top`
abbrev pub IsAsked : List Text → List Text → List Text → Asked → Type 0
IsAsked (design ∷ tests ∷ []) tops [] asked = AreFiles design tests tops asked
IsAsked [] [] (text ∷ []) asked = IsGenerated text asked
IsAsked _ _ _ asked = ⊥

abbrev pub are_files : Asked → Bool
are_files (files design tests top) = true
are_files (made n) = false

-- the VCD text of a run is written of two files alone, and without lines for told changes
abbrev pub stands_apart : Asked → Bool → Bool → Bool
stands_apart asked trace vcd = not vcd || (not trace && are_files asked)

-- what is given to each option, and the files, ask for this
pub record IsForm (files tops mades budgets seeds traces vcds : List Text) (form : Form) : Type 0 where
  pub asked : IsAsked files tops mades form.asked
  pub budget : IsBudget budgets form.budget
  pub seed : IsSeed seeds form.seed
  pub trace : IsFlag traces form.trace
  pub vcd : IsFlag vcds form.vcd
  pub apart : IsTrue (stands_apart form.asked form.trace form.vcd)

abbrev pub IsFormOf : List Said → Form → Type 0
IsFormOf said = IsForm (values_of (codes "files") said) (values_of (codes "top") said) (values_of (codes "made") said)
    (values_of (codes "budget") said) (values_of (codes "seed") said) (values_of (codes "trace") said) (values_of (codes "vcd") said)

-- The words have this reading.
abbrev pub Reads : List Text → Form → Type 0
Reads words form = (said : List Said) × Say words said × IsFormOf said form

-- each list of words has at most one reading
abbrev pub ReadOnce : Type 0
ReadOnce = (words : List Text) (a b : Form) → Reads words a → Reads words b → a ≡ b

abbrev pub asked_of : Work → Asked
asked_of (work.Files design tests top) = files design.now tests.now (option_map (λ s. s.now) top)
asked_of (work.Made n) = made n

-- what a reading stands for
abbrev pub form_of : Reading → Form
form_of r = record { asked = asked_of r.work; budget = r.budget; seed = r.seed; trace = r.trace; vcd = r.vcd }
