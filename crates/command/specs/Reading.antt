-- What the words come to, by the reads that are made.
use Rattle.std.specs.Prelude.{◌≡◌, ◌⊎◌, ◌||◌, ℕ, Bool, true, false, List, ◌∷◌, ◌++◌, [], Option, None, codes}
use Rattle.port_io.specs.Ports.{GivesFile}
use Rattle.port_io.specs.Means.{StoreMeans}
use Rattle.gpi.specs.declared.design.Flat.{Flat}
use Rattle.gpi.specs.Soundness.{IsSoundFlat}
use Rattle.command.specs.CommandWords.Forms as words
use Rattle.command.specs.CommandWords.Forms.{Asked, Form}
use Rattle.v_design.specs.declared.fault.DesignRefusal.{DesignRefusal}
use Rattle.v_design.specs.Designs as design_text
use Rattle.v_design.specs.Words as design_words
use Rattle.test_meaning.specs.Body.BodyTrees.{TestFile}
use Rattle.test_meaning.specs.Body.Sound.{is_sound}
use Rattle.test_meaning.specs.Body.Views.{view_file}
use Rattle.test_file.specs.declared.text.fault.TestsRefusal.{TestsRefusal}
use Rattle.test_file.specs.Text.Tests as tests_text
use Rattle.test_file.specs.Text.Words as tests_words
use Rattle.command.specs.MadeTexts.Texts as made
use Rattle.command.specs.declared.regression.status.Status.{Status}
use Rattle.command.specs.declared.regression.status.Status.TheVariants as status
use Rattle.command.specs.declared.options.RunOptions.{RunOptions}
use Rattle.command.specs.declared.options.Shown.{Shown}
use Rattle.command.specs.declared.options.Shown.TheVariants.{AllLines, LastLine, VcdText}
use Rattle.command.specs.declared.decision.Decision.{Decision}
use Rattle.command.specs.declared.decision.Decision.TheVariants.{Refused, Runs}

-- a refusal, by its status and its line; or the run of the tests of a file on a design
pub data Reading : Type 0 where
  refused : Status → List ℕ → Reading
  runs : Flat → TestFile → Reading

-- what is put of a run, by whether told changes have lines and whether its VCD text is asked for: of the run of generated texts the last line alone,
-- unless told changes have lines
abbrev pub shown_in : Asked → Bool → Bool → Shown
shown_in (words.files design tests top) trace true = VcdText
shown_in (words.files design tests top) trace false = AllLines
shown_in (words.made n) true vcd = AllLines
shown_in (words.made n) false vcd = LastLine

-- the budget and the seed that the words ask for, whether changes are told in the run, and what is put of it then
abbrev pub options_in : Form → RunOptions
options_in form =
    record { budget = form.budget; seed = form.seed; trace = form.trace || form.vcd; shown = shown_in form.asked form.trace form.vcd }

-- ---- the lines of refusals

abbrev pub usage_line : List ℕ
usage_line = codes "usage: cocorun [--top NAME] [--budget N] [--seed N] [--trace | --vcd] DESIGN TESTS" ++ 10 ∷ []

-- that file could not be read
abbrev pub read_line : List ℕ → List ℕ
read_line name = codes "error: cannot read " ++ name ++ 10 ∷ []

-- that file is refused for this reason
abbrev pub refused_line : List ℕ → List ℕ → List ℕ
refused_line name reason = codes "error: " ++ name ++ codes ": " ++ reason ++ 10 ∷ []

-- ---- the two files

-- how many bytes of a file are asked for: one more than a file may have
abbrev pub most : ℕ
most = 1048577

-- The bytes of the file of the tests have been read, for a design: the text is refused, or it stands for functions and tests.
abbrev pub TextOfTests : List ℕ → Flat → List ℕ → Reading → Type 0
TextOfTests tests flat text r =
    ((why : TestsRefusal) × (r ≡ refused status.TestsRefused (refused_line tests (tests_words.refusal_word why))) × tests_text.IsRefused why text)
    ⊎ ((file : TestFile) × (r ≡ runs flat file) × tests_text.IsTests text file)

-- ---- generated texts

-- the file as which the generated design counts
abbrev pub made_design : List ℕ
made_design = codes "made.v"

-- the file as which the generated tests count
abbrev pub made_tests : List ℕ
made_tests = codes "made.py"

-- The generated texts of a number are taken as those of two files, where no top is named.
abbrev pub IsMade : ℕ → Reading → Type 0
IsMade n r =
    ((why : DesignRefusal) × (r ≡ refused status.DesignRefused (refused_line made_design (design_words.refusal_word why)))
    × design_text.IsRefused None why made.design_text)
    ⊎ ((flat : Flat) × design_text.IsDesign None made.design_text flat × TextOfTests made_tests flat (made.tests_text n) r)

-- ---- reads

module _ {S : Type 0} (from : StoreMeans S) where
  -- the file of the tests is read
  abbrev pub ReadsTests : List ℕ → Flat → S → Reading → S → Type 0
  ReadsTests tests flat s r s' =
      ((r ≡ refused status.ReadFault (read_line tests)) × from.misses s tests s')
      ⊎ ((text : List ℕ) × from.gives s tests most text s' × TextOfTests tests flat text r)

  -- The bytes of the file of the design have been read: the text is refused, and the tests aren't read, or it is a design under that top.
  abbrev pub TextOfDesign : Option (List ℕ) → List ℕ → List ℕ → List ℕ → S → Reading → S → Type 0
  TextOfDesign top design tests text s r s' =
      ((why : DesignRefusal) × (r ≡ refused status.DesignRefused (refused_line design (design_words.refusal_word why))) × (s' ≡ s)
      × design_text.IsRefused top why text)
      ⊎ ((flat : Flat) × design_text.IsDesign top text flat × ReadsTests tests flat s r s')

  -- the file of the design is read, and then that of the tests
  abbrev pub ReadsBoth : Option (List ℕ) → List ℕ → List ℕ → S → Reading → S → Type 0
  ReadsBoth top design tests s r s' =
      ((r ≡ refused status.ReadFault (read_line design)) × from.misses s design s')
      ⊎ ((text : List ℕ) × (mid : S) × from.gives s design most text mid × TextOfDesign top design tests text mid r s')

  -- ---- the words

  -- the usage line, and nothing is read
  abbrev pub ReadsNothing : S → Reading → S → Type 0
  ReadsNothing s r s' = (r ≡ refused status.Usage usage_line) × (s' ≡ s)

  -- Two files are read, or the texts are generated, and nothing is read.
  abbrev pub ReadsAsked : Asked → S → Reading → S → Type 0
  ReadsAsked (words.files design tests top) s r s' = ReadsBoth top design tests s r s'
  ReadsAsked (words.made n) s r s' = IsMade n r × (s' ≡ s)

  -- The words have no reading, or they ask for this with these options.
  abbrev pub Reads : List (List ℕ) → S → RunOptions → Reading → S → Type 0
  Reads said s options r s' =
      (((form : Form) → words.Reads said form → ⊥) × ReadsNothing s r s')
      ⊎ ((form : Form) × words.Reads said form × (options ≡ options_in form) × ReadsAsked form.asked s r s')

-- a store of which its files are known alone
abbrev pub told_means : Option (List ℕ → Option (List ℕ)) → StoreMeans (Unit {0})
told_means there = record { files = λ a. there; gives = λ a name n text b. GivesFile there name n text; misses = λ a name b. Unit {0} }

-- The reading is one of these files: a text is the first bytes of the file of its name, at most as many as are asked for, where there are
-- files to tell of, and no file is read that isn't there. A read may fail all the same.
abbrev pub IsTold : Option (List ℕ → Option (List ℕ)) → List (List ℕ) → RunOptions → Reading → Type 0
IsTold there said options r = Reads (told_means there) said tt options r tt

-- ---- decisions

-- what a decision stands for
abbrev pub reading_of : Decision → Reading
reading_of (Refused own line) = refused own line.items
reading_of (Runs flat file) = runs flat (view_file file)

-- the status of a refusal: of the words, of a text, or for a file that could not be read
abbrev pub IsRefusalStatus : Status → Type 0
IsRefusalStatus status.Passed = ⊥
IsRefusalStatus status.Failed = ⊥
IsRefusalStatus status.Usage = Unit {0}
IsRefusalStatus status.DesignRefused = Unit {0}
IsRefusalStatus status.TestsRefused = Unit {0}
IsRefusalStatus status.ReadFault = Unit {0}
IsRefusalStatus status.WriteFault = ⊥
IsRefusalStatus status.NoMemory = ⊥
IsRefusalStatus status.Budget = ⊥

-- a refusal has the status of one, and what is to run can be run
abbrev pub CanRun : Decision → Type 0
CanRun (Refused own line) = IsRefusalStatus own
CanRun (Runs flat file) = IsSoundFlat flat × (is_sound (view_file file) ≡ true)
