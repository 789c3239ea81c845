-- A means of proof: how a status, counts and digits are shown, for the test program of runs.
use Rattle.std.specs.Prelude.{ℕ, List, ◌++◌, codes}
use Rattle.std.specs.Fmt.{decimal}
use Rattle.four_value.specs.declared.Digit.{Digit}
use Rattle.four_value.specs.declared.Digit.TheVariants as digit
use Rattle.gpi.specs.declared.types.Counts.{Counts}
use Rattle.command.specs.Regression.Status.{code_of}
use Rattle.command.specs.declared.regression.status.Status.{Status}
use Rattle.command.specs.declared.regression.status.Status.TheVariants as status
use Rattle.table_rows.specs.Shown.{in_quotes}

-- a status by its name
abbrev pub status_word : Status → List ℕ
status_word status.Passed = codes "Passed"
status_word status.Failed = codes "Failed"
status_word status.Usage = codes "Usage"
status_word status.DesignRefused = codes "DesignRefused"
status_word status.TestsRefused = codes "TestsRefused"
status_word status.ReadFault = codes "ReadFault"
status_word status.WriteFault = codes "WriteFault"
status_word status.NoMemory = codes "NoMemory"
status_word status.Budget = codes "Budget"

-- a digit by its name
abbrev pub digit_word : Digit → List ℕ
digit_word digit.Zero = codes "Zero"
digit_word digit.One = codes "One"
digit_word digit.X = codes "X"
digit_word digit.Z = codes "Z"

-- how many keys a simulator registered, removed and fired since it was loaded
abbrev pub counts_word : Counts → List ℕ
counts_word counts =
    codes "primed=" ++ decimal counts.primed ++ codes " removed=" ++ decimal counts.removed ++ codes " fired=" ++ decimal counts.fired

-- a status by its number and its name, and the lines that were put
abbrev pub ended_word : Status → List ℕ → List ℕ
ended_word own lines = decimal (code_of own) ++ (codes " " ++ (status_word own ++ (codes " " ++ in_quotes lines)))

-- a status, counts, and the lines that were put
abbrev pub counted_word : Status → Counts → List ℕ → List ℕ
counted_word own counts lines = status_word own ++ (codes " " ++ (counts_word counts ++ (codes " " ++ in_quotes lines)))
