-- What is put for a reading, and what is known of it from without.
use Rattle.std.specs.Prelude.{◌≡◌, ◌⊎◌, ℕ, Bool, List, [], ◌∷◌, Option, None, Some, option_to_list}
use Rattle.std.specs.Io.KnownBytes.{Appends}
use Rattle.port_io.specs.Ports.{AppendsPart, IsRaised}
use Rattle.port_io.specs.Means.{StoreMeans, SinkMeans, PutsTo}
use Rattle.port_io.specs.ToldLaws.{joined}
use Rattle.port_io.specs.declared.ports.SinkFault.TheVariants.{Failed, OutOfMemory}
use Rattle.gpi.specs.Content.{Content}
use Rattle.gpi.specs.declared.design.Flat.{Flat}
use Rattle.vcd_text.specs.Changes.{ValueChange}
use Rattle.vcd_text.specs.Text.{begin_lines, vcd}
use Rattle.vcd_text.specs.TracedLines.{TellAll}
use Rattle.test_meaning.specs.Body.BodyTrees.{Case, TestFile}
use Rattle.rig_model.specs.Run.Rig.{Rig, Setup}
use Rattle.rig_model.specs.Run.Run.{Run, IsRun, IsStart, written}
use Rattle.rig_model.specs.Parts.Fits.{StandsFor}
use Rattle.command.specs.LastLine.Last.{last_of}
use Rattle.command.specs.Regression.Runs.{RunsTo, EndsTo, status_of}
use Rattle.command.specs.declared.regression.status.Status.{Status}
use Rattle.command.specs.declared.regression.status.Status.TheVariants as status
use Rattle.command.specs.declared.options.RunOptions.{RunOptions}
use Rattle.command.specs.declared.options.Shown.{Shown}
use Rattle.command.specs.declared.options.Shown.TheVariants.{AllLines, LastLine, VcdText}
use Rattle.command.specs.Reading.{Reading, refused, runs, Reads, IsTold, usage_line}

-- ---- lines and statuses

-- what all tests of a run share: the functions of the file, the design, and whether told changes are written
abbrev pub setup_with : Bool → Flat → TestFile → Setup
setup_with trace flat file = record { functions = file.functions; flat = flat; trace = trace }

-- the last of these lines alone
abbrev pub last_alone : List (List ℕ) → List (List ℕ)
last_alone lines = option_to_list (last_of lines)

-- These are the lines that are put of a run on that design which has written those: all of them, or the last one alone, or the lines of the VCD text
-- of the changes that they tell (IEEE 1364-2005, clause 18).
abbrev pub AreShown : Shown → Flat → List (List ℕ) → List (List ℕ) → Type 0
AreShown AllLines flat written lines = lines ≡ written
AreShown LastLine flat written lines = lines ≡ last_alone written
AreShown VcdText flat written lines = (changes : List ValueChange) × TellAll flat written changes × (lines ≡ vcd flat changes)

-- The lines and the status of a reading, where nothing fails: the one line of a refusal, or those of the run that are put.
abbrev pub IsAnswer : RunOptions → Reading → List (List ℕ) → Status → Type 0
IsAnswer options (refused own line) lines s = (lines ≡ line ∷ []) × (s ≡ own)
IsAnswer options (runs flat file) lines s =
    (run : Run) × IsRun (setup_with options.trace flat file) options.seed file.cases options.budget run
    × AreShown options.shown flat (written (setup_with options.trace flat file) options.budget run) lines × (s ≡ status_of run)

-- ---- what is put

-- The tests of a file are run, and all lines of the run are put, which leaves the simulator with this content.
abbrev pub RunsFile : {O : Type 0} → SinkMeans O → RunOptions → Flat → TestFile → Status → Content → O → O → Type 0
RunsFile sink options flat file s content out out' =
    (last : Rig) × RunsTo sink (setup_with options.trace flat file) options.seed file.cases options.budget s last content out out'

-- Memory was short before anything was put.
pub record Quit {O : Type 0} (s : Status) (out out' : O) : Type 0 where
  pub short : s ≡ status.NoMemory
  pub same : out' ≡ out

-- A run has stopped, what the simulator holds stands for that place, and then the last line of the run is put.
pub record PutsLast {O : Type 0} (sink : SinkMeans O) (setup : Setup) (budget : ℕ) (run : Run) (s : Status) (content : Content) (out out' : O) : Type 0 where
  pub stands : StandsFor setup content run.rig
  pub ends : EndsTo sink (last_alone (written setup budget run)) (status_of run) s out out'

-- The tests of a file are run, and the last line of the run is put alone, unless memory was short before it.
abbrev pub RunsLast : {O : Type 0} → SinkMeans O → RunOptions → Flat → TestFile → Status → Content → O → O → Type 0
RunsLast sink options flat file s content out out' =
    ((run : Run) × IsRun (setup_with options.trace flat file) options.seed file.cases options.budget run
    × PutsLast sink (setup_with options.trace flat file) options.budget run s content out out')
    ⊎ Quit s out out'

-- A run has stopped, and all lines of its VCD text were taken. What the simulator holds stands for the place where it stopped.
pub record WholeText {O : Type 0} (sink : SinkMeans O) (setup : Setup) (seed : ℕ) (cases : List Case) (budget : ℕ) (s : Status)
    (content : Content) (out out' : O) : Type 0 where
  pub run : Run
  pub is_run : IsRun setup seed cases budget run
  pub status_is : s ≡ status_of run
  pub changes : List ValueChange
  pub tell : TellAll setup.flat (written setup budget run) changes
  pub puts : PutsTo sink out (vcd setup.flat changes) None out'
  pub stands : StandsFor setup content run.rig

-- The lines of the VCD text of what the first lines of a run tell are put in order, up to a put that breaks.
pub record BrokenText {O : Type 0} (sink : SinkMeans O) (setup : Setup) (seed : ℕ) (cases : List Case) (budget : ℕ) (out out' : O) : Type 0 where
  pub lines : List (List ℕ)
  pub starts : IsStart setup seed cases budget lines
  pub changes : List ValueChange
  pub tell : TellAll setup.flat lines changes
  pub puts : PutsTo sink out (vcd setup.flat changes) (Some Failed) out'

-- Memory was short: the lines of the VCD text before its changes were put as far as memory went, or all of them were taken, and of what was put
-- behind these nothing is said.
abbrev pub ShortText : {O : Type 0} → SinkMeans O → Flat → O → O → Type 0
ShortText {O} sink flat out out' =
    PutsTo sink out (begin_lines flat) (Some OutOfMemory) out' ⊎ ((mid : O) × PutsTo sink out (begin_lines flat) None mid)

-- The tests are run, and the VCD text of the run is put.
abbrev pub RunsText : {O : Type 0} → SinkMeans O → Setup → ℕ → List Case → ℕ → Status → Content → O → O → Type 0
RunsText sink setup seed cases budget status.Passed content out out' = WholeText sink setup seed cases budget status.Passed content out out'
RunsText sink setup seed cases budget status.Failed content out out' = WholeText sink setup seed cases budget status.Failed content out out'
RunsText sink setup seed cases budget status.Budget content out out' = WholeText sink setup seed cases budget status.Budget content out out'
RunsText sink setup seed cases budget status.WriteFault content out out' = BrokenText sink setup seed cases budget out out'
RunsText sink setup seed cases budget status.NoMemory content out out' = ShortText sink setup.flat out out'
RunsText sink setup seed cases budget status.Usage content out out' = ⊥
RunsText sink setup seed cases budget status.DesignRefused content out out' = ⊥
RunsText sink setup seed cases budget status.TestsRefused content out out' = ⊥
RunsText sink setup seed cases budget status.ReadFault content out out' = ⊥

-- The tests of a file are run, and these lines of the run are put.
abbrev pub RunsShown : {O : Type 0} → Shown → SinkMeans O → RunOptions → Flat → TestFile → Status → Content → O → O → Type 0
RunsShown AllLines sink options flat file s content out out' = RunsFile sink options flat file s content out out'
RunsShown LastLine sink options flat file s content out out' = RunsLast sink options flat file s content out out'
RunsShown VcdText sink options flat file s content out out' =
    RunsText sink (setup_with options.trace flat file) options.seed file.cases options.budget s content out out'

-- The line of a refusal is put, or else the tests are run.
abbrev pub Answers : {O : Type 0} → SinkMeans O → RunOptions → Reading → Status → Content → O → O → Type 0
Answers sink options (refused own line) s content out out' = EndsTo sink (line ∷ []) own s out out'
Answers sink options (runs flat file) s content out out' = RunsShown options.shown sink options flat file s content out out'

-- What a sink that tells its bytes has after a status: all the bytes of the lines with the own status, and a front of them where a put
-- broke or memory was short.
abbrev pub TellsLines : Option (List ℕ) → Option (List ℕ) → List (List ℕ) → Status → Status → Type 0
TellsLines before after lines own s =
    ((s ≡ own) × Appends before after (joined lines))
    ⊎ (((s ≡ status.WriteFault) ⊎ (s ≡ status.NoMemory)) × AppendsPart before after (joined lines))

-- so it is of each answer, but of a VCD text where memory was short
abbrev pub TellsShown : Shown → Option (List ℕ) → Option (List ℕ) → List (List ℕ) → Status → Status → Type 0
TellsShown AllLines before after lines own s = TellsLines before after lines own s
TellsShown LastLine before after lines own s = TellsLines before after lines own s
TellsShown VcdText before after lines own s = (s ≡ status.NoMemory) ⊎ TellsLines before after lines own s

abbrev pub TellsAnswer : RunOptions → Reading → Option (List ℕ) → Option (List ℕ) → List (List ℕ) → Status → Status → Type 0
TellsAnswer options (refused refusal line) before after lines own s = TellsLines before after lines own s
TellsAnswer options (runs flat file) before after lines own s = TellsShown options.shown before after lines own s

-- ---- the answer

-- An answer by the reads of the store and the puts of the sink, by the files where the store tells them, by what the simulator holds
-- after a run, and by the bytes where the sink tells them.
pub record Answered {S O : Type 0} (from : StoreMeans S) (sink : SinkMeans O) (words : List (List ℕ))
    (s : Status) (store store' : S) (content : Content) (out out' : O) : Type 0 where
  pub options : RunOptions
  pub reading : Reading
  pub reads : Reads from words store options reading store'
  pub is_told : IsTold (from.files store) words options reading
  pub answers : Answers sink options reading s content out out'
  pub lines : List (List ℕ)
  pub own : Status
  pub is_answer : IsAnswer options reading lines own
  pub tells : TellsAnswer options reading (sink.told out) (sink.told out') lines own s

-- ---- besides

-- The simulator that was handed in, after a status: a run leaves it with a design, and a refusal as it was. After a failed put it is one
-- or the other, and after want of memory nothing is said of it.
abbrev pub LeavesKernel : {K : Type 0} → (K → Type 0) → Status → K → K → Type 0
LeavesKernel is_loaded status.Passed before after = is_loaded after
LeavesKernel is_loaded status.Failed before after = is_loaded after
LeavesKernel is_loaded status.Budget before after = is_loaded after
LeavesKernel is_loaded status.Usage before after = after ≡ before
LeavesKernel is_loaded status.DesignRefused before after = after ≡ before
LeavesKernel is_loaded status.TestsRefused before after = after ≡ before
LeavesKernel is_loaded status.ReadFault before after = after ≡ before
LeavesKernel is_loaded status.WriteFault before after = is_loaded after ⊎ (after ≡ before)
LeavesKernel is_loaded status.NoMemory before after = Unit {0}

-- A count of faults rose where that status says so.
abbrev pub RaisedAt : Status → ℕ → ℕ → Status → Type 0
RaisedAt at before after s = s ≡ at → IsRaised before after

-- The usage line is put, or memory was short for it.
abbrev pub RefusesWords : {O : Type 0} → SinkMeans O → Status → O → O → Type 0
RefusesWords sink s out out' = EndsTo sink (usage_line ∷ []) status.Usage s out out' ⊎ Quit s out out'
