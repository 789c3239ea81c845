-- A means of proof: the VCD text of a run, for the law that it can be read.
use Rattle.std.specs.Prelude.{◌<◌, ◌^◌, ℕ, List, length, map}
use Rattle.port_io.specs.ToldLaws.{joined}
use Rattle.vcd_text.specs.Changes.{AreChangesOf, ValueChange}
use Rattle.vcd_text.specs.Readable.{told_change}
use Rattle.vcd_text.specs.Rules.{IsRead}
use Rattle.vcd_text.specs.Text.{vcd}
use Rattle.vcd_text.specs.Traceable.{IsTraceable}
use Rattle.vcd_text.specs.TracedLines.{TellAll}
use Rattle.test_meaning.specs.Body.BodyTrees.{Case}
use Rattle.rig_model.specs.Run.Rig.{Setup}
use Rattle.rig_model.specs.Run.Run.{Run, written}
use Rattle.run_laws.specs.Places.Reached.{IsReached}

-- A run of these tests stands so, and these are the changes that its lines tell. There are fewer tests than 2 ^ 63.
pub record TellsChanges (setup : Setup) (seed : ℕ) (cases : List Case) (budget : ℕ) (run : Run) (changes : List ValueChange) : Type 0 where
  pub few : length cases < 2 ^ 63
  pub reached : IsReached setup seed cases run
  pub tell : TellAll setup.flat (written setup budget run) changes

-- The changes that the lines of a run tell are changes of its design, in order of time.
abbrev pub Changes_are_of_runs : Type 0
Changes_are_of_runs = (setup : Setup) (seed : ℕ) (cases : List Case) (budget : ℕ) (run : Run) (changes : List ValueChange)
    → TellsChanges setup seed cases budget run changes → AreChangesOf setup.flat changes

-- Read anew, the VCD text of a run on a design that can be traced tells exactly these changes, in order.
abbrev pub Texts_of_runs_read_back : Type 0
Texts_of_runs_read_back = (setup : Setup) (seed : ℕ) (cases : List Case) (budget : ℕ) (run : Run) (changes : List ValueChange)
    → IsTraceable setup.flat → TellsChanges setup seed cases budget run changes
    → IsRead (joined (vcd setup.flat changes)) (map (told_change setup.flat.signals) changes)
