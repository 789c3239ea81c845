-- A means of proof: how many tests there were of each verdict, for the proofs of a run's lines.
use Rattle.std.specs.Prelude.{◌≡◌, ◌+◌, ◌-◌, ◌^◌, ◌<◌, List, length, count_by}
use Rattle.rig_model.specs.Run.Verdict.{is_pass, is_fail, is_skip}
use Rattle.rig_model.specs.declared.run.outcome.Verdict.{Verdict}
use Rattle.rig_model.specs.declared.run.outcome.Verdict.TheVariants.{Pass, Fail, Skip}
use Rattle.run_state.specs.declared.lines.tally.Tally.{Tally}

-- the numbers of the closing line of these verdicts
abbrev pub tally_of : List Verdict → Tally
tally_of verdicts = record {
  tests = length verdicts;
  passed = count_by is_pass verdicts;
  failed = count_by is_fail verdicts;
  skipped = count_by is_skip verdicts;
}

-- one more test, with that verdict
abbrev pub with_verdict : Tally → Verdict → Tally
with_verdict t Pass = record t { tests = t.tests + 1; passed = t.passed + 1 }
with_verdict t Fail = record t { tests = t.tests + 1; failed = t.failed + 1 }
with_verdict t Skip = record t { tests = t.tests + 1; skipped = t.skipped + 1 }

-- it counts verdicts, and may count one more
pub record HasRoom (t : Tally) : Type 0 where
  pub verdicts : List Verdict
  pub counted : t ≡ tally_of verdicts
  pub room : length verdicts < 2 ^ 64 - 1
