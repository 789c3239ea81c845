-- What is written for one line of a run.
use Rattle.std.specs.Prelude.{◌≡◌, ◌==◌, ℕ, Bool, true, false, List, [], ◌∷◌, ◌++◌, Option, None, Some, Result, Ok, Err, OnOk, IsErrOf, if◌then◌else◌, refl}
use Rattle.std.specs.Result.{result_err}
use Rattle.std.proofs.Common.{subst, sym, inl, inr}
use Rattle.port_io.specs.Means.{SinkMeans, PutsTo}
use Rattle.port_io.specs.declared.ports.SinkFault.{SinkFault}
use Rattle.port_io.specs.declared.ports.SinkFault.TheVariants.{Failed}
use Rattle.vcd_text.specs.Changes.{ValueChange}
use Rattle.port_io.proofs.PartLaws.{puts_to_then}
use Rattle.vcd_text.specs.Spelling.{time_line, value_line}
use Rattle.vcd_text.specs.Text.{lines_of_change}
use Rattle.vcd_text.specs.Told.{time_lines}
use Rattle.vcd_text.proofs.PutLaws.{puts_no_more}
use Rattle.vcd_text.specs.TracedLines.{TellsChange, TellsNone}
use Rattle.vcd_text.specs.Sink.{TakesLine, BreaksLine, IsSameSink}
use Rattle.vcd_text.specs.declared.sink.VcdSink.{VcdSink}

-- the lines of a change are that of its time, if it is new, and that of its value
change_parts : (last : ℕ) (change : ValueChange) → lines_of_change last change ≡ time_lines last change.time ++ value_line change.signal change.digits ∷ []
change_parts last change = by_time (change.time == last)
  where
    by_time : (b : Bool) → (if b then value_line change.signal change.digits ∷ [] else time_line change.time ∷ value_line change.signal change.digits ∷ [])
        ≡ (if b then [] else time_line change.time ∷ []) ++ value_line change.signal change.digits ∷ []
    by_time true = refl
    by_time false = refl

module _ {O : Type 0} (sink : SinkMeans O) (out : O) (last : ℕ) (change : ValueChange) where
  -- where its time isn't taken its value isn't put
  pub change_stops : (fault : SinkFault) (mid : O) → PutsTo sink out (time_lines last change.time) (Some fault) mid → PutsTo sink out (lines_of_change last change) (Some fault) mid
  change_stops fault mid puts =
      subst (λ (l : List (List ℕ)). PutsTo sink out l (Some fault) mid) (sym (change_parts last change))
      (puts_no_more sink out (time_lines last change.time) fault mid (value_line change.signal change.digits ∷ []) puts)

  -- and else it is put behind it
  pub change_goes : (mid : O) (fault : Option SinkFault) (after : O) → PutsTo sink out (time_lines last change.time) None mid
      → PutsTo sink mid (value_line change.signal change.digits ∷ []) fault after → PutsTo sink out (lines_of_change last change) fault after
  change_goes mid fault after first second =
      subst (λ (l : List (List ℕ)). PutsTo sink out l fault after) (sym (change_parts last change))
      (puts_to_then sink out (time_lines last change.time) mid (value_line change.signal change.digits ∷ []) fault after first second)

module _ {O : Type 0} (sink : SinkMeans O) (before : VcdSink O) (text : List ℕ) where
  -- nothing is written for a line that tells no change
  pub none_taken : TellsNone before.signals.now.flat.now text → TakesLine sink.takes before text before
  none_taken none = record { lines = []; becomes = inr (none, refl, refl); taken = refl; same = record { same_reference = refl; design = refl } }

  module _ (change : ValueChange) (tells : TellsChange before.signals.now.flat.now text change) (after : VcdSink O) (same : IsSameSink before after) where
    -- the lines of a change are taken
    pub line_taken : {T : Type 0} (r : Result T SinkFault) → PutsTo sink before.out.now (lines_of_change before.last change) (result_err r) after.out.now
        → OnOk r (after.last ≡ change.time) → OnOk r (TakesLine sink.takes before text after)
    line_taken (Ok x) puts last = record { lines = lines_of_change before.last change; becomes = inl (change, tells, refl, last); taken = puts; same = same }
    line_taken (Err fault) puts last = tt

    -- or one of them breaks
    pub line_broken : {T : Type 0} (r : Result T SinkFault) → PutsTo sink before.out.now (lines_of_change before.last change) (result_err r) after.out.now
        → IsErrOf r Failed → BreaksLine sink.takes sink.breaks before text after
    line_broken {T} r puts e = record {
      lines = lines_of_change before.last change;
      next = change.time;
      becomes = inl (change, tells, refl, refl);
      broken = subst (λ (x : Result T SinkFault). PutsTo sink before.out.now (lines_of_change before.last change) (result_err x) after.out.now) e puts;
      same = same;
    }
