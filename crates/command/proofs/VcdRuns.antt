-- A run whose lines went into a sink that writes its VCD text.
use Rattle.std.proofs.Common.{◌≡◌, ℕ, false, List, [], ◌∷◌, ◌++◌, Option, None, Some, Result, Ok, Err, IsErr, refl, ap, sym, subst, ◌∙◌, append_assoc, append-nil, inl, inr}
use Rattle.std.specs.Prelude.{slice_get}
use Rattle.std.specs.Result.{result_err}
use Rattle.port_io.specs.Means.{PutsTo, SinkMeans}
use Rattle.port_io.proofs.PartLaws.{part_none}
use Rattle.gpi.specs.Content.{Content}
use Rattle.gpi.specs.declared.design.Flat.{Flat}
use Rattle.gpi.specs.declared.design.Node.{Node}
use Rattle.gpi.specs.declared.design.Signal.{Signal}
use Rattle.vcd_text.specs.Changes.{IsChangeOf, ValueChange}
use Rattle.vcd_text.specs.Hierarchy.{is_word}
use Rattle.vcd_text.specs.Sink.{BreaksLine, IsSameSink, TakesLine}
use Rattle.vcd_text.specs.Text.{begin_lines, change_lines, lines_of_change, vcd}
use Rattle.vcd_text.specs.TracedLines.{HasPath, TellAll, TellsChange}
use Rattle.vcd_text.specs.WholeTexts.{HasBegun}
use Rattle.vcd_text.specs.declared.sink.VcdSink.{VcdSink}
use Rattle.vcd_text.proofs.Decided.{same_changes}
use Rattle.vcd_text.proofs.Wholes.{writes_front, writes_whole}
use Rattle.test_meaning.specs.Body.BodyTrees.{Case, TestFile}
use Rattle.rig_model.specs.Run.Rig.{Rig, Setup}
use Rattle.rig_model.specs.Run.Run.{written}
use Rattle.command.specs.Answer.{BrokenText, RunsFile, RunsShown, RunsText, WholeText, setup_with}
use Rattle.command.proofs.FileRuns.{file_none, start_none}
use Rattle.command.proofs.LastRuns.{last_none}
use Rattle.command.specs.Regression.Runs.{PutsStart, RunsTo, Whole, status_in}
use Rattle.port_io.specs.declared.ports.NoMemory.{NoMemory}
use Rattle.command.specs.declared.options.Shown.{Shown}
use Rattle.command.specs.declared.options.Shown.TheVariants.{AllLines, LastLine, VcdText}
use Rattle.command.specs.declared.regression.status.Status.{Status}
use Rattle.command.specs.declared.regression.status.Status.TheVariants as status
use Rattle.command.specs.declared.options.RunOptions.{RunOptions}
use Rattle.port_io.specs.declared.ports.SinkFault.{SinkFault}
use Rattle.port_io.specs.declared.ports.SinkFault.TheVariants.{Failed}

-- ---- lines that are put one after the other tell changes one after the other

abbrev SplitTold : Flat → List (List ℕ) → List (List ℕ) → List ValueChange → Type 0
SplitTold flat front back changes =
    (a : List ValueChange) × (b : List ValueChange) × TellAll flat front a × TellAll flat back b × (changes ≡ a ++ b)

tell_split : (flat : Flat) (front back : List (List ℕ)) (changes : List ValueChange) → TellAll flat (front ++ back) changes → SplitTold flat front back changes
tell_split flat [] back changes tell = ([], changes, refl, tell, refl)
tell_split flat (text ∷ front) back changes (inl (change, more, tells, is, rest)) =
    let s = tell_split flat front back more rest in
    (change ∷ s.0, s.1, inl (change, s.0, tells, refl, s.2), s.3, is ∙ ap (λ (l : List ValueChange). change ∷ l) s.4)
tell_split flat (text ∷ front) back changes (inr (none, rest)) =
    let s = tell_split flat front back changes rest in
    (s.0, s.1, inr (none, s.2), s.3, s.4)

-- the lines of changes, and of more of them
lines_then : (last : ℕ) (a b : List ValueChange) → (more : List (List ℕ)) × (change_lines last (a ++ b) ≡ change_lines last a ++ more)
lines_then last [] b = (change_lines last b, refl)
lines_then last (change ∷ a) b =
    let rest = lines_then change.time a b in (
      rest.0,
      ap (λ (l : List (List ℕ)). lines_of_change last change ++ l) rest.1 ∙ sym (append_assoc (lines_of_change last change) (change_lines change.time a) rest.0),
    )

-- the text of what the first lines tell is a front of the text of all
pub text_front : (flat : Flat) (front back : List (List ℕ)) (some all : List ValueChange) → TellAll flat front some → TellAll flat (front ++ back) all
    → (more : List (List ℕ)) × (vcd flat all ≡ vcd flat some ++ more)
text_front flat front back some all tell whole =
    let s : SplitTold flat front back all = tell_split flat front back all whole in
    let same : s.0 ≡ some = same_changes flat front s.0 some s.2 tell in
    let m : (more : List (List ℕ)) × (change_lines 0 (some ++ s.1) ≡ change_lines 0 some ++ more) = lines_then 0 some s.1 in (
      m.0,
      ap (vcd flat) (s.4 ∙ ap (λ (l : List ValueChange). l ++ s.1) same)
          ∙ ap (λ (l : List (List ℕ)). begin_lines flat ++ l) m.1 ∙ sym (append_assoc (begin_lines flat) (change_lines 0 some) m.0),
    )

-- ---- what went into the sink

-- how a sink that writes the text of a run is seen
abbrev pub text_means : {O : Type 0} → SinkMeans O → SinkMeans (VcdSink O)
text_means sink = record { takes = TakesLine sink.takes; breaks = BreaksLine sink.takes sink.breaks; told = λ x. None }

module _ {O : Type 0} (sink : SinkMeans O) (setup : Setup) (seed : ℕ) (cases : List Case) (budget : ℕ) (content : Content)
    (before after : VcdSink O) (out out' : O) (begun : HasBegun sink.takes setup.flat out before) (ends : IsSameSink before after → out' ≡ after.out.now) where
  whole_text : (s : Status) (e : Rig) → Whole (text_means sink) setup seed cases budget s e content before after → WholeText sink setup seed cases budget s content out out'
  whole_text s e w =
      let t = writes_whole sink.takes sink.breaks setup.flat out before after (written setup budget w.run) begun w.puts in record {
        run = w.run;
        is_run = w.is_run;
        status_is = w.status_is;
        changes = t.0;
        tell = t.1;
        puts = rw (ends t.3) t.2;
        stands = w.stands;
      }

  broken_text : PutsStart (text_means sink) setup seed cases budget Failed before after → BrokenText sink setup seed cases budget out out'
  broken_text b =
      let t = writes_front sink.takes sink.breaks setup.flat out before after b.lines begun b.puts in record {
        lines = t.0;
        starts = record {
          count = b.starts.count;
          more = t.1 ++ b.starts.more;
          reached = b.starts.reached ∙ ap (λ (l : List (List ℕ)). l ++ b.starts.more) t.3 ∙ append_assoc t.0 t.1 b.starts.more;
        };
        changes = t.2;
        tell = t.4;
        puts = rw (ends t.6) t.5;
      }

  pub runs_text : (s : Status) (e : Rig) → RunsTo (text_means sink) setup seed cases budget s e content before after
      → RunsText sink setup seed cases budget s content out out'
  runs_text status.Passed e w = whole_text status.Passed e w
  runs_text status.Failed e w = whole_text status.Failed e w
  runs_text status.Budget e w = whole_text status.Budget e w
  runs_text status.WriteFault e b = broken_text b
  runs_text status.NoMemory e u = inr (before.out.now, begun.begun)
  runs_text status.Usage e w = absurd w
  runs_text status.DesignRefused e w = absurd w
  runs_text status.TestsRefused e w = absurd w
  runs_text status.ReadFault e w = absurd w

-- so it is of the run of a file
pub file_text : {O : Type 0} (sink : SinkMeans O) (options : RunOptions) (flat : Flat) (file : TestFile) (content : Content) (before after : VcdSink O) (out out' : O)
    → HasBegun sink.takes flat out before → (IsSameSink before after → out' ≡ after.out.now) → (s : Status)
    → RunsFile (text_means sink) options flat file s content before after
    → RunsText sink (setup_with options.trace flat file) options.seed file.cases options.budget s content out out'
file_text sink options flat file content before after out out' begun ends s ran =
    runs_text sink (setup_with options.trace flat file) options.seed file.cases options.budget content before after out out' begun ends s ran.0 ran.1

-- what was put of the lines that begin the text of a design
pub begin_puts : {O A : Type 0} (sink : SinkMeans O) (flat : Flat) (fresh begun : VcdSink O) (out : O) (r : Result A SinkFault) (fault : Option SinkFault)
    → fresh.signals.now.flat.now ≡ flat → fresh.out.now ≡ out → result_err r ≡ fault
    → PutsTo sink fresh.out.now (begin_lines fresh.signals.now.flat.now) (result_err r) begun.out.now → PutsTo sink out (begin_lines flat) fault begun.out.now
begin_puts {O} sink flat fresh begun out r fault design now is puts =
    subst (λ (f : Option SinkFault). PutsTo sink out (begin_lines flat) f begun.out.now) is
    (subst (λ (f : Flat). PutsTo sink out (begin_lines f) (result_err r) begun.out.now) design
    (subst (λ (o : O). PutsTo sink o (begin_lines fresh.signals.now.flat.now) (result_err r) begun.out.now) now puts))

-- where a line before the changes broke
pub begin_broken : {O : Type 0} (sink : SinkMeans O) (setup : Setup) (seed : ℕ) (cases : List Case) (budget : ℕ) (out out' : O)
    → PutsTo sink out (begin_lines setup.flat) (Some Failed) out' → BrokenText sink setup seed cases budget out out'
begin_broken sink setup seed cases budget out out' puts = record {
  lines = [];
  starts = start_none setup seed cases budget;
  changes = [];
  tell = refl;
  puts = subst (λ (l : List (List ℕ)). PutsTo sink out l (Some Failed) out') (sym (append-nil (begin_lines setup.flat))) puts;
}

-- whatever was to be put, memory was short before it
pub shown_none : {O : Type 0} (sink : SinkMeans O) (options : RunOptions) (flat : Flat) (file : TestFile) (shown : Shown) (r : Result Status NoMemory) (content : Content) (out : O) → IsErr r
    → RunsShown shown sink options flat file (status_in r) content out out
shown_none sink options flat file AllLines r content out e = file_none sink options flat file r content out e
shown_none sink options flat file LastLine r content out e = last_none sink options flat file r content out e
shown_none sink options flat file VcdText (Ok s) content out e = cc
shown_none sink options flat file VcdText (Err fault) content out e = inl (part_none sink.takes sink.told out (begin_lines flat))

-- ---- designs with the same signals and nodes

module _ (a b : Flat) (signals : a.signals ≡ b.signals) (nodes : a.nodes ≡ b.nodes) where
  change_on : (change : ValueChange) → IsChangeOf a change → IsChangeOf b change
  change_on change is = record {
    time = is.time;
    signal = is.signal;
    there = subst (λ (l : List Signal). slice_get l change.signal ≡ Some is.signal) signals is.there;
    traced = subst (λ (l : List Node). is_word l change.signal ≡ false) nodes is.traced;
    width = is.width;
    digits = is.digits;
  }

  path_back : (number : ℕ) (path : List ℕ) → HasPath b number path → HasPath a number path
  path_back number path has = record {
    signal = has.signal;
    there = subst (λ (l : List Signal). slice_get l number ≡ Some has.signal) (sym signals) has.there;
    traced = subst (λ (l : List Node). is_word l number ≡ false) (sym nodes) has.traced;
    path_is = has.path_is;
  }

  tells_on : (text : List ℕ) (change : ValueChange) → TellsChange a text change → TellsChange b text change
  unfolding change_on
  tells_on text change tells = record {
    is = change_on change tells.is;
    first = λ other below has. tells.first other below (path_back other tells.is.signal.path has);
    spelled = tells.spelled;
  }

module _ (a b : Flat) (signals : a.signals ≡ b.signals) (nodes : a.nodes ≡ b.nodes) where
  pub tell_on : (texts : List (List ℕ)) (changes : List ValueChange) → TellAll a texts changes → TellAll b texts changes
  tell_on [] changes is = is
  tell_on (text ∷ texts) changes (inl (change, more, tells, is, rest)) =
      inl (change, more, tells_on a b signals nodes text change tells, is, tell_on texts more rest)
  tell_on (text ∷ texts) changes (inr (none, rest)) =
      inr (λ change tells. none change (tells_on b a (sym signals) (sym nodes) text change tells), tell_on texts changes rest)

  pub text_on : a.step_fs ≡ b.step_fs → (changes : List ValueChange) → vcd a changes ≡ vcd b changes
  text_on step changes =
      ap (λ (l : List Signal). vcd (record a { signals = l }) changes) signals
      ∙ ap (λ (l : List Node). vcd (record a { signals = b.signals; nodes = l }) changes) nodes
      ∙ ap (λ (n : ℕ). vcd (record a { signals = b.signals; nodes = b.nodes; step_fs = n }) changes) step
