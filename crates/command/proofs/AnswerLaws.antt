-- What an answer tells.
use Rattle.std.proofs.Common.{◌≡◌, ◌≢◌, ◌⊎◌, ℕ, ◌≤◌, Bool, true, false, List, [], ◌∷◌, ◌++◌, Option, None, Some, refl, ap, sym, subst, ◌∙◌, append_assoc, inl, inr}
use Rattle.std.specs.Io.KnownBytes.{Appends}
use Rattle.std.specs.List.{list_any}
use Rattle.port_io.specs.Ports.{AppendsPart, IsRaised}
use Rattle.port_io.specs.Means.{StoreMeans, SinkMeans, PutsTo}
use Rattle.port_io.specs.ToldLaws.{appends_none, joined, joined_then, takes_all_told, puts_broken_told, puts_part_told, puts_broken_count}
use Rattle.port_io.specs.declared.ports.SinkFault.{SinkFault}
use Rattle.port_io.specs.declared.ports.SinkFault.TheVariants.{Failed, OutOfMemory}
use Rattle.gpi.specs.Content.{Content}
use Rattle.gpi.specs.declared.design.Flat.{Flat}
use Rattle.vcd_text.specs.Changes.{ValueChange}
use Rattle.vcd_text.specs.Text.{vcd}
use Rattle.vcd_text.specs.TracedLines.{TellAll}
use Rattle.vcd_text.proofs.Decided.{same_changes, some_changes}
use Rattle.test_meaning.specs.Body.BodyTrees.{Case, TestFile}
use Rattle.test_meaning.specs.Body.Views.{view_file}
use Rattle.rig_model.specs.Run.Rig.{Rig, Setup}
use Rattle.rig_model.specs.Run.Run.{Run, IsRun, IsStart, is_over, written}
use Rattle.rig_model.specs.Run.Verdict.{is_fail}
use Rattle.rig_model.proofs.RunLemmas.Whole.{run_unique}
use Rattle.rig_model.proofs.RunLemmas.Fronts.{start_is_front}
use Rattle.rig_model.proofs.RunLemmas.Exists.{run_stops}
use Rattle.command.specs.declared.options.RunOptions.{RunOptions}
use Rattle.command.specs.declared.options.Shown.{Shown}
use Rattle.command.specs.declared.options.Shown.TheVariants.{AllLines, LastLine, VcdText}
use Rattle.command.specs.Answer.{Answers, Answered, AreShown, BrokenText, IsAnswer, RunsShown, RunsText, TellsAnswer, TellsLines, TellsShown, RaisedAt, RefusesWords, Quit, WholeText, last_alone, setup_with}
use Rattle.command.proofs.VcdRuns.{text_front}
use Rattle.command.specs.declared.decision.Decision.{Decision}
use Rattle.command.specs.declared.decision.Decision.TheVariants.{Refused, Runs}
use Rattle.command.specs.Reading.{CanRun, IsRefusalStatus, IsTold, Reading, Reads, reading_of, refused, runs, usage_line}
use Rattle.command.specs.Regression.Runs.{EndsTo, RunsTo, Whole, PutsStart, status_of, stopped_status}
use Rattle.command.specs.Regression.Status.{put_status}
use Rattle.command.specs.declared.regression.status.Status.{Status}
use Rattle.command.specs.declared.regression.status.Status.TheVariants as status

-- known bytes grew by a front of these, and so by a front of more
longer_part : (old new : Option (List ℕ)) (xs more ys : List (List ℕ)) → ys ≡ xs ++ more → AppendsPart old new (joined xs) → AppendsPart old new (joined ys)
longer_part old new xs more ys e (front, rest, is, appended) =
    (front, rest ++ joined more, ap joined e ∙ joined_then xs more ∙ ap (λ (l : List ℕ). l ++ joined more) is ∙ append_assoc front rest (joined more), appended)

-- a run that stopped has not the status of a put that failed
run_writes : (run : Run) → status_of run ≢ status.WriteFault
run_writes run = by_place (is_over run.place) (list_any is_fail run.verdicts)
  where
    by_place : (over has_failed : Bool) → stopped_status over has_failed ≢ status.WriteFault
    by_place true true is = cc
    by_place true false is = cc
    by_place false has_failed is = cc

module _ {O : Type 0} (sink : SinkMeans O)
    (takes_told : (before : O) (piece : List ℕ) (after : O) → sink.takes before piece after → Appends (sink.told before) (sink.told after) piece)
    (breaks_told : (before : O) (piece : List ℕ) (after : O) → sink.breaks before piece after → AppendsPart (sink.told before) (sink.told after) piece)
    (faults : O → ℕ)
    (takes_count : (before : O) (piece : List ℕ) (after : O) → sink.takes before piece after → faults before ≤ faults after)
    (breaks_count : (before : O) (piece : List ℕ) (after : O) → sink.breaks before piece after → IsRaised (faults before) (faults after)) where
  -- ---- runs

  module _ (setup : Setup) (seed : ℕ) (cases : List Case) (budget : ℕ) (run : Run) (is_run : IsRun setup seed cases budget run) where
    whole_tells : (s : Status) (e : Rig) (content : Content) (out out' : O) → Whole sink setup seed cases budget s e content out out'
        → TellsLines (sink.told out) (sink.told out') (written setup budget run) (status_of run) s
    whole_tells s e content out out' w =
        let same : w.run ≡ run = run_unique setup seed cases budget w.run run w.is_run is_run in
        inl (
          w.status_is ∙ ap status_of same,
          subst (λ (c : Run). Appends (sink.told out) (sink.told out') (joined (written setup budget c))) same (takes_all_told sink.told sink.takes sink.breaks takes_told breaks_told out (written setup budget w.run) out' w.puts),
        )

    part_tells : (lines : List (List ℕ)) (before after : Option (List ℕ)) → IsStart setup seed cases budget lines → AppendsPart before after (joined lines)
        → AppendsPart before after (joined (written setup budget run))
    part_tells lines before after starts p =
        let f : (more : List (List ℕ)) × (written setup budget run ≡ lines ++ more) = start_is_front setup seed cases budget run lines is_run starts in
        longer_part before after lines f.0 (written setup budget run) f.1 p

    run_tells : (s : Status) (e : Rig) (content : Content) (out out' : O) → RunsTo sink setup seed cases budget s e content out out'
        → TellsLines (sink.told out) (sink.told out') (written setup budget run) (status_of run) s
    run_tells status.Passed e content out out' w = whole_tells status.Passed e content out out' w
    run_tells status.Failed e content out out' w = whole_tells status.Failed e content out out' w
    run_tells status.Budget e content out out' w = whole_tells status.Budget e content out out' w
    run_tells status.WriteFault e content out out' b =
        inr (inl refl, part_tells b.lines (sink.told out) (sink.told out') b.starts (puts_broken_told sink.told sink.takes sink.breaks takes_told breaks_told out b.lines out' b.puts))
    run_tells status.NoMemory e content out out' u =
        inr (inr refl, part_tells u.lines (sink.told out) (sink.told out') u.starts (puts_part_told sink.told sink.takes sink.breaks takes_told breaks_told out u.lines out' u.puts))
    run_tells status.Usage e content out out' w = absurd w
    run_tells status.DesignRefused e content out out' w = absurd w
    run_tells status.TestsRefused e content out out' w = absurd w
    run_tells status.ReadFault e content out out' w = absurd w

  -- ---- VCD texts of runs

  module _ (setup : Setup) (seed : ℕ) (cases : List Case) (budget : ℕ) (run : Run) (is_run : IsRun setup seed cases budget run) (changes : List ValueChange)
      (tell : TellAll setup.flat (written setup budget run) changes) where
    whole_text_tells : (s : Status) (content : Content) (out out' : O) → WholeText sink setup seed cases budget s content out out'
        → TellsLines (sink.told out) (sink.told out') (vcd setup.flat changes) (status_of run) s
    whole_text_tells s content out out' w =
        let same : w.run ≡ run = run_unique setup seed cases budget w.run run w.is_run is_run in
        let told : w.changes ≡ changes = same_changes setup.flat (written setup budget run) w.changes changes
        (subst (λ (c : Run). TellAll setup.flat (written setup budget c) w.changes) same w.tell) tell in
        inl (
          w.status_is ∙ ap status_of same,
          subst (λ (l : List ValueChange). Appends (sink.told out) (sink.told out') (joined (vcd setup.flat l))) told (takes_all_told sink.told sink.takes sink.breaks takes_told breaks_told out (vcd setup.flat w.changes) out' w.puts),
        )

    broken_text_tells : (out out' : O) → BrokenText sink setup seed cases budget out out' → AppendsPart (sink.told out) (sink.told out') (joined (vcd setup.flat changes))
    broken_text_tells out out' b =
        let f : (more : List (List ℕ)) × (written setup budget run ≡ b.lines ++ more) = start_is_front setup seed cases budget run b.lines is_run b.starts in
        let t : (more : List (List ℕ)) × (vcd setup.flat changes ≡ vcd setup.flat b.changes ++ more) = text_front setup.flat b.lines f.0 b.changes changes b.tell
        (subst (λ (l : List (List ℕ)). TellAll setup.flat l changes) f.1 tell) in
        longer_part (sink.told out) (sink.told out') (vcd setup.flat b.changes) t.0 (vcd setup.flat changes) t.1
        (puts_broken_told sink.told sink.takes sink.breaks takes_told breaks_told out (vcd setup.flat b.changes) out' b.puts)

    text_tells : (s : Status) (content : Content) (out out' : O) → RunsText sink setup seed cases budget s content out out'
        → TellsShown VcdText (sink.told out) (sink.told out') (vcd setup.flat changes) (status_of run) s
    text_tells status.Passed content out out' w = inr (whole_text_tells status.Passed content out out' w)
    text_tells status.Failed content out out' w = inr (whole_text_tells status.Failed content out out' w)
    text_tells status.Budget content out out' w = inr (whole_text_tells status.Budget content out out' w)
    text_tells status.WriteFault content out out' b = inr (inr (inl refl, broken_text_tells out out' b))
    text_tells status.NoMemory content out out' u = inl refl
    text_tells status.Usage content out out' w = absurd w
    text_tells status.DesignRefused content out out' w = absurd w
    text_tells status.TestsRefused content out out' w = absurd w
    text_tells status.ReadFault content out out' w = absurd w

  text_raised : (setup : Setup) (seed : ℕ) (cases : List Case) (budget : ℕ) (s : Status) (content : Content) (out out' : O)
      → RunsText sink setup seed cases budget s content out out' → s ≡ status.WriteFault → IsRaised (faults out) (faults out')
  text_raised setup seed cases budget s content out out' h is =
      let b : BrokenText sink setup seed cases budget out out' = subst (λ (x : Status). RunsText sink setup seed cases budget x content out out') is h in
      puts_broken_count faults sink.takes sink.breaks takes_count breaks_count out (vcd setup.flat b.changes) out' b.puts

  -- a run breaks with its put alone
  run_raised : (setup : Setup) (seed : ℕ) (cases : List Case) (budget : ℕ) (s : Status) (e : Rig) (content : Content) (out out' : O)
      → RunsTo sink setup seed cases budget s e content out out' → s ≡ status.WriteFault → IsRaised (faults out) (faults out')
  run_raised setup seed cases budget s e content out out' h is =
      let b : PutsStart sink setup seed cases budget Failed out out' = subst (λ (x : Status). RunsTo sink setup seed cases budget x e content out out') is h in
      puts_broken_count faults sink.takes sink.breaks takes_count breaks_count out b.lines out' b.puts

  -- ---- lines that end an answer

  lines_tell : (own : Status) (lines : List (List ℕ)) (s : Status) (out out' : O) → EndsTo sink lines own s out out' → TellsLines (sink.told out) (sink.told out') lines own s
  lines_tell own lines s out out' a = by_fault a.fault a.status_is a.puts
    where
      by_fault : (f : Option SinkFault) → s ≡ put_status own f → PutsTo sink out lines f out' → TellsLines (sink.told out) (sink.told out') lines own s
      by_fault None e p = inl (e, takes_all_told sink.told sink.takes sink.breaks takes_told breaks_told out lines out' p)
      by_fault (Some Failed) e p = inr (inl e, puts_broken_told sink.told sink.takes sink.breaks takes_told breaks_told out lines out' p)
      by_fault (Some OutOfMemory) e p = inr (inr e, puts_part_told sink.told sink.takes sink.breaks takes_told breaks_told out lines out' p)

  lines_raised : (own : Status) (lines : List (List ℕ)) (s : Status) (out out' : O) → own ≢ status.WriteFault → EndsTo sink lines own s out out' → RaisedAt status.WriteFault (faults out) (faults out') s
  lines_raised own lines s out out' n a = by_fault a.fault a.status_is a.puts
    where
      by_fault : (f : Option SinkFault) → s ≡ put_status own f → PutsTo sink out lines f out' → RaisedAt status.WriteFault (faults out) (faults out') s
      by_fault None e p = λ is. absurd (n (sym e ∙ is))
      by_fault (Some Failed) e p = λ is. puts_broken_count faults sink.takes sink.breaks takes_count breaks_count out lines out' p
      by_fault (Some OutOfMemory) e p = λ is. let no : status.NoMemory ≡ status.WriteFault = sym e ∙ is in cc

  -- nothing was put
  quit_tells : (lines : List (List ℕ)) (own s : Status) (out out' : O) → Quit s out out' → TellsLines (sink.told out) (sink.told out') lines own s
  quit_tells lines own s out out' q =
      inr (inr q.short, ([], joined lines, refl, subst (λ (x : O). Appends (sink.told out) (sink.told x) []) (sym q.same) (appends_none (sink.told out))))

  quit_raised : (s : Status) (out out' : O) → Quit s out out' → RaisedAt status.WriteFault (faults out) (faults out') s
  quit_raised s out out' q = λ is. let no : status.NoMemory ≡ status.WriteFault = sym q.short ∙ is in cc

  -- ---- answers

  module _ (options : RunOptions) where
    -- the lines and the status of a run, and what was put of these lines
    abbrev Tells : Shown → Flat → TestFile → Status → O → O → Type 0
    Tells shown flat file s out out' =
        (lines : List (List ℕ)) × (own : Status)
        × ((run : Run) × IsRun (setup_with options.trace flat file) options.seed file.cases options.budget run
        × AreShown shown flat (written (setup_with options.trace flat file) options.budget run) lines × (own ≡ status_of run))
        × TellsShown shown (sink.told out) (sink.told out') lines own s

    shown_tells : (shown : Shown) (flat : Flat) (file : TestFile) (s : Status) (content : Content) (out out' : O)
        → RunsShown shown sink options flat file s content out out' → Tells shown flat file s out out'
    shown_tells AllLines flat file s content out out' a =
        let setup : Setup = setup_with options.trace flat file in
        let stop : (c : Run) × IsRun setup options.seed file.cases options.budget c = run_stops setup options.seed file.cases options.budget in (
          written setup options.budget stop.0,
          status_of stop.0,
          (stop.0, stop.1, refl, refl),
          run_tells setup options.seed file.cases options.budget stop.0 stop.1 s a.0 content out out' a.1,
        )
    shown_tells LastLine flat file s content out out' (inl (run, is_run, puts)) =
        let lines : List (List ℕ) = last_alone (written (setup_with options.trace flat file) options.budget run) in
        (lines, status_of run, (run, is_run, refl, refl), lines_tell (status_of run) lines s out out' puts.ends)
    shown_tells LastLine flat file s content out out' (inr q) =
        let setup : Setup = setup_with options.trace flat file in
        let stop : (c : Run) × IsRun setup options.seed file.cases options.budget c = run_stops setup options.seed file.cases options.budget in
        let lines : List (List ℕ) = last_alone (written setup options.budget stop.0) in
        (lines, status_of stop.0, (stop.0, stop.1, refl, refl), quit_tells lines (status_of stop.0) s out out' q)
    shown_tells VcdText flat file s content out out' a =
        let setup : Setup = setup_with options.trace flat file in
        let stop : (c : Run) × IsRun setup options.seed file.cases options.budget c = run_stops setup options.seed file.cases options.budget in
        let told : (changes : List ValueChange) × TellAll flat (written setup options.budget stop.0) changes = some_changes flat (written setup options.budget stop.0) in (
          vcd flat told.0,
          status_of stop.0,
          (stop.0, stop.1, (told.0, told.1, refl), refl),
          text_tells setup options.seed file.cases options.budget stop.0 stop.1 told.0 told.1 s content out out' a,
        )

    answer_tells : (r : Reading) (s : Status) (content : Content) (out out' : O) → Answers sink options r s content out out'
        → (lines : List (List ℕ)) × (own : Status) × IsAnswer options r lines own × TellsAnswer options r (sink.told out) (sink.told out') lines own s
    answer_tells (refused own line) s content out out' a = (line ∷ [], own, (refl, refl), lines_tell own (line ∷ []) s out out' a)
    answer_tells (runs flat file) s content out out' a = shown_tells options.shown flat file s content out out' a

    pub answered : {S : Type 0} (from : StoreMeans S) (words : List (List ℕ)) (r : Reading) (s : Status) (store store' : S) (content : Content) (out out' : O)
        → Reads from words store options r store' → IsTold (from.files store) words options r → Answers sink options r s content out out'
        → Answered from sink words s store store' content out out'
    answered from words r s store store' content out out' reads is_told answers =
        let t = answer_tells r s content out out' answers in
        record { options = options; reading = r; reads = reads; is_told = is_told; answers = answers; lines = t.0; own = t.1; is_answer = t.2; tells = t.3 }

    shown_raised : (shown : Shown) (flat : Flat) (file : TestFile) (s : Status) (content : Content) (out out' : O)
        → RunsShown shown sink options flat file s content out out' → RaisedAt status.WriteFault (faults out) (faults out') s
    shown_raised AllLines flat file s content out out' a =
        run_raised (setup_with options.trace flat file) options.seed file.cases options.budget s a.0 content out out' a.1
    shown_raised LastLine flat file s content out out' (inl (run, is_run, puts)) =
        lines_raised (status_of run) (last_alone (written (setup_with options.trace flat file) options.budget run)) s out out' (run_writes run) puts.ends
    shown_raised LastLine flat file s content out out' (inr q) = quit_raised s out out' q
    shown_raised VcdText flat file s content out out' a =
        text_raised (setup_with options.trace flat file) options.seed file.cases options.budget s content out out' a

    -- a refusal that was decided isn't for a put
    pub write_raised : (decision : Decision) (s : Status) (content : Content) (out out' : O) → CanRun decision → Answers sink options (reading_of decision) s content out out'
        → RaisedAt status.WriteFault (faults out) (faults out') s
    write_raised (Refused own line) s content out out' can a = lines_raised own (line.items ∷ []) s out out' (λ is. subst IsRefusalStatus is can) a
    write_raised (Runs flat file) s content out out' can a = shown_raised options.shown flat (view_file file) s content out out' a

  -- ---- words that are refused

  pub words_answered : {S : Type 0} (from : StoreMeans S) (words : List (List ℕ)) (options : RunOptions) (s : Status) (store : S) (content : Content) (out out' : O)
      → Reads from words store options (refused status.Usage usage_line) store → IsTold (from.files store) words options (refused status.Usage usage_line)
      → RefusesWords sink s out out' → Answered from sink words s store store content out out' ⊎ Quit s out out'
  words_answered from words options s store content out out' reads is_told (inl e) =
      inl (answered options from words (refused status.Usage usage_line) s store store content out out' reads is_told e)
  words_answered from words options s store content out out' reads is_told (inr q) = inr q

  pub words_write : (s : Status) (out out' : O) → RefusesWords sink s out out' → RaisedAt status.WriteFault (faults out) (faults out') s
  words_write s out out' (inl e) = lines_raised status.Usage (usage_line ∷ []) s out out' (λ x. cc) e
  words_write s out out' (inr q) = quit_raised s out out' q
