-- Words and files that are told have one answer.
use Rattle.std.proofs.Common.{◌≡◌, inl, inr, ℕ, List, [], ◌∷◌, Option, None, Some, IsSomeAnd, refl, ap, sym, subst, ◌∙◌, take}
use Rattle.port_io.specs.Ports.{GivesFile}
use Rattle.gpi.specs.declared.design.Flat.{Flat}
use Rattle.vcd_text.specs.Text.{vcd}
use Rattle.vcd_text.specs.TracedLines.{TellAll}
use Rattle.vcd_text.proofs.Decided.{same_changes}
use Rattle.test_meaning.specs.Body.BodyTrees.{TestFile}
use Rattle.rig_model.specs.Run.Run.{Run, written}
use Rattle.rig_model.proofs.RunLemmas.Whole.{run_unique}
use Rattle.command.specs.CommandWords.Forms as words
use Rattle.command.specs.CommandWords.Forms.{Asked, Form}
use Rattle.command.proofs.CommandWordsLemmas.Whole.{read_once}
use Rattle.v_design.specs.Answers.{AreAlike}
use Rattle.v_design.specs.Designs as design_text
use Rattle.v_design.specs.Words as design_words
use Rattle.v_design.specs.declared.fault.DesignRefusal.{DesignRefusal}
use Rattle.v_design.proofs.AnswerLaws as designs
use Rattle.test_file.specs.Text.Words as tests_words
use Rattle.test_file.specs.declared.text.fault.TestsRefusal.{TestsRefusal}
use Rattle.test_file.proofs.TextLemmas.AnswerLaws as tests
use Rattle.command.specs.MadeTexts.Texts as made
use Rattle.command.specs.Regression.Runs.{status_of}
use Rattle.command.specs.declared.regression.status.Status.{Status}
use Rattle.command.specs.declared.regression.status.Status.TheVariants as status
use Rattle.command.specs.declared.options.RunOptions.{RunOptions}
use Rattle.command.specs.declared.options.Shown.{Shown}
use Rattle.command.specs.declared.options.Shown.TheVariants.{AllLines, LastLine, VcdText}
use Rattle.command.specs.Answer.{AreShown, IsAnswer, last_alone, setup_with}
use Rattle.command.proofs.VcdRuns.{tell_on, text_on}
use Rattle.command.specs.OneAnswer.{IsUnread}
use Rattle.command.specs.Reading.{IsMade, IsTold, Reading, ReadsAsked, ReadsBoth, ReadsTests, TextOfDesign, TextOfTests, made_design, made_tests, most, options_in, refused, refused_line, runs, told_means, usage_line}
use Rattle.command.proofs.AlikeRuns.{alike_runs, alike_written}

-- the same refusal, or runs of the same tests on designs that are alike
abbrev Agree : Reading → Reading → Type 0
Agree (refused own line) (refused other more) = (own ≡ other) × (line ≡ more)
Agree (refused own line) (runs flat file) = ⊥
Agree (runs flat file) (refused own line) = ⊥
Agree (runs flat file) (runs other tests) = AreAlike flat other × (file ≡ tests)

-- readings that are these
read_as : (r t r' t' : Reading) → r ≡ r' → t ≡ t' → Agree r' t' → Agree r t
read_as r t r' t' e h a = subst (λ (x : Reading). Agree x t) (sym e) (subst (λ (y : Reading). Agree r' y) (sym h) a)

-- ---- texts

-- what of two texts is given of one file
one_text : (files : List ℕ → Option (List ℕ)) (name : List ℕ) (text other : List ℕ) → GivesFile (Some files) name most text → GivesFile (Some files) name most other → text ≡ other
one_text files name text other g h = by_file (files name) g h
  where
    by_file : (o : Option (List ℕ)) → IsSomeAnd o (λ file. text ≡ take most file) → IsSomeAnd o (λ file. other ≡ take most file) → text ≡ other
    by_file None a b = absurd a
    by_file (Some file) a b = a ∙ sym b

tests_agree : (name : List ℕ) (flat other : Flat) (text : List ℕ) (r t : Reading) → AreAlike flat other → TextOfTests name flat text r → TextOfTests name other text t → Agree r t
tests_agree name flat other text r t alike (inl a) (inl b) =
    read_as r t _ _ a.1 b.1 (refl, ap (λ (why : TestsRefusal). refused_line name (tests_words.refusal_word why)) (tests.one_refusal text a.0 b.0 a.2 b.2))
tests_agree name flat other text r t alike (inl a) (inr b) = absurd (tests.apart text b.0 a.0 b.2 a.2)
tests_agree name flat other text r t alike (inr a) (inl b) = absurd (tests.apart text a.0 b.0 a.2 b.2)
tests_agree name flat other text r t alike (inr a) (inr b) = read_as r t _ _ a.1 b.1 (alike, tests.one_file text a.0 b.0 a.2 b.2)

designs_apart : (top : Option (List ℕ)) (text : List ℕ) (flat : Flat) (why : DesignRefusal) → design_text.IsDesign top text flat → design_text.IsRefused top why text → ⊥
designs_apart top text flat why d r = designs.apart top text d.source d.design why d.means r

refusals_agree : (top : Option (List ℕ)) (name : List ℕ) (text : List ℕ) (r t : Reading) (why other : DesignRefusal)
    → r ≡ refused status.DesignRefused (refused_line name (design_words.refusal_word why)) → t ≡ refused status.DesignRefused (refused_line name (design_words.refusal_word other))
    → design_text.IsRefused top why text → design_text.IsRefused top other text → Agree r t
refusals_agree top name text r t why other e h a b =
    read_as r t _ _ e h (refl, ap (λ (w : DesignRefusal). refused_line name (design_words.refusal_word w)) (designs.one_refusal top text why other a b))

made_agree : (n : ℕ) (r t : Reading) → IsMade n r → IsMade n t → Agree r t
made_agree n r t (inl a) (inl b) = refusals_agree None made_design made.design_text r t a.0 b.0 a.1 b.1 a.2 b.2
made_agree n r t (inl a) (inr b) = absurd (designs_apart None made.design_text b.0 a.0 b.1 a.2)
made_agree n r t (inr a) (inl b) = absurd (designs_apart None made.design_text a.0 b.0 a.1 b.2)
made_agree n r t (inr a) (inr b) = tests_agree made_tests a.0 b.0 (made.tests_text n) r t (designs.alike None made.design_text a.0 b.0 a.1 b.1) a.2 b.2

-- ---- reads

module _ (files : List ℕ → Option (List ℕ)) (r t : Reading) (read : IsUnread r → ⊥) (others : IsUnread t → ⊥) where
  both_tests : (name : List ℕ) (flat other : Flat) → AreAlike flat other → ReadsTests (told_means (Some files)) name flat tt r tt → ReadsTests (told_means (Some files)) name other tt t tt → Agree r t
  both_tests name flat other alike (inl a) b = absurd (read (_, a.0))
  both_tests name flat other alike (inr a) (inl b) = absurd (others (_, b.0))
  both_tests name flat other alike (inr a) (inr b) =
      tests_agree name flat other a.0 r t alike a.2 (subst (λ (text : List ℕ). TextOfTests name other text t) (sym (one_text files name a.0 b.0 a.1 b.1)) b.2)

  both_designs : (top : Option (List ℕ)) (name tests text : List ℕ) → TextOfDesign (told_means (Some files)) top name tests text tt r tt
      → TextOfDesign (told_means (Some files)) top name tests text tt t tt → Agree r t
  both_designs top name tests text (inl a) (inl b) = refusals_agree top name text r t a.0 b.0 a.1 b.1 a.3 b.3
  both_designs top name tests text (inl a) (inr b) = absurd (designs_apart top text b.0 a.0 b.1 a.3)
  both_designs top name tests text (inr a) (inl b) = absurd (designs_apart top text a.0 b.0 a.1 b.3)
  both_designs top name tests text (inr a) (inr b) = both_tests tests a.0 b.0 (designs.alike top text a.0 b.0 a.1 b.1) a.2 b.2

  both_files : (top : Option (List ℕ)) (name tests : List ℕ) → ReadsBoth (told_means (Some files)) top name tests tt r tt → ReadsBoth (told_means (Some files)) top name tests tt t tt → Agree r t
  both_files top name tests (inl a) b = absurd (read (_, a.0))
  both_files top name tests (inr a) (inl b) = absurd (others (_, b.0))
  both_files top name tests (inr a) (inr b) =
      both_designs top name tests a.0 a.3 (subst (λ (text : List ℕ). TextOfDesign (told_means (Some files)) top name tests text tt t tt) (sym (one_text files name a.0 b.0 a.2 b.2)) b.3)

  both_asked : (asked : Asked) → ReadsAsked (told_means (Some files)) asked tt r tt → ReadsAsked (told_means (Some files)) asked tt t tt → Agree r t
  both_asked (words.files design tests top) a b = both_files top design tests a b
  both_asked (words.made n) a b = made_agree n r t a.0 b.0

-- ---- answers

refused_once : (options others : RunOptions) (r t : Reading) (own other : Status) (line more : List ℕ) (lines rest : List (List ℕ)) (s z : Status) → r ≡ refused own line → t ≡ refused other more → own ≡ other → line ≡ more
    → IsAnswer options r lines s → IsAnswer others t rest z → (lines ≡ rest) × (s ≡ z)
refused_once options others r t own other line more lines rest s z e h o l a b =
    let x : (lines ≡ line ∷ []) × (s ≡ own) = subst (λ (y : Reading). IsAnswer options y lines s) e a in
    let w : (rest ≡ more ∷ []) × (z ≡ other) = subst (λ (y : Reading). IsAnswer others y rest z) h b in
    (x.0 ∙ ap (λ (n : List ℕ). n ∷ []) l ∙ sym w.0, x.1 ∙ o ∙ sym w.1)

-- the same is put of two runs that have written the same
shown_once : (shown : Shown) (flat other : Flat) (some more lines rest : List (List ℕ)) → AreAlike flat other → some ≡ more → AreShown shown flat some lines → AreShown shown other more rest → lines ≡ rest
shown_once AllLines flat other some more lines rest alike e a b = a ∙ e ∙ sym b
shown_once LastLine flat other some more lines rest alike e a b = a ∙ ap last_alone e ∙ sym b
shown_once VcdText flat other some more lines rest alike e (changes, tell, is) (others, told, are) =
    is ∙ ap (vcd flat) same ∙ text_on flat other alike.signals alike.nodes alike.step others ∙ sym are
  where
    same : changes ≡ others
    same = same_changes flat some changes others tell
        (subst (λ (l : List (List ℕ)). TellAll flat l others) (sym e) (tell_on other flat (sym alike.signals) (sym alike.nodes) more others told))

-- answers of runs with the same options
runs_once : (options : RunOptions) (flat other : Flat) (file : TestFile) (lines rest : List (List ℕ)) (s z : Status) → AreAlike flat other
    → IsAnswer options (runs flat file) lines s → IsAnswer options (runs other file) rest z → (lines ≡ rest) × (s ≡ z)
runs_once options flat other file lines rest s z alike a b =
    let same : a.0 ≡ b.0 = run_unique (setup_with options.trace other file) options.seed file.cases options.budget a.0 b.0
    (alike_runs file.functions options.trace flat other alike options.seed file.cases options.budget a.0 a.1) b.1 in (
      shown_once options.shown flat other _ _ lines rest alike (alike_written file.functions options.trace flat other alike options.budget a.0
          ∙ ap (λ (run : Run). written (setup_with options.trace other file) options.budget run) same) a.2 b.2,
      a.3 ∙ ap (λ (run : Run). status_of run) same ∙ sym b.3,
    )

answers_agree : (options : RunOptions) (r t : Reading) (lines rest : List (List ℕ)) (s z : Status) → Agree r t → IsAnswer options r lines s → IsAnswer options t rest z → (lines ≡ rest) × (s ≡ z)
answers_agree options (refused own line) (refused other more) lines rest s z g a b = refused_once options options _ _ own other line more lines rest s z refl refl g.0 g.1 a b
answers_agree options (refused own line) (runs flat file) lines rest s z g a b = absurd g
answers_agree options (runs flat file) (refused own line) lines rest s z g a b = absurd g
answers_agree options (runs flat file) (runs other tests) lines rest s z g a b =
    runs_once options flat other file lines rest s z g.0 a (subst (λ (x : TestFile). IsAnswer options (runs other x) rest z) (sym g.1) b)

pub one_answer : (files : List ℕ → Option (List ℕ)) (said : List (List ℕ)) (options others : RunOptions) (r t : Reading) (lines more : List (List ℕ)) (own other : Status)
    → IsTold (Some files) said options r → IsTold (Some files) said others t → (IsUnread r → ⊥) → (IsUnread t → ⊥)
    → IsAnswer options r lines own → IsAnswer others t more other → (lines ≡ more) × (own ≡ other)
one_answer files said options others r t lines more own other (inl x) (inl y) read unread a b =
    refused_once options others r t status.Usage status.Usage usage_line usage_line lines more own other x.1.0 y.1.0 refl refl a b
one_answer files said options others r t lines more own other (inl x) (inr y) read unread a b = absurd (x.0 y.0 y.1)
one_answer files said options others r t lines more own other (inr x) (inl y) read unread a b = absurd (y.0 x.0 x.1)
one_answer files said options others r t lines more own other (inr x) (inr y) read unread a b =
    let form : y.0 ≡ x.0 = read_once said y.0 x.0 y.1 x.1 in
    let agree : Agree r t = both_asked files r t read unread x.0.asked x.3 (subst (λ (f : Form). ReadsAsked (told_means (Some files)) f.asked tt t tt) form y.3) in
    answers_agree options r t lines more own other agree a
    (subst (λ (o : RunOptions). IsAnswer o t more other) (y.2 ∙ ap options_in form ∙ sym x.2) b)
