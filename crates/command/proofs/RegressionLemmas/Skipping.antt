-- Tests that are skipped, and how many have their verdicts.
use Rattle.std.proofs.Common.{◌≡◌, ℕ, suc, ◌+◌, ◌-◌, ◌<◌, ◌≤◌, Bool, true, false, List, [], ◌∷◌, ◌++◌, length, drop, Option, Some, Result, Ok, Err, refl, ap, sym, subst, ◌∙◌, arith, append_assoc, append-nil, length-append}
use Rattle.std.specs.Prelude.{zero, ◌&&◌, IfOk, if◌then◌else◌}
use Rattle.std.specs.List.{list_all, slice_get}
use Rattle.std.specs.Result.{result_err}
use Rattle.std.proofs.lemmas.List.{drop_all, length-map, length-drop}
use Rattle.port_io.specs.Ports.{TakesAll}
use Rattle.port_io.specs.Means.{SinkMeans, PutsTo}
use Rattle.port_io.proofs.PartLaws.{puts_to_then}
use Rattle.port_io.specs.declared.ports.SinkFault.{SinkFault}
use Rattle.gpi.proofs.Sound.{drop_next}
use Rattle.test_meaning.specs.Body.BodyTrees.{Case}
use Rattle.test_meaning.specs.Body.Sound.{most_cases}
use Rattle.test_meaning.specs.Body.Views.{view_case}
use Rattle.test_meaning.specs.declared.body.file.TestCase.{TestCase}
use Rattle.run_state.specs.Lines.Tallies.{HasRoom, tally_of}
use Rattle.scheduler.proofs.PutLaws.{puts_no_more}
use Rattle.rig_model.specs.Run.Line.{skip_line, verdict_line}
use Rattle.rig_model.specs.Run.Run.{skipped, unskipped}
use Rattle.rig_model.specs.Run.Verdict.{verdict_of}
use Rattle.rig_model.specs.declared.run.outcome.Verdict.{Verdict}
use Rattle.rig_model.specs.declared.run.outcome.Verdict.TheVariants.{Skip}
use Rattle.command.specs.Regression.Stages.{HasPlace, Counts, Skips, SkipsOver, Judged, Judges, cases_of, cases_from, skip_lines, skips_of, starts_skipped}
use Rattle.command.specs.declared.regression.progress.Progress.{Progress}

-- ---- places

-- as many tests as a file may have are fewer than a tally counts
pub room : (p : Progress) → HasPlace p → p.at < most_cases → HasRoom p.tally
room p h few =
    let n : length h.verdicts ≡ p.at = h.places in
    let k : p.at < 65536 = few in
    record { verdicts = h.verdicts; counted = h.counted; room = omega arith }

-- one test more has its verdict
pub place_more : (p : Progress) (verdict : Verdict) (q : Progress) → HasPlace p → Counts p verdict q → HasPlace q
place_more p verdict q h c =
    let n : length h.verdicts ≡ p.at = h.places in
    let m : q.at ≡ p.at + 1 = c.places in
    let l : length (h.verdicts ++ verdict ∷ []) ≡ length h.verdicts + 1 = length-append h.verdicts (verdict ∷ []) in
    record { verdicts = h.verdicts ++ verdict ∷ []; counted = c.counted h.verdicts h.counted; places = omega arith }

-- ---- the tests of a file

-- the test at a place, and those behind it
pub case_at : (cases : List TestCase) (at : ℕ) (case : TestCase) → slice_get cases at ≡ Some case → cases_from cases at ≡ view_case case ∷ cases_from cases (at + 1)
case_at cases at case g = ap cases_of (drop_next cases at case g)

pub none_from : (cases : List TestCase) (at : ℕ) → length cases ≤ at → cases_from cases at ≡ []
none_from cases at h = ap cases_of (drop_all at cases h)

pub count_from : (cases : List TestCase) (at : ℕ) → length (cases_from cases at) ≡ length cases - at
count_from cases at = length-map (drop at cases) view_case ∙ length-drop at cases

pub skip_at : (cases : List TestCase) (at : ℕ) (case : TestCase) → slice_get cases at ≡ Some case → case.skip ≡ starts_skipped (cases_from cases at)
skip_at cases at case g = sym (ap starts_skipped (case_at cases at case g))

-- what holds of all tests holds of the one at a place
pub sound_at : (test : Case → Bool) (cases : List TestCase) (at : ℕ) (case : TestCase) → list_all test (cases_of cases) ≡ true → slice_get cases at ≡ Some case
    → test (view_case case) ≡ true
sound_at test [] at case h g = cc
sound_at test (c ∷ cs) at case h g = by_first (test (view_case c)) refl at g (λ n k l. sound_at test cs n case k l)
  where
    by_first : (b : Bool) → test (view_case c) ≡ b → (n : ℕ) → slice_get (c ∷ cs) n ≡ Some case
        → ((i : ℕ) → list_all test (cases_of cs) ≡ true → slice_get cs i ≡ Some case → test (view_case case) ≡ true) → test (view_case case) ≡ true
    by_first false e n k more = let no : false ≡ true = subst (λ (b : Bool). (b && list_all test (cases_of cs)) ≡ true) e h in cc
    by_first true e zero k more = let same : c ≡ case = cc in subst (λ (x : TestCase). test (view_case x) ≡ true) same e
    by_first true e (suc n) k more = more n (subst (λ (b : Bool). (b && list_all test (cases_of cs)) ≡ true) e h) k

-- ---- those that are skipped

-- the first is skipped
skipped_more : (case : Case) (cases : List Case) → case.skip ≡ true → skipped (case ∷ cases) ≡ case ∷ skipped cases
skipped_more case cases s = ap (λ (b : Bool). if b then case ∷ skipped cases else []) s

unskipped_more : (case : Case) (cases : List Case) → case.skip ≡ true → unskipped (case ∷ cases) ≡ unskipped cases
unskipped_more case cases s = ap (λ (b : Bool). if b then unskipped cases else case ∷ cases) s

-- the first isn't
skipped_none : (cases : List Case) → starts_skipped cases ≡ false → skipped cases ≡ []
skipped_none [] s = refl
skipped_none (case ∷ cases) s = ap (λ (b : Bool). if b then case ∷ skipped cases else []) s

unskipped_all : (cases : List Case) → starts_skipped cases ≡ false → unskipped cases ≡ cases
unskipped_all [] s = refl
unskipped_all (case ∷ cases) s = ap (λ (b : Bool). if b then unskipped cases else case ∷ cases) s

pub unskipped_twice : (cases : List Case) → unskipped (unskipped cases) ≡ unskipped cases
unskipped_twice [] = refl
unskipped_twice (case ∷ cases) = decided case.skip refl (unskipped_twice cases)
  where
    decided : (b : Bool) → case.skip ≡ b → unskipped (unskipped cases) ≡ unskipped cases → unskipped (unskipped (case ∷ cases)) ≡ unskipped (case ∷ cases)
    decided true s h = ap unskipped (unskipped_more case cases s) ∙ h ∙ sym (unskipped_more case cases s)
    decided false s h = ap unskipped (unskipped_all (case ∷ cases) s)

unskipped_few : (cases : List Case) → length (unskipped cases) ≤ length cases
unskipped_few [] = omega arith
unskipped_few (case ∷ cases) = decided case.skip refl (unskipped_few cases)
  where
    decided : (b : Bool) → case.skip ≡ b → length (unskipped cases) ≤ length cases → length (unskipped (case ∷ cases)) ≤ suc (length cases)
    decided true s h = let e : length (unskipped (case ∷ cases)) ≡ length (unskipped cases) = ap length (unskipped_more case cases s) in omega arith
    decided false s h = let e : length (unskipped (case ∷ cases)) ≡ suc (length cases) = ap length (unskipped_all (case ∷ cases) s) in omega arith

-- where none is skipped before it, the first isn't skipped
pub first_runs : (case : Case) (cases : List Case) → unskipped (case ∷ cases) ≡ case ∷ cases → case.skip ≡ false
first_runs case cases h = decided case.skip refl
  where
    decided : (b : Bool) → case.skip ≡ b → case.skip ≡ false
    decided true s =
        let few : length (unskipped cases) ≤ length cases = unskipped_few cases in
        let e : length (unskipped cases) ≡ suc (length cases) = ap length (sym (unskipped_more case cases s) ∙ h) in
        absurd (omega arith)
    decided false s = s

module _ {O : Type 0} (sink : SinkMeans O) (time : ℕ) (cases : List TestCase) where
  abbrev lines_from : ℕ → List (List ℕ)
  lines_from at = skip_lines time (skipped (cases_from cases at))

  -- the next test isn't skipped, or there is none
  pub skips_end : (p : Progress) (out : O) → p.at ≤ length cases → starts_skipped (cases_from cases p.at) ≡ false → Skips sink time cases p (Ok p) out out
  skips_end p out w s =
      let none : skipped (cases_from cases p.at) ≡ [] = skipped_none (cases_from cases p.at) s in
      record {
        puts = subst (λ (cs : List Case). TakesAll sink.takes out (skip_lines time cs) out) (sym none) refl;
        over = record {
          within = w;
          left = sym (unskipped_all (cases_from cases p.at) s);
          places = let n : length (skipped (cases_from cases p.at)) ≡ 0 = ap length none in omega arith;
          counted = λ verdicts e. e ∙ ap tally_of (sym (append-nil verdicts) ∙ ap (λ (cs : List Case). verdicts ++ skips_of cs) (sym none));
        };
      }

  module _ (p : Progress) (case : TestCase) (there : slice_get cases p.at ≡ Some case) (skip : case.skip ≡ true) where
    skipped_is : skipped (cases_from cases p.at) ≡ view_case case ∷ skipped (cases_from cases (p.at + 1))
    skipped_is = ap skipped (case_at cases p.at case there) ∙ skipped_more (view_case case) (cases_from cases (p.at + 1)) skip

    unskipped_is : unskipped (cases_from cases p.at) ≡ unskipped (cases_from cases (p.at + 1))
    unskipped_is = ap unskipped (case_at cases p.at case there) ∙ unskipped_more (view_case case) (cases_from cases (p.at + 1)) skip

    -- its line wasn't taken
    pub skips_broken : (fault : SinkFault) (out out' : O) → PutsTo sink out (skip_line time case.name ∷ []) (Some fault) out' → Skips sink time cases p (Err fault) out out'
    skips_broken fault out out' h = record {
      puts = subst (λ (cs : List Case). PutsTo sink out (skip_lines time cs) (Some fault) out') (sym skipped_is)
          (puts_no_more sink out (skip_line time case.name ∷ []) fault out' (lines_from (p.at + 1)) h);
      over = tt;
    }

    -- its line was taken
    pub skips_more : (q : Progress) (r : Result Progress SinkFault) (out mid out' : O) → Counts p Skip q → TakesAll sink.takes out (skip_line time case.name ∷ []) mid
        → Skips sink time cases q r mid out' → Skips sink time cases p r out out'
    skips_more q r out mid out' c t s = record { puts = puts; over = over r s.over }
      where
        one : q.at ≡ p.at + 1
        one = c.places

        puts : PutsTo sink out (lines_from p.at) (result_err r) out'
        puts = subst (λ (cs : List Case). PutsTo sink out (skip_lines time cs) (result_err r) out') (sym skipped_is)
            (puts_to_then sink out (skip_line time case.name ∷ []) mid (lines_from (p.at + 1)) (result_err r) out' t
            (subst (λ (n : ℕ). PutsTo sink mid (lines_from n) (result_err r) out') one s.puts))

        over : (a : Result Progress SinkFault) → IfOk a (SkipsOver cases q) → IfOk a (SkipsOver cases p)
        over (Ok x) h = record {
          within = h.within;
          left = h.left ∙ ap (λ (n : ℕ). unskipped (cases_from cases n)) one ∙ sym unskipped_is;
          places =
              let n : x.at ≡ q.at + length (skipped (cases_from cases q.at)) = h.places in
              let k : length (skipped (cases_from cases q.at)) ≡ length (skipped (cases_from cases (p.at + 1))) = ap (λ (i : ℕ). length (skipped (cases_from cases i))) one in
              let l : length (skipped (cases_from cases p.at)) ≡ suc (length (skipped (cases_from cases (p.at + 1)))) = ap length skipped_is in
              omega arith;
          counted = λ verdicts e. h.counted (verdicts ++ Skip ∷ []) (c.counted verdicts e)
              ∙ ap tally_of (append_assoc verdicts (Skip ∷ []) (skips_of (skipped (cases_from cases q.at)))
              ∙ ap (λ (cs : List Case). verdicts ++ skips_of cs) (ap (λ (n : ℕ). view_case case ∷ skipped (cases_from cases n)) one ∙ sym skipped_is));
        }
        over (Err f) h = tt

  -- ---- a verdict, and those that are skipped behind it

  module _ (p : Progress) (case : Case) (reason : Option (List ℕ)) where
    abbrev own : List ℕ
    own = verdict_line time case.name reason

    -- its line wasn't taken
    pub judges_broken : (fault : SinkFault) (out out' : O) → PutsTo sink out (own ∷ []) (Some fault) out' → Judges sink time cases p case reason (Err fault) out out'
    judges_broken fault out out' h = record { puts = puts_no_more sink out (own ∷ []) fault out' (lines_from (p.at + 1)) h; judged = tt }

    -- its line was taken
    pub judges_more : (q : Progress) (r : Result Progress SinkFault) (out mid out' : O) → Counts p (verdict_of reason) q → TakesAll sink.takes out (own ∷ []) mid
        → Skips sink time cases q r mid out' → Judges sink time cases p case reason r out out'
    judges_more q r out mid out' c t s = record {
      puts = puts_to_then sink out (own ∷ []) mid (lines_from (p.at + 1)) (result_err r) out' t
          (subst (λ (n : ℕ). PutsTo sink mid (lines_from n) (result_err r) out') c.places s.puts);
      judged = judged r s.over;
    }
      where
        judged : (a : Result Progress SinkFault) → IfOk a (SkipsOver cases q) → IfOk a (Judged cases p (verdict_of reason))
        judged (Ok x) h = record { behind = q; counts = c; over = h }
        judged (Err f) h = tt
