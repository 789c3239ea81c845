-- The changes that the lines of a run tell are in order of time, and its VCD text reads as these.
use Rattle.std.proofs.Common.{◌≡◌, ℕ, ◌+◌, ◌<◌, ◌≤◌, ◌^◌, Bool, true, false, List, [], ◌∷◌, ◌++◌, length, codes, refl, ap, sym, subst, ◌∙◌, arith, inl, inr, append_assoc}
use Rattle.std.specs.Prelude.{nat_le, ◌&&◌}
use Rattle.std.specs.Fmt.{decimal}
use Rattle.std.specs.List.{AllByRecursion}
use Rattle.std.proofs.lemmas.Bool.{le-leb}
use Rattle.std.proofs.lemmas.Fmt.{decimal_injective}
use Rattle.gpi.specs.declared.design.Flat.{Flat}
use Rattle.vcd_text.specs.Changes.{IsChangeOf, ValueChange, times_rise}
use Rattle.vcd_text.specs.TracedLines.{TellAll, TellsChange, traced_line}
use Rattle.vcd_text.proofs.Keeps.{reads_back}
use Rattle.vcd_text.proofs.SplitLaws.{decimal_no_blank, first_once}
use Rattle.await_tree.specs.Check.{last_time}
use Rattle.test_meaning.specs.Body.BodyTrees.{Case}
use Rattle.rig_model.specs.Run.Rig.{Setup}
use Rattle.rig_model.specs.Run.Run.{Run, written}
use Rattle.scheduler.proofs.Runs.{time_bounded}
use Rattle.run_laws.specs.Places.Reached.{IsReached}
use Rattle.run_laws.specs.Waves.Texts.{Changes_are_of_runs, Texts_of_runs_read_back}
use Rattle.run_laws.specs.Waves.Times.{IsLineAt, RiseTo}
use Rattle.run_laws.proofs.WavesLemmas.Steps.{rise_sooner}
use Rattle.run_laws.proofs.WavesLemmas.Runs.{lines_rise, timed_is}

-- ---- the time of a line

traced_is : (time : ℕ) (path digits : List ℕ) → traced_line time path digits ≡ decimal time ++ 32 ∷ 83 ∷ 73 ∷ 71 ∷ 32 ∷ (path ++ 32 ∷ (digits ++ 10 ∷ []))
traced_is time path digits =
    append_assoc (((decimal time ++ codes " SIG ") ++ path) ++ codes " ") digits (10 ∷ [])
    ∙ (append_assoc ((decimal time ++ codes " SIG ") ++ path) (codes " ") (digits ++ 10 ∷ [])
    ∙ (append_assoc (decimal time ++ codes " SIG ") path (32 ∷ (digits ++ 10 ∷ []))
    ∙ append_assoc (decimal time) (codes " SIG ") (path ++ 32 ∷ (digits ++ 10 ∷ []))))

traced_at : (time : ℕ) (path digits : List ℕ) → IsLineAt time (traced_line time path digits)
traced_at time path digits = (
  83 ∷ 73 ∷ 71 ∷ 32 ∷ (path ++ 32 ∷ digits),
  traced_is time path digits
      ∙ (ap (λ (l : List ℕ). decimal time ++ 32 ∷ 83 ∷ 73 ∷ 71 ∷ 32 ∷ l) (sym (append_assoc path (32 ∷ digits) (10 ∷ [])))
      ∙ sym (timed_is time (83 ∷ 73 ∷ 71 ∷ 32 ∷ (path ++ 32 ∷ digits)))),
)

one_time : (text : List ℕ) (a b : ℕ) → a < 2 ^ 64 → b < 2 ^ 64 → IsLineAt a text → IsLineAt b text → a ≡ b
one_time text a b h k x y =
    decimal_injective a b h k
    (first_once (decimal a) (x.0 ++ 10 ∷ []) (decimal b) (y.0 ++ 10 ∷ []) (decimal_no_blank a h) (decimal_no_blank b k)
    (sym (timed_is a x.0) ∙ (sym x.1 ∙ (y.1 ∙ timed_is b y.0)))).0

rise_within : (first : ℕ) (lines : List (List ℕ)) (last : ℕ) → RiseTo first lines last → first ≤ last
rise_within first [] last h = h
rise_within first (text ∷ texts) last (inl (time, is, from, rest)) = let l = rise_within time texts last rest in omega (arith, from, l)
rise_within first (text ∷ texts) last (inr (none, rest)) = rise_within first texts last rest

and_true : (a b : Bool) → a ≡ true → b ≡ true → (a && b) ≡ true
and_true true b h k = k
and_true false b h k = h

module _ (flat : Flat) where
  tells_at : (text : List ℕ) (change : ValueChange) → TellsChange flat text change → IsLineAt change.time text
  tells_at text change t = subst (IsLineAt change.time) (sym t.spelled) (traced_at change.time t.is.signal.path change.digits)

  times_of_lines : (first : ℕ) (lines : List (List ℕ)) (last : ℕ) (changes : List ValueChange) → last < 2 ^ 64 → RiseTo first lines last → TellAll flat lines changes
      → times_rise first changes ≡ true
  times_of_lines first [] last changes small h e = subst (λ (l : List ValueChange). times_rise first l ≡ true) (sym e) refl
  times_of_lines first (text ∷ texts) last changes small (inl (time, at, from, rest)) (inl (change, more, tells, e, told)) =
      let within : time ≤ last = rise_within time texts last rest in
      let same : time ≡ change.time = one_time text time change.time (omega (arith, within, small)) tells.is.time at (tells_at text change tells) in
      subst (λ (l : List ValueChange). times_rise first l ≡ true) (sym e)
      (and_true (nat_le first change.time) (times_rise change.time more) (le-leb first change.time (omega (arith, from, same)))
      (times_of_lines change.time texts last more small (subst (λ (n : ℕ). RiseTo n texts last) same rest) told))
  times_of_lines first (text ∷ texts) last changes small (inl (time, at, from, rest)) (inr (none, told)) =
      times_of_lines first texts last changes small (rise_sooner time first texts last from rest) told
  times_of_lines first (text ∷ texts) last changes small (inr (untimed, rest)) (inl (change, more, tells, e, told)) =
      absurd (untimed change.time tells.is.time (tells_at text change tells))
  times_of_lines first (text ∷ texts) last changes small (inr (untimed, rest)) (inr (none, told)) = times_of_lines first texts last changes small rest told

  each_of_lines : (lines : List (List ℕ)) (changes : List ValueChange) → TellAll flat lines changes → AllByRecursion (IsChangeOf flat) changes
  each_of_lines [] changes e = subst (AllByRecursion (IsChangeOf flat)) (sym e) tt
  each_of_lines (text ∷ texts) changes (inl (change, more, tells, e, told)) =
      subst (AllByRecursion (IsChangeOf flat)) (sym e) (tells.is, each_of_lines texts more told)
  each_of_lines (text ∷ texts) changes (inr (none, told)) = each_of_lines texts changes told

-- ---- runs

small_time : (setup : Setup) (seed : ℕ) (cases : List Case) (run : Run) → length cases < 2 ^ 63 → IsReached setup seed cases run → run.rig.sim.time < 2 ^ 64
small_time setup seed cases run few r =
    let bound : run.rig.sim.time ≤ last_time + length cases
    = subst (λ (c : Run). c.rig.sim.time ≤ last_time + length cases) (sym r.is) (time_bounded setup seed cases r.budget r.count) in
    omega (arith, bound, few)

pub of_runs : Changes_are_of_runs
of_runs setup seed cases budget run changes t = record {
  each = each_of_lines setup.flat (written setup budget run) changes t.tell;
  times = times_of_lines setup.flat 0 (written setup budget run) run.rig.sim.time changes (small_time setup seed cases run t.few t.reached)
      (lines_rise setup seed cases budget run t.reached) t.tell;
}

pub read_back : Texts_of_runs_read_back
read_back setup seed cases budget run changes traceable t = reads_back setup.flat changes traceable (of_runs setup seed cases budget run changes t)
