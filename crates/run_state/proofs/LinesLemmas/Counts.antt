-- One more verdict.
use Rattle.std.proofs.Common.{◌≡◌, ℕ, ◌+◌, ◌-◌, ◌^◌, ◌<◌, Bool, List, [], ◌∷◌, ◌++◌, length, ap, sym, ◌∙◌, arith, cond, refl, subst, length-append}
use Rattle.std.specs.Prelude.{count_by}
use Rattle.std.proofs.lemmas.List.Sums.{sum_by-append, count_by-le-length}
use Rattle.rig_model.specs.Run.Verdict.{is_pass, is_fail, is_skip}
use Rattle.rig_model.specs.declared.run.outcome.Verdict.{Verdict}
use Rattle.rig_model.specs.declared.run.outcome.Verdict.TheVariants.{Pass, Fail, Skip}
use Rattle.run_state.specs.declared.lines.tally.Tally.{Tally}
use Rattle.run_state.specs.Lines.Tallies.{HasRoom, tally_of, with_verdict}

abbrev made : ℕ → ℕ → ℕ → ℕ → Tally
made a b c d = record { tests = a; passed = b; failed = c; skipped = d }

same : (a b c d e f g h : ℕ) → a ≡ e → b ≡ f → c ≡ g → d ≡ h → made a b c d ≡ made e f g h
same a b c d e f g h p q r s = rw (p, q, r, s) refl

count_more : (p : Verdict → Bool) (vs : List Verdict) (v : Verdict) → count_by p vs + count_by p (v ∷ []) ≡ count_by p (vs ++ v ∷ [])
count_more p vs v = sym (sum_by-append (λ (x : Verdict). cond (p x) 1 0) vs (v ∷ []))

length_more : (vs : List Verdict) (v : Verdict) → length vs + 1 ≡ length (vs ++ v ∷ [])
length_more vs v = sym (length-append vs (v ∷ []))

one : (p : Verdict → Bool) (vs : List Verdict) (v : Verdict) → count_by p (v ∷ []) ≡ 1 → count_by p vs + 1 ≡ count_by p (vs ++ v ∷ [])
one p vs v h = ap (λ (n : ℕ). count_by p vs + n) (sym h) ∙ count_more p vs v

none : (p : Verdict → Bool) (vs : List Verdict) (v : Verdict) → count_by p (v ∷ []) ≡ 0 → count_by p vs ≡ count_by p (vs ++ v ∷ [])
none p vs v h = let more = count_more p vs v in omega (arith, h, more)

more : (vs : List Verdict) (v : Verdict) → with_verdict (tally_of vs) v ≡ tally_of (vs ++ v ∷ [])
more vs Pass = same _ _ _ _ _ _ _ _ (length_more vs Pass) (one is_pass vs Pass refl) (none is_fail vs Pass refl) (none is_skip vs Pass refl)
more vs Fail = same _ _ _ _ _ _ _ _ (length_more vs Fail) (none is_pass vs Fail refl) (one is_fail vs Fail refl) (none is_skip vs Fail refl)
more vs Skip = same _ _ _ _ _ _ _ _ (length_more vs Skip) (none is_pass vs Skip refl) (none is_fail vs Skip refl) (one is_skip vs Skip refl)

-- a tally of some verdicts, with one more
pub counts : (t : Tally) (v : Verdict) (vs : List Verdict) → t ≡ tally_of vs → with_verdict t v ≡ tally_of (vs ++ v ∷ [])
counts t v vs e = ap (λ (s : Tally). with_verdict s v) e ∙ more vs v

-- ---- room

-- no number is at its largest
pub record AreSmall (t : Tally) : Type 0 where
  pub tests : t.tests < 2 ^ 64 - 1
  pub passed : t.passed < 2 ^ 64 - 1
  pub failed : t.failed < 2 ^ 64 - 1
  pub skipped : t.skipped < 2 ^ 64 - 1

small : (vs : List Verdict) → length vs < 2 ^ 64 - 1 → AreSmall (tally_of vs)
small vs h =
    let p = count_by-le-length is_pass vs in
    let f = count_by-le-length is_fail vs in
    let s = count_by-le-length is_skip vs in
    record { tests = h; passed = omega (arith, p, h); failed = omega (arith, f, h); skipped = omega (arith, s, h) }

pub rooms : (t : Tally) → HasRoom t → AreSmall t
rooms t h = subst AreSmall (sym h.counted) (small h.verdicts h.room)
