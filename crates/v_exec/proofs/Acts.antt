-- The instructions of statements do what the statements do.
use Rattle.std.proofs.Common.{◌≡◌, ℕ, zero, suc, ◌+◌, ◌-◌, ◌≤◌, List, [], ◌∷◌, ◌++◌, length, max, refl, ap, sym, subst, ◌∙◌, arith, length-append}
use Rattle.four_value.specs.declared.Digit.{Digit}
use Rattle.four_value.specs.declared.Digit.TheVariants as digit
use Rattle.gpi.specs.declared.acts.Act.{Act}
use Rattle.gpi.specs.declared.terms.Term.{Term}
use Rattle.gpi.specs.declared.targets.Target.{Target}
use Rattle.gpi.specs.Operators.{truth}
use Rattle.gpi.specs.Terms as term
use Rattle.gpi.specs.Terms.{value, width, read}
use Rattle.gpi.specs.Targets.{target_width, updates_of, IsSoundTarget}
use Rattle.gpi.specs.Activation.{Run, activation, by_truth, blocking, nonblocking, IsSound}
use Rattle.v_exec.specs.declared.instruction.Instruction.{Instruction}
use Rattle.v_exec.specs.declared.instruction.Instruction.TheVariants as code
use Rattle.v_exec.specs.declared.instruction.Mode.TheVariants as mode
use Rattle.v_exec.specs.declared.packing.needs.Needs.{Needs}
use Rattle.v_exec.specs.Machine.{Machine, exec, unless}
use Rattle.v_exec.specs.Fits.{Room, Fits}
use Rattle.v_exec.specs.Packing.{term_front, term_depth, deepest, target_front, target_depth, target_stores, blocking_front, skip_front}
use Rattle.v_exec.specs.Packed.{EndsBy, between, FitsUpTo, Packs, PacksAct}
use Rattle.v_exec.proofs.Terms.{term_runs, term_fits, term_stands, front_both}
use Rattle.v_exec.proofs.Targets.{later_runs, blocking_runs, target_fits, blocking_fits, target_stands, blocking_stands}

-- ---- passing over

pub exec_pass : (front is : List Instruction) (m : Machine) → exec (front ++ is) (length front) m ≡ exec is 0 m
exec_pass [] is m = refl
exec_pass (i ∷ front) is m = exec_pass front is m

pub fits_pass : (front is : List Instruction) (room : Room) (ws st : List ℕ) (j : ℕ)
    → Fits room ws is 0 (record { stack = st; stores = j }) → Fits room ws (front ++ is) (length front) (record { stack = st; stores = j })
fits_pass [] is room ws st j f = f
fits_pass (i ∷ front) is room ws st j f = fits_pass front is room ws st j f

-- from new to what it ends by
pub exec_to : (is new : List Instruction) (n : ℕ) (m : Machine) → EndsBy is new → n ≡ length new - length is → exec new n m ≡ exec is 0 m
exec_to is new n m e h =
    let k : n ≡ length e.0 = omega (arith, h, ap length e.1, length-append e.0 is) in
    ap (λ (xs : List Instruction). exec xs n m) e.1 ∙ (ap (λ (j : ℕ). exec (e.0 ++ is) j m) k ∙ exec_pass e.0 is m)

pub fits_to : (is new : List Instruction) (n : ℕ) (room : Room) (ws st : List ℕ) (j : ℕ) → EndsBy is new → n ≡ length new - length is
    → Fits room ws is 0 (record { stack = st; stores = j }) → Fits room ws new n (record { stack = st; stores = j })
fits_to is new n room ws st j e h f =
    let k : n ≡ length e.0 = omega (arith, h, ap length e.1, length-append e.0 is) in
    subst (λ (xs : List Instruction). Fits room ws xs n (record { stack = st; stores = j })) (sym e.1)
    (subst (λ (i : ℕ). Fits room ws (e.0 ++ is) i (record { stack = st; stores = j })) (sym k) (fits_pass e.0 is room ws st j f))

pub ends_length : (is new : List Instruction) → EndsBy is new → length is ≤ length new
ends_length is new e = omega (arith, ap length e.1, length-append e.0 is)

-- ---- one after the other

pub packs_none : (is : List Instruction) (Sound : List ℕ → Type 0) (needs : Needs) → needs.depth ≡ 0 → needs.stores ≡ 0 → Packs is is (λ r. r) Sound needs
packs_none is Sound needs e g = record {
  ends = ([], refl);
  runs = λ st r. refl;
  fits = λ room ws st k h d l f j m. f j (omega (arith, m));
  depth = omega (arith, e);
  stores = omega (arith, g);
}

pub packs_then : (is mid new : List Instruction) (f g : Run → Run) (S T : List ℕ → Type 0) (a b needs : Needs)
    → needs.depth ≡ max a.depth b.depth → needs.stores ≡ a.stores + b.stores
    → Packs mid new f S a → Packs is mid g T b → Packs is new (λ r. g (f r)) (λ ws. S ws × T ws) needs
packs_then is mid new f g S T a b needs e h p q = record {
  ends = front_both is mid new q.ends p.ends;
  runs = λ st r. p.runs st r ∙ q.runs st (f r);
  fits = λ room ws st k s d l x.
      p.fits room ws st k s.0 (omega (arith, d, e)) (omega (arith, l, h))
      (q.fits room ws st (k + a.stores) s.1 (omega (arith, d, e)) (omega (arith, l, h)) (λ j m. x j (omega (arith, m, h))));
  depth = omega (arith, e, p.depth, q.depth, ends_length is mid q.ends, ends_length mid new p.ends);
  stores = omega (arith, h, p.stores, q.stores);
}

-- ---- assignments

pub packs_blocking : (is : List Instruction) (target : Target) (t : Term) (depth : ℕ) (a needs : Needs)
    → a.depth ≡ target_depth target → a.stores ≡ target_stores target → depth ≡ term_depth t
    → needs.depth ≡ deepest depth a.depth → needs.stores ≡ a.stores
    → needs.depth + length is ≤ length (term_front t (blocking_front target is)) → needs.stores + length is ≤ length (term_front t (blocking_front target is))
    → Packs is (term_front t (blocking_front target is)) (λ r. blocking (updates_of target (read r.signals) (value t (read r.signals))) r)
    (λ ws. IsSoundTarget target ws × term.IsSound t ws × (width t ≡ target_width target)) needs
packs_blocking is target t depth a needs ad sd td nd ns few_d few_s = record {
  ends = front_both is (blocking_front target is) _ (blocking_stands target is) (term_stands t (blocking_front target is));
  runs = λ st r.
      term_runs t (blocking_front target is) (between st r)
      ∙ blocking_runs target is (value t (read r.signals)) st r;
  fits = λ room ws st k s d l x j m.
      term_fits t room ws (blocking_front target is) (record { stack = st; stores = j }) s.1 (omega (arith, d, nd, td))
      (subst (λ (w : ℕ). Fits room ws (blocking_front target is) 0 (record { stack = w ∷ st; stores = j })) (sym s.2)
      (blocking_fits target room ws is st j (j + target_stores target) s.0 refl (omega (arith, d, nd, ad)) (omega (arith, l, m, ns, sd))
      (x (j + target_stores target) (omega (arith, m, ns, sd)))));
  depth = few_d;
  stores = few_s;
}

pub packs_later : (is : List Instruction) (n : ℕ) (target : Target) (t : Term) (depth : ℕ) (a needs : Needs)
    → a.depth ≡ target_depth target → a.stores ≡ target_stores target → depth ≡ term_depth t
    → needs.depth ≡ deepest depth a.depth → needs.stores ≡ a.stores
    → needs.depth + length is ≤ length (term_front t (target_front (mode.Later n) target is))
    → needs.stores + length is ≤ length (term_front t (target_front (mode.Later n) target is))
    → Packs is (term_front t (target_front (mode.Later n) target is)) (λ r. nonblocking n (updates_of target (read r.signals) (value t (read r.signals))) r)
    (λ ws. IsSoundTarget target ws × term.IsSound t ws × (width t ≡ target_width target)) needs
packs_later is n target t depth a needs ad sd td nd ns few_d few_s =
    let last = target_front (mode.Later n) target is in record {
      ends = front_both is last _ (target_stands (mode.Later n) target is) (term_stands t last);
      runs = λ st r.
          term_runs t last (between st r)
          ∙ later_runs n target is (value t (read r.signals)) st r [];
      fits = λ room ws st k s d l x j m.
          term_fits t room ws last (record { stack = st; stores = j }) s.1 (omega (arith, d, nd, td))
          (subst (λ (w : ℕ). Fits room ws last 0 (record { stack = w ∷ st; stores = j })) (sym s.2)
          (target_fits (mode.Later n) target room ws is st j (j + target_stores target) s.0 refl (omega (arith, d, nd, ad)) (omega (arith, l, m, ns, sd))
          (x (j + target_stores target) (omega (arith, m, ns, sd)))));
      depth = few_d;
      stores = few_s;
    }

-- ---- jumps; to pass over none takes no jump

pub skip_ends : (k : ℕ) (other : List Instruction) → EndsBy other (skip_front k other)
skip_ends zero other = ([], refl)
skip_ends (suc k) other = (code.Skip (suc k) ∷ [], refl)

pub skip_length : (k : ℕ) (other : List Instruction) → length other ≤ length (skip_front k other)
skip_length k other = ends_length other (skip_front k other) (skip_ends k other)

pub skip_runs : (is other : List Instruction) (k : ℕ) (st : List (List Digit)) (r : Run) → EndsBy is other → k ≡ length other - length is
    → exec (skip_front k other) 0 (between st r) ≡ exec is 0 (between st r)
skip_runs is other zero st r e h = exec_to is other 0 (between st r) e h
skip_runs is other (suc k) st r e h = exec_to is other (suc k) (between st r) e h

pub skip_fits : (is other : List Instruction) (k : ℕ) (room : Room) (ws st : List ℕ) (j : ℕ) → EndsBy is other → k ≡ length other - length is
    → Fits room ws is 0 (record { stack = st; stores = j }) → Fits room ws (skip_front k other) 0 (record { stack = st; stores = j })
skip_fits is other zero room ws st j e h f = fits_to is other 0 room ws st j e h f
skip_fits is other (suc k) room ws st j e h f = (tt, fits_to is other (suc k) room ws st j e h f)

-- ---- choices

choice_run : (d : Digit) (n : ℕ) (first is : List Instruction) (st : List (List Digit)) (r a b : Run)
    → exec first 0 (between st r) ≡ exec is 0 (between st a) → exec first n (between st r) ≡ exec is 0 (between st b)
    → exec first (unless n d) (between st r) ≡ exec is 0 (between st (by_truth d a b))
choice_run digit.Zero n first is st r a b x y = y
choice_run digit.One n first is st r a b x y = x
choice_run digit.X n first is st r a b x y = y
choice_run digit.Z n first is st r a b x y = y

pub packs_choice : (is other first : List Instruction) (t : Term) (a b : Act) (n k depth : ℕ) (na nb needs : Needs)
    → PacksAct is other b nb → k ≡ length other - length is → PacksAct (skip_front k other) first a na → n ≡ length first - length other
    → depth ≡ term_depth t
    → needs.depth ≡ max depth (max na.depth nb.depth) → needs.stores ≡ max na.stores nb.stores
    → depth + length first + 1 ≤ length (term_front t (code.Unless n ∷ first))
    → Packs is (term_front t (code.Unless n ∷ first)) (λ r. by_truth (truth (value t (read r.signals))) (activation a r) (activation b r))
    (λ ws. term.IsSound t ws × IsSound a ws × IsSound b ws) needs
packs_choice is other first t a b n k depth na nb needs pb ek pa en td nd ns few =
    let skipped : EndsBy other first = front_both other (skip_front k other) first (skip_ends k other) pa.ends in
    let ls = skip_length k other in
    let all = front_both is other first pb.ends skipped in
    let lo = ends_length is other pb.ends in
    let lf = ends_length other first skipped in
    record {
      ends = front_both is (code.Unless n ∷ first) _ (code.Unless n ∷ all.0, ap (λ (xs : List Instruction). code.Unless n ∷ xs) all.1)
          (term_stands t (code.Unless n ∷ first));
      runs = λ st r.
          term_runs t (code.Unless n ∷ first) (between st r)
          ∙ choice_run (truth (value t (read r.signals))) n first is st r (activation a r) (activation b r)
          (pa.runs st r ∙ skip_runs is other k st (activation a r) pb.ends ek)
          (exec_to other first n (between st r) skipped en ∙ pb.runs st r);
      fits = λ room ws st c s d l x j m.
          let rest : FitsUpTo room ws is st (c + na.stores) = λ i h. x i (omega (arith, h, ns)) in
          let behind : FitsUpTo room ws (skip_front k other) st (c + na.stores) =
          λ i h. skip_fits is other k room ws st i pb.ends ek (rest i h) in
          let yes = pa.fits room ws st c s.1 (omega (arith, d, nd)) (omega (arith, l, ns)) behind in
          let no = pb.fits room ws st c s.2 (omega (arith, d, nd)) (omega (arith, l, ns)) (λ i h. x i (omega (arith, h, ns))) in
          term_fits t room ws (code.Unless n ∷ first) (record { stack = st; stores = j }) s.0 (omega (arith, d, nd, td))
          (tt, (yes j m, fits_to other first n room ws st j skipped en (no j m)));
      depth = omega (arith, nd, few, pa.depth, pb.depth, lo, lf, ls);
      stores = omega (arith, ns, few, pa.stores, pb.stores, lo, lf, ls);
    }
