-- The touched signals, and the flags that tell them.
use Rattle.std.proofs.Common.{◌≡◌, ◌≢◌, ℕ, zero, suc, ◌+◌, ◌<◌, ◌≤◌, ◌==◌, ◌||◌, Bool, true, false, List, [], ◌∷◌, ◌++◌, length, set, get_or, drop, slice_get, Some, refl, ap, sym, ◌∙◌, subst, arith}
use Rattle.std.proofs.lemmas.List.{drop_more, drop_all}
use Rattle.std.proofs.lemmas.Option.{slice_get_within}
use Rattle.std.proofs.lemmas.Grind.{common_steps}
use Rattle.std.proofs.lemmas.Bool.Decides.{nat_tests}
use Rattle.four_value.specs.declared.Digit.{Digit}
use Rattle.gpi.specs.Keys.{holds}
use Rattle.gpi.specs.Activation.{Map}
use Rattle.v_exec.specs.declared.workspace.Touched.{Touched}
use Rattle.v_exec.specs.Workspace.{sigs_of, AreEarlier, AreTouched, AreMarks}

-- ---- tests

or_parts : (a b : Bool) → (a || b) ≡ false → (a ≡ false) × (b ≡ false)
or_parts false false h = (refl, refl)
or_parts false true h = cc
or_parts true b h = cc

other_way : (m n : ℕ) → (m == n) ≡ false → (n == m) ≡ false
other_way m n h = grind (arith, nat_tests)

same_number : (m n : ℕ) → (m == n) ≡ true → m ≡ n
same_number m n h = grind (arith, nat_tests)

not_number : (m n : ℕ) → (m == n) ≡ false → m ≢ n
not_number m n h = grind (arith, nat_tests)

itself : (n : ℕ) → (n == n) ≡ true
itself n = grind (arith, nat_tests)

or_true : (b : Bool) → (b || true) ≡ true
or_true true = refl
or_true false = refl

or_false : (b : Bool) → (b || false) ≡ b
or_false true = refl
or_false false = refl

-- ---- one more that is touched

holds_push : (q : ℕ) (ts : List Touched) (t : Touched) → holds q (sigs_of (ts ++ t ∷ [])) ≡ (holds q (sigs_of ts) || (q == t.sig.0))
holds_push q [] t = or_false (q == t.sig.0)
holds_push q (x ∷ ts) t = let h = holds_push q ts t in grind (arith, common_steps, h)

pub earlier_push : (before : Map) (ts : List Touched) (t : Touched) → AreEarlier before ts → holds t.sig.0 (sigs_of ts) ≡ false → slice_get before t.sig.0 ≡ Some t.before
    → AreEarlier before (ts ++ t ∷ [])
earlier_push before [] t a h e = (e, refl, tt)
earlier_push before (x ∷ ts) t a h e =
    let p = or_parts (t.sig.0 == x.sig.0) (holds t.sig.0 (sigs_of ts)) h in
    (a.0, rw (holds_push x.sig.0 ts t, a.1, other_way t.sig.0 x.sig.0 p.0) refl, earlier_push before ts t a.2 p.1 e)

-- ---- lists that are written

both_less : (k n : ℕ) → (suc k == suc n) ≡ false → (k == n) ≡ false
both_less k n h = grind (arith, nat_tests)

pub get_other : {A : Type 0} (xs : List A) (n k : ℕ) (x : A) → (k == n) ≡ false → slice_get (set xs n x) k ≡ slice_get xs k
get_other [] n k x h = refl
get_other (y ∷ xs) zero zero x h = cc
get_other (y ∷ xs) zero (suc k) x h = refl
get_other (y ∷ xs) (suc n) zero x h = refl
get_other (y ∷ xs) (suc n) (suc k) x h = get_other xs n k x (both_less k n h)

pub get_there : {A : Type 0} (xs : List A) (n : ℕ) (x : A) → n < length xs → slice_get (set xs n x) n ≡ Some x
get_there [] n x h = absurd (omega arith)
get_there (y ∷ xs) zero x h = refl
get_there (y ∷ xs) (suc n) x h = get_there xs n x (omega arith)

pub length_there : {A : Type 0} (xs : List A) (n : ℕ) (x : A) → length (set xs n x) ≡ length xs
length_there [] n x = refl
length_there (y ∷ xs) zero x = refl
length_there (y ∷ xs) (suc n) x = ap suc (length_there xs n x)

-- ---- a signal is written that is touched already, or is touched now

other_held : (q s : ℕ) (ts : List Touched) (b : Bool) → holds q (sigs_of ts) ≡ false → holds s (sigs_of ts) ≡ true → (q == s) ≡ b → (q == s) ≡ false
other_held q s ts false h k e = e
other_held q s ts true h k e = let f = same_number q s e in absurd (cc)

pub touched_again : (before shown : Map) (ts : List Touched) (s : ℕ) (ds : List Digit) → AreTouched before shown ts → holds s (sigs_of ts) ≡ true
    → AreTouched before (set shown s ds) ts
touched_again before shown ts s ds a h = record {
  earlier = a.earlier;
  others = λ q k. get_other shown s q ds (other_held q s ts (q == s) k h refl) ∙ a.others q k;
}

pub touched_now : (before shown : Map) (ts : List Touched) (t : Touched) (ds : List Digit) → AreTouched before shown ts → holds t.sig.0 (sigs_of ts) ≡ false
    → slice_get shown t.sig.0 ≡ Some t.before → AreTouched before (set shown t.sig.0 ds) (ts ++ t ∷ [])
touched_now before shown ts t ds a h e = record {
  earlier = earlier_push before ts t a.earlier h (sym (a.others t.sig.0 h) ∙ e);
  others = λ q k.
      let p = or_parts (holds q (sigs_of ts)) (q == t.sig.0) (sym (holds_push q ts t) ∙ k) in
      get_other shown t.sig.0 q ds p.1 ∙ a.others q p.0;
}

-- ---- flags

inside_push : (flags : List Bool) (ts : List Touched) (t : Touched) (q : ℕ) (a b : Bool) → AreMarks flags ts → t.sig.0 < length flags → holds q (sigs_of ts) ≡ a → (q == t.sig.0) ≡ b
    → (a || b) ≡ true → q < length flags
inside_push flags ts t q true b m h e f k = m.inside q e
inside_push flags ts t q false true m h e f k = let g = same_number q t.sig.0 f in omega arith
inside_push flags ts t q false false m h e f k = cc

each_push : (flags : List Bool) (ts : List Touched) (t : Touched) (q : ℕ) (b : Bool) → AreMarks flags ts → t.sig.0 < length flags → q < length flags → (q == t.sig.0) ≡ b
    → slice_get (set flags t.sig.0 true) q ≡ Some (holds q (sigs_of ts) || b)
each_push flags ts t q true m h k e =
    ap (λ (n : ℕ). slice_get (set flags t.sig.0 true) n) (same_number q t.sig.0 e)
    ∙ (get_there flags t.sig.0 true h ∙ ap Some (sym (or_true (holds q (sigs_of ts)))))
each_push flags ts t q false m h k e = get_other flags t.sig.0 q true e ∙ (m.each q k ∙ ap Some (sym (or_false (holds q (sigs_of ts)))))

pub marks_push : (flags : List Bool) (ts : List Touched) (t : Touched) → AreMarks flags ts → t.sig.0 < length flags → AreMarks (set flags t.sig.0 true) (ts ++ t ∷ [])
marks_push flags ts t m h = record {
  inside = λ q k.
      let l = length_there flags t.sig.0 true in
      let i = inside_push flags ts t q (holds q (sigs_of ts)) (q == t.sig.0) m h refl refl (sym (holds_push q ts t) ∙ k) in
      omega arith;
  each = λ q k.
      let l = length_there flags t.sig.0 true in
      each_push flags ts t q (q == t.sig.0) m h (omega arith) refl ∙ ap Some (sym (holds_push q ts t));
}

-- what a flag tells
pub flag_tells : (flags : List Bool) (ts : List Touched) (s : ℕ) (b : Bool) → AreMarks flags ts → slice_get flags s ≡ Some b → s < length flags → holds s (sigs_of ts) ≡ b
flag_tells flags ts s b m e h = let f = m.each s h in cc

-- ---- flags that are taken back

pub held_there : (ts : List Touched) (n : ℕ) (t : Touched) → n < length ts → t ≡ get_or ts n t → holds t.sig.0 (sigs_of ts) ≡ true
held_there [] n t h e = absurd (omega arith)
held_there (x ∷ ts) zero t h e = rw (ap (λ (y : Touched). t.sig.0 == y.sig.0) (sym e), itself t.sig.0) refl
held_there (x ∷ ts) (suc n) t h e = rw (held_there ts n t (omega arith) e) (or_true (t.sig.0 == x.sig.0))

-- a flag that is set is that of one of these
abbrev pub AreOf : List Bool → List Touched → Type 0
AreOf flags ts = (q : ℕ) → slice_get flags q ≡ Some true → holds q (sigs_of ts) ≡ true

pub flags_begin : (flags : List Bool) (ts : List Touched) → AreMarks flags ts → AreOf flags ts
flags_begin flags ts m = λ q h. let l = slice_get_within flags q true h in let e = m.each q l in cc

taken_back : (flags : List Bool) (ts : List Touched) (t : Touched) (q : ℕ) (b : Bool) → AreOf flags (t ∷ ts) → t.sig.0 < length flags → (q == t.sig.0) ≡ b
    → slice_get (set flags t.sig.0 false) q ≡ Some true → holds q (sigs_of ts) ≡ true
taken_back flags ts t q true a h e k =
    let f = get_there flags t.sig.0 false h in
    let g = ap (λ (n : ℕ). slice_get (set flags t.sig.0 false) n) (same_number q t.sig.0 e) in
    absurd (cc)
taken_back flags ts t q false a h e k =
    let f = a q (sym (get_other flags t.sig.0 q false e) ∙ k) in rw e at f

pub flags_step : (flags : List Bool) (ts : List Touched) (n : ℕ) (t : Touched) → AreOf flags (drop n ts) → n < length ts → t ≡ get_or ts n t → t.sig.0 < length flags
    → AreOf (set flags t.sig.0 false) (drop (n + 1) ts)
flags_step flags ts n t a h e k =
    let d = drop_more ts n t h ∙ ap (λ (x : Touched). x ∷ drop (n + 1) ts) (sym e) in
    λ q f. taken_back flags (drop (n + 1) ts) t q (q == t.sig.0) (subst (λ (xs : List Touched). AreOf flags xs) d a) k refl f

no_flag : (flags : List Bool) (q : ℕ) → ((p : ℕ) → slice_get flags p ≡ Some true → false ≡ true) → q < length flags → slice_get flags q ≡ Some false
no_flag [] q a h = absurd (omega arith)
no_flag (true ∷ flags) zero a h = let f = a 0 refl in absurd (cc)
no_flag (false ∷ flags) zero a h = refl
no_flag (b ∷ flags) (suc q) a h = no_flag flags q (λ p e. a (suc p) e) (omega arith)

pub flags_end : (flags : List Bool) (ts : List Touched) (n : ℕ) → AreOf flags (drop n ts) → length ts ≤ n → AreMarks flags []
flags_end flags ts n a h =
    let b = subst (λ (xs : List Touched). AreOf flags xs) (drop_all n ts h) a in
    record { inside = λ s k. absurd (cc); each = λ s k. no_flag flags s b k }

pub ruleset touches = (touched_again, touched_now, marks_push, flag_tells)
