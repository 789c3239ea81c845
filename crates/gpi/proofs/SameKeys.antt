-- An event depends on the members of the registered keys alone.
use Rattle.std.proofs.Common.{◌≡◌, ℕ, ◌≤◌, ◌==◌, ◌||◌, ◌&&◌, ◌⊎◌, Bool, true, false, min, if◌then◌else◌, List, [], ◌∷◌, ◌++◌, Option, Some, None, refl, sym, ◌∙◌, ap, arith, inl, inr, ⊎_elim, eqb-true, subst, length, get_or, slice_set}
use Rattle.std.proofs.lemmas.Bool.Decides.{nat_tests}
use Rattle.gpi.specs.declared.types.Key.{Key}
use Rattle.gpi.specs.declared.types.Key.TheVariants as key
use Rattle.four_value.specs.declared.Digit.{Digit}
use Rattle.four_value.specs.declared.Digit.TheVariants.{Zero, One, X, Z}
use Rattle.four_value.specs.Vector.{digit_at, same_digits}
use Rattle.gpi.specs.declared.types.Region.TheVariants as region
use Rattle.gpi.specs.declared.types.SigId.{SigId}
use Rattle.gpi.specs.declared.types.Told.{Told}
use Rattle.gpi.specs.declared.types.Report.{Report}
use Rattle.gpi.specs.declared.types.Update.{Update}
use Rattle.gpi.specs.Design.{Proc}
use Rattle.gpi.specs.Keys.{Keys, has, holds, least, lesser, AreSame, IsWith, same_key}
use Rattle.gpi.specs.Activation.{with_part}
use Rattle.gpi.specs.State.{State, woken, arriving, waiting_on, delayed_times}
use Rattle.gpi.specs.Events.{Event, event, or_else, if_has, level_keys, edge_keys, tells, value_at, stored_at, hidden_at, with_hidden, show, put_over, put, force, release_over, release, report_case, due_case, time_case}

itself : (n : ℕ) → (n == n) ≡ true
itself n = grind (arith, nat_tests)

or_left : (a b : Bool) → a ≡ true → (a || b) ≡ true
or_left true b h = refl
or_left false b h = cc

or_right : (a b : Bool) → b ≡ true → (a || b) ≡ true
or_right true b h = refl
or_right false b h = h

or_cases : (a b : Bool) → (a || b) ≡ true → (a ≡ true) ⊎ (b ≡ true)
or_cases true b h = inl refl
or_cases false b h = inr h

-- the least of these times, if there is one
pub record IsLeast (m : ℕ) (ts : List ℕ) : Type 0 where
  pub there : holds m ts ≡ true
  pub below : (t : ℕ) → holds t ts ≡ true → m ≤ t

abbrev TellsLeast : Option ℕ → List ℕ → Type 0
TellsLeast None ts = (t : ℕ) → holds t ts ≡ false
TellsLeast (Some m) ts = IsLeast m ts

either : (t u : ℕ) → (t ≤ u) ⊎ (u ≤ t)
either t u = grind arith

step : (t : ℕ) (ts : List ℕ) (o : Option ℕ) → TellsLeast o ts → TellsLeast (lesser t o) (t ∷ ts)
step t ts None h = record {
  there = or_left (t == t) (holds t ts) (itself t);
  below = λ q k. ⊎_elim (λ (e : (q == t) ≡ true). let f = eqb-true q t e in omega arith) (λ (e : holds q ts ≡ true). absurd (let g = h q in cc)) (or_cases (q == t) (holds q ts) k);
}
step t ts (Some u) h = record {
  there = ⊎_elim
      (λ (l : t ≤ u). let e : min t u ≡ t = omega arith in subst (λ (m : ℕ). holds m (t ∷ ts) ≡ true) (sym e) (or_left (t == t) (holds t ts) (itself t)))
      (λ (l : u ≤ t). let e : min t u ≡ u = omega arith in subst (λ (m : ℕ). holds m (t ∷ ts) ≡ true) (sym e) (or_right (u == t) (holds u ts) h.there))
      (either t u);
  below = λ q k. ⊎_elim (λ (e : (q == t) ≡ true). let f = eqb-true q t e in omega arith) (λ (e : holds q ts ≡ true). let g = h.below q e in omega arith) (or_cases (q == t) (holds q ts) k);
}

pub least_tells : (ts : List ℕ) → TellsLeast (least ts) ts
least_tells [] = λ t. refl
least_tells (t ∷ ts) = step t ts (least ts) (least_tells ts)

agree : (a b : Option ℕ) (xs ys : List ℕ) → TellsLeast a xs → TellsLeast b ys → ((t : ℕ) → holds t xs ≡ holds t ys) → a ≡ b
agree None None xs ys h k s = refl
agree None (Some n) xs ys h k s = absurd (let e = h n in let f = s n in let g = k.there in cc)
agree (Some m) None xs ys h k s = absurd (let e = k m in let f = s m in let g = h.there in cc)
agree (Some m) (Some n) xs ys h k s =
    let p = h.below n (s n ∙ k.there) in
    let q = k.below m (sym (s m) ∙ h.there) in
    let e : m ≡ n = omega arith in
    ap Some e

pub least_same : (xs ys : List ℕ) → ((t : ℕ) → holds t xs ≡ holds t ys) → least xs ≡ least ys
least_same xs ys h = agree (least xs) (least ys) xs ys (least_tells xs) (least_tells ys) h

if_same : (k : Key) (xs ys : Keys) → AreSame xs ys → if_has k xs ≡ if_has k ys
if_same k xs ys h = ap (λ (b : Bool). if b then k ∷ [] else []) (h k)

level_same : (sig : SigId) (d : Digit) (xs ys : Keys) → AreSame xs ys → level_keys sig d xs ≡ level_keys sig d ys
level_same sig One xs ys h = if_same (key.Rise sig) xs ys h
level_same sig Zero xs ys h = if_same (key.Fall sig) xs ys h
level_same sig X xs ys h = refl
level_same sig Z xs ys h = refl

pub edge_same : (c : Report) (xs ys : Keys) → AreSame xs ys → edge_keys c xs ≡ edge_keys c ys
edge_same c xs ys h =
    ap (λ (l : List Key). (if length c.after == 1 then l else []) ++ if_has (key.Change c.sig) xs) (level_same c.sig (digit_at c.after 0) xs ys h)
    ∙ ap (λ (l : List Key). (if length c.after == 1 then level_keys c.sig (digit_at c.after 0) ys else []) ++ l) (if_same (key.Change c.sig) xs ys h)

report_same : (s : State) (xs ys : Keys) → AreSame xs ys → (rs : List Report) → report_case s xs rs ≡ report_case s ys rs
report_same s xs ys h [] = refl
report_same s xs ys h (c ∷ cs) =
    ap (λ (l : List Key). Some (let e : Event = record { state = record s { reports = cs; region = region.Active }; told = tells c; fired = l } in e)) (edge_same c xs ys h)

write_same : (t : Bool) (s w : State) (told : Option Told) (l k : List Key) → l ≡ k
    → (let e : Event = if t then record { state = s; told = None; fired = [] } else record { state = w; told = told; fired = l } in e)
    ≡ (let e : Event = if t then record { state = s; told = None; fired = [] } else record { state = w; told = told; fired = k } in e)
write_same t s w told l k e = rw e refl

pub show_same : (ps : List Proc) (s : State) (xs ys : Keys) → AreSame xs ys → (sig : SigId) (bits : List Digit) → show ps s xs sig bits ≡ show ps s ys sig bits
show_same ps s xs ys h sig bits =
    let c : Report = record { sig = sig; before = value_at s sig; after = bits } in
    write_same (same_digits c.before bits) s (record s { signals = slice_set s.signals sig.0 bits; active = s.active ++ woken 0 ps (c ∷ []) s.active })
    (tells c) (edge_keys c xs) (edge_keys c ys) (edge_same c xs ys h)

put_over_same : (o : Option (List Digit)) (ps : List Proc) (s : State) (xs ys : Keys) → AreSame xs ys → (sig : SigId) (bits : List Digit)
    → put_over o ps s xs sig bits ≡ put_over o ps s ys sig bits
put_over_same None ps s xs ys h sig bits = show_same ps s xs ys h sig bits
put_over_same (Some ds) ps s xs ys h sig bits = refl

pub put_same : (ps : List Proc) (s : State) (xs ys : Keys) → AreSame xs ys → (sig : SigId) (bits : List Digit) → put ps s xs sig bits ≡ put ps s ys sig bits
put_same ps s xs ys h sig bits = put_over_same (hidden_at s sig) ps s xs ys h sig bits

pub force_same : (ps : List Proc) (s : State) (xs ys : Keys) → AreSame xs ys → (sig : SigId) (bits : List Digit) → force ps s xs sig bits ≡ force ps s ys sig bits
force_same ps s xs ys h sig bits = show_same ps (with_hidden s sig (Some (stored_at s sig))) xs ys h sig bits

release_over_same : (o : Option (List Digit)) (net : Bool) (ps : List Proc) (s : State) (xs ys : Keys) → AreSame xs ys → (sig : SigId)
    → release_over o net ps s xs sig ≡ release_over o net ps s ys sig
release_over_same None net ps s xs ys h sig = refl
release_over_same (Some ds) true ps s xs ys h sig = show_same ps (with_hidden s sig None) xs ys h sig ds
release_over_same (Some ds) false ps s xs ys h sig = refl

pub release_same : (ps : List Proc) (nets : List Bool) (s : State) (xs ys : Keys) → AreSame xs ys → (sig : SigId)
    → release ps nets s xs sig ≡ release ps nets s ys sig
release_same ps nets s xs ys h sig = release_over_same (hidden_at s sig) (get_or nets sig.0 false) ps s xs ys h sig

due_same : (ps : List Proc) (s : State) (xs ys : Keys) → AreSame xs ys → (us : List Update) → due_case ps s xs us ≡ due_case ps s ys us
due_same ps s xs ys h [] = refl
due_same ps s xs ys h (u ∷ us) = ap Some (put_same ps (record s { due = us; region = region.Active }) xs ys h u.sig (with_part (stored_at s u.sig) u.low u.bits))

if_some : (a b c : Bool) (e : Event) → a ≡ b → (if a && c then Some e else None) ≡ (if b && c then Some e else None)
if_some a b c e h = rw h refl

-- the state at a time, where these keys fire
abbrev at_time : State → ℕ → List Key → Event
at_time s t fired =
    record { state = record s { later = arriving t s.delayed; delayed = waiting_on t s.delayed; time = t; region = region.Begin }; told = None; fired = fired }

with_first : (a b c d : Bool) → b ≡ (c || d) → (a || b) ≡ ((a || c) || d)
with_first true b c d h = refl
with_first false b c d h = h

time_same : (s : State) (xs ys : Keys) → AreSame xs ys → (o : Option ℕ) → time_case s xs o ≡ time_case s ys o
time_same s xs ys h None = refl
time_same s xs ys h (Some t) =
    ap (λ (l : List Key). Some (at_time s t (l ++ if_has (key.At t) xs))) (if_same key.NextStep xs ys h)
    ∙ ap (λ (l : List Key). Some (at_time s t (if_has key.NextStep ys ++ l))) (if_same (key.At t) xs ys h)

-- a time is one of either list, or of neither
holds_both : (t : ℕ) (ts us : List ℕ) → holds t (ts ++ us) ≡ (holds t ts || holds t us)
holds_both t [] us = refl
holds_both t (q ∷ ts) us = with_first (t == q) (holds t (ts ++ us)) (holds t ts) (holds t us) (holds_both t ts us)

pub times_same : (ds xs ys : List ℕ) → ((t : ℕ) → holds t xs ≡ holds t ys) → least (ds ++ xs) ≡ least (ds ++ ys)
times_same ds xs ys h =
    least_same (ds ++ xs) (ds ++ ys) (λ t. holds_both t ds xs ∙ (ap (λ (b : Bool). holds t ds || b) (h t) ∙ sym (holds_both t ds ys)))

join : (a b c d : Option Event) → a ≡ b → c ≡ d → or_else a c ≡ or_else b d
join a b c d e f = rw (e, f) refl

pub event_same : (ps : List Proc) (s : State) (xs ys : Keys) → AreSame xs ys → event ps s xs ≡ event ps s ys
event_same ps s xs ys h =
    join _ _ _ _ (report_same s xs ys h s.reports)
    (join _ _ _ _ (due_same ps s xs ys h s.due)
    (join _ _ _ _ refl
    (join _ _ _ _ (due_same ps (record s { later = [] }) xs ys h s.later)
    (join _ _ _ _ (if_some _ _ _ _ (h key.ReadWrite))
    (join _ _ _ _ (if_some _ _ _ _ (h key.ReadOnly))
    (time_same s xs ys h (least (delayed_times s.delayed ++ xs.times)) ∙ ap (time_case s ys) (times_same (delayed_times s.delayed) xs.times ys.times (λ t. h (key.At t)))))))))

same_self : (k : Key) → same_key k k ≡ true
same_self (key.At t) = itself t
same_self (key.Rise s) = itself s.0
same_self (key.Fall s) = itself s.0
same_self (key.Change s) = itself s.0
same_self key.ReadWrite = refl
same_self key.ReadOnly = refl
same_self key.NextStep = refl

-- a key that was registered is there
pub has_with : (k : Key) (before after : Keys) → IsWith k before after → has k after ≡ true
has_with k before after h = h k ∙ rw (same_self k) refl
