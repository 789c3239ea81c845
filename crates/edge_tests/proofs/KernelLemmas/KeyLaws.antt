-- Keys that lists tell, and how many keys an event fires.
use Rattle.std.proofs.Common.{◌≡◌, ℕ, ◌+◌, ◌≤◌, ◌==◌, ◌&&◌, ◌||◌, not, if◌then◌else◌, Bool, true, false, List, [], ◌∷◌, ◌++◌, Option, Some, None, length, refl, ap, ◌∙◌, arith, eqb-true, length-append, slice_index_or, subst}
use Rattle.four_value.specs.declared.Digit.{Digit}
use Rattle.four_value.specs.declared.Digit.TheVariants.{Zero, One, X, Z}
use Rattle.four_value.specs.Vector.{digit_at, same_digits}
use Rattle.gpi.specs.Activation.{with_part}
use Rattle.gpi.specs.Design.{Proc}
use Rattle.gpi.specs.Events.{Event, event, show, put, put_over, force, release, release_over, hidden_at, stored_at, with_hidden, or_else, if_has, level_keys, edge_keys, value_at, write_change, report_case, due_case, active_case, later_case, settle_case, end_case, time_case}
use Rattle.gpi.specs.Keys.{Keys, among, fired_of, has, least, same_key}
use Rattle.gpi.specs.State.{State, delayed_times, is_end}
use Rattle.gpi.specs.declared.types.Key.{Key}
use Rattle.gpi.specs.declared.types.Key.TheVariants as key
use Rattle.gpi.specs.declared.types.Region.TheVariants as region
use Rattle.gpi.specs.declared.types.Report.{Report}
use Rattle.gpi.specs.declared.types.SigId.{SigId}
use Rattle.gpi.specs.declared.types.Update.{Update}
use Rattle.edge_tests.specs.Kernel.Keys.{keys_in, without, without_all}

-- ---- lists of keys

one_signal : (s t : SigId) → (s.0 == t.0) ≡ true → s ≡ t
one_signal s t h = ap (λ (n : ℕ). let x : SigId = record { 0 = n } in x) (eqb-true s.0 t.0 h)

-- keys that are one are equal
same_is : (x y : Key) → same_key x y ≡ true → x ≡ y
same_is (key.At s) (key.At t) h = ap key.At (eqb-true s t h)
same_is (key.Rise s) (key.Rise t) h = ap key.Rise (one_signal s t h)
same_is (key.Fall s) (key.Fall t) h = ap key.Fall (one_signal s t h)
same_is (key.Change s) (key.Change t) h = ap key.Change (one_signal s t h)
same_is key.ReadWrite key.ReadWrite h = refl
same_is key.ReadOnly key.ReadOnly h = refl
same_is key.NextStep key.NextStep h = refl
same_is x y h = cc

-- a key more, as the last
pub among_push : (k new : Key) (ks : List Key) → among k (ks ++ new ∷ []) ≡ (same_key k new || among k ks)
among_push k new [] = refl
among_push k new (x ∷ ks) = ap (λ (b : Bool). same_key k x || b) (among_push k new ks) ∙ or_swap (same_key k x) (same_key k new) (among k ks)
  where
    or_swap : (a b c : Bool) → (a || (b || c)) ≡ (b || (a || c))
    or_swap true true c = refl
    or_swap true false c = refl
    or_swap false b c = refl

-- a key less
among_without : (k gone : Key) (ks : List Key) → among k (without gone ks) ≡ (among k ks && not (same_key k gone))
among_without k gone [] = refl
among_without k gone (x ∷ ks) = decided (same_key x gone) (same_key k x) refl refl (among_without k gone ks)
  where
    both_no : (b : Bool) → (b && false) ≡ false
    both_no true = refl
    both_no false = refl

    decided : (g s : Bool) → same_key x gone ≡ g → same_key k x ≡ s → among k (without gone ks) ≡ (among k ks && not (same_key k gone))
        → among k (without gone (x ∷ ks)) ≡ (among k (x ∷ ks) && not (same_key k gone))
    decided true true g s h = let e : same_key k gone ≡ true = ap (λ (y : Key). same_key y gone) (same_is k x s) ∙ g in rw (g, s, e) (h ∙ rw e (both_no (among k ks)))
    decided true false g s h = rw (g, s) h
    decided false true g s h = let e : same_key k gone ≡ false = ap (λ (y : Key). same_key y gone) (same_is k x s) ∙ g in rw (g, s, e) refl
    decided false false g s h = rw (g, s) h

-- several keys less
pub among_without_all : (k : Key) (gone ks : List Key) → among k (without_all gone ks) ≡ (among k ks && not (among k gone))
among_without_all k [] ks = and_yes (among k ks)
  where
    and_yes : (b : Bool) → b ≡ (b && true)
    and_yes true = refl
    and_yes false = refl
among_without_all k (g ∷ gone) ks =
    among_without_all k gone (without g ks)
    ∙ ap (λ (b : Bool). b && not (among k gone)) (among_without k g ks)
    ∙ and_and (among k ks) (same_key k g) (among k gone)
  where
    and_and : (a p q : Bool) → ((a && not p) && not q) ≡ (a && not (p || q))
    and_and true true q = refl
    and_and true false q = refl
    and_and false p q = refl

-- at most two keys are told whole
pub told_back : (ks : List Key) → length ks ≤ 2 → keys_in (fired_of ks) ≡ ks
told_back [] h = refl
told_back (a ∷ []) h = refl
told_back (a ∷ b ∷ []) h = refl
told_back (a ∷ b ∷ c ∷ ks) h = absurd (let n : length (a ∷ b ∷ c ∷ ks) ≤ 2 = h in omega arith)

-- ---- how many keys fire

one_if : (b : Bool) (k : Key) → length (if b then k ∷ [] else []) ≤ 1
one_if true k = omega arith
one_if false k = omega arith

one_level : (sig : SigId) (d : Digit) (keys : Keys) → length (level_keys sig d keys) ≤ 1
one_level sig One keys = one_if (has (key.Rise sig) keys) (key.Rise sig)
one_level sig Zero keys = one_if (has (key.Fall sig) keys) (key.Fall sig)
one_level sig X keys = omega arith
one_level sig Z keys = omega arith

one_width : (b : Bool) (ks : List Key) → length ks ≤ 1 → length (if b then ks else []) ≤ 1
one_width true ks h = h
one_width false ks h = omega arith

two_both : (xs ys : List Key) → length xs ≤ 1 → length ys ≤ 1 → length (xs ++ ys) ≤ 2
two_both xs ys a b = let n : length (xs ++ ys) ≡ length xs + length ys = length-append xs ys in omega arith

-- the keys of a change
two_edges : (c : Report) (keys : Keys) → length (edge_keys c keys) ≤ 2
two_edges c keys =
    two_both (if length c.after == 1 then level_keys c.sig (digit_at c.after 0) keys else []) (if_has (key.Change c.sig) keys)
    (one_width (length c.after == 1) (level_keys c.sig (digit_at c.after 0) keys) (one_level c.sig (digit_at c.after 0) keys))
    (one_if (has (key.Change c.sig) keys) (key.Change c.sig))

-- at most two keys fire
abbrev pub AreFew : Event → Type 0
AreFew e = length e.fired ≤ 2

few_if : (b : Bool) (e f : Event) → AreFew e → AreFew f → AreFew (if b then e else f)
few_if true e f h k = h
few_if false e f h k = k

-- of a value that is written
write_few : (ps : List Proc) (s : State) (keys : Keys) (c : Report) → AreFew (write_change ps s keys c)
write_few ps s keys c = few_if (same_digits c.before c.after) _ _ (omega arith) (two_edges c keys)

show_few : (ps : List Proc) (s : State) (keys : Keys) (sig : SigId) (bits : List Digit) → AreFew (show ps s keys sig bits)
show_few ps s keys sig bits = write_few ps s keys (record { sig = sig; before = value_at s sig; after = bits })

over_few : (o : Option (List Digit)) (ps : List Proc) (s : State) (keys : Keys) (sig : SigId) (bits : List Digit) → AreFew (put_over o ps s keys sig bits)
over_few None ps s keys sig bits = show_few ps s keys sig bits
over_few (Some ds) ps s keys sig bits = omega arith

-- of a deposit
pub put_few : (ps : List Proc) (s : State) (keys : Keys) (sig : SigId) (bits : List Digit) → AreFew (put ps s keys sig bits)
put_few ps s keys sig bits = over_few (hidden_at s sig) ps s keys sig bits

-- of a force
pub force_few : (ps : List Proc) (s : State) (keys : Keys) (sig : SigId) (bits : List Digit) → AreFew (force ps s keys sig bits)
force_few ps s keys sig bits = show_few ps (with_hidden s sig (Some (stored_at s sig))) keys sig bits

released_few : (o : Option (List Digit)) (net : Bool) (ps : List Proc) (s : State) (keys : Keys) (sig : SigId) → AreFew (release_over o net ps s keys sig)
released_few None net ps s keys sig = omega arith
released_few (Some ds) true ps s keys sig = show_few ps (with_hidden s sig None) keys sig ds
released_few (Some ds) false ps s keys sig = omega arith

-- of a release
pub release_few : (ps : List Proc) (nets : List Bool) (s : State) (keys : Keys) (sig : SigId) → AreFew (release ps nets s keys sig)
release_few ps nets s keys sig = released_few (hidden_at s sig) (slice_index_or nets sig.0 false) ps s keys sig

abbrev FewIf : Option Event → Type 0
FewIf None = Unit {0}
FewIf (Some e) = AreFew e

either : (a b : Option Event) → FewIf a → FewIf b → FewIf (or_else a b)
either None b h k = k
either (Some e) b h k = h

report_few : (s : State) (keys : Keys) (cs : List Report) → FewIf (report_case s keys cs)
report_few s keys [] = tt
report_few s keys (c ∷ cs) = two_edges c keys

due_few : (ps : List Proc) (s : State) (keys : Keys) (us : List Update) → FewIf (due_case ps s keys us)
due_few ps s keys [] = tt
due_few ps s keys (u ∷ us) = put_few ps (record s { due = us; region = region.Active }) keys u.sig (with_part (stored_at s u.sig) u.low u.bits)

active_few : (ps : List Proc) (s : State) (ns : List ℕ) → FewIf (active_case ps s ns)
active_few ps s [] = tt
active_few ps s (p ∷ rest) = omega arith

some_few : (b : Bool) (e : Event) → AreFew e → FewIf (if b then Some e else None)
some_few true e h = h
some_few false e h = tt

time_few : (s : State) (keys : Keys) (o : Option ℕ) → FewIf (time_case s keys o)
time_few s keys None = tt
time_few s keys (Some t) = two_both (if_has key.NextStep keys) (if_has (key.At t) keys) (one_if (has key.NextStep keys) key.NextStep) (one_if (has (key.At t) keys) (key.At t))

event_if : (ps : List Proc) (s : State) (keys : Keys) → FewIf (event ps s keys)
event_if ps s keys =
    either (report_case s keys s.reports) _ (report_few s keys s.reports)
    (either (due_case ps s keys s.due) _ (due_few ps s keys s.due)
    (either (active_case ps s s.active) _ (active_few ps s s.active)
    (either (later_case ps s keys) _ (due_few ps (record s { later = [] }) keys s.later)
    (either (settle_case s keys) _ (some_few (has key.ReadWrite keys && not (is_end s.region)) _ (omega arith))
    (either (end_case s keys) (time_case s keys (least (delayed_times s.delayed ++ keys.times))) (some_few (has key.ReadOnly keys && not (is_end s.region)) _ (omega arith))
    (time_few s keys (least (delayed_times s.delayed ++ keys.times))))))))

-- of an event
pub event_few : (ps : List Proc) (s : State) (keys : Keys) (e : Event) → event ps s keys ≡ Some e → AreFew e
event_few ps s keys e h = subst FewIf h (event_if ps s keys)
