-- What a forced signal shows through any calls, and what a released net shows.
use Rattle.std.proofs.Common.{◌≡◌, ℕ, zero, suc, ◌<◌, ◌&&◌, not, ⊎_elim, Bool, true, false, if◌then◌else◌, is_some, List, [], ◌∷◌, ◌++◌, length, get_or, slice_get, slice_set, slice_index_or, Option, Some, None, refl, ap, sym, ◌∙◌, subst, arith}
use Rattle.std.proofs.lemmas.List.{length-set, length-map, get_or-set_same, get_or-set_other}
use Rattle.four_value.specs.declared.Digit.{Digit}
use Rattle.four_value.specs.declared.Digit.TheVariants.{Zero, One, X, Z}
use Rattle.four_value.specs.Vector.{same_digits, case_equal}
use Rattle.four_value.proofs.Equality.{case_equal_one}
use Rattle.gpi.specs.declared.acts.Act.{Act, Empty, Block', If', Case', Blocking, Nonblocking, Row_of-Act, end_of-Act, more_of-Act}
use Rattle.gpi.specs.declared.design.Flat.{Flat}
use Rattle.gpi.specs.declared.design.Process.{Process}
use Rattle.gpi.specs.declared.design.Signal.{Signal}
use Rattle.gpi.specs.declared.types.Key.TheVariants as key
use Rattle.gpi.specs.declared.types.Region.TheVariants as region
use Rattle.gpi.specs.declared.types.Report.{Report}
use Rattle.gpi.specs.declared.types.SigId.{SigId}
use Rattle.gpi.specs.declared.types.Update.{Update}
use Rattle.gpi.specs.Operators.{truth}
use Rattle.gpi.specs.Terms.{value, read}
use Rattle.gpi.specs.Targets.{updates_of}
use Rattle.gpi.specs.Cases.{first_match}
use Rattle.gpi.specs.Activation.{Map, Hidden, Run, activation, activations, activation_at, blocking, by_item, by_truth, hidden_in, with_part, written, written_over}
use Rattle.gpi.specs.Design.{Proc, procs_of, start_map}
use Rattle.gpi.specs.Keys.{Keys, has, least}
use Rattle.gpi.specs.State.{State, delayed_times, is_end}
use Rattle.gpi.specs.Events.{Event, activate, active_case, due_case, end_case, event, force, hidden_at, or_else, put_over, release_over, report_case, settle_case, show, stored_at, time_case, value_at, with_hidden}
use Rattle.gpi.specs.Content.{Content, Does, opening}
use Rattle.gpi.specs.Forced.{Call, Deposit, Force, Release, Register, Remove, Advance, AreElsewhere, IsElsewhere, LeadBy, Leaves, LeavesBy, Forced_signals_stay, Released_nets_show}

-- ---- what is kept of the shown and the hidden values

-- as many of both, and the signal n, where it is forced, shows what it showed and stays forced
record IsKept (n : ℕ) (shown : Map) (hidden : Hidden) (new_shown : Map) (new_hidden : Hidden) : Type 0 where
  shown_count : length new_shown ≡ length shown
  hidden_count : length new_hidden ≡ length hidden
  shows : is_some (hidden_in hidden n) ≡ true → get_or new_shown n [] ≡ get_or shown n []
  stays : is_some (hidden_in hidden n) ≡ true → is_some (hidden_in new_hidden n) ≡ true

kept_same : (n : ℕ) (m : Map) (h : Hidden) → IsKept n m h m h
kept_same n m h = record { shown_count = refl; hidden_count = refl; shows = λ f. refl; stays = λ f. f }

kept_both : (n : ℕ) (m : Map) (h : Hidden) (m₁ : Map) (h₁ : Hidden) (m₂ : Map) (h₂ : Hidden)
    → IsKept n m h m₁ h₁ → IsKept n m₁ h₁ m₂ h₂ → IsKept n m h m₂ h₂
kept_both n m h m₁ h₁ m₂ h₂ k l = record {
  shown_count = l.shown_count ∙ k.shown_count;
  hidden_count = l.hidden_count ∙ k.hidden_count;
  shows = λ f. l.shows (k.stays f) ∙ k.shows f;
  stays = λ f. l.stays (k.stays f);
}

some_stays : (h : Hidden) (i n : ℕ) (ds : List Digit) → is_some (get_or h n None) ≡ true → is_some (get_or (slice_set h i (Some ds)) n None) ≡ true
some_stays [] i n ds f = f
some_stays (x ∷ h) zero zero ds f = refl
some_stays (x ∷ h) zero (suc n) ds f = f
some_stays (x ∷ h) (suc i) zero ds f = f
some_stays (x ∷ h) (suc i) (suc n) ds f = some_stays h i n ds f

-- a hidden value is written
hidden_kept : (n : ℕ) (m : Map) (h : Hidden) (i : ℕ) (ds : List Digit) → IsKept n m h m (slice_set h i (Some ds))
hidden_kept n m h i ds = record { shown_count = refl; hidden_count = length-set h i (Some ds); shows = λ f. refl; stays = some_stays h i n ds }

-- a shown value is written, of another signal where n is forced
shown_kept : (n : ℕ) (m : Map) (h : Hidden) (i : ℕ) (ds : List Digit) → (is_some (hidden_in h n) ≡ true → n ≡ i → ⊥) → IsKept n m h (slice_set m i ds) h
shown_kept n m h i ds apart = record {
  shown_count = length-set m i ds;
  hidden_count = refl;
  shows = λ f. get_or-set_other m i n ds [] (apart f);
  stays = λ f. f;
}

free_apart : (h : Hidden) (i n : ℕ) → hidden_in h i ≡ None → is_some (hidden_in h n) ≡ true → n ≡ i → ⊥
free_apart h i n free f e = let g : is_some (hidden_in h i) ≡ true = subst (λ (k : ℕ). is_some (hidden_in h k) ≡ true) e f in cc

-- ---- an activation

written_kept : (n : ℕ) (u : Update) (r : Run) (o : Option (List Digit)) → hidden_in r.hidden u.sig.0 ≡ o
    → IsKept n r.signals r.hidden (written_over o u r).signals (written_over o u r).hidden
written_kept n u r None e =
    shown_kept n r.signals r.hidden u.sig.0 (with_part (slice_index_or r.signals u.sig.0 []) u.low u.bits) (free_apart r.hidden u.sig.0 n e)
written_kept n u r (Some ds) e = hidden_kept n r.signals r.hidden u.sig.0 (with_part ds u.low u.bits)

blocking_kept : (n : ℕ) (us : List Update) (r : Run) → IsKept n r.signals r.hidden (blocking us r).signals (blocking us r).hidden
blocking_kept n [] r = kept_same n r.signals r.hidden
blocking_kept n (u ∷ us) r = kept_both n _ _ _ _ _ _ (written_kept n u r (hidden_in r.hidden u.sig.0) refl) (blocking_kept n us (written u r))

truth_kept : (n : ℕ) (r : Run) (d : Digit) (a b : Run) → IsKept n r.signals r.hidden a.signals a.hidden → IsKept n r.signals r.hidden b.signals b.hidden
    → IsKept n r.signals r.hidden (by_truth d a b).signals (by_truth d a b).hidden
truth_kept n r One a b k l = k
truth_kept n r Zero a b k l = l
truth_kept n r X a b k l = l
truth_kept n r Z a b k l = l

item_kept : (n : ℕ) (r : Run) (o : Option ℕ) (items : ℕ → Run) (other : Run) → ((k : ℕ) → IsKept n r.signals r.hidden (items k).signals (items k).hidden)
    → IsKept n r.signals r.hidden other.signals other.hidden → IsKept n r.signals r.hidden (by_item o items other).signals (by_item o items other).hidden
item_kept n r (Some k) items other h l = h k
item_kept n r None items other h l = l

mutual
  act_kept : (n : ℕ) (act : Act) (r : Run) → IsKept n r.signals r.hidden (activation act r).signals (activation act r).hidden
  act_kept n Empty r = kept_same n r.signals r.hidden
  act_kept n (Block' shape all) r = acts_kept n all r
  act_kept n (If' t p a q b) r = truth_kept n r (truth (value t (read r.signals))) (activation a r) (activation b r) (act_kept n a r) (act_kept n b r)
  act_kept n (Case' kind t labels shape all p other) r =
      item_kept n r (first_match kind (value t (read r.signals)) labels (read r.signals)) (λ k. activation_at all k r) (activation other r)
      (λ k. item_at_kept n all k r) (act_kept n other r)
  act_kept n (Blocking target t) r = blocking_kept n (updates_of target (read r.signals) (value t (read r.signals))) r
  act_kept n (Nonblocking target t delay) r = kept_same n r.signals r.hidden

  acts_kept : {k : _} (n : ℕ) (all : Row_of-Act k) (r : Run) → IsKept n r.signals r.hidden (activations all r).signals (activations all r).hidden
  acts_kept n end_of-Act r = kept_same n r.signals r.hidden
  acts_kept n (more_of-Act a rest) r = kept_both n _ _ _ _ _ _ (act_kept n a r) (acts_kept n rest (activation a r))

  item_at_kept : {k : _} (n : ℕ) (all : Row_of-Act k) (i : ℕ) (r : Run) → IsKept n r.signals r.hidden (activation_at all i r).signals (activation_at all i r).hidden
  item_at_kept n end_of-Act i r = kept_same n r.signals r.hidden
  item_at_kept n (more_of-Act a rest) zero r = act_kept n a r
  item_at_kept n (more_of-Act a rest) (suc i) r = item_at_kept n rest i r

-- the process, if there is one, keeps the signal n
abbrev RunsKept : ℕ → Option Proc → Type 0
RunsKept n None = Unit {0}
RunsKept n (Some proc) = (m : Map) (h : Hidden) → IsKept n m h (proc.run m h).signals (proc.run m h).hidden

procs_kept : (n : ℕ) (processes : List Process) (p : ℕ) → RunsKept n (slice_get (procs_of processes) p)
procs_kept n [] p = tt
procs_kept n (x ∷ processes) zero = λ m h. act_kept n x.body (record { signals = m; hidden = h; updates = [] })
procs_kept n (x ∷ processes) (suc p) = procs_kept n processes p

-- ---- an event

abbrev Stays : ℕ → State → State → Type 0
Stays n s q = IsKept n s.signals s.hidden q.signals q.hidden

abbrev EventStays : ℕ → State → Option Event → Type 0
EventStays n s None = Unit {0}
EventStays n s (Some e) = Stays n s e.state

choice_stays : (n : ℕ) (s : State) (b : Bool) (e f : Event) → Stays n s e.state → Stays n s f.state
    → Stays n s (let x : Event = if b then e else f in x).state
choice_stays n s true e f h k = h
choice_stays n s false e f h k = k

if_stays : (n : ℕ) (s : State) (b : Bool) (e : Event) → Stays n s e.state → EventStays n s (if b then Some e else None)
if_stays n s true e h = h
if_stays n s false e h = tt

or_stays : (n : ℕ) (s : State) (o other : Option Event) → EventStays n s o → EventStays n s other → EventStays n s (or_else o other)
or_stays n s (Some e) other h k = h
or_stays n s None other h k = k

show_stays : (n : ℕ) (ps : List Proc) (s : State) (keys : Keys) (sig : SigId) (bits : List Digit) → (is_some (hidden_in s.hidden n) ≡ true → n ≡ sig.0 → ⊥)
    → Stays n s (show ps s keys sig bits).state
show_stays n ps s keys sig bits apart =
    choice_stays n s (same_digits (value_at s sig) bits) _ _ (kept_same n s.signals s.hidden) (shown_kept n s.signals s.hidden sig.0 bits apart)

put_stays : (n : ℕ) (ps : List Proc) (s : State) (keys : Keys) (sig : SigId) (bits : List Digit) (o : Option (List Digit)) → hidden_at s sig ≡ o
    → Stays n s (put_over o ps s keys sig bits).state
put_stays n ps s keys sig bits None e = show_stays n ps s keys sig bits (free_apart s.hidden sig.0 n e)
put_stays n ps s keys sig bits (Some ds) e = hidden_kept n s.signals s.hidden sig.0 bits

report_stays : (n : ℕ) (s : State) (keys : Keys) (cs : List Report) → EventStays n s (report_case s keys cs)
report_stays n s keys [] = tt
report_stays n s keys (c ∷ cs) = kept_same n s.signals s.hidden

due_stays : (n : ℕ) (ps : List Proc) (s : State) (keys : Keys) (us : List Update) → EventStays n s (due_case ps s keys us)
due_stays n ps s keys [] = tt
due_stays n ps s keys (u ∷ us) = put_stays n ps _ keys u.sig (with_part (stored_at s u.sig) u.low u.bits) (hidden_at s u.sig) refl

activate_stays : (n : ℕ) (ps : List Proc) (s : State) (p : ℕ) (o : Option Proc) → RunsKept n o → Stays n s (activate ps s p o)
activate_stays n ps s p None h = kept_same n s.signals s.hidden
activate_stays n ps s p (Some proc) h = h s.signals s.hidden

active_stays : (n : ℕ) (ps : List Proc) (s : State) (active : List ℕ) → ((p : ℕ) → RunsKept n (slice_get ps p)) → EventStays n s (active_case ps s active)
active_stays n ps s [] h = tt
active_stays n ps s (p ∷ rest) h = activate_stays n ps (record s { active = rest }) p (slice_get ps p) (h p)

settle_stays : (n : ℕ) (s : State) (keys : Keys) → EventStays n s (settle_case s keys)
settle_stays n s keys =
    if_stays n s (has key.ReadWrite keys && not (is_end s.region))
    (record { state = record s { region = region.Settle }; told = None; fired = key.ReadWrite ∷ [] }) (kept_same n s.signals s.hidden)

end_stays : (n : ℕ) (s : State) (keys : Keys) → EventStays n s (end_case s keys)
end_stays n s keys =
    if_stays n s (has key.ReadOnly keys && not (is_end s.region))
    (record { state = record s { region = region.End }; told = None; fired = key.ReadOnly ∷ [] }) (kept_same n s.signals s.hidden)

time_stays : (n : ℕ) (s : State) (keys : Keys) (o : Option ℕ) → EventStays n s (time_case s keys o)
time_stays n s keys None = tt
time_stays n s keys (Some t) = kept_same n s.signals s.hidden

event_stays : (n : ℕ) (ps : List Proc) (s : State) (keys : Keys) → ((p : ℕ) → RunsKept n (slice_get ps p)) → EventStays n s (event ps s keys)
event_stays n ps s keys h =
    or_stays n s _ _ (report_stays n s keys s.reports)
    (or_stays n s _ _ (due_stays n ps s keys s.due)
    (or_stays n s _ _ (active_stays n ps s s.active h)
    (or_stays n s _ _ (due_stays n ps (record s { later = [] }) keys s.later)
    (or_stays n s (settle_case s keys) _ (settle_stays n s keys)
    (or_stays n s (end_case s keys) _ (end_stays n s keys)
    (time_stays n s keys (least (delayed_times s.delayed ++ keys.times))))))))

-- ---- a force and a release

force_stays : (n : ℕ) (ps : List Proc) (s : State) (keys : Keys) (sig : SigId) (bits : List Digit) → (sig.0 ≡ n → ⊥) → Stays n s (force ps s keys sig bits).state
force_stays n ps s keys sig bits apart =
    kept_both n _ _ _ _ _ _ (hidden_kept n s.signals s.hidden sig.0 (stored_at s sig))
    (show_stays n ps (with_hidden s sig (Some (stored_at s sig))) keys sig bits (λ f e. apart (sym e)))

free_kept : (n : ℕ) (s : State) (sig : SigId) → (sig.0 ≡ n → ⊥) → Stays n s (with_hidden s sig None)
free_kept n s sig apart =
    let same : hidden_in (slice_set s.hidden sig.0 None) n ≡ hidden_in s.hidden n = get_or-set_other s.hidden sig.0 n None None (λ e. apart (sym e)) in
    record {
      shown_count = refl;
      hidden_count = length-set s.hidden sig.0 None;
      shows = λ f. refl;
      stays = λ f. ap (λ (o : Option (List Digit)). is_some o) same ∙ f;
    }

release_stays : (n : ℕ) (o : Option (List Digit)) (net : Bool) (ps : List Proc) (s : State) (keys : Keys) (sig : SigId) → (sig.0 ≡ n → ⊥)
    → Stays n s (release_over o net ps s keys sig).state
release_stays n None net ps s keys sig apart = kept_same n s.signals s.hidden
release_stays n (Some ds) true ps s keys sig apart =
    kept_both n _ _ _ _ _ _ (free_kept n s sig apart) (show_stays n ps (with_hidden s sig None) keys sig ds (λ f e. apart (sym e)))
release_stays n (Some ds) false ps s keys sig apart = free_kept n s sig apart

-- ---- a call

-- the processes of the design, and a shown and a hidden value for each of its signals
record IsReached (flat : Flat) (c : Content) : Type 0 where
  procs : c.procs ≡ procs_of flat.processes
  shown : length c.state.signals ≡ length flat.signals
  hidden : length c.state.hidden ≡ length flat.signals

-- the processes stay, and so does the signal n
record CallStays (n : ℕ) (c d : Content) : Type 0 where
  procs : d.procs ≡ c.procs
  state : Stays n c.state d.state

call_same : (n : ℕ) (c d : Content) → d ≡ c → CallStays n c d
call_same n c d e = subst (λ (x : Content). CallStays n c x) (sym e) (record { procs = refl; state = kept_same n c.state.signals c.state.hidden })

call_does : (n : ℕ) (c d : Content) (e : Event) → Does c e d → Stays n c.state e.state → CallStays n c d
call_does n c d e h k = record { procs = h.procs; state = subst (λ (q : State). Stays n c.state q) (sym h.state) k }

call_leaves : (n : ℕ) (c d : Content) (o : Option Event) → Leaves c o d → EventStays n c.state o → CallStays n c d
call_leaves n c d (Some e) h k = call_does n c d e h k
call_leaves n c d None h k = call_same n c d h

call_stays : (flat : Flat) (sig : SigId) (x : Call) (c d : Content) → IsReached flat c → IsElsewhere sig x → LeavesBy x c d → CallStays sig.0 c d
call_stays flat sig (Deposit other bits) c d r apart h =
    call_does sig.0 c d _ h (put_stays sig.0 c.procs c.state c.keys other bits (hidden_at c.state other) refl)
call_stays flat sig (Force other bits) c d r apart h = call_does sig.0 c d _ h (force_stays sig.0 c.procs c.state c.keys other bits apart)
call_stays flat sig (Release other) c d r apart h =
    call_does sig.0 c d _ h (release_stays sig.0 (hidden_at c.state other) (slice_index_or c.nets other.0 false) c.procs c.state c.keys other apart)
call_stays flat sig (Register key) c d r apart h =
    ⊎_elim
    (λ k. record { procs = k.procs; state = subst (λ (q : State). Stays sig.0 c.state q) (sym k.state) (kept_same sig.0 c.state.signals c.state.hidden) })
    (λ e. call_same sig.0 c d e)
    h
call_stays flat sig (Remove key) c d r apart h =
    record { procs = h.procs; state = subst (λ (q : State). Stays sig.0 c.state q) (sym h.state) (kept_same sig.0 c.state.signals c.state.hidden) }
call_stays flat sig Advance c d r apart h =
    let kept : (p : ℕ) → RunsKept sig.0 (slice_get c.procs p) =
    λ p. subst (λ (ps : List Proc). RunsKept sig.0 (slice_get ps p)) (sym r.procs) (procs_kept sig.0 flat.processes p) in
    ⊎_elim
    (λ k. call_leaves sig.0 c d (event c.procs c.state c.keys) k (event_stays sig.0 c.procs c.state c.keys kept))
    (λ e. call_same sig.0 c d e)
    h

-- ---- calls one after the other

reached_on : (flat : Flat) (n : ℕ) (c d : Content) → IsReached flat c → CallStays n c d → IsReached flat d
reached_on flat n c d r k = record {
  procs = k.procs ∙ r.procs;
  shown = k.state.shown_count ∙ r.shown;
  hidden = k.state.hidden_count ∙ r.hidden;
}

-- a signal that the call neither forces nor releases
abbrev elsewhere : Call → SigId
elsewhere (Force other bits) = record { 0 = suc other.0 }
elsewhere (Release other) = record { 0 = suc other.0 }
elsewhere _ = record { 0 = 0 }

is_elsewhere : (x : Call) → IsElsewhere (elsewhere x) x
is_elsewhere (Deposit other bits) = tt
is_elsewhere (Force other bits) = λ e. omega (arith, e)
is_elsewhere (Release other) = λ e. omega (arith, e)
is_elsewhere (Register key) = tt
is_elsewhere (Remove key) = tt
is_elsewhere Advance = tt

reached_by : (flat : Flat) (xs : List Call) (c d : Content) → IsReached flat c → LeadBy xs c d → IsReached flat d
reached_by flat [] c d r h = subst (λ (x : Content). IsReached flat x) (sym h) r
reached_by flat (x ∷ xs) c d r h =
    let next = h.0 in
    reached_by flat xs next d (reached_on flat (elsewhere x).0 c next r (call_stays flat (elsewhere x) x c next r (is_elsewhere x) h.1)) h.2

start_count : (ss : List Signal) → length (start_map ss) ≡ length ss
start_count [] = refl
start_count (s ∷ ss) = ap suc (start_count ss)

opening_reached : (flat : Flat) → IsReached flat (opening flat)
opening_reached flat = record { procs = refl; shown = start_count flat.signals; hidden = length-map flat.signals (λ s. None) }

-- what a signal shows after calls elsewhere
shown_on : (flat : Flat) (sig : SigId) (xs : List Call) (c d : Content) → IsReached flat c → is_some (hidden_in c.state.hidden sig.0) ≡ true
    → AreElsewhere sig xs → LeadBy xs c d → value_at d.state sig ≡ value_at c.state sig
shown_on flat sig [] c d r f apart h = ap (λ (x : Content). value_at x.state sig) h
shown_on flat sig (x ∷ xs) c d r f apart h =
    let next = h.0 in
    let k = call_stays flat sig x c next r apart.0 h.1 in
    shown_on flat sig xs next d (reached_on flat sig.0 c next r k) (k.state.stays f) apart.1 h.2 ∙ k.state.shows f

-- ---- what is shown

same_is : (xs ys : List Digit) → same_digits xs ys ≡ true → xs ≡ ys
same_is xs ys e = let f : case_equal xs ys ≡ One = rw e refl in case_equal_one xs ys f

-- whether it is a change or not
shows_it : (s : State) (sig : SigId) (bits : List Digit) (e f : Event) (b : Bool) → same_digits (value_at s sig) bits ≡ b → e.state.signals ≡ s.signals
    → f.state.signals ≡ slice_set s.signals sig.0 bits → sig.0 < length s.signals → value_at (let x : Event = if b then e else f in x).state sig ≡ bits
shows_it s sig bits e f true t h k l = ap (λ (m : Map). get_or m sig.0 []) h ∙ same_is (value_at s sig) bits t
shows_it s sig bits e f false t h k l = ap (λ (m : Map). get_or m sig.0 []) k ∙ get_or-set_same s.signals sig.0 bits [] l

show_shows : (ps : List Proc) (s : State) (keys : Keys) (sig : SigId) (bits : List Digit) → sig.0 < length s.signals
    → value_at (show ps s keys sig bits).state sig ≡ bits
show_shows ps s keys sig bits l = shows_it s sig bits _ _ (same_digits (value_at s sig) bits) refl refl refl l

hidden_choice : (h : Hidden) (e f : Event) (b : Bool) → e.state.hidden ≡ h → f.state.hidden ≡ h → (let x : Event = if b then e else f in x).state.hidden ≡ h
hidden_choice h e f true k l = k
hidden_choice h e f false k l = l

show_hides : (ps : List Proc) (s : State) (keys : Keys) (sig : SigId) (bits : List Digit) → (show ps s keys sig bits).state.hidden ≡ s.hidden
show_hides ps s keys sig bits = hidden_choice s.hidden _ _ (same_digits (value_at s sig) bits) refl refl

forced_is_some : (ps : List Proc) (s : State) (keys : Keys) (sig : SigId) (bits : List Digit) → sig.0 < length s.hidden
    → is_some (hidden_in (force ps s keys sig bits).state.hidden sig.0) ≡ true
forced_is_some ps s keys sig bits l =
    let e = show_hides ps (with_hidden s sig (Some (stored_at s sig))) keys sig bits in
    ap (λ (h : Hidden). is_some (hidden_in h sig.0)) e
    ∙ ap (λ (o : Option (List Digit)). is_some o) (get_or-set_same s.hidden sig.0 (Some (stored_at s sig)) None l)

pub forced_signals_stay : Forced_signals_stay
forced_signals_stay flat earlier calls sig bits before c d led inside forced apart on =
    let r = reached_by flat earlier (opening flat) before (opening_reached flat) led in
    let next : IsReached flat c = reached_by flat (Force sig bits ∷ []) before c r (c, forced, refl) in
    let hidden : is_some (hidden_in c.state.hidden sig.0) ≡ true =
    ap (λ (q : State). is_some (hidden_in q.hidden sig.0)) forced.state
    ∙ forced_is_some before.procs before.state before.keys sig bits (subst (λ (n : ℕ). sig.0 < n) (sym r.hidden) inside) in
    let shown : value_at c.state sig ≡ bits =
    ap (λ (q : State). value_at q sig) forced.state
    ∙ show_shows before.procs (with_hidden before.state sig (Some (stored_at before.state sig))) before.keys sig bits
    (subst (λ (n : ℕ). sig.0 < n) (sym r.shown) inside) in
    shown_on flat sig calls c d next hidden apart on ∙ shown

hidden_inside : (h : Hidden) (i : ℕ) (ds : List Digit) → hidden_in h i ≡ Some ds → i < length h
hidden_inside [] i ds e = absurd (cc)
hidden_inside (x ∷ h) zero ds e = omega arith
hidden_inside (x ∷ h) (suc i) ds e = let l = hidden_inside h i ds e in omega (arith, l)

pub released_nets_show : Released_nets_show
released_nets_show flat calls sig bits c d led hidden net released =
    let r = reached_by flat calls (opening flat) c (opening_reached flat) led in
    let inside : sig.0 < length c.state.signals =
    subst (λ (n : ℕ). sig.0 < n) (r.hidden ∙ sym r.shown) (hidden_inside c.state.hidden sig.0 bits hidden) in
    let shown : value_at (release_over (Some bits) true c.procs c.state c.keys sig).state sig ≡ bits =
    show_shows c.procs (with_hidden c.state sig None) c.keys sig bits inside in
    ap (λ (q : State). value_at q sig) released.state
    ∙ ap (λ (o : Option (List Digit)). value_at (release_over o (slice_index_or c.nets sig.0 false) c.procs c.state c.keys sig).state sig) hidden
    ∙ ap (λ (b : Bool). value_at (release_over (Some bits) b c.procs c.state c.keys sig).state sig) net
    ∙ shown
