-- What an event tells is of the design; and an activation as the answer of a simulator.
use Rattle.std.proofs.Common.{◌≡◌, ℕ, ◌<◌, ◌&&◌, Bool, true, false, not, if◌then◌else◌, List, [], ◌∷◌, ◌++◌, length, Option, Some, None, Result, Ok, Err, IfOk, refl, sym, ◌∙◌, ap, subst, arith, slice_get}
use Rattle.port_io.specs.declared.ports.NoMemory.{NoMemory}
use Rattle.gpi.specs.declared.types.Advance.{Advance}
use Rattle.gpi.specs.declared.types.Key.TheVariants as key
use Rattle.gpi.specs.declared.types.Moved.{Moved}
use Rattle.gpi.specs.declared.types.Region.TheVariants as region
use Rattle.gpi.specs.declared.types.SigId.{SigId}
use Rattle.gpi.specs.declared.types.Report.{Report}
use Rattle.gpi.specs.declared.types.Update.{Update}
use Rattle.four_value.specs.declared.Digit.{Digit}
use Rattle.four_value.specs.Vector.{same_digits}
use Rattle.gpi.specs.Terms.{widths_of}
use Rattle.gpi.specs.Targets.{AreFitting}
use Rattle.gpi.specs.Activation.{with_part}
use Rattle.gpi.specs.Design.{Proc}
use Rattle.gpi.specs.declared.types.Key.{Key}
use Rattle.gpi.specs.Keys.{Keys, has, fired_of, least, raised_by, IsWithout}
use Rattle.gpi.specs.State.{State, delayed_times, arriving, waiting_on, is_end}
use Rattle.gpi.specs.Events.{Event, or_else, if_has, activate, value_at, hidden_at, stored_at, put_over, report_case, due_case, active_case, later_case, settle_case, end_case, time_case}
use Rattle.gpi.specs.Content.{Content, Answers, IsChangeOf, IsToldOf}
use Rattle.gpi.proofs.Widths.{length_widths}
use Rattle.kernel_base.specs.Steps.{Answered, AreInside, from_time, from_end, from_settle, from_later, from_active, from_due, from_reports}
use Rattle.kernel_base.proofs.KeySets.{keep_all}

-- whatever of these comes about tells of one of the n signals
abbrev Tells : ℕ → Option Event → Type 0
Tells n o = (x : Event) → o ≡ Some x → IsChangeOf n x.told

same : (n : ℕ) (e x : Event) → Some e ≡ Some x → IsChangeOf n e.told → IsChangeOf n x.told
same n e x h k = let f : e ≡ x = cc in subst (λ (y : Event). IsChangeOf n y.told) f k

or_tells : (n : ℕ) (a b : Option Event) → Tells n a → Tells n b → Tells n (or_else a b)
or_tells n (Some e) b h k = h
or_tells n None b h k = k

if_tells : (n : ℕ) (t : Bool) (e : Event) → IsChangeOf n e.told → Tells n (if t then Some e else None)
if_tells n true e h = λ x q. same n e x q h
if_tells n false e h = λ x q. absurd (cc)

choice_told : (n : ℕ) (t : Bool) (a b : Event) → IsChangeOf n a.told → IsChangeOf n b.told → IsChangeOf n (if t then a else b).told
choice_told n true a b h k = h
choice_told n false a b h k = k

report_tells : (n : ℕ) (s : State) (keys : Keys) (rs : List Report) → AreInside rs n → Tells n (report_case s keys rs)
report_tells n s keys [] h = λ x q. absurd (cc)
report_tells n s keys (r ∷ rs) h = λ x q. same n _ x q h.0

put_tells : (n : ℕ) (o : Option (List Digit)) (ps : List Proc) (s : State) (keys : Keys) (sig : SigId) (bits : List Digit) → sig.0 < n → IsChangeOf n (put_over o ps s keys sig bits).told
put_tells n (Some ds) ps s keys sig bits k = tt
put_tells n None ps s keys sig bits k = choice_told n (same_digits (value_at s sig) bits) _ _ tt k

due_tells : (n : ℕ) (ps : List Proc) (s : State) (keys : Keys) (us : List Update) (ws : List ℕ) → length ws ≡ n → AreFitting us ws → Tells n (due_case ps s keys us)
due_tells n ps s keys [] ws l h = λ x q. absurd (cc)
due_tells n ps s keys (u ∷ us) ws l h = λ x q.
    let k : u.sig.0 < n = (let f = h.0.0 in omega arith) in
    same n _ x q (put_tells n (hidden_at s u.sig) ps (record s { due = us; region = region.Active }) keys u.sig (with_part (stored_at s u.sig) u.low u.bits) k)

active_tells : (n : ℕ) (ps : List Proc) (s : State) (bs : List ℕ) → Tells n (active_case ps s bs)
active_tells n ps s [] = λ x q. absurd (cc)
active_tells n ps s (b ∷ bs) = λ x q. same n _ x q tt

time_tells : (n : ℕ) (s : State) (keys : Keys) (o : Option ℕ) → Tells n (time_case s keys o)
time_tells n s keys None = λ x q. absurd (cc)
time_tells n s keys (Some t) = λ x q. same n _ x q tt

pub event_tells : (c : Content) → AreInside c.state.reports (length c.state.signals) → AreFitting c.state.due (widths_of c.state.signals) → AreFitting c.state.later (widths_of c.state.signals)
    → Tells (length c.state.signals) (from_reports c)
event_tells c r d l =
    let n = length c.state.signals in
    let w = length_widths c.state.signals in
    or_tells n (report_case c.state c.keys c.state.reports) (from_due c) (report_tells n c.state c.keys c.state.reports r)
    (or_tells n (due_case c.procs c.state c.keys c.state.due) (from_active c) (due_tells n c.procs c.state c.keys c.state.due (widths_of c.state.signals) w d)
    (or_tells n (active_case c.procs c.state c.state.active) (from_later c) (active_tells n c.procs c.state c.state.active)
    (or_tells n (later_case c.procs c.state c.keys) (from_settle c) (due_tells n c.procs (record c.state { later = [] }) c.keys c.state.later (widths_of c.state.signals) w l)
    (or_tells n (settle_case c.state c.keys) (from_end c) (if_tells n (has key.ReadWrite c.keys && not (is_end c.state.region)) _ tt)
    (or_tells n (end_case c.state c.keys) (from_time c) (if_tells n (has key.ReadOnly c.keys && not (is_end c.state.region)) _ tt)
    (time_tells n c.state c.keys (least (delayed_times c.state.delayed ++ c.keys.times))))))))

answer_told : (b a : Content) (e : Option Event) (x : Advance) (n : ℕ) → Answers b e x a → Tells n e → IsToldOf n x
answer_told b a None x n h t = subst (λ (y : Advance). IsToldOf n y) (sym h.0) tt
answer_told b a (Some e) x n h t = subst (λ (y : Advance). IsToldOf n y) (sym h.0) (t e refl)

-- what is told of an event is of the design
pub told_answers : (b a : Content) (e : Option Event) (r : Result Advance NoMemory) (n : ℕ) → IfOk r (λ x. Answers b e x a) → Tells n e → IfOk r (IsToldOf n)
told_answers b a e (Ok x) n h t = answer_told b a e x n h t
told_answers b a e (Err y) n h t = h

-- the activation of the first active process
pub ran_case : (b a : Content) (p : ℕ) (rest : List ℕ) → b.state.active ≡ p ∷ rest → a.procs ≡ b.procs → a.nets ≡ b.nets
    → a.state ≡ activate b.procs (record b.state { active = rest }) p (slice_get b.procs p) → a.keys ≡ b.keys → a.counts ≡ b.counts
    → Answered b (active_case b.procs b.state b.state.active) (Some (record { change = None; fired = fired_of [] })) a
ran_case b a p rest e f n s k c =
    subst (λ (xs : List ℕ). Answered b (active_case b.procs b.state xs) (Some (record { change = None; fired = fired_of [] })) a) (sym e) (
      refl,
      record {
        procs = f;
        nets = n;
        state = s;
        keys = λ q. ap (has q) k ∙ keep_all (has q b.keys);
        counts = c;
      },
    )

-- time has moved on
pub time_case_is : (b a : Content) (t : ℕ) (o : Option ℕ) (m : Moved) (keys : List Key) → o ≡ Some t → keys ≡ if_has key.NextStep b.keys ++ if_has (key.At t) b.keys
    → m ≡ record { change = None; fired = fired_of keys } → a.procs ≡ b.procs → a.nets ≡ b.nets
    → a.state ≡ record b.state { later = arriving t b.state.delayed; delayed = waiting_on t b.state.delayed; time = t; region = region.Begin }
    → IsWithout keys b.keys a.keys → a.counts ≡ record b.counts { fired = raised_by keys b.counts.fired } → Answered b (time_case b.state b.keys o) (Some m) a
time_case_is b a t o m keys e f g p n s k c =
    subst (λ (q : Option ℕ). Answered b (time_case b.state b.keys q) (Some m) a) (sym e) (
      ap Some (g ∙ ap (λ (ks : List Key). let x : Moved = record { change = None; fired = fired_of ks } in x) f),
      record {
        procs = p;
        nets = n;
        state = s;
        keys = subst (λ (ks : List Key). IsWithout ks b.keys a.keys) f k;
        counts = c ∙ ap (λ (ks : List Key). record b.counts { fired = raised_by ks b.counts.fired }) f;
      },
    )
