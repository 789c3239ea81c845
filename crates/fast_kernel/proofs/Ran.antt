-- What the body of a process leaves of a simulation.
use Rattle.std.proofs.Common.{◌≡◌, ℕ, zero, suc, ◌+◌, ◌<◌, ◌≤◌, List, [], ◌∷◌, ◌++◌, length, get_or, Option, Some, None, slice_get, refl, sym, ap, ◌∙◌, subst, arith, Vec, Global, vec_capacity, zero-add}
use Rattle.std.specs.Vec.{with_items}
use Rattle.std.specs.Option.{MatchOption}
use Rattle.std.proofs.lemmas.List.{with_items_is}
use Rattle.four_value.specs.declared.Digit.{Digit}
use Rattle.gpi.specs.declared.types.Update.{Update}
use Rattle.gpi.specs.declared.types.Delayed.{Delayed}
use Rattle.gpi.specs.declared.types.Report.{Report}
use Rattle.gpi.specs.Terms.{widths_of}
use Rattle.gpi.specs.Targets.{AreFitting}
use Rattle.gpi.specs.Activation.{Map, Hidden, Run, AreHidden}
use Rattle.gpi.specs.Design.{Proc}
use Rattle.gpi.specs.State.{State, changes, woken, at_once, all_delaying}
use Rattle.gpi.specs.declared.types.Region.{Region}
use Rattle.gpi.specs.declared.types.Region.TheVariants as region
use Rattle.gpi.specs.Keys.{fired_of}
use Rattle.gpi.specs.Events.{activate, active_case}
use Rattle.gpi.specs.Content.{Content}
use Rattle.kernel_base.specs.Lists.{barred, own_of, AreBelow, AreDistinct}
use Rattle.kernel_base.specs.Steps.{Answered, ran}
use Rattle.kernel_base.proofs.Told.{ran_case}
use Rattle.kernel_base.proofs.Activated.{changes_of, own_barred}
use Rattle.kernel_base.proofs.Hiding.{same_places, hidden_places}
use Rattle.kernel_base.proofs.Delays.{fitting_both, fitting_at_once, fitting_all_delaying}
use Rattle.v_exec.specs.declared.code.Code.{Code}
use Rattle.v_exec.specs.declared.workspace.Touched.{Touched}
use Rattle.v_exec.specs.declared.workspace.Workspace.{Workspace}
use Rattle.v_exec.specs.Code.{run_of, IsSoundCode, HasRun}
use Rattle.v_exec.specs.Workspace.{AreTouched, AreEarlier, IsReady, IsWorkspace, sigs_of}
use Rattle.kernel_base.specs.declared.times.Times.{Times}
use Rattle.kernel_base.specs.TimeSets.{times_of}
use Rattle.callback_book.specs.Books.{keys_with}
use Rattle.event_queue.specs.declared.queue.Queue.{Queue}
use Rattle.event_queue.specs.declared.updates.Updates.{Updates}
use Rattle.event_queue.specs.Held.{due_of, later_of, delayed_of}
use Rattle.event_queue.specs.Queues.{Held, held, processes_of}
use Rattle.fast_kernel.specs.declared.header.Header.{Header}
use Rattle.fast_kernel.specs.declared.simulation.Simulation.{Simulation}
use Rattle.fast_kernel.specs.declared.waiters.Waiters.{Waiters}
use Rattle.fast_kernel.specs.Woken.{KeepsWaiters}
use Rattle.fast_kernel.specs.Kernel.{content_of, procs_from, procs_in, pending, noted, woken_by, own_in, AreQueued, IsLoaded, Stays}
use Rattle.fast_kernel.proofs.Loaded.{awaited_kept, same_waiters, same_queued}

-- ---- the touched signals

inside_length : {A : Type 0} (xs : List A) (n : ℕ) (x : A) → slice_get xs n ≡ Some x → n < length xs
inside_length [] n x h = absurd (cc)
inside_length (y ∷ xs) zero x h = omega arith
inside_length (y ∷ xs) (suc n) x h = let k = inside_length xs n x h in omega arith

pub touched_below : (before : Map) (ts : List Touched) (n : ℕ) → length before ≡ n → AreEarlier before ts → AreBelow n (sigs_of ts)
touched_below before [] n e a = tt
touched_below before (t ∷ ts) n e a =
    (let k = inside_length before t.sig.0 t.before a.0 in omega arith, touched_below before ts n e a.2)

pub touched_distinct : (before : Map) (ts : List Touched) → AreEarlier before ts → AreDistinct (sigs_of ts)
touched_distinct before [] a = tt
touched_distinct before (t ∷ ts) a = (a.1, touched_distinct before ts a.2)

-- ---- a process by its number

pub length_procs_from : (n : ℕ) (hs : List Header) (code : Code) → length (procs_from n hs code) ≡ length hs
length_procs_from n [] code = refl
length_procs_from n (h ∷ hs) code = ap suc (length_procs_from (suc n) hs code)

pub proc_from : (n p q : ℕ) (hs : List Header) (code : Code) (x : Header) → p < length hs → x ≡ get_or hs p x → q ≡ n + p
    → slice_get (procs_from n hs code) p ≡ Some (record { kind = x.kind; wakes = x.wakes; run = run_of code q })
proc_from n p q [] code x h e f = absurd (omega arith)
proc_from n zero q (y ∷ hs) code x h e f = let g : q ≡ n = omega arith in rw (e, g) refl
proc_from n (suc p) q (y ∷ hs) code x h e f = proc_from (suc n) p q hs code x (omega arith) e (omega arith)

ran_from : (n p q : ℕ) (hs : List Header) (code : Code) (m : Map) (h : Hidden) → p < length hs → q ≡ n + p → ran (slice_get (procs_from n hs code) p) m h ≡ run_of code q m h
ran_from n p q [] code m h k f = absurd (omega arith)
ran_from n zero q (y ∷ hs) code m h k f = let g : q ≡ n = omega arith in rw g refl
ran_from n (suc p) q (y ∷ hs) code m h k f = ran_from (suc n) p q hs code m h (omega arith) (omega arith)

-- ---- the state behind a body

noted_is : (s : State) (o : Option Proc) (r : Run) (signals : Map) (hidden : Hidden) (active : List ℕ) (reports : List Report) (due later : List Update) (delayed : List Delayed) (us : List Update)
    → ran o s.signals s.hidden ≡ r → signals ≡ r.signals → hidden ≡ r.hidden → us ≡ r.updates → active ≡ s.active → due ≡ s.due → later ≡ s.later ++ at_once us
    → delayed ≡ all_delaying s.time us s.delayed → reports ≡ changes 0 s.signals signals
    → record s { signals = signals; hidden = hidden; active = active; reports = reports; due = due; later = later; delayed = delayed } ≡ noted s (ran o s.signals s.hidden)
noted_is s o r signals hidden active reports due later delayed us e a b u c d l z k = rw (e, k, l, z, a, b, u, c, d) refl

-- the queue with these updates
abbrev queued_with : ℕ → List Update → Held → Held
queued_with t us h = record h { later = h.later ++ at_once us; delayed = all_delaying t us h.delayed }

queued_is : (t : ℕ) (us vs : List Update) (h q k : Held) → vs ≡ us → q ≡ h → k ≡ queued_with t vs q → k ≡ queued_with t us h
queued_is t us vs h q k e f g = g ∙ rw (e, f) refl

queued_fits : (t : ℕ) (us : List Update) (h k : Held) (ws : List ℕ) → AreQueued h ws → AreFitting us ws → k ≡ queued_with t us h → AreQueued k ws
queued_fits t us h k ws a f e = record {
  due = rw e a.due;
  later = rw e (fitting_both h.later (at_once us) ws a.later (fitting_at_once us ws f));
  delayed = rw e (fitting_all_delaying t us h.delayed ws f a.delayed);
}

pub body_content : (s : Simulation) (p : ℕ) (m : Map) (h : Hidden) (shown : Map) (hidden : Hidden) (us vs : List Update) (work : Workspace) (q queue : Queue)
    (all : Vec (List Digit) Global) (hides : Vec (Option (List Digit)) Global) (reports : Vec Report Global) (after : Workspace) (appended : Vec Update Global)
    → p < length s.headers.items → m ≡ s.shown.items → h ≡ s.hidden.items → HasRun (run_of s.code p m h) s.appended.items shown hidden us → s.appended.items ≡ []
    → all.items ≡ shown → hides.items ≡ hidden → vs ≡ us
    → held q ≡ held s.queue → held queue ≡ record (held q) { later = (held q).later ++ at_once vs; delayed = all_delaying s.time vs (held q).delayed }
    → reports.items ≡ changes 0 m shown
    → content_of (record s { work = after; shown = all; hidden = hides; queue = queue; reports = reports; told = 0; appended = appended })
    ≡ (let c = content_of s in record c { state = noted c.state (ran (slice_get c.procs p) c.state.signals c.state.hidden) })
body_content s p m h shown hidden us vs work q queue all hides reports after appended k em eh r a ea ei ev eq ee er =
    let c = content_of s in
    let run = run_of s.code p m h in
    let f : ran (slice_get c.procs p) s.shown.items s.hidden.items ≡ run =
    ran_from 0 p p s.headers.items s.code s.shown.items s.hidden.items k (sym (zero-add p)) ∙ rw (em, eh) refl in
    let g : held queue ≡ record (held s.queue) { later = (held s.queue).later ++ at_once us; delayed = all_delaying s.time us (held s.queue).delayed } = queued_is s.time us vs (held s.queue) (held q) (held queue) ev eq ee in
    let u : us ≡ run.updates = r.appended ∙ rw a refl in
    let st : State = noted c.state (ran (slice_get c.procs p) c.state.signals c.state.hidden) in
    ap (λ (z : State). record c { state = z; keys = keys_with (held queue).times s.book })
    (noted_is c.state (slice_get c.procs p) run all.items hides.items (held queue).active reports.items (held queue).due (held queue).later (held queue).delayed us f
    (ea ∙ r.shown_are) (ei ∙ r.hidden_are) u (ap (λ (x : Held). x.active) g) (ap (λ (x : Held). x.due) g) (ap (λ (x : Held). x.later) g) (ap (λ (x : Held). x.delayed) g)
    (er ∙ rw (em, ea) refl))
    ∙ ap (λ (x : Held). record c { state = st; keys = keys_with x.times s.book }) g

-- ---- the facts behind a body

pub body_stays : (s : Simulation) (m : Map) (shown : Map) (hidden : Hidden) (us vs : List Update) (q queue : Queue)
    (all : Vec (List Digit) Global) (hides : Vec (Option (List Digit)) Global) (reports : Vec Report Global) (after : Workspace) (appended : Vec Update Global)
    → IsLoaded s → m ≡ s.shown.items → widths_of shown ≡ widths_of m → AreHidden hidden (widths_of m) → AreFitting us (widths_of m)
    → all.items ≡ shown → hides.items ≡ hidden → vs ≡ us
    → held q ≡ held s.queue → held queue ≡ record (held q) { later = (held q).later ++ at_once vs; delayed = all_delaying s.time vs (held q).delayed }
    → processes_of queue ≡ processes_of s.queue
    → reports.items ≡ changes 0 m shown → vec_capacity s.reports ≤ vec_capacity reports → IsReady s.code (length shown) after → appended.items ≡ []
    → Stays s (record s { work = after; shown = all; hidden = hides; queue = queue; reports = reports; told = 0; appended = appended })
body_stays s m shown hidden us vs q queue all hides reports after appended h em w hid fit ea ei ev eq ee p er room ready none =
    let t : Simulation = record s { work = after; shown = all; hidden = hides; queue = queue; reports = reports; told = 0; appended = appended } in
    let ws : widths_of all.items ≡ widths_of s.shown.items = ap widths_of ea ∙ (w ∙ ap widths_of em) in
    let n : length all.items ≡ length s.shown.items = same_places all.items s.shown.items ws in
    let k : length shown ≡ length all.items = sym (ap length ea) in
    let l : length m ≡ length s.shown.items = ap length em in
    let g : held queue ≡ record (held s.queue) { later = (held s.queue).later ++ at_once us; delayed = all_delaying s.time us (held s.queue).delayed } = queued_is s.time us vs (held s.queue) (held q) (held queue) ev eq ee in
    let f : AreFitting us (widths_of s.shown.items) = subst (λ (x : Map). AreFitting us (widths_of x)) em fit in record {
      widths = ws;
      loaded = record {
        code = subst (λ (xs : List ℕ). IsSoundCode s.code xs) (sym ws) h.code;
        packed = h.packed;
        work = subst (λ (x : ℕ). IsReady s.code x after) k ready;
        waiting = awaited_kept s t h.waiting (same_waiters s.waiters h.waiting.waiters) refl n p;
        hidden = rw ei (subst (λ (xs : List ℕ). AreHidden hidden xs) (ap widths_of em ∙ sym ws) hid);
        nets = h.nets ∙ sym n;
        watches = h.watches ∙ sym n;
        queued = subst (λ (xs : List ℕ). AreQueued (held queue) xs) (sym ws) (queued_fits s.time us (held s.queue) (held queue) (widths_of s.shown.items) h.queued f g);
        appended = none;
        reports_room = let r = h.reports_room in omega arith;
        reports = rw er (changes_of 0 m shown (length all.items) (rw (zero-add, l) (omega arith)));
      };
    }

-- ---- lists that are written in place

pub all_shown : (v : Vec (List Digit) Global) (m shown : Map) → m ≡ v.items → widths_of shown ≡ widths_of m → (with_items v shown).items ≡ shown
all_shown v m shown e w =
    let n : length shown ≡ length v.items = same_places shown m w ∙ ap length e in
    with_items_is v shown (omega (arith, v.ok))

pub all_hidden : (v : Vec (Option (List Digit)) Global) (hs : Hidden) (m sh : Map) → AreHidden hs (widths_of m) → m ≡ sh → AreHidden v.items (widths_of sh) → (with_items v hs).items ≡ hs
all_hidden v hs m sh h e k =
    let n : length hs ≡ length m = hidden_places hs m h in
    let l : length m ≡ length sh = ap length e in
    let o : length v.items ≡ length sh = hidden_places v.items sh k in
    with_items_is v hs (omega (arith, v.ok))

-- the changes are those between what was shown before and what is shown now
pub changes_are : (m shown sh : Map) (ts : List Touched) (reports : List Report) → widths_of shown ≡ widths_of m → sh ≡ shown → AreTouched m shown ts
    → ((before : Map) → length before ≡ length sh → AreTouched before sh ts → reports ≡ changes 0 before sh) → reports ≡ changes 0 m shown
changes_are m shown sh ts reports w e t h =
    h m (sym (same_places shown m w) ∙ sym (ap length e)) (subst (λ (x : Map). AreTouched m x ts) (sym e) t) ∙ ap (changes 0 m) e

pub ready_now : (code : Code) (m sh : Map) (shown : Map) (before after : Workspace) → m ≡ sh → widths_of shown ≡ widths_of m → IsWorkspace code (length m) before
    → ((c : Code) (n : ℕ) → IsWorkspace c n before → IsReady c n after) → IsReady code (length shown) after
ready_now code m sh shown before after e w k h = h code (length shown) (subst (λ (n : ℕ). IsWorkspace code n before) (sym (same_places shown m w)) k)

-- ---- the end of an activation

pub activation_is : (ps : List Proc) (s : State) (p : ℕ) (o : Option Proc) (rest : List ℕ) → (o ≡ None → ⊥)
    → woken_by ps (record (noted s (ran o s.signals s.hidden)) { active = rest }) (own_in o p) ≡ activate ps (record s { active = rest }) p o
activation_is ps s p None rest h = absurd (h refl)
activation_is ps s p (Some proc) rest h = rw (own_barred proc.kind p rest) refl

pub some_from : (n p : ℕ) (hs : List Header) (code : Code) → p < length hs → slice_get (procs_from n hs code) p ≡ None → ⊥
some_from n p [] code h e = omega arith
some_from n zero (y ∷ hs) code h e = cc
some_from n (suc p) (y ∷ hs) code h e = some_from (suc n) p hs code (omega arith) e

-- the queue and who waits have changed, and the region
pub woken_stays : (s : Simulation) (waiters : Waiters) (queue : Queue) (region : Region) → IsLoaded s → KeepsWaiters s.waiters waiters → processes_of queue ≡ processes_of s.queue
    → (held queue).due ≡ (held s.queue).due → (held queue).later ≡ (held s.queue).later → (held queue).delayed ≡ (held s.queue).delayed
    → Stays s (record s { waiters = waiters; queue = queue; region = region })
woken_stays s waiters queue region h w p d l e = record {
  widths = refl;
  loaded = record {
    code = h.code;
    packed = h.packed;
    work = h.work;
    waiting = awaited_kept s (record s { waiters = waiters; queue = queue; region = region }) h.waiting w refl refl p;
    hidden = h.hidden;
    nets = h.nets;
    watches = h.watches;
    queued = same_queued (held s.queue) (held queue) (widths_of s.shown.items) h.queued d l e;
    appended = h.appended;
    reports_room = h.reports_room;
    reports = h.reports;
  };
}

pub both_stay : (s t u : Simulation) → Stays s t → Stays t u → Stays s u
both_stay s t u h k = record { loaded = k.loaded; widths = k.widths ∙ h.widths }

-- ---- an activation as the answer to an event

pub process_inside : (s : Simulation) (p : ℕ) → IsLoaded s → p < processes_of s.queue → p < length s.headers.items
process_inside s p h k =
    let e : processes_of s.queue ≡ length s.waiters.finds.is_found.items = h.waiting.processes in
    let f : length s.waiters.finds.is_found.items ≡ length (procs_in s) = h.waiting.procs.count in
    let g = length_procs_from 0 s.headers.items s.code in
    omega arith

pub next_rest : (old mid rest : List ℕ) (p : ℕ) (r : Option ℕ) (other : Type 0) → Some p ≡ slice_get old 0 → mid ≡ old → MatchOption r ((mid ≡ []) × other) (λ q. mid ≡ q ∷ rest) → old ≡ p ∷ rest
next_rest old mid rest p None other e f h =
    let g : old ≡ [] = sym f ∙ h.0 in
    absurd (let k : Some p ≡ slice_get {X = ℕ} [] 0 = e ∙ ap (λ (xs : List ℕ). slice_get xs 0) g in cc)
next_rest old mid rest p (Some q) other e f h =
    let g : old ≡ q ∷ rest = sym f ∙ h in
    let k : Some p ≡ slice_get (q ∷ rest) 0 = e ∙ ap (λ (xs : List ℕ). slice_get xs 0) g in
    let l : q ≡ p = cc in
    g ∙ ap (λ (x : ℕ). x ∷ rest) l

pub next_content : (t : Simulation) (q : Queue) → q.updates ≡ t.queue.updates → q.times ≡ t.queue.times
    → content_of (record t { queue = q }) ≡ (let m = content_of t in record m { state = record m.state { active = (held q).active } })
next_content t q h k =
    let m = content_of t in
    ap (λ (u : Updates). record m {
      state = record m.state { active = (held q).active; due = due_of u; later = later_of u; delayed = delayed_of u };
      keys = keys_with (held q).times t.book;
    }) h
    ∙ ap (λ (x : Times). record m { state = record m.state { active = (held q).active }; keys = keys_with (times_of x) t.book }) k

pub ran_content : (b m n e : Content) (p : ℕ) (rest : List ℕ) → m ≡ record b { state = noted b.state (ran (slice_get b.procs p) b.state.signals b.state.hidden) }
    → n ≡ record m { state = record m.state { active = rest } } → e ≡ record n { state = woken_by n.procs n.state (own_in (slice_get n.procs p) p) }
    → b.state.active ≡ p ∷ rest → (slice_get b.procs p ≡ None → ⊥)
    → Answered b (active_case b.procs b.state b.state.active) (Some (record { change = None; fired = fired_of [] })) e
ran_content b m n e p rest f g h a s =
    let all : e ≡ record b { state = activate b.procs (record b.state { active = rest }) p (slice_get b.procs p) } =
    h
    ∙ ap (λ (x : Content). record x { state = woken_by x.procs x.state (own_in (slice_get x.procs p) p) }) (g ∙ ap (λ (x : Content). record x { state = record x.state { active = rest } }) f)
    ∙ ap (λ (st : State). record b { state = st }) (activation_is b.procs b.state p (slice_get b.procs p) rest s) in
    ran_case b e p rest a (ap (λ (x : Content). x.procs) all) (ap (λ (x : Content). x.nets) all) (ap (λ (x : Content). x.state) all) (ap (λ (x : Content). x.keys) all) (ap (λ (x : Content). x.counts) all)

pub woken_content : (s : Simulation) (p : ℕ) (x : Header) (waiters : Waiters) (queue : Queue) (reports : List Report) (own : Option ℕ) → p < length s.headers.items → x ≡ get_or s.headers.items p x → reports ≡ pending s
    → own ≡ own_of x.kind p → held queue ≡ record (held s.queue) { active = (held s.queue).active ++ woken 0 (procs_in s) reports (barred own (held s.queue).active) }
    → content_of (record s { waiters = waiters; queue = queue; region = region.Active }) ≡ (let c = content_of s in record c { state = woken_by c.procs c.state (own_in (slice_get c.procs p) p) })
woken_content s p x waiters queue reports own k e r o h =
    let c = content_of s in
    let f : own ≡ own_in (slice_get c.procs p) p = o ∙ sym (ap (λ (q : Option Proc). own_in q p) (proc_from 0 p p s.headers.items s.code x k e (sym (zero-add p)))) in
    let g : held queue ≡ record (held s.queue) { active = (held s.queue).active ++ woken 0 (procs_in s) (pending s) (barred (own_in (slice_get c.procs p) p) (held s.queue).active) } = h ∙ rw (r, f) refl in
    ap (λ (q : Held). record c {
      state = record c.state { active = q.active; due = q.due; later = q.later; delayed = q.delayed; region = region.Active };
      keys = keys_with q.times s.book;
    }) g
