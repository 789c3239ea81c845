-- What the calls of a simulation leave of its facts.
use Rattle.std.proofs.Common.{◌≡◌, ℕ, ◌<◌, List, [], length, set, get_or, refl, sym, ◌∙◌, ap, subst, arith, Vec, Global, Option}
use Rattle.std.proofs.lemmas.List.{length-set}
use Rattle.four_value.specs.declared.Digit.{Digit}
use Rattle.gpi.specs.Terms.{widths_of}
use Rattle.gpi.specs.Activation.{AreHidden}
use Rattle.gpi.specs.Design.{Proc}
use Rattle.gpi.specs.declared.types.Region.{Region}
use Rattle.gpi.specs.State.{arriving, waiting_on}
use Rattle.kernel_base.proofs.Delays.{fitting_arriving, fitting_waiting}
use Rattle.gpi.proofs.Widths.{widths_set, get_or_widths}
use Rattle.kernel_base.specs.Steps.{AreInside}
use Rattle.v_exec.specs.Code.{IsSoundCode}
use Rattle.v_exec.specs.Workspace.{IsReady}
use Rattle.callback_book.specs.declared.book.Book.{Book}
use Rattle.callback_book.specs.Books.{signals_of}
use Rattle.event_queue.specs.declared.queue.Queue.{Queue}
use Rattle.event_queue.specs.Queues.{Held, held, processes_of}
use Rattle.fast_kernel.specs.declared.waiters.Waiters.{Waiters}
use Rattle.fast_kernel.specs.declared.simulation.Simulation.{Simulation}
use Rattle.fast_kernel.specs.Waiters.{AreOf, AreWaiters, chain_of}
use Rattle.fast_kernel.specs.Woken.{KeepsWaiters}
use Rattle.fast_kernel.specs.Kernel.{AreQueued, AreAwaited, IsLoaded, Stays, procs_in, pending}

-- a value of its width leaves all widths
pub widths_kept : (m : List (List Digit)) (s : ℕ) (v : List Digit) → s < length m → length v ≡ length (get_or m s []) → widths_of (set m s v) ≡ widths_of m
widths_kept m s v h e = widths_set m s v h (e ∙ sym (get_or_widths m s [] h))

-- ---- who waits

pub of_kept : (v w : Waiters) (ps : List Proc) → AreOf v ps → KeepsWaiters v w → AreOf w ps
of_kept v w ps a k = record {
  count = k.count ∙ a.count;
  chains = λ s h. ap (λ c. chain_of c s) k.chains ∙ a.chains s (subst (λ c. s < length c.first.items) k.chains h);
}

-- the same wait in a simulation with these parts
pub awaited_kept : (s t : Simulation) → AreAwaited s → KeepsWaiters s.waiters t.waiters → procs_in t ≡ procs_in s → length t.shown.items ≡ length s.shown.items
    → processes_of t.queue ≡ processes_of s.queue → AreAwaited t
awaited_kept s t a k p l q = record {
  waiters = k.waiters;
  procs = subst (λ (ps : List Proc). AreOf t.waiters ps) (sym p) (of_kept s.waiters t.waiters (procs_in s) a.procs k);
  signals = ap (λ c. length c.first.items) k.chains ∙ (a.signals ∙ sym l);
  processes = q ∙ (a.processes ∙ sym k.count);
}

pub same_waiters : (w : Waiters) → AreWaiters w → KeepsWaiters w w
same_waiters w a = record { waiters = a; chains = refl; count = refl }

-- ---- what is queued

pub same_queued : (h k : Held) (ws : List ℕ) → AreQueued h ws → k.due ≡ h.due → k.later ≡ h.later → k.delayed ≡ h.delayed → AreQueued k ws
same_queued h k ws a d l e = record { due = rw d a.due; later = rw l a.later; delayed = rw e a.delayed }

-- ---- a signal shows something else

pub shown_stays : (s : Simulation) (sig : ℕ) (v : List Digit) (waiters : Waiters) (shown : Vec (List Digit) Global) (queue : Queue) (book : Book)
    → IsLoaded s → sig < length s.shown.items → length v ≡ length (get_or s.shown.items sig []) → shown.items ≡ set s.shown.items sig v
    → KeepsWaiters s.waiters waiters → processes_of queue ≡ processes_of s.queue → (held queue).due ≡ (held s.queue).due → (held queue).later ≡ (held s.queue).later
    → (held queue).delayed ≡ (held s.queue).delayed → signals_of book ≡ signals_of s.book
    → Stays s (record s { waiters = waiters; shown = shown; queue = queue; book = book })
shown_stays s sig v waiters shown queue book h k e f w p d l z b =
    let ws : widths_of shown.items ≡ widths_of s.shown.items = ap widths_of f ∙ widths_kept s.shown.items sig v k e in
    let n : length shown.items ≡ length s.shown.items = ap length f ∙ length-set s.shown.items sig v in record {
      widths = ws;
      loaded = record {
        code = subst (λ (xs : List ℕ). IsSoundCode s.code xs) (sym ws) h.code;
        packed = h.packed;
        work = subst (λ (m : ℕ). IsReady s.code m s.work) (sym n) h.work;
        waiting = awaited_kept s (record s { waiters = waiters; shown = shown; queue = queue; book = book }) h.waiting w refl n p;
        hidden = subst (λ (xs : List ℕ). AreHidden s.hidden.items xs) (sym ws) h.hidden;
        nets = h.nets ∙ sym n;
        watches = b ∙ (h.watches ∙ sym n);
        queued = subst (λ (xs : List ℕ). AreQueued (held queue) xs) (sym ws) (same_queued (held s.queue) (held queue) (widths_of s.shown.items) h.queued d l z);
        appended = h.appended;
        reports_room = let r = h.reports_room in omega arith;
        reports = subst (λ (m : ℕ). AreInside (pending s) m) (sym n) h.reports;
      };
    }

pub same_stays : (s : Simulation) → IsLoaded s → Stays s s
same_stays s h = record { widths = refl; loaded = h }

-- ---- a signal hides something else

pub hidden_stays : (s : Simulation) (hidden : Vec (Option (List Digit)) Global) → IsLoaded s → AreHidden hidden.items (widths_of s.shown.items) → Stays s (record s { hidden = hidden })
hidden_stays s hidden h k = record {
  widths = refl;
  loaded = record {
    code = h.code;
    packed = h.packed;
    work = h.work;
    waiting = awaited_kept s (record s { hidden = hidden }) h.waiting (same_waiters s.waiters h.waiting.waiters) refl refl refl;
    hidden = k;
    nets = h.nets;
    watches = h.watches;
    queued = h.queued;
    appended = h.appended;
    reports_room = h.reports_room;
    reports = h.reports;
  };
}

-- ---- the queue has changed

pub queue_stays : (s : Simulation) (queue : Queue) → IsLoaded s → processes_of queue ≡ processes_of s.queue → AreQueued (held queue) (widths_of s.shown.items) → Stays s (record s { queue = queue })
queue_stays s queue h p q = record {
  widths = refl;
  loaded = record {
    code = h.code;
    packed = h.packed;
    work = h.work;
    waiting = awaited_kept s (record s { queue = queue }) h.waiting (same_waiters s.waiters h.waiting.waiters) refl refl p;
    hidden = h.hidden;
    nets = h.nets;
    watches = h.watches;
    queued = q;
    appended = h.appended;
    reports_room = h.reports_room;
    reports = h.reports;
  };
}

-- ---- time has moved on

pub arrived_queued : (h k : Held) (t : ℕ) (ws : List ℕ) → AreQueued h ws → k ≡ record h { later = arriving t h.delayed; delayed = waiting_on t h.delayed } → AreQueued k ws
arrived_queued h k t ws a e = record {
  due = rw e a.due;
  later = rw e (fitting_arriving t h.delayed ws a.delayed);
  delayed = rw e (fitting_waiting t h.delayed ws a.delayed);
}

pub time_stays : (s : Simulation) (queue : Queue) (time : ℕ) (region : Region) (book : Book) → IsLoaded s → processes_of queue ≡ processes_of s.queue
    → AreQueued (held queue) (widths_of s.shown.items) → signals_of book ≡ signals_of s.book
    → Stays s (record s { queue = queue; time = time; region = region; book = book })
time_stays s queue time region book h p q b = record {
  widths = refl;
  loaded = record {
    code = h.code;
    packed = h.packed;
    work = h.work;
    waiting = awaited_kept s (record s { queue = queue; time = time; region = region; book = book }) h.waiting (same_waiters s.waiters h.waiting.waiters) refl refl p;
    hidden = h.hidden;
    nets = h.nets;
    watches = b ∙ h.watches;
    queued = q;
    appended = h.appended;
    reports_room = h.reports_room;
    reports = h.reports;
  };
}
