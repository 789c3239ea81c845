-- What is taken of a simulation, and what it hides.
use Rattle.std.proofs.Common.{◌≡◌, ℕ, zero, suc, ◌+◌, ◌<◌, ◌≤◌, List, [], ◌∷◌, length, drop, get_or, Option, Some, None, ap, sym, subst, arith, IfSome}
use Rattle.std.specs.Option.{MatchOption}
use Rattle.four_value.specs.declared.Digit.{Digit}
use Rattle.gpi.specs.declared.types.Report.{Report}
use Rattle.gpi.specs.declared.types.Update.{Update}
use Rattle.gpi.specs.Terms.{widths_of}
use Rattle.gpi.specs.Targets.{AreFitting}
use Rattle.gpi.specs.Activation.{Map, Hidden, hidden_in, AreHidden}
use Rattle.gpi.specs.Content.{Content}
use Rattle.kernel_base.proofs.Fits.{first_sig, first_inside}
use Rattle.kernel_base.proofs.Hiding.{hidden_width}
use Rattle.callback_book.specs.Books.{keys_with}
use Rattle.event_queue.specs.declared.queue.Queue.{Queue}
use Rattle.event_queue.specs.Queues.{Held, held}
use Rattle.fast_kernel.specs.declared.simulation.Simulation.{Simulation}
use Rattle.fast_kernel.specs.Kernel.{content_of, pending}
use Rattle.fast_kernel.proofs.Fired.{same_content}

-- ---- a change that is still to be told

report_left : (s : Simulation) (told : ℕ) (r : Option Report)
    → MatchOption r ((drop s.told s.reports.items ≡ []) × (told ≡ s.told)) (λ x. drop s.told s.reports.items ≡ x ∷ drop told s.reports.items)
    → MatchOption r ((pending s ≡ []) × (content_of (record s { told = told }) ≡ content_of s))
    (λ x. content_of s ≡ (let c = content_of (record s { told = told }) in record c { state = record c.state { reports = x ∷ c.state.reports } }))
report_left s told None h = (h.0, ap (λ (n : ℕ). content_of (record s { told = n })) h.1)
report_left s told (Some x) h = ap (λ (rs : List Report). record (content_of s) { state = record (content_of s).state { reports = rs } }) h

pub report_taken : (s : Simulation) (told : ℕ) (rs : List Report) (r : Option Report) → rs ≡ s.reports.items
    → MatchOption r ((drop s.told rs ≡ []) × (told ≡ s.told)) (λ x. drop s.told rs ≡ x ∷ drop told rs)
    → MatchOption r ((pending s ≡ []) × (content_of (record s { told = told }) ≡ content_of s))
    (λ x. content_of s ≡ (let c = content_of (record s { told = told }) in record c { state = record c.state { reports = x ∷ c.state.reports } }))
report_taken s told rs r e h =
    report_left s told r
    (subst (λ (xs : List Report). MatchOption r ((drop s.told xs ≡ []) × (told ≡ s.told)) (λ x. drop s.told xs ≡ x ∷ drop told xs)) e h)

-- ---- an update

abbrev content_with : Simulation → Held → Content
content_with s h = record (content_of s) {
  state = record (content_of s).state { active = h.active; due = h.due; later = h.later; delayed = h.delayed };
  keys = keys_with h.times s.book;
}

pub due_taken : (s : Simulation) (q : Queue) (r : Option Update)
    → MatchOption r (((held s.queue).due ≡ []) × (q ≡ s.queue)) (λ u. held s.queue ≡ record (held q) { due = u ∷ (held q).due })
    → MatchOption r (((held s.queue).due ≡ []) × (content_of (record s { queue = q }) ≡ content_of s))
    (λ u. content_of s ≡ (let c = content_of (record s { queue = q }) in record c { state = record c.state { due = u ∷ c.state.due } }))
due_taken s q None h = (h.0, ap (λ (x : Queue). content_of (record s { queue = x })) h.1)
due_taken s q (Some u) h = ap (content_with s) h

pub later_taken : (s : Simulation) (q : Queue) (r : Option Update)
    → MatchOption r (((held s.queue).later ≡ []) × (held q ≡ held s.queue)) (λ u. held s.queue ≡ record (held q) { due = []; later = u ∷ (held q).due })
    → MatchOption r (((held s.queue).later ≡ []) × (content_of (record s { queue = q }) ≡ content_of s))
    (λ u. content_of s ≡ (let c = content_of (record s { queue = q }) in record c { state = record c.state { due = []; later = u ∷ c.state.due } }))
later_taken s q None h = (h.0, same_content s q h.1)
later_taken s q (Some u) h = ap (content_with s) h

pub taken_sig : (P : Type 0) (us : List Update) (rest : List Update) (m : Map) (r : Option Update) → AreFitting us (widths_of m)
    → MatchOption r P (λ u. us ≡ u ∷ rest) → IfSome r (λ u. u.sig.0 < length m)
taken_sig P us rest m None f h = tt
taken_sig P us rest m (Some u) f h = first_sig us rest u m h f

pub taken_inside : (P : Type 0) (us : List Update) (rest : List Update) (m : Map) (r : Option Update) → AreFitting us (widths_of m)
    → MatchOption r P (λ u. us ≡ u ∷ rest) → IfSome r (λ u. u.low + length u.bits ≤ length (get_or m u.sig.0 []))
taken_inside P us rest m None f h = tt
taken_inside P us rest m (Some u) f h = first_inside us rest u m h f

-- the first of the updates that are due
pub due_parts : (h k : Held) (r : Option Update) (A : Type 0) → MatchOption r A (λ u. h ≡ record k { due = u ∷ k.due }) → MatchOption r A (λ u. h.due ≡ u ∷ k.due)
due_parts h k None A m = m
due_parts h k (Some u) A m = ap (λ (x : Held). x.due) m

-- the first of those that wait for the running processes
pub later_parts : (h k : Held) (r : Option Update) (A : Type 0) → MatchOption r A (λ u. h ≡ record k { due = []; later = u ∷ k.due })
    → MatchOption r A (λ u. h.later ≡ u ∷ k.due)
later_parts h k None A m = m
later_parts h k (Some u) A m = ap (λ (x : Held). x.later) m

-- ---- what is hidden

pub hidden_wide : (hs : Hidden) (m : Map) (s : ℕ) (o : Option (List Digit)) → AreHidden hs (widths_of m) → s < length m → hidden_in hs s ≡ o
    → IfSome o (λ ds. length ds ≡ length (get_or m s []))
hidden_wide hs m s None h k e = tt
hidden_wide hs m s (Some ds) h k e = hidden_width hs m s ds h e k

pub hidden_found : (hs : Hidden) (s : ℕ) (o : Option (List Digit)) → s < length hs → o ≡ get_or hs s o → hidden_in hs s ≡ o
hidden_found [] s o h e = absurd (omega arith)
hidden_found (x ∷ hs) zero o h e = sym e
hidden_found (x ∷ hs) (suc s) o h e = hidden_found hs s o (omega arith) e
