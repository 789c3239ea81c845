-- What is taken of the plain simulator, and what it hides.
use Rattle.std.proofs.Common.{◌≡◌, ℕ, zero, suc, ◌+◌, ◌<◌, ◌≤◌, List, [], ◌∷◌, length, get_or, Option, Some, None, Vec, Global, sym, ap, ◌∙◌, arith, IfSome}
use Rattle.std.specs.Option.{MatchOption}
use Rattle.four_value.specs.declared.Digit.{Digit}
use Rattle.gpi.specs.declared.types.Report.{Report}
use Rattle.gpi.specs.declared.types.Update.{Update}
use Rattle.gpi.specs.Terms.{widths_of}
use Rattle.gpi.specs.Targets.{AreFitting}
use Rattle.gpi.specs.Activation.{Map, Hidden, hidden_in, AreHidden}
use Rattle.kernel_base.proofs.Fits.{first_sig, first_inside}
use Rattle.kernel_base.proofs.Hiding.{hidden_width}
use Rattle.list_kernel.specs.declared.kernel.ListKernel.{ListKernel}
use Rattle.list_kernel.specs.Kernel.{content_of}

pub report_taken : (k : ListKernel) (list : Vec Report Global) (r : Option Report)
    → MatchOption r ((k.reports.items ≡ []) × (list.items ≡ [])) (λ x. k.reports.items ≡ x ∷ list.items)
    → MatchOption r ((k.reports.items ≡ []) × (content_of (record k { reports = list }) ≡ content_of k))
    (λ x. content_of k ≡ (let c = content_of (record k { reports = list }) in record c { state = record c.state { reports = x ∷ c.state.reports } }))
report_taken k list None h =
    (h.0, ap (λ (rs : List Report). record (content_of k) { state = record (content_of k).state { reports = rs } }) (h.1 ∙ sym h.0))
report_taken k list (Some x) h = ap (λ (rs : List Report). record (content_of k) { state = record (content_of k).state { reports = rs } }) h

pub due_taken : (k : ListKernel) (list : Vec Update Global) (r : Option Update)
    → MatchOption r ((k.updates.due.items ≡ []) × (list.items ≡ [])) (λ u. k.updates.due.items ≡ u ∷ list.items)
    → MatchOption r ((k.updates.due.items ≡ []) × (content_of (record k { updates = record k.updates { due = list } }) ≡ content_of k))
    (λ u. content_of k ≡ (let c = content_of (record k { updates = record k.updates { due = list } }) in record c { state = record c.state { due = u ∷ c.state.due } }))
due_taken k list None h =
    (h.0, ap (λ (us : List Update). record (content_of k) { state = record (content_of k).state { due = us } }) (h.1 ∙ sym h.0))
due_taken k list (Some u) h = ap (λ (us : List Update). record (content_of k) { state = record (content_of k).state { due = us } }) h

pub none_later : (k : ListKernel) (list : Vec Update Global) → k.updates.later.items ≡ [] → list.items ≡ []
    → content_of (record k { updates = record k.updates { later = list } }) ≡ content_of k
none_later k list e f = ap (λ (us : List Update). record (content_of k) { state = record (content_of k).state { later = us } }) (f ∙ sym e)

pub taken_sig : (P : Type 0) (us : List Update) (rest : List Update) (m : Map) (r : Option Update) → AreFitting us (widths_of m)
    → MatchOption r P (λ u. us ≡ u ∷ rest) → IfSome r (λ u. u.sig.0 < length m)
taken_sig P us rest m None f h = tt
taken_sig P us rest m (Some u) f h = first_sig us rest u m h f

pub taken_inside : (P : Type 0) (us : List Update) (rest : List Update) (m : Map) (r : Option Update) → AreFitting us (widths_of m)
    → MatchOption r P (λ u. us ≡ u ∷ rest) → IfSome r (λ u. u.low + length u.bits ≤ length (get_or m u.sig.0 []))
taken_inside P us rest m None f h = tt
taken_inside P us rest m (Some u) f h = first_inside us rest u m h f

pub hidden_wide : (hs : Hidden) (m : Map) (s : ℕ) (o : Option (List Digit)) → AreHidden hs (widths_of m) → s < length m → hidden_in hs s ≡ o
    → IfSome o (λ ds. length ds ≡ length (get_or m s []))
hidden_wide hs m s None h k e = tt
hidden_wide hs m s (Some ds) h k e = hidden_width hs m s ds h e k

pub hidden_found : (hs : Hidden) (s : ℕ) (o : Option (List Digit)) → s < length hs → o ≡ get_or hs s o → hidden_in hs s ≡ o
hidden_found [] s o h e = absurd (omega arith)
hidden_found (x ∷ hs) zero o h e = sym e
hidden_found (x ∷ hs) (suc s) o h e = hidden_found hs s o (omega arith) e
