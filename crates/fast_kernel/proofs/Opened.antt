-- The opening state of the fast simulator.
use Rattle.std.proofs.Common.{◌≡◌, ℕ, suc, ◌+◌, ◌<◌, ◌≤◌, ◌==◌, Bool, true, false, IsTrue, if◌then◌else◌, List, [], ◌∷◌, ◌++◌, length, drop, slice_get, Some, None, refl, sym, ap, ◌∙◌, subst, arith, append_assoc, add-one, zero-add, replicate, vec_capacity}
use mathlib.Core.Path.{fun_ext}
use Rattle.std.proofs.lemmas.Bool.Decides.{nat_tests}
use Rattle.gpi.specs.declared.design.Kind.{Kind}
use Rattle.gpi.specs.declared.design.Process.{Process}
use Rattle.gpi.specs.declared.design.Wake.{Wake}
use Rattle.gpi.specs.declared.design.Flat.{Flat}
use Rattle.gpi.specs.declared.types.Report.{Report}
use Rattle.gpi.specs.declared.design.Signal.{Signal}
use Rattle.gpi.specs.declared.types.Region.TheVariants as region
use Rattle.gpi.specs.Terms.{widths_of}
use Rattle.gpi.specs.Activation.{Map, Hidden, Run, AreHidden}
use Rattle.gpi.specs.Design.{Proc, proc_of, procs_of, starters, starts, start_map, start_hidden, nets_of, widths}
use Rattle.gpi.specs.Keys.{holds, no_keys}
use Rattle.gpi.specs.Soundness.{AreProcesses, are_wakes, IsSoundFlat}
use Rattle.gpi.specs.Content.{opening, no_counts}
use Rattle.gpi.proofs.Widths.{length_widths}
use Rattle.kernel_base.specs.Steps.{AreInside}
use Rattle.kernel_base.proofs.Hiding.{none_hidden, start_unforced}
use Rattle.kernel_base.proofs.Opening.{drop_get, start_widths, start_length, length_procs, length_nets}
use Rattle.kernel_base.proofs.Lists.{holds_push}
use Rattle.v_exec.specs.declared.code.Code.{Code}
use Rattle.v_exec.specs.Code.{run_of, StandsFor, IsSoundCode}
use Rattle.v_exec.specs.Workspace.{IsReady}
use Rattle.callback_book.specs.Books.{keys_with, counts_of, signals_of}
use Rattle.event_queue.specs.Queues.{Held, held, processes_of, none_held}
use Rattle.fast_kernel.specs.declared.header.Header.{Header}
use Rattle.fast_kernel.specs.declared.simulation.Simulation.{Simulation}
use Rattle.fast_kernel.specs.Waiters.{HaveSignals, AreWaiters, AreOf}
use Rattle.fast_kernel.specs.Kernel.{heads, procs_from, procs_in, pending, content_of, AreQueued, IsLoaded}

-- ---- what is known of the processes

pub heads_more : (made new : List Header) (ps : List Process) (n : ℕ) (p : Process) (wakes : List Wake) → slice_get ps n ≡ Some p → wakes ≡ p.wakes
    → new ≡ made ++ record { kind = p.kind; wakes = wakes } ∷ [] → made ++ heads (drop n ps) ≡ heads ps → new ++ heads (drop (n + 1) ps) ≡ heads ps
heads_more made new ps n p wakes h e f g =
    let k : made ++ (record { kind = p.kind; wakes = p.wakes } ∷ heads (drop (suc n) ps)) ≡ heads ps = rw (drop_get ps n p h) at g in
    rw (f, append_assoc, e, add-one) k

pub length_heads : (ps : List Process) → length (heads ps) ≡ length ps
length_heads [] = refl
length_heads (p ∷ ps) = ap suc (length_heads ps)

same_runs : (f g : Map → Hidden → Run) → ((m : Map) (h : Hidden) → f m h ≡ g m h) → f ≡ g
same_runs f g h = fun_ext (λ m. fun_ext (h m))

-- the packed processes are those of the design
pub procs_same : (n : ℕ) (ps : List Process) (code : Code) → ((p q : ℕ) (x : Process) → slice_get ps p ≡ Some x → q ≡ n + p → (m : Map) (h : Hidden) → run_of code q m h ≡ (proc_of x).run m h)
    → procs_from n (heads ps) code ≡ procs_of ps
procs_same n [] code f = refl
procs_same n (p ∷ ps) code f =
    let r : run_of code n ≡ (proc_of p).run = same_runs (run_of code n) (proc_of p).run (f 0 n p refl (omega arith)) in
    let rest : procs_from (suc n) (heads ps) code ≡ procs_of ps = procs_same (suc n) ps code (λ k q x h e. f (suc k) q x h (omega arith)) in
    ap (λ (g : Map → Hidden → Run). record { kind = p.kind; wakes = p.wakes; run = g } ∷ procs_from (suc n) (heads ps) code) r
    ∙ ap (λ (qs : List Proc). proc_of p ∷ qs) rest

pub have_signals : (ps : List Process) (ws : List ℕ) (n : ℕ) → length ws ≡ n → AreProcesses ps ws → HaveSignals ps n
have_signals [] ws n e h = tt
have_signals (p ∷ ps) ws n e h = (subst (λ (k : ℕ). IsTrue (are_wakes p.wakes k)) e h.1, have_signals ps ws n e h.2)

-- ---- the processes that are active from the start

choice : (t : Bool) (n : ℕ) (active rest : List ℕ) → (if t then active ++ n ∷ [] else active) ++ rest ≡ active ++ (if t then n ∷ rest else rest)
choice true n active rest = rw append_assoc refl
choice false n active rest = refl

pub started : (ps : List Process) (n : ℕ) (p : Process) (active new : List ℕ) → slice_get ps n ≡ Some p → holds n active ≡ false
    → new ≡ (if starts p.kind then (if holds n active then active else active ++ n ∷ []) else active)
    → active ++ starters n (procs_of (drop n ps)) ≡ starters 0 (procs_of ps) → new ++ starters (n + 1) (procs_of (drop (n + 1) ps)) ≡ starters 0 (procs_of ps)
started ps n p active new h f e g =
    let k : active ++ (if starts p.kind then n ∷ starters (suc n) (procs_of (drop (suc n) ps)) else starters (suc n) (procs_of (drop (suc n) ps))) ≡ starters 0 (procs_of ps) =
    rw (drop_get ps n p h) at g in
    rw (e, f, add-one) (choice (starts p.kind) n active (starters (suc n) (procs_of (drop (suc n) ps))) ∙ k)

above : (q n : ℕ) → n < q → (q == n) ≡ false
above q n h = grind (arith, nat_tests)

fresh_choice : (t : Bool) (q n : ℕ) (active : List ℕ) → (q == n) ≡ false → holds q active ≡ false → holds q (if t then active ++ n ∷ [] else active) ≡ false
fresh_choice true q n active e h = holds_push q n active ∙ rw (h, e) refl
fresh_choice false q n active e h = h

pub still_fresh : (n : ℕ) (kind : Kind) (active new : List ℕ) → holds n active ≡ false
    → new ≡ (if starts kind then (if holds n active then active else active ++ n ∷ []) else active)
    → ((q : ℕ) → n ≤ q → holds q active ≡ false) → (q : ℕ) → n + 1 ≤ q → holds q new ≡ false
still_fresh n kind active new f e h q k =
    rw (e, f) (fresh_choice (starts kind) q n active (above q n (omega arith)) (h q (omega arith)))

-- ---- the whole

pub stands_procs : (flat : Flat) (code : Code) → StandsFor code flat → procs_from 0 (heads flat.processes) code ≡ procs_of flat.processes
stands_procs flat code s =
    procs_same 0 flat.processes code (λ p q x g e m h. subst (λ (k : ℕ). run_of code k m h ≡ (proc_of x).run m h) (sym (e ∙ zero-add p)) (s.runs p x g m h))

pub opened_content : (s : Simulation) (flat : Flat) → procs_in s ≡ procs_of flat.processes → s.nets.items ≡ nets_of flat.signals → s.shown.items ≡ start_map flat.signals
    → s.hidden.items ≡ start_hidden flat.signals → held s.queue ≡ record none_held { active = starters 0 (procs_of flat.processes) } → pending s ≡ [] → s.time ≡ 0 → s.region ≡ region.Begin
    → keys_with [] s.book ≡ no_keys → counts_of s.book ≡ no_counts → content_of s ≡ opening flat
opened_content s flat p n m h q r t g k l =
    let c = content_of s in
    ap (λ (x : Held). record c { state = record c.state { active = x.active; due = x.due; later = x.later; delayed = x.delayed }; keys = keys_with x.times s.book }) q
    ∙ rw (p, n, m, h, r, t, g, k, l) refl

none_queued : (h : Held) (ws : List ℕ) → h.due ≡ [] → h.later ≡ [] → h.delayed ≡ [] → AreQueued h ws
none_queued h ws d l e = record { due = rw d tt; later = rw l tt; delayed = rw e tt }

pub opened_loaded : (s : Simulation) (flat : Flat) → IsSoundFlat flat → s.headers.items ≡ heads flat.processes → StandsFor s.code flat → IsSoundCode s.code (widths flat.signals)
    → IsReady s.code (length flat.signals) s.work → AreWaiters s.waiters → AreOf s.waiters (procs_of flat.processes) → length s.waiters.chains.first.items ≡ length flat.signals
    → s.nets.items ≡ nets_of flat.signals → s.shown.items ≡ start_map flat.signals → s.hidden.items ≡ start_hidden flat.signals
    → held s.queue ≡ record none_held { active = starters 0 (procs_of flat.processes) } → processes_of s.queue ≡ length flat.processes → pending s ≡ []
    → length flat.signals ≤ vec_capacity s.reports → s.appended.items ≡ [] → signals_of s.book ≡ length flat.signals → IsLoaded s
opened_loaded s flat f h st so wo wa of ch n m hi q p r rc ap_ b =
    let ws : widths_of s.shown.items ≡ widths flat.signals = ap widths_of m ∙ start_widths flat.signals in
    let count : length s.shown.items ≡ length flat.signals = ap length m ∙ start_length flat.signals in
    let procs : procs_in s ≡ procs_of flat.processes = ap (λ (hs : List Header). procs_from 0 hs s.code) h ∙ stands_procs flat s.code st in
    let l : length (widths_of s.shown.items) ≡ length flat.signals = length_widths s.shown.items ∙ count in
    let hidden : s.hidden.items ≡ replicate (length (widths_of s.shown.items)) None = hi ∙ (start_unforced flat.signals ∙ ap (λ (k : ℕ). replicate k None) (sym l)) in record {
      code = subst (λ (xs : List ℕ). IsSoundCode s.code xs) (sym ws) so;
      packed = st.count ∙ (sym (length_heads flat.processes) ∙ sym (ap length h));
      work = subst (λ (k : ℕ). IsReady s.code k s.work) (sym count) wo;
      waiting = record {
        waiters = wa;
        procs = subst (λ (ps : List Proc). AreOf s.waiters ps) (sym procs) of;
        signals = ch ∙ sym count;
        processes = p ∙ (sym (length_procs flat.processes) ∙ sym of.count);
      };
      hidden = subst (λ (hs : Hidden). AreHidden hs (widths_of s.shown.items)) (sym hidden) (none_hidden (widths_of s.shown.items));
      nets = ap length n ∙ (length_nets flat.signals ∙ sym count);
      watches = b ∙ sym count;
      queued = none_queued (held s.queue) (widths_of s.shown.items) (ap (λ (x : Held). x.due) q) (ap (λ (x : Held). x.later) q) (ap (λ (x : Held). x.delayed) q);
      appended = ap_;
      reports_room = omega arith;
      reports = subst (λ (rs : List Report). AreInside rs (length s.shown.items)) (sym r) tt;
    }

pub length_design_widths : (ss : List Signal) → length (widths ss) ≡ length ss
length_design_widths [] = refl
length_design_widths (s ∷ ss) = ap suc (length_design_widths ss)
