-- A means of proof: what the fast simulator holds, for its proofs.
use Rattle.std.specs.Prelude.{◌≡◌, ℕ, suc, ◌≤◌, List, [], ◌∷◌, ◌++◌, length, drop, vec_capacity, Option, None, Some}
use Rattle.gpi.specs.Terms.{widths_of}
use Rattle.gpi.specs.declared.types.Report.{Report}
use Rattle.gpi.specs.Targets.{AreFitting}
use Rattle.gpi.specs.declared.types.Region.TheVariants as region
use Rattle.gpi.specs.Activation.{AreHidden, Run}
use Rattle.gpi.specs.State.{State, changes, woken}
use Rattle.gpi.specs.declared.design.Process.{Process}
use Rattle.gpi.specs.Design.{Proc}
use Rattle.gpi.specs.Content.{Content}
use Rattle.v_exec.specs.declared.code.Code.{Code}
use Rattle.v_exec.specs.Code.{run_of, IsSoundCode}
use Rattle.v_exec.specs.Workspace.{IsReady}
use Rattle.kernel_base.specs.Lists.{updates_in, barred, own_of}
use Rattle.kernel_base.specs.Steps.{AreInside, with_run}
use Rattle.callback_book.specs.Books.{keys_with, counts_of, signals_of}
use Rattle.event_queue.specs.Queues.{Held, held, processes_of}
use Rattle.fast_kernel.specs.Waiters.{AreWaiters, AreOf}
use Rattle.fast_kernel.specs.declared.header.Header.{Header}
use Rattle.fast_kernel.specs.declared.simulation.Simulation.{Simulation}

-- the processes that these are, by rising number from n
abbrev pub procs_from : ℕ → List Header → Code → List Proc
procs_from n [] code = []
procs_from n (h ∷ hs) code = record { kind = h.kind; wakes = h.wakes; run = run_of code n } ∷ procs_from (suc n) hs code

abbrev pub procs_in : Simulation → List Proc
procs_in s = procs_from 0 s.headers.items s.code

-- the changes that are still to be told
abbrev pub pending : Simulation → List Report
pending s = drop s.told s.reports.items

abbrev pub content_of : Simulation → Content
content_of s = record {
  procs = procs_in s;
  nets = s.nets.items;
  state = record {
    signals = s.shown.items;
    hidden = s.hidden.items;
    active = (held s.queue).active;
    reports = pending s;
    due = (held s.queue).due;
    later = (held s.queue).later;
    delayed = (held s.queue).delayed;
    time = s.time;
    region = s.region;
  };
  keys = keys_with (held s.queue).times s.book;
  counts = counts_of s.book;
}

-- each update lies in its signal; ws are the widths of the signals
pub record AreQueued (h : Held) (ws : List ℕ) : Type 0 where
  pub due : AreFitting h.due ws
  pub later : AreFitting h.later ws
  pub delayed : AreFitting (updates_in h.delayed) ws

-- those who wait are the processes
pub record AreAwaited (s : Simulation) : Type 0 where
  pub waiters : AreWaiters s.waiters
  pub procs : AreOf s.waiters (procs_in s)
  pub signals : length s.waiters.chains.first.items ≡ length s.shown.items
  pub processes : processes_of s.queue ≡ length s.waiters.finds.is_found.items

pub record IsLoaded (s : Simulation) : Type 0 where
  pub code : IsSoundCode s.code (widths_of s.shown.items)
  pub packed : length s.code.starts.items ≡ length s.headers.items
  pub work : IsReady s.code (length s.shown.items) s.work
  pub waiting : AreAwaited s
  pub hidden : AreHidden s.hidden.items (widths_of s.shown.items)
  pub nets : length s.nets.items ≡ length s.shown.items
  pub watches : signals_of s.book ≡ length s.shown.items
  pub queued : AreQueued (held s.queue) (widths_of s.shown.items)
  pub appended : s.appended.items ≡ []
  pub reports_room : length s.shown.items ≤ vec_capacity s.reports
  pub reports : AreInside (pending s) (length s.shown.items)

-- it still holds its design, and each signal has the width that it had
pub record Stays (before after : Simulation) : Type 0 where
  pub loaded : IsLoaded after
  pub widths : widths_of after.shown.items ≡ widths_of before.shown.items

-- the body of a process has run: the values are new, its updates wait, and its changes are to be told
abbrev pub noted : State → Run → State
noted s r = record (with_run s r) { reports = changes 0 s.signals r.signals }

-- the changes wake those who wait for them, but for one
abbrev pub woken_by : List Proc → State → Option ℕ → State
woken_by ps s own = record s { active = s.active ++ woken 0 ps s.reports (barred own s.active); region = region.Active }

-- the process, if it is one that its own activation doesn't wake
abbrev pub own_in : Option Proc → ℕ → Option ℕ
own_in None p = None
own_in (Some proc) p = own_of proc.kind p

-- what is known of the processes beside their code
abbrev pub heads : List Process → List Header
heads [] = []
heads (p ∷ ps) = record { kind = p.kind; wakes = p.wakes } ∷ heads ps
