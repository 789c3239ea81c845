-- One process of the list.
use Rattle.std.proofs.Common.{◌≡◌, ℕ, zero, suc, ◌<◌, List, [], ◌∷◌, ◌++◌, length, get_or, refl, sym, ap, subst, arith, slice_get, Some, None, Option, Result, Ok, Err, OnOk, drop}
use Rattle.gpi.specs.declared.design.Process.{Process}
use Rattle.gpi.specs.Activation.{IsSound, Map, Hidden, activation}
use Rattle.gpi.specs.Soundness.{AreProcesses}
use Rattle.gpi.specs.Design.{proc_of, procs_of}
use Rattle.kernel_base.specs.Lists.{barred, own_of}
use Rattle.kernel_base.specs.Steps.{ran, with_run, ended}
use Rattle.kernel_base.proofs.Activated.{own_barred}
use Rattle.gpi.specs.declared.types.Report.{Report}
use Rattle.gpi.specs.declared.types.Region.TheVariants as region
use Rattle.gpi.specs.declared.types.Update.{Update}
use Rattle.gpi.specs.declared.types.Delayed.{Delayed}
use Rattle.gpi.specs.State.{State, changes, woken, at_once, all_delaying}

pub sound_at : (ps : List Process) (p : ℕ) (x : Process) (ws : List ℕ) → p < length ps → x ≡ get_or ps p x → AreProcesses ps ws → IsSound x.body ws
sound_at [] p x ws h e s = absurd (omega arith)
sound_at (y ∷ ps) zero x ws h e s = subst (λ (z : Process). IsSound z.body ws) (sym e) s.0
sound_at (y ∷ ps) (suc p) x ws h e s = sound_at ps p x ws (omega arith) e s.2

pub proc_at : (ps : List Process) (p : ℕ) (x : Process) → p < length ps → x ≡ get_or ps p x → slice_get (procs_of ps) p ≡ Some (proc_of x)
proc_at [] p x h e = absurd (omega arith)
proc_at (y ∷ ps) zero x h e = ap (λ (z : Process). Some (proc_of z)) (sym e)
proc_at (y ∷ ps) (suc p) x h e = proc_at ps p x (omega arith) e

-- the state after the end of an activation, by its parts
pub ended_is : (ps : List Process) (s : State) (before : Map) (p : ℕ) (x : Process) (own : Option ℕ) (active : List ℕ) (reports : List Report)
    → p < length ps → x ≡ get_or ps p x
    → reports ≡ changes 0 before s.signals
    → own ≡ own_of x.kind p
    → active ≡ s.active ++ woken 0 (procs_of ps) reports (barred own s.active)
    → record { signals = s.signals; hidden = s.hidden; active = active; reports = reports; due = s.due; later = s.later; delayed = s.delayed; time = s.time; region = region.Active }
    ≡ ended (procs_of ps) s before p (slice_get (procs_of ps) p)
ended_is ps s before p x own active reports h e er eo ea =
    rw (proc_at ps p x h e, ea, eo, own_barred x.kind p s.active, er) refl

-- the state after the body of a process has run, by its parts
pub ran_is : (ps : List Process) (s : State) (p : ℕ) (x : Process) (signals : Map) (hidden : Hidden) (later : List Update) (delayed : List Delayed)
    → p < length ps → x ≡ get_or ps p x
    → (let r = activation x.body (record { signals = s.signals; hidden = s.hidden; updates = [] }) in
    (signals ≡ r.signals) × (hidden ≡ r.hidden) × (later ≡ s.later ++ at_once r.updates) × (delayed ≡ all_delaying s.time r.updates s.delayed))
    → record { signals = signals; hidden = hidden; active = s.active; reports = s.reports; due = s.due; later = later; delayed = delayed; time = s.time; region = s.region }
    ≡ with_run s (ran (slice_get (procs_of ps) p) s.signals s.hidden)
ran_is ps s p x signals hidden later delayed h e f = rw (proc_at ps p x h e, f.3, f.2, f.1, f.0) refl

-- there is a process of each number
pub some_at : (ps : List Process) (p : ℕ) → p < length ps → slice_get (procs_of ps) p ≡ None → ⊥
some_at [] p h e = omega arith
some_at (y ∷ ps) zero h e = cc
some_at (y ∷ ps) (suc p) h e = some_at ps p (omega arith) e

pub head_tail : (xs ys : List ℕ) (p : ℕ) → 0 < length xs → p ≡ get_or xs 0 p → ys ≡ drop 1 xs → xs ≡ p ∷ ys
head_tail [] ys p h e f = absurd (omega arith)
head_tail (x ∷ xs) ys p h e f = let a : x ≡ p = sym e in let b : xs ≡ ys = sym f in cc

pub on_both : {A E P Q R : Type 0} (r : Result A E) → OnOk r P → OnOk r Q → (P → Q → R) → OnOk r R
on_both (Ok v) h k f = f h k
on_both (Err e) h k f = h
