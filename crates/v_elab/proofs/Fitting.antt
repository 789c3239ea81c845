-- What is awaited are signals of the design, and a process that waits for these is sound.
use Rattle.std.proofs.Common.{◌≡◌, ℕ, zero, suc, ◌+◌, ◌≤◌, ◌<◌, ◌&&◌, Bool, true, false, List, [], ◌∷◌, ◌++◌, map, length, Option, Some, None, cond, nat_lt, refl, sym, ap, subst, arith, length-append}
use Rattle.std.specs.List.{filter, range_with_len}
use Rattle.std.proofs.lemmas.Bool.Decides.{nat_tests}
use Rattle.gpi.specs.declared.design.Kind.{Kind}
use Rattle.gpi.specs.declared.design.Signal.{Signal}
use Rattle.gpi.specs.declared.design.Wake.{Wake}
use Rattle.gpi.specs.declared.design.Process.{Process}
use Rattle.gpi.specs.Design.{Proc, widths}
use Rattle.gpi.specs.Soundness.{are_wakes}
use Rattle.v_syntax.specs.declared.item.Event.{Event}
use Rattle.v_syntax.specs.StatementTrees.{StatementTree}
use Rattle.v_syntax.specs.SourceTrees.{ControlTree, Implicit, Events}
use Rattle.v_flat.specs.declared.scope.found.Found.{Found}
use Rattle.v_flat.specs.declared.scope.found.Found.TheVariants.{Sound, Noted, Lost}
use Rattle.v_flat.specs.Scope.Found.{each, both, Holds}
use Rattle.v_flat.specs.declared.scope.meaning.Bounds.{Bounds}
use Rattle.v_flat.specs.declared.scope.meaning.DataObject.{DataObject}
use Rattle.v_flat.specs.declared.scope.meaning.Meaning.{Meaning}
use Rattle.v_flat.specs.declared.scope.meaning.Meaning.TheVariants.{Constant, Object, Later}
use Rattle.v_flat.specs.declared.timing.Timing.{Timing}
use Rattle.v_flat.specs.Scope.Scope.{Scope, find}
use Rattle.v_flat.specs.Statements.{Span, statement_reads}
use Rattle.v_flat.specs.Design.{Design, is_read, any_change, wakes_of, wake_in, wake_by, events_of}
use Rattle.v_check.specs.Constants.Checked.{IsNameOf, IsObjectOf}
use Rattle.v_layout.specs.Named.{AreSignals}
use Rattle.v_elab.proofs.NamedLemmas.Trees.{statement_names}
use Rattle.v_process.specs.Processes.{Runs}
use Rattle.v_layout.specs.Build.Parts.{IsSoundIn}
use Rattle.v_elab.specs.ItemsSteps.{awaited}

pub many_widths : (ss : List Signal) → length (widths ss) ≡ length ss
many_widths [] = refl
many_widths (s ∷ ss) = ap suc (many_widths ss)

both_so : (a b : Bool) → a ≡ true → b ≡ true → (a && b) ≡ true
both_so true b h k = k
both_so false b h k = h

is_below : (k m : ℕ) → k < m → nat_lt k m ≡ true
is_below k m h = grind (arith, nat_tests)

-- ---- changes

one_fits : (b : Bool) (k m : ℕ) (ks : List ℕ) → k < m → are_wakes (map any_change ks) m ≡ true → are_wakes (map any_change (cond b (k ∷ ks) ks)) m ≡ true
one_fits true k m ks h all = both_so (nat_lt k m) (are_wakes (map any_change ks) m) (is_below k m h) all
one_fits false k m ks h all = all

range_fits : (xs : List Span) (k n m : ℕ) → k + n ≤ m → are_wakes (map any_change (filter (λ i. is_read i xs) (range_with_len k n))) m ≡ true
range_fits xs k zero m h = refl
range_fits xs k (suc n) m h =
    one_fits (is_read k xs) k m (filter (λ i. is_read i xs) (range_with_len (k + 1) n)) (omega (arith, h)) (range_fits xs (k + 1) n m (omega (arith, h)))

pub changes_fit : (xs : List Span) (d : Design) (m : ℕ) → length d.signals ≤ m → are_wakes (wakes_of xs d) m ≡ true
changes_fit xs d m h = range_fits xs 0 (length d.signals) m (omega (arith, h))

-- ---- events

-- each wake is of one of so many signals
abbrev pub AreBelow : ℕ → List Wake → Type 0
AreBelow m ws = are_wakes ws m ≡ true

object_fits : (e : Event) (o : DataObject) (w : Option Bounds) (us : List ℕ) → IsObjectOf o w us → Holds (λ (x : Wake). x.sig.0 < length us) (wake_in e o w)
object_fits e o None us h = h.0
object_fits e o (Some w) us h = tt

event_fits : (e : Event) (x : Option Meaning) (us : List ℕ) → IsNameOf x us → Holds (λ (w : Wake). w.sig.0 < length us) (wake_by e x)
event_fits e None us h = tt
event_fits e (Some Later) us h = tt
event_fits e (Some (Constant ds b)) us h = tt
event_fits e (Some (Object o)) us h = object_fits e o o.words us h

both_fit : (x : Found Wake) (y : Found (List Wake)) (m : ℕ) → Holds (λ (w : Wake). w.sig.0 < m) x → Holds (AreBelow m) y
    → Holds (AreBelow m) (each (λ (p : Wake × List Wake). p.0 ∷ p.1) (both x y))
both_fit (Sound w) (Sound ws) m h k = both_so (nat_lt w.sig.0 m) (are_wakes ws m) (is_below w.sig.0 m h) k
both_fit (Sound w) (Noted c ws) m h k = tt
both_fit (Sound w) (Lost c) m h k = tt
both_fit (Noted d w) (Sound ws) m h k = tt
both_fit (Noted d w) (Noted c ws) m h k = tt
both_fit (Noted d w) (Lost c) m h k = tt
both_fit (Lost d) (Sound ws) m h k = tt
both_fit (Lost d) (Noted c ws) m h k = tt
both_fit (Lost d) (Lost c) m h k = tt

pub events_fit : (s : Scope) (us : List ℕ) → AreSignals s us → (es : List Event) → Holds (AreBelow (length us)) (events_of s es)
events_fit s us h [] = refl
events_fit s us h (e ∷ es) =
    both_fit (wake_by e (find e.name.name s)) (events_of s es) (length us) (event_fits e (find e.name.name s) us (h e.name.name)) (events_fit s us h es)

pub awaited_fit : (s : Scope) (us : List ℕ) → AreSignals s us → (c : ControlTree) (a : StatementTree) (d : Design) → length d.signals ≤ length us
    → Holds (AreBelow (length us)) (awaited s c a d)
awaited_fit s us h Implicit a d l = changes_fit (statement_reads s a) d (length us) l
awaited_fit s us h (Events es) a d l = events_fit s us h es

-- ---- processes

pub runs_sound : (timing : Timing) (k : Kind) (ws : List Wake) (s : Scope) (a : StatementTree) (us : List ℕ) → ((more : List ℕ) → AreSignals s (us ++ more))
    → ((more : List ℕ) → are_wakes ws (length (us ++ more)) ≡ true) → (p : Process) → Runs timing k ws s a p → IsSoundIn p us
runs_sound timing k ws s a us named below p h = record {
  body = λ more. h.sound (us ++ more) (statement_names s (us ++ more) (named more) a);
  wakes = λ more. subst (λ (vs : List Wake). are_wakes vs (length (us ++ more)) ≡ true) (sym (ap (λ (x : Proc). x.wakes) h.is)) (below more);
}

-- the signals so far are no more than there are with others behind them
pub with_more : (n : ℕ) (ss : List Signal) (more : List ℕ) → length ss ≡ n → n ≤ length (widths ss ++ more)
with_more n ss more h = let e = length-append (widths ss) more in let f = many_widths ss in omega (arith, h, e, f)
