-- The processes of items, each added as the definition adds it.
use Rattle.std.proofs.Common.{◌≡◌, ℕ, List, [], ◌++◌, length, None, Some, true, refl, sym, ap, subst, ◌∙◌}
use Rattle.gpi.specs.declared.design.Kind.{Kind}
use Rattle.gpi.specs.declared.design.Kind.TheVariants.{Assign, Always, Initial}
use Rattle.gpi.specs.declared.design.Wake.{Wake}
use Rattle.gpi.specs.declared.design.Process.{Process}
use Rattle.gpi.specs.Design.{Proc, widths}
use Rattle.gpi.specs.Soundness.{are_wakes}
use Rattle.v_syntax.specs.declared.statement.Identifier.{Identifier}
use Rattle.v_syntax.specs.declared.statement.AssignmentKind.TheVariants.{Blocking}
use Rattle.v_syntax.specs.ExpressionTrees.{Tree, TargetTree}
use Rattle.v_syntax.specs.StatementTrees.{StatementTree, Assignment}
use Rattle.v_syntax.specs.SourceTrees.{Driver, Net, Register, Initially, ControlTree, Implicit, Events}
use Rattle.v_flat.specs.declared.scope.found.Found.{Found}
use Rattle.v_flat.specs.declared.scope.found.Found.TheVariants.{Sound, Noted, Lost}
use Rattle.v_flat.specs.Scope.Found.{both, ForValue, Holds}
use Rattle.v_flat.proofs.ScopeLemmas.Gathered.{holds_so}
use Rattle.v_flat.specs.Scope.Scope.{Scope, means}
use Rattle.v_flat.specs.Checks.{checked}
use Rattle.v_flat.specs.Targets.{driving}
use Rattle.v_flat.specs.Statements.{done, reads, statement_reads, statement_checked}
use Rattle.v_flat.specs.declared.timing.Timing.{Timing}
use Rattle.v_flat.specs.Design.{Design, State, always_item, assigning, beginning, driver, events_of, initial_item, net, register, running, wakes_of, whole_of}
use Rattle.v_process.specs.Drive.Digits.{Keeps}
use Rattle.v_process.specs.Processes.{Runs, IsFoundProcess, IsDriver, IsAlways, untimed}
use Rattle.v_process.specs.Items.{AddsProcess}
use Rattle.v_process.proofs.Items.{driver_adds, register_adds, initial_adds, events_add, implicit_adds}
use Rattle.v_layout.specs.Build.Parts.{IsSoundIn}
use Rattle.v_loop.specs.Wakes.Wakes.{WaitForAll}
use Rattle.v_elab.specs.declared.state.State as code
use Rattle.v_elab.specs.States.{GoesOn, IsReady}
use Rattle.v_elab.specs.ItemsSteps.{AddsFound, IsStep, awaited}
use Rattle.v_elab.proofs.Fitting.{AreBelow, awaited_fit, changes_fit, runs_sound, with_more}
use Rattle.v_elab.proofs.Adding.{Amid, HasSignals, IsItem, same_signals_each, step_added}

-- what runs a statement in a state that is ready, and waits for signals of it, is sound
found_sound : (timing : Timing) (k : Kind) (ws : List Wake) (a : StatementTree) (x : code.State) (f : Found Process) → IsReady x
    → ((more : List ℕ) → are_wakes ws (length (widths x.parts.signals ++ more)) ≡ true) → Holds (λ (p : Process). Runs timing k ws (means x.scope) a p) f
    → Holds (λ (p : Process). IsSoundIn p (widths x.parts.signals)) f
found_sound timing k ws a x f ready below h =
    holds_so (λ (p : Process). Runs timing k ws (means x.scope) a p) (λ (p : Process). IsSoundIn p (widths x.parts.signals)) f h
    (λ p r. runs_sound timing k ws (means x.scope) a (widths x.parts.signals) ready.signals below p r)

-- ---- continuous assignments

waits_there : (e : Tree) (n : ℕ) (ws : List Wake) (x : code.State) (s : State) → WaitForAll (reads (means x.scope) e) n ws → n ≡ length x.parts.signals → GoesOn s x
    → ws ≡ wakes_of (reads s.scope e) s.design
waits_there e n ws x s w m h = w s.design (sym h.signals ∙ sym m) ∙ ap (λ (c : Scope). wakes_of (reads c e) s.design) h.scope

drives_there : (t : TargetTree) (e : Tree) (n : ℕ) (ws : List Wake) (x w : code.State) (f : Found Process) (s : State) → WaitForAll (reads (means x.scope) e) n ws
    → n ≡ length x.parts.signals → IsDriver (means x.scope) t e ws x.driven f w.driven → GoesOn s x
    → IsDriver s.scope t e (wakes_of (reads s.scope e) s.design) x.driven f w.driven
drives_there t e n ws x w f s all m d h =
    subst (λ (vs : List Wake). IsDriver s.scope t e vs x.driven f w.driven) (waits_there e n ws x s all m h)
    (subst (λ (c : Scope). IsDriver c t e ws x.driven f w.driven) h.scope d)

driver_item : (t : TargetTree) (e : Tree) (x w : code.State) (f : Found Process) (s : State) → IsDriver s.scope t e (wakes_of (reads s.scope e) s.design) x.driven f w.driven
    → GoesOn s x → IsItem (driver (Driver t e) s) s (driving None s.scope t s.driven).driven w f
driver_item t e x w f s d h = record {
  adds = driver_adds t e x.driven w.driven f s d h.driven;
  signals = same_signals_each {A = ℕ × ℕ} (λ (a : ℕ × ℕ). assigning s.scope t e s.design) (driving None s.scope t s.driven).driven s (both (driving None s.scope t s.driven).width (checked s.scope e));
  driven = (d s.driven h.driven).driven;
}

driver_sound : (t : TargetTree) (e : Tree) (n : ℕ) (ws : List Wake) (x w : code.State) (f : Found Process) → IsReady x → WaitForAll (reads (means x.scope) e) n ws
    → n ≡ length x.parts.signals → IsDriver (means x.scope) t e ws x.driven f w.driven → (s : State) → GoesOn s x
    → Holds (λ (p : Process). IsSoundIn p (widths x.parts.signals)) f
driver_sound t e n ws x w f ready all m d s h =
    found_sound untimed Assign ws (Assignment Blocking t e) x f ready
    (λ more. subst (λ (vs : List Wake). are_wakes vs (length (widths x.parts.signals ++ more)) ≡ true) (sym (all s.design (sym h.signals ∙ sym m)))
    (changes_fit (reads (means x.scope) e) s.design (length (widths x.parts.signals ++ more)) (with_more (length s.design.signals) x.parts.signals more h.signals)))
    (d s.driven h.driven).process.holds

pub driver_step : (t : TargetTree) (e : Tree) (n : ℕ) (ws : List Wake) (x w : code.State) (f : Found Process) (g : Found code.State) → IsReady x
    → WaitForAll (reads (means x.scope) e) n ws → n ≡ length x.parts.signals → IsDriver (means x.scope) t e ws x.driven f w.driven → Amid x w → AddsFound w f g
    → IsStep (driver (Driver t e)) x g
driver_step t e n ws x w f g ready all m d a b =
    step_added (driver (Driver t e)) (λ s. (driving None s.scope t s.driven).driven) x w f g a b
    (λ s h. driver_item t e x w f s (drives_there t e n ws x w f s all m d h) h)
    (driver_sound t e n ws x w f ready all m d)

pub net_step : (i : Identifier) (e : Tree) (n : ℕ) (ws : List Wake) (x w : code.State) (f : Found Process) (g : Found code.State) → IsReady x
    → WaitForAll (reads (means x.scope) e) n ws → n ≡ length x.parts.signals → IsDriver (means x.scope) (whole_of i) e ws x.driven f w.driven → Amid x w → AddsFound w f g
    → IsStep (net (Net i (Some e))) x g
net_step i e n ws x w f g ready all m d a b = driver_step (whole_of i) e n ws x w f g ready all m d a b

-- ---- opening values

register_item : (i : Identifier) (e : Tree) (x w : code.State) (f : Found Process) (s : State)
    → IsFoundProcess untimed Initial [] s.scope (Assignment Blocking (whole_of i) e) (done (checked s.scope e)) f → w.driven ≡ x.driven → GoesOn s x
    → IsItem (register (Register i (Some (Initially e))) s) s s.driven w f
register_item i e x w f s d k h = record {
  adds = register_adds i e f s d;
  signals = same_signals_each {A = ℕ} (λ (a : ℕ). beginning s.scope (whole_of i) e) s.driven s (checked s.scope e);
  driven = subst (λ v. Keeps v s.driven) (sym k) h.driven;
}

pub register_step : (i : Identifier) (e : Tree) (x w : code.State) (f : Found Process) (g : Found code.State) → IsReady x
    → IsFoundProcess untimed Initial [] (means x.scope) (Assignment Blocking (whole_of i) e) (done (checked (means x.scope) e)) f → Amid x w → w.driven ≡ x.driven → AddsFound w f g
    → IsStep (register (Register i (Some (Initially e)))) x g
register_step i e x w f g ready d a k b =
    step_added (register (Register i (Some (Initially e)))) (λ s. s.driven) x w f g a b
    (λ s h. register_item i e x w f s
    (subst (λ (c : Scope). IsFoundProcess untimed Initial [] c (Assignment Blocking (whole_of i) e) (done (checked c e)) f) h.scope d) k h)
    (λ s h. found_sound untimed Initial [] (Assignment Blocking (whole_of i) e) x f ready (λ more. refl) d.holds)

-- ---- `initial`

initial_found : (timing : Timing) (a : StatementTree) (x w : code.State) (f : Found Process) (s : State) → IsFoundProcess timing Initial [] s.scope a (statement_checked timing s.scope a) f
    → w.driven ≡ x.driven → GoesOn s x → IsItem (initial_item timing a s) s s.driven w f
initial_found timing a x w f s d k h =
    let p : Proc = record { kind = Initial; wakes = []; run = running timing s.scope a } in record {
      adds = initial_adds timing a f s d;
      signals = same_signals_each {A = Unit {0}} (λ (u : Unit {0}). p) s.driven s (statement_checked timing s.scope a);
      driven = subst (λ v. Keeps v s.driven) (sym k) h.driven;
    }

pub initial_step : (timing : Timing) (a : StatementTree) (x w : code.State) (f : Found Process) (g : Found code.State) → IsReady x
    → IsFoundProcess timing Initial [] (means x.scope) a (statement_checked timing (means x.scope) a) f → Amid x w → w.driven ≡ x.driven → AddsFound w f g
    → IsStep (initial_item timing a) x g
initial_step timing a x w f g ready d a' k b =
    step_added (initial_item timing a) (λ s. s.driven) x w f g a' b
    (λ s h. initial_found timing a x w f s (subst (λ (c : Scope). IsFoundProcess timing Initial [] c a (statement_checked timing c a) f) h.scope d) k h)
    (λ s h. found_sound timing Initial [] a x f ready (λ more. refl) d.holds)

-- ---- `always`

always_adds : (timing : Timing) (c : ControlTree) (a : StatementTree) (f : Found Process) (s : State) → IsAlways timing (awaited s.scope c a s.design) s.scope a f → AddsProcess s (always_item timing c a s) s.driven f
always_adds timing Implicit a f s h = implicit_adds timing a f s h
always_adds timing (Events es) a f s h = events_add timing es a f s h

always_signals : (timing : Timing) (c : ControlTree) (a : StatementTree) (s : State) → ForValue (λ (v : State). HasSignals s v) (always_item timing c a s)
always_signals timing Implicit a s =
    let p : Proc = record { kind = Always; wakes = wakes_of (statement_reads s.scope a) s.design; run = running timing s.scope a } in
    same_signals_each {A = Unit {0}} (λ (u : Unit {0}). p) s.driven s (statement_checked timing s.scope a)
always_signals timing (Events es) a s =
    same_signals_each {A = List Wake × Unit {0}} (λ (x : List Wake × Unit {0}). (let p : Proc = record { kind = Always; wakes = x.0; run = running timing s.scope a } in p)) s.driven s
    (both (events_of s.scope es) (statement_checked timing s.scope a))

always_found : (timing : Timing) (c : ControlTree) (a : StatementTree) (x w : code.State) (f : Found Process) (s : State) → IsAlways timing (awaited s.scope c a s.design) s.scope a f
    → w.driven ≡ x.driven → GoesOn s x → IsItem (always_item timing c a s) s s.driven w f
always_found timing c a x w f s d k h = record {
  adds = always_adds timing c a f s d;
  signals = always_signals timing c a s;
  driven = subst (λ v. Keeps v s.driven) (sym k) h.driven;
}

-- what was found in what it waits for, by what is awaited in the state
awaited_there : (c : ControlTree) (a : StatementTree) (n : ℕ) (v : Found (List Wake)) (x : code.State) (s : State)
    → ((d : Design) → length d.signals ≡ n → v ≡ awaited (means x.scope) c a d) → n ≡ length x.parts.signals → GoesOn s x → v ≡ awaited (means x.scope) c a s.design
awaited_there c a n v x s all m h = all s.design (sym h.signals ∙ sym m)

wakes_below : (v : Found (List Wake)) (ws : List Wake) (n : ℕ) → v ≡ Sound ws → Holds (AreBelow n) v → are_wakes ws n ≡ true
wakes_below v ws n h k = subst (λ (z : Found (List Wake)). Holds (AreBelow n) z) h k

always_sound : (timing : Timing) (v : Found (List Wake)) (a : StatementTree) (x : code.State) (f : Found Process) → IsReady x
    → ((more : List ℕ) → Holds (AreBelow (length (widths x.parts.signals ++ more))) v) → IsAlways timing v (means x.scope) a f
    → Holds (λ (p : Process). IsSoundIn p (widths x.parts.signals)) f
always_sound timing v a x f ready below h = one f h.waits h.holds
  where
    one : (y : Found Process) → Holds (λ (p : Process). v ≡ Sound p.wakes) y → Holds (λ (p : Process). Runs timing Always p.wakes (means x.scope) a p) y
        → Holds (λ (p : Process). IsSoundIn p (widths x.parts.signals)) y
    one (Sound p) w r =
        runs_sound timing Always p.wakes (means x.scope) a (widths x.parts.signals) ready.signals
        (λ more. wakes_below v p.wakes (length (widths x.parts.signals ++ more)) w (below more)) p r
    one (Noted b p) w r = tt
    one (Lost b) w r = tt

pub always_step : (timing : Timing) (c : ControlTree) (a : StatementTree) (n : ℕ) (v : Found (List Wake)) (x w : code.State) (f : Found Process) (g : Found code.State) → IsReady x
    → ((d : Design) → length d.signals ≡ n → v ≡ awaited (means x.scope) c a d) → n ≡ length x.parts.signals → IsAlways timing v (means x.scope) a f → Amid x w → w.driven ≡ x.driven
    → AddsFound w f g → IsStep (always_item timing c a) x g
always_step timing c a n v x w f g ready all m d amid k b =
    step_added (always_item timing c a) (λ s. s.driven) x w f g amid b
    (λ s h. always_found timing c a x w f s
    (subst (λ (z : Scope). IsAlways timing (awaited z c a s.design) z a f) h.scope
    (subst (λ (z : Found (List Wake)). IsAlways timing z (means x.scope) a f) (awaited_there c a n v x s all m h) d)) k h)
    (λ s h. always_sound timing v a x f ready
    (λ more. subst (λ (z : Found (List Wake)). Holds (AreBelow (length (widths x.parts.signals ++ more))) z) (sym (awaited_there c a n v x s all m h))
    (awaited_fit (means x.scope) (widths x.parts.signals ++ more) (ready.signals more) c a s.design (with_more (length s.design.signals) x.parts.signals more h.signals))) d)
