-- Laws: a process that was found in an item is the one that the item adds.
use Rattle.std.proofs.Common.{◌≡◌, List, [], None, Some, refl, sym, ap, ◌∙◌}
use Rattle.gpi.specs.declared.design.Kind.TheVariants.{Assign, Always, Initial}
use Rattle.gpi.specs.declared.design.Wake.{Wake}
use Rattle.gpi.specs.declared.design.Process.{Process}
use Rattle.gpi.specs.Design.{Proc, proc_of}
use Rattle.v_syntax.specs.declared.statement.Identifier.{Identifier}
use Rattle.v_syntax.specs.declared.statement.AssignmentKind.TheVariants.{Blocking}
use Rattle.v_syntax.specs.declared.item.Event.{Event}
use Rattle.v_syntax.specs.ExpressionTrees.{Tree, TargetTree}
use Rattle.v_syntax.specs.StatementTrees.{StatementTree, Assignment}
use Rattle.v_syntax.specs.SourceTrees.{Driver, Net, Register, Initially, Implicit, Events}
use Rattle.v_flat.specs.declared.scope.found.Found.{Found}
use Rattle.v_flat.specs.declared.scope.found.Found.TheVariants.{Sound, Noted, Lost}
use Rattle.v_flat.specs.Scope.Found.{each, both, ForValue, Holds}
use Rattle.v_flat.specs.declared.scope.meaning.DataObject.{DataObject}
use Rattle.v_flat.specs.Scope.Scope.{Scope}
use Rattle.v_flat.specs.Checks.{checked}
use Rattle.v_flat.specs.Targets.{Drive, driving}
use Rattle.v_flat.specs.declared.timing.Timing.{Timing}
use Rattle.v_flat.specs.Statements.{done, reads, statement_reads, statement_checked}
use Rattle.v_flat.specs.Design.{Design, State, adding, always, always_item, assigning, beginning, driver, events_of, initial_item, input_joint, net, output_target, register, running, wakes_of, whole_of, with_process}
use Rattle.v_process.specs.declared.drive.digits.DrivenDigits.{DrivenDigits}
use Rattle.v_process.specs.Drive.Digits.{Keeps}
use Rattle.v_check.specs.declared.constants.checked.Checked.{Checked}
use Rattle.v_check.specs.Constants.Checked.{StandsFor}
use Rattle.v_process.specs.declared.target.checked.CheckedTarget.{CheckedTarget}
use Rattle.v_process.specs.Assign.Targets.{GetsAs}
use Rattle.v_process.proofs.ActLemmas.Done.{done_each, done_unit}
use Rattle.v_process.specs.Processes.{Runs, IsFoundProcess, IsDriver, IsAlways, untimed}
use Rattle.v_process.specs.Ports.{AssignsInput, AssignsOutput}
use Rattle.v_process.specs.Items.{HasDrives, AddsProcess}

-- ---- one process, whatever the value is

sound_each : {A B : Type 0} (x : Found A) (b : B) → done (let r : Found (Unit {0}) = Sound tt in r) ≡ done x → each (λ (a : A). b) x ≡ Sound b
sound_each (Sound a) b h = refl
sound_each (Noted c a) b h = absurd (cc)
sound_each (Lost c) b h = absurd (cc)

adds_each : {A : Type 0} (x : Found A) (p : Proc) (ds : List Drive) (st : State) (f : Found Process) → done f ≡ done x
    → Holds (λ (q : Process). proc_of q ≡ p) f → Holds (λ (q : Process). each (λ (a : A). adding p ds st) x ≡ Sound (adding (proc_of q) ds st)) f
adds_each x p ds st (Sound q) h k =
    sound_each x (adding p ds st) h ∙ ap (λ (r : Proc). (let z : Found State = Sound (adding r ds st) in z)) (sym k)
adds_each x p ds st (Noted c q) h k = tt
adds_each x p ds st (Lost c) h k = tt

drives_each : {A : Type 0} (x : Found A) (p : Proc) (ds : List Drive) (st : State) → ForValue (λ (v : State). HasDrives st ds v) (each (λ (a : A). adding p ds st) x)
drives_each (Sound a) p ds st = record { scope = refl; driven = refl; children = refl }
drives_each (Noted c a) p ds st = record { scope = refl; driven = refl; children = refl }
drives_each (Lost c) p ds st = tt

item_adds : {A : Type 0} (x : Found A) (p : Proc) (ds : List Drive) (st : State) (f : Found Process) → done f ≡ done x
    → Holds (λ (q : Process). proc_of q ≡ p) f → AddsProcess st (each (λ (a : A). adding p ds st) x) ds f
item_adds {A} x p ds st f h k = record {
  finds = h ∙ sym (done_each (λ (a : A). adding p ds st) x);
  adds = adds_each x p ds st f h k;
  goes_on = drives_each x p ds st;
}

-- ---- the items

run_is : (p : Proc) (Names : Process → Type 0) (f : Found Process) → Holds Names f → ((q : Process) → Names q → proc_of q ≡ p)
    → Holds (λ (q : Process). proc_of q ≡ p) f
run_is p Names (Sound q) h k = k q h
run_is p Names (Noted c q) h k = tt
run_is p Names (Lost c) h k = tt

-- `assign`, and so `wire name = value`
pub driver_adds : (t : TargetTree) (e : Tree) (x y : DrivenDigits) (f : Found Process) (st : State)
    → IsDriver st.scope t e (wakes_of (reads st.scope e) st.design) x f y → Keeps x st.driven
    → AddsProcess st (driver (Driver t e) st) (driving None st.scope t st.driven).driven f
driver_adds t e x y f st h k =
    let d = driving None st.scope t st.driven in
    let g = (h st.driven k).process in
    item_adds (both d.width (checked st.scope e)) (assigning st.scope t e st.design) d.driven st f g.finds
    (run_is (assigning st.scope t e st.design) (λ (q : Process). Runs untimed Assign (wakes_of (reads st.scope e) st.design) st.scope (Assignment Blocking t e) q) f g.holds
    (λ q r. r.is))

-- `wire name = value`
pub net_adds : (i : Identifier) (e : Tree) (x y : DrivenDigits) (f : Found Process) (st : State)
    → IsDriver st.scope (whole_of i) e (wakes_of (reads st.scope e) st.design) x f y → Keeps x st.driven
    → AddsProcess st (net (Net i (Some e)) st) (driving None st.scope (whole_of i) st.driven).driven f
net_adds i e x y f st h k = driver_adds (whole_of i) e x y f st h k

-- `reg name = value`
pub register_adds : (i : Identifier) (e : Tree) (f : Found Process) (st : State)
    → IsFoundProcess untimed Initial [] st.scope (Assignment Blocking (whole_of i) e) (done (checked st.scope e)) f
    → AddsProcess st (register (Register i (Some (Initially e))) st) st.driven f
register_adds i e f st h =
    item_adds (checked st.scope e) (beginning st.scope (whole_of i) e) st.driven st f h.finds
    (run_is (beginning st.scope (whole_of i) e) (λ (q : Process). Runs untimed Initial [] st.scope (Assignment Blocking (whole_of i) e) q) f h.holds (λ q r. r.is))

pub initial_adds : (timing : Timing) (a : StatementTree) (f : Found Process) (st : State) → IsFoundProcess timing Initial [] st.scope a (statement_checked timing st.scope a) f
    → AddsProcess st (initial_item timing a st) st.driven f
initial_adds timing a f st h =
    let p : Proc = record { kind = Initial; wakes = []; run = running timing st.scope a } in
    item_adds (statement_checked timing st.scope a) p st.driven st f (h.finds ∙ sym (done_unit (statement_checked timing st.scope a)))
    (run_is p (λ (q : Process). Runs timing Initial [] st.scope a q) f h.holds (λ q r. r.is))

-- ---- `always`

always_done : (timing : Timing) (w : Found (List Wake)) (b : Found (Unit {0})) (ws : List Wake) (a : StatementTree) (st : State) → w ≡ Sound ws
    → done (let r : Found (Unit {0}) = Sound tt in r) ≡ done (both w b) → each (λ (x : List Wake × Unit {0}). always timing x.0 a st) (both w b) ≡ Sound (always timing ws a st)
always_done timing (Sound vs) (Sound u) ws a st h k =
    let e : vs ≡ ws = cc in ap (λ (x : List Wake). (let r : Found State = Sound (always timing x a st) in r)) e
always_done timing (Sound vs) (Noted c u) ws a st h k = absurd (cc)
always_done timing (Sound vs) (Lost c) ws a st h k = absurd (cc)
always_done timing (Noted d vs) b ws a st h k = absurd (cc)
always_done timing (Lost d) b ws a st h k = absurd (cc)

always_goes : (timing : Timing) (w : Found (List Wake)) (b : Found (Unit {0})) (a : StatementTree) (st : State)
    → ForValue (λ (v : State). HasDrives st st.driven v) (each (λ (x : List Wake × Unit {0}). always timing x.0 a st) (both w b))
always_goes timing (Sound vs) (Sound u) a st = record { scope = refl; driven = refl; children = refl }
always_goes timing (Sound vs) (Noted c u) a st = record { scope = refl; driven = refl; children = refl }
always_goes timing (Sound vs) (Lost c) a st = tt
always_goes timing (Noted d vs) (Sound u) a st = record { scope = refl; driven = refl; children = refl }
always_goes timing (Noted d vs) (Noted c u) a st = record { scope = refl; driven = refl; children = refl }
always_goes timing (Noted d vs) (Lost c) a st = tt
always_goes timing (Lost d) (Sound u) a st = tt
always_goes timing (Lost d) (Noted c u) a st = tt
always_goes timing (Lost d) (Lost c) a st = tt

always_adds_one : (timing : Timing) (w : Found (List Wake)) (b : Found (Unit {0})) (a : StatementTree) (f : Found Process) (st : State) → done f ≡ done (both w b)
    → Holds (λ (p : Process). w ≡ Sound p.wakes) f → Holds (λ (p : Process). Runs timing Always p.wakes st.scope a p) f
    → Holds (λ (p : Process). each (λ (x : List Wake × Unit {0}). always timing x.0 a st) (both w b) ≡ Sound (adding (proc_of p) st.driven st)) f
always_adds_one timing w b a (Sound p) st h k l =
    always_done timing w b p.wakes a st k h ∙ ap (λ (x : Proc). (let r : Found State = Sound (adding x st.driven st) in r)) (sym l.is)
always_adds_one timing w b a (Noted c p) st h k l = tt
always_adds_one timing w b a (Lost c) st h k l = tt

-- `always @( .. )`
pub events_add : (timing : Timing) (es : List Event) (a : StatementTree) (f : Found Process) (st : State) → IsAlways timing (events_of st.scope es) st.scope a f
    → AddsProcess st (always_item timing (Events es) a st) st.driven f
events_add timing es a f st h =
    let w = events_of st.scope es in
    let b = statement_checked timing st.scope a in record {
      finds = h.finds ∙ sym (done_each (λ (x : List Wake × Unit {0}). always timing x.0 a st) (both w b));
      adds = always_adds_one timing w b a f st h.finds h.waits h.holds;
      goes_on = always_goes timing w b a st;
    }

implicit_is : (timing : Timing) (ws : List Wake) (a : StatementTree) (f : Found Process) (st : State) → Holds (λ (p : Process). (let r : Found (List Wake) = Sound ws in r) ≡ Sound p.wakes) f
    → Holds (λ (p : Process). Runs timing Always p.wakes st.scope a p) f
    → Holds (λ (p : Process). proc_of p ≡ record { kind = Always; wakes = ws; run = running timing st.scope a }) f
implicit_is timing ws a (Sound p) st h k =
    let e : p.wakes ≡ ws = cc in k.is ∙ ap (λ (x : List Wake). (let r : Proc = record { kind = Always; wakes = x; run = running timing st.scope a } in r)) e
implicit_is timing ws a (Noted c p) st h k = tt
implicit_is timing ws a (Lost c) st h k = tt

-- `always @*`
pub implicit_adds : (timing : Timing) (a : StatementTree) (f : Found Process) (st : State)
    → IsAlways timing (Sound (wakes_of (statement_reads st.scope a) st.design)) st.scope a f → AddsProcess st (always_item timing Implicit a st) st.driven f
implicit_adds timing a f st h =
    let ws = wakes_of (statement_reads st.scope a) st.design in
    let b = statement_checked timing st.scope a in
    item_adds b (record { kind = Always; wakes = ws; run = running timing st.scope a }) st.driven st f
    (h.finds ∙ done_each {B = List Wake × Unit {0}} (λ (u : Unit {0}). (ws, u)) b) (implicit_is timing ws a f st h.waits h.holds)

-- ---- connected ports

pub input_joins : (outer : Scope) (o : DataObject) (e : Tree) (v : Checked) (d : Design) (p : Process) → AssignsInput o v (wakes_of (reads outer e) d) p
    → StandsFor outer e v → input_joint outer o e d ≡ with_process (proc_of p) d
input_joins outer o e v d p h k = ap (λ (x : Proc). with_process x d) (sym (h outer e k).is)

pub output_joins : (outer : Scope) (o : DataObject) (t : TargetTree) (c : CheckedTarget) (d : Design) (p : Process) → AssignsOutput o c p → GetsAs outer t c
    → output_target outer o (Some t) d ≡ with_process (proc_of p) d
output_joins outer o t c d p h k = ap (λ (x : Proc). with_process x d) (sym (h outer t k).is)
