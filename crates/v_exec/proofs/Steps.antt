-- One instruction, and those behind it.
use Rattle.std.proofs.Common.{◌≡◌, ℕ, zero, suc, ◌+◌, ◌<◌, ◌≤◌, Bool, true, false, if◌then◌else◌, List, [], ◌∷◌, ◌++◌, length, drop, get_or, map, Option, Some, None, refl, ap, sym, ◌∙◌, subst, arith, append_assoc}
use Rattle.std.proofs.Math.Seq.{drop-nil}
use Rattle.std.proofs.lemmas.List.{drop_more, length-drop, append-nil}
use Rattle.four_value.specs.declared.Digit.{Digit}
use Rattle.four_value.specs.declared.Digit.TheVariants.{Zero, One, X, Z}
use Rattle.gpi.specs.declared.types.Update.{Update}
use Rattle.gpi.specs.Operators.{truth}
use Rattle.gpi.specs.Activation.{Map, Hidden, Run, blocking, written, written_over, hidden_in, after}
use Rattle.gpi.specs.Cases.{all_agree}
use Rattle.v_exec.specs.declared.instruction.Instruction.{Instruction}
use Rattle.v_exec.specs.declared.instruction.Instruction.TheVariants as code
use Rattle.v_exec.specs.declared.instruction.Mode.{Mode}
use Rattle.v_exec.specs.declared.instruction.Mode.TheVariants as mode
use Rattle.v_exec.specs.Machine.{Machine, effect, passes, goes_on, exec, stored, updates_to, below_store, unless, unless_top, where_agree}
use Rattle.v_exec.specs.Fits.{Room, Shape, Takes, Follows, Fits, leaves, stores_after}
use Rattle.v_exec.specs.Code.{HasRun, begun}
use Rattle.v_exec.specs.Running.{goes_to, goes_by}

-- ---- how it goes on

pub goes_so : (i : Instruction) (rest : ℕ → Machine → Machine) (m : Machine) → goes_on i rest m ≡ goes_by (goes_to i m) rest (effect i m)
goes_so (code.Constant ds) rest m = refl
goes_so (code.Signal sig) rest m = refl
goes_so (code.Word words w) rest m = refl
goes_so (code.Select range w) rest m = refl
goes_so (code.Unary op) rest m = refl
goes_so (code.Arith op) rest m = refl
goes_so (code.Compare op) rest m = refl
goes_so (code.Logic op) rest m = refl
goes_so (code.Reduce op) rest m = refl
goes_so (code.Shift op) rest m = refl
goes_so code.Choose rest m = refl
goes_so code.Concat rest m = refl
goes_so (code.Repeat n') rest m = refl
goes_so (code.Resize w) rest m = refl
goes_so (code.Part low width) rest m = refl
goes_so code.Discard rest m = refl
goes_so (code.Unless n') rest m = refl
goes_so (code.Skip n') rest m = refl
goes_so (code.Match kind n') rest m = refl
goes_so (code.Store place mode) rest m = refl
goes_so code.WriteNoted rest m = refl
goes_so code.Stop rest m = refl

some_is : (a b : ℕ) → Some a ≡ Some b → a ≡ b
some_is a b e = cc

by_digit : (d : Digit) (P : ℕ → Type 0) (n : ℕ) → P 0 → P n → P (unless n d)
by_digit One P n a b = a
by_digit Zero P n a b = b
by_digit X P n a b = b
by_digit Z P n a b = b

by_top : (st : List (List Digit)) (P : ℕ → Type 0) (n : ℕ) → P 0 → P n → P (unless_top n st)
by_top [] P n a b = b
by_top (t ∷ st) P n a b = by_digit (truth t) P n a b

by_bool : (t : Bool) (P : ℕ → Type 0) (n : ℕ) → P 0 → P n → P (if t then n else 0)
by_bool true P n a b = b
by_bool false P n a b = a

by_label : (st : List (List Digit)) (agree : List Digit → List Digit → Bool) (P : ℕ → Type 0) (n : ℕ) → P 0 → P n → P (where_agree n agree st)
by_label [] agree P n a b = a
by_label (l ∷ []) agree P n a b = a
by_label (l ∷ ds ∷ st) agree P n a b = by_bool (agree ds l) P n a b

-- it goes on where that fits
pub follows_so : (i : Instruction) (rest : ℕ → Shape → Type 0) (s : Shape) (m : Machine) (n : ℕ) → Follows i rest s → goes_to i m ≡ Some n → rest n s
follows_so (code.Constant ds) rest s m n h e = subst (λ (k : ℕ). rest k s) (some_is _ n e) h
follows_so (code.Signal sig) rest s m n h e = subst (λ (k : ℕ). rest k s) (some_is _ n e) h
follows_so (code.Word words w) rest s m n h e = subst (λ (k : ℕ). rest k s) (some_is _ n e) h
follows_so (code.Select range w) rest s m n h e = subst (λ (k : ℕ). rest k s) (some_is _ n e) h
follows_so (code.Unary op) rest s m n h e = subst (λ (k : ℕ). rest k s) (some_is _ n e) h
follows_so (code.Arith op) rest s m n h e = subst (λ (k : ℕ). rest k s) (some_is _ n e) h
follows_so (code.Compare op) rest s m n h e = subst (λ (k : ℕ). rest k s) (some_is _ n e) h
follows_so (code.Logic op) rest s m n h e = subst (λ (k : ℕ). rest k s) (some_is _ n e) h
follows_so (code.Reduce op) rest s m n h e = subst (λ (k : ℕ). rest k s) (some_is _ n e) h
follows_so (code.Shift op) rest s m n h e = subst (λ (k : ℕ). rest k s) (some_is _ n e) h
follows_so code.Choose rest s m n h e = subst (λ (k : ℕ). rest k s) (some_is _ n e) h
follows_so code.Concat rest s m n h e = subst (λ (k : ℕ). rest k s) (some_is _ n e) h
follows_so (code.Repeat n') rest s m n h e = subst (λ (k : ℕ). rest k s) (some_is _ n e) h
follows_so (code.Resize w) rest s m n h e = subst (λ (k : ℕ). rest k s) (some_is _ n e) h
follows_so (code.Part low width) rest s m n h e = subst (λ (k : ℕ). rest k s) (some_is _ n e) h
follows_so code.Discard rest s m n h e = subst (λ (k : ℕ). rest k s) (some_is _ n e) h
follows_so (code.Unless n') rest s m n h e = subst (λ (k : ℕ). rest k s) (some_is _ n e) (by_top m.stack (λ k. rest k s) n' h.0 h.1)
follows_so (code.Skip n') rest s m n h e = subst (λ (k : ℕ). rest k s) (some_is _ n e) h
follows_so (code.Match kind n') rest s m n h e = subst (λ (k : ℕ). rest k s) (some_is _ n e) (by_label m.stack (all_agree kind) (λ k. rest k s) n' h.0 h.1)
follows_so (code.Store place mode) rest s m n h e = subst (λ (k : ℕ). rest k s) (some_is _ n e) h
follows_so code.WriteNoted rest s m n h e = subst (λ (k : ℕ). rest k s) (some_is _ n e) h
follows_so code.Stop rest s m n h e = absurd (cc)

-- ---- what an instruction finds, by the room that is left

pub takes_left : (i : Instruction) (room : Room) (ws : List ℕ) (s : Shape) (depth spare : ℕ) → Takes i room ws s → room.depth ≤ depth → room.stores ≤ s.stores + spare
    → Takes i (record { depth = depth; stores = spare }) ws (record { stack = s.stack; stores = 0 })
takes_left (code.Constant ds) room ws s depth spare h d e = omega arith
takes_left (code.Signal sig) room ws s depth spare h d e = (h.0, omega arith)
takes_left (code.Word words w) room ws s depth spare h d e = h
takes_left (code.Select range w) room ws s depth spare h d e = h
takes_left (code.Unary op) room ws s depth spare h d e = h
takes_left (code.Arith op) room ws s depth spare h d e = h
takes_left (code.Compare op) room ws s depth spare h d e = h
takes_left (code.Logic op) room ws s depth spare h d e = h
takes_left (code.Reduce op) room ws s depth spare h d e = h
takes_left (code.Shift op) room ws s depth spare h d e = h
takes_left code.Choose room ws s depth spare h d e = h
takes_left code.Concat room ws s depth spare h d e = h
takes_left (code.Repeat n') room ws s depth spare h d e = h
takes_left (code.Resize w) room ws s depth spare h d e = h
takes_left (code.Part low width) room ws s depth spare h d e = (h.0, omega arith, h.2)
takes_left code.Discard room ws s depth spare h d e = h
takes_left (code.Unless n') room ws s depth spare h d e = h
takes_left (code.Skip n') room ws s depth spare h d e = h
takes_left (code.Match kind n') room ws s depth spare h d e = h
takes_left (code.Store place mode) room ws s depth spare h d e = (omega arith, h.1)
takes_left code.WriteNoted room ws s depth spare h d e = h
takes_left code.Stop room ws s depth spare h d e = h

-- ---- places in a list of instructions

pub fit_inside : (room : Room) (ws : List ℕ) (is : List Instruction) (k : ℕ) (s : Shape) → Fits room ws is k s → k < length is
fit_inside room ws [] k s h = absurd h
fit_inside room ws (i ∷ is) zero s h = omega arith
fit_inside room ws (i ∷ is) (suc k) s h = let e = fit_inside room ws is k s h in omega arith

pub fit_passed : (room : Room) (ws : List ℕ) (is : List Instruction) (k : ℕ) (s : Shape) → Fits room ws is k s → Fits room ws (drop k is) 0 s
fit_passed room ws [] k s h = absurd h
fit_passed room ws (i ∷ is) zero s h = h
fit_passed room ws (i ∷ is) (suc k) s h = fit_passed room ws is k s h

pub exec_passed : (is : List Instruction) (k : ℕ) (m : Machine) → exec is k m ≡ exec (drop k is) 0 m
exec_passed [] zero m = refl
exec_passed [] (suc k) m = refl
exec_passed (i ∷ is) zero m = refl
exec_passed (i ∷ is) (suc k) m = exec_passed is k m

zero_more : (k : ℕ) → k ≡ 0 + k
zero_more k = omega arith

suc_more : (n k : ℕ) → suc (n + k) ≡ suc n + k
suc_more n k = omega arith

pub drop_both : {A : Type 0} (xs : List A) (n k : ℕ) → drop k (drop n xs) ≡ drop (n + k) xs
drop_both {A} [] zero k = ap (λ (j : ℕ). drop {A = A} j []) (zero_more k)
drop_both {A} [] (suc n) k = drop-nil {A = A} k ∙ sym (drop-nil {A = A} (suc n + k))
drop_both {A} (x ∷ xs) zero k = ap (λ (j : ℕ). drop j (x ∷ xs)) (zero_more k)
drop_both {A} (x ∷ xs) (suc n) k = drop_both xs n k ∙ ap (λ (j : ℕ). drop j (x ∷ xs)) (suc_more n k)

-- ---- the number of stores

pub stores_sum : (i : Instruction) (n : ℕ) → stores_after i n ≡ stores_after i 0 + n
stores_sum (code.Constant ds) n = omega arith
stores_sum (code.Signal sig) n = omega arith
stores_sum (code.Word words w) n = omega arith
stores_sum (code.Select range w) n = omega arith
stores_sum (code.Unary op) n = omega arith
stores_sum (code.Arith op) n = omega arith
stores_sum (code.Compare op) n = omega arith
stores_sum (code.Logic op) n = omega arith
stores_sum (code.Reduce op) n = omega arith
stores_sum (code.Shift op) n = omega arith
stores_sum code.Choose n = omega arith
stores_sum code.Concat n = omega arith
stores_sum (code.Repeat n') n = omega arith
stores_sum (code.Resize w) n = omega arith
stores_sum (code.Part low width) n = omega arith
stores_sum code.Discard n = omega arith
stores_sum (code.Unless n') n = omega arith
stores_sum (code.Skip n') n = omega arith
stores_sum (code.Match kind n') n = omega arith
stores_sum (code.Store place how) n = omega arith
stores_sum code.WriteNoted n = omega arith
stores_sum code.Stop n = omega arith

pub stores_few : (i : Instruction) (room : Room) (ws : List ℕ) (s : Shape) → Takes i room ws s → s.stores ≤ room.stores → stores_after i s.stores ≤ room.stores
stores_few (code.Constant ds) room ws s h k = k
stores_few (code.Signal sig) room ws s h k = k
stores_few (code.Word words w) room ws s h k = k
stores_few (code.Select range w) room ws s h k = k
stores_few (code.Unary op) room ws s h k = k
stores_few (code.Arith op) room ws s h k = k
stores_few (code.Compare op) room ws s h k = k
stores_few (code.Logic op) room ws s h k = k
stores_few (code.Reduce op) room ws s h k = k
stores_few (code.Shift op) room ws s h k = k
stores_few code.Choose room ws s h k = k
stores_few code.Concat room ws s h k = k
stores_few (code.Repeat n') room ws s h k = k
stores_few (code.Resize w) room ws s h k = k
stores_few (code.Part low width) room ws s h k = k
stores_few code.Discard room ws s h k = k
stores_few (code.Unless n') room ws s h k = k
stores_few (code.Skip n') room ws s h k = k
stores_few (code.Match kind n') room ws s h k = k
stores_few (code.Store place how) room ws s h k = omega arith
stores_few code.WriteNoted room ws s h k = k
stores_few code.Stop room ws s h k = k

-- ---- one step at a place of a list of instructions

pub here_fit : (room : Room) (ws : List ℕ) (is : List Instruction) (at : ℕ) (s : Shape) → Fits room ws (drop at is) 0 s → at < length is
here_fit room ws is at s h = let e = fit_inside room ws (drop at is) 0 s h in let f = length-drop at is in omega arith

pub step_fit : (room : Room) (ws : List ℕ) (is : List Instruction) (at : ℕ) (i : Instruction) (s : Shape) → at < length is → i ≡ get_or is at i → Fits room ws (drop at is) 0 s
    → Takes i room ws s × Follows i (Fits room ws (drop (at + 1) is)) (leaves i ws s)
step_fit room ws is at i s h e k = rw (drop_more is at i h, ← e) at k

pub next_fit : (room : Room) (ws : List ℕ) (is : List Instruction) (at : ℕ) (i : Instruction) (s : Shape) (m : Machine) (n : ℕ) → Follows i (Fits room ws (drop (at + 1) is)) s
    → goes_to i m ≡ Some n → Fits room ws (drop (at + (1 + n)) is) 0 s
next_fit room ws is at i s m n h e =
    let f = fit_passed room ws (drop (at + 1) is) n s (follows_so i (Fits room ws (drop (at + 1) is)) s m n h e) in
    let k : at + 1 + n ≡ at + (1 + n) = omega arith in
    subst (λ (xs : List Instruction). Fits room ws xs 0 s) (drop_both is (at + 1) n ∙ ap (λ (j : ℕ). drop j is) k) f

pub next_exec : (is : List Instruction) (at : ℕ) (i : Instruction) (m : Machine) (n : ℕ) → at < length is → i ≡ get_or is at i → goes_to i m ≡ Some n
    → exec (drop at is) 0 m ≡ exec (drop (at + (1 + n)) is) 0 (effect i m)
next_exec is at i m n h e f =
    let k : at + 1 + n ≡ at + (1 + n) = omega arith in
    let first : exec (drop at is) 0 m ≡ goes_on i (exec (drop (at + 1) is)) m = rw (drop_more is at i h, ← e) refl in
    first ∙ (goes_so i (exec (drop (at + 1) is)) m
    ∙ (ap (λ (o : Option ℕ). goes_by o (exec (drop (at + 1) is)) (effect i m)) f
    ∙ (exec_passed (drop (at + 1) is) n (effect i m) ∙ ap (λ (xs : List Instruction). exec xs 0 (effect i m)) (drop_both is (at + 1) n ∙ ap (λ (j : ℕ). drop j is) k))))

pub last_exec : (is : List Instruction) (at : ℕ) (i : Instruction) (m : Machine) → at < length is → i ≡ get_or is at i → goes_to i m ≡ None → exec (drop at is) 0 m ≡ effect i m
last_exec is at i m h e f =
    let first : exec (drop at is) 0 m ≡ goes_on i (exec (drop (at + 1) is)) m = rw (drop_more is at i h, ← e) refl in
    first ∙ (goes_so i (exec (drop (at + 1) is)) m ∙ ap (λ (o : Option ℕ). goes_by o (exec (drop (at + 1) is)) (effect i m)) f)

-- ---- updates that were there before stay in front

abbrev pub behind_run : List Update → Run → Run
behind_run us r = record { signals = r.signals; hidden = r.hidden; updates = us ++ r.updates }

abbrev pub behind : List Update → Machine → Machine
behind us m = record { stack = m.stack; run = behind_run us m.run; noted = m.noted }

over_behind : (us : List Update) (o : Option (List Digit)) (u : Update) (r : Run) → written_over o u (behind_run us r) ≡ behind_run us (written_over o u r)
over_behind us None u r = refl
over_behind us (Some ds) u r = refl

blocking_behind : (us vs : List Update) (r : Run) → blocking vs (behind_run us r) ≡ behind_run us (blocking vs r)
blocking_behind us [] r = refl
blocking_behind us (v ∷ vs) r = ap (blocking vs) (over_behind us (hidden_in r.hidden v.sig.0) v r) ∙ blocking_behind us vs (written v r)

stored_behind : (us vs : List Update) (how : Mode) (st : List (List Digit)) (m : Machine) → stored how vs st (behind us m) ≡ behind us (stored how vs st m)
stored_behind us vs mode.Now st m = ap (λ (r : Run). record { stack = st; run = r; noted = m.noted }) (blocking_behind us vs m.run)
stored_behind us vs mode.Noted st m = refl
stored_behind us vs (mode.Later n) st m =
    ap (λ (xs : List Update). record { stack = st; run = record { signals = m.run.signals; hidden = m.run.hidden; updates = xs }; noted = m.noted })
    (append_assoc us m.run.updates (map (after n) vs))

step_behind : (us : List Update) (i : Instruction) (rest : ℕ → Machine → Machine) (m : Machine) → ((k : ℕ) (x : Machine) → rest k (behind us x) ≡ behind us (rest k x))
    → goes_on i rest (behind us m) ≡ behind us (goes_on i rest m)
step_behind us (code.Constant ds) rest m h = h (passes (code.Constant ds) m) (effect (code.Constant ds) m)
step_behind us (code.Signal sig) rest m h = h (passes (code.Signal sig) m) (effect (code.Signal sig) m)
step_behind us (code.Word words w) rest m h = h (passes (code.Word words w) m) (effect (code.Word words w) m)
step_behind us (code.Select range w) rest m h = h (passes (code.Select range w) m) (effect (code.Select range w) m)
step_behind us (code.Unary op) rest m h = h (passes (code.Unary op) m) (effect (code.Unary op) m)
step_behind us (code.Arith op) rest m h = h (passes (code.Arith op) m) (effect (code.Arith op) m)
step_behind us (code.Compare op) rest m h = h (passes (code.Compare op) m) (effect (code.Compare op) m)
step_behind us (code.Logic op) rest m h = h (passes (code.Logic op) m) (effect (code.Logic op) m)
step_behind us (code.Reduce op) rest m h = h (passes (code.Reduce op) m) (effect (code.Reduce op) m)
step_behind us (code.Shift op) rest m h = h (passes (code.Shift op) m) (effect (code.Shift op) m)
step_behind us code.Choose rest m h = h (passes code.Choose m) (effect code.Choose m)
step_behind us code.Concat rest m h = h (passes code.Concat m) (effect code.Concat m)
step_behind us (code.Repeat n') rest m h = h (passes (code.Repeat n') m) (effect (code.Repeat n') m)
step_behind us (code.Resize w) rest m h = h (passes (code.Resize w) m) (effect (code.Resize w) m)
step_behind us (code.Part low width) rest m h = h (passes (code.Part low width) m) (effect (code.Part low width) m)
step_behind us code.Discard rest m h = h (passes code.Discard m) (effect code.Discard m)
step_behind us (code.Unless n') rest m h = h (passes (code.Unless n') m) (effect (code.Unless n') m)
step_behind us (code.Skip n') rest m h = h (passes (code.Skip n') m) (effect (code.Skip n') m)
step_behind us (code.Match kind n') rest m h = h (passes (code.Match kind n') m) (effect (code.Match kind n') m)
step_behind us (code.Store place how) rest m h = ap (rest 0) (stored_behind us (updates_to place m.stack) how (below_store place m.stack) m) ∙ h 0 (effect (code.Store place how) m)
step_behind us code.WriteNoted rest m h = ap (λ (r : Run). rest 0 (record { stack = m.stack; run = r; noted = [] })) (blocking_behind us m.noted m.run) ∙ h 0 (effect code.WriteNoted m)
step_behind us code.Stop rest m h = refl

pub exec_behind : (us : List Update) (is : List Instruction) (k : ℕ) (m : Machine) → exec is k (behind us m) ≡ behind us (exec is k m)
exec_behind us [] k m = refl
exec_behind us (i ∷ is) (suc k) m = exec_behind us is k m
exec_behind us (i ∷ is) zero m = step_behind us i (exec is) m (exec_behind us is)

-- what a run that begins with an empty stack and some updates leaves
pub has_run : (is : List Instruction) (later ups later_after : List Update) (m shown : Map) (h hidden : Hidden) (st left : List (List Digit)) (ns noted : List Update)
    → ◌≡◌ {A = Machine} (record { stack = left; run = record { signals = shown; hidden = hidden; updates = later_after }; noted = noted })
    (exec is 0 (record { stack = st; run = record { signals = m; hidden = h; updates = ups }; noted = ns }))
    → st ≡ [] → ns ≡ [] → ups ≡ later → HasRun (exec is 0 (begun m h)).run later shown hidden later_after
has_run is later ups later_after m shown h hidden st left ns noted e s n u =
    let first : ◌≡◌ {A = Machine} (record { stack = st; run = record { signals = m; hidden = h; updates = ups }; noted = ns }) (behind later (begun m h)) =
    rw (s, n, u, append-nil) refl in
    let all = e ∙ (ap (exec is 0) first ∙ exec_behind later is 0 (begun m h)) in
    record {
      shown_are = ap (λ (x : Machine). x.run.signals) all;
      hidden_are = ap (λ (x : Machine). x.run.hidden) all;
      appended = ap (λ (x : Machine). x.run.updates) all;
    }
