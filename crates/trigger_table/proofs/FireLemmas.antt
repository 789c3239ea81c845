-- Keys that fired are served in order, and a lock is handed on.
use Rattle.std.proofs.Common.{IfSome, IfNone, ◌≡◌, ℕ, ◌+◌, ◌≤◌, Bool, true, false, not, ◌||◌, ◌&&◌, cond, is_some, List, [], ◌∷◌, ◌++◌, length, filter, take, Option, Some, None, refl, sym, ap, ◌∙◌, subst, arith, append-nil, length-append}
use Rattle.std.proofs.lemmas.Bool.{cond-false}
use Rattle.gpi.specs.Keys.{among, same_key}
use Rattle.gpi.specs.declared.types.Key.{Key}
use Rattle.await_tree.specs.Fire.{fire}
use Rattle.await_tree.specs.Steps.{step_of}
use Rattle.await_tree.specs.Tree.{Tree}
use Rattle.await_tree.specs.WaitList.Edges.{is_edge}
use Rattle.await_tree.specs.WaitList.Keys.{AreAlike, without, without_all}
use Rattle.await_tree.specs.WaitList.Waiting.{Granted, Waiting, all_waiting, all_woken, entry_of, granted, is_wanted, keys_of, left_of, still_waiting, wants, woken}
use Rattle.await_tree.specs.declared.cause.Awaited.TheVariants as awaited
use Rattle.await_tree.specs.declared.cause.Cause.{Cause}
use Rattle.await_tree.specs.declared.cause.Cause.TheVariants as cause
use Rattle.await_tree.specs.declared.cause.Step.{Step}
use Rattle.await_tree.specs.declared.cause.Step.TheVariants.{Still, Done}
use Rattle.await_tree.specs.declared.wait_list.ready.Entry.{Entry}
use Rattle.py_value.specs.declared.trigger.LockNo.{LockNo}
use Rattle.py_value.specs.declared.trigger.TaskNo.{TaskNo}
use Rattle.await_tree.proofs.WaitListLemmas.Edges.{AreEdged, all_on, shown}
use Rattle.await_tree.proofs.WaitListLemmas.Members.{among_append, among_without, or_no, without_all_gone}
use Rattle.trigger_table.specs.Entries.{HasCause}
use Rattle.trigger_table.specs.Keys.{record_keys, runner_keys}
use Rattle.trigger_table.specs.State.{Row, State}
use Rattle.trigger_table.specs.Tied.{AreTied, IsKept, entry_list, waiting_in}
use Rattle.trigger_table.specs.Work.{first_wanting, fired_work}
use Rattle.trigger_table.specs.declared.entries.CauseRecord.{CauseRecord}
use Rattle.trigger_table.proofs.GoneLemmas.{key_named}
use Rattle.trigger_table.proofs.HoldLemmas.{not_named}
use Rattle.trigger_table.proofs.ServeLemmas.{AreOff}
use Rattle.trigger_table.proofs.TableLemmas.{named_records}
use Rattle.trigger_table.proofs.TieLemmas.{tied_of}

abbrev Slots : Type 0
Slots = List (Option CauseRecord)

-- ---- lists of keys

pub alike_without_all : (gone xs ys : List Key) → AreAlike xs ys → AreAlike (without_all gone xs) (without_all gone ys)
alike_without_all [] xs ys same = same
alike_without_all (key ∷ gone) xs ys same = alike_without_all gone (without key xs) (without key ys) (λ k. among_without k key xs ∙ ap (λ (b : Bool). b && not (same_key key k)) (same k) ∙ sym (among_without k key ys))

-- ---- how many there are

entry_count : (task : TaskNo) (t : Tree) (s : Step) → length (entry_of task s) + length (left_of task t s) ≡ 1
entry_count task t Still = refl
entry_count task t (Done given) = refl

still_count : (c : Cause) (ws : List Waiting) → length (woken c ws) + length (still_waiting c ws) ≡ length ws
still_count c [] = refl
still_count c (w ∷ ws) =
    omega (
      arith,
      still_count c ws,
      entry_count w.task (fire c w.tree) (step_of (fire c w.tree)),
      length-append (entry_of w.task (step_of (fire c w.tree))) (woken c ws),
      length-append (left_of w.task (fire c w.tree) (step_of (fire c w.tree))) (still_waiting c ws),
    )

all_count : (ks : List Key) (ws : List Waiting) → length (all_woken ks ws) + length (all_waiting ks ws) ≡ length ws
all_count [] ws = omega arith
all_count (k ∷ ks) ws =
    omega (arith, all_count ks (still_waiting (cause.Key k) ws), still_count (cause.Key k) ws, length-append (woken (cause.Key k) ws) (all_woken ks (still_waiting (cause.Key k) ws)))

pub served_room : (ks : List Key) (ws : List Waiting) (es fs : List Entry) (after : List Waiting) (room now : ℕ) → after ≡ all_waiting ks ws → fs ≡ es ++ all_woken ks ws → now ≡ room
    → length es + length ws ≤ room → length fs + length after ≤ now
served_room ks ws es fs after room now a f n r = omega (arith, ap length a, ap length f, length-append es (all_woken ks ws), all_count ks ws, n, r)

pub work_both : (xs ys : List Key) (ws : List Waiting) → fired_work (xs ++ ys) ws ≡ fired_work xs ws + fired_work ys (all_waiting xs ws)
work_both [] ys ws = omega arith
work_both (x ∷ xs) ys ws = omega (arith, work_both xs ys (still_waiting (cause.Key x) ws))

-- ---- a key that was served and is awaited still is an edge

edged : (causes : Slots) (rows : List Row) → AreTied causes rows → AreEdged (waiting_in rows)
edged causes [] h = tt
edged causes (row ∷ rows) h =
    subst AreEdged (sym (ap (λ (e : Option Waiting). entry_list e ++ waiting_in rows) h.0.entry)) (shown h.0.waiting.tree h.0.tree.edges, edged causes rows h.1)

pub served_edge : (fired : List Key) (s0 s1 : State) (held : List Key) → IsKept s0 → IsKept s1 → waiting_in s1.rows ≡ all_waiting fired (waiting_in s0.rows) → AreAlike (runner_keys s1.causes) (without_all fired held)
    → (k : Key) → among k fired ≡ true → among k (record_keys s1.causes) ≡ true → is_edge k ≡ true
served_edge fired s0 s1 held kept0 kept1 waiting runner k is named_now =
    all_on fired (waiting_in s0.rows) k (edged s0.causes s0.rows (tied_of s0 kept0)) is
    (sym (ap (λ (ws : List Waiting). among k (keys_of ws)) waiting)
    ∙ sym (among_append k (keys_of (waiting_in s1.rows)) (runner_keys s1.causes)
    ∙ ap (λ (b : Bool). among k (keys_of (waiting_in s1.rows)) || b) (runner k ∙ without_all_gone k fired held is)
    ∙ or_no (among k (keys_of (waiting_in s1.rows))))
    ∙ named_records s1 kept1 k ∙ named_now)

-- whether a key has a record
pub found_named : (key : Key) (slots : Slots) (res : Option ℕ) → IfSome res (λ (n : ℕ). HasCause slots n (awaited.Key key)) → IfNone res ((n : ℕ) → ¬ HasCause slots n (awaited.Key key)) → is_some res ≡ among key (record_keys slots)
found_named key slots None some none = sym (not_named key slots none)
found_named key slots (Some n) some none = sym (key_named key slots n some)

-- none but an edge has one
pub unnamed : (key : Key) (names : List Key) → (among key names ≡ true → is_edge key ≡ true) → is_edge key ≡ false → false ≡ among key names
unnamed key names edges other = go (among key names) edges
  where
    go : (b : Bool) → (b ≡ true → is_edge key ≡ true) → false ≡ b
    go true has = let z : true ≡ false = sym (has refl) ∙ other in absurd (cc)
    go false has = refl

-- ---- a lock

pub record Unwanted (lock : LockNo) (ws : List Waiting) : Type 0 where
  pub none : is_wanted lock ws ≡ false
  pub work : first_wanting lock ws ≡ []
  pub passed : (more : List Waiting) → granted lock (ws ++ more) ≡ record { entries = (granted lock more).entries; waiting = ws ++ (granted lock more).waiting }
  pub later : (more : List Waiting) → first_wanting lock (ws ++ more) ≡ first_wanting lock more
  pub wanted : (more : List Waiting) → is_wanted lock (ws ++ more) ≡ is_wanted lock more

pub unwanted : (lock : LockNo) (ws : List Waiting) → AreOff (awaited.Lock lock) ws → Unwanted lock ws
unwanted lock [] off = record { none = refl; work = refl; passed = λ more. refl; later = λ more. refl; wanted = λ more. refl }
unwanted lock (w ∷ ws) off =
    let rest = unwanted lock ws off.1 in
    record {
      none = ap (λ (b : Bool). b || is_wanted lock ws) off.0 ∙ rest.none;
      work = ap (λ (b : Bool). take 1 (cond b (w ∷ filter (λ (v : Waiting). wants lock v.tree) ws) (filter (λ (v : Waiting). wants lock v.tree) ws))) off.0 ∙ rest.work;
      passed = λ more.
          cond-false (wants lock w.tree) _ _ off.0
          ∙ ap (λ (g : Granted). let x : Granted = record { entries = g.entries; waiting = w ∷ g.waiting } in x) (rest.passed more);
      later = λ more.
          ap (λ (b : Bool). take 1 (cond b (w ∷ filter (λ (v : Waiting). wants lock v.tree) (ws ++ more)) (filter (λ (v : Waiting). wants lock v.tree) (ws ++ more)))) off.0 ∙ rest.later more;
      wanted = λ more. ap (λ (b : Bool). b || is_wanted lock (ws ++ more)) off.0 ∙ rest.wanted more;
    }

-- nothing becomes of a lock that nobody wants
pub nothing_granted : (lock : LockNo) (ws : List Waiting) → Unwanted lock ws → granted lock ws ≡ record { entries = []; waiting = ws }
nothing_granted lock ws u =
    ap (granted lock) (sym (append-nil ws)) ∙ u.passed []
    ∙ ap (λ (vs : List Waiting). let x : Granted = record { entries = []; waiting = vs } in x) (append-nil ws)
