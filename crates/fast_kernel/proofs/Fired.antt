-- Keys that fire, and times that are registered.
use Rattle.std.proofs.Common.{◌≡◌, ◌∙◌, ◌++◌, ◌∷◌, ℕ, Bool, false, List, [], set, get_or, Option, Some, None, IsTrue, refl, sym, ap, subst}
use Rattle.four_value.specs.declared.Digit.{Digit}
use Rattle.four_value.specs.Vector.{same_digits}
use Rattle.gpi.specs.declared.types.Fired.{Fired}
use Rattle.gpi.specs.declared.types.Key.{Key}
use Rattle.gpi.specs.declared.types.Key.TheVariants as key
use Rattle.gpi.specs.declared.types.Moved.{Moved}
use Rattle.gpi.specs.declared.types.Region.TheVariants as region
use Rattle.gpi.specs.declared.types.Report.{Report}
use Rattle.gpi.specs.declared.types.SigId.{SigId}
use Rattle.gpi.specs.Keys.{has, holds, fired_of, raised, IsWith, IsWithout}
use Rattle.gpi.specs.State.{woken, arriving, waiting_on}
use Rattle.gpi.specs.Events.{show, edge_keys, if_has, value_at, time_case}
use Rattle.gpi.specs.Content.{Registers, Removes}
use Rattle.kernel_base.specs.Steps.{TellsIt, Answered}
use Rattle.kernel_base.specs.TimeSets.{IsWithoutTime}
use Rattle.kernel_base.proofs.Told.{time_case_is}
use Rattle.callback_book.specs.declared.book.Book.{Book}
use Rattle.callback_book.specs.Books.{keys_with, counts_of, Fires, AddsTime, DropsTime}
use Rattle.event_queue.specs.declared.queue.Queue.{Queue}
use Rattle.event_queue.specs.Queues.{Held, held}
use Rattle.fast_kernel.specs.declared.simulation.Simulation.{Simulation}
use Rattle.fast_kernel.specs.Kernel.{content_of, procs_in}
use Rattle.fast_kernel.specs.Times.{IsNewTime, IsOldTime}

-- ---- a signal shows something else

abbrev changed : SigId → List Digit → List Digit → Report
changed sig before after = record { sig = sig; before = before; after = after }

pub show_tells : (s : Simulation) (sig : SigId) (before bits : List Digit) (same : Bool) (shown : List (List Digit)) (queue : Queue) (book : Book) (fired : Fired)
    → before ≡ get_or s.shown.items sig.0 [] → same ≡ same_digits before bits → same ≡ false → shown ≡ set s.shown.items sig.0 bits
    → held queue ≡ record (held s.queue) { active = (held s.queue).active ++ woken 0 (procs_in s) (changed sig before bits ∷ []) (held s.queue).active }
    → fired ≡ fired_of (edge_keys (changed sig before bits) (keys_with (held s.queue).times s.book))
    → Fires (edge_keys (changed sig before bits) (keys_with (held s.queue).times s.book)) (held s.queue).times s.book (held s.queue).times book
    → (let c = content_of s in TellsIt c (show c.procs c.state c.keys sig bits) (record { change = Some (record { sig = sig; bits = bits }); fired = fired })
    (record c {
      state = record c.state { signals = shown; active = (held queue).active; due = (held queue).due; later = (held queue).later; delayed = (held queue).delayed };
      keys = keys_with (held queue).times book;
      counts = counts_of book;
    }))
show_tells s sig before bits same shown queue book fired b d f sh q e h =
    let c = content_of s in
    let t : same_digits (value_at c.state sig) bits ≡ false = rw (← b, ← d) f in
    let g : changed sig (value_at c.state sig) bits ≡ changed sig before bits = rw b refl in
    let times : (held queue).times ≡ (held s.queue).times = ap (λ (x : Held). x.times) q in
    rw (t, ← b) (record {
      tells = rw e refl;
      does = record {
        procs = refl;
        nets = refl;
        state = ap (λ (x : Held). record c.state { signals = shown; active = x.active; due = x.due; later = x.later; delayed = x.delayed }) q ∙ rw sh refl;
        keys = subst (λ (ts : List ℕ). IsWithout (edge_keys (changed sig before bits) c.keys) c.keys (keys_with ts book)) (sym times) h.keys;
        counts = h.counts;
      };
    })

-- ---- a time step begins

pub steps : (s : Simulation) (t : ℕ) (next : Option ℕ) (q queue : Queue) (book : Book) (there : Bool) (fired : Fired) → next ≡ Some t
    → there ≡ holds t (held s.queue).times → IsWithoutTime t (held s.queue).times (held q).times → held q ≡ record (held s.queue) { times = (held q).times }
    → held queue ≡ record (held q) { later = arriving t (held q).delayed; delayed = waiting_on t (held q).delayed }
    → ((ts : List ℕ) → there ≡ holds t ts → fired ≡ fired_of (if_has key.NextStep (keys_with ts s.book) ++ if_has (key.At t) (keys_with ts s.book)))
    → ((ts us : List ℕ) → there ≡ holds t ts → IsWithoutTime t ts us
    → Fires (if_has key.NextStep (keys_with ts s.book) ++ if_has (key.At t) (keys_with ts s.book)) ts s.book us book)
    → (let c = content_of s in Answered c (time_case c.state c.keys next) (Some (record { change = None; fired = fired }))
    (content_of (record s { queue = queue; time = t; region = region.Begin; book = book })))
steps s t next q queue book there fired n h w e a f g =
    let c = content_of s in
    let ts = (held s.queue).times in
    let delayed : (held q).delayed ≡ (held s.queue).delayed = ap (λ (x : Held). x.delayed) e in
    let times : (held queue).times ≡ (held q).times = ap (λ (x : Held). x.times) a in
    let all : held queue ≡ record (held s.queue) { later = arriving t (held s.queue).delayed; delayed = waiting_on t (held s.queue).delayed; times = (held q).times } =
    a ∙ ap (λ (x : Held). record x { later = arriving t x.delayed; delayed = waiting_on t x.delayed }) e in
    let k = g ts (held q).times h w in
    time_case_is c (content_of (record s { queue = queue; time = t; region = region.Begin; book = book })) t next (record { change = None; fired = fired })
    (if_has key.NextStep (keys_with ts s.book) ++ if_has (key.At t) (keys_with ts s.book)) n refl (ap (λ (x : Fired). let m : Moved = record { change = None; fired = x } in m) (f ts h)) refl refl
    (ap (λ (x : Held). record c.state { active = x.active; due = x.due; later = x.later; delayed = x.delayed; time = t; region = region.Begin }) all)
    (subst (λ (us : List ℕ). IsWithout (if_has key.NextStep (keys_with ts s.book) ++ if_has (key.At t) (keys_with ts s.book)) (keys_with ts s.book) (keys_with us book)) (sym times) k.keys)
    k.counts

-- ---- a key is registered, or isn't any more

pub new_time : (k : Key) (ts : List ℕ) (b : Book) → has k (keys_with ts b) ≡ false → IsNewTime k ts
new_time (key.At t) ts b h = h
new_time (key.Rise s) ts b h = tt
new_time (key.Fall s) ts b h = tt
new_time (key.Change s) ts b h = tt
new_time key.ReadWrite ts b h = tt
new_time key.ReadOnly ts b h = tt
new_time key.NextStep ts b h = tt

pub old_time : (k : Key) (ts : List ℕ) (b : Book) → IsTrue (has k (keys_with ts b)) → IsOldTime k ts
old_time (key.At t) ts b h = h
old_time (key.Rise s) ts b h = tt
old_time (key.Fall s) ts b h = tt
old_time (key.Change s) ts b h = tt
old_time key.ReadWrite ts b h = tt
old_time key.ReadOnly ts b h = tt
old_time key.NextStep ts b h = tt

-- the state doesn't tell the times
pub same_state : (s : Simulation) (q : Queue) → held q ≡ record (held s.queue) { times = (held q).times }
    → (content_of (record s { queue = q })).state ≡ (content_of s).state
same_state s q e = ap (λ (x : Held). record (content_of s).state { active = x.active; due = x.due; later = x.later; delayed = x.delayed }) e

pub registers : (s : Simulation) (k : Key) (q : Queue) (book : Book) → held q ≡ record (held s.queue) { times = (held q).times } → AddsTime k (held s.queue).times (held q).times
    → ((ts us : List ℕ) → AddsTime k ts us → IsWith k (keys_with ts s.book) (keys_with us book))
    → counts_of book ≡ record (counts_of s.book) { primed = raised (counts_of s.book).primed } → Registers (content_of s) k (content_of (record s { queue = q; book = book }))
registers s k q book e a f n = record {
  procs = refl;
  nets = refl;
  state = same_state s q e;
  keys = f (held s.queue).times (held q).times a;
  counts = n;
}

pub removes : (s : Simulation) (k : Key) (q : Queue) (book : Book) → held q ≡ record (held s.queue) { times = (held q).times } → DropsTime k (held s.queue).times (held q).times
    → ((ts us : List ℕ) → DropsTime k ts us → IsWithout (k ∷ []) (keys_with ts s.book) (keys_with us book))
    → counts_of book ≡ record (counts_of s.book) { removed = raised (counts_of s.book).removed } → Removes (content_of s) k (content_of (record s { queue = q; book = book }))
removes s k q book e a f n = record {
  procs = refl;
  nets = refl;
  state = same_state s q e;
  keys = f (held s.queue).times (held q).times a;
  counts = n;
}

-- the queue holds what it held
pub same_content : (s : Simulation) (q : Queue) → held q ≡ held s.queue → content_of (record s { queue = q }) ≡ content_of s
same_content s q e = ap (λ (x : Held). record (content_of s) {
  state = record (content_of s).state { active = x.active; due = x.due; later = x.later; delayed = x.delayed };
  keys = keys_with x.times s.book;
}) e
