-- Keys of phases that fire, and changes that are told.
use Rattle.std.proofs.Common.{◌≡◌, ℕ, Bool, true, false, List, [], Some, None, refl}
use denote.Enum.Bare.{sameb}
use Rattle.gpi.specs.contracts.types.Region.{the_type}
use Rattle.gpi.specs.declared.types.Key.{Key}
use Rattle.gpi.specs.declared.types.Key.TheVariants as key
use Rattle.gpi.specs.declared.types.Region.{Region}
use Rattle.gpi.specs.declared.types.Region.TheVariants as region
use Rattle.gpi.specs.State.{is_end}
use Rattle.gpi.specs.Events.{settle_case, end_case}
use Rattle.kernel_base.specs.Steps.{Answered}
use Rattle.callback_book.specs.declared.book.Book.{Book}
use Rattle.callback_book.specs.Books.{flag_of, if_flag, signals_of, Fires}
use Rattle.event_queue.specs.Queues.{held}
use Rattle.fast_kernel.specs.declared.simulation.Simulation.{Simulation}
use Rattle.fast_kernel.specs.Kernel.{content_of, IsLoaded, Stays}
use Rattle.fast_kernel.proofs.Loaded.{time_stays}

pub book_stays : (s : Simulation) (r : Region) (book : Book) → IsLoaded s → signals_of book ≡ signals_of s.book → Stays s (record s { region = r; book = book })
book_stays s r book h b = time_stays s s.queue s.time r book h refl h.queued b

pub taken_stays : (s : Simulation) (r : Region) (book : Book) (k : Key) → IsLoaded s → ((ts : List ℕ) → Fires (if_flag k s.book) ts s.book ts book) → Stays s (record s { region = r; book = book })
taken_stays s r book k h f = let g = f [] in book_stays s r book h g.signals

pub settles : (s : Simulation) (book : Book) → flag_of s.book key.ReadWrite ≡ true → is_end s.region ≡ false → ((ts : List ℕ) → Fires (if_flag key.ReadWrite s.book) ts s.book ts book)
    → (let c = content_of s in Answered c (settle_case c.state c.keys) (Some (record { change = None; fired = record { first = Some key.ReadWrite; second = None } }))
    (content_of (record s { region = region.Settle; book = book })))
settles s book h e f =
    let g = rw h at (f (held s.queue).times) in
    rw (h, e) (refl, record { procs = refl; nets = refl; state = refl; keys = g.keys; counts = g.counts })

pub ends : (s : Simulation) (book : Book) → flag_of s.book key.ReadOnly ≡ true → is_end s.region ≡ false → ((ts : List ℕ) → Fires (if_flag key.ReadOnly s.book) ts s.book ts book)
    → (let c = content_of s in Answered c (end_case c.state c.keys) (Some (record { change = None; fired = record { first = Some key.ReadOnly; second = None } }))
    (content_of (record s { region = region.End; book = book })))
ends s book h e f =
    let g = rw h at (f (held s.queue).times) in
    rw (h, e) (refl, record { procs = refl; nets = refl; state = refl; keys = g.keys; counts = g.counts })

pub not_end : (r : Region) (b : Bool) → b ≡ sameb the_type r region.End → b ≡ false → is_end r ≡ false
not_end region.Begin b e h = refl
not_end region.Active b e h = refl
not_end region.Settle b e h = refl
not_end region.End b e h = absurd (let t : b ≡ true = e in cc)
