use Rattle.std.proofs.Common.{◌<◌, ◌++◌, length, refl, sym, ap, ◌∙◌, arith, append-nil}
use Rattle.std.proofs.lemmas.List.{length-map}
use Rattle.await_tree.specs.Fire.{awaits}
use Rattle.await_tree.specs.declared.cause.Awaited.TheVariants as awaited
use Rattle.await_tree.specs.WaitList.Waiting.{Waiting, Granted}
use Rattle.plain_waits.specs.Kept.{names_of, waiting_in, waiting_of}
use Rattle.await_tree.proofs.WaitListLemmas.Rekeys.{fits_unfired, rekeyed_none}
use Rattle.plain_waits.proofs.Walks.{any_at, granted_here, granted_none, none_there}
use Rattle.plain_waits.proofs.awaits.WaitListAwaits.grant.Goals as goal

pub returns-then-at-len-clause-answer : goal.returns-then-at-len-clause-answer
returns-then-at-len-clause-answer g c = sym (none_there (λ (w : Waiting). awaits (awaited.Lock c.args.lock) w.tree) (waiting_in c.args.self.now) c.first_on-at.result (omega (arith, c.len.ensures, c.args.self.now.waiting.ok.0, length-map c.args.self.now.waiting.items waiting_of)) c.first_on-at.ensures.before)

pub returns-then-at-len-clause-waiting : goal.returns-then-at-len-clause-waiting
returns-then-at-len-clause-waiting g c = sym (ap (λ (x : Granted). x.waiting) (granted_none c.args.lock (waiting_in c.args.self.now) (none_there (λ (w : Waiting). awaits (awaited.Lock c.args.lock) w.tree) (waiting_in c.args.self.now) c.first_on-at.result (omega (arith, c.len.ensures, c.args.self.now.waiting.ok.0, length-map c.args.self.now.waiting.items waiting_of)) c.first_on-at.ensures.before)))

pub returns-then-at-len-clause-ready : goal.returns-then-at-len-clause-ready
returns-then-at-len-clause-ready g c = sym (ap (λ (x : Granted). c.args.ready.now.entries ++ x.entries) (granted_none c.args.lock (waiting_in c.args.self.now) (none_there (λ (w : Waiting). awaits (awaited.Lock c.args.lock) w.tree) (waiting_in c.args.self.now) c.first_on-at.result (omega (arith, c.len.ensures, c.args.self.now.waiting.ok.0, length-map c.args.self.now.waiting.items waiting_of)) c.first_on-at.ensures.before)) ∙ append-nil c.args.ready.now.entries)

pub returns-then-at-len-clause-keys : goal.returns-then-at-len-clause-keys
returns-then-at-len-clause-keys g c = rekeyed_none (g.K.Gpi.content c.args.kernel.now) (names_of c.args.self.now) (names_of c.args.self.now) c.requires.keys.within

pub returns-then-at-len-clause-held : goal.returns-then-at-len-clause-held
returns-then-at-len-clause-held g c = λ k. refl

pub grant_at-requires-clause-at : goal.grant_at-requires-clause-at
grant_at-requires-clause-at g c = omega (arith, c.len.ensures, c.args.self.now.waiting.ok.0, c.first_on-at.ensures.inside, c.if-at-len.false)

pub grant_at-requires-clause-room : goal.grant_at-requires-clause-room
grant_at-requires-clause-room g c = (let l : c.first_on-at.result < length c.args.self.now.waiting.items = omega (arith, c.len.ensures, c.args.self.now.waiting.ok.0, c.first_on-at.ensures.inside, c.if-at-len.false) in
    omega (arith, c.requires.room, length-map c.args.self.now.waiting.items waiting_of))

pub grant_at-requires-clause-fits : goal.grant_at-requires-clause-fits
grant_at-requires-clause-fits g c = fits_unfired (g.K.Gpi.content c.args.kernel.now) c.args.self.now.held.items (names_of c.args.self.now) c.requires.keys

pub returns-clause-answer : goal.returns-clause-answer
returns-clause-answer g c = sym (any_at (λ (w : Waiting). awaits (awaited.Lock c.args.lock) w.tree) (waiting_in c.args.self.now) c.first_on-at.result (c.first_on-at.ensures.there (omega (arith, c.len.ensures, c.args.self.now.waiting.ok.0, c.first_on-at.ensures.inside, c.if-at-len.false))))

pub returns-clause-waiting : goal.returns-clause-waiting
returns-clause-waiting g c = c.grant_at.ensures.waiting ∙ sym (ap (λ (x : Granted). x.waiting) (granted_here c.args.lock (waiting_in c.args.self.now) c.first_on-at.result c.first_on-at.ensures.before (c.first_on-at.ensures.there (omega (arith, c.len.ensures, c.args.self.now.waiting.ok.0, c.first_on-at.ensures.inside, c.if-at-len.false)))))

pub returns-clause-ready : goal.returns-clause-ready
returns-clause-ready g c = c.grant_at.ensures.ready ∙ sym (ap (λ (x : Granted). c.args.ready.now.entries ++ x.entries) (granted_here c.args.lock (waiting_in c.args.self.now) c.first_on-at.result c.first_on-at.ensures.before (c.first_on-at.ensures.there (omega (arith, c.len.ensures, c.args.self.now.waiting.ok.0, c.first_on-at.ensures.inside, c.if-at-len.false)))))

pub returns-clause-held : goal.returns-clause-held
returns-clause-held g c = rw c.grant_at.ensures.held (λ k. refl)

pub returns-clause-keys : goal.returns-clause-keys
returns-clause-keys g c = c.grant_at.ensures.keys.keys
