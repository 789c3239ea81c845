use Rattle.std.proofs.Common.{ℕ, take, refl, ap, ◌∙◌}
use Rattle.edge_tests.proofs.KernelLemmas.BookLaws.{noted, undone}
use Rattle.edge_tests.proofs.kernel.booked.registered.Goals as goal

pub returns-in-Ok-clause-book : goal.returns-in-Ok-clause-book
returns-in-Ok-clause-book g c =
    noted c.args.key (g.K.Gpi.content c.args.kernel.now) (g.K.Gpi.content c.register.new.self) c.args.book.now
    (record { signals = c.args.book.now.signals; keys = c.push.new.self }) c.requires.book c.in-Ok.ensures.is refl c.in_ok-push.ensures.items

pub returns-in-Err-clause-book : goal.returns-in-Err-clause-book
returns-in-Err-clause-book g c =
    undone c.args.key (g.K.Gpi.content c.args.kernel.now) (g.K.Gpi.content c.register.new.self) c.args.book.now
    (record { signals = c.args.book.now.signals; keys = c.truncate.new.self }) c.push.new.self.items c.requires.book c.in-Err.ensures.kept refl
    c.in_ok-push.ensures.items
    (c.truncate.ensures.items ∙ ap (λ (n : ℕ). take n c.push.new.self.items) (c.len-count.ensures ∙ c.args.book.now.keys.ok.0))
