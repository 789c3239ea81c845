-- A name with nothing.
use Rattle.std.proofs.Common.{List, sym, subst, ◌∙◌}
use Rattle.test_refusal.specs.Makers.SoFar.{IsAddedAt, added_at}
use Rattle.test_refusal.specs.declared.makers.added.Added.{Added}
use Rattle.test_refusal.proofs.MakersLemmas.Numbers.{name_added}
use Rattle.test_refusal.proofs.makers.makers.Makers.with_name.Goals as goal

pub returns-clause-same : goal.returns-clause-same
returns-clause-same c = λ cs g old n.
    subst (λ (l : List Added). IsAddedAt (cs n) (g n) (added_at c.note.new.self l n)) (sym c.in_ok-push.ensures.items)
    (name_added c.args.self.numbers c.note.new.self c.args.self.added.items c.nothing.result c.args.name.now c.len-number.result c.args.self.are_numbers (c.len-number.ensures ∙ c.args.self.added.ok.0)
    (λ m. c.in_ok-note.ensures.ok m) c.nothing.ensures cs g old n)
