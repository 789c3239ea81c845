use Rattle.std.proofs.Common.{◌∙◌, ◌||◌, Bool, ap, sym}
use Rattle.gpi.specs.Keys.{among}
use Rattle.await_tree.specs.WaitList.Waiting.{keys_among}
use Rattle.plain_waits.specs.Kept.{names_of}
use Rattle.await_tree.proofs.WaitListLemmas.Members.{among_append, among_left}
use Rattle.plain_waits.proofs.keeper.WaitList.is_taken.Goals as goal

pub returns-then-stands : goal.returns-then-stands
returns-then-stands c =
    c.if-stands.true ∙ sym (among_left c.args.key (keys_among c.args.awaited.now) (names_of c.args.self.now) (sym c.has_key-stands.ensures ∙ c.if-stands.true))

pub returns-else-stands : goal.returns-else-stands
returns-else-stands c =
    c.names.ensures
    ∙ sym (among_append c.args.key (keys_among c.args.awaited.now) (names_of c.args.self.now)
    ∙ ap (λ (b : Bool). b || among c.args.key (names_of c.args.self.now)) (sym c.has_key-stands.ensures ∙ c.if-stands.false))
