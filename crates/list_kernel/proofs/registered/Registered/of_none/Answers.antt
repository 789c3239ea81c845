use Rattle.std.proofs.Common.{ℕ, List, ap, ◌∙◌}
use Rattle.callback_book.specs.Books.{keys_with}
use Rattle.list_kernel.proofs.registered.Registered.of_none.Goals as goal

pub returns-clause-keys : goal.returns-clause-keys
returns-clause-keys c = ap (λ (ts : List ℕ). keys_with ts c.of_none.result) c.new.ensures ∙ c.of_none.ensures.keys
