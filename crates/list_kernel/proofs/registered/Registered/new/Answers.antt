use Rattle.std.proofs.Common.{ℕ, List, ap, ◌∙◌}
use Rattle.callback_book.specs.Books.{keys_with}
use Rattle.list_kernel.proofs.registered.Registered.new.Goals as goal

pub returns-clause-keys : goal.returns-clause-keys
returns-clause-keys c = ap (λ (ts : List ℕ). keys_with ts c.in_ok-book.book) c.new-2.ensures ∙ c.in_ok-book.ensures.keys
