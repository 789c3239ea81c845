use Rattle.std.proofs.Common.{ℕ, List, Ok, Err, refl, ap}
use Rattle.std.specs.Prelude.{OnErr, Result}
use Rattle.callback_book.specs.Books.{keys_with}
use Rattle.list_kernel.proofs.registered.Registered.add.Goals as goal

on_err : {A E P : Type 0} (r : Result A E) → P → OnErr r P
on_err (Ok v) p = tt {0}
on_err (Err e) p = p

pub returns-in_err-add_time-clause-kept : goal.returns-in_err-add_time-clause-kept
returns-in_err-add_time-clause-kept c =
    on_err c.from_residual.result (ap (λ (ts : List ℕ). keys_with ts c.args.self.now.book) c.in_err-add_time.ensures.kept, refl)
