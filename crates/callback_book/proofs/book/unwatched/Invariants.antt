use Rattle.std.proofs.Common.{◌≡◌, ◌≤◌, ◌-◌, replicate}
use Rattle.callback_book.specs.Books.{no_watch}
use Rattle.callback_book.proofs.book.unwatched.Given as goal

abbrev pub invariant-loop-at : goal.invariant-loop-at
invariant-loop-at l = record {
  inside : l.at ≤ l.signals;
  made : l.watches.items ≡ replicate l.at no_watch;
}

abbrev pub decreases-loop-at : goal.decreases-loop-at
decreases-loop-at l = l.signals - l.at
