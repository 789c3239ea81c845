-- Keys of the design's signals.
use Rattle.std.proofs.Common.{◌≡◌, ℕ, zero, suc, ◌<◌, Bool, true, false, List, [], ◌∷◌, length, get_or, refl, sym, ◌∙◌, arith, IsTrue}
use Rattle.gpi.specs.declared.types.Key.{Key}
use Rattle.gpi.specs.declared.types.Key.TheVariants.{At, Rise, Fall, Change, ReadWrite, ReadOnly, NextStep}
use Rattle.gpi.specs.Keys.{has}
use Rattle.gpi.specs.State.{State}
use Rattle.gpi.specs.Content.{IsAsked}
use Rattle.callback_book.specs.declared.book.Watch.{Watch}
use Rattle.callback_book.specs.declared.book.Book.{Book}
use Rattle.callback_book.specs.Books.{keys_with, no_watch, signals_of, IsPlaced}

pub asked_placed : (n : ℕ) (s : State) (k : Key) → IsAsked n s k → IsPlaced n k
asked_placed n s (At t) h = tt
asked_placed n s (Rise sig) h = h
asked_placed n s (Fall sig) h = h
asked_placed n s (Change sig) h = h
asked_placed n s ReadWrite h = tt
asked_placed n s ReadOnly h = tt
asked_placed n s NextStep h = tt

inside : (f : Watch → Bool) (ws : List Watch) (s : ℕ) → f no_watch ≡ false → f (get_or ws s no_watch) ≡ true → s < length ws
inside f [] s e h = absurd (let g : false ≡ true = sym e ∙ h in cc)
inside f (w ∷ ws) zero e h = omega arith
inside f (w ∷ ws) (suc s) e h = let k = inside f ws s e h in omega arith

pub has_placed : (ts : List ℕ) (b : Book) (k : Key) → IsTrue (has k (keys_with ts b)) → IsPlaced (signals_of b) k
has_placed ts b (At t) h = tt
has_placed ts b (Rise sig) h = inside (λ w. w.rise) b.watches.items sig.0 refl h
has_placed ts b (Fall sig) h = inside (λ w. w.fall) b.watches.items sig.0 refl h
has_placed ts b (Change sig) h = inside (λ w. w.change) b.watches.items sig.0 refl h
has_placed ts b ReadWrite h = tt
has_placed ts b ReadOnly h = tt
has_placed ts b NextStep h = tt
