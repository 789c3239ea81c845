-- A means of proof: pieces that are put one after the other, for the proofs of stores and sinks.
use Rattle.std.specs.Prelude.{ℕ, List, [], ◌∷◌, ◌++◌, Bool, true, false, refl}
use Rattle.std.proofs.Common.{subst, sym, ap, append_assoc, ◌∙◌}
use Rattle.port_io.specs.Ports.{TakesAll, Puts}

module _ {O : Type 0} (takes breaks : O → List ℕ → O → Type 0) where
  -- one piece that is taken
  pub takes_one : (before : O) (piece : List ℕ) (after : O)
      → takes before piece after → TakesAll takes before (piece ∷ []) after
  takes_one before piece after taken = (after, taken, refl)

  -- pieces that are all taken, and then more of them
  pub takes_then : (before : O) (pieces : List (List ℕ)) (mid : O) (more : List (List ℕ)) (after : O)
      → TakesAll takes before pieces mid → TakesAll takes mid more after → TakesAll takes before (pieces ++ more) after
  takes_then before [] mid more after first second = subst (λ sink. TakesAll takes sink more after) first second
  takes_then before (piece ∷ pieces) mid more after first second =
      (first.0, first.1, takes_then first.0 pieces mid more after first.2 second)

  -- pieces that are all taken, and then more, of which one may break
  pub puts_then : (before : O) (pieces : List (List ℕ)) (mid : O) (more : List (List ℕ)) (fine : Bool) (after : O)
      → TakesAll takes before pieces mid → Puts takes breaks mid more fine after → Puts takes breaks before (pieces ++ more) fine after
  puts_then before pieces mid more true after first second = takes_then before pieces mid more after first second
  puts_then before pieces mid more false after first second = (
    pieces ++ second.0,
    second.1,
    second.2,
    ap (λ (all : List (List ℕ)). pieces ++ all) second.3 ∙ sym (append_assoc pieces second.0 (second.1 ∷ second.2)),
    (second.4.0, takes_then before pieces mid second.0 second.4.0 first second.4.1, second.4.2),
  )
