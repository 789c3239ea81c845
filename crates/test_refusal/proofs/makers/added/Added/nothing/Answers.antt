-- No name has a place.
use Rattle.std.proofs.Common.{ℕ, List, Option, ap, refl}
use Rattle.std.specs.Option.{is_some}
use Rattle.test_refusal.proofs.makers.added.Added.nothing.Goals as goal

pub returns : goal.returns
returns c = record { options = λ o. ap (λ (s : List ℕ → Option ℕ). is_some (s o)) c.new.ensures; counted = refl; tests = refl }
