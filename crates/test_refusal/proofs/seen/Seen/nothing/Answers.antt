-- No name, no test.
use Rattle.std.proofs.Common.{ℕ, List, Option, ap, refl}
use Rattle.std.specs.Option.{is_some}
use Rattle.test_refusal.proofs.seen.Seen.nothing.Goals as goal

pub returns : goal.returns
returns c = λ f. record {
  names = λ n. ap (λ (s : List ℕ → Option ℕ). is_some (s n)) c.new.ensures;
  makers = c.new-2.ensures;
  tests = refl;
  has_tests = refl;
  decorated = refl;
}
