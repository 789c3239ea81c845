-- What is noted at the number of the factory.
use Rattle.std.proofs.Common.{arith}
use Rattle.test_refusal.proofs.MakersLemmas.Numbers.{tests_added}
use Rattle.test_refusal.proofs.makers.makers.Makers.with_tests.Goals as goal

pub index_mut-requires : goal.index_mut-requires
index_mut-requires c =
    let h = c.in_ok-makers.makers.are_numbers.below _ _ c.in_ok-makers.ensures.number in
    let e = c.in_ok-makers.makers.added.ok.0 in
    omega (arith, h, e)

pub returns : goal.returns
returns c = λ cs g old.
    tests_added c.in_ok-makers.makers.numbers c.in_ok-makers.makers.added.items c.in_ok-makers.number c.args.factory.now c.index_mut.result.now c.generate.new.self
    cs g c.in_ok-makers.makers.are_numbers c.in_ok-makers.ensures.number c.index_mut.ensures.value
    (λ h. c.generate.ensures (cs c.args.factory.now) (g c.args.factory.now) h) (c.in_ok-makers.ensures.same cs g old)
