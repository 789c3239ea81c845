-- What is added at the number of the factory.
use Rattle.std.proofs.Common.{arith}
use Rattle.test_refusal.proofs.MakersLemmas.Numbers.{option_added}
use Rattle.test_refusal.proofs.makers.makers.Makers.with_option.Goals as goal

pub index_mut-requires : goal.index_mut-requires
index_mut-requires c =
    let h = c.in_ok-makers.makers.are_numbers.below _ _ c.in_ok-makers.ensures.number in
    let e = c.in_ok-makers.makers.added.ok.0 in
    omega (arith, h, e)

pub returns : goal.returns
returns c = λ cs g vs e old.
    option_added c.in_ok-makers.makers.numbers c.in_ok-makers.makers.added.items c.in_ok-makers.number c.args.factory.now c.index_mut.result.now c.add.new.self
    (record { name = c.args.option.now; values = vs }) cs g c.in_ok-makers.makers.are_numbers c.in_ok-makers.ensures.number c.index_mut.ensures.value
    (λ h. c.in_ok-add.ensures.ok (cs c.args.factory.now) (g c.args.factory.now) vs e h) (c.in_ok-makers.ensures.same cs g old)
