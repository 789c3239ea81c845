-- A name's module is the one with its number.
use Rattle.v_header.proofs.TopLemmas.Numbering.{found_there, found_nowhere}
use Rattle.v_header.proofs.top.modules.Modules.find.Goals as goal

pub returns-in-Some : goal.returns-in-Some
returns-in-Some c =
    let s = c.args.self.now in
    found_there c.args.name.now s.list.now s.numbers.now c.get.result c.find.result c.in-Some.number s.are_numbers c.find.ensures c.in-Some.is c.get.ensures.lookup

pub returns-in-None : goal.returns-in-None
returns-in-None c =
    let s = c.args.self.now in
    found_nowhere c.args.name.now s.list.now s.numbers.now c.find.result s.are_numbers c.find.ensures c.in-None.is
