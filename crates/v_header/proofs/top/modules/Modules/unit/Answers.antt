-- A name's unit is the one with its number.
use Rattle.v_header.proofs.TopLemmas.Numbering.{unit_there, unit_past, unit_nowhere}
use Rattle.v_header.proofs.top.modules.Modules.unit.Goals as goal

pub returns-in-Some-get : goal.returns-in-Some-get
returns-in-Some-get c =
    let s = c.args.self.now in
    unit_there c.args.name.now s.list.now s.units.now s.numbers.now c.find.result c.in-Some.number c.get.result c.in-Some-get.unit s.are_numbers c.find.ensures c.in-Some.is c.get.ensures.lookup c.in-Some-get.is

pub returns-in-None-get : goal.returns-in-None-get
returns-in-None-get c =
    let s = c.args.self.now in
    unit_past c.args.name.now s.list.now s.units.now s.numbers.now c.find.result c.in-Some.number c.get.result s.are_numbers c.find.ensures c.in-Some.is c.get.ensures.lookup c.in-None-get.is

pub returns-in-None : goal.returns-in-None
returns-in-None c =
    let s = c.args.self.now in
    unit_nowhere c.args.name.now s.list.now s.units.now s.numbers.now c.find.result s.are_numbers c.find.ensures c.in-None.is
