use Rattle.v_lex.proofs.UnitLaws.{is_unit, unit_is, unit_told}
use Rattle.v_lex.proofs.laws.units.Goals as goal

pub returns-clause-unit : goal.returns-clause-unit
returns-clause-unit c = λ parts unit. (is_unit parts unit, unit_is parts unit)

pub returns-clause-each : goal.returns-clause-each
returns-clause-each c = λ before part rest h. unit_told before part rest h
