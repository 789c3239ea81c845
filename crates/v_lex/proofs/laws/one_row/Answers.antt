use Rattle.v_lex.specs.Lexing.{start}
use Rattle.v_lex.proofs.RowLaws.{row, one_row, covers}
use Rattle.v_lex.proofs.laws.one_row.Goals as goal

pub returns-clause-some : goal.returns-clause-some
returns-clause-some c = λ text. ((row text).parts, (row text).is)

pub returns-clause-one : goal.returns-clause-one
returns-clause-one c = λ text parts other h k. one_row start 0 parts other text h k

pub returns-clause-whole : goal.returns-clause-whole
returns-clause-whole c = λ text parts h. covers start 0 parts text h
