use Rattle.v_lex.specs.Lexing.{start}
use Rattle.v_lex.proofs.ConditionalLaws.{stands_at, skipped_at, takes_first, takes_further, takes_none, off_inside, closed}
use Rattle.v_lex.proofs.DefineLaws.{is_defined, defined_is}
use Rattle.v_lex.proofs.GroupLaws.{is_balanced, breaks_none, is_closed}
use Rattle.v_lex.proofs.laws.conditionals.Goals as goal

pub returns-clause-stands : goal.returns-clause-stands
returns-clause-stands c = λ before part rest text h. stands_at start 0 before part rest text h

pub returns-clause-skipped : goal.returns-clause-skipped
returns-clause-skipped c = λ before part rest text h e. skipped_at start 0 before part rest text h e

pub returns-clause-defined : goal.returns-clause-defined
returns-clause-defined c = λ name parts. (is_defined name parts, defined_is name parts)

pub returns-clause-first : goal.returns-clause-first
returns-clause-first c = λ s place part o. takes_first s place part o

pub returns-clause-further : goal.returns-clause-further
returns-clause-further c = λ s place first more last h. takes_further s place first more last h

pub returns-clause-at_most_one : goal.returns-clause-at_most_one
returns-clause-at_most_one c = λ s place first more last h e. takes_none s place first more last h e

pub returns-clause-inside : goal.returns-clause-inside
returns-clause-inside c = λ s place before rest o h. off_inside s place before rest o h

pub returns-clause-closed : goal.returns-clause-closed
returns-clause-closed c = λ s place parts h. closed s place parts h

pub returns-clause-balanced : goal.returns-clause-balanced
returns-clause-balanced c = λ row. (is_balanced row, λ h. breaks_none row h.0 h.1)

pub returns-clause-grouped : goal.returns-clause-grouped
returns-clause-grouped c = λ parts g. is_closed parts g
