use Rattle.py_parse.proofs.CallLaws.{gives_law, found_law, only_law, refused_law, only_refused_law}
use Rattle.py_parse.proofs.reader.outline.Goals as goal

pub returns-clause-gives : goal.returns-clause-gives
returns-clause-gives c = gives_law _ _ c.lines_in_place.result c.as_slice.ensures c.lines_in_place.ensures

pub returns-clause-found : goal.returns-clause-found
returns-clause-found c = found_law _ _ c.lines_in_place.result c.as_slice.ensures c.lines_in_place.ensures

pub returns-clause-only : goal.returns-clause-only
returns-clause-only c = λ ps s w. only_law _ _ c.lines_in_place.result ps c.as_slice.ensures c.lines_in_place.ensures s w

pub returns-clause-refused : goal.returns-clause-refused
returns-clause-refused c = refused_law _ _ c.lines_in_place.result c.as_slice.ensures c.lines_in_place.ensures

pub returns-clause-only_refused : goal.returns-clause-only_refused
returns-clause-only_refused c = λ r h. only_refused_law _ _ c.lines_in_place.result r c.as_slice.ensures c.lines_in_place.ensures h
