use Rattle.py_parse.proofs.Made.{made_spells, made_only}
use Rattle.py_parse.proofs.nest.module_of.Goals as goal

pub returns-clause-spells : goal.returns-clause-spells
returns-clause-spells c = made_spells c.args.lines.items c.nested.result c.nested.ensures

pub returns-clause-only : goal.returns-clause-only
returns-clause-only c = made_only c.args.lines.items c.nested.result c.nested.ensures
