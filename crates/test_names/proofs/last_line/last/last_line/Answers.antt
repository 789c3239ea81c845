-- One item more, and all of them.
use Rattle.std.proofs.Common.{ap}
use Rattle.py_syntax.specs.Line.{physical_line}
use Rattle.test_names.proofs.LastLineLemmas.Lines.{module_more, module_done}
use Rattle.test_names.proofs.last_line.last.last_line.Goals as goal

pub loop-item-preserved : goal.loop-item-preserved
loop-item-preserved c = module_more _ _ _ _ _ _ c.loop-item-test.true c.item-item.is c.of_module_item-last.ensures c.loop-item.invariant

pub returns : goal.returns
returns c = ap physical_line (module_done _ _ _ c.loop-item-test.false c.loop-item.invariant)
