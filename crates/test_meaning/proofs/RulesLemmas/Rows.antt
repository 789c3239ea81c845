-- Worked rows are computed.
use Rattle.std.proofs.Common.{refl}
use Rattle.py_syntax.specs.Modules.{module_lines, block_lines, item_lines, module_item_lines}
use Rattle.py_syntax.specs.StatementTables.{fault_of}
use Rattle.test_meaning.specs.Rules.Rows.{Refused_rows, Kept_rows, Import_rows, Name_rows, Place_rows, Form_rows, Above_rows, Call_rows, Loop_rows, Decorator_rows, Duplicate_rows, Option_rows, Factory_rows, Count_rows, Order_rows}

pub refused_rows : Refused_rows
unfolding fault_of module_lines block_lines item_lines module_item_lines
refused_rows = (refl, refl, refl, refl, refl, refl, refl)

pub kept_rows : Kept_rows
unfolding fault_of module_lines block_lines item_lines module_item_lines
kept_rows = (refl, refl)

pub import_rows : Import_rows
unfolding fault_of module_lines block_lines item_lines module_item_lines
import_rows = (refl, refl)

pub name_rows : Name_rows
unfolding fault_of module_lines block_lines item_lines module_item_lines
name_rows = (refl, refl, refl, refl, refl, refl, refl, refl)

pub place_rows : Place_rows
unfolding fault_of module_lines block_lines item_lines module_item_lines
place_rows = (refl, refl, refl)

pub form_rows : Form_rows
unfolding fault_of module_lines block_lines item_lines module_item_lines
form_rows = (refl, refl, refl, refl, refl, refl, refl, refl, refl)

pub above_rows : Above_rows
unfolding fault_of module_lines block_lines item_lines module_item_lines
above_rows = (refl, refl, refl, refl, refl, refl, refl, refl, refl, refl)

pub call_rows : Call_rows
unfolding fault_of module_lines block_lines item_lines module_item_lines
call_rows = (refl, refl, refl, refl)

pub loop_rows : Loop_rows
unfolding fault_of module_lines block_lines item_lines module_item_lines
loop_rows = (refl, refl, refl, refl)

pub decorator_rows : Decorator_rows
unfolding fault_of module_lines block_lines item_lines module_item_lines
decorator_rows = (refl, refl, refl, refl, refl, refl)

pub duplicate_rows : Duplicate_rows
unfolding fault_of module_lines block_lines item_lines module_item_lines
duplicate_rows = (refl, refl, refl, refl)

pub option_rows : Option_rows
unfolding fault_of module_lines block_lines item_lines module_item_lines
option_rows = (refl, refl, refl, refl)

pub factory_rows : Factory_rows
unfolding fault_of module_lines block_lines item_lines module_item_lines
factory_rows = (refl, refl, refl, refl, refl, refl)

pub count_rows : Count_rows
unfolding fault_of module_lines block_lines item_lines module_item_lines
count_rows = (refl, refl, refl, refl, refl, refl, refl, refl, refl, refl)

pub order_rows : Order_rows
unfolding fault_of module_lines block_lines item_lines module_item_lines
order_rows = (refl, refl, refl, refl, refl, refl, refl, refl)
