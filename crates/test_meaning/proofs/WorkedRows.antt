-- Worked rows are computed.
use Rattle.std.proofs.Common.{refl}
use Rattle.std.specs.Fmt.{digits}
use Rattle.py_syntax.specs.Modules.{module_lines, block_lines, item_lines, module_item_lines}
use Rattle.py_syntax.specs.StatementTables.{fault_of}
use Rattle.test_meaning.specs.Rows.{Refused_rows, Whole_row, Product_rows, Name_rows, Option_rows, Order_row}
use Rattle.test_meaning.specs.BodyRows.{Constant_rows, Call_rows, Sound_rows, Statement_rows, If_rows, Block_rows, Stray_rows, Function_rows, Clock_row}

pub refused_rows : Refused_rows
unfolding fault_of digits module_lines block_lines item_lines module_item_lines
refused_rows = (refl, refl, refl, refl, refl)

pub whole_row : Whole_row
unfolding fault_of digits module_lines block_lines item_lines module_item_lines
whole_row = refl

pub product_rows : Product_rows
unfolding fault_of digits module_lines block_lines item_lines module_item_lines
product_rows = (refl, refl, refl, refl, refl, refl)

pub name_rows : Name_rows
unfolding fault_of digits module_lines block_lines item_lines module_item_lines
name_rows = (refl, refl, refl)

pub option_rows : Option_rows
unfolding fault_of digits module_lines block_lines item_lines module_item_lines
option_rows = (refl, refl, refl, refl, refl)

pub order_row : Order_row
unfolding fault_of digits module_lines block_lines item_lines module_item_lines
order_row = refl

pub constant_rows : Constant_rows
unfolding fault_of digits module_lines block_lines item_lines module_item_lines
constant_rows = (refl, refl, refl, refl, refl)

pub call_rows : Call_rows
unfolding fault_of digits module_lines block_lines item_lines module_item_lines
call_rows = (refl, refl, refl, refl, refl, refl, refl, refl, refl, refl)

pub sound_rows : Sound_rows
unfolding fault_of digits module_lines block_lines item_lines module_item_lines
sound_rows = (refl, refl)

pub statement_rows : Statement_rows
unfolding fault_of digits module_lines block_lines item_lines module_item_lines
statement_rows = refl

pub if_rows : If_rows
unfolding fault_of digits module_lines block_lines item_lines module_item_lines
if_rows = (refl, refl, refl, refl)

pub block_rows : Block_rows
unfolding fault_of digits module_lines block_lines item_lines module_item_lines
block_rows = (refl, refl, refl, refl, refl)

pub stray_rows : Stray_rows
unfolding fault_of digits module_lines block_lines item_lines module_item_lines
stray_rows = (refl, refl, refl, refl)

pub function_rows : Function_rows
unfolding fault_of digits module_lines block_lines item_lines module_item_lines
function_rows = refl

pub clock_row : Clock_row
unfolding fault_of digits module_lines block_lines item_lines module_item_lines
clock_row = refl
