-- A means of proof: each part of a trigger is smaller than the whole. It says nothing that a reader must trust.
use Rattle.std.specs.Prelude.{◌+◌, ◌≤◌, max, List, [], ◌∷◌}
use Rattle.std.proofs.Common.{arith}
use Rattle.py_value.specs.declared.trigger.Form.{Form}
use Rattle.py_value.specs.declared.trigger.Form.TheVariants as form
use Rattle.py_value.specs.declared.trigger.Trig.TheDeep.{deep-Form}
use Rattle.py_value.specs.Trigger as trigger
use Rattle.py_value.specs.TriggerCode as code
use Rattle.py_value.specs.TriggerView.{view_form}
use denote.Param.Weighed.{most}

row_some : (ts : trigger.Trigs) → 1 ≤ code.row_size ts
row_some trigger.NoTrig = omega arith
row_some (trigger.Then t ts) = omega (arith, row_some ts)

row_falls : (ts : List trigger.Trig) → most (λ t. code.size t + 1) ts ≤ code.row_size (trigger.row ts)
row_falls [] = omega arith
row_falls (t ∷ ts) = omega (arith, row_falls ts, row_some (trigger.row ts))

pub form_falls : (f : Form) → max (deep-Form f) 0 ≤ code.form_size (view_form f)
form_falls (form.First ts) = omega (arith, row_falls ts.list.items)
form_falls (form.Combine ts) = omega (arith, row_falls ts.list.items)
form_falls (form.Limit ts n) = omega (arith, row_falls ts.list.items)
form_falls _ = omega arith
