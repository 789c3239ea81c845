-- The triggers of the code, level by level.
use Rattle.py_value.specs.declared.trigger.Form.{Form}
use Rattle.py_value.specs.declared.trigger.Form.TheVariants as form
use Rattle.py_value.specs.Trigger as trigger

abbrev pub view_form : Form → trigger.Form
view_form (form.Time n) = trigger.Time n
view_form (form.Rise s) = trigger.Rise s
view_form (form.Fall s) = trigger.Fall s
view_form (form.Change s) = trigger.Change s
view_form form.ReadWrite = trigger.ReadWrite
view_form form.ReadOnly = trigger.ReadOnly
view_form form.NextStep = trigger.NextStep
view_form (form.Cycles s n b) = trigger.Cycles s n b
view_form (form.Event e) = trigger.Event e
view_form (form.Lock l) = trigger.Lock l
view_form (form.Join t) = trigger.Join t
view_form (form.First ts) = trigger.First (trigger.row ts.list.items)
view_form (form.Combine ts) = trigger.Combine (trigger.row ts.list.items)
view_form (form.Limit ts n) = trigger.Limit (trigger.row ts.list.items) n
