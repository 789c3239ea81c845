-- A means of proof: which values take memory where they are copied, for the proofs of copies: those that hold a text, and triggers that
-- hold others.
use Rattle.std.specs.Prelude.{Bool, true, false}
use Rattle.py_value.specs.Trigger.{Form, First, Combine, Limit, form_of}
use Rattle.py_value.specs.declared.value.Value.{Value}
use Rattle.py_value.specs.declared.value.Value.TheVariants.{Text, Trigger, Caught}

-- what a trigger waits for holds other triggers
abbrev pub holds_triggers : Form → Bool
holds_triggers (First ts) = true
holds_triggers (Combine ts) = true
holds_triggers (Limit ts steps) = true
holds_triggers _ = false

abbrev pub copy_takes_memory : Value → Bool
copy_takes_memory (Text bs) = true
copy_takes_memory (Trigger t) = holds_triggers (form_of t)
copy_takes_memory (Caught f) = true
copy_takes_memory _ = false
