-- What was built is sound.
use Rattle.v_flat.specs.Design.{modules_in}
use Rattle.v_elab.specs.Elaborates.{text_of}
use Rattle.v_elab.proofs.Told.{sound}
use Rattle.v_elab.proofs.whole.elaborate.Goals as goal

pub returns-in-Ok-clause-sound : goal.returns-in-Ok-clause-sound
returns-in-Ok-clause-sound c = λ some.
    sound (modules_in (text_of c.args.source.now)) _ c.in-Ok-Ok.field-0 c.in-Ok-Ok.parts c.args.source.now.step c.in-Ok.flat c.in-Ok-Ok.ensures c.in-Ok-Ok.field-0-is c.in-Ok.ensures some
