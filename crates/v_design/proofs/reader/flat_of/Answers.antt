use Rattle.v_elab.specs.Elaborates.{text_of}
use Rattle.v_design.proofs.StepLaws.{source_step}
use Rattle.v_design.proofs.reader.flat_of.Goals as goal

pub returns-in-Ok-clause-sound : goal.returns-in-Ok-clause-sound
returns-in-Ok-clause-sound c = c.in-Ok.ensures.sound (source_step c.args.text.now (text_of c.args.source.now) c.requires.source)
