-- The first fault, or what the file stands for.
use Rattle.py_syntax.specs.BlockTrees.{view_module}
use Rattle.test_meaning.specs.Body.Views.{view_file}
use Rattle.test_meaning.specs.Rules.File.{file_of}
use Rattle.test_file.proofs.Checked.{accepted, refused, sound, unbroken}
use Rattle.test_file.proofs.whole.check.Goals as goal

pub meaning-requires : goal.meaning-requires
meaning-requires c = unbroken _ (file_of (view_module c.args.file)) c.in-Ok-None.ensures c.in-Ok-None.field-0-is

pub returns-in-Ok-clause-checks : goal.returns-in-Ok-clause-checks
returns-in-Ok-clause-checks c =
    accepted (view_module c.args.file) (view_file c.in-Ok.made) (unbroken _ (file_of (view_module c.args.file)) c.in-Ok-None.ensures c.in-Ok-None.field-0-is) c.in-Ok.ensures

pub returns-in-Ok-Some-clause-checks : goal.returns-in-Ok-Some-clause-checks
returns-in-Ok-Some-clause-checks c = refused (view_module c.args.file) _ c.in-Ok-Some.refusal c.in-Ok-Some.ensures c.in-Ok-Some.field-0-is

pub returns-in-Ok-clause-sound : goal.returns-in-Ok-clause-sound
returns-in-Ok-clause-sound c = λ right.
    sound (view_module c.args.file) (view_file c.in-Ok.made) right (unbroken _ (file_of (view_module c.args.file)) c.in-Ok-None.ensures c.in-Ok-None.field-0-is) c.in-Ok.ensures
