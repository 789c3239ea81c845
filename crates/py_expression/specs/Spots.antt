-- A means of proof: what the code has open, without where it lies in memory, for the proofs of Python's parser.
use Rattle.std.specs.Prelude.{List, [], ◌∷◌}
use Rattle.py_expression.specs.Kept.{measured, arguments_in, parts_in}
use Rattle.py_expression.specs.Frames
use Rattle.py_expression.specs.declared.frame.Opened.{Opened}
use Rattle.py_expression.specs.declared.frame.Opened.TheVariants as opened
use Rattle.py_expression.specs.declared.frame.Frame.{Frame}
use Rattle.py_expression.specs.declared.frame.Point.{Point}
use Rattle.py_expression.specs.declared.frame.Point.TheVariants as point
use Rattle.py_expression.specs.declared.frame.Spot.{Spot}
use Rattle.py_expression.specs.declared.frame.Step.{Step}
use Rattle.py_expression.specs.declared.frame.Step.TheVariants as step

abbrev pub opened_in : Opened → Frames.Opened
opened_in (opened.Prefix op) = Frames.prefix op
opened_in (opened.Infix op l) = Frames.infix_op op (measured l)
opened_in opened.Brackets = Frames.brackets
opened_in (opened.Subscript b) = Frames.subscript (measured b)
opened_in (opened.Call f es) = Frames.call f (arguments_in es)
opened_in (opened.Format ps) = Frames.format (parts_in ps)

abbrev pub frame_in : Frame → Frames.Frame
frame_in f = record { opened = opened_in f.opened; least = f.least }

-- the frames behind others, the innermost of these first
unfoldable pub stack_onto : List Frame → List Frames.Frame → List Frames.Frame
stack_onto [] fs = fs
stack_onto (f ∷ more) fs = stack_onto more (frame_in f ∷ fs)

abbrev pub stack_in : List Frame → List Frames.Frame
stack_in fs = stack_onto fs []

abbrev pub point_in : Point → Frames.Point
point_in point.Wanted = Frames.wanted
point_in (point.Primary e) = Frames.primary (measured e)
point_in (point.Operand e level) = Frames.operand (measured e) level
point_in (point.Parts ps) = Frames.parts (parts_in ps)

abbrev pub spot_in : Spot → Frames.Spot
spot_in s = record { stack = stack_in s.stack.items; least = s.least; point = point_in s.point; rest = s.rest.now }

abbrev pub step_in : Step → Frames.Step
step_in (step.Going s) = Frames.going (spot_in s)
step_in (step.Done e rest) = Frames.done (measured e) rest.now
