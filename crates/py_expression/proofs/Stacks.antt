-- One frame more on a stack.
use Rattle.std.proofs.Common.{◌≡◌, List, [], ◌∷◌, ◌++◌, refl}
use Rattle.py_expression.specs.Frames
use Rattle.py_expression.specs.Spots.{frame_in, stack_onto, stack_in}
use Rattle.py_expression.specs.declared.frame.Frame.{Frame}

stack_onto_push : (fs : List Frame) (f : Frame) (below : List Frames.Frame) → stack_onto (fs ++ (f ∷ [])) below ≡ frame_in f ∷ stack_onto fs below
unfolding stack_onto
stack_onto_push [] f below = refl
stack_onto_push (g ∷ fs) f below = stack_onto_push fs f (frame_in g ∷ below)

pub stack_push : (fs : List Frame) (f : Frame) → stack_in (fs ++ (f ∷ [])) ≡ frame_in f ∷ stack_in fs
stack_push fs f = stack_onto_push fs f []

pub stack_none : stack_in [] ≡ []
unfolding stack_onto
stack_none = refl
