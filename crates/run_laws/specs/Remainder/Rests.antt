-- A means of proof: two tests files that differ in how a function's body ends, and their tasks, for the law of the remainder.
use Rattle.std.specs.Prelude.{◌≡◌, ◌⊎◌, List, [], ◌∷◌, ◌++◌, Option}
use Rattle.test_meaning.specs.Body.BodyTrees.{Block, NoItem, Then, Function}
use Rattle.rig_model.specs.Task.Frame.{Course, On, Has, Leaves, Frame, Task, items}
use Rattle.rig_model.specs.Task.Step.{given_to}
use Rattle.await_tree.specs.declared.cause.Given.{Given}

-- ---- functions

-- a block with another behind it
abbrev pub joined : Block → Block → Block
joined NoItem b = b
joined (Then i a) b = Then i (joined a b)

-- a function whose body goes on with this rest
abbrev pub continued : Block → Function → Function
continued rest f = record f { body = joined f.body rest }

-- the bodies begin alike, and end with one rest and with the other; parameters and other names are the same
pub record EndsOtherwise (one other : Block) (f g : Function) : Type 0 where
  pub front : Function
  pub first : f ≡ continued one front
  pub second : g ≡ continued other front

-- the functions are the same, or end otherwise
abbrev pub FunctionAlike : Block → Block → Function → Function → Type 0
FunctionAlike one other f g = (g ≡ f) ⊎ EndsOtherwise one other f g

-- the same function by function
abbrev pub FunctionsAlike : Block → Block → List Function → List Function → Type 0
FunctionsAlike one other [] [] = Unit {0}
FunctionsAlike one other [] (g ∷ gs) = ⊥
FunctionsAlike one other (f ∷ fs) [] = ⊥
FunctionsAlike one other (f ∷ fs) (g ∷ gs) = FunctionAlike one other f g × FunctionsAlike one other fs gs

-- ---- calls

-- a call with this rest behind what is to do
abbrev pub with_rest : Block → Frame → Frame
with_rest rest f = record f { todo = f.todo ++ items rest }

-- the calls are the same in front, and one rest and the other are still to do behind
pub record HasRests (one other : Block) (f g : Frame) : Type 0 where
  pub front : Frame
  pub first : f ≡ with_rest one front
  pub second : g ≡ with_rest other front

-- the calls are the same, or have the rests still to do
abbrev pub FrameAlike : Block → Block → Frame → Frame → Type 0
FrameAlike one other f g = (g ≡ f) ⊎ HasRests one other f g

-- the same call by call
abbrev pub FramesAlike : Block → Block → List Frame → List Frame → Type 0
FramesAlike one other [] [] = Unit {0}
FramesAlike one other [] (g ∷ gs) = ⊥
FramesAlike one other (f ∷ fs) [] = ⊥
FramesAlike one other (f ∷ fs) (g ∷ gs) = FrameAlike one other f g × FramesAlike one other fs gs

-- ---- tasks

-- the tasks are the same, but for the rests that their calls have still to do
pub record TaskAlike (one other : Block) (t u : Task) : Type 0 where
  pub same : u ≡ record t { frames = u.frames }
  pub frames : FramesAlike one other t.frames u.frames

-- the same task by task
abbrev pub TasksAlike : Block → Block → List Task → List Task → Type 0
TasksAlike one other [] [] = Unit {0}
TasksAlike one other [] (u ∷ us) = ⊥
TasksAlike one other (t ∷ ts) [] = ⊥
TasksAlike one other (t ∷ ts) (u ∷ us) = TaskAlike one other t u × TasksAlike one other ts us

-- ---- the begin of a rest

-- no block is being left
abbrev pub GoesOn : Course → Type 0
GoesOn On = Unit {0}
GoesOn (Has v) = Unit {0}
GoesOn (Leaves jump) = ⊥

-- the innermost call goes on, and has just this rest to do
abbrev pub BeginsIn : Block → Option Given → List Frame → Type 0
BeginsIn rest g [] = ⊥
BeginsIn rest g (f ∷ fs) = GoesOn (given_to g f.course) × (f.todo ≡ items rest)
