-- A means of proof: how many steps a task can do at most without a cost, one after the other.
use Rattle.std.specs.Prelude.{ℕ, ◌+◌, List, [], ◌∷◌, Option}
use Rattle.test_meaning.specs.Body.BodyTrees.{Item, Simple, If, While, For, Try, With, Block, NoItem, Then, Handlers, NoHandler, Catch}
use Rattle.rig_model.specs.Task.Frame.{Todo, Do, Again, Each, Uses, Handles, Bound, Holds, Use, Assigns, Writes, Returns, Times, Limited, Enters, Course, On, Has, Leaves, Frame}
use Rattle.rig_model.specs.Task.Step.{given_to}
use Rattle.await_tree.specs.declared.cause.Given.{Given}

-- of statements only a `try` is begun without a cost
abbrev mutual
  pub item_weight : Item → ℕ
  item_weight (Try block handlers) = 2 + (block_weight block + handlers_weight handlers)
  item_weight (Simple s) = 1
  item_weight (If e block other) = 1
  item_weight (While e block) = 1
  item_weight (For n span block) = 1
  item_weight (With e block) = 1

  pub block_weight : Block → ℕ
  block_weight NoItem = 0
  block_weight (Then i b) = item_weight i + block_weight b

  pub handlers_weight : Handlers → ℕ
  handlers_weight NoHandler = 0
  handlers_weight (Catch c block hs) = 1 + (block_weight block + handlers_weight hs)

abbrev pub use_weight : Use → ℕ
use_weight (Enters l block) = 3 + block_weight block
use_weight (Assigns n) = 2
use_weight (Writes e) = 2
use_weight Returns = 2
use_weight (Times steps) = 3
use_weight (Limited t) = 1

abbrev pub todo_weight : Todo → ℕ
todo_weight (Do i) = item_weight i
todo_weight (Again e block) = 1
todo_weight (Each n left block) = 1
todo_weight (Uses u) = use_weight u
todo_weight (Handles hs) = 1 + handlers_weight hs
todo_weight (Bound n) = 1
todo_weight (Holds l) = 2

abbrev pub todos_weight : List Todo → ℕ
todos_weight [] = 0
todos_weight (t ∷ ts) = todo_weight t + todos_weight ts

abbrev pub course_weight : Course → ℕ
course_weight (Leaves jump) = 1
course_weight On = 0
course_weight (Has v) = 0

abbrev pub frame_weight : Frame → ℕ
frame_weight f = 1 + (course_weight f.course + todos_weight f.todo)

abbrev pub frames_weight : List Frame → ℕ
frames_weight [] = 0
frames_weight (f ∷ fs) = frame_weight f + frames_weight fs

-- with what is given to the innermost call
abbrev pub frames_given : Option Given → List Frame → List Frame
frames_given g [] = []
frames_given g (f ∷ fs) = record f { course = given_to g f.course } ∷ fs
