-- A view that knows what a task holds and is given knows what a poll leaves and answers.
use Rattle.std.proofs.Common.{ℕ, zero, suc, ◌-◌, ◌⊎◌, List, Option, None, Some, subst, sym, inl, inr}
use Rattle.std.specs.Prelude.{IfSome}
use Rattle.py_evaluate.specs.Attribute.Look.{View}
use Rattle.test_meaning.specs.Body.BodyTrees.{Function}
use Rattle.rig_model.specs.Task.Frame.{Task}
use Rattle.rig_model.specs.Task.Step.{Next, next}
use Rattle.rig_model.specs.Task.Cost.{next_cost}
use Rattle.py_evaluate.specs.Attribute.Knows.{KnowsDesign, KnowsEvents}
use Rattle.rig_model.specs.Task.Known.{KnowsWhole, KnowsGiven, KnowsTurned}
use Rattle.rig_model.specs.Task.Poll.{Wants, RunsOut, Polls, Polled}
use Rattle.await_tree.specs.declared.cause.Given.{Given}
use Rattle.rig_model.specs.declared.task.task.Turned.{Turned}
use Rattle.rig_model.proofs.TaskLemmas.StepKnown.{next_is_known}

module _ (functions : List Function) (view : View) (design : KnowsDesign view) (events : KnowsEvents view) where
  abbrev KnowsEnd : Turned → Task → Type 0
  KnowsEnd t a = KnowsTurned functions view t × KnowsWhole functions view a

  abbrev KnowsNext : Next → Type 0
  KnowsNext n = KnowsWhole functions view n.task × IfSome n.turned (KnowsTurned functions view)

  last_known : (fuel : ℕ) (task : Task) (g : Option Given) (t : Turned) (k : ℕ) (a : Task) → KnowsWhole functions view task → IfSome g (KnowsGiven view)
      → Wants functions view fuel task g t k a ⊎ RunsOut fuel task g t k a → KnowsEnd t a
  last_known fuel task g t k a h q e = elim e [
    | inl x ↦ (let both : KnowsNext (record { task = a; turned = Some t }) = subst KnowsNext x.next_is (next_is_known functions task g view design events h q) in (both.1, both.0))
    | inr x ↦ (subst (KnowsTurned functions view) (sym x.spent) tt, subst (KnowsWhole functions view) (sym x.task_is) h)
  ]

  polls_known : (n fuel : ℕ) (task : Task) (g : Option Given) (t : Turned) (k : ℕ) (a : Task) → KnowsWhole functions view task → IfSome g (KnowsGiven view)
      → Polls functions view n fuel task g t k a → KnowsEnd t a
  unfolding Polls
  polls_known zero fuel task g t k a h q e = last_known fuel task g t k a h q e
  polls_known (suc n) fuel task g t k a h q e =
      polls_known n (fuel - next_cost task g) (next functions task g view).task None t k a (next_is_known functions task g view design events h q).0 tt e.1

pub poll_is_known : (functions : List Function) (view : View) (fuel : ℕ) (task : Task) (g : Option Given) (t : Turned) (k : ℕ) (a : Task)
    → KnowsDesign view → KnowsEvents view → KnowsWhole functions view task → IfSome g (KnowsGiven view) → Polled functions view fuel task g t k a
    → KnowsTurned functions view t × KnowsWhole functions view a
poll_is_known functions view fuel task g t k a d e h q p = polls_known functions view d e p.count fuel task g t k a h q p.polls
