-- Whatever a run does, each queue was given what it has given and what it holds.
use Rattle.std.proofs.Common.{◌≡◌, ℕ, zero, suc, Bool, true, false, List, [], ◌∷◌, ◌++◌, Option, None, Some, Ok, Err, refl, ap, sym, ◌∙◌, append-nil, append_assoc}
use Rattle.py_value.specs.Answer.{Answer}
use Rattle.py_value.specs.declared.trigger.QueueNo.{QueueNo}
use Rattle.py_value.specs.declared.value.Value.{Value}
use Rattle.task_queue.specs.Queues.{TaskQueue}
use Rattle.await_tree.specs.declared.cause.Given.{Given}
use Rattle.test_meaning.specs.Body.BodyTrees.{Case, Limit}
use Rattle.rig_model.specs.declared.run.outcome.Outcome.{Outcome}
use Rattle.rig_model.specs.declared.task.task.Turned.{Turned}
use Rattle.rig_model.specs.declared.task.task.Turned.TheVariants as turned
use Rattle.rig_model.specs.Run.Case.{values_of, limit_steps, with_deadline, with_limit, with_test}
use Rattle.rig_model.specs.Run.Rig.{Rig, Setup}
use Rattle.rig_model.specs.Run.Run.{Run, Place, Begins, Runs, Waits, Over, skipped, unskipped, with_skips, begun, planned, judged, step_in, step_at, step, goes, steps, opening}
use Rattle.rig_model.specs.Run.Step.{rig_step}
use Rattle.rig_model.specs.Run.Verdict.{reason_of}
use Rattle.run_laws.specs.Items.Account.{Account, IsBalanced, account, account_after, accounted, accounted_at, accounted_in, given_by, is_for, items_after, nothing_yet, stored_by, told_after, wish}
use Rattle.run_laws.proofs.ItemsLemmas.Queues.{items_of, step_moves}

-- ---- begins of tests

deadline_queues : (r : Answer ℕ) (c : Rig) → (with_deadline r c).queues ≡ c.queues
deadline_queues (Ok steps) c = refl
deadline_queues (Err kind) c = refl

limit_queues : (step_fs : ℕ) (limit : Option Limit) (c : Rig) → (with_limit step_fs limit c).queues ≡ c.queues
limit_queues step_fs None c = refl
limit_queues step_fs (Some limit) c = deadline_queues (limit_steps step_fs limit) c

test_queues : (setup : Setup) (case : Case) (r : Answer (List Value)) (c : Rig) → (with_test setup case r c).queues ≡ c.queues
test_queues setup case (Ok values) c = limit_queues setup.flat.step_fs case.time _
test_queues setup case (Err kind) c = refl

module _ (setup : Setup) (queue : QueueNo) where
  abbrev Balanced : Account → Rig → Type 0
  Balanced a c = IsBalanced a (items_of queue c.queues)

  -- ---- a step in a test

  -- what was stored and given, with what is added to each
  moved : (a : Account) (before after stored taken : List Value) → before ++ stored ≡ taken ++ after → a.stored ≡ a.given ++ before
      → a.stored ++ stored ≡ (a.given ++ taken) ++ after
  moved a before after stored taken m h =
      ap (λ (xs : List Value). xs ++ stored) h ∙ append_assoc a.given before stored ∙ ap (λ (xs : List Value). a.given ++ xs) m
      ∙ sym (append_assoc a.given taken after)

  rig_balanced : (c : Rig) (a : Account) → Balanced a c → Balanced (accounted setup queue c a) (rig_step setup c).rig
  rig_balanced c a h =
      moved a (items_of queue c.queues) (items_of queue (rig_step setup c).rig.queues) (stored_by queue (wish setup c) (told_after setup c) c.queues)
      (given_by queue (wish setup c) (told_after setup c)) (step_moves queue setup c) h

  -- ---- a step of a run

  begun_balanced : (cases : List Case) (c : Run) (a : Account) → Balanced a c.rig → Balanced a (begun setup cases c).rig
  begun_balanced [] c a h = h
  begun_balanced (case ∷ cases) c a h = h ∙ ap (λ (qs : List TaskQueue). a.given ++ items_of queue qs) (sym (test_queues setup case (values_of case.arguments) c.rig))

  planned_empty : (cases : List Case) (c : Run) → c.rig.queues ≡ [] → Balanced nothing_yet (planned cases c).rig
  planned_empty [] c e = ap (items_of queue) (sym e)
  planned_empty (case ∷ cases) c e = ap (items_of queue) (sym e)

  in_balanced : (case : Case) (cases : List Case) (o : Option Outcome) (c : Run) (a : Account) → Balanced a c.rig
      → Balanced (accounted_in setup queue o c.rig a) (step_in setup case cases o c).rig
  in_balanced case cases (Some outcome) c a h =
      planned_empty (unskipped cases) (with_skips (skipped cases) (judged (reason_of setup.flat case outcome) case c)) refl
  in_balanced case cases None c a h = rig_balanced c.rig a h

  at_balanced : (p : Place) (c : Run) (a : Account) → Balanced a c.rig → Balanced (accounted_at setup queue p c.rig a) (step_at setup p c).rig
  at_balanced (Begins cases) c a h = begun_balanced (unskipped cases) (with_skips (skipped cases) c) a h
  at_balanced (Runs case cases) c a h = in_balanced case cases c.rig.outcome c a h
  at_balanced (Waits cases) c a h = rig_balanced c.rig a h
  at_balanced Over c a h = h

  -- ---- a run

  steps_balanced : (budget n : ℕ) (c : Run) (a : Account) → Balanced a c.rig → Balanced (account_after setup queue budget n c a) (steps setup budget n c).rig
  unfolding account_after steps
  steps_balanced budget zero c a h = h
  steps_balanced budget (suc n) c a h =
      decided (goes setup budget c) refl (steps_balanced budget n (step setup c) (accounted_at setup queue c.place c.rig a) (at_balanced c.place c a h))
    where
      decided : (b : Bool) → goes setup budget c ≡ b
          → Balanced (account_after setup queue budget n (step setup c) (accounted_at setup queue c.place c.rig a)) (steps setup budget n (step setup c)).rig
          → Balanced (account_after setup queue budget (suc n) c a) (steps setup budget (suc n) c).rig
      decided true g k = rw g k
      decided false g k = rw g h

  -- ---- steps that are no put and no get

  nothing_stored : (wanted : Option Turned) (told : Option Given) (qs : List TaskQueue) → is_for queue wanted ≡ false → stored_by queue wanted told qs ≡ []
  nothing_stored None told qs e = refl
  nothing_stored (Some (turned.PutNow other item)) told qs e = rw e refl
  nothing_stored (Some (turned.GetNow other)) told qs e = refl
  nothing_stored (Some _) told qs e = refl

  nothing_given : (wanted : Option Turned) (told : Option Given) → is_for queue wanted ≡ false → given_by queue wanted told ≡ []
  nothing_given None told e = refl
  nothing_given (Some (turned.PutNow other item)) told e = refl
  nothing_given (Some (turned.GetNow other)) told e = rw e refl
  nothing_given (Some _) told e = refl

  pub items_left : (c : Rig) → is_for queue (wish setup c) ≡ false → items_of queue (rig_step setup c).rig.queues ≡ items_of queue c.queues
  items_left c e =
      ap (λ (xs : List Value). xs ++ items_of queue (rig_step setup c).rig.queues) (sym (nothing_given (wish setup c) (told_after setup c) e))
      ∙ sym (step_moves queue setup c)
      ∙ ap (λ (xs : List Value). items_of queue c.queues ++ xs) (nothing_stored (wish setup c) (told_after setup c) c.queues e)
      ∙ append-nil (items_of queue c.queues)

  pub account_left : (c : Rig) (a : Account) → is_for queue (wish setup c) ≡ false → accounted setup queue c a ≡ a
  account_left c a e =
      rw (nothing_stored (wish setup c) (told_after setup c) c.queues e, nothing_given (wish setup c) (told_after setup c) e, append-nil a.stored, append-nil a.given)
      refl

pub run_balanced : (setup : Setup) (seed : ℕ) (cases : List Case) (budget count : ℕ) (queue : QueueNo)
    → IsBalanced (account setup queue budget count seed cases) (items_after setup queue budget count seed cases)
run_balanced setup seed cases budget count queue = steps_balanced setup queue budget count (opening setup seed cases) nothing_yet refl
