use Rattle.std.proofs.Common.{List, Option, Some, sym, subst, ◌∙◌, arith}
use Rattle.test_meaning.specs.Body.BodyTrees.{Function}
use Rattle.rig_model.specs.Task.Frame.{Task}
use Rattle.rig_model.specs.Task.Known.{KnowsWhole}
use Rattle.rig_model.specs.declared.task.task.Turned.{Turned}
use Rattle.rig_model.proofs.TaskLemmas.PollKnown.{poll_is_known}
use Rattle.rig_model.proofs.TaskLemmas.Polls.{polled_last, polled_more}
use Rattle.rig_model.proofs.TaskLemmas.StepKnown.{next_is_known}
use Rattle.task_core.specs.Flow.Flow.{StepsTo, functions_in, task_in}
use Rattle.task_core.proofs.FlowLemmas.Calls.{file_same}
use Rattle.task_core.proofs.FlowLemmas.Counts.{count_falls}
use Rattle.task_core.proofs.flow.flow.CodeFlowFlow.poll.Goals as goal

pub returns-in-Some : goal.returns-in-Some
returns-in-Some g c =
    let view = g.V.Look.view c.args.view.now in
    let s = subst (λ (t : Option Turned). StepsTo (functions_in g.C.Code.reads c.steps.self) view c.steps.fuel (task_in g.C.Code.reads c.steps.self) c.steps.next t c.step.new.fuel (task_in g.C.Code.reads c.step.new.self))
    c.in-Some.is c.in_ok-turned.ensures.steps in
    let p = c.steps.invariant.polls c.in-Some.turned c.step.new.fuel (task_in g.C.Code.reads c.step.new.self)
    (polled_last (functions_in g.C.Code.reads c.steps.self) view c.steps.fuel (task_in g.C.Code.reads c.steps.self) c.steps.next c.in-Some.turned c.step.new.fuel (task_in g.C.Code.reads c.step.new.self) s) in
    let falls = c.step.ensures.falls in
    let before = c.steps.invariant.falls in
    record {
      file = file_same g.C.Code.reads c.steps.self c.step.new.self c.step.ensures.same ∙ file_same g.C.Code.reads c.args.self.now c.steps.self c.steps.invariant.same;
      number = c.step.ensures.same.number ∙ c.steps.invariant.same.number;
      falls = omega (arith, falls, before);
      polled = p;
      known = poll_is_known (functions_in g.C.Code.reads c.args.self.now) view c.args.fuel.now (task_in g.C.Code.reads c.args.self.now) (Some c.args.given) c.in-Some.turned c.step.new.fuel
          (task_in g.C.Code.reads c.step.new.self) c.names_are_known.ensures c.queues_are_known.ensures c.requires.task c.requires.answer p;
    }

pub steps-preserved : goal.steps-preserved
steps-preserved g c =
    let view = g.V.Look.view c.args.view.now in
    let s = subst (λ (t : Option Turned). StepsTo (functions_in g.C.Code.reads c.steps.self) view c.steps.fuel (task_in g.C.Code.reads c.steps.self) c.steps.next t c.step.new.fuel (task_in g.C.Code.reads c.step.new.self))
    c.in-None.is c.in_ok-turned.ensures.steps in
    let file = file_same g.C.Code.reads c.steps.self c.step.new.self c.step.ensures.same in
    let falls = c.step.ensures.falls in
    let before = c.steps.invariant.falls in
    record {
      same = record {
        number = c.step.ensures.same.number ∙ c.steps.invariant.same.number;
        file = c.step.ensures.same.file ∙ c.steps.invariant.same.file;
      };
      falls = omega (arith, falls, before);
      known = subst (λ (fs : List Function). KnowsWhole fs view (task_in g.C.Code.reads c.step.new.self)) (sym file)
          (subst (λ (t : Task). KnowsWhole (functions_in g.C.Code.reads c.steps.self) view t) (sym s.2)
          (next_is_known (functions_in g.C.Code.reads c.steps.self) (task_in g.C.Code.reads c.steps.self) c.steps.next view c.names_are_known.ensures c.queues_are_known.ensures c.steps.invariant.known c.steps.invariant.given).0);
      given = tt;
      polls = λ turned fuel task p. c.steps.invariant.polls turned fuel task
          (polled_more (functions_in g.C.Code.reads c.steps.self) view c.steps.fuel (task_in g.C.Code.reads c.steps.self) c.steps.next turned fuel task s.0 (rw (← s.1, ← s.2, sym file) p));
    }

pub steps-smaller : goal.steps-smaller
steps-smaller g c =
    let view = g.V.Look.view c.args.view.now in
    let s = subst (λ (t : Option Turned). StepsTo (functions_in g.C.Code.reads c.steps.self) view c.steps.fuel (task_in g.C.Code.reads c.steps.self) c.steps.next t c.step.new.fuel (task_in g.C.Code.reads c.step.new.self))
    c.in-None.is c.in_ok-turned.ensures.steps in
    rw (file_same g.C.Code.reads c.steps.self c.step.new.self c.step.ensures.same, s.1, s.2)
    (count_falls (functions_in g.C.Code.reads c.steps.self) view c.steps.fuel (task_in g.C.Code.reads c.steps.self) c.steps.next s.0)
