-- What is found in a list of an item is that of the trees of its elements.
use Rattle.std.proofs.Common.{IfOk, sym, subst}
use Rattle.v_syntax.specs.declared.item.ItemKind.{ItemKind}
use Rattle.v_syntax.specs.SourceTrees.{view_driver, view_kind, view_net, view_register}
use Rattle.v_flat.specs.Design.{driver, in_turn, net, register}
use Rattle.v_elab.specs.ItemsSteps.{IsStep, item_step}
use Rattle.v_elab.proofs.Turns.{turns_found}
use Rattle.v_elab.proofs.items.found_in.Goals as goal

pub returns-in-Nets : goal.returns-in-Nets
returns-in-Nets c =
    subst (λ (k : ItemKind). IfOk c.in_turn.result (IsStep (item_step c.args.timing (view_kind k)) c.args.state)) (sym c.in-Nets.is)
    (turns_found net view_net c.in-Nets.declarators.items c.args.state c.in_turn.result
    (subst (λ xs. IfOk c.in_turn.result (IsStep (in_turn (λ a. net (view_net a)) xs) c.args.state)) c.deref.ensures.value c.in_turn.ensures))

pub returns-in-Registers : goal.returns-in-Registers
returns-in-Registers c =
    subst (λ (k : ItemKind). IfOk c.in_turn-in-Registers.result (IsStep (item_step c.args.timing (view_kind k)) c.args.state)) (sym c.in-Registers.is)
    (turns_found register view_register c.in-Registers.declarators.items c.args.state c.in_turn-in-Registers.result
    (subst (λ xs. IfOk c.in_turn-in-Registers.result (IsStep (in_turn (λ a. register (view_register a)) xs) c.args.state)) c.deref-in-Registers.ensures.value c.in_turn-in-Registers.ensures))

pub returns-in-ContinuousAssignments : goal.returns-in-ContinuousAssignments
returns-in-ContinuousAssignments c =
    subst (λ (k : ItemKind). IfOk c.in_turn-in-ContinuousAssignments.result (IsStep (item_step c.args.timing (view_kind k)) c.args.state)) (sym c.in-ContinuousAssignments.is)
    (turns_found driver view_driver c.in-ContinuousAssignments.list.items c.args.state c.in_turn-in-ContinuousAssignments.result
    (subst (λ xs. IfOk c.in_turn-in-ContinuousAssignments.result (IsStep (in_turn (λ a. driver (view_driver a)) xs) c.args.state)) c.deref-in-ContinuousAssignments.ensures.value c.in_turn-in-ContinuousAssignments.ensures))
