-- The module that was found, by the tests.
use Rattle.std.proofs.Common.{ap, not, bytes_eq, sym, ◌∙◌}
use Rattle.std.specs.List.{list_any}
use Rattle.v_syntax.specs.SourceTrees.{view_module}
use Rattle.v_flat.specs.declared.scope.rule.ElabRule.TheVariants as rule
use Rattle.v_flat.specs.Scope.Found.{ended, needs}
use Rattle.v_header.specs.Names.{texts}
use Rattle.v_flat.specs.Design.{find_module}
use Rattle.v_header.specs.Top.Found.{module_in, modules_of}
use Rattle.v_elab.proofs.Known.{there_is}
use Rattle.v_elab.proofs.there.module_there.Goals as goal

pub returns-in-Some : goal.returns-in-Some
returns-in-Some c =
    there_is c.args.name.now c.args.room c.args.instances (modules_of c.args.modules.now) (texts c.args.above.now) c.in-Some.module (not c.is_among-is_new.result) c.has_room-is_room.result
    c.ended.result (ap module_in (sym c.in-Some.is) ∙ c.find.ensures ∙ ap (λ n. find_module n (modules_of c.args.modules.now).list) c.bytes.ensures)
    (ap not (c.is_among-is_new.ensures ∙ ap (λ n. list_any (bytes_eq n) (texts c.args.above.now)) c.bytes-in-Some.ensures)) c.has_room-is_room.ensures
    (c.ended.ensures ∙ ap ended (c.needs-in-Some.ensures ∙ ap (λ f. needs (not c.is_among-is_new.result) rule.RecursiveInstance c.args.name.now.at f) c.needs.ensures))
