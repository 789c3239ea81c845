use Rattle.design_tests.specs.Elaboration.Runs.{path_text}
use Rattle.design_tests.proofs.ElaborationLemmas.ListLaws.{behind_space, text_more}
use Rattle.design_tests.proofs.elaboration.values.paths_text.Goals as goal

pub loop-number-preserved : goal.loop-number-preserved
loop-number-preserved c =
    text_more path_text c.args.signals.now c.loop-number.number c.get.result.now c.loop-number.text.items c.extend_from_slice.new.self.items
    c.get.ensures c.loop-number.invariant
    (behind_space _ _ _ _ _ c.in_ok-push.ensures.items c.in_ok-extend_from_slice.ensures.items c.bytes.ensures)
