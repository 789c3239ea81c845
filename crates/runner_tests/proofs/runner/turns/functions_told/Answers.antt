use Rattle.std.proofs.Common.{◌≡◌, ◌∙◌, List, ap, false, map, subst, sym, true}
use Rattle.std.specs.Prelude.{string_bytes}
use Rattle.port_io.specs.Means.{sink_means}
use Rattle.test_meaning.specs.Body.BodyTrees.{Function}
use Rattle.test_meaning.specs.Body.Sound.{is_sound_case}
use Rattle.test_meaning.specs.Body.Views.{view_case, view_file, view_function}
use Rattle.rig_model.specs.Run.Rig.{Setup}
use Rattle.command.proofs.RegressionLemmas.Stands.{empty_of}
use Rattle.command.specs.Answer.{setup_with}
use Rattle.command.proofs.FileRuns.{maker_sound, opens, setup_same}
use Rattle.task_core.specs.Code.Functions.{function_of}
use Rattle.plain_task.specs.Tree.{read_tree}
use Rattle.plain_task.specs.declared.functions.TreeFunctions.{TreeFunctions}
use Rattle.runner_tests.specs.Runner.Turns.{opening_rig}
use Rattle.runner_tests.proofs.RunnerLemmas.Told.{options, tells_as}
use Rattle.runner_tests.proofs.runner.turns.functions_told.Goals as goal

pub begun_told-requires-clause-fits : goal.begun_told-requires-clause-fits
begun_told-requires-clause-fits g c =
    let made = map (function_of read_tree) c.new-maker.result.functions.now.functions.items in
    rw c.in_ok-load.ensures.opening
    (c.in_ok-engine.ensures.fits c.requires.flat (maker_sound c.args.file.now made
    (ap (λ (fs : TreeFunctions). map (function_of read_tree) fs.functions.items) c.new-maker.ensures ∙ c.requires.functions) c.requires.file))

pub begun_told-requires-clause-empty : goal.begun_told-requires-clause-empty
begun_told-requires-clause-empty g c =
    empty_of _ _ _ _ (c.in_ok-engine.ensures.empty (g.K.Gpi.content c.load.new.self))

pub begun_told-requires-clause-sound : goal.begun_told-requires-clause-sound
begun_told-requires-clause-sound g c =
    subst (λ (fs : List Function). is_sound_case fs (view_case c.args.case.now) ≡ true)
    (sym (ap (λ (s : Setup). s.functions) c.in_ok-engine.ensures.setup
    ∙ ap (λ (fs : TreeFunctions). map (function_of read_tree) fs.functions.items) c.new-maker.ensures ∙ c.requires.functions)) c.requires.case

pub returns : goal.returns
returns g c =
    let made = map (function_of read_tree) c.new-maker.result.functions.now.functions.items in
    let are = ap (λ (fs : TreeFunctions). map (function_of read_tree) fs.functions.items) c.new-maker.ensures ∙ c.requires.functions in
    let same = setup_same options c.args.flat.now c.args.file.now made _ are c.in_ok-engine.ensures.setup in
    tells_as (sink_means g.O.Sink) (setup_with false c.args.flat.now (view_file c.args.file.now)) _ (view_case c.args.case.now) _ _ c.args.out.now same
    (opens options c.args.flat.now c.args.file.now made _ are c.in_ok-engine.ensures.setup (g.K.Gpi.content c.load.new.self) _ c.in_ok-load.ensures.opening
    (c.in_ok-engine.ensures.empty (g.K.Gpi.content c.load.new.self)) ∙ ap opening_rig same) string_bytes c.begun_told.result c.begun_told.ensures
