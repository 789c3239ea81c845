-- A decorator's options, or a factory's.
use Rattle.std.proofs.Common.{◌≡◌, ◌∙◌, ap, sym, map}
use Rattle.std.proofs.lemmas.Result.{IfOk-weaker}
use Rattle.py_syntax.specs.BlockTrees.{view_module_item}
use Rattle.test_meaning.specs.Rules.File.{file_of}
use Rattle.test_meaning.specs.Rules.Rules.{are_right_settings, has_right_options}
use Rattle.test_refusal.specs.Places.{file_of_whole, place_of}
use Rattle.test_refusal.proofs.Scopes.{undecorated}
use Rattle.test_refusal.proofs.options.has_right_options.Goals as goal

pub returns-in-Some : goal.returns-in-Some
returns-in-Some c =
    IfOk-weaker c.are_right_settings.result _
    (λ b. b ≡ has_right_options (file_of_whole c.args.place.now.whole.now) (file_of (place_of c.args.place.now).above) (place_of c.args.place.now).item)
    (λ b h. h ∙ ap (λ its. are_right_settings (file_of (map view_module_item its)) c.in-Some.settings.now) c.deref.ensures.value ∙ sym (c.in-Some.ensures (file_of_whole c.args.place.now.whole.now) (file_of (place_of c.args.place.now).above)))
    c.are_right_settings.ensures

pub returns-in-None : goal.returns-in-None
returns-in-None c = undecorated c.args.place.now c.scope.result c.scope.ensures c.args.makers.now c.requires _ c.has_right_options.ensures c.in-None.ensures
