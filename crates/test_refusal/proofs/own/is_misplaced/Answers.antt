-- A decorator, or a function.
use Rattle.std.proofs.Common.{◌∙◌, sym}
use Rattle.test_refusal.specs.Places.{place_of}
use Rattle.test_refusal.proofs.Parts.{or_first, or_second}
use Rattle.test_refusal.proofs.Scopes.{misfit_at}
use Rattle.test_refusal.proofs.own.is_misplaced.Goals as goal

pub returns-then-is_stray : goal.returns-then-is_stray
returns-then-is_stray c = or_first _ _ _ (c.is_stray.ensures (place_of c.args.place.now).above) c.if-is_stray.true

pub returns-else-is_stray : goal.returns-else-is_stray
returns-else-is_stray c =
    or_second _ _ _ _ (c.is_stray.ensures (place_of c.args.place.now).above) c.if-is_stray.false (c.has_misfit.ensures ∙ sym (misfit_at c.args.place.now c.args.is_decorated c.requires.stands c.requires.decorated))
