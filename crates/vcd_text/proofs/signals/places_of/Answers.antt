use Rattle.std.proofs.Common.{ap, arith, refl}
use Rattle.name_table.specs.Places.{Places}
use Rattle.vcd_text.proofs.PathLaws.{place_more}
use Rattle.vcd_text.proofs.signals.places_of.Goals as goal

pub loop-at-init : goal.loop-at-init
loop-at-init c = λ path. ap (λ (places : Places). places path) c.new-places.ensures

pub loop-at-preserved : goal.loop-at-preserved
loop-at-preserved c =
    let low = c.loop-at-test.true in
    place_more c.args.signals.now c.args.traced.now c.loop-at.at _ c.loop-at.places c.note_signal.new.places (omega (arith, low)) refl
    c.loop-at.invariant c.in_ok-note_signal.ensures
