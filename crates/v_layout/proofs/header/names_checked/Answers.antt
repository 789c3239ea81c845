-- One name more.
use Rattle.std.proofs.Common.{rules, ◌≡◌, ℕ, ◌+◌, List, [], ◌∷◌, drop, Option, is_none, refl, sym, ap, ◌∙◌}
use Rattle.v_flat.specs.Declarations.{names_checked}
use Rattle.v_layout.specs.Place.{place_in}
use Rattle.v_layout.proofs.Loops.{seen_too, asked_as, one_named}
use Rattle.v_layout.proofs.DeclareTurns.{here}
use Rattle.v_layout.proofs.header.names_checked.Goals as goal

pub loop-at-init : goal.loop-at-init
loop-at-init c = ([], ((λ n. ap (λ (p : List ℕ → Option ℕ). is_none (p n)) c.new-seen.ensures), refl))

pub loop-at-preserved : goal.loop-at-preserved
loop-at-preserved c =
    let w = place_in c.args.place.now in
    let j = c.loop-at.at in
    let i = c.index-names-at.result in
    let seen = c.loop-at.invariant.0 in
    let same : c.bytes.result.now ≡ i.name = search rules in (
      c.bytes.result.now ∷ seen,
      (
        seen_too c.loop-at.seen c.note.new.self seen c.bytes.result.now _ c.loop-at.invariant.1.0 c.in_ok-note-in-Ok.ensures.ok,
        ap (λ (l : List ℕ). names_checked w (l ∷ seen) (drop (j + 1) c.args.names.now)) same
            ∙ one_named w seen i (drop (j + 1) c.args.names.now) (drop j c.args.names.now) c.name_checked.result c.in-Ok.field-0 _
            (here c.args.names.now j i c.loop-at-test.true c.index-names-at.is)
            (asked_as w c.loop-at.seen seen i c.name_checked.result c.loop-at.invariant.1.0 c.name_checked.ensures) c.in-Ok.ensures c.loop-at.invariant.1.1,
      ),
    )
