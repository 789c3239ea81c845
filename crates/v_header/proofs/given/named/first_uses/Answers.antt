-- One connection more.
use Rattle.std.proofs.Common.{rules, ◌≡◌, ℕ, ◌+◌, List, [], ◌∷◌, ◌++◌, map, Option, option_map, is_some, is_none, Bool, ◌&&◌, drop, subst, sym, ap, ◌∙◌}
use Rattle.std.proofs.lemmas.List.{drop_all, append-nil}
use Rattle.v_syntax.specs.declared.item.NamedConnection.{NamedConnection}
use Rattle.v_syntax.specs.ExpressionTrees.{view}
use Rattle.v_syntax.specs.SourceTrees.{view_connection}
use Rattle.name_table.specs.Places.{first_place, noted}
use Rattle.v_header.specs.Names.{texts}
use Rattle.v_header.specs.Given.Uses.{first_uses}
use Rattle.v_header.proofs.GivenLemmas.Orders.{here}
use Rattle.v_header.proofs.GivenLemmas.Uses.{asked_as, seen_too, use_next}
use Rattle.v_header.proofs.given.named.first_uses.Goals as goal

pub loop-place-init : goal.loop-place-init
loop-place-init c = (
  [],
  (
    (λ n. ap (λ (p : List ℕ → Option ℕ). is_some (p n)) c.new-seen.ensures),
    ap (λ (us : List Bool). us ++ first_uses (texts c.args.names.now) [] (map view_connection c.args.connections.now)) c.new-uses.ensures.items,
  ),
)

pub loop-place-preserved : goal.loop-place-preserved
loop-place-preserved c =
    let ns = texts c.args.names.now in
    let cs = c.args.connections.now in
    let j = c.loop-place.place in
    let d = c.index-connections-place.result in
    let seen = c.loop-place.invariant.0 in
    let n = c.bytes-name.result.now in
    let u = c.is_first_use.result in
    let same : n ≡ d.port.name = search rules in
    let whole = first_uses ns [] (map view_connection cs) in (
      d.port.name ∷ seen,
      (
        seen_too seen d.port.name j c.loop-place.seen c.note.new.self c.loop-place.invariant.1.0
            (subst (λ (m : List ℕ). (k : List ℕ) → first_place c.note.new.self k ≡ noted m j (first_place c.loop-place.seen) k) same c.in_ok-note.ensures.ok),
        use_next ns seen d.at d.port (option_map view d.value) (map view_connection (drop (j + 1) cs)) (map view_connection (drop j cs)) c.loop-place.uses.items c.push.new.self.items whole u
            (ap (λ (xs : List NamedConnection). map view_connection xs) (here cs j d c.loop-place-test.true c.index-connections-place.is))
            (asked_as ns seen c.in_ok-known.known c.loop-place.seen d.port.name u c.in_ok-known.ensures c.loop-place.invariant.1.0
            (subst (λ (m : List ℕ). u ≡ (is_some (first_place c.in_ok-known.known m) && is_none (first_place c.loop-place.seen m))) same c.is_first_use.ensures))
            c.in_ok-push.ensures.items c.loop-place.invariant.1.1,
      ),
    )

pub returns : goal.returns
returns c =
    let ns = texts c.args.names.now in
    let us = c.loop-place.uses.items in
    let seen = c.loop-place.invariant.0 in
    sym (append-nil us)
    ∙ ap (λ (xs : List NamedConnection). us ++ first_uses ns seen (map view_connection xs)) (sym (drop_all c.loop-place.place c.args.connections.now c.loop-place-test.false))
    ∙ c.loop-place.invariant.1.1
