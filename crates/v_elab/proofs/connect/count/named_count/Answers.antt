-- One connection more.
use Rattle.std.proofs.Common.{rules, ◌≡◌, ℕ, ◌+◌, List, [], ◌∷◌, map, Option, None, option_map, is_some, if◌then◌else◌, refl, sym, ◌∙◌, ap, subst, arith}
use Rattle.name_table.specs.Places.{first_place, noted}
use Rattle.v_syntax.specs.ExpressionTrees.{Tree, view}
use Rattle.v_syntax.specs.SourceTrees.{view_connection}
use Rattle.v_flat.specs.Headers.{find_port}
use Rattle.v_flat.specs.Design.{named_count, named_made}
use Rattle.v_header.specs.Ports.{port_in}
use Rattle.v_elab.specs.Connect.Found.{value_in}
use Rattle.v_elab.proofs.ConnectLemmas.Steps.{seen_too}
use Rattle.v_elab.proofs.ConnectLemmas.Counts.{counted_next, counted_end, named_rest, named_here, named_none}
use Rattle.v_elab.proofs.connect.count.named_count.Goals as goal

pub loop-at-init : goal.loop-at-init
loop-at-init c = ([], ((λ n. ap (λ (p : List ℕ → Option ℕ). is_some (p n)) c.new-seen.ensures), record { sum_is = omega arith; few = omega arith }))

pub loop-at-preserved : goal.loop-at-preserved
loop-at-preserved c =
    let cs = c.args.connections.now in
    let ps = c.args.ports.now in
    let i = c.loop-at.at in
    let d = c.index-connections-at.result in
    let n = c.bytes-name.result.now in
    let seen = c.loop-at.invariant.0 in
    let o = option_map port_in c.unseen_port.result in
    let v = value_in c.as_ref.result in
    let same : n ≡ d.port.name = search rules in
    let given : v ≡ option_map view d.value = search rules in
    let rest = named_rest cs ps (d.port.name ∷ seen) (i + 1) in (
      d.port.name ∷ seen,
      (
        seen_too seen d.port.name i c.loop-at.seen c.note.new.self c.loop-at.invariant.1.0
            (subst (λ (m : List ℕ). (k : List ℕ) → first_place c.note.new.self k ≡ noted m i (first_place c.loop-at.seen) k) same c.in_ok-note.ensures.ok),
        counted_next (named_count ps [] (map view_connection cs)) (named_rest cs ps seen i) rest c.loop-at.count c.made-count.result (c.loop-at.count + c.made-count.result) i
            (named_here cs ps seen c.loop-at.seen i d o c.loop-at-test.true c.index-connections-at.is c.loop-at.invariant.1.0
            (subst (λ (m : List ℕ). o ≡ (if is_some (first_place c.loop-at.seen m) then None else find_port m ps)) same c.unseen_port.ensures)
            ∙ ap (λ (w : Option Tree). named_made o w + rest) (sym given) ∙ ap (λ (k : ℕ). k + rest) (sym c.made-count.ensures.is))
            c.made-count.ensures.few refl c.loop-at.invariant.1.1,
      ),
    )

pub returns : goal.returns
returns c =
    counted_end (named_count c.args.ports.now [] (map view_connection c.args.connections.now))
    (named_rest c.args.connections.now c.args.ports.now c.loop-at.invariant.0 c.loop-at.at) c.loop-at.count c.loop-at.at
    (named_none c.args.connections.now c.args.ports.now c.loop-at.invariant.0 c.loop-at.at c.loop-at-test.false) c.loop-at.invariant.1.1
