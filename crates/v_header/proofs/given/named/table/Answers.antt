-- One name more.
use Rattle.std.proofs.Common.{ℕ, ◌+◌, List, ◌||◌, Option, is_some, drop, ap, bytes_eq}
use Rattle.std.specs.List.{list_any}
use Rattle.std.specs.Borrow.{Bor}
use Rattle.std.proofs.lemmas.List.{drop_all, drop_more}
use Rattle.v_header.specs.Names.{texts}
use Rattle.v_header.proofs.GivenLemmas.Uses.{others_too, others_end}
use Rattle.v_header.proofs.given.named.table.Goals as goal

pub loop-place-init : goal.loop-place-init
loop-place-init c = λ n. ap (λ (p : List ℕ → Option ℕ). is_some (p n) || list_any (bytes_eq n) (texts c.args.names.now)) c.new-table.ensures

pub loop-place-preserved : goal.loop-place-preserved
loop-place-preserved c =
    let ns = c.args.names.now in
    let i = c.loop-place.place in
    others_too (texts ns) (texts (drop i ns)) (texts (drop (i + 1) ns)) _ i c.loop-place.table c.note.new.self
    (ap (λ (xs : List (Bor (List ℕ))). texts xs) (drop_more ns i _ c.loop-place-test.true)) c.loop-place.invariant c.in_ok-note.ensures.ok

pub returns : goal.returns
returns c = others_end (texts c.args.names.now) (texts (drop c.loop-place.place c.args.names.now)) c.loop-place.table
    (ap (λ (xs : List (Bor (List ℕ))). texts xs) (drop_all c.loop-place.place c.args.names.now c.loop-place-test.false)) c.loop-place.invariant
