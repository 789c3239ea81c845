-- One more module, a second one of its name, and all of them.
use Rattle.std.proofs.Common.{rules, map}
use Rattle.v_syntax.specs.SourceTrees.{view_module}
use Rattle.v_header.proofs.TopLemmas.Numbering.{numbered_none, twice_here, once_here, all_here}
use Rattle.v_header.proofs.top.numbers.module_numbers.Goals as goal

pub loop-place-init : goal.loop-place-init
loop-place-init c = numbered_none (map view_module c.args.modules.now) c.new-numbers.result (λ n i. c.new-numbers.ensures i n)

pub returns-then-is_some : goal.returns-then-is_some
returns-then-is_some c =
    twice_here c.args.modules.now c.loop-place.place c.index-modules-place.result c.loop-place.numbers c.bytes.result.now c.loop-place-test.true
    c.index-modules-place.is c.bytes.ensures (search rules) c.loop-place.invariant

pub loop-place-preserved : goal.loop-place-preserved
loop-place-preserved c =
    once_here c.args.modules.now c.loop-place.place c.index-modules-place.result c.loop-place.numbers c.note.new.self c.bytes.result.now c.bytes-in-loop-place.result.now
    c.loop-place-test.true c.index-modules-place.is c.bytes.ensures (search rules) c.bytes-in-loop-place.ensures c.in_ok-note.ensures.ok c.loop-place.invariant

pub returns : goal.returns
returns c = all_here c.args.modules.now c.loop-place.place c.loop-place.numbers c.loop-place-test.false c.loop-place.invariant
