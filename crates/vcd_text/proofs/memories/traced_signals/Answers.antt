use Rattle.std.specs.Prelude.{◌≡◌, ◌∷◌, ◌++◌, [], ℕ, List, length}
use Rattle.std.specs.List.{filter, range_with_len}
use Rattle.std.proofs.Common.{ap, subst, ◌∙◌, arith}
use Rattle.vcd_text.specs.Memories.{is_outside}
use Rattle.vcd_text.specs.declared.memories.Memory.{Memory}
use Rattle.vcd_text.proofs.MemoryLaws.{filter_more, outside_all}
use Rattle.vcd_text.proofs.memories.traced_signals.Goals as goal

pub loop-signal-preserved : goal.loop-signal-preserved
loop-signal-preserved c =
    filter_more (is_outside c.in_ok-memories.memories.items) c.loop-signal.signals.items c.add_signal.new.signals.items c.loop-signal.signal
    (subst (λ (m : List Memory). c.add_signal.new.signals.items ≡ c.loop-signal.signals.items ++ filter (is_outside m) (c.loop-signal.signal ∷ []))
    c.deref.ensures.value c.in_ok-add_signal.ensures)
    c.loop-signal.invariant

pub returns : goal.returns
returns c =
    let low = c.loop-signal-test.false in let high = c.loop-signal.auto.signal-end in let size = c.len-signal-end.ensures in
    let all : c.loop-signal.signal ≡ length c.args.flat.now.signals = omega (arith, low, high, size) in
    c.loop-signal.invariant
    ∙ (ap (λ (n : ℕ). filter (is_outside c.in_ok-memories.memories.items) (range_with_len 0 n)) all
    ∙ outside_all c.args.flat.now.nodes c.in_ok-memories.memories.items c.in_ok-memories.ensures (range_with_len 0 (length c.args.flat.now.signals)))
