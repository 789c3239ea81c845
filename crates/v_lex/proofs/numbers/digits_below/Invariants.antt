use Rattle.std.proofs.Common.{◌≡◌, length, take, drop}
use Rattle.std.specs.Prelude.{option_map}
use Rattle.v_lex.specs.Numbers.{digits_below}
use Rattle.v_lex.proofs.numbers.digits_below.Given as goal

abbrev pub invariant-loop-byte : goal.invariant-loop-byte
invariant-loop-byte l = record {
  rest : option_map (take (length l.fn.above)) (digits_below l.bits l.read (drop l.byte-index l.text))
      ≡ option_map (take (length l.fn.above)) (digits_below l.bits l.fn.above l.text);
  width : length l.read ≡ length l.fn.above;
}
