use Rattle.std.proofs.Common.{◌≡◌, ◌<◌, ◌^◌, drop}
use Rattle.v_lex.specs.Numbers.{decimal_from}
use Rattle.v_lex.proofs.numbers.decimal_of.Given as goal

abbrev pub invariant-loop-byte : goal.invariant-loop-byte
invariant-loop-byte l = record {
  rest : decimal_from l.n (drop l.byte-index l.text) ≡ decimal_from 0 l.text;
  fits : l.n < 2 ^ 128;
}
