use Rattle.std.proofs.Common.{◌≡◌, ◌^◌, ◌<◌, false, drop}
use Rattle.py_syntax.specs.Numbers.{digits_from}
use Rattle.py_lex.specs.Limit.{limited_option}
use Rattle.py_lex.proofs.numbers.digits_value.Given as goal

abbrev pub invariant-loop-byte : goal.invariant-loop-byte
invariant-loop-byte l = record {
  small : l.value < 2 ^ 127;
  same : limited_option (digits_from l.base l.after_digit l.value (drop l.byte-index l.digits)) ≡ limited_option (digits_from l.base false 0 l.digits);
}
