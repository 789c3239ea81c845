use Rattle.std.proofs.Common.{◌≡◌, take, flat_map}
use Rattle.python_tests.specs.Shown.{next_token}
use Rattle.python_tests.proofs.lines.tokens_text.Given as goal

abbrev pub invariant-loop-token : goal.invariant-loop-token
invariant-loop-token l = l.text.items ≡ flat_map next_token (take l.token-index l.tokens)
