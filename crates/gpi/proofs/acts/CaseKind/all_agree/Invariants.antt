use Rattle.std.proofs.Common.{◌≡◌, drop}
use Rattle.gpi.specs.Cases.{all_agree}
use Rattle.gpi.proofs.acts.CaseKind.all_agree.Given as goal

abbrev pub invariant-loop-i : goal.invariant-loop-i
invariant-loop-i l = all_agree l.self l.a l.b ≡ all_agree l.self (drop l.i l.a) (drop l.i l.b)
