use Rattle.std.proofs.Common.{sym}
use Rattle.four_value.proofs.Equality.{case_equal_same, case_equal_apart, planes_same, planes_apart}
use Rattle.four_value.proofs.vector.Bits.case_eq.Goals as goal
use Rattle.four_value.proofs.vector.Bits.case_eq.Goals.{else-self-other-via-then-self-other+else-self-other-2, else-self-other-via-else-self-other}

pub returns-then-self-other-2 : goal.returns-then-self-other-2
returns-then-self-other-2 c =
    sym (case_equal_same _ _ (planes_same _ _ _ _ _ _ _ _ c.self.view_is c.other.view_is c.requires c.if-self-other.true c.if-self-other-2.true))

pub returns-else-self-other : goal.returns-else-self-other
returns-else-self-other c =
    sym (case_equal_apart _ _ (λ e.
    let p = planes_apart _ _ _ _ _ _ _ _ c.self.view_is c.other.view_is c.self.invariant.value_fits c.self.invariant.unknown_fits c.other.invariant.value_fits c.other.invariant.unknown_fits e in
    elim c.else-self-other.branch [ else-self-other-via-then-self-other+else-self-other-2 w ↦ w.if-self-other-2.false p.1 | else-self-other-via-else-self-other w ↦ w.if-self-other.false p.0 ]))
