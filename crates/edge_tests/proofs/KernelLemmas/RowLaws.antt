-- What a row leaves where its answer is not shown.
use Rattle.std.proofs.Common.{Some, inr, refl, ◌++◌, Result, Ok, Err, OnErr}
use Rattle.gpi.specs.Content.{Content}
use Rattle.edge_tests.specs.Kernel.Calls.{IsAnswered}
use Rattle.edge_tests.specs.Kernel.Shown.{LeavesCall, answer_text, standing_text}
use Rattle.edge_tests.specs.declared.kernel.calls.Answer.{Answer}
use Rattle.edge_tests.specs.declared.kernel.calls.Call.{Call}

on_err : {A E P : Type 0} (r : Result A E) → P → OnErr r P
on_err (Ok v) p = tt
on_err (Err e) p = p

-- the call was answered
pub called : {A E : Type 0} (before after : Content) (call : Call) (a : Answer) (r : Result A E)
    → IsAnswered before call a after → OnErr r (LeavesCall before (Some call) after)
called before after call a r is = on_err r (inr (answer_text a ++ standing_text after, (a, is, refl)))
