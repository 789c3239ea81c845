-- A means of proof: worked runs of delayed updates, by which the definition of a run is tried. What is expected was reckoned by hand from the rules.
use Rattle.std.specs.Prelude.{◌≡◌, false, List, [], ◌∷◌, ◌++◌, codes}
use Rattle.four_value.specs.declared.Digit.TheVariants.{X, Z}
use Rattle.gpi.specs.declared.acts.Act.TheVariants.{Nonblocking}
use Rattle.gpi.specs.declared.design.Flat.{Flat}
use Rattle.gpi.specs.declared.design.Kind.TheVariants.{Always}
use Rattle.gpi.specs.declared.design.Spot.TheVariants.{Sig}
use Rattle.gpi.specs.declared.design.WakeEdge.TheVariants.{Pos}
use Rattle.gpi.specs.declared.targets.Object.TheVariants as object
use Rattle.gpi.specs.declared.targets.Target.TheVariants.{Whole}
use Rattle.gpi.specs.declared.terms.Term.TheVariants as term
use Rattle.gpi.specs.declared.types.SigId.{SigId}
use Rattle.gpi.specs.State.{delayed_times}
use Rattle.py_syntax.specs.declared.expression.Function.TheVariants as function
use Rattle.test_meaning.specs.Body.BodyTrees.{Function, Item}
use Rattle.test_meaning.specs.Library.{clock_start}
use Rattle.rig_model.specs.Task.Texts.{read, shown, info, awaits}
use Rattle.rig_model.specs.Run.Line.{line}
use Rattle.rig_model.specs.Run.Rig.{Setup}
use Rattle.rig_model.specs.Run.Texts.{clk, call0, sleeps, stages, coroutine, case_of, t_alone, begins, stopped, all_lines, Works}

-- ---- the design
--
--     module top(input clk, input d, output reg q);
--       always @(posedge clk) q <= #3 d;
--     endmodule

abbrev d : SigId
d = record { 0 = 1 }

abbrev q : SigId
q = record { 0 = 2 }

abbrev delaying_flop : Flat
delaying_flop = record {
  signals = record { path = codes "top.clk"; width = 1; start = Z } ∷ record { path = codes "top.d"; width = 1; start = Z }
      ∷ record { path = codes "top.q"; width = 1; start = X } ∷ [];
  nodes = record { path = codes "top"; children = (codes "clk", Sig clk) ∷ (codes "d", Sig d) ∷ (codes "q", Sig q) ∷ [] } ∷ [];
  processes = record {
    kind = Always;
    wakes = record { sig = clk; edge = Pos } ∷ [];
    body = Nonblocking (Whole (object.Signal q 1)) (term.Signal d 1) 3;
  } ∷ [];
  step_fs = 1000000;
}

abbrev delayed : List Function → Setup
delayed functions = record { functions = functions ++ clock_start ∷ []; flat = delaying_flop; trace = false }

-- `dut._log.info(f"{dut.q.value}")`
abbrev tells_q : Item
tells_q = info (shown (read (codes "q") ∷ []))

-- `dut.d.value = 1; dut.clk.value = 0; await Timer(1, "step"); dut.clk.value = 1`
abbrev clocks : List Item
clocks = stages (codes "d") 1 ∷ stages (codes "clk") 0 ∷ sleeps 1 ∷ stages (codes "clk") 1 ∷ []

-- ---- an update alone makes a time step, and `NextTimeStep` fires in it; without one no time step comes
--
--     dut.d.value = 1
--     dut.clk.value = 0
--     await Timer(1, "step")
--     dut.clk.value = 1
--     await NextTimeStep()
--     dut._log.info(f"{dut.q.value}")
--     await ReadOnly()
--     dut._log.info(f"{dut.q.value}")
--     await NextTimeStep()

abbrev next_steps : Function
next_steps = coroutine [] [] (
    clocks ++ awaits (call0 function.NextTimeStep) ∷ tells_q ∷ awaits (call0 function.ReadOnly) ∷ tells_q ∷ awaits (call0 function.NextTimeStep) ∷ [])

abbrev pub Delayed_update : Type 0
Delayed_update =
    Works (delayed (next_steps ∷ [])) (t_alone 0)
    (begins (line (codes "4 INFO x") ∷ line (codes "4 INFO 1") ∷ line (codes "4 FAIL t (Stalled)") ∷ line (codes "** TESTS=1 PASS=0 FAIL=1 SKIP=0 TIME=4 **") ∷ []))
    (6 ∷ 1 ∷ 5 ∷ []) 16

-- a run that ends at its budget while the update waits for its time
abbrev pub Amid_delay : Type 0
Amid_delay =
    (all_lines (delayed (next_steps ∷ [])) 9 (t_alone 0) ≡ begins (line (codes "BUDGET 9") ∷ []))
    × (delayed_times (stopped (delayed (next_steps ∷ [])) 9 (t_alone 0)).rig.sim.delayed ≡ 4 ∷ [])

-- ---- an update that comes when its test has ended and the next one runs
--
--     one:
--         dut.d.value = 1
--         dut.clk.value = 0
--         await Timer(1, "step")
--         dut.clk.value = 1
--         await Timer(1, "step")
--     two:
--         dut._log.info(f"{dut.q.value}")
--         await Timer(1, "step")
--         dut._log.info(f"{dut.q.value}")
--         await ReadOnly()
--         dut._log.info(f"{dut.q.value}")

abbrev leaves_early : Function
leaves_early = coroutine [] [] (clocks ++ sleeps 1 ∷ [])

abbrev looks_on : Function
looks_on = coroutine [] [] (tells_q ∷ sleeps 1 ∷ tells_q ∷ awaits (call0 function.ReadOnly) ∷ tells_q ∷ [])

abbrev pub Update_of_ended_test : Type 0
Update_of_ended_test =
    Works (delayed (leaves_early ∷ looks_on ∷ [])) (case_of (codes "one") 0 ∷ case_of (codes "two") 1 ∷ [])
    (line (codes "0 TEST one") ∷ line (codes "2 PASS one") ∷ line (codes "3 TEST two") ∷ line (codes "3 INFO x") ∷ line (codes "4 INFO x") ∷ line (codes "4 INFO 1")
    ∷ line (codes "4 PASS two") ∷ line (codes "** TESTS=2 PASS=2 FAIL=0 SKIP=0 TIME=4 **") ∷ []) (7 ∷ 0 ∷ 7 ∷ []) 19
