-- Turns one after another.
use Rattle.std.proofs.Common.{◌≡◌, ℕ, suc, List, Some, Result, Ok, Err, IsErr, subst}
use Rattle.port_io.specs.Means.{SinkMeans}
use Rattle.port_io.specs.declared.ports.NoMemory.{NoMemory}
use Rattle.rig_model.specs.Run.Rig.{Rig, Setup}
use Rattle.rig_model.specs.Parts.Steps.{FitSteps, TurnSteps, anywhere, Moves, Begins}
use Rattle.scheduler.proofs.StepLaws.{turn_anywhere}
use Rattle.scheduler.specs.Turns.{TurnsTo, Turning}
use Rattle.scheduler.proofs.TurnLaws.{turning_then}
use Rattle.scheduler.specs.declared.turned.Turn.{Turn}
use Rattle.scheduler.specs.declared.turned.Turn.TheVariants.{Went, Due, Over, Spent, WriteFault}

module _ (setup : Setup) where
  moves_anywhere : (fuel : ℕ) (c : Rig) (lines : List (List ℕ)) (fuel' : ℕ) (e : Rig) → Moves (TurnSteps setup) fuel c lines fuel' e → Moves (FitSteps anywhere setup) fuel c lines fuel' e
  moves_anywhere fuel c lines fuel' e m = record { count = m.count; steps = turn_anywhere setup (suc m.count) fuel c lines fuel' e m.steps }

  begins_anywhere : (fuel : ℕ) (c : Rig) (lines : List (List ℕ)) → Begins (TurnSteps setup) fuel c lines → Begins (FitSteps anywhere setup) fuel c lines
  begins_anywhere fuel c lines b = record { count = b.count; left = b.left; last = b.last; steps = turn_anywhere setup b.count fuel c lines b.left b.last b.steps }

  turns_anywhere : (fuel : ℕ) (c : Rig) (lines : List (List ℕ)) (r : Result Turn NoMemory) (fuel' : ℕ) (e : Rig) → TurnsTo (TurnSteps setup) setup fuel c lines r fuel' e → TurnsTo (FitSteps anywhere setup) setup fuel c lines r fuel' e
  turns_anywhere fuel c lines (Ok Went) fuel' e h = (moves_anywhere fuel c lines fuel' e h.0, h.1)
  turns_anywhere fuel c lines (Ok Due) fuel' e h = (moves_anywhere fuel c lines fuel' e h.0, h.1, h.2)
  turns_anywhere fuel c lines (Ok (Over o)) fuel' e h = moves_anywhere fuel c lines fuel' (record e { outcome = Some o }) h
  turns_anywhere fuel c lines (Ok Spent) fuel' e h = record { count = h.count; last = h.last; steps = turn_anywhere setup h.count fuel c lines fuel' h.last h.steps; no_fit = h.no_fit }
  turns_anywhere fuel c lines (Ok WriteFault) fuel' e h = begins_anywhere fuel c lines h
  turns_anywhere fuel c lines (Err x) fuel' e h = begins_anywhere fuel c lines h

module _ {O : Type 0} (sink : SinkMeans O) (setup : Setup) where
  -- a turn is one of many
  pub turning_anywhere : (setup' : Setup) (fuel : ℕ) (c : Rig) (out : O) (r : Result Turn NoMemory) (fuel' : ℕ) (e : Rig) (out' : O) → setup' ≡ setup
      → Turning sink (TurnSteps setup') setup' fuel c out r fuel' e out' → Turning sink (FitSteps anywhere setup) setup fuel c out r fuel' e out'
  turning_anywhere setup' fuel c out r fuel' e out' s t =
      subst (λ (x : Setup). Turning sink (FitSteps anywhere x) x fuel c out r fuel' e out') s
      (record { lines = t.lines; turns = turns_anywhere setup' fuel c t.lines r fuel' e t.turns; puts = t.puts })

  -- a turn that went, and then others
  pub went_then : (setup' : Setup) (fuel : ℕ) (c : Rig) (out : O) (a : Result Turn NoMemory) (f : ℕ) (d : Rig) (mid : O) (r : Result Turn NoMemory) (fuel' : ℕ) (e : Rig) (out' : O)
      → setup' ≡ setup → a ≡ Ok Went → Turning sink (TurnSteps setup') setup' fuel c out a f d mid
      → Turning sink (FitSteps anywhere setup) setup f d mid r fuel' e out' → Turning sink (FitSteps anywhere setup) setup fuel c out r fuel' e out'
  went_then setup' fuel c out a f d mid r fuel' e out' s h t more =
      let first : Turning sink (FitSteps anywhere setup) setup fuel c out (Ok Went) f d mid
      = subst (λ (x : Result Turn NoMemory). Turning sink (FitSteps anywhere setup) setup fuel c out x f d mid) h (turning_anywhere setup' fuel c out a f d mid s t) in
      turning_then sink anywhere setup fuel c out first.lines f d mid r fuel' e out' first.turns.1 first.turns.0 first.puts more

  -- want of memory is one, however it is told
  pub turning_err : (setup' : Setup) (fuel : ℕ) (c : Rig) (out : O) (x : NoMemory) (r : Result Turn NoMemory) (fuel' : ℕ) (e : Rig) (out' : O) → setup' ≡ setup → IsErr r
      → Turning sink (TurnSteps setup') setup' fuel c out (Err x) fuel' e out' → Turning sink (FitSteps anywhere setup) setup fuel c out r fuel' e out'
  turning_err setup' fuel c out x (Ok t) fuel' e out' s h p = cc
  turning_err setup' fuel c out x (Err y) fuel' e out' s h p =
      let q : Turning sink (FitSteps anywhere setup) setup fuel c out (Err x) fuel' e out' = turning_anywhere setup' fuel c out (Err x) fuel' e out' s p in
      record { lines = q.lines; turns = q.turns; puts = q.puts }
