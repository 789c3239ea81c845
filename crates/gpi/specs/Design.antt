-- A design as the simulator sees it: signals, and processes over them (IEEE 1364-2005, clause 11.2).
use Rattle.std.specs.Prelude.{ℕ, suc, Bool, true, false, List, [], ◌∷◌, None, map, replicate, if◌then◌else◌}
use Rattle.four_value.specs.declared.Digit.{Digit}
use Rattle.four_value.specs.declared.Digit.TheVariants.{Z}
use Rattle.gpi.specs.declared.design.Kind.{Kind}
use Rattle.gpi.specs.declared.design.Kind.TheVariants.{Assign, Always, Initial}
use Rattle.gpi.specs.declared.design.Wake.{Wake}
use Rattle.gpi.specs.declared.design.Process.{Process}
use Rattle.gpi.specs.declared.design.Signal.{Signal}
use Rattle.gpi.specs.Activation.{Map, Hidden, Run, activation}

-- a process: its kind, what it waits for, and what an activation of it leaves of the shown and the hidden values; bodies that do the same
-- on all of these are equal
pub record Proc : Type 0 where
  pub kind : Kind
  pub wakes : List Wake
  pub run : Map → Hidden → Run

abbrev pub proc_of : Process → Proc
proc_of p = record { kind = p.kind; wakes = p.wakes; run = λ m h. activation p.body (record { signals = m; hidden = h; updates = [] }) }

abbrev pub procs_of : List Process → List Proc
procs_of [] = []
procs_of (p ∷ ps) = proc_of p ∷ procs_of ps

-- the opening map: each signal has its opening digit everywhere
abbrev pub start_map : List Signal → Map
start_map [] = []
start_map (s ∷ ss) = replicate s.width s.start ∷ start_map ss

-- in the opening state no signal is forced
abbrev pub start_hidden : List Signal → Hidden
start_hidden ss = map (λ s. None) ss

-- whether a signal is a net: its opening digit is z (clause 4.2.1)
abbrev pub is_net : Digit → Bool
is_net Z = true
is_net _ = false

-- which signals are nets, by number
abbrev pub nets_of : List Signal → List Bool
nets_of ss = map (λ s. is_net s.start) ss

-- whether a process of this kind is active from the start
abbrev pub starts : Kind → Bool
starts Assign = true
starts Always = false
starts Initial = true

-- the processes that are active from the start, by rising number from n
abbrev pub starters : ℕ → List Proc → List ℕ
starters n [] = []
starters n (p ∷ ps) = if starts p.kind then n ∷ starters (suc n) ps else starters (suc n) ps

abbrev pub widths : List Signal → List ℕ
widths [] = []
widths (s ∷ ss) = s.width ∷ widths ss
