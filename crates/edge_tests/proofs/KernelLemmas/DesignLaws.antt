-- What the designs consist of, and that all are sound.
use Rattle.std.proofs.Common.{◌≡◌, ◌≤◌, ◌<◌, ℕ, zero, suc, List, [], ◌∷◌, length, IsTrue, refl, ap, sym, ◌∙◌, subst, arith, Result, Ok, Err, IfOk}
use Rattle.gpi.specs.Activation.{IsSound}
use Rattle.gpi.specs.Design.{widths}
use Rattle.gpi.specs.Limits.{most_elements}
use Rattle.gpi.specs.Made.{MakesArith, MakesUnary}
use Rattle.gpi.specs.Operators.{arith_value}
use Rattle.gpi.specs.Soundness.{IsPlaced, IsSoundFlat, IsTree, are_wakes, are_wide}
use Rattle.gpi.specs.declared.acts.Act.{Act}
use Rattle.gpi.specs.declared.acts.Act.TheVariants.{Blocking}
use Rattle.gpi.specs.declared.design.Flat.{Flat}
use Rattle.gpi.specs.declared.design.Node.{Node}
use Rattle.gpi.specs.declared.design.Process.{Process}
use Rattle.gpi.specs.declared.design.Signal.{Signal}
use Rattle.gpi.specs.declared.operators.Arith.TheVariants.{And}
use Rattle.gpi.specs.declared.operators.Unary.TheVariants.{Invert}
use Rattle.gpi.specs.declared.terms.Term.{Term}
use Rattle.port_io.specs.declared.ports.NoMemory.{NoMemory}
use Rattle.edge_tests.specs.Kernel.Designs.{IsDesign, IsEnabledInverse, IsFeedback, IsInverse, IsInverter, IsOscillator, clocked_copy, flip_flops, one_process, reg, value_of, whole, wire}
use Rattle.edge_tests.specs.declared.kernel.designs.Design.{Design}
use Rattle.edge_tests.specs.declared.kernel.designs.Design.TheVariants.{Oscillator, FlipFlops, DelayedFlipFlops, Inverter}

-- `en & ~y`
enabled_inverse : (inverse t : Term) → MakesUnary Invert (value_of 1 1) inverse → MakesArith And (value_of 0 1) inverse t → IsEnabledInverse t
enabled_inverse inverse t i a = record {
  value_is = λ m. a.value_is m ∙ ap (arith_value And (m 0)) (i.value_is m);
  width_is = a.width_is;
  sound = λ ws h. a.sound ws (h.0, i.sound ws h.1, sym i.width_is);
}

pub enabled_inverse_made : (en y inverse : Term) (made : Result Term NoMemory)
    → en ≡ value_of 0 1 → y ≡ value_of 1 1 → MakesUnary Invert y inverse → IfOk made (MakesArith And en inverse) → IfOk made IsEnabledInverse
enabled_inverse_made en y inverse (Ok t) e f i a =
    enabled_inverse inverse t (subst (λ (x : Term). MakesUnary Invert x inverse) f i) (subst (λ (x : Term). MakesArith And x inverse t) e a)
enabled_inverse_made en y inverse (Err x) e f i a = tt

pub oscillator_made : (process : Process) (signals : List Signal) (made : Result Flat NoMemory)
    → IsFeedback process → IfOk made (λ flat. flat ≡ one_process signals process) → signals ≡ wire 1 ∷ wire 1 ∷ [] → IfOk made IsOscillator
oscillator_made process signals (Ok flat) f is e = record {
  process = process;
  is_feedback = f;
  is = is ∙ ap (λ (s : List Signal). one_process s process) e;
}
oscillator_made process signals (Err e) f is h = tt

pub inverter_made : (process : Process) (signals : List Signal) (made : Result Flat NoMemory)
    → IsInverse process → IfOk made (λ flat. flat ≡ one_process signals process) → signals ≡ wire 1 ∷ wire 1 ∷ reg 1 ∷ [] → IfOk made IsInverter
inverter_made process signals (Ok flat) f is e = record {
  process = process;
  is_inverse = f;
  is = is ∙ ap (λ (s : List Signal). one_process s process) e;
}
inverter_made process signals (Err e) f is h = tt

-- a node alone is a tree
alone : (node : Node) → node.children ≡ [] → IsTree (node ∷ [])
alone node none = record { root = omega arith; each = each }
  where
    each : (v : ℕ) → v < 1 → IsPlaced (node ∷ []) v
    each zero h = rw none (refl, refl)
    each (suc v) h = absurd (omega (arith, h))

process_sound : (signals : List Signal) (process : Process)
    → length signals ≤ most_elements → IsTrue (are_wide signals) → IsSound process.body (widths signals)
    → IsTrue (are_wakes process.wakes (length (widths signals))) → IsSoundFlat (one_process signals process)
process_sound signals process few wide body wakes = record {
  signals = few;
  nodes = omega arith;
  processes = omega arith;
  wide = wide;
  bodies = (body, wakes, tt);
  spots = refl;
  tree = alone (record { path = []; children = [] }) refl;
  step = omega arith;
}

oscillator_sound : (flat : Flat) → IsOscillator flat → IsSoundFlat flat
oscillator_sound flat o =
    let ws : List ℕ = 1 ∷ 1 ∷ [] in
    let value = o.is_feedback.is_value in
    let body : IsSound (Blocking (whole 1 1) o.is_feedback.value) ws =
    ((omega arith, refl, (omega arith, omega arith)), value.sound ws ((omega arith, refl), (omega arith, refl)), value.width_is) in
    subst IsSoundFlat (sym o.is)
    (process_sound (wire 1 ∷ wire 1 ∷ []) o.process (omega arith) refl (subst (λ (a : Act). IsSound a ws) (sym o.is_feedback.body) body)
    (rw o.is_feedback.wakes refl))

flip_flops_sound : (n : ℕ) → IsSoundFlat (flip_flops n)
flip_flops_sound n =
    process_sound _ (clocked_copy n) (omega arith) refl
    (((omega arith, refl, (omega arith, omega arith)), (omega arith, refl), refl)) refl

inverter_sound : (flat : Flat) → IsInverter flat → IsSoundFlat flat
inverter_sound flat o =
    let ws : List ℕ = 1 ∷ 1 ∷ 1 ∷ [] in
    let value = o.is_inverse.is_value in
    let body : IsSound (Blocking (whole 1 1) o.is_inverse.value) ws =
    ((omega arith, refl, (omega arith, omega arith)), value.sound ws (omega arith, refl), value.width_is) in
    subst IsSoundFlat (sym o.is)
    (process_sound (wire 1 ∷ wire 1 ∷ reg 1 ∷ []) o.process (omega arith) refl (subst (λ (a : Act). IsSound a ws) (sym o.is_inverse.body) body)
    (rw o.is_inverse.wakes refl))

pub design_sound : (asked : Design) (flat : Flat) → IsDesign asked flat → IsSoundFlat flat
design_sound Oscillator flat h = oscillator_sound flat h
design_sound FlipFlops flat h = subst IsSoundFlat (sym h) (flip_flops_sound 0)
design_sound DelayedFlipFlops flat h = subst IsSoundFlat (sym h) (flip_flops_sound 3)
design_sound Inverter flat h = inverter_sound flat h
