-- A means of proof: the designs that rows name, and the Verilog text that each stands for (IEEE 1364-2005), for the test program of
-- simulators.
use Rattle.std.specs.Prelude.{◌≡◌, ℕ, List, [], ◌∷◌, Option, Some, None, codes, if◌then◌else◌}
use Rattle.std.specs.Str.{bytes_eq}
use Rattle.four_value.specs.declared.Digit.TheVariants.{X, Z}
use Rattle.gpi.specs.Content.{Content, opening}
use Rattle.gpi.specs.Made.{Makes, MakesUnary}
use Rattle.gpi.specs.Operators.{arith_value, unary_value}
use Rattle.gpi.specs.Terms.{IsSound}
use Rattle.gpi.specs.declared.acts.Act.TheVariants.{Blocking, Nonblocking}
use Rattle.gpi.specs.declared.design.Flat.{Flat}
use Rattle.gpi.specs.declared.design.Kind.TheVariants.{Assign, Always}
use Rattle.gpi.specs.declared.design.Process.{Process}
use Rattle.gpi.specs.declared.design.Signal.{Signal}
use Rattle.gpi.specs.declared.design.Wake.{Wake}
use Rattle.gpi.specs.declared.design.WakeEdge.{WakeEdge}
use Rattle.gpi.specs.declared.design.WakeEdge.TheVariants.{Any, Pos}
use Rattle.gpi.specs.declared.operators.Arith.TheVariants.{And}
use Rattle.gpi.specs.declared.operators.Unary.TheVariants.{Invert}
use Rattle.gpi.specs.declared.targets.Object.TheVariants as object
use Rattle.gpi.specs.declared.targets.Target.{Target}
use Rattle.gpi.specs.declared.targets.Target.TheVariants.{Whole}
use Rattle.gpi.specs.declared.terms.Term.{Term}
use Rattle.gpi.specs.declared.terms.Term.TheVariants as term
use Rattle.gpi.specs.declared.types.SigId.{SigId}
use Rattle.edge_tests.specs.declared.kernel.designs.Design.{Design}
use Rattle.edge_tests.specs.declared.kernel.designs.Design.TheVariants.{Oscillator, FlipFlops, DelayedFlipFlops, Inverter}

-- ---- what all consist of

abbrev pub sig : ℕ → SigId
sig number = record { 0 = number }

-- a net: each digit is z while nothing drives it
abbrev pub wire : ℕ → Signal
wire width = record { path = []; width = width; start = Z }

-- a register: each digit is x until it is written
abbrev pub reg : ℕ → Signal
reg width = record { path = []; width = width; start = X }

abbrev pub wake : ℕ → WakeEdge → Wake
wake number edge = record { sig = sig number; edge = edge }

-- all digits of a signal, as what is read and as what is written
abbrev pub value_of : ℕ → ℕ → Term
value_of number width = term.Signal (sig number) width

abbrev pub whole : ℕ → ℕ → Target
whole number width = Whole (object.Signal (sig number) width)

-- one process over these signals, below a top in which no name is declared, by steps of 1 ns
abbrev pub one_process : List Signal → Process → Flat
one_process signals process = record {
  signals = signals;
  nodes = record { path = []; children = [] } ∷ [];
  processes = process ∷ [];
  step_fs = 1000000;
}

-- ---- `module top(input en, output y); assign y = en & ~y; endmodule`

-- `en & ~y` (clause 5.1.10), where `en` is signal 0 and `y` is signal 1
abbrev pub IsEnabledInverse : Term → Type 0
IsEnabledInverse t = Makes t (λ m. arith_value And (m 0) (unary_value Invert (m 1))) 1
    (λ ws. IsSound (value_of 0 1) ws × IsSound (value_of 1 1) ws)

-- `assign y = en & ~y;`, which runs after each change of an operand (clause 6.1.2)
pub record IsFeedback (process : Process) : Type 0 where
  pub kind : process.kind ≡ Assign
  pub wakes : process.wakes ≡ wake 0 Any ∷ wake 1 Any ∷ []
  pub value : Term
  pub is_value : IsEnabledInverse value
  pub body : process.body ≡ Blocking (whole 1 1) value

-- All of it is told, but for the form of its expression, of which the value on every map is told.
pub record IsOscillator (flat : Flat) : Type 0 where
  pub process : Process
  pub is_feedback : IsFeedback process
  pub is : flat ≡ one_process (wire 1 ∷ wire 1 ∷ []) process

-- ---- `module top(input clk, input [7:0] a, output reg [7:0] q); always @(posedge clk) q <= a; endmodule`

-- `always @(posedge clk) q <= #n a;`, without the delay where n is 0, where `clk`, `a` and `q` are the signals 0, 1 and 2
abbrev pub clocked_copy : ℕ → Process
clocked_copy n = record { kind = Always; wakes = wake 0 Pos ∷ []; body = Nonblocking (whole 2 8) (value_of 1 8) n }

abbrev pub flip_flops : ℕ → Flat
flip_flops n = one_process (wire 1 ∷ wire 8 ∷ reg 8 ∷ []) (clocked_copy n)

-- ---- `module top(input a, output y, output reg q); assign y = ~a; endmodule`

-- `assign y = ~a;`, where `a` and `y` are the signals 0 and 1
pub record IsInverse (process : Process) : Type 0 where
  pub kind : process.kind ≡ Assign
  pub wakes : process.wakes ≡ wake 0 Any ∷ []
  pub value : Term
  pub is_value : MakesUnary Invert (value_of 0 1) value
  pub body : process.body ≡ Blocking (whole 1 1) value

pub record IsInverter (flat : Flat) : Type 0 where
  pub process : Process
  pub is_inverse : IsInverse process
  pub is : flat ≡ one_process (wire 1 ∷ wire 1 ∷ reg 1 ∷ []) process

-- ---- all

-- the design of this name
abbrev pub design_named : List ℕ → Option Design
design_named name =
    if bytes_eq name (codes "oscillator") then Some Oscillator
    else (if bytes_eq name (codes "flip_flops") then Some FlipFlops
    else (if bytes_eq name (codes "delayed_flip_flops") then Some DelayedFlipFlops
    else (if bytes_eq name (codes "inverter") then Some Inverter
    else None)))

abbrev pub IsDesign : Design → Flat → Type 0
IsDesign Oscillator flat = IsOscillator flat
IsDesign FlipFlops flat = flat ≡ flip_flops 0
IsDesign DelayedFlipFlops flat = flat ≡ flip_flops 3
IsDesign Inverter flat = IsInverter flat

-- a simulator is in the opening state of the design
pub record IsOpening (asked : Design) (after : Content) : Type 0 where
  pub flat : Flat
  pub is_design : IsDesign asked flat
  pub opens : after ≡ opening flat
