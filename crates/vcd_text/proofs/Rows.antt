-- VCD texts that are worked out: of a design with two ports and a register, with one change and with none.
use Rattle.std.specs.Prelude.{◌≡◌, ℕ, suc, zero, ◌<◌, List, [], ◌∷◌, ◌++◌, codes, IsTrue, ◌^◌, Some, None, refl}
use Rattle.std.specs.Fmt.{digits}
use Rattle.std.proofs.Common.{arith, inl, inr, sym}
use Rattle.std.proofs.lemmas.Option.{none-some}
use Rattle.four_value.specs.declared.Digit.TheVariants.{X, Z}
use Rattle.gpi.specs.declared.types.SigId.{SigId}
use Rattle.gpi.specs.declared.design.Spot.TheVariants.{Sig}
use Rattle.gpi.specs.declared.design.Signal.{Signal}
use Rattle.gpi.specs.declared.design.Flat.{Flat}
use Rattle.gpi.specs.Soundness.{IsPlaced, climbs}
use Rattle.vcd_text.specs.Spelling.{line, code, spelled_step}
use Rattle.vcd_text.specs.Traceable.{IsTraceable, IsWithinLimits}
use Rattle.vcd_text.specs.Hierarchy.{most_inner}
use Rattle.vcd_text.specs.Changes.{ValueChange, AreChangesOf}
use Rattle.vcd_text.specs.Text.{vcd}

abbrev sig : ℕ → SigId
sig n = record { 0 = n }

abbrev clk : Signal
clk = record { path = codes "top.clk"; width = 1; start = Z }

abbrev a : Signal
a = record { path = codes "top.a"; width = 8; start = Z }

abbrev q : Signal
q = record { path = codes "top.q"; width = 8; start = X }

-- `top` with the nets `clk` and `a`, and the register `q`; a step is a nanosecond
abbrev flip_flop : Flat
flip_flop = record {
  signals = clk ∷ a ∷ q ∷ [];
  nodes = record {
    path = codes "top";
    children = (codes "clk", Sig (sig 0)) ∷ (codes "a", Sig (sig 1)) ∷ (codes "q", Sig (sig 2)) ∷ [];
  } ∷ [];
  processes = [];
  step_fs = 1000000;
}

-- `a` is 5 at the start
abbrev deposit : ValueChange
deposit = record { time = 0; signal = 1; digits = codes "00000101" }

-- the lines of the first three parts
abbrev opening : List (List ℕ)
opening =
    line (codes "$timescale 1 ns $end")
    ∷ line (codes "$scope module top $end")
    ∷ line (codes "$var wire 1 ! clk $end")
    ∷ line (codes "$var wire 8 \" a [7:0] $end")
    ∷ line (codes "$var reg 8 # q [7:0] $end")
    ∷ line (codes "$upscope $end")
    ∷ line (codes "$enddefinitions $end")
    ∷ line (codes "#0")
    ∷ line (codes "$dumpvars")
    ∷ line (codes "z!")
    ∷ line (codes "bzzzzzzzz \"")
    ∷ line (codes "bxxxxxxxx #")
    ∷ line (codes "$end")
    ∷ []

-- without a change these are all
no_change : vcd flip_flop [] ≡ opening
unfolding digits
no_change = refl

-- with one that comes at the start one more follows
one_change : vcd flip_flop (deposit ∷ []) ≡ opening ++ line (codes "b00000101 \"") ∷ []
unfolding digits
one_change = refl

-- ---- codes of one, two and three letters

codes_of_one : (code 0 ≡ codes "!") × (code 93 ≡ codes "~")
codes_of_one = (refl, refl)

codes_of_more : (code 94 ≡ codes "!\"") × (code 8835 ≡ codes "~~") × (code 8836 ≡ codes "!!\"")
codes_of_more = (refl, refl, refl)

-- ---- steps

steps : (spelled_step 1 ≡ Some (codes "1 fs")) × (spelled_step 100000 ≡ Some (codes "100 ps")) × (spelled_step (10 ^ 17) ≡ Some (codes "100 s")) × (spelled_step 20 ≡ None)
steps = (refl, refl, refl, refl)

-- ---- a VCD text can be written of the design, and this is a change of it

placed : (node : ℕ) → node < 1 → IsPlaced flip_flop.nodes node
placed zero h = (refl, refl)
placed (suc node) h = absurd (omega arith)

inner : (node : ℕ) → node < 1 → IsTrue (climbs most_inner flip_flop.nodes node)
inner zero h = refl
inner (suc node) h = absurd (omega arith)

limits : IsWithinLimits flip_flop
limits = record { signals = omega arith; nodes = omega arith; wide = refl; inner = inner }

traceable : IsTraceable flip_flop
traceable = record {
  tree = record { root = omega arith; each = placed };
  spots = refl;
  top = refl;
  names = (record { names = refl; differ = refl }, tt);
  paths = (((clk, refl, refl), ((a, refl, refl), ((q, refl, refl), tt))), tt);
  opening = (inr refl, (inr refl, (inl refl, tt)));
  order = refl;
  step = λ none. none-some (codes "1 ns") (sym none);
  limits = limits;
}

change_fits : AreChangesOf flip_flop (deposit ∷ [])
change_fits = record {
  each = (record { time = omega arith; signal = a; there = refl; traced = refl; width = refl; digits = refl }, tt);
  times = refl;
}
