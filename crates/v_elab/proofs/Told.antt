-- The flat design, or the broken rule with its byte.
use Rattle.std.proofs.Common.{◌≡◌, ◌≤◌, ◌≢◌, ◌∙◌, ℕ, List, Option, Result, Ok, Err, slice_index_or, refl, sym, ap, subst}
use Rattle.gpi.specs.declared.design.Flat.{Flat}
use Rattle.gpi.specs.Design.{procs_of}
use Rattle.gpi.specs.Soundness.{IsSoundFlat}
use Rattle.v_flat.specs.declared.scope.rule.Broken.{Broken}
use Rattle.v_flat.specs.declared.scope.rule.ElabRule.{ElabRule}
use Rattle.v_flat.specs.declared.scope.rule.ElabRule.TheVariants as rule
use Rattle.v_flat.specs.Scope.Rules.{at}
use Rattle.v_flat.specs.Design.{Design, Modules, SourceText, StandsFor, byte_of, flat_design, flatten, in_bytes, modules_in}
use Rattle.v_layout.specs.declared.build.parts.Parts.{Parts}
use Rattle.v_layout.specs.Build.Parts.{IsFlatOf, IsSoFar}
use Rattle.v_layout.proofs.BuildLemmas.Whole.{built_sound}
use Rattle.v_elab.specs.States.{EndsAs}
use Rattle.v_elab.proofs.BeginEnds.{ends_err, ends_ok}
use Rattle.v_elab.specs.declared.fault.ElabFault.{ElabFault}
use Rattle.v_elab.specs.declared.fault.ElabFault.TheVariants.{Rule, OutOfMemory}
use Rattle.v_elab.specs.Elaborates.{Elaborates}
use Rattle.v_elab.specs.Steps.{IsDesign}

stands : (d : Design) (p : Parts) (step : ℕ) (f : Flat) → IsSoFar d p → IsFlatOf p step f → StandsFor f d step
stands d p step f h g = record {
  signals = g.signals ∙ h.signals;
  nodes = g.nodes ∙ h.nodes;
  processes = ap procs_of g.processes ∙ h.processes;
  step = g.step_is;
}

pub elaborated : (text : SourceText) (top : Option (List ℕ)) (r : Result Parts Broken) (p : Parts) (f : Flat) → IsDesign (modules_in text) top r → r ≡ Ok p → IsFlatOf p text.step_fs f
    → Elaborates text top (Ok f)
elaborated text top r p f h is g =
    let z = ends_ok IsSoFar (flat_design (modules_in text) top) r p h is in
    (z.0, (ap (λ (q : Result Design Broken). in_bytes text.places q) z.1.0, stands z.0 p text.step_fs f z.1.1 g))

pub refused : (text : SourceText) (top : Option (List ℕ)) (r : Result Parts Broken) (b : Broken) (byte : ℕ) → IsDesign (modules_in text) top r → r ≡ Err b → byte ≡ byte_of b.rule text.places b.place
    → Elaborates text top (Err (Rule b.rule byte))
refused text top r b byte h is e =
    ap (λ (q : Result Design Broken). in_bytes text.places q) (ends_err IsSoFar (flat_design (modules_in text) top) r b h is)
    ∙ ap (λ (n : ℕ). (let q : Result Design Broken = Err (at b.rule n) in q)) (sym e)

pub sound : (ms : Modules) (top : Option (List ℕ)) (r : Result Parts Broken) (p : Parts) (step : ℕ) (f : Flat) → IsDesign ms top r → r ≡ Ok p → IsFlatOf p step f → 1 ≤ step → IsSoundFlat f
sound ms top r p step f h is g some =
    let z = ends_ok IsSoFar (flat_design ms top) r p h is in
    (built_sound ms top z.0 p step f z.1.0 z.1.1 g some).0

-- ---- bytes

pub other_byte : (r : ElabRule) (places : List ℕ) (p : ℕ) → r ≢ rule.NoTop → byte_of r places p ≡ slice_index_or places p 0
other_byte rule.NoTop places p h = absurd (h refl)
other_byte rule.UnknownModule places p h = refl
other_byte rule.RecursiveInstance places p h = refl
other_byte rule.DuplicateName places p h = refl
other_byte rule.UnknownName places p h = refl
other_byte rule.BadPort places p h = refl
other_byte rule.NotConstant places p h = refl
other_byte rule.BadRange places p h = refl
other_byte rule.TooWide places p h = refl
other_byte rule.TwoDrivers places p h = refl
other_byte rule.BadTarget places p h = refl
other_byte rule.LoopTooLong places p h = refl
other_byte rule.TooMany places p h = refl
other_byte rule.BadDelay places p h = refl
