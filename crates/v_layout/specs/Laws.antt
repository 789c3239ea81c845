-- A means of proof: laws of declarations and of the names that they give, for the proofs of elaboration.
use Rattle.std.specs.Prelude.{ℕ, ◌≤◌, List, ◌++◌, length, map}
use Rattle.std.specs.List.{All}
use Rattle.gpi.specs.Design.{widths}
use Rattle.v_syntax.specs.SourceTrees.{ModuleTree}
use Rattle.v_flat.specs.Scope.Found.{HoldsOk}
use Rattle.v_flat.specs.Scope.Limits.{most_parts}
use Rattle.v_flat.specs.Scope.Scope.{Scope, means}
use Rattle.v_flat.specs.Headers.{ports_of}
use Rattle.v_flat.specs.Declarations.{Declared, Place, declarations, in_order}
use Rattle.v_flat.specs.Paths.{Path, SignalAt, signal_of}
use Rattle.v_flat.specs.Design.{entries, all_signals}
use Rattle.v_check.specs.Names.Proper.{AreProper}
use Rattle.v_header.specs.declared.parameter.constants.Constant.{Constant}
use Rattle.v_header.specs.declared.parameter.constants.Constants.{Constants}
use Rattle.v_header.specs.Parameter.Constants.{AreConstants, entries_of}
use Rattle.v_layout.specs.Fits.{IsProperDeclared, Fit}
use Rattle.v_layout.specs.Named.{AreSignals}

-- what is declared without a broken rule fits behind the signals so far, with the ports first too
abbrev pub Declarations_fit : Type 0
Declarations_fit = (w : Place) (m : ModuleTree) → w.first ≤ most_parts → HoldsOk (λ (ds : List Declared). Fit w.first (in_order (ports_of m) ds)) (declarations w m)

-- in the scope of an instance each vector has 1 to 128 digits, each memory at most 65,536 words, and each constant as many digits as its range
abbrev pub Scopes_are_proper : Type 0
Scopes_are_proper = (c : Constants) (first : ℕ) (ds : List Declared) → AreConstants c → All IsProperDeclared ds → AreProper (means (entries_of c.list.items ++ entries first ds))

-- each name in it is a signal of the design that has those of the instance behind the others
abbrev pub Names_are_signals : Type 0
Names_are_signals = (cs : List Constant) (path : Path) (so_far : List SignalAt) (ds : List Declared) → All IsProperDeclared ds
    → AreSignals (means (entries_of cs ++ entries (length so_far) ds)) (widths (map signal_of (so_far ++ all_signals path (length so_far) ds)))

-- names stay signals of a design when signals are added behind
abbrev pub Names_stay_signals : Type 0
Names_stay_signals = (s : Scope) (signals more : List SignalAt) → AreSignals s (widths (map signal_of signals)) → AreSignals s (widths (map signal_of (signals ++ more)))
