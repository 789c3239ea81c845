-- The first of updates that fit.
use Rattle.std.proofs.Common.{◌≡◌, ◌+◌, ◌<◌, ◌≤◌, List, [], ◌∷◌, length, get_or, arith}
use Rattle.gpi.specs.declared.types.Update.{Update}
use Rattle.gpi.specs.Terms.{widths_of}
use Rattle.gpi.specs.Targets.{AreFitting}
use Rattle.gpi.specs.Activation.{Map}
use Rattle.gpi.proofs.Widths.{length_widths, get_or_widths}

pub first_sig : (us rest : List Update) (u : Update) (m : Map) → us ≡ u ∷ rest → AreFitting us (widths_of m) → u.sig.0 < length m
first_sig us rest u m e h =
    let f : AreFitting (u ∷ rest) (widths_of m) = rw e at h in
    let l = length_widths m in
    let k = f.0.0 in
    omega arith

pub first_inside : (us rest : List Update) (u : Update) (m : Map) → us ≡ u ∷ rest → AreFitting us (widths_of m) → u.low + length u.bits ≤ length (get_or m u.sig.0 [])
first_inside us rest u m e h =
    let f : AreFitting (u ∷ rest) (widths_of m) = rw e at h in
    let l = length_widths m in
    let w = get_or_widths m u.sig.0 [] (first_sig us rest u m e h) in
    let k = f.0.1 in
    omega arith
