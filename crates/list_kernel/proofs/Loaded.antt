-- What a write leaves of a simulator's facts.
use Rattle.std.proofs.Common.{◌≡◌, ℕ, ◌<◌, List, [], length, set, get_or, sym, ◌∙◌, subst}
use Rattle.four_value.specs.declared.Digit.{Digit}
use Rattle.gpi.specs.Terms.{widths_of}
use Rattle.gpi.proofs.Widths.{widths_set, get_or_widths}
use Rattle.gpi.specs.declared.design.Process.{Process}
use Rattle.gpi.specs.Soundness.{AreProcesses}
use Rattle.gpi.specs.Activation.{Hidden, AreHidden}
use Rattle.list_kernel.specs.declared.updates.Updates.{Updates}
use Rattle.list_kernel.specs.Updates.{AreUpdates}

-- a value of its width leaves all widths
pub widths_kept : (m : List (List Digit)) (s : ℕ) (v : List Digit) → s < length m → length v ≡ length (get_or m s []) → widths_of (set m s v) ≡ widths_of m
widths_kept m s v h e = widths_set m s v h (e ∙ sym (get_or_widths m s [] h))

pub sound_kept : (ps : List Process) (m : List (List Digit)) (s : ℕ) (v : List Digit) → s < length m → length v ≡ length (get_or m s []) → AreProcesses ps (widths_of m) → AreProcesses ps (widths_of (set m s v))
sound_kept ps m s v h e = subst (λ (ws : List ℕ). AreProcesses ps ws) (sym (widths_kept m s v h e))

pub hidden_kept : (hs : Hidden) (m : List (List Digit)) (s : ℕ) (v : List Digit) → s < length m → length v ≡ length (get_or m s []) → AreHidden hs (widths_of m) → AreHidden hs (widths_of (set m s v))
hidden_kept hs m s v h e = subst (λ (ws : List ℕ). AreHidden hs ws) (sym (widths_kept m s v h e))

pub updates_kept : (u : Updates) (m : List (List Digit)) (s : ℕ) (v : List Digit) → s < length m → length v ≡ length (get_or m s []) → AreUpdates u (widths_of m) → AreUpdates u (widths_of (set m s v))
updates_kept u m s v h e = subst (λ (ws : List ℕ). AreUpdates u ws) (sym (widths_kept m s v h e))

pub ruleset loaded = (widths_kept, sound_kept, hidden_kept, updates_kept)
