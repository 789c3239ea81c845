-- Signals, and writes that are of their width.
use Rattle.std.proofs.Common.{◌≡◌, ℕ, suc, ◌<◌, get_or, List, [], ◌∷◌, length, refl, sym, ap, subst, ◌∙◌, arith}
use Rattle.four_value.specs.declared.Digit.{Digit}
use Rattle.gpi.specs.Design.{widths}
use Rattle.gpi.specs.Terms.{widths_of}
use Rattle.gpi.specs.declared.design.Signal.{Signal}
use Rattle.gpi.specs.declared.types.SigId.{SigId}
use Rattle.gpi.proofs.Widths.{length_widths, get_or_widths}
use Rattle.run_view.specs.declared.signal_port.staged.Staged.{Staged}
use Rattle.rig_model.specs.Task.Known.{HasDigits}
use Rattle.rig_model.specs.Parts.Fits.{IsSoundWrite}

count_widths : (ss : List Signal) → length (widths ss) ≡ length ss
count_widths [] = refl
count_widths (s ∷ ss) = ap suc (count_widths ss)

-- there are as many signals as in the design
signal_count : (m : List (List Digit)) (ss : List Signal) → widths_of m ≡ widths ss → length m ≡ length ss
signal_count m ss e = sym (length_widths m) ∙ ap length e ∙ count_widths ss

pub is_inside : (m : List (List Digit)) (ss : List Signal) (sig : SigId) → widths_of m ≡ widths ss → sig.0 < length ss → sig.0 < length m
is_inside m ss sig e h = let n : length m ≡ length ss = signal_count m ss e in omega arith

-- there are as many signals where they are as wide
pub same_count : (m n : List (List Digit)) → widths_of m ≡ widths_of n → length m ≡ length n
same_count m n e = sym (length_widths m) ∙ ap length e ∙ length_widths n

-- a signal has as many digits where all are as wide
pub same_width : (m n : List (List Digit)) (ss : List Signal) (sig : SigId) → widths_of m ≡ widths ss → widths_of n ≡ widths_of m → sig.0 < length ss
    → length (get_or m sig.0 []) ≡ length (get_or n sig.0 [])
same_width m n ss sig e w h =
    sym (get_or_widths m sig.0 [] (is_inside m ss sig e h))
    ∙ ap (λ (ws : List ℕ). get_or ws sig.0 0) (sym w)
    ∙ get_or_widths n sig.0 [] (is_inside n ss sig (w ∙ e) h)

-- what is written of the width of a signal of the design has as many digits as its value
pub written_fits : (m : List (List Digit)) (ss : List Signal) (w : Staged) → widths_of m ≡ widths ss → IsSoundWrite ss w → HasDigits (length (get_or m w.sig.0 [])) w.act
written_fits m ss w e s =
    subst (λ (n : ℕ). HasDigits n w.act) (ap (λ (ws : List ℕ). get_or ws w.sig.0 0) (sym e) ∙ get_or_widths m w.sig.0 [] (is_inside m ss w.sig e s.0)) s.1
