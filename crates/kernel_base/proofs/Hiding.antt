-- The hidden values of the signals.
use Rattle.std.proofs.Common.{◌≡◌, ℕ, zero, suc, ◌<◌, List, [], ◌∷◌, length, set, get_or, replicate, Option, Some, None, refl, sym, ap, ◌∙◌, subst, arith}
use Rattle.std.proofs.lemmas.List.{length-set}
use Rattle.four_value.specs.declared.Digit.{Digit}
use Rattle.gpi.specs.declared.design.Signal.{Signal}
use Rattle.gpi.specs.Terms.{widths_of}
use Rattle.gpi.specs.Design.{start_hidden}
use Rattle.gpi.specs.Events.{or_shown}
use Rattle.gpi.specs.Activation.{Map, Hidden, hidden_in, IsHidden, AreHidden}
use Rattle.gpi.proofs.Widths.{length_widths, get_or_widths}

-- ---- widths

pub hidden_length : (hs : Hidden) (ws : List ℕ) → AreHidden hs ws → length hs ≡ length ws
hidden_length [] [] h = refl
hidden_length (x ∷ hs) (w ∷ ws) h = ap suc (hidden_length hs ws h.1)
hidden_length [] (w ∷ ws) h = absurd h
hidden_length (x ∷ hs) [] h = absurd h

pub hidden_places : (hs : Hidden) (m : Map) → AreHidden hs (widths_of m) → length hs ≡ length m
hidden_places hs m h = hidden_length hs (widths_of m) h ∙ length_widths m

pub hidden_at_place : (hs : Hidden) (ws : List ℕ) (s : ℕ) (o : Option (List Digit)) → AreHidden hs ws → hidden_in hs s ≡ o → s < length ws → IsHidden o (get_or ws s 0)
hidden_at_place [] [] s o h e k = absurd (omega arith)
hidden_at_place (x ∷ hs) (w ∷ ws) zero o h e k = subst (λ (q : Option (List Digit)). IsHidden q w) e h.0
hidden_at_place (x ∷ hs) (w ∷ ws) (suc s) o h e k = hidden_at_place hs ws s o h.1 e (omega arith)
hidden_at_place [] (w ∷ ws) s o h e k = absurd h
hidden_at_place (x ∷ hs) [] s o h e k = absurd h

-- a hidden value has the width of its signal
pub hidden_width : (hs : Hidden) (m : Map) (s : ℕ) (ds : List Digit) → AreHidden hs (widths_of m) → hidden_in hs s ≡ Some ds → s < length m → length ds ≡ length (get_or m s [])
hidden_width hs m s ds h e k =
    let l = length_widths m in
    hidden_at_place hs (widths_of m) s (Some ds) h e (omega arith) ∙ get_or_widths m s [] k

-- and so has what writes go to
pub stored_width : (hs : Hidden) (m : Map) (s : ℕ) → AreHidden hs (widths_of m) → s < length m → length (or_shown (hidden_in hs s) (get_or m s [])) ≡ length (get_or m s [])
stored_width hs m s h k = by_case (hidden_in hs s) refl
  where
    by_case : (o : Option (List Digit)) → hidden_in hs s ≡ o → length (or_shown o (get_or m s [])) ≡ length (get_or m s [])
    by_case None e = refl
    by_case (Some ds) e = hidden_width hs m s ds h e k

hidden_set : (hs : Hidden) (ws : List ℕ) (s : ℕ) (o : Option (List Digit)) → AreHidden hs ws → s < length ws → IsHidden o (get_or ws s 0) → AreHidden (set hs s o) ws
hidden_set [] [] s o h k i = h
hidden_set (x ∷ hs) (w ∷ ws) zero o h k i = (i, h.1)
hidden_set (x ∷ hs) (w ∷ ws) (suc s) o h k i = (h.0, hidden_set hs ws s o h.1 (omega arith) i)
hidden_set [] (w ∷ ws) s o h k i = absurd h
hidden_set (x ∷ hs) [] s o h k i = absurd h

pub hides : (hs : Hidden) (m : Map) (s : ℕ) (ds : List Digit) → AreHidden hs (widths_of m) → s < length m → length ds ≡ length (get_or m s []) → AreHidden (set hs s (Some ds)) (widths_of m)
hides hs m s ds h k e =
    let l = length_widths m in
    hidden_set hs (widths_of m) s (Some ds) h (omega arith) (e ∙ sym (get_or_widths m s [] k))

pub unhides : (hs : Hidden) (m : Map) (s : ℕ) → AreHidden hs (widths_of m) → s < length m → AreHidden (set hs s None) (widths_of m)
unhides hs m s h k = let l = length_widths m in hidden_set hs (widths_of m) s None h (omega arith) tt

pub none_hidden : (ws : List ℕ) → AreHidden (replicate (length ws) None) ws
none_hidden [] = tt
none_hidden (w ∷ ws) = (tt, none_hidden ws)

-- the widths tell how many signals there are
pub same_places : (m n : Map) → widths_of m ≡ widths_of n → length m ≡ length n
same_places m n e = sym (length_widths m) ∙ (ap length e ∙ length_widths n)

pub start_unforced : (ss : List Signal) → start_hidden ss ≡ replicate (length ss) None
start_unforced [] = refl
start_unforced (s ∷ ss) = ap (λ (h : Hidden). None ∷ h) (start_unforced ss)

pub ruleset hiding = (hidden_places, hides, unhides, length-set)
