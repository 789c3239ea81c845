-- The text of a path with one name more.
use Rattle.std.proofs.Common.{◌≡◌, ◌≢◌, ℕ, List, [], ◌∷◌, ◌++◌, refl, sym, ◌∙◌, ap}
use Rattle.std.proofs.lemmas.List.{append_assoc}
use Rattle.v_flat.specs.Paths.{Path, path_text, below}
use Rattle.v_layout.specs.Steps.{dotted}
use Rattle.v_layout.specs.Texts.{HasText}

pub more_text : (m : List ℕ) (p : Path) (n : List ℕ) → path_text (below (m ∷ p) n) ≡ dotted (path_text (m ∷ p)) n
more_text m [] n = refl
more_text m (k ∷ ks) n =
    ap (λ (t : List ℕ). m ++ (46 ∷ t)) (more_text k ks n) ∙ sym (append_assoc m (46 ∷ path_text (k ∷ ks)) (46 ∷ n))

-- the path isn't empty
pub below_text : (p : Path) (t n : List ℕ) → HasText p t → path_text (below p n) ≡ dotted t n
below_text [] t n h = absurd (h.named refl)
below_text (m ∷ p) t n h = more_text m p n ∙ ap (λ (u : List ℕ). dotted u n) h.is

not_empty : (p : Path) (n : List ℕ) → below p n ≢ []
not_empty [] n h = cc
not_empty (m ∷ p) n h = cc

pub text_below : (t n u : List ℕ) → u ≡ dotted t n → (p : Path) → HasText p t → HasText (below p n) u
text_below t n u e p h = record { named = not_empty p n; is = below_text p t n h ∙ sym e }
