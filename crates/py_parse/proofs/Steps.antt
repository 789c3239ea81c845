-- One step of reading lines.
use Rattle.std.proofs.Common.{◌≡◌, ap, Option, List, [], ◌∷◌, ◌++◌, Result, Ok, Err, refl, sym, ◌∙◌}
use Rattle.py_syntax.specs.Line.{Line}
use Rattle.py_syntax.specs.Outline.{Content, Placed, Refusal, bad_line, no_block, too_deep, with_last, word_of}
use Rattle.py_syntax.specs.declared.keyword.Keyword.{Keyword}
use Rattle.py_syntax.specs.declared.outline.OpenBlock.{OpenBlock}
use Rattle.py_parse.specs.Reading.{stands, refused, outcome, placed_line, outline_onto}
use Rattle.py_parse.specs.Found.{Fails, FailsSo}
use Rattle.py_parse.specs.declared.fault.PyFault.{PyFault}
use Rattle.py_parse.specs.declared.fault.PyFault.TheVariants as fault

pub outline_next : (ps : List Placed) (bs cs : List OpenBlock) (c : Content) (l : Line) (ls : List Line) → outcome bs l ls ≡ stands cs c
    → outline_onto ps bs (l ∷ ls) ≡ outline_onto (ps ++ (placed_line l cs c ∷ [])) (with_last (word_of l.tokens) cs) ls
unfolding outline_onto
outline_next ps bs cs c l ls e = rw e refl

pub outline_refused : (ps : List Placed) (bs : List OpenBlock) (r : Refusal) (l : Line) (ls : List Line) → outcome bs l ls ≡ refused r → outline_onto ps bs (l ∷ ls) ≡ Err r
unfolding outline_onto
outline_refused ps bs r l ls e = rw e refl

pub outline_done : (ps : List Placed) (bs : List OpenBlock) → outline_onto ps bs [] ≡ Ok ps
unfolding outline_onto
outline_done ps bs = refl

pub outline_fails : (ps : List Placed) (bs : List OpenBlock) (l : Line) (ls rest : List Line) (e : PyFault) (a : Result (List Placed) Refusal) → rest ≡ l ∷ ls
    → FailsSo e (outcome bs l ls) → outline_onto ps bs rest ≡ a → Fails e a
outline_fails ps bs l ls rest (fault.BadLine n) a r h g = sym g ∙ rw r (outline_refused ps bs (bad_line n) l ls h)
outline_fails ps bs l ls rest (fault.NoBlock n) a r h g = sym g ∙ rw r (outline_refused ps bs (no_block n) l ls h)
outline_fails ps bs l ls rest (fault.TooDeep n) a r h g = sym g ∙ rw r (outline_refused ps bs (too_deep n) l ls h)
outline_fails ps bs l ls rest fault.OutOfMemory a r h g = tt

pub outline_ends : (ps : List Placed) (bs : List OpenBlock) (ls : List Line) (a : Result (List Placed) Refusal) → ls ≡ [] → outline_onto ps bs ls ≡ a → a ≡ Ok ps
outline_ends ps bs ls a e g = sym g ∙ rw e (outline_done ps bs)

pub outline_goes : (ps qs : List Placed) (bs cs ds : List OpenBlock) (c : Content) (p : Placed) (w : Option Keyword) (l : Line) (ls rest : List Line)
    (a : Result (List Placed) Refusal) → rest ≡ l ∷ ls → (outcome bs l ls ≡ stands cs c) × (p ≡ placed_line l cs c) → qs ≡ ps ++ (p ∷ []) → ds ≡ with_last w cs
    → w ≡ word_of l.tokens → outline_onto ps bs rest ≡ a → outline_onto qs ds ls ≡ a
outline_goes ps qs bs cs ds c p w l ls rest a r h eq ed ew g =
    rw (eq, ed, ew, h.1) (sym (outline_next ps bs cs c l ls h.0) ∙ ap (λ (x : List Line). outline_onto ps bs x) (sym r) ∙ g)
