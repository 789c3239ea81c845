-- The call's clauses.
use Rattle.std.proofs.Common.{◌≡◌, List, [], Result, Ok, Err, IfOk, IfErr, Vec, Global, refl, sym, ◌∙◌, subst}
use Rattle.py_syntax.specs.Line.{Line}
use Rattle.py_syntax.specs.Outline.{Placed, Refusal, bad_line, no_block, too_deep, SpellsOutline, AreWithinLimits, Refused, at_start}
use Rattle.py_syntax.specs.declared.outline.PlacedLine.{PlacedLine}
use Rattle.py_parse.specs.declared.fault.PyFault.{PyFault}
use Rattle.py_parse.specs.declared.fault.PyFault.TheVariants as fault
use Rattle.py_parse.specs.Found.{lines_in, Gives, AreFound, IsBroken, IsRefused}
use Rattle.py_parse.specs.Reading.{outline_of}
use Rattle.py_parse.proofs.OutlineLaws.{ok_same, err_same, outline_sound, outline_refused, outline_again, outline_refused_again}

abbrev Answer : Type 0
Answer = Result (Vec PlacedLine Global) PyFault

abbrev Read : Type 0
Read = Result (List Placed) Refusal

pub gives_law : (ls ms : List Line) (r : Answer) → ms ≡ ls → Gives lines_in r (outline_of ms) → Gives lines_in r (outline_of ls)
gives_law ls ms r e g = let P : List Line → Type 0 = λ x. Gives lines_in r (outline_of x) in subst P e g

ok_err : (o : Read) (ps : List Placed) (r : Refusal) → o ≡ Ok ps → o ≡ Err r → ⊥
ok_err o ps r a b = cc

again : (ls : List Line) (ps : List Placed) → SpellsOutline at_start ps ls → AreWithinLimits ps → outline_of ls ≡ Ok ps
unfolding outline_of
again ls ps s w = outline_again ls [] ps at_start s w

broken : (ls : List Line) (r : Refusal) → Refused at_start ls r → outline_of ls ≡ Err r
unfolding outline_of
broken ls r h = outline_refused_again ls [] at_start r h

sound : (ls : List Line) (qs : List Placed) → outline_of ls ≡ Ok qs → SpellsOutline at_start qs ls × AreWithinLimits qs
unfolding outline_of
sound ls qs e =
    let (rs, a, b, w) = outline_sound ls [] qs at_start e in
    let P : List Placed → Type 0 = λ x. SpellsOutline at_start x ls × AreWithinLimits x in subst P (sym a) (b, w)

refused_so : (ls : List Line) (r : Refusal) → outline_of ls ≡ Err r → Refused at_start ls r
unfolding outline_of
refused_so ls r e = outline_refused ls [] at_start r e

pub found_law : (ls ms : List Line) (r : Answer) → ms ≡ ls → Gives lines_in r (outline_of ms) → IfOk r (λ ps. SpellsOutline at_start (lines_in ps) ls × AreWithinLimits (lines_in ps))
found_law ls ms (Ok v) e g = sound ls (lines_in v) (gives_law ls ms (Ok v) e g)
found_law ls ms (Err f) e g = tt

pub only_law : (ls ms : List Line) (r : Answer) (ps : List Placed) → ms ≡ ls → Gives lines_in r (outline_of ms) → SpellsOutline at_start ps ls → AreWithinLimits ps → AreFound ps r
only_law ls ms (Ok v) ps e g s w = ok_same (lines_in v) ps (sym (gives_law ls ms (Ok v) e g) ∙ again ls ps s w)
only_law ls ms (Err (fault.BadLine n)) ps e g s w = absurd (ok_err (outline_of ls) ps (bad_line n) (again ls ps s w) (gives_law ls ms (Err (fault.BadLine n)) e g))
only_law ls ms (Err (fault.NoBlock n)) ps e g s w = absurd (ok_err (outline_of ls) ps (no_block n) (again ls ps s w) (gives_law ls ms (Err (fault.NoBlock n)) e g))
only_law ls ms (Err (fault.TooDeep n)) ps e g s w = absurd (ok_err (outline_of ls) ps (too_deep n) (again ls ps s w) (gives_law ls ms (Err (fault.TooDeep n)) e g))
only_law ls ms (Err fault.OutOfMemory) ps e g s w = refl

pub refused_law : (ls ms : List Line) (r : Answer) → ms ≡ ls → Gives lines_in r (outline_of ms) → IfErr r (λ f. IsBroken ls f)
refused_law ls ms (Ok v) e g = tt
refused_law ls ms (Err (fault.BadLine n)) e g = refused_so ls (bad_line n) (gives_law ls ms (Err (fault.BadLine n)) e g)
refused_law ls ms (Err (fault.NoBlock n)) e g = refused_so ls (no_block n) (gives_law ls ms (Err (fault.NoBlock n)) e g)
refused_law ls ms (Err (fault.TooDeep n)) e g = refused_so ls (too_deep n) (gives_law ls ms (Err (fault.TooDeep n)) e g)
refused_law ls ms (Err fault.OutOfMemory) e g = tt

pub only_refused_law : (ls ms : List Line) (r : Answer) (s : Refusal) → ms ≡ ls → Gives lines_in r (outline_of ms) → Refused at_start ls s → IsRefused s r
only_refused_law ls ms (Ok v) s e g h = ok_err (outline_of ls) (lines_in v) s (gives_law ls ms (Ok v) e g) (broken ls s h)
only_refused_law ls ms (Err (fault.BadLine n)) s e g h = err_same s (bad_line n) (sym (broken ls s h) ∙ gives_law ls ms (Err (fault.BadLine n)) e g)
only_refused_law ls ms (Err (fault.NoBlock n)) s e g h = err_same s (no_block n) (sym (broken ls s h) ∙ gives_law ls ms (Err (fault.NoBlock n)) e g)
only_refused_law ls ms (Err (fault.TooDeep n)) s e g h = err_same s (too_deep n) (sym (broken ls s h) ∙ gives_law ls ms (Err (fault.TooDeep n)) e g)
only_refused_law ls ms (Err fault.OutOfMemory) s e g h = tt
