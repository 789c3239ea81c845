use Rattle.std.proofs.Common.{[], ◌∷◌, map, ap, ◌∙◌}
use Rattle.std.proofs.lemmas.List.{map-append}
use Rattle.std.proofs.lemmas.Result.{err_from_is_err_and}
use Rattle.py_syntax.specs.Outline.{word_of, view_placed}
use Rattle.py_parse.proofs.Steps.{outline_goes, outline_fails, outline_ends}
use Rattle.py_parse.proofs.reader.lines_in_place.Goals as goal

pub returns-in_err-inside-in-Some : goal.returns-in_err-inside-in-Some
returns-in_err-inside-in-Some c =
    let p = err_from_is_err_and c.from_residual-in_err-inside-in-Some.result c.from_residual-in_err-inside-in-Some.ensures.1 in
    rw (p.1, p.2) (outline_fails _ _ _ _ _ _ _ c.in-Some.ensures c.in_err-inside-in-Some.ensures c.lines.invariant)

pub lines-preserved : goal.lines-preserved
lines-preserved c =
    outline_goes _ _ _ _ _ _ _ _ _ _ _ _ c.in-Some.ensures c.in_ok-inside-in-Some.ensures
    (ap (map view_placed) c.in_ok-all-in-Some.ensures ∙ map-append view_placed _ (_ ∷ [])) c.in_ok-blocks-in-Some.ensures
    (c.word_of.ensures ∙ ap word_of c.tokens.ensures) c.lines.invariant

pub returns-in-None : goal.returns-in-None
returns-in-None c = outline_ends _ _ _ _ c.in-None.ensures c.lines.invariant
