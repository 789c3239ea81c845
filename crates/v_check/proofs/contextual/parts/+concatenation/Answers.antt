-- The lower and the higher parts together, and a single part.
use Rattle.std.proofs.Common.{List, subst}
use Rattle.gpi.specs.declared.terms.Term.{Term}
use Rattle.v_check.specs.Contextual.Concatenations.{MakesConcatenation}
use Rattle.v_check.proofs.ContextualLemmas.Joined.{joined_result}
use Rattle.v_check.proofs.contextual.parts.+concatenation.Goals as goal

pub returns : goal.returns
returns t c =
    let ts = c.args.parts.items in
    joined_result ts _ c.in_ok-high-2.high c.in_ok-low.low c.concat.result
    (subst (λ (xs : List Term). MakesConcatenation xs c.in_ok-low.low) c.in_ok-high.ensures.items c.in_ok-low.ensures)
    (subst (λ (xs : List Term). MakesConcatenation xs c.in_ok-high-2.high) c.in_ok-high.ensures.tail c.in_ok-high-2.ensures)
    c.concat.ensures
