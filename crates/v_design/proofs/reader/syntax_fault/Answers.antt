use Rattle.std.proofs.Common.{◌∙◌, sym}
use Rattle.v_syntax.specs.Refusal.{IsSyntaxAt, IsTooDeepAt}
use Rattle.v_design.proofs.FaultLaws.{unspelled}
use Rattle.v_design.proofs.reader.syntax_fault.Goals as goal

pub returns-in-Syntax : goal.returns-in-Syntax
returns-in-Syntax c = λ top.
    c.broken.ensures top (
    unspelled IsSyntaxAt c.args.text.now c.args.tokens.now c.in-Syntax.token c.place.result c.requires.reads
    (λ ms h. let no = sym c.in-Syntax.is ∙ c.requires.only ms h in cc)
    (rw c.in-Syntax.is at c.requires.refused) c.place.ensures
    )

pub returns-in-TooDeep : goal.returns-in-TooDeep
returns-in-TooDeep c = λ top.
    c.broken-in-TooDeep.ensures top (
    unspelled IsTooDeepAt c.args.text.now c.args.tokens.now c.in-TooDeep.token c.place-in-TooDeep.result c.requires.reads
    (λ ms h. let no = sym c.in-TooDeep.is ∙ c.requires.only ms h in cc)
    (rw c.in-TooDeep.is at c.requires.refused) c.place-in-TooDeep.ensures
    )
