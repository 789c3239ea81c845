use Rattle.design_tests.proofs.elaboration.designs.source_of.Goals as goal

pub returns-in-Err : goal.returns-in-Err
returns-in-Err c = λ text reads. c.no_modules.ensures text
    (λ other. record { lexed = c.args.tokens.now; reads = reads; none = λ modules is. other (c.in-Err.ensures.only modules is) })
