use Rattle.py_evaluate.proofs.function.forms.clock.Goals as goal

pub one_bit-requires : goal.one_bit-requires
one_bit-requires g c = c.in_ok-sig.ensures.known (g.V.Look.view c.args.view.now) c.requires
