use Rattle.py_evaluate.proofs.function.calls.str_call.Goals as goal

pub str_text-requires : goal.str_text-requires
str_text-requires g c = c.in_ok-argument.ensures.known (g.V.Look.view c.args.view.now) c.requires
