use Rattle.py_evaluate.proofs.function.calls.len_call.Goals as goal

pub len-requires : goal.len-requires
len-requires g c = c.in_ok-argument.ensures.known (g.V.Look.view c.args.view.now) c.requires
