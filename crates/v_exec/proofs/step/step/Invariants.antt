use Rattle.v_exec.proofs.step.step.Given as goal

abbrev pub ghost-store : goal.ghost-store
ghost-store g a = g.before

abbrev pub ghost-write_noted : goal.ghost-write_noted
ghost-write_noted g a = g.before
