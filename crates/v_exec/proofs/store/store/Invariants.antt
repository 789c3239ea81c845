use Rattle.v_exec.proofs.store.store.Given as goal

abbrev pub ghost-write : goal.ghost-write
ghost-write g a = g.before
