use Rattle.v_exec.proofs.store.write_noted.Given as goal

abbrev pub ghost-write_all : goal.ghost-write_all
ghost-write_all g a = g.before
