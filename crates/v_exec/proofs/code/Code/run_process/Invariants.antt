use Rattle.v_exec.proofs.code.Code.run_process.Given as goal

abbrev pub ghost-run_from : goal.ghost-run_from
ghost-run_from a = a.shown.now
