use Rattle.v_laws.proofs.FirstFaults.{first_faults_end_procedures}
use Rattle.v_laws.proofs.laws.first_faults_end_procedures.Goals as goal

pub returns : goal.returns
returns c = first_faults_end_procedures
