use Rattle.v_laws.proofs.Least.{first_faults_count}
use Rattle.v_laws.proofs.laws.first_faults_count.Goals as goal

pub returns : goal.returns
returns c = first_faults_count
