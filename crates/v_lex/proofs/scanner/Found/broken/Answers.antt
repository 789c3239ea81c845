use Rattle.v_lex.specs.Found.{of_found}
use Rattle.v_lex.proofs.ScanLaws.{found_fault}
use Rattle.v_lex.proofs.scanner.Found.broken.Goals as goal

pub returns : goal.returns
returns c = λ scan. rw c.earlier-self.ensures (found_fault (of_found c.args.self.now) c.args.rule c.args.place scan)
