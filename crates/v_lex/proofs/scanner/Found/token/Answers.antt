use Rattle.v_lex.specs.Found.{of_found}
use Rattle.v_lex.proofs.ScanLaws.{found_token}
use Rattle.v_lex.proofs.scanner.Found.token.Goals as goal

pub returns : goal.returns
returns c =
    λ scan. rw (c.in_ok-push.ensures.items, c.in_ok-push-2.ensures.items)
    (found_token (of_found c.args.self.now) c.args.token c.args.place c.args.unit _ scan c.in_ok-add_unit.ensures)
