use Rattle.std.proofs.Common.{◌≡◌, [], length, true, false}
use Rattle.v_statement.proofs.CallerLaws as laws
use Rattle.v_statement.proofs.reader.one_statement.Goals as goal

pub returns : goal.returns
returns c = λ place n m s t text a b.
    laws.one_statement (length text) place n m s t text [] a b (λ h. absurd (let e : false ≡ true = h in cc)) (λ h. absurd (let e : false ≡ true = h in cc))
