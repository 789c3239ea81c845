use Rattle.test_file.proofs.TextLemmas.AnswerLaws.{apart, one_file, one_refusal}
use Rattle.test_file.proofs.TextLemmas.SomeLaws.{has_answer}
use Rattle.test_file.proofs.text.laws.one_answer.Goals as goal

pub returns : goal.returns
returns c = record { some = has_answer; file = one_file; refusal = one_refusal; apart = apart }
