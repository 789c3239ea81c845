use Rattle.v_design.proofs.AnswerLaws.{one_refusal, alike, apart}
use Rattle.v_design.proofs.SomeLaws.{has_answer}
use Rattle.v_design.proofs.laws.one_answer.Goals as goal

pub returns : goal.returns
returns c = record {
  some = has_answer;
  refusal = one_refusal;
  design = alike;
  apart = λ top text flat refusal d. apart top text d.source d.design refusal d.means;
}
