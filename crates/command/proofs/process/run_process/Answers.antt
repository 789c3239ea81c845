use Rattle.std.proofs.Common.{◌∙◌}
use Rattle.command.proofs.process.run_process.Goals as goal

pub returns : goal.returns
returns g c = record {
  given = _;
  store = _;
  store' = _;
  out = _;
  out' = _;
  own = c.run_words-status.result;
  answer = c.run_words-status.ensures.answer;
  status = c.from.ensures ∙ c.code.ensures;
  kernel = c.run_words-status.ensures.kernel;
}
