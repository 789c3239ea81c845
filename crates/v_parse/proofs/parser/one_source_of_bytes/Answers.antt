use Rattle.v_parse.proofs.Source as laws
use Rattle.v_parse.proofs.parser.one_source_of_bytes.Goals as goal

pub returns : goal.returns
returns c = laws.one_source_of_bytes
