use Rattle.vcd_text.proofs.StateLaws.{kept_none}
use Rattle.vcd_text.proofs.reader.Reader.new.Goals as goal

pub returns-clause-kept : goal.returns-clause-kept
returns-clause-kept c =
    kept_none c.new-3.result c.new-2.result.items c.new-3.ensures c.new-2.ensures.items
