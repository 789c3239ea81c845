use Rattle.std.proofs.Common.{rules}
use Rattle.edge_tests.proofs.port.lines.writer_text.Goals as goal

pub returns : goal.returns
returns c = record { taken = c.in_ok-put.field-0; bytes = c.deref-2.result.now; shows = search rules }
