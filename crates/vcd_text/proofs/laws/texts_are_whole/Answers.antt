use Rattle.vcd_text.proofs.Wholes.{writes_front, writes_whole}
use Rattle.vcd_text.proofs.laws.texts_are_whole.Goals as goal

pub returns-clause-whole : goal.returns-clause-whole
returns-clause-whole g c = writes_whole g.O.Sink.takes g.O.Sink.breaks

pub returns-clause-front : goal.returns-clause-front
returns-clause-front g c = writes_front g.O.Sink.takes g.O.Sink.breaks
