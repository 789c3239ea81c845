use Rattle.std.proofs.Common.{ap, ◌∙◌, length}
use Rattle.four_value.proofs.Numbers.{length_vector}
use Rattle.edge_tests.proofs.KernelLemmas.BookLaws.{put_out}
use Rattle.edge_tests.proofs.kernel.booked.deposited.Goals as goal

pub deposit-fired-requires-clause-width : goal.deposit-fired-requires-clause-width
deposit-fired-requires-clause-width g c =
    ap length c.from_number.ensures ∙ length_vector c.width-width.result c.from.result ∙ c.width-width.ensures.is ∙ ap length c.read.ensures

pub returns-clause-book : goal.returns-clause-book
returns-clause-book g c =
    put_out (g.K.Gpi.content c.args.kernel.now) (g.K.Gpi.content c.deposit-fired.new.self) c.args.sig c.from_number.result c.deposit-fired.result
    c.args.book.now c.take_fired.new.self c.requires.book c.deposit-fired.ensures.is.0 c.deposit-fired.ensures.is.1 c.deposit-fired.ensures.widths
    c.take_fired.ensures.signals c.take_fired.ensures.keys
