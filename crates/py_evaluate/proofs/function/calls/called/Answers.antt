use Rattle.py_evaluate.proofs.AttributeLemmas.Plain.{ends_known}
use Rattle.py_evaluate.specs.Function.Functions as meaning
use Rattle.py_evaluate.proofs.FunctionLemmas.Known.{called_known}
use Rattle.py_evaluate.proofs.function.calls.called.Goals as goal

pub returns : goal.returns
returns g c =
    let view = g.V.Look.view c.args.view.now in
    let values = c.args.values.now in
    let o = meaning.called c.args.task view c.args.function values c.args.next.now in
    record {
      ends = c.call.ensures.ends;
      known = ends_known view o c.call.result c.call.new.next (called_known c.args.task view c.args.function values c.args.next.now c.requires) c.call.ensures.ends;
      rises = c.call.ensures.rises;
      want = c.call.ensures.want;
    }
