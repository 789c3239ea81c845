use Rattle.py_value.specs.Answer.{and_then}
use Rattle.py_value.specs.Trigger as trigger
use Rattle.py_evaluate.specs.Attribute.Attribute.{str_value}
use Rattle.py_evaluate.specs.Function.Functions.{argument}
use Rattle.py_evaluate.proofs.FunctionLemmas.Memory.{others, text_wants, first_wants, combine_wants}
use Rattle.py_evaluate.proofs.function.calls.call.Goals as goal

pub plain_call-requires : goal.plain_call-requires
plain_call-requires g c = record { known = c.requires; plain = others c.args.function c.in_default.not-Str c.in_default.not-First c.in_default.not-Combine }

pub returns-in-Str-clause-want : goal.returns-in-Str-clause-want
returns-in-Str-clause-want g c =
    rw c.in-Str.is
    (text_wants c.str_call.result c.args.values.now (and_then (argument c.args.values.now 0) (str_value (g.V.Look.view c.args.view.now).places)) c.args.next.now
    c.str_call.ensures.want)

pub returns-in-First-clause-want : goal.returns-in-First-clause-want
returns-in-First-clause-want g c =
    rw c.in-First.is
    (first_wants c.first.result c.args.task trigger.First c.args.values.now c.args.next.now c.first.new.next c.first.ensures.rises c.first.ensures.want)

pub returns-in-Combine-clause-want : goal.returns-in-Combine-clause-want
returns-in-Combine-clause-want g c =
    rw c.in-Combine.is
    (combine_wants c.combine.result c.args.task trigger.Combine c.args.values.now c.args.next.now c.combine.new.next c.combine.ensures.rises c.combine.ensures.want)
