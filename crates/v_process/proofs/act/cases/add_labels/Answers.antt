-- The next label, and all of them.
use Rattle.std.proofs.Common.{refl}
use Rattle.v_process.proofs.ActLemmas.CaseStatements.{adding_none, adding_more, adding_all}
use Rattle.v_process.proofs.act.cases.add_labels.Goals as goal

pub loop-form-init : goal.loop-form-init
loop-form-init c = adding_none c.args.width c.args.item c.args.forms.items c.args.labels.now

pub loop-form-preserved : goal.loop-form-preserved
loop-form-preserved c =
    adding_more c.args.width c.args.item c.args.forms.items c.loop-form.forms.items c.pop.new.self.items c.in-Some.form c.in_ok-value.value c.args.labels.now
    c.loop-form.labels c.push.new.self c.in-Some.ensures.items c.in_ok-push.ensures.ok c.in_ok-value.ensures c.loop-form.invariant
