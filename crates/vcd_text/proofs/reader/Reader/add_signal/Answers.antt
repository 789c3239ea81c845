use Rattle.std.proofs.Common.{◌∙◌, refl}
use Rattle.vcd_text.proofs.TakeLaws.{kept_more}
use Rattle.vcd_text.proofs.reader.Reader.add_signal.Goals as goal

pub returns-clause-kept : goal.returns-clause-kept
returns-clause-kept c =
    kept_more c.args.self.now.codes c.note-2.new.self c.args.self.now.known.items c.push.new.self.items c.args.self.now.free c.args.var.number c.deref.result.now c.len-place.result _
    c.in_ok-push.ensures.items refl (c.deref.ensures.value ∙ c.in_ok-text.ensures) (c.len-place.ensures ∙ c.args.self.now.known.ok.0) c.in_ok-note-2.ensures.ok c.requires.rises c.requires.kept
