use Rattle.std.proofs.Common.{sym, ◌∙◌}
use Rattle.std.proofs.lemmas.Bool.{true≢false}
use Rattle.std.proofs.lemmas.Bool.Decides.{Decides-eqb}
use Rattle.std.proofs.lemmas.Slice.Eq.{slice_eq-Decides}
use Rattle.vcd_text.specs.Reader.{state_of}
use Rattle.vcd_text.proofs.TakeLaws.{opening_only, opening_taken}
use Rattle.vcd_text.proofs.reader.Reader.take_own.Goals as goal

pub returns-then-eq-clause-takes : goal.returns-then-eq-clause-takes
returns-then-eq-clause-takes c =
    opening_taken (state_of c.args.self.now) (state_of c.pass_opening.new.self) c.args.line.now
    (sym ((slice_eq-Decides Decides-eqb c.args.own.now c.args.line.now c.eq.result c.eq.ensures).0 c.if-eq.true) ∙ c.requires) c.pass_opening.ensures.is

pub returns-else-eq-clause-takes : goal.returns-else-eq-clause-takes
returns-else-eq-clause-takes c =
    λ other t. true≢false (sym ((slice_eq-Decides Decides-eqb c.args.own.now c.args.line.now c.eq.result c.eq.ensures).1
    (c.requires ∙ sym (opening_only (state_of c.args.self.now) c.args.line.now other t))) ∙ c.if-eq.false)
