use Rattle.std.proofs.Common.{◌≡◌, ℕ, length, refl, None, replicate, sym, ◌∙◌, subst}
use Rattle.gpi.proofs.Steps.{on_ok}
use Rattle.list_kernel.specs.declared.values.Values.{Values}
use Rattle.list_kernel.proofs.Hiding.{sized_after, runs_unforced}
use Rattle.kernel_base.proofs.Hiding.{same_places}
use Rattle.list_kernel.proofs.values.Values.run.Goals as goal

pub returns-clause-sized : goal.returns-clause-sized
returns-clause-sized c =
    let v = c.args.self.now in
    let w : Values = record {
      shown = c.run.new.signals;
      shown_before = v.shown_before;
      hidden = c.run.new.hidden;
      hidden_before = v.hidden_before;
      any_forced = v.any_forced;
    } in
    sized_after v w c.requires.values.sized c.run.ensures.widths c.run.ensures.hidden refl refl

pub returns-clause-values : goal.returns-clause-values
returns-clause-values c =
    on_ok c.run.result c.run.ensures.is (λ e.
    let v = c.args.self.now in
    let w : Values = record {
      shown = c.run.new.signals;
      shown_before = v.shown_before;
      hidden = c.run.new.hidden;
      hidden_before = v.hidden_before;
      any_forced = v.any_forced;
    } in
    let n : length w.shown.items ≡ length v.shown.items = same_places w.shown.items v.shown.items c.run.ensures.widths in
    record {
      sized = sized_after v w c.requires.values.sized c.run.ensures.widths c.run.ensures.hidden refl refl;
      unforced = λ u. subst (λ (k : ℕ). w.hidden.items ≡ replicate k None) (sym n) (runs_unforced c.args.act.now v.shown.items w.shown.items v.hidden.items w.hidden.items _ _ (length v.shown.items) e (c.requires.values.unforced u));
      unforced_before = λ u.
          c.requires.values.unforced_before u ∙ c.requires.values.unforced u
          ∙ sym (runs_unforced c.args.act.now v.shown.items w.shown.items v.hidden.items w.hidden.items _ _ (length v.shown.items) e (c.requires.values.unforced u));
    })
