use Rattle.std.proofs.Common.{rules, Some, ◌≡◌, ◌+◌, ℕ, List, length, drop, refl, sym, ◌∙◌, ap, subst, arith}
use Rattle.gpi.specs.declared.acts.Act.{Act, the_lemmas}
use Rattle.gpi.specs.Terms.{widths_of, read, value}
use Rattle.gpi.specs.Cases.{first_match}
use Rattle.gpi.specs.Targets.{AreFitting}
use Rattle.gpi.specs.Activation.{Map, Run, acts_of, activation, run_list, AreHidden, IsSound, SoundList}
use Rattle.gpi.proofs.Widths.{length_widths}
use Rattle.gpi.proofs.Made.{block_made, block_back, case_runs, case_back}
use Rattle.gpi.proofs.Steps.{acts_step, acts_none, sound_step, kept_same, kept_both, match_inside, sound_there, case_taken, on_ok}
use Rattle.gpi.proofs.acts.Act.+run.Goals as goal

pub loop-act-init : goal.loop-act-init
loop-act-init t c =
    let ws = widths_of c.args.signals.now.items in record {
      few = c.requires.few;
      widths = refl;
      runs = refl;
      sound = subst (λ (xs : List Act). SoundList xs ws) (sym c.deref-act-items.ensures.value)
          (block_back c.in-Block.acts ws (subst (λ (a : Act). IsSound a ws) c.in-Block.is c.requires.sound));
      hidden = c.requires.hidden;
      fits = c.requires.fits;
      kept = kept_same c.args.updates.now.items;
    }

pub loop-act-preserved : goal.loop-act-preserved
loop-act-preserved t c =
    let items = c.deref-act-items.result.now in
    let run : Run = record { signals = c.loop-act.signals.items; hidden = c.loop-act.hidden.items; updates = c.loop-act.updates.items } in
    let e = c.in_ok-run-in-Block.ensures.widths in
    let m = length_widths c.run.new.signals.items in
    let n = length_widths c.loop-act.signals.items in
    let l : length (widths_of c.run.new.signals.items) ≡ length (widths_of c.loop-act.signals.items) = ap length e in
    let f = c.loop-act.invariant.few in record {
      few = omega arith;
      widths = e ∙ c.loop-act.invariant.widths;
      runs = ap (run_list (drop (c.loop-act.act-index + 1) items)) c.in_ok-run-in-Block.ensures.is
          ∙ (sym (acts_step items c.loop-act.act-index c.act-item.result run c.loop-act-test.true c.act-item.is) ∙ c.loop-act.invariant.runs);
      sound = subst (λ (ws : List ℕ). SoundList (drop (c.loop-act.act-index + 1) items) ws) (sym e)
          (sound_step items c.loop-act.act-index c.act-item.result (widths_of c.loop-act.signals.items) c.loop-act-test.true c.act-item.is c.loop-act.invariant.sound).1;
      hidden = subst (λ (ws : List ℕ). AreHidden c.run.new.hidden.items ws) (sym e) c.in_ok-run-in-Block.ensures.hidden;
      fits = subst (λ (ws : List ℕ). AreFitting c.run.new.updates.items ws) (sym e) c.in_ok-run-in-Block.ensures.fits;
      kept = kept_both c.args.updates.now.items c.loop-act.updates.items c.run.new.updates.items c.loop-act.invariant.kept c.in_ok-run-in-Block.ensures.kept;
    }

pub returns-after-loop-act-clause-is : goal.returns-after-loop-act-clause-is
returns-after-loop-act-clause-is t c =
    let start : Run = record { signals = c.args.signals.now.items; hidden = c.args.hidden.now.items; updates = c.args.updates.now.items } in
    let run : Run = record { signals = c.loop-act.signals.items; hidden = c.loop-act.hidden.items; updates = c.loop-act.updates.items } in
    sym (acts_none c.deref-act-items.result.now c.loop-act.act-index run c.loop-act-test.false)
    ∙ (c.loop-act.invariant.runs
    ∙ (ap (λ (xs : List Act). run_list xs start) c.deref-act-items.ensures.value
    ∙ (sym ((block_made c.in-Block.acts).runs start) ∙ ap (λ (a : Act). activation a start) (sym c.in-Block.is))))

pub index-requires : goal.index-requires
index-requires t c =
    let ws = widths_of c.args.signals.now.items in
    let s = case_back c.in-Case.value c.in-Case.labels c.in-Case.items c.in-Case.other.value ws (subst (λ (a : Act). IsSound a ws) c.in-Case.is c.requires.sound) in
    let k = match_inside c.in-Case.kind c.eval-bits.result c.in-Case.labels (read c.deref-in-Case-2.result.now) c.in-Some.item (length (acts_of c.in-Case.items)) s.2 (sym c.in-Some.ensures) in
    omega (arith, k, c.in-Case.items.list.ok.0)

pub run-requires-in-Some : goal.run-requires-in-Some
run-requires-in-Some t c =
    let ws = widths_of c.args.signals.now.items in
    let s = case_back c.in-Case.value c.in-Case.labels c.in-Case.items c.in-Case.other.value ws (subst (λ (a : Act). IsSound a ws) c.in-Case.is c.requires.sound) in
    let k = match_inside c.in-Case.kind c.eval-bits.result c.in-Case.labels (read c.deref-in-Case-2.result.now) c.in-Some.item (length (acts_of c.in-Case.items)) s.2 (sym c.in-Some.ensures) in
    (first_of (search rules, search (rules, the_lemmas)), (c.requires.few, (sound_there (acts_of c.in-Case.items) c.in-Some.item c.index.result.now ws k c.index.ensures s.3, (c.requires.hidden, c.requires.fits))))

pub returns-in-Some-clause-is : goal.returns-in-Some-clause-is
returns-in-Some-clause-is t c =
    let start : Run = record { signals = c.args.signals.now.items; hidden = c.args.hidden.now.items; updates = c.args.updates.now.items } in
    let ws = widths_of c.args.signals.now.items in
    let s = case_back c.in-Case.value c.in-Case.labels c.in-Case.items c.in-Case.other.value ws (subst (λ (a : Act). IsSound a ws) c.in-Case.is c.requires.sound) in
    let k = match_inside c.in-Case.kind c.eval-bits.result c.in-Case.labels (read c.deref-in-Case-2.result.now) c.in-Some.item (length (acts_of c.in-Case.items)) s.2 (sym c.in-Some.ensures) in
    let bits = subst (λ (m : Map). c.eval-bits.result ≡ value c.in-Case.value (read m)) c.deref-in-Case.ensures.value c.eval-bits.ensures.is in
    let taken = subst (λ (m : Map). first_match c.in-Case.kind c.eval-bits.result c.in-Case.labels (read m) ≡ Some c.in-Some.item) c.deref-in-Case-2.ensures.value (sym c.in-Some.ensures) in
    on_ok c.run-in-Some.result c.run-in-Some.ensures.is (λ e.
    e
    ∙ (sym (case_taken c.in-Case.kind c.in-Case.value c.in-Case.labels c.in-Case.items c.in-Case.other.value start c.eval-bits.result c.in-Some.item c.index.result.now bits taken k c.index.ensures)
    ∙ (sym (case_runs c.in-Case.kind c.in-Case.value c.in-Case.labels c.in-Case.items c.in-Case.other.value start) ∙ ap (λ (a : Act). activation a start) (sym c.in-Case.is))))
