use Rattle.std.proofs.Common.{◌∙◌, ◌++◌, ℕ, suc, List, [], Ok, ap, append_assoc, append-nil, inl, refl, sym, subst}
use Rattle.std.specs.Prelude.{string_bytes}
use Rattle.port_io.specs.Means.{sink_means}
use Rattle.scheduler.specs.Turns.{turn_fault}
use Rattle.scheduler.specs.Parts.{means}
use Rattle.scheduler.specs.Engine.{rig_of, setup_of}
use Rattle.command.proofs.RegressionLemmas.Waiting.{alone, not_gone, place_still, turns_fall}
use Rattle.runner_tests.specs.Runner.Turns.{TellsTurns, number_word, turns_budget}
use Rattle.runner_tests.proofs.RunnerLemmas.Told.{tells_last, tells_one}
use Rattle.runner_tests.proofs.runner.turns.turns_told.Goals as goal

pub turns-init : goal.turns-init
turns-init g c =
    let m = means g.M.FlowMaker g.M.Flow.Flow g.W.Awaits in
    record {
      tells = λ count more h. (
        count,
        subst (λ (front : List ℕ). TellsTurns (sink_means g.O.Sink) (setup_of m c.args.engine.now) count turns_budget
            (rig_of m c.args.engine.now (g.K.Gpi.content c.args.kernel.now)) c.args.out.now (front ++ more)) (sym c.new-text.ensures.bytes) h,
      );
      place = inl c.requires.none;
      setup = refl;
      loaded = c.requires.loaded;
      fits = c.requires.fits;
    }

pub turn-requires-clause-alone : goal.turn-requires-clause-alone
turn-requires-clause-alone g c =
    let m = means g.M.FlowMaker g.M.Flow.Flow g.W.Awaits in
    alone (rig_of m c.turns.engine (g.K.Gpi.content c.turns.kernel)) c.turns.invariant.place

pub turns-preserved : goal.turns-preserved
turns-preserved g c =
    let m = means g.M.FlowMaker g.M.Flow.Flow g.W.Awaits in
    let setup = setup_of m c.args.engine.now in
    let start = rig_of m c.args.engine.now (g.K.Gpi.content c.args.kernel.now) in
    let before = rig_of m c.turns.engine (g.K.Gpi.content c.turns.kernel) in
    let after = rig_of m c.turn.new.self (g.K.Gpi.content c.turn.new.kernel) in
    let number : List ℕ = number_word (g.K.Gpi.content c.turn.new.kernel).counts in
    record {
      tells = λ count more h.
          let told = c.turns.invariant.tells (suc count) (number ++ more)
          (tells_one (sink_means g.O.Sink) setup (setup_of m c.turns.engine) c.turns.fuel before c.turns.out c.turn.new.fuel after c.turn.new.out c.turns.invariant.setup
          (Ok c.in_ok-turn.turn) (ap Ok c.in-Went.is) c.in_ok-turn.ensures.turns.turning number more refl count h) in (
            told.0,
            subst (λ (text : List ℕ). TellsTurns (sink_means g.O.Sink) setup told.0 turns_budget start c.args.out.now text)
                (sym (append_assoc (string_bytes c.turns.text) number more)
                ∙ ap (λ (text : List ℕ). text ++ more) (sym (c.in_ok-push_str.ensures.bytes ∙ ap (λ (n : List ℕ). string_bytes c.turns.text ++ n) (c.deref.ensures ∙ c.in_ok-number.ensures))))
                told.1,
          );
      place = place_still (sink_means g.O.Sink) (setup_of m c.turns.engine) (setup_of m c.turns.engine) _ before _ _ _ after _ (ap Ok c.in-Went.is) c.turns.invariant.place c.in_ok-turn.ensures.turns.turning;
      setup = c.turn.ensures.turns.keeps.setup ∙ c.turns.invariant.setup;
      loaded = c.turn.ensures.turns.keeps.loaded;
      fits = c.in_ok-turn.ensures.turns.fits (ap turn_fault (ap Ok c.in-Went.is));
    }

pub turns-smaller : goal.turns-smaller
turns-smaller g c = turns_fall (sink_means g.O.Sink) _ _ _ _ _ _ _ _ _ c.turns.invariant.setup (ap Ok c.in-Went.is) c.in_ok-turn.ensures.turns.turning

pub returns-in-turns : goal.returns-in-turns
returns-in-turns g c =
    let m = means g.M.FlowMaker g.M.Flow.Flow g.W.Awaits in
    let setup = setup_of m c.args.engine.now in
    let start = rig_of m c.args.engine.now (g.K.Gpi.content c.args.kernel.now) in
    let before = rig_of m c.turns.engine (g.K.Gpi.content c.turns.kernel) in
    let after = rig_of m c.turn.new.self (g.K.Gpi.content c.turn.new.kernel) in
    let told = c.turns.invariant.tells 0 [] (tells_last (sink_means g.O.Sink) setup (setup_of m c.turns.engine) c.turns.fuel before c.turns.out c.turn.new.fuel after c.turn.new.out c.turns.invariant.setup
    c.in_ok-turn.turn (not_gone c.in_ok-turn.turn (λ h. c.in_default.not-Went h)) c.in_ok-turn.ensures.turns.turning) in
    (told.0, subst (λ (text : List ℕ). TellsTurns (sink_means g.O.Sink) setup told.0 turns_budget start c.args.out.now text) (append-nil (string_bytes c.turns.text)) told.1)
