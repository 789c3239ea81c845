use Rattle.std.proofs.Common.{◌<◌, List, Option, length, sym, ap, subst, arith}
use Rattle.await_tree.specs.Fire as fire
use Rattle.await_tree.specs.WaitList.Parts.{Fits, Narrows}
use Rattle.await_tree.specs.WaitList.Waiting.{fired_keys}
use Rattle.trigger_table.specs.Keys.{record_keys, runner_keys}
use Rattle.trigger_table.specs.Records.{causes_in, rows_in}
use Rattle.trigger_table.specs.Serving.{leaves_at}
use Rattle.trigger_table.specs.State.{HeldStays, Link}
use Rattle.trigger_table.specs.Tied.{Shrinks}
use Rattle.trigger_table.specs.declared.entries.CauseRecord.{CauseRecord}
use Rattle.trigger_table.proofs.SettleLemmas.{own_leaves, fire_comes, told_links, told_ready, told_served, told_untied}
use Rattle.trigger_table.proofs.serving.serve_task.Goals as goal

pub settle-requires-clause-untied : goal.settle-requires-clause-untied
settle-requires-clause-untied g c =
    told_untied (fire.fire c.args.cause) (fire_comes c.args.cause) c.args.number c.fire-step.result (leaves_at c.args.number (rows_in c.fire-step.new.self)) c.args.records.now c.fire-step.new.self c.requires.has c.requires.kept c.fire-step.ensures.answer (own_leaves c.args.number (rows_in c.fire-step.new.self)) c.fire-step.ensures.rows c.fire-step.ensures.causes

pub settle-requires-clause-some : goal.settle-requires-clause-some
settle-requires-clause-some g c =
    subst (λ (ls : List Link). 0 < length ls)
    (sym (told_links (fire.fire c.args.cause) (fire_comes c.args.cause) c.args.number c.fire-step.result (leaves_at c.args.number (rows_in c.fire-step.new.self)) c.args.records.now c.fire-step.new.self c.requires.has c.requires.kept c.fire-step.ensures.answer (own_leaves c.args.number (rows_in c.fire-step.new.self)) c.fire-step.ensures.rows c.fire-step.ensures.causes)) c.requires.some

pub settle-requires-clause-fits : goal.settle-requires-clause-fits
settle-requires-clause-fits g c =
    subst (λ (cs : List (Option CauseRecord)). Fits (g.K.Gpi.content c.args.kernel.now) (fired_keys c.args.fired) (runner_keys cs) (record_keys cs)) (sym c.fire-step.ensures.causes) c.requires.fits

pub returns-clause-served : goal.returns-clause-served
returns-clause-served g c =
    told_served (fire.fire c.args.cause) (fire_comes c.args.cause) c.args.number c.fire-step.result (leaves_at c.args.number (rows_in c.fire-step.new.self)) c.args.records.now c.fire-step.new.self c.requires.has c.requires.kept c.fire-step.ensures.answer (own_leaves c.args.number (rows_in c.fire-step.new.self)) c.fire-step.ensures.rows c.fire-step.ensures.causes
    (rows_in c.settle.new.records) c.settle.ensures.settles

pub returns-clause-ready : goal.returns-clause-ready
returns-clause-ready g c =
    told_ready (fire.fire c.args.cause) (fire_comes c.args.cause) c.args.number c.fire-step.result (leaves_at c.args.number (rows_in c.fire-step.new.self)) c.args.records.now c.fire-step.new.self c.requires.has c.requires.kept c.fire-step.ensures.answer (own_leaves c.args.number (rows_in c.fire-step.new.self)) c.fire-step.ensures.rows c.fire-step.ensures.causes
    c.args.ready.now.entries c.settle.new.ready.entries c.settle.ensures.ready

pub returns-clause-held : goal.returns-clause-held
returns-clause-held g c = subst (λ (cs : List (Option CauseRecord)). HeldStays cs (causes_in c.settle.new.records)) c.fire-step.ensures.causes c.settle.ensures.held

pub returns-clause-shrinks : goal.returns-clause-shrinks
returns-clause-shrinks g c = subst (λ (cs : List (Option CauseRecord)). Shrinks cs (causes_in c.settle.new.records)) c.fire-step.ensures.causes c.settle.ensures.shrinks

pub returns-clause-keys : goal.returns-clause-keys
returns-clause-keys g c =
    subst (λ (cs : List (Option CauseRecord)). Narrows (g.K.Gpi.content c.args.kernel.now) (g.K.Gpi.content c.settle.new.kernel) (record_keys cs) (record_keys (causes_in c.settle.new.records))) c.fire-step.ensures.causes c.settle.ensures.keys

pub returns-clause-ticks : goal.returns-clause-ticks
returns-clause-ticks g c =
    omega (
      arith,
      c.settle.ensures.ticks,
      c.fire-step.ensures.ticks,
      ap (λ (ls : List Link). length ls) (told_links (fire.fire c.args.cause) (fire_comes c.args.cause) c.args.number c.fire-step.result (leaves_at c.args.number (rows_in c.fire-step.new.self)) c.args.records.now c.fire-step.new.self c.requires.has c.requires.kept c.fire-step.ensures.answer (own_leaves c.args.number (rows_in c.fire-step.new.self)) c.fire-step.ensures.rows c.fire-step.ensures.causes),
    )
