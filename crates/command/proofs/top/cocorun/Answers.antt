use Rattle.std.proofs.Common.{map, sym, subst, inl, List, ℕ}
use Rattle.std.specs.Prelude.{string_bytes}
use Rattle.port_io.specs.Means.{store_means, sink_means}
use Rattle.command.specs.CommandWords.Forms.{form_of}
use Rattle.command.specs.declared.options.RunOptions.{RunOptions}
use Rattle.command.specs.Reading.{Reads, reading_of, refused, usage_line}
use Rattle.command.proofs.Words.{any_options, reads_none, reads_asked, reads_told}
use Rattle.command.proofs.AnswerLaws.{answered, words_answered, words_write, write_raised}
use Rattle.command.specs.declared.regression.status.Status.TheVariants.{Usage}
use Rattle.command.proofs.top.cocorun.Goals as goal

-- ---- words without a reading

pub returns-in-Err-Usage-clause-answer : goal.returns-in-Err-Usage-clause-answer
returns-in-Err-Usage-clause-answer g c =
    let said : List (List ℕ) = map string_bytes c.args.words.now in
    let reads : Reads (store_means g.S.Store) said c.args.store.now any_options (refused Usage usage_line) c.args.store.now =
    reads_none (store_means g.S.Store) said c.args.store.now any_options (c.in-Err-Usage.ensures c.in-Err-Usage.field-0-is) in
    words_answered (sink_means g.O.Sink) g.met.O.Sink.takes_told g.met.O.Sink.breaks_told g.O.Sink.faults g.met.O.Sink.takes_count g.met.O.Sink.breaks_count
    (store_means g.S.Store) said any_options c.refuse_words.result c.args.store.now (g.K.Gpi.content c.args.kernel.now) c.args.out.now c.refuse_words.new.out
    reads (reads_told (store_means g.S.Store) g.met.S.Store.gives_file g.met.S.Store.gives_same said c.args.store.now any_options (refused Usage usage_line) c.args.store.now reads)
    c.refuse_words.ensures

pub returns-in-Err-Usage-clause-write_fault : goal.returns-in-Err-Usage-clause-write_fault
returns-in-Err-Usage-clause-write_fault g c =
    words_write (sink_means g.O.Sink) g.met.O.Sink.takes_told g.met.O.Sink.breaks_told g.O.Sink.faults g.met.O.Sink.takes_count g.met.O.Sink.breaks_count
    c.refuse_words.result c.args.out.now c.refuse_words.new.out c.refuse_words.ensures

-- ---- words that ask for a run

pub returns-in-Ok-decide_work-clause-answer : goal.returns-in-Ok-decide_work-clause-answer
returns-in-Ok-decide_work-clause-answer g c =
    let said : List (List ℕ) = map string_bytes c.args.words.now in
    let options : RunOptions = c.options_of.result in
    let reads : Reads (store_means g.S.Store) said c.args.store.now options (reading_of c.in-Ok-decide_work.decision) c.decide_work.new.store =
    subst (λ (o : RunOptions). Reads (store_means g.S.Store) said c.args.store.now o (reading_of c.in-Ok-decide_work.decision) c.decide_work.new.store) (sym c.options_of.ensures)
    (reads_asked (store_means g.S.Store) said c.args.store.now (form_of c.in-Ok.reading) (reading_of c.in-Ok-decide_work.decision) c.decide_work.new.store
    c.in-Ok.ensures c.in-Ok-decide_work.ensures.reads) in
    inl (
    answered (sink_means g.O.Sink) g.met.O.Sink.takes_told g.met.O.Sink.breaks_told g.O.Sink.faults g.met.O.Sink.takes_count g.met.O.Sink.breaks_count options
    (store_means g.S.Store) said (reading_of c.in-Ok-decide_work.decision) c.answer.result c.args.store.now c.decide_work.new.store (g.K.Gpi.content c.answer.new.kernel) c.args.out.now c.answer.new.out
    reads (reads_told (store_means g.S.Store) g.met.S.Store.gives_file g.met.S.Store.gives_same said c.args.store.now options (reading_of c.in-Ok-decide_work.decision) c.decide_work.new.store reads)
    c.answer.ensures.answers
    )

pub returns-in-Ok-decide_work-clause-write_fault : goal.returns-in-Ok-decide_work-clause-write_fault
returns-in-Ok-decide_work-clause-write_fault g c =
    write_raised (sink_means g.O.Sink) g.met.O.Sink.takes_told g.met.O.Sink.breaks_told g.O.Sink.faults g.met.O.Sink.takes_count g.met.O.Sink.breaks_count c.options_of.result
    c.in-Ok-decide_work.decision c.answer.result (g.K.Gpi.content c.answer.new.kernel) c.args.out.now c.answer.new.out c.in-Ok-decide_work.ensures.can_run c.answer.ensures.answers
