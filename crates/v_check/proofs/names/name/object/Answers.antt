-- What is found in a net, a register or a memory.
use Rattle.std.proofs.Common.{subst, Some}
use Rattle.gpi.specs.declared.selects.Words.{Words}
use Rattle.gpi.specs.declared.terms.Term.TheVariants.{Signal}
use Rattle.v_flat.specs.declared.scope.meaning.Meaning.TheVariants.{Object}
use Rattle.v_flat.specs.Objects.{words_of}
use Rattle.v_check.specs.Names.Made.{MemoryMade}
use Rattle.v_check.proofs.NamesLemmas.Names.{memory_named, object_memory, object_vector, vector_named}
use Rattle.v_check.proofs.names.name.object.Goals as goal

pub returns-in_ok-vector-in-None : goal.returns-in_ok-vector-in-None
returns-in_ok-vector-in-None c = λ s sel h.
    let o = c.args.object in
    let w = c.width-width.result in
    vector_named s c.args.place sel (Some (Object o)) (Signal (record { 0 = o.first }) w) w o.bounds c.args.selects c.in_ok-vector-in-None.field-0 c.width-width.ensures
    (object_vector o w c.width-width.ensures c.in-None.is c.requires.0) h c.in_ok-vector-in-None.ensures

pub returns-in_ok-memory-in-Some : goal.returns-in_ok-memory-in-Some
returns-in_ok-memory-in-Some c = λ s sel h.
    let o = c.args.object in
    let w = c.width-width.result in
    let f = c.in_ok-memory-in-Some.field-0 in
    memory_named s c.args.place sel (Some (Object o)) (words_of o.first c.in-Some.range) w o.bounds c.args.selects f c.width-width.ensures
    (object_memory o c.in-Some.range c.in-Some.is c.requires.0) h
    (subst (λ (words : Words). MemoryMade c.args.place words w o.bounds c.args.selects f) c.words-words.ensures c.in_ok-memory-in-Some.ensures)
