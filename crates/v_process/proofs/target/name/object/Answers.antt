-- What is found in a net, a register or a memory.
use Rattle.std.proofs.Common.{ℕ, Option, sym, subst}
use Rattle.gpi.specs.declared.selects.Words.{Words}
use Rattle.gpi.specs.declared.targets.Object.TheVariants.{Signal}
use Rattle.v_flat.specs.declared.scope.meaning.Bounds.{Bounds}
use Rattle.v_flat.specs.Objects.{words_of}
use Rattle.v_process.specs.Target.Made.{MemoryMade, ObjectMade, VectorMade}
use Rattle.v_process.proofs.target.name.object.Goals as goal

pub returns-in-None : goal.returns-in-None
returns-in-None c =
    let p = c.args.place in
    let o = c.args.object in
    let y = c.args.selects in
    let f = c.vector.result in
    subst (λ (r : Option Bounds). ObjectMade p o r y f) (sym c.in-None.is)
    (subst (λ (w : ℕ). VectorMade p (Signal (record { 0 = o.first }) w) o.bounds y f) c.width-width.ensures c.vector.ensures)

pub returns-in-Some : goal.returns-in-Some
returns-in-Some c =
    let p = c.args.place in
    let o = c.args.object in
    let y = c.args.selects in
    let f = c.memory.result in
    subst (λ (r : Option Bounds). ObjectMade p o r y f) (sym c.in-Some.is)
    (subst (λ (w : ℕ). MemoryMade p (words_of o.first c.in-Some.range) w o.bounds y f) c.width-width.ensures
    (subst (λ (words : Words). MemoryMade p words c.width-width.result o.bounds y f) c.words.ensures c.memory.ensures))
