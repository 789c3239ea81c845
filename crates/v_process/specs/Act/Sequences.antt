-- A means of proof: several statements together, whatever they were found in, for the proofs of elaboration: a statement before others, and
-- all of them as one (IEEE 1364-2005, clause 9.8.1).
use Rattle.std.specs.Prelude.{◌≡◌, [], ◌∷◌, ◌++◌}
use Rattle.gpi.specs.declared.acts.Act.{Act}
use Rattle.gpi.specs.Activation.{MakesAct, SoundList}
use Rattle.v_flat.specs.declared.scope.found.Found.{Found}
use Rattle.v_flat.specs.Scope.Found.{EachIs}
use Rattle.v_process.specs.declared.act.sequences.BlockParts.{BlockParts}
use Rattle.v_process.specs.Act.Statements.{run_back}

-- y is x with the statement a before it
abbrev pub HasFirst : Act → BlockParts → BlockParts → Type 0
HasFirst a x y = y.acts.items ≡ x.acts.items ++ (a ∷ [])

-- f is what was found in a statement and in others, with the statement before the others
abbrev pub AreMoreStatements : Found (Act × BlockParts) → Found BlockParts → Type 0
AreMoreStatements x f = EachIs (λ (p : Act × BlockParts) (y : BlockParts). HasFirst p.0 p.1 y) x f

-- a runs the statements x in their order
abbrev pub MakesWhole : BlockParts → Act → Type 0
MakesWhole x a = MakesAct a (run_back x.acts.items) (SoundList x.acts.items)

-- f is what was found in statements, as one statement
abbrev pub AreBlocks : Found BlockParts → Found Act → Type 0
AreBlocks x f = EachIs (λ (y : BlockParts) (a : Act). MakesWhole y a) x f
