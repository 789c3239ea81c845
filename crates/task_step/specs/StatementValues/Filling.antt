-- A means of proof: it follows the code, and says nothing that a reader must trust.
use Rattle.std.specs.Prelude.{◌≡◌, ℕ, List, ◌∷◌, ◌++◌}
use Rattle.rig_model.specs.Task.Statements.{filled}
use Rattle.task_step.specs.declared.statement_values.filling.Filling.{Filling}

-- what the text comes to where these bytes are left
abbrev pub with_rest : Filling → List ℕ → List ℕ
with_rest f bs = f.bytes.items ++ filled f.passed bs f.texts.now

-- a byte was taken
abbrev pub Takes : Filling → ℕ → Filling → Type 0
Takes f b g = (bs : List ℕ) → with_rest g bs ≡ with_rest f (b ∷ bs)
