-- The index of a constant's value.
use Rattle.std.proofs.Common.{List, subst, true}
use Rattle.four_value.specs.declared.Digit.{Digit}
use Rattle.gpi.specs.declared.terms.Term.TheVariants.{Const}
use Rattle.v_flat.specs.declared.scope.found.Found.{Found}
use Rattle.v_flat.specs.Scope.Found.{each}
use Rattle.v_check.specs.Names.Selects.{IsIndex}
use Rattle.v_check.proofs.NamesLemmas.Fixed.{fixed_found}
use Rattle.v_check.proofs.names.selects.fixed_index.Goals as goal

pub returns-in-Sound-clause-checks : goal.returns-in-Sound-clause-checks
returns-in-Sound-clause-checks c = λ s e h.
    subst (λ (x : Found (List Digit)). IsIndex true s e (each Const x)) c.in-Sound.is (fixed_found s e c.args.value h)

pub returns-in-Noted-clause-checks : goal.returns-in-Noted-clause-checks
returns-in-Noted-clause-checks c = λ s e h.
    subst (λ (x : Found (List Digit)). IsIndex true s e (each Const x)) c.in-Noted.is (fixed_found s e c.args.value h)

pub returns-in-Lost-clause-checks : goal.returns-in-Lost-clause-checks
returns-in-Lost-clause-checks c = λ s e h.
    subst (λ (x : Found (List Digit)). IsIndex true s e (each Const x)) c.in-Lost.is (fixed_found s e c.args.value h)
