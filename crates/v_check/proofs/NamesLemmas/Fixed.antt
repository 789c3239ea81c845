-- An index that has to be a constant.
use Rattle.std.proofs.Common.{◌≡◌, List, true, sym, ◌∙◌, subst}
use Rattle.four_value.specs.declared.Digit.{Digit}
use Rattle.gpi.specs.declared.terms.Term.{Term}
use Rattle.gpi.specs.declared.terms.Term.TheVariants.{Const}
use Rattle.v_syntax.specs.ExpressionTrees.{Tree}
use Rattle.v_flat.specs.declared.scope.found.Found.{Found}
use Rattle.v_flat.specs.Scope.Found.{each}
use Rattle.v_flat.specs.Scope.Scope.{Scope}
use Rattle.v_flat.proofs.ScopeLemmas.Gathered.{each_each}
use Rattle.v_flat.specs.Expressions.{no_signals, width}
use Rattle.v_flat.specs.Checks.{constant_of}
use Rattle.v_flat.proofs.Holds.{holds_each}
use Rattle.v_check.proofs.ConstantsLemmas.Unsignalled.{one_meaning}
use Rattle.v_check.specs.Names.Selects.{StandsAlone, IsIndex}
use Rattle.v_check.proofs.NamesLemmas.Founds.{IsValue, constant_is}

constant_index : (s : Scope) (e : Tree) → IsIndex true s e (each Const (constant_of s e))
constant_index s e = record {
  finds = each_each (λ (t : Term). tt) Const (constant_of s e);
  holds = holds_each (λ (ds : List Digit). IsValue s e ds) (λ (t : Term). StandsAlone s e t) Const (constant_of s e) (constant_is s e)
      (λ ds k. record { means = λ m. sym k.value ∙ one_meaning s e (width s e) no_signals m k.made_of; sound = λ ws names. tt });
}

pub fixed_found : (s : Scope) (e : Tree) (x : Found (List Digit)) → x ≡ constant_of s e → IsIndex true s e (each Const x)
fixed_found s e x h = subst (λ (y : Found (List Digit)). IsIndex true s e (each Const y)) (sym h) (constant_index s e)
