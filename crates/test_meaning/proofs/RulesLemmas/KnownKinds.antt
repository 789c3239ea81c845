-- The names of the kinds of faults that are known without an import.
use Rattle.std.proofs.Common.{◌≡◌, ℕ, Bool, true, false, List, [], ◌∷◌, Some, None, refl, sym, ap, ◌∙◌}
use Rattle.std.specs.Prelude.{map, find, if◌then◌else◌}
use Rattle.std.specs.List.{filter}
use Rattle.std.specs.Str.{bytes_eq}
use Rattle.std.proofs.lemmas.Slice.Eq.{bytes_eq-Decides}
use Rattle.py_syntax.specs.StatementTables.{fault_name, fault_of, kinds}
use Rattle.py_syntax.specs.declared.fault_kind.FaultKind.{FaultKind}
use Rattle.py_syntax.specs.declared.fault_kind.FaultKind.TheVariants as kind
use Rattle.test_meaning.specs.Rules.File.{always_known, is_always_known}
use Rattle.test_meaning.specs.Rules.Names.{is_among}
use Rattle.test_meaning.proofs.RulesLemmas.Texts.{same_bytes}

found : (n : List ℕ) (ks : List FaultKind) (k : FaultKind) → find (λ j. bytes_eq (fault_name j) n) ks ≡ Some k → bytes_eq (fault_name k) n ≡ true
found n [] k e = cc
found n (j ∷ ks) k e = go (bytes_eq (fault_name j) n) refl e (found n ks k)
  where
    go : (b : Bool) → bytes_eq (fault_name j) n ≡ b → (if b then Some j else find (λ i. bytes_eq (fault_name i) n) ks) ≡ Some k
        → (find (λ i. bytes_eq (fault_name i) n) ks ≡ Some k → bytes_eq (fault_name k) n ≡ true) → bytes_eq (fault_name k) n ≡ true
    go true q h more = cc
    go false q h more = more h

by_name : (k : FaultKind) → is_among (fault_name k) always_known ≡ is_always_known k
by_name kind.AssertionError = refl
by_name kind.AttributeError = refl
by_name kind.IndexError = refl
by_name kind.OverflowError = refl
by_name kind.QueueEmpty = refl
by_name kind.QueueFull = refl
by_name kind.RuntimeError = refl
by_name kind.SimTimeoutError = refl
by_name kind.TriggerException = refl
by_name kind.TypeError = refl
by_name kind.UnboundLocalError = refl
by_name kind.ValueError = refl
by_name kind.ZeroDivisionError = refl
by_name kind.Exception = refl

pub kind_is_known : (n : List ℕ) (k : FaultKind) → fault_of n ≡ Some k → is_among n always_known ≡ is_always_known k
unfolding fault_of
kind_is_known n k e = ap (λ m. is_among m always_known) (sym ((bytes_eq-Decides (fault_name k) n).0 (found n kinds k e))) ∙ by_name k

none_among : (n : List ℕ) (ks : List FaultKind) → find (λ k. bytes_eq (fault_name k) n) ks ≡ None → is_among n (map fault_name (filter is_always_known ks)) ≡ false
none_among n [] e = refl
none_among n (k ∷ ks) e = go (bytes_eq (fault_name k) n) refl e (none_among n ks)
  where
    kept : (b : Bool) → bytes_eq n (fault_name k) ≡ false → is_among n (map fault_name (filter is_always_known ks)) ≡ false
        → is_among n (map fault_name (if b then k ∷ filter is_always_known ks else filter is_always_known ks)) ≡ false
    kept true differs rest = cc
    kept false differs rest = rest

    go : (b : Bool) → bytes_eq (fault_name k) n ≡ b → (if b then Some k else find (λ j. bytes_eq (fault_name j) n) ks) ≡ None
        → (find (λ j. bytes_eq (fault_name j) n) ks ≡ None → is_among n (map fault_name (filter is_always_known ks)) ≡ false)
        → is_among n (map fault_name (filter is_always_known (k ∷ ks))) ≡ false
    go true q h more = cc
    go false q h more = kept (is_always_known k) (same_bytes n (fault_name k) ∙ q) (more h)

pub no_kind_is_known : (n : List ℕ) → fault_of n ≡ None → is_among n always_known ≡ false
unfolding fault_of
no_kind_is_known n e = none_among n kinds e
