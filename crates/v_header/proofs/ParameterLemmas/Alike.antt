-- Parameters that are given the same are the same.
use Rattle.std.proofs.Common.{◌≡◌, ℕ, List, [], ◌∷◌, ◌++◌, Option, Some, None, Bool, true, false, Result, Ok, Err, refl, sym, ap, ◌∙◌, bytes_eq, cond}
use Rattle.four_value.specs.declared.Digit.{Digit}
use Rattle.v_flat.specs.declared.scope.rule.Broken.{Broken}
use Rattle.v_flat.specs.declared.scope.rule.ElabRule.TheVariants as rule
use Rattle.v_flat.specs.declared.scope.found.Found.{Found}
use Rattle.v_flat.specs.declared.scope.found.Found.TheVariants.{Sound}
use Rattle.v_flat.specs.Scope.Found.{each, both, wants, ended, next}
use Rattle.v_flat.specs.declared.scope.meaning.Bounds.{Bounds}
use Rattle.v_flat.specs.Scope.Scope.{Scope, means, before}
use Rattle.v_flat.specs.Checks.{constant_of}
use Rattle.v_flat.specs.Headers.{Parameter}
use Rattle.v_flat.specs.Declarations.{Given, given_value, Entries, is_free, constant_meaning, vector_bounds, parameter, parameters}
use Rattle.v_header.specs.Parameter.Given.{find_given, GiveTheSame}
use Rattle.v_header.specs.Parameter.Found.{given_or}

by_name : (b : Bool) (ds : List Digit) (x : Found (List Digit)) (o : Option (List Digit)) (own : Found (List Digit)) → x ≡ given_or o own
    → cond b (Sound ds) x ≡ given_or (cond b (Some ds) o) own
by_name true ds x o own h = refl
by_name false ds x o own h = h

-- a value by the value that is found
pub value_by : (n : List ℕ) (gs : List Given) (own : Found (List Digit)) → given_value n gs own ≡ given_or (find_given n gs) own
value_by n [] own = refl
value_by n (g ∷ gs) own = by_name (bytes_eq g.name n) g.value (given_value n gs own) (find_given n gs) own (value_by n gs own)

same_value : (xs ys : List Given) → GiveTheSame xs ys → (n : List ℕ) (own : Found (List Digit)) → given_value n xs own ≡ given_value n ys own
same_value xs ys h n own = value_by n xs own ∙ ap (λ (o : Option (List Digit)). given_or o own) (h n) ∙ sym (value_by n ys own)

same_parameter : (p : Parameter) (xs ys : List Given) (others : Scope) (s : Entries) → GiveTheSame xs ys → parameter p xs others s ≡ parameter p ys others s
same_parameter p xs ys others s h =
    ap (λ (v : Found (List Digit)). wants (is_free p.name.name s) rule.DuplicateName p.name.at
    (each (λ (x : Bounds × List Digit). s ++ ((p.name.name, constant_meaning p.range x.0 x.1) ∷ [])) (both (vector_bounds p.range (before (means s) others)) v)))
    (same_value xs ys h p.name.name (constant_of (before (means s) others) p.value))

same_next : (x : Result Entries Broken) (f g : Entries → Result Entries Broken) → ((s : Entries) → f s ≡ g s) → next x f ≡ next x g
same_next (Ok s) f g h = h s
same_next (Err b) f g h = refl

pub same_parameters : (ps : List Parameter) (xs ys : List Given) (others : Scope) (s : Entries) → GiveTheSame xs ys → parameters ps xs others s ≡ parameters ps ys others s
same_parameters [] xs ys others s h = refl
same_parameters (p ∷ ps) xs ys others s h =
    ap (λ (x : Found Entries). next (ended x) (parameters ps xs others)) (same_parameter p xs ys others s h)
    ∙ same_next (ended (parameter p ys others s)) (parameters ps xs others) (parameters ps ys others) (λ t. same_parameters ps xs ys others t h)

-- the value that is given, or else the parameter's own
pub given_there : (n m : List ℕ) (gs : List Given) (own : Found (List Digit)) (ds : List Digit) → m ≡ n → Some ds ≡ find_given m gs → Sound ds ≡ given_value n gs own
given_there n m gs own ds e h = ap (λ (o : Option (List Digit)). given_or o own) (h ∙ ap (λ (k : List ℕ). find_given k gs) e) ∙ sym (value_by n gs own)

pub given_not : (n m : List ℕ) (gs : List Given) (own x : Found (List Digit)) → m ≡ n → None ≡ find_given m gs → x ≡ own → x ≡ given_value n gs own
given_not n m gs own x e h k =
    k ∙ ap (λ (o : Option (List Digit)). given_or o own) (h ∙ ap (λ (l : List ℕ). find_given l gs) e) ∙ sym (value_by n gs own)
