-- The laws of the two readers in one form, and what follows from them for a caller.
use Rattle.std.proofs.Common.{◌≡◌, ℕ, suc, ◌+◌, ◌<◌, ◌≤◌, List, length, Result, Ok, Err, refl, sym, ap, ◌∙◌, arith}
use Rattle.std.specs.Prelude.{IfOk, IfErr}
use Rattle.v_syntax.specs.declared.token.Token.{Token}
use Rattle.v_syntax.specs.ExpressionTrees.{height, target_height}
use Rattle.v_syntax.specs.ExpressionSpans.{Spans, TargetSpans}
use Rattle.v_syntax.specs.ExpressionFronts.{Begins, Missing, Entire, TargetBegins, MissingTarget, EntireTarget}
use Rattle.v_expression.specs.declared.phrase.read_error.ReadError.{ReadError}
use Rattle.v_expression.specs.declared.phrase.read_error.ReadError.TheVariants as errors
use Rattle.v_expression.specs.Phrase.Stops.{Stop, Syntax, TooDeep, Answer, Gives, Fails}
use Rattle.v_expression.specs.Reading.{expression_of, target_of}
use Rattle.v_expression.specs.Follows.{follow}
use Rattle.v_expression.specs.Phrase.Refusals.{Reaches, IsRefusal, IsRead}
use Rattle.v_expression.proofs.Claims.{Refused, tree, target, Read, begins_more, target_begins_more}
use Rattle.v_expression.proofs.Sound.{expression_is_sound, target_is_sound}
use Rattle.v_expression.proofs.PhraseLemmas.Extends.{Extends}
use Rattle.v_expression.proofs.Kept.{expression_is_kept, target_is_kept}
use Rattle.v_expression.proofs.Again.{expression_is_again, target_is_again}
use Rattle.v_expression.proofs.PhraseLemmas.Passes.{Passes}
use Rattle.v_expression.proofs.Forward.{expression_goes_forward, target_goes_forward}
use Rattle.v_expression.proofs.Far.{begins_positive, target_begins_positive, expression_is_far, target_is_far}
use Rattle.v_expression.proofs.PhraseLemmas.Suffixes.{IsSuffix}
use Rattle.v_expression.proofs.Shorter.{level_positive, begins_cut, target_begins_cut, begins_suffix, target_begins_suffix}

-- `spans x here rest`: x spells the tokens from here to rest. `begins n here rest`: a partial tree of height at most n
-- does. `stops rest`: nothing goes on there. `read room here` is what is read with so many levels below.
pub record ReaderLaws {A : Type 0} (spans : A → List Token → List Token → Type 0) (high : A → ℕ) (begins : ℕ → List Token → List Token → Type 0) (stops : List Token → Type 0) (read : ℕ → List Token → Answer A)
    : Type 0 where
  pub sound : (room : ℕ) (here : List Token) (x : A) (rest : List Token) → read room here ≡ Ok (x, rest) → spans x here rest × (high x ≤ room + 1)
  pub near : (room : ℕ) (here : List Token) (n : ℕ) → read room here ≡ Err (Syntax n) → Reaches (λ m rest. begins m here rest) (room + 1) n
  pub near_deep : (room : ℕ) (here : List Token) (n : ℕ) → read room here ≡ Err (TooDeep n) → Reaches (λ m rest. begins m here rest) (room + 1) n
  pub through : (room : ℕ) (here : List Token) (n : ℕ) → read room here ≡ Err (TooDeep n) → (rest : List Token) × begins (room + 2) here rest × (n ≡ suc (length rest))
  pub kept : (room most : ℕ) (here : List Token) → room ≤ most → Extends (read room here) (read most here)
  pub again : (room : ℕ) (x : A) (here rest : List Token) → spans x here rest → high x ≤ room + 1 → stops rest → read room here ≡ Ok (x, rest)
  pub forward : (room : ℕ) (here : List Token) → Passes (length here) (read room here)
  pub far : (room n : ℕ) (here rest : List Token) → begins n here rest → n ≤ room + 1 → Passes (length rest) (read room here)
  pub shorter : (n : ℕ) (here rest mid : List Token) → begins n here rest → IsSuffix mid here → length rest ≤ length mid → begins n here mid
  pub full : (x : A) (n : ℕ) (here rest : List Token) → spans x here rest → high x ≤ n → begins n here rest
  pub empty : (n : ℕ) (here : List Token) → 1 ≤ n → begins n here here
  pub roomy : (n : ℕ) (here rest : List Token) → begins n here rest → 1 ≤ n
  pub higher : (n m : ℕ) (here rest : List Token) → n ≤ m → begins n here rest → begins m here rest
  pub between : (n : ℕ) (here rest : List Token) → begins n here rest → IsSuffix rest here

-- ---- expressions

pub expression_laws : (end : ℕ) → ReaderLaws (Spans end) height (λ n here rest. Begins end n 1 here rest) (λ rest. follow rest ≡ 0) (expression_of end)
expression_laws end = record {
  sound = λ room here x rest e. let d : Read end (room + 1) 1 12 here x rest = rw e at (expression_is_sound end room here) in (d.spans, d.fits);
  near = λ room here n e. let d : Refused (tree end (room + 1) 1 12 here) (Syntax n) = rw e at (expression_is_sound end room here) in d;
  near_deep = λ room here n e. let d : Refused (tree end (room + 1) 1 12 here) (TooDeep n) = rw e at (expression_is_sound end room here) in d.0;
  through = λ room here n e. let d : Refused (tree end (room + 1) 1 12 here) (TooDeep n) = rw e at (expression_is_sound end room here) in (d.3.0, begins_more end (room + 2) (omega arith) d.3.1, omega (arith, d.2, d.3.2));
  kept = λ room most here h. expression_is_kept end room most here h;
  again = λ room x here rest s h f. expression_is_again end room x here rest s h (omega arith);
  forward = λ room here. expression_goes_forward end room here;
  far = λ room n here rest q h. expression_is_far end room n 1 here rest q h;
  shorter = λ n here rest mid q s h. begins_cut end n 1 here rest q 1 mid (omega arith) (omega arith) s h;
  full = λ x n here rest s f. Entire x s f (level_positive x);
  empty = λ n here h. Missing h refl;
  roomy = λ n here rest q. begins_positive end n 1 here rest q;
  higher = λ n m here rest h q. begins_more end m h q;
  between = λ n here rest q. begins_suffix end n 1 here rest q;
}

pub target_laws : (end : ℕ) → ReaderLaws (TargetSpans end) target_height (λ n here rest. TargetBegins end n here rest) (λ rest. follow rest < 13) (target_of end)
target_laws end = record {
  sound = λ room here x rest e. let d : TargetSpans end x here rest × (target_height x ≤ room + 1) = rw e at (target_is_sound end room here) in d;
  near = λ room here n e. let d : Refused (target end (room + 1) here) (Syntax n) = rw e at (target_is_sound end room here) in d;
  near_deep = λ room here n e. let d : Refused (target end (room + 1) here) (TooDeep n) = rw e at (target_is_sound end room here) in d.0;
  through = λ room here n e. let d : Refused (target end (room + 1) here) (TooDeep n) = rw e at (target_is_sound end room here) in (d.3.0, target_begins_more end (room + 2) (omega arith) d.3.1, omega (arith, d.2, d.3.2));
  kept = λ room most here h. target_is_kept end room most here h;
  again = λ room x here rest s h f. target_is_again end room x here rest s h f;
  forward = λ room here. target_goes_forward end room here;
  far = λ room n here rest q h. target_is_far end room n here rest q h;
  shorter = λ n here rest mid q s h. target_begins_cut end n here rest q mid s h;
  full = λ x n here rest s f. EntireTarget x s f;
  empty = λ n here h. MissingTarget h refl;
  roomy = λ n here rest q. target_begins_positive end n here rest q;
  higher = λ n m here rest h q. target_begins_more end m h q;
  between = λ n here rest q. target_begins_suffix end n here rest q;
}

-- ---- with more room

-- the same answer, or one past the token at which the height stopped it
abbrev pub Grows : {A : Type 0} → Answer A → Answer A → Type 0
Grows (Ok x) r = r ≡ Ok x
Grows (Err (Syntax n)) r = r ≡ Err (Syntax n)
Grows (Err (TooDeep n)) r = (j : ℕ) × (n ≡ suc j) × Passes j r

pub grows : {A : Type 0} (spans : A → List Token → List Token → Type 0) (high : A → ℕ) (begins : ℕ → List Token → List Token → Type 0) (stops : List Token → Type 0) (read : ℕ → List Token → Answer A)
    → ReaderLaws spans high begins stops read → (room most : ℕ) (here : List Token) → room + 1 ≤ most → Grows (read room here) (read most here)
grows spans high begins stops read laws room most here h = go (read room here) refl (laws.kept room most here (omega arith))
  where
    go : (m : Answer _) → read room here ≡ m → Extends m (read most here) → Grows m (read most here)
    go (Ok x) e k = k
    go (Err (Syntax n)) e k = k
    go (Err (TooDeep n)) e k = let t = laws.through room here n e in (length t.0, t.2, laws.far most (room + 2) here t.0 t.1 (omega arith))

-- ---- what a caller sees

abbrev first_or : {A : Type 0} → A → Answer A → A
first_or a (Ok x) = x.0
first_or a (Err e) = a

abbrev rest_or : {A : Type 0} → List Token → Answer A → List Token
rest_or ts (Ok x) = x.1
rest_or ts (Err e) = ts

abbrev Same : {A : Type 0} → Answer A → Answer A → Type 0
Same a b = a ≡ b

ok_same : {A : Type 0} (a b : A × List Token) → Same {A = A} (Ok a) (Ok b) → (a.0 ≡ b.0) × (a.1 ≡ b.1)
ok_same a b e = (ap (first_or b.0) e, ap (rest_or b.1) e)

err_ok : {A : Type 0} (s : Stop) (a : A × List Token) → Same {A = A} (Err s) (Ok a) → ⊥
err_ok s a e = cc

tree_same : {A : Type 0} (s t : A) (rest : List Token) → Same {A = A} (Ok (s, rest)) (Ok (t, rest)) → s ≡ t
tree_same s t rest e = (ok_same (s, rest) (t, rest) e).0

module _ {A : Type 0} (spans : A → List Token → List Token → Type 0) (high : A → ℕ) (begins : ℕ → List Token → List Token → Type 0) (stops : List Token → Type 0) (read : ℕ → List Token → Answer A)
    (laws : ReaderLaws spans high begins stops read) (room : ℕ) (here : List Token) where
  never : (n : ℕ) → read room here ≡ Err (Syntax n) → (m : ℕ) (rest : List Token) → begins m here rest → n ≤ length rest
  never n e m rest q =
      let k : read (room + m) here ≡ Err (Syntax n) = rw e at (laws.kept room (room + m) here (omega arith)) in
      let p : n ≤ length rest = rw k at (laws.far (room + m) m here rest q (omega arith)) in
      p

  not_within : (n : ℕ) → read room here ≡ Err (TooDeep n) → (rest : List Token) → begins (room + 1) here rest → n ≤ length rest
  not_within n e rest q = let p : n ≤ length rest = rw e at (laws.far room (room + 1) here rest q (omega arith)) in p

  pub refused_law : (e : ReadError) → Fails e (read room here) → IsRefusal (λ m rest. begins m here rest) (room + 1) e
  refused_law errors.OutOfMemory f = tt
  refused_law (errors.Syntax n) f = (laws.near room here n f, never n f)
  refused_law (errors.TooDeep n) f =
      let t = laws.through room here n f in
      (laws.near_deep room here n f, not_within n f, room + 2, t.0, t.1, omega (arith, t.2))

  module _ {X : Type 0} (seen : X → A × List Token) where
    pub found : (r : Result X ReadError) → Gives seen r (read room here) → IfOk r (λ x. spans (seen x).0 here (seen x).1 × (high (seen x).0 ≤ room + 1))
    found (Ok x) g = laws.sound room here (seen x).0 (seen x).1 g
    found (Err e) g = tt

    pub refused : (r : Result X ReadError) → Gives seen r (read room here) → IfErr r (λ e. IsRefusal (λ m rest. begins m here rest) (room + 1) e)
    refused (Ok x) g = tt
    refused (Err e) g = refused_law e g

    pub only : (r : Result X ReadError) → Gives seen r (read room here) → (t : A) (rest : List Token) → spans t here rest → high t ≤ room + 1 → stops rest
        → IsRead (λ x. ((seen x).0 ≡ t) × ((seen x).1 ≡ rest)) r
    only (Ok x) g t rest s h f = ok_same (seen x) (t, rest) (sym g ∙ laws.again room t here rest s h f)
    only (Err errors.OutOfMemory) g t rest s h f = refl
    only (Err (errors.Syntax n)) g t rest s h f = absurd (err_ok (Syntax n) (t, rest) (sym g ∙ laws.again room t here rest s h f))
    only (Err (errors.TooDeep n)) g t rest s h f = absurd (err_ok (TooDeep n) (t, rest) (sym g ∙ laws.again room t here rest s h f))

pub one_tree : {A : Type 0} (spans : A → List Token → List Token → Type 0) (high : A → ℕ) (begins : ℕ → List Token → List Token → Type 0) (stops : List Token → Type 0) (read : ℕ → List Token → Answer A)
    → ReaderLaws spans high begins stops read → (s t : A) (here rest : List Token) → spans s here rest → spans t here rest → stops rest → s ≡ t
one_tree spans high begins stops read laws s t here rest a b f =
    let x = laws.again (high s + high t) s here rest a (omega arith) f in
    let y = laws.again (high s + high t) t here rest b (omega arith) f in
    tree_same s t rest (sym x ∙ y)
