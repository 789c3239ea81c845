-- The loops over operands and parts, one turn at a time.
use Rattle.std.proofs.Common.{◌≡◌, ℕ, zero, suc, max, List, ◌∷◌, length, Some, None, Result, Ok, Err, refl, ap, subst, arith}
use Rattle.v_syntax.specs.declared.token.Token.{Token}
use Rattle.v_syntax.specs.declared.mark.Mark.TheVariants as mark
use Rattle.v_syntax.specs.declared.expression.BinaryOperator.{BinaryOperator}
use Rattle.v_syntax.specs.ExpressionTrees.{Tree, Trees, none, more, height, trees_height, TargetTree, TargetTrees, no_target, more_targets}
use Rattle.v_expression.specs.declared.phrase.read_error.ReadError.{ReadError}
use Rattle.v_expression.specs.declared.phrase.read_error.ReadError.TheVariants as errors
use Rattle.v_expression.specs.Phrase.Stops.{Stop, Syntax, Answer, ◌>>=◌, Fails, after, behind}
use Rattle.v_expression.specs.Reading.{Readers, steps_of, operand_of, from_level, infix_of, others_of, others_by, and_first, parts_of, other_targets_of, other_targets_by, and_first_target, target_parts_of}
use Rattle.v_expression.specs.Lists.{joined, and_last, with_front, joined_targets, and_last_target, with_front_targets}

pub fails_same : {A : Type 0} (e : ReadError) (a b : Result A Stop) → a ≡ b → Fails e a → Fails e b
fails_same e a b h f = subst (λ z. Fails e z) h f

pub fails_then : {A B : Type 0} (e : ReadError) (m : Result A Stop) (f : A → Result B Stop) → Fails e m → Fails e (m >>= f)
fails_then errors.OutOfMemory m f h = tt
fails_then (errors.Syntax n) m f h = rw h
fails_then (errors.TooDeep n) m f h = rw h

pub steps_more : (room : ℕ) (sub : Readers) (min k n : ℕ) (l m : Tree) (ts after rest : List Token) (t : Token) (op : BinaryOperator)
    → k ≡ suc n → ts ≡ t ∷ after → from_level min (infix_of t) ≡ Some op → operand_of room sub op l ts after ≡ Ok (m, rest)
    → steps_of room sub min n m rest ≡ steps_of room sub min k l ts
unfolding steps_of
steps_more room sub min k n l m ts after rest t op ek et eo er =
    let e = rw et at er in rw (ek, et, eo, e)

pub steps_fail : (room : ℕ) (sub : Readers) (min k n : ℕ) (l : Tree) (ts after : List Token) (t : Token) (op : BinaryOperator) (e : ReadError)
    → k ≡ suc n → ts ≡ t ∷ after → from_level min (infix_of t) ≡ Some op → Fails e (operand_of room sub op l ts after)
    → Fails e (steps_of room sub min k l ts)
unfolding steps_of
steps_fail room sub min k n l ts after t op e ek et eo f =
    let g = rw et at f in rw (ek, et, eo) (fails_then e (operand_of room sub op l (t ∷ after) after) (λ x. steps_of room sub min n x.0 x.1) g)

pub joined_none : (es : Trees) → joined es none ≡ es
joined_none none = refl
joined_none (more e es) = ap (more e) (joined_none es)

joined_push : (ds : Trees) (e : Tree) (es : Trees) → joined (and_last ds e) es ≡ joined ds (more e es)
joined_push none e es = refl
joined_push (more d ds) e es = ap (more d) (joined_push ds e es)

front_push : (ds : Trees) (e : Tree) (m : Answer Trees) → with_front (and_last ds e) m ≡ with_front ds (m >>= and_first e)
front_push ds e (Ok x) = ap (λ z. Ok (z, x.1)) (joined_push ds e x.0)
front_push ds e (Err s) = refl

pub parts_start : (sub : Readers) (e : Tree) (es : Trees) (k : ℕ) (ts : List Token) → k ≡ length ts → es ≡ more e none → with_front es (others_of sub k ts) ≡ parts_of sub e ts
unfolding parts_of
parts_start sub e es k ts q h = rw (q, h) refl

module _ (sub : Readers) (k n : ℕ) (ts : List Token) (ek : k ≡ suc n) where
  pub parts_more : (ds es : Trees) (e : Tree) (us rest : List Token) → es ≡ and_last ds e → behind mark.CloseBrace ts ≡ None → after mark.Comma ts ≡ Ok us → sub.expression us ≡ Ok (e, rest)
      → with_front es (others_of sub n rest) ≡ with_front ds (others_of sub k ts)
  unfolding others_of
  parts_more ds es e us rest h eb ea er = rw (ek, eb, ea, er, h) (front_push ds e (others_of sub n rest))

  pub parts_done : (ds : Trees) (us : List Token) → behind mark.CloseBrace ts ≡ Some us → with_front ds (others_of sub k ts) ≡ Ok (ds, us)
  unfolding others_of
  parts_done ds us eb = rw (ek, eb) (ap (λ z. Ok (z, us)) (joined_none ds))

  pub parts_lack : (ds : Trees) (e : ReadError) → behind mark.CloseBrace ts ≡ None → Fails e (after mark.Comma ts) → Fails e (with_front ds (others_of sub k ts))
  unfolding others_of
  parts_lack ds e eb f = rw (ek, eb) (fails_then e (others_by sub (others_of sub n) ts None) (λ x. Ok (joined ds x.0, x.1))
      (fails_then e (after mark.Comma ts) (λ us. sub.expression us >>= λ x. others_of sub n x.1 >>= λ es. and_first x.0 es) f))

  pub parts_fail : (ds : Trees) (e : ReadError) (us : List Token) → behind mark.CloseBrace ts ≡ None → after mark.Comma ts ≡ Ok us → Fails e (sub.expression us) → Fails e (with_front ds (others_of sub k ts))
  unfolding others_of
  parts_fail ds e us eb ea f = rw (ek, eb, ea) (fails_then e (sub.expression us >>= λ x. others_of sub n x.1 >>= λ es. and_first x.0 es) (λ x. Ok (joined ds x.0, x.1))
      (fails_then e (sub.expression us) (λ x. others_of sub n x.1 >>= λ es. and_first x.0 es) f))

pub parts_empty : (sub : Readers) (k : ℕ) (ts : List Token) (ds : Trees) → k ≡ zero → with_front ds (others_of sub k ts) ≡ Err (Syntax (length ts))
unfolding others_of
parts_empty sub k ts ds e = rw e

pub one_height : (e : Tree) (es : Trees) → es ≡ more e none → trees_height es ≡ height e
unfolding trees_height
one_height e es h = rw h (omega arith)

pub last_height : (ds : Trees) (e : Tree) → trees_height (and_last ds e) ≡ max (trees_height ds) (height e)
unfolding trees_height
last_height none e = omega arith
last_height (more d ds) e = let h = last_height ds e in omega (arith, h)

-- ---- the same of targets

targets_joined_none : (ts : TargetTrees) → joined_targets ts no_target ≡ ts
targets_joined_none no_target = refl
targets_joined_none (more_targets t ts) = ap (more_targets t) (targets_joined_none ts)

targets_joined_push : (ss : TargetTrees) (t : TargetTree) (ts : TargetTrees) → joined_targets (and_last_target ss t) ts ≡ joined_targets ss (more_targets t ts)
targets_joined_push no_target t ts = refl
targets_joined_push (more_targets s ss) t ts = ap (more_targets s) (targets_joined_push ss t ts)

targets_front_push : (ss : TargetTrees) (t : TargetTree) (m : Answer TargetTrees) → with_front_targets (and_last_target ss t) m ≡ with_front_targets ss (m >>= and_first_target t)
targets_front_push ss t (Ok x) = ap (λ z. Ok (z, x.1)) (targets_joined_push ss t x.0)
targets_front_push ss t (Err s) = refl

pub targets_start : (sub : Readers) (t : TargetTree) (all : TargetTrees) (k : ℕ) (ts : List Token) → k ≡ length ts → all ≡ more_targets t no_target
    → with_front_targets all (other_targets_of sub k ts) ≡ target_parts_of sub t ts
unfolding target_parts_of
targets_start sub t all k ts q h = rw (q, h) refl

module _ (sub : Readers) (k n : ℕ) (ts : List Token) (ek : k ≡ suc n) where
  pub targets_more : (ds es : TargetTrees) (e : TargetTree) (us rest : List Token) → es ≡ and_last_target ds e → behind mark.CloseBrace ts ≡ None → after mark.Comma ts ≡ Ok us → sub.target us ≡ Ok (e, rest)
      → with_front_targets es (other_targets_of sub n rest) ≡ with_front_targets ds (other_targets_of sub k ts)
  unfolding other_targets_of
  targets_more ds es e us rest h eb ea er = rw (ek, eb, ea, er, h) (targets_front_push ds e (other_targets_of sub n rest))

  pub targets_done : (ds : TargetTrees) (us : List Token) → behind mark.CloseBrace ts ≡ Some us → with_front_targets ds (other_targets_of sub k ts) ≡ Ok (ds, us)
  unfolding other_targets_of
  targets_done ds us eb = rw (ek, eb) (ap (λ z. Ok (z, us)) (targets_joined_none ds))

  pub targets_lack : (ds : TargetTrees) (e : ReadError) → behind mark.CloseBrace ts ≡ None → Fails e (after mark.Comma ts) → Fails e (with_front_targets ds (other_targets_of sub k ts))
  unfolding other_targets_of
  targets_lack ds e eb f = rw (ek, eb) (fails_then e (other_targets_by sub (other_targets_of sub n) ts None) (λ x. Ok (joined_targets ds x.0, x.1))
      (fails_then e (after mark.Comma ts) (λ us. sub.target us >>= λ x. other_targets_of sub n x.1 >>= λ es. and_first_target x.0 es) f))

  pub targets_fail : (ds : TargetTrees) (e : ReadError) (us : List Token) → behind mark.CloseBrace ts ≡ None → after mark.Comma ts ≡ Ok us → Fails e (sub.target us)
      → Fails e (with_front_targets ds (other_targets_of sub k ts))
  unfolding other_targets_of
  targets_fail ds e us eb ea f = rw (ek, eb, ea) (fails_then e (sub.target us >>= λ x. other_targets_of sub n x.1 >>= λ es. and_first_target x.0 es) (λ x. Ok (joined_targets ds x.0, x.1))
      (fails_then e (sub.target us) (λ x. other_targets_of sub n x.1 >>= λ es. and_first_target x.0 es) f))

pub targets_empty : (sub : Readers) (k : ℕ) (ts : List Token) (ds : TargetTrees) → k ≡ zero → with_front_targets ds (other_targets_of sub k ts) ≡ Err (Syntax (length ts))
unfolding other_targets_of
targets_empty sub k ts ds e = rw e
