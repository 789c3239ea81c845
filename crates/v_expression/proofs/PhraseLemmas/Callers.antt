-- What the laws of a phrase and its reader tell a caller of a function that gives what is read.
use Rattle.std.proofs.Common.{◌≡◌, ℕ, ◌+◌, ◌≤◌, Bool, true, List, length, Result, Ok, Err, refl, sym, ◌∙◌, arith}
use Rattle.std.specs.Prelude.{IfOk, IfErr}
use Rattle.v_syntax.specs.declared.token.Token.{Token}
use Rattle.v_syntax.specs.Phrases.{Phrase}
use Rattle.v_expression.specs.declared.phrase.read_error.ReadError.{ReadError}
use Rattle.v_expression.specs.declared.phrase.read_error.ReadError.TheVariants as errors
use Rattle.v_expression.specs.Phrase.Stops.{Syntax, TooDeep, Gives, Fails}
use Rattle.v_expression.specs.Phrase.Refusals.{IsRefusal, IsRead}
use Rattle.v_expression.specs.Phrase.Readers.{Reader}
use Rattle.v_expression.specs.Phrase.Kinds.{kind_at, Kinds}
use Rattle.v_expression.proofs.PhraseLemmas.Laws.{Laws, ok_same, err_ok}

module _ {A : Type 0} {P : ℕ → Phrase Token A} {s t : Kinds} {e : Bool} {p : ℕ → Reader A} (laws : (n : ℕ) → Laws n P s e t p) (n : ℕ) (here : List Token) where
  within : (k : ℕ) (rest : List Token) → (p n here ≡ Err (TooDeep k)) → (P n).front here rest → k ≤ length rest
  within k rest f q = let d : k ≤ length rest = rw f at ((laws n).reads.far here rest q) in d

  never : (k : ℕ) → p n here ≡ Err (Syntax k) → (m : ℕ) (rest : List Token) → (P m).front here rest → k ≤ length rest
  never k f m rest q =
      let g : p (n + m) here ≡ Err (Syntax k) = rw f at ((laws n).reads.kept (n + m) here (omega arith)) in
      let d : k ≤ length rest = rw g at ((laws (n + m)).reads.far here rest ((laws m).spells.higher (n + m) here rest (omega arith) q)) in
      d

  pub refused_law : (P n).missing → (x : ReadError) → Fails x (p n here) → IsRefusal (λ m rest. (P m).front here rest) n x
  refused_law k errors.OutOfMemory f = tt
  refused_law k (errors.Syntax j) f = ((laws n).reads.near here (Syntax j) k f, never j f)
  refused_law k (errors.TooDeep j) f =
      let d = (laws n).reads.through here j k f in
      ((laws n).reads.near here (TooDeep j) k f, λ rest q. within j rest f q, d.0, d.2, d.3, d.4)

  module _ {X : Type 0} (seen : X → A × List Token) where
    pub found : (r : Result X ReadError) → Gives seen r (p n here) → IfOk r (λ x. (P n).whole (seen x).0 here (seen x).1)
    found (Ok x) g = (laws n).reads.sound here (seen x).0 (seen x).1 g
    found (Err x) g = tt

    pub refused : (P n).missing → (r : Result X ReadError) → Gives seen r (p n here) → IfErr r (λ x. IsRefusal (λ m rest. (P m).front here rest) n x)
    refused k (Ok x) g = tt
    refused k (Err x) g = refused_law k x g

    pub only : (r : Result X ReadError) → Gives seen r (p n here) → (x : A) (rest : List Token) → (P n).whole x here rest → t (kind_at rest) ≡ true → IsRead (λ y. ((seen y).0 ≡ x) × ((seen y).1 ≡ rest)) r
    only (Ok y) g x rest w h = ok_same (seen y).0 x (seen y).1 rest (sym g ∙ (laws n).reads.again x here rest w h)
    only (Err errors.OutOfMemory) g x rest w h = refl
    only (Err (errors.Syntax j)) g x rest w h = absurd (err_ok (x, rest) (Syntax j) (sym g ∙ (laws n).reads.again x here rest w h))
    only (Err (errors.TooDeep j)) g x rest w h = absurd (err_ok (x, rest) (TooDeep j) (sym g ∙ (laws n).reads.again x here rest w h))

pub one_tree : {A : Type 0} {P : ℕ → Phrase Token A} {s t : Kinds} {e : Bool} {p : ℕ → Reader A} → ((n : ℕ) → Laws n P s e t p) → (n m : ℕ) (x y : A) (here rest : List Token) → (P n).whole x here rest → (P m).whole y here rest → t (kind_at rest) ≡ true → x ≡ y
one_tree laws n m x y here rest a b h =
    let c = (laws (n + m)).reads.again x here rest ((laws n).spells.taller (n + m) x here rest (omega arith) a) h in
    let d = (laws (n + m)).reads.again y here rest ((laws m).spells.taller (n + m) y here rest (omega arith) b) h in
    (ok_same x y rest rest (sym c ∙ d)).0
