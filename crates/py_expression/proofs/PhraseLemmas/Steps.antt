-- One step of reading a list.
use Rattle.std.proofs.Common.{◌≡◌, ℕ, suc, List, [], ◌∷◌, ◌++◌, Option, Some, None, sym, ◌∙◌}
use Rattle.py_syntax.specs.declared.token.Token.{Token}
use Rattle.py_expression.specs.declared.phrase.fault.ReadError.{ReadError}
use Rattle.py_expression.specs.declared.phrase.fault.ReadError.TheVariants as errors
use Rattle.py_expression.specs.Phrase.Gives.{Fails}
use Rattle.py_expression.specs.declared.phrase.mark.Mark.{Mark}
use Rattle.py_expression.specs.Phrase.Marks.{after}
use Rattle.py_expression.specs.Phrase.Readers.{Reader, ending, others_of}

pub others_end : {A : Type 0} (r : Reader A) (m : Mark) (close : Option Mark) (k n : ℕ) (xs : List A) (ts us : List Token) (a : Option (List A × List Token))
    → k ≡ suc n → ending m close ts ≡ Some us → others_of r m close k xs ts ≡ a → a ≡ Some (xs, us)
unfolding others_of
others_end r m close k n xs ts us a ek e h = sym h ∙ rw (ek, e)

pub others_next : {A : Type 0} (r : Reader A) (m : Mark) (close : Option Mark) (k n : ℕ) (xs : List A) (ts us : List Token) (x : A) (vs : List Token)
    → k ≡ suc n → ending m close ts ≡ None → after m ts ≡ Some us → r us ≡ Some (x, vs)
    → others_of r m close k xs ts ≡ others_of r m close n (xs ++ (x ∷ [])) vs
unfolding others_of
others_next r m close k n xs ts us x vs ek e em er = rw (ek, e, em, er)

pub others_no_mark : {A : Type 0} (r : Reader A) (m : Mark) (close : Option Mark) (k n : ℕ) (xs : List A) (ts : List Token) (a : Option (List A × List Token)) (f : ReadError)
    → k ≡ suc n → ending m close ts ≡ None → Fails f (after m ts) → others_of r m close k xs ts ≡ a → Fails f a
unfolding others_of
others_no_mark r m close k n xs ts a errors.OutOfMemory ek e em h = tt
others_no_mark r m close k n xs ts a errors.Wrong ek e em h = sym h ∙ rw (ek, e, em)

pub others_no_element : {A : Type 0} (r : Reader A) (m : Mark) (close : Option Mark) (k n : ℕ) (xs : List A) (ts us : List Token) (a : Option (List A × List Token)) (f : ReadError)
    → k ≡ suc n → ending m close ts ≡ None → after m ts ≡ Some us → Fails f (r us) → others_of r m close k xs ts ≡ a → Fails f a
unfolding others_of
others_no_element r m close k n xs ts us a errors.OutOfMemory ek e em er h = tt
others_no_element r m close k n xs ts us a errors.Wrong ek e em er h = sym h ∙ rw (ek, e, em, er)

pub others_out : {A : Type 0} (r : Reader A) (m : Mark) (close : Option Mark) (k : ℕ) (xs : List A) (ts : List Token) (a : Option (List A × List Token))
    → k ≡ 0 → others_of r m close k xs ts ≡ a → a ≡ None
unfolding others_of
others_out r m close k xs ts a ek h = sym h ∙ rw ek
