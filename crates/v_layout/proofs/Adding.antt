-- Lists to which parts are added in turn.
use Rattle.std.proofs.Common.{◌≡◌, List, ◌++◌, Result, Ok, Err, sym, ◌∙◌, ap}
use Rattle.std.specs.Result.{OnErr}
use Rattle.std.proofs.lemmas.List.{append_assoc}
use Rattle.v_layout.specs.Adds.{AddsSome}

-- the new list is the old one with all behind it but for what is left
pub record IsLeft {A : Type 0} (old all left new : List A) : Type 0 where
  pub some : List A
  pub is : new ≡ old ++ some
  pub of : some ++ left ≡ all

-- one part more
pub added : {A : Type 0} (old all left rest part new more : List A) → IsLeft old all left new → left ≡ part ++ rest → more ≡ new ++ part → IsLeft old all rest more
added {A} old all left rest part new more h e k = record {
  some = h.some ++ part;
  is = k ∙ ap (λ (xs : List A). xs ++ part) h.is ∙ append_assoc old h.some part;
  of = append_assoc h.some part rest ∙ ap (λ (xs : List A). h.some ++ xs) (sym e) ∙ h.of;
}

-- some of the next part
pub stopped : {A : Type 0} (old all left rest part new more : List A) → IsLeft old all left new → left ≡ part ++ rest → AddsSome new part more → AddsSome old all more
stopped {A} old all left rest part new more h e k = record {
  some = h.some ++ k.some;
  rest = k.rest ++ rest;
  is = k.is ∙ ap (λ (xs : List A). xs ++ k.some) h.is ∙ append_assoc old h.some k.some;
  of = append_assoc h.some k.some (k.rest ++ rest)
      ∙ ap (λ (xs : List A). h.some ++ xs) (sym (append_assoc k.some k.rest rest) ∙ ap (λ (xs : List A). xs ++ rest) k.of ∙ sym e)
      ∙ h.of;
}

pub err_so : {A E P : Type 0} (r : Result A E) → P → OnErr r P
err_so (Ok a) p = tt
err_so (Err e) p = p
