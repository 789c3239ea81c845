-- Bytes that were shown up to a place.
use Rattle.std.proofs.Common.{◌≡◌, ℕ, List, ◌++◌, take, drop, ap, sym, ◌∙◌, Result, Ok, Err, OnErr, append_assoc, take-append-drop}
use Rattle.std.proofs.lemmas.List.{append_cancel_right}
use Rattle.std.proofs.lemmas.Str.{encodes-append}
use Rattle.table_rows.specs.Shown.{latin, ShowsFront}

pub on_err : {T E P : Type 0} (r : Result T E) → P → OnErr r P
on_err (Ok x) p = tt
on_err (Err e) p = p

pub front_shown : (old new bytes : List ℕ) (i : ℕ) → new ++ latin (drop i bytes) ≡ old ++ latin bytes → ShowsFront old new bytes
front_shown old new bytes i h = (
  take i bytes,
  drop i bytes,
  sym (take-append-drop i bytes),
  append_cancel_right new (old ++ latin (take i bytes)) (latin (drop i bytes))
      (h
      ∙ ap (λ (l : List ℕ). old ++ latin l) (sym (take-append-drop i bytes))
      ∙ ap (λ (l : List ℕ). old ++ l) (encodes-append (take i bytes) (drop i bytes))
      ∙ sym (append_assoc old (latin (take i bytes)) (latin (drop i bytes)))),
)
