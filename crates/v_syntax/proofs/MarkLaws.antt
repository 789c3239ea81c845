-- The first of the marks that stands at a place is the longest.
use Rattle.std.proofs.Common.{◌≡◌, ℕ, ◌≤◌, Bool, true, false, leb, ◌&&◌, List, [], ◌∷◌, length, Some, None, nat_eq, ◌⊎◌, inl, inr, ⊎_elim, sym, ap, refl, ◌∙◌, arith}
use Rattle.std.specs.List.{find, starts_with}
use Rattle.std.proofs.lemmas.Bool.{cases_Bool, cond-true, cond-false, and_parts, leb-true, false≢true}
use Rattle.v_syntax.specs.declared.mark.Mark.{Mark}
use Rattle.v_syntax.specs.declared.mark.Mark.TheVariants.{CaseEqual, CaseUnequal, ArithmeticShiftLeft, ArithmeticShiftRight, LessOrEqual, GreaterOrEqual, Equal, Unequal, LogicalAnd, LogicalOr, ShiftLeft, ShiftRight, Nand, Nor, TildeCaret, CaretTilde, PlusColon, Hash, OpenParenthesis, CloseParenthesis, Semicolon, Comma, Assign, OpenBracket, CloseBracket, Colon, At, Star, Dot, OpenBrace, CloseBrace, Question, Bar, Caret, Ampersand, Less, Greater, Plus, Minus, Slash, Percent, Exclamation, Tilde}
use Rattle.v_syntax.specs.Marks.{mark_spelling, marks, mark_at, IsMarkAt}

module _ {X : Type 0} (size : X → ℕ) (p : X → Bool) where
  -- no element is longer than n, nor than one before it
  abbrev falls : ℕ → List X → Bool
  falls n [] = true
  falls n (x ∷ xs) = leb (size x) n && falls (size x) xs

  abbrev IsAmong : X → List X → Type 0
  IsAmong k [] = ⊥
  IsAmong k (x ∷ xs) = (k ≡ x) ⊎ IsAmong k xs

  no_longer : (n : ℕ) (xs : List X) (k : X) → falls n xs ≡ true → IsAmong k xs → size k ≤ n
  no_longer n [] k h among = absurd among
  no_longer n (x ∷ xs) k h among =
      let parts = and_parts (leb (size x) n) (falls (size x) xs) h in
      let first = leb-true (size x) n parts.0 in
      ⊎_elim
      (λ (e : k ≡ x). let f : size k ≡ size x = ap size e in omega arith)
      (λ (later : IsAmong k xs). let g = no_longer (size x) xs k parts.1 later in omega arith)
      among

  first_is_longest : (n : ℕ) (xs : List X) (m k : X) → falls n xs ≡ true → find p xs ≡ Some m → IsAmong k xs → p k ≡ true → size k ≤ size m
  first_is_longest n [] m k h e among t = absurd among
  first_is_longest n (x ∷ xs) m k h e among t =
      let parts = and_parts (leb (size x) n) (falls (size x) xs) h in
      ⊎_elim
      (λ (yes : p x ≡ true).
      let same : Some x ≡ Some m = sym (cond-true (p x) (Some x) (find p xs) yes) ∙ e in
      let is : x ≡ m = cc in
      let f : size x ≡ size m = ap size is in
      ⊎_elim
      (λ (q : k ≡ x). let g : size k ≡ size x = ap size q in omega arith)
      (λ (later : IsAmong k xs). let g = no_longer (size x) xs k parts.1 later in omega arith)
      among)
      (λ (no : p x ≡ false).
      let rest : find p xs ≡ Some m = sym (cond-false (p x) (Some x) (find p xs) no) ∙ e in
      ⊎_elim
      (λ (q : k ≡ x). absurd (false≢true (sym no ∙ sym (ap p q) ∙ t)))
      (λ (later : IsAmong k xs). first_is_longest (size x) xs m k parts.1 rest later t)
      among)
      (cases_Bool (p x))

  none_passes : (xs : List X) (k : X) → find p xs ≡ None → IsAmong k xs → p k ≡ true → ⊥
  none_passes [] k e among t = absurd among
  none_passes (x ∷ xs) k e among t =
      ⊎_elim
      (λ (yes : p x ≡ true). let bad : Some x ≡ None = sym (cond-true (p x) (Some x) (find p xs) yes) ∙ e in cc)
      (λ (no : p x ≡ false).
      let rest : find p xs ≡ None = sym (cond-false (p x) (Some x) (find p xs) no) ∙ e in
      ⊎_elim
      (λ (q : k ≡ x). absurd (false≢true (sym no ∙ sym (ap p q) ∙ t)))
      (λ (later : IsAmong k xs). none_passes xs k rest later t)
      among)
      (cases_Bool (p x))

among_marks : (k : Mark) → IsAmong (λ m. length (mark_spelling m)) (λ m. true) k marks
among_marks CaseEqual = inl refl
among_marks CaseUnequal = inr (inl refl)
among_marks ArithmeticShiftLeft = inr (inr (inl refl))
among_marks ArithmeticShiftRight = inr (inr (inr (inl refl)))
among_marks LessOrEqual = inr (inr (inr (inr (inl refl))))
among_marks GreaterOrEqual = inr (inr (inr (inr (inr (inl refl)))))
among_marks Equal = inr (inr (inr (inr (inr (inr (inl refl))))))
among_marks Unequal = inr (inr (inr (inr (inr (inr (inr (inl refl)))))))
among_marks LogicalAnd = inr (inr (inr (inr (inr (inr (inr (inr (inl refl))))))))
among_marks LogicalOr = inr (inr (inr (inr (inr (inr (inr (inr (inr (inl refl)))))))))
among_marks ShiftLeft = inr (inr (inr (inr (inr (inr (inr (inr (inr (inr (inl refl))))))))))
among_marks ShiftRight = inr (inr (inr (inr (inr (inr (inr (inr (inr (inr (inr (inl refl)))))))))))
among_marks Nand = inr (inr (inr (inr (inr (inr (inr (inr (inr (inr (inr (inr (inl refl))))))))))))
among_marks Nor = inr (inr (inr (inr (inr (inr (inr (inr (inr (inr (inr (inr (inr (inl refl)))))))))))))
among_marks TildeCaret = inr (inr (inr (inr (inr (inr (inr (inr (inr (inr (inr (inr (inr (inr (inl refl))))))))))))))
among_marks CaretTilde = inr (inr (inr (inr (inr (inr (inr (inr (inr (inr (inr (inr (inr (inr (inr (inl refl)))))))))))))))
among_marks PlusColon = inr (inr (inr (inr (inr (inr (inr (inr (inr (inr (inr (inr (inr (inr (inr (inr (inl refl))))))))))))))))
among_marks Hash = inr (inr (inr (inr (inr (inr (inr (inr (inr (inr (inr (inr (inr (inr (inr (inr (inr (inl refl)))))))))))))))))
among_marks OpenParenthesis = inr (inr (inr (inr (inr (inr (inr (inr (inr (inr (inr (inr (inr (inr (inr (inr (inr (inr (inl refl))))))))))))))))))
among_marks CloseParenthesis = inr (inr (inr (inr (inr (inr (inr (inr (inr (inr (inr (inr (inr (inr (inr (inr (inr (inr (inr (inl refl)))))))))))))))))))
among_marks Semicolon = inr (inr (inr (inr (inr (inr (inr (inr (inr (inr (inr (inr (inr (inr (inr (inr (inr (inr (inr (inr (inl refl))))))))))))))))))))
among_marks Comma = inr (inr (inr (inr (inr (inr (inr (inr (inr (inr (inr (inr (inr (inr (inr (inr (inr (inr (inr (inr (inr (inl refl)))))))))))))))))))))
among_marks Assign = inr (inr (inr (inr (inr (inr (inr (inr (inr (inr (inr (inr (inr (inr (inr (inr (inr (inr (inr (inr (inr (inr (inl refl))))))))))))))))))))))
among_marks OpenBracket = inr (inr (inr (inr (inr (inr (inr (inr (inr (inr (inr (inr (inr (inr (inr (inr (inr (inr (inr (inr (inr (inr (inr (inl refl)))))))))))))))))))))))
among_marks CloseBracket = inr (inr (inr (inr (inr (inr (inr (inr (inr (inr (inr (inr (inr (inr (inr (inr (inr (inr (inr (inr (inr (inr (inr (inr (inl refl))))))))))))))))))))))))
among_marks Colon = inr (inr (inr (inr (inr (inr (inr (inr (inr (inr (inr (inr (inr (inr (inr (inr (inr (inr (inr (inr (inr (inr (inr (inr (inr (inl refl)))))))))))))))))))))))))
among_marks At = inr (inr (inr (inr (inr (inr (inr (inr (inr (inr (inr (inr (inr (inr (inr (inr (inr (inr (inr (inr (inr (inr (inr (inr (inr (inr (inl refl))))))))))))))))))))))))))
among_marks Star = inr (inr (inr (inr (inr (inr (inr (inr (inr (inr (inr (inr (inr (inr (inr (inr (inr (inr (inr (inr (inr (inr (inr (inr (inr (inr (inr (inl refl)))))))))))))))))))))))))))
among_marks Dot = inr (inr (inr (inr (inr (inr (inr (inr (inr (inr (inr (inr (inr (inr (inr (inr (inr (inr (inr (inr (inr (inr (inr (inr (inr (inr (inr (inr (inl refl))))))))))))))))))))))))))))
among_marks OpenBrace = inr (inr (inr (inr (inr (inr (inr (inr (inr (inr (inr (inr (inr (inr (inr (inr (inr (inr (inr (inr (inr (inr (inr (inr (inr (inr (inr (inr (inr (inl refl)))))))))))))))))))))))))))))
among_marks CloseBrace = inr (inr (inr (inr (inr (inr (inr (inr (inr (inr (inr (inr (inr (inr (inr (inr (inr (inr (inr (inr (inr (inr (inr (inr (inr (inr (inr (inr (inr (inr (inl refl))))))))))))))))))))))))))))))
among_marks Question = inr (inr (inr (inr (inr (inr (inr (inr (inr (inr (inr (inr (inr (inr (inr (inr (inr (inr (inr (inr (inr (inr (inr (inr (inr (inr (inr (inr (inr (inr (inr (inl refl)))))))))))))))))))))))))))))))
among_marks Bar = inr (inr (inr (inr (inr (inr (inr (inr (inr (inr (inr (inr (inr (inr (inr (inr (inr (inr (inr (inr (inr (inr (inr (inr (inr (inr (inr (inr (inr (inr (inr (inr (inl refl))))))))))))))))))))))))))))))))
among_marks Caret = inr (inr (inr (inr (inr (inr (inr (inr (inr (inr (inr (inr (inr (inr (inr (inr (inr (inr (inr (inr (inr (inr (inr (inr (inr (inr (inr (inr (inr (inr (inr (inr (inr (inl refl)))))))))))))))))))))))))))))))))
among_marks Ampersand = inr (inr (inr (inr (inr (inr (inr (inr (inr (inr (inr (inr (inr (inr (inr (inr (inr (inr (inr (inr (inr (inr (inr (inr (inr (inr (inr (inr (inr (inr (inr (inr (inr (inr (inl refl))))))))))))))))))))))))))))))))))
among_marks Less = inr (inr (inr (inr (inr (inr (inr (inr (inr (inr (inr (inr (inr (inr (inr (inr (inr (inr (inr (inr (inr (inr (inr (inr (inr (inr (inr (inr (inr (inr (inr (inr (inr (inr (inr (inl refl)))))))))))))))))))))))))))))))))))
among_marks Greater = inr (inr (inr (inr (inr (inr (inr (inr (inr (inr (inr (inr (inr (inr (inr (inr (inr (inr (inr (inr (inr (inr (inr (inr (inr (inr (inr (inr (inr (inr (inr (inr (inr (inr (inr (inr (inl refl))))))))))))))))))))))))))))))))))))
among_marks Plus = inr (inr (inr (inr (inr (inr (inr (inr (inr (inr (inr (inr (inr (inr (inr (inr (inr (inr (inr (inr (inr (inr (inr (inr (inr (inr (inr (inr (inr (inr (inr (inr (inr (inr (inr (inr (inr (inl refl)))))))))))))))))))))))))))))))))))))
among_marks Minus = inr (inr (inr (inr (inr (inr (inr (inr (inr (inr (inr (inr (inr (inr (inr (inr (inr (inr (inr (inr (inr (inr (inr (inr (inr (inr (inr (inr (inr (inr (inr (inr (inr (inr (inr (inr (inr (inr (inl refl))))))))))))))))))))))))))))))))))))))
among_marks Slash = inr (inr (inr (inr (inr (inr (inr (inr (inr (inr (inr (inr (inr (inr (inr (inr (inr (inr (inr (inr (inr (inr (inr (inr (inr (inr (inr (inr (inr (inr (inr (inr (inr (inr (inr (inr (inr (inr (inr (inl refl)))))))))))))))))))))))))))))))))))))))
among_marks Percent = inr (inr (inr (inr (inr (inr (inr (inr (inr (inr (inr (inr (inr (inr (inr (inr (inr (inr (inr (inr (inr (inr (inr (inr (inr (inr (inr (inr (inr (inr (inr (inr (inr (inr (inr (inr (inr (inr (inr (inr (inl refl))))))))))))))))))))))))))))))))))))))))
among_marks Exclamation = inr (inr (inr (inr (inr (inr (inr (inr (inr (inr (inr (inr (inr (inr (inr (inr (inr (inr (inr (inr (inr (inr (inr (inr (inr (inr (inr (inr (inr (inr (inr (inr (inr (inr (inr (inr (inr (inr (inr (inr (inr (inl refl)))))))))))))))))))))))))))))))))))))))))
among_marks Tilde = inr (inr (inr (inr (inr (inr (inr (inr (inr (inr (inr (inr (inr (inr (inr (inr (inr (inr (inr (inr (inr (inr (inr (inr (inr (inr (inr (inr (inr (inr (inr (inr (inr (inr (inr (inr (inr (inr (inr (inr (inr (inr (inl refl))))))))))))))))))))))))))))))))))))))))))

pub longest : (text : List ℕ) (m k : Mark) → mark_at text ≡ Some m → IsMarkAt text k → length (mark_spelling k) ≤ length (mark_spelling m)
unfolding mark_at
longest text m k e t = first_is_longest (λ m. length (mark_spelling m)) (λ m. starts_with nat_eq text (mark_spelling m)) 3 marks m k refl e (among_marks k) t

pub none : (text : List ℕ) (k : Mark) → mark_at text ≡ None → IsMarkAt text k → ⊥
unfolding mark_at
none text k e t = none_passes (λ m. length (mark_spelling m)) (λ m. starts_with nat_eq text (mark_spelling m)) marks k e (among_marks k) t
