-- The notation of the grammar. A phrase is one of its pieces: which tokens its whole trees spell, which its partial
-- trees spell, and when it may be missing. A tree spells the tokens from `here` up to `rest`: both are what is left of
-- the text from a place on. A partial tree keeps its first parts, the last part that it keeps may itself be partial,
-- and all parts behind that are missing.
use Rattle.std.specs.Prelude.{◌≡◌, ℕ, ◌-◌, Bool, true, false, List, [], ◌∷◌, length, Option, Some, None, ◌⊎◌}

pub record Phrase (K T : Type 0) : Type 1 where
  pub whole : T → List K → List K → Type 0
  pub front : List K → List K → Type 0
  -- a partial tree may lack it
  pub missing : Type 0

module _ {K : Type 0} where
  -- nothing, with a value
  abbrev pub nothing : {T : Type 0} → T → Phrase K T
  nothing x = record {
    whole = λ y here rest. (x ≡ y) × (here ≡ rest);
    front = λ here rest. here ≡ rest;
    missing = Unit {0};
  }

  -- what stands nowhere
  abbrev pub never : {T : Type 0} → Phrase K T
  never = record { whole = λ y here rest. ⊥; front = λ here rest. ⊥; missing = ⊥ }

  -- this token
  abbrev pub exactly : K → Phrase K (Unit {0})
  exactly t = record {
    whole = λ x here rest. here ≡ t ∷ rest;
    front = λ here rest. (here ≡ rest) ⊎ (here ≡ t ∷ rest);
    missing = Unit {0};
  }

  -- a token with a meaning
  abbrev pub token_of : {T : Type 0} → (K → Option T) → Phrase K T
  token_of {T} meaning = record {
    whole = λ x here rest. (t : K) × (here ≡ t ∷ rest) × (meaning t ≡ Some x);
    front = λ here rest. (here ≡ rest) ⊎ ((t : K) × (x : T) × (here ≡ t ∷ rest) × (meaning t ≡ Some x));
    missing = Unit {0};
  }

  -- the number of the token that comes next, in a text of so many tokens
  abbrev pub place_in : ℕ → Phrase K ℕ
  place_in end = record {
    whole = λ n here rest. (n ≡ end - length here) × (here ≡ rest);
    front = λ here rest. here ≡ rest;
    missing = Unit {0};
  }

  -- one after the other, and what their values make
  abbrev pub both : {A B C : Type 0} → (A → B → C) → Phrase K A → Phrase K B → Phrase K C
  both {A} {B} make p q = record {
    whole = λ z here rest. (x : A) × (y : B) × (mid : List K) × p.whole x here mid × q.whole y mid rest × (make x y ≡ z);
    front = λ here rest. (p.front here rest × q.missing) ⊎ ((x : A) × (mid : List K) × p.whole x here mid × q.front mid rest);
    missing = p.missing × q.missing;
  }

  infixl 20 ◌⊛◌
  -- a value that wants one more, and that one
  abbrev pub ◌⊛◌ : {A B : Type 0} → Phrase K (A → B) → Phrase K A → Phrase K B
  p ⊛ q = both (λ f x. f x) p q

  infixl 20 ◌◃◌
  -- the second has no value
  abbrev pub ◌◃◌ : {A B : Type 0} → Phrase K A → Phrase K B → Phrase K A
  p ◃ q = both (λ x y. x) p q

  infixl 20 ◌▹◌
  -- the first has no value
  abbrev pub ◌▹◌ : {A B : Type 0} → Phrase K A → Phrase K B → Phrase K B
  p ▹ q = both (λ x y. y) p q

  abbrev pub WholeMaybe : {A : Type 0} → (A → List K → List K → Type 0) → Option A → List K → List K → Type 0
  WholeMaybe whole None here rest = here ≡ rest
  WholeMaybe whole (Some x) here rest = whole x here rest

  -- [p]
  abbrev pub maybe : {A : Type 0} → Phrase K A → Phrase K (Option A)
  maybe p = record {
    whole = WholeMaybe p.whole;
    front = λ here rest. (here ≡ rest) ⊎ p.front here rest;
    missing = Unit {0};
  }

  -- one after the other
  abbrev pub Each : {A : Type 0} → (A → List K → List K → Type 0) → List A → List K → List K → Type 0
  Each whole [] here rest = here ≡ rest
  Each whole (x ∷ xs) here rest = (mid : List K) × whole x here mid × Each whole xs mid rest

  -- {p}
  abbrev pub many : {A : Type 0} → Phrase K A → Phrase K (List A)
  many {A} p = record {
    whole = Each p.whole;
    front = λ here rest. (xs : List A) × (mid : List K) × Each p.whole xs here mid × ((mid ≡ rest) ⊎ p.front mid rest);
    missing = Unit {0};
  }

  -- one or more of them
  abbrev pub some : {A : Type 0} → Phrase K A → Phrase K (List A)
  some p = both ◌∷◌ p (many p)

  -- one or more, with a separator between
  abbrev pub separated : {S A : Type 0} → Phrase K S → Phrase K A → Phrase K (List A)
  separated s p = both ◌∷◌ p (many (s ▹ p))

  -- one of several
  abbrev pub one_of : {I A : Type 0} → (I → Phrase K A) → Phrase K A
  one_of {I} p = record {
    whole = λ x here rest. (i : I) × (p i).whole x here rest;
    front = λ here rest. (i : I) × (p i).front here rest;
    missing = (i : I) × (p i).missing;
  }

  abbrev pub second_if : {A : Type 0} → Phrase K A → Phrase K A → Bool → Phrase K A
  second_if p q false = p
  second_if p q true = q

  -- the one or the other
  abbrev pub either : {A : Type 0} → Phrase K A → Phrase K A → Phrase K A
  either p q = one_of (second_if p q)
