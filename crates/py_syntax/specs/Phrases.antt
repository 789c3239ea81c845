-- The notation of the forms. A phrase is one of their pieces: which tokens a tree of it spells, from `here` up to `rest`, both of
-- which are what is left of a line from a place on.
use Rattle.std.specs.Prelude.{◌≡◌, ◌⊎◌, ℕ, List, [], ◌∷◌, Option, Some}
use Rattle.py_syntax.specs.declared.operator.Operator.TheVariants as operator
use Rattle.py_syntax.specs.declared.token.Token.{Token}
use Rattle.py_syntax.specs.declared.token.Token.TheVariants as token

abbrev pub Phrase : Type 0 → Type 1
Phrase T = T → List Token → List Token → Type 0

-- this token
abbrev pub exactly : Token → Phrase (Unit {0})
exactly t x here rest = here ≡ t ∷ rest

-- this name
abbrev pub word : List ℕ → Phrase (Unit {0})
word w = exactly (token.Name w)

-- any name
abbrev pub name : Phrase (List ℕ)
name n here rest = here ≡ token.Name n ∷ rest

-- any text
abbrev pub text : Phrase (List ℕ)
text bytes here rest = here ≡ token.Text bytes ∷ rest

-- one after the other, and what their values make
abbrev pub both : {A B C : Type 0} → (A → B → C) → Phrase A → Phrase B → Phrase C
both {A} {B} make p q z here rest = (x : A) × (y : B) × (mid : List Token) × p x here mid × q y mid rest × (z ≡ make x y)

infixl 20 ◌◃◌
-- the second has no value
abbrev pub ◌◃◌ : {A B : Type 0} → Phrase A → Phrase B → Phrase A
p ◃ q = both (λ x y. x) p q

infixl 20 ◌▹◌
-- the first has no value
abbrev pub ◌▹◌ : {A B : Type 0} → Phrase A → Phrase B → Phrase B
p ▹ q = both (λ x y. y) p q

-- the one or the other
abbrev pub either : {A : Type 0} → Phrase A → Phrase A → Phrase A
either p q x here rest = p x here rest ⊎ q x here rest

-- a value, and what is made of it
abbrev pub becomes : {A B : Type 0} → (A → B) → Phrase A → Phrase B
becomes {A} f p y here rest = (x : A) × p x here rest × (y ≡ f x)

-- a value of which another can be made
abbrev pub makes : {A B : Type 0} → (A → Option B) → Phrase A → Phrase B
makes {A} make p y here rest = (x : A) × p x here rest × (make x ≡ Some y)

-- by its place, or by this name
abbrev pub by_name : {A : Type 0} → List ℕ → Phrase A → Phrase A
by_name w p = either p (word w ▹ exactly (token.Operator operator.Assign) ▹ p)

-- what ends a list
abbrev pub Ending : Type 1
Ending = List Token → List Token → Type 0

-- this token, before which a comma may stand
abbrev pub closes : Token → Ending
closes close here rest = (here ≡ close ∷ rest) ⊎ (here ≡ token.Operator operator.Comma ∷ close ∷ rest)

abbrev pub nothing : Ending
nothing here rest = here ≡ rest

-- the other elements of a list with this token between, behind one of them
abbrev pub others : {A : Type 0} → Phrase A → Token → Ending → Phrase (List A)
others p between ends [] here rest = ends here rest
others p between ends (x ∷ xs) here rest =
    (us : List Token) × (vs : List Token) × (here ≡ between ∷ us) × p x us vs × others p between ends xs vs rest

-- one or more elements
abbrev pub elements : {A : Type 0} → Phrase A → Token → Ending → Phrase (List A)
elements p between ends [] here rest = ⊥
elements p between ends (x ∷ xs) here rest = (us : List Token) × p x here us × others p between ends xs us rest

-- the elements of a list in brackets, behind its opening bracket and up to the closing one: any number, with commas between
abbrev pub listed : {A : Type 0} → Phrase A → Token → Phrase (List A)
listed p close [] here rest = here ≡ close ∷ rest
listed p close (x ∷ xs) here rest = elements p (token.Operator operator.Comma) (closes close) (x ∷ xs) here rest
