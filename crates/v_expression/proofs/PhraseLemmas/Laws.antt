-- The laws of a phrase and its reader at one height.
use Rattle.std.proofs.Common.{◌≡◌, ℕ, ◌≤◌, ◌<◌, Bool, true, List, length, Ok, Err, ap, ◌⊎◌}
use Rattle.v_syntax.specs.declared.token.Token.{Token}
use Rattle.v_syntax.specs.Phrases.{Phrase}
use Rattle.v_expression.specs.Phrase.Stops.{Stop, Syntax, TooDeep, Answer, deep_at}
use Rattle.v_expression.proofs.PhraseLemmas.Extends.{Extends}
use Rattle.v_expression.proofs.PhraseLemmas.Passes.{Passes}
use Rattle.v_expression.proofs.PhraseLemmas.Suffixes.{IsSuffix}
use Rattle.v_expression.specs.Phrase.Readers.{Reader}
use Rattle.v_expression.specs.Phrase.Kinds.{kind_at, Kinds}

-- the number of the tokens that are left where reading stopped
abbrev pub left : Stop → ℕ
left (Syntax k) = k
left (TooDeep k) = k

-- A partial tree of height at least n goes through the token at whose front k tokens are left.
abbrev pub Goes : {A : Type 0} → ℕ → (ℕ → Phrase Token A) → List Token → ℕ → Type 0
Goes n P here k = (m : ℕ) × (n ≤ m) × (rest : List Token) × (P m).front here rest × (length rest < k)

-- A partial tree of height at most n spells all but the last k tokens.
abbrev pub Reached : {A : Type 0} → Phrase Token A → List Token → ℕ → Type 0
Reached P here k = (rest : List Token) × P.front here rest × (length rest ≡ k)

-- Nothing is spelled, or the first token is one of those with which the phrase begins.
abbrev pub Starts : Kinds → List Token → List Token → Type 0
Starts starts here rest = (here ≡ rest) ⊎ (starts (kind_at here) ≡ true)

-- Nothing is spelled, if that may be, or tokens from such a first one on.
abbrev pub Takes : Kinds → Bool → List Token → List Token → Type 0
Takes starts empty here rest = ((empty ≡ true) × (here ≡ rest)) ⊎ ((starts (kind_at here) ≡ true) × (length rest < length here))

-- What holds of the trees of a phrase: P m is the phrase for heights up to m.
pub record Spells {A : Type 0} (n : ℕ) (P : ℕ → Phrase Token A) (starts : Kinds) (empty : Bool) : Type 0 where
  pub full : (x : A) (here rest : List Token) → (P n).whole x here rest → (P n).front here rest
  pub none : (here : List Token) → (P n).missing → (P n).front here here
  pub roomy : (here rest : List Token) → (P n).front here rest → (P n).missing
  pub higher : (m : ℕ) (here rest : List Token) → n ≤ m → (P n).front here rest → (P m).front here rest
  pub taller : (m : ℕ) (x : A) (here rest : List Token) → n ≤ m → (P n).whole x here rest → (P m).whole x here rest
  pub more : (m : ℕ) → n ≤ m → (P n).missing → (P m).missing
  pub between : (here rest : List Token) → (P n).front here rest → IsSuffix rest here
  pub shorter : (here rest mid : List Token) → (P n).front here rest → IsSuffix mid here → length rest ≤ length mid → (P n).front here mid
  pub starting : (here rest : List Token) → (P n).front here rest → Starts starts here rest
  pub begun : (x : A) (here rest : List Token) → (P n).whole x here rest → Takes starts empty here rest

-- What holds of what is read.
pub record Reads {A : Type 0} (n : ℕ) (P : ℕ → Phrase Token A) (stops : Kinds) (read : ℕ → Reader A) : Type 0 where
  pub sound : (here : List Token) (x : A) (rest : List Token) → read n here ≡ Ok (x, rest) → (P n).whole x here rest
  pub near : (here : List Token) (s : Stop) → (P n).missing → read n here ≡ Err s → Reached (P n) here (left s)
  pub through : (here : List Token) (k : ℕ) → (P n).missing → read n here ≡ Err (TooDeep k) → Goes n P here k
  pub kept : (m : ℕ) (here : List Token) → n ≤ m → Extends (read n here) (read m here)
  pub again : (x : A) (here rest : List Token) → (P n).whole x here rest → stops (kind_at rest) ≡ true → read n here ≡ Ok (x, rest)
  pub forward : (here : List Token) → Passes (length here) (read n here)
  pub far : (here rest : List Token) → (P n).front here rest → Passes (length rest) (read n here)

-- `starts`: the first token of what is spelled; `empty`: whether a whole tree may spell nothing; `stops`: which tokens
-- behind a whole tree end it.
pub record Laws {A : Type 0} (n : ℕ) (P : ℕ → Phrase Token A) (starts : Kinds) (empty : Bool) (stops : Kinds) (read : ℕ → Reader A) : Type 0 where
  pub spells : Spells n P starts empty
  pub reads : Reads n P stops read

-- Where the phrase may not even be missing, its reader refuses the height at once.
pub record Ready {A : Type 0} (n : ℕ) (P : ℕ → Phrase Token A) (starts : Kinds) (read : ℕ → Reader A) : Type 0 where
  pub ready : (P n).missing ⊎ ((here : List Token) → starts (kind_at here) ≡ true → (read n here ≡ deep_at here) × Goes n P here (length here))

-- ---- what is read, by cases

abbrev pub IsSame : {A : Type 0} → Answer A → Answer A → Type 0
IsSame a b = a ≡ b

abbrev first_or : {A : Type 0} → A → Answer A → A
first_or a (Ok x) = x.0
first_or a (Err e) = a

abbrev rest_or : {A : Type 0} → List Token → Answer A → List Token
rest_or ts (Ok x) = x.1
rest_or ts (Err e) = ts

pub ok_same : {A : Type 0} (x y : A) (us vs : List Token) → IsSame {A = A} (Ok (x, us)) (Ok (y, vs)) → (x ≡ y) × (us ≡ vs)
ok_same x y us vs e = (ap (first_or x) e, ap (rest_or us) e)

pub ok_err : {A : Type 0} (x : A × List Token) (s : Stop) → IsSame {A = A} (Ok x) (Err s) → ⊥
ok_err x s e = cc

pub err_ok : {A : Type 0} (x : A × List Token) (s : Stop) → IsSame {A = A} (Err s) (Ok x) → ⊥
err_ok x s e = cc

pub err_same : {A : Type 0} (s t : Stop) → IsSame {A = A} (Err s) (Err t) → s ≡ t
err_same s t e = cc

pub deep_same : {A : Type 0} (j k : ℕ) → IsSame {A = A} (Err (TooDeep j)) (Err (TooDeep k)) → j ≡ k
deep_same j k e = cc

pub left_same : {A : Type 0} (s t : Stop) → IsSame {A = A} (Err s) (Err t) → left s ≡ left t
left_same s t e = ap left (err_same s t e)

pub length_same : (us vs : List Token) → us ≡ vs → length us ≡ length vs
length_same us vs e = ap length e
