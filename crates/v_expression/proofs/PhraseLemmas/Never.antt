-- What stands nowhere.
use Rattle.std.proofs.Common.{◌≡◌, ℕ, Bool, false, List, length, Ok, refl, arith}
use Rattle.v_syntax.specs.declared.token.Token.{Token}
use Rattle.v_syntax.specs.Phrases.{Phrase}
use Rattle.v_syntax.specs.Phrases as phrase
use Rattle.v_expression.specs.Phrase.Stops.{Syntax, TooDeep, syntax_at, deep_at}
use Rattle.v_expression.specs.Phrase.Readers.{Reader}
use Rattle.v_expression.specs.Phrase.Kinds.{Kinds}
use Rattle.v_expression.proofs.PhraseLemmas.Laws.{Spells, Laws, err_ok}

pub never_spells : {A : Type 0} (n : ℕ) (P : ℕ → Phrase Token A) (s : Kinds) (e : Bool) → ((x : A) (here rest : List Token) → (P n).whole x here rest → ⊥) → ((here rest : List Token) → (P n).front here rest → ⊥) → ((P n).missing → ⊥) → Spells n P s e
never_spells n P s e w f k = record {
  full = λ x here rest a. absurd (w x here rest a);
  none = λ here a. absurd (k a);
  roomy = λ here rest a. absurd (f here rest a);
  higher = λ m here rest h a. absurd (f here rest a);
  taller = λ m x here rest h a. absurd (w x here rest a);
  more = λ m h a. absurd (k a);
  between = λ here rest a. absurd (f here rest a);
  shorter = λ here rest mid a z l. absurd (f here rest a);
  starting = λ here rest a. absurd (f here rest a);
  begun = λ x here rest a. absurd (w x here rest a);
}

-- A reader that refuses the height at once.
pub never_deep : {A : Type 0} (n : ℕ) (P : ℕ → Phrase Token A) (s t : Kinds) (e : Bool) (p : ℕ → Reader A) → ((here : List Token) → p n here ≡ deep_at here)
    → ((x : A) (here rest : List Token) → (P n).whole x here rest → ⊥) → ((here rest : List Token) → (P n).front here rest → ⊥) → ((P n).missing → ⊥) → Laws n P s e t p
never_deep n P s t e p deep w f k = record {
  spells = never_spells n P s e w f k;
  reads = record {
    sound = λ here x rest h. absurd (err_ok (x, rest) (TooDeep (length here)) (let g : deep_at here ≡ Ok (x, rest) = rw deep at h in g));
    near = λ here stop a h. absurd (k a);
    through = λ here j a h. absurd (k a);
    kept = λ m here h. rw (deep here) tt;
    again = λ x here rest a h. absurd (w x here rest a);
    forward = λ here. rw (deep here) (omega arith);
    far = λ here rest a. absurd (f here rest a);
  };
}

pub never_laws : {A : Type 0} (n : ℕ) (s t : Kinds) → Laws {A = A} n (λ m. phrase.never) s false t (λ m ts. syntax_at ts)
never_laws n s t = record {
  spells = never_spells n (λ m. phrase.never) s false (λ x here rest w. w) (λ here rest f. f) (λ k. k);
  reads = record {
    sound = λ here x rest h. absurd (err_ok (x, rest) (Syntax (length here)) h);
    near = λ here stop a h. absurd a;
    through = λ here j a h. absurd a;
    kept = λ m here h. refl;
    again = λ x here rest a h. absurd a;
    forward = λ here. omega arith;
    far = λ here rest a. absurd a;
  };
}
