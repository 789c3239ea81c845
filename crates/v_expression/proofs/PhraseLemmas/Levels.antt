-- Readers that count levels.
use Rattle.std.proofs.Common.{◌≡◌, ℕ, zero, suc, ◌+◌, ◌≤◌, ◌<◌, true, false, List, length, Err, sym, ◌∙◌, arith, inl, inr}
use Rattle.v_syntax.specs.declared.token.Token.{Token}
use Rattle.v_syntax.specs.Phrases.{Phrase}
use Rattle.v_expression.specs.Phrase.Stops.{Stop, Syntax, TooDeep, Answer, deep_at}
use Rattle.v_expression.proofs.PhraseLemmas.Extends.{Extends}
use Rattle.v_expression.specs.Phrase.Readers.{Reader, down}
use Rattle.v_expression.specs.Phrase.Kinds.{kind_at, Kinds}
use Rattle.v_expression.proofs.PhraseLemmas.Laws.{left, Goes, Starts, Spells, Laws, Ready, err_ok}

-- ---- a phrase of which nothing stands where no level is left

-- The body reads where levels are left.
pub down_laws : {A : Type 0} (n : ℕ) (P : ℕ → Phrase Token A) (s t : Kinds) (body p : ℕ → Reader A) → ((here : List Token) → p zero here ≡ deep_at here) → ((room : ℕ) (here : List Token) → p (suc room) here ≡ body (suc room) here)
    → ((P 0).missing → ⊥) → ((m : ℕ) → (P (suc m)).missing) → Spells n P s false → ((P n).missing → Laws n P s false t body) → Laws n P s false t p
down_laws zero P s t body p none some cut able q laws = record {
  spells = q;
  reads = record {
    sound = λ here x rest h. absurd (err_ok (x, rest) (TooDeep (length here)) (sym (none here) ∙ h));
    near = λ here stop k h. absurd (cut k);
    through = λ here j k h. absurd (cut k);
    kept = λ m here h. rw (none here) tt;
    again = λ x here rest w h. absurd (cut (q.roomy here rest (q.full x here rest w)));
    forward = λ here. rw (none here) (omega arith);
    far = λ here rest f. absurd (cut (q.roomy here rest f));
  };
}
down_laws (suc n) P s t body p none some cut able q laws = record {
  spells = q;
  reads = record {
    sound = λ here x rest h. (laws (able n)).reads.sound here x rest (sym (some n here) ∙ h);
    near = λ here stop k h. (laws (able n)).reads.near here stop k (sym (some n here) ∙ h);
    through = λ here j k h. (laws (able n)).reads.through here j k (sym (some n here) ∙ h);
    kept = keeps;
    again = λ x here rest w h. some n here ∙ (laws (able n)).reads.again x here rest w h;
    forward = λ here. rw (some n here) ((laws (able n)).reads.forward here);
    far = λ here rest f. rw (some n here) ((laws (able n)).reads.far here rest f);
  };
}
  where
    keeps : (m : ℕ) (here : List Token) → suc n ≤ m → Extends (p (suc n) here) (p m here)
    keeps zero here h = absurd (omega arith)
    keeps (suc m) here h = rw (some n here, some m here) ((laws (able n)).reads.kept (suc m) here h)

pub down_ready : {A : Type 0} (n : ℕ) (P : ℕ → Phrase Token A) (s : Kinds) (p : ℕ → Reader A) → ((here : List Token) → p zero here ≡ deep_at here) → ((m : ℕ) → (P (suc m)).missing)
    → ((here : List Token) → s (kind_at here) ≡ true → Goes 0 P here (length here)) → Ready n P s p
down_ready zero P s p none able opens = record { ready = inr (λ here h. (none here, opens here h)) }
down_ready (suc n) P s p none able opens = record { ready = inl (able n) }
