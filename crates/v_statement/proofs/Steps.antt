-- What the rules' readers give is what the code reads, step by step.
use Rattle.std.proofs.Common.{◌≡◌, ℕ, zero, suc, Bool, true, false, List, Option, Some, None, Ok, Err, refl}
use Rattle.v_syntax.specs.declared.token.Token.{Token}
use Rattle.v_syntax.specs.declared.mark.Mark.TheVariants as mark
use Rattle.v_syntax.specs.declared.word.Keyword.TheVariants as word
use Rattle.v_syntax.specs.declared.statement.CaseKind.{CaseKind}
use Rattle.v_syntax.specs.ExpressionTrees.{Tree}
use Rattle.v_syntax.specs.StatementTrees.{StatementTree, CaseTree, Match, Default}
use Rattle.v_syntax.specs.Statements.{block_tree, delayed_tree, if_tree, case_tree}
use Rattle.v_expression.specs.Reading.{expression_of}
use Rattle.v_expression.specs.Phrase.Stops.{Answer, ◌>>=◌}
use Rattle.v_expression.specs.Phrase.Readers.{Reader, nothing, both, ◌⊛◌, ◌◃◌, ◌▹◌, either, branches, down, starts_word, sign, word_of, listed}
use Rattle.v_statement.specs.Reading.{matched_of, otherwise_of, pair, case_item_tree, case_with}

module _ (w : Reader (Unit {0})) (l : Reader (Option (List ℕ))) (ss : Reader (List StatementTree)) (d : Reader (Option StatementTree)) (e : Reader (Unit {0})) (ts : List Token) where
  abbrev Delayed : Type 0
  Delayed = (nothing delayed_tree ◃ w ⊛ l ⊛ ss ⊛ d ◃ e) ts ≡ ((w ts >>= λ u. l u.1) >>= λ x. ss x.1 >>= λ y. both (λ z u. delayed_tree x.0 y.0 z) d e y.1)

  pub delayed_steps : Delayed
  delayed_steps = first (w ts) refl
    where
      last : (a : Unit {0} × List Token) → w ts ≡ Ok a → (b : Option (List ℕ) × List Token) → l a.1 ≡ Ok b → (c : List StatementTree × List Token) → ss b.1 ≡ Ok c
          → (x : Option StatementTree × List Token) → d c.1 ≡ Ok x → (y : Answer (Unit {0})) → e x.1 ≡ y → Delayed
      last a p b q c r x s (Ok y) t = rw (p, q, r, s, t) refl
      last a p b q c r x s (Err k) t = rw (p, q, r, s, t) refl

      fourth : (a : Unit {0} × List Token) → w ts ≡ Ok a → (b : Option (List ℕ) × List Token) → l a.1 ≡ Ok b → (c : List StatementTree × List Token) → ss b.1 ≡ Ok c → (x : Answer (Option StatementTree)) → d c.1 ≡ x → Delayed
      fourth a p b q c r (Ok x) s = last a p b q c r x s (e x.1) refl
      fourth a p b q c r (Err k) s = rw (p, q, r, s) refl

      third : (a : Unit {0} × List Token) → w ts ≡ Ok a → (b : Option (List ℕ) × List Token) → l a.1 ≡ Ok b → (c : Answer (List StatementTree)) → ss b.1 ≡ c → Delayed
      third a p b q (Ok c) r = fourth a p b q c r (d c.1) refl
      third a p b q (Err k) r = rw (p, q, r) refl

      second : (a : Unit {0} × List Token) → w ts ≡ Ok a → (b : Answer (Option (List ℕ))) → l a.1 ≡ b → Delayed
      second a p (Ok b) q = third a p b q (ss b.1) refl
      second a p (Err k) q = rw (p, q) refl

      first : (a : Answer (Unit {0})) → w ts ≡ a → Delayed
      first (Ok a) p = second a p (l a.1) refl
      first (Err k) p = rw p refl

module _ (w : Reader (Unit {0})) (l : Reader (Option (List ℕ))) (ss : Reader (List StatementTree)) (e : Reader (Unit {0})) (ts : List Token) where
  abbrev Plain : Type 0
  Plain = (nothing block_tree ◃ w ⊛ l ⊛ ss ◃ e) ts ≡ ((w ts >>= λ u. l u.1) >>= λ x. ss x.1 >>= λ y. both (λ z u. delayed_tree x.0 y.0 z) (nothing None) e y.1)

  pub plain_steps : Plain
  plain_steps = first (w ts) refl
    where
      last : (a : Unit {0} × List Token) → w ts ≡ Ok a → (b : Option (List ℕ) × List Token) → l a.1 ≡ Ok b → (c : List StatementTree × List Token) → ss b.1 ≡ Ok c → (y : Answer (Unit {0})) → e c.1 ≡ y → Plain
      last a p b q c r (Ok y) t = rw (p, q, r, t) refl
      last a p b q c r (Err k) t = rw (p, q, r, t) refl

      third : (a : Unit {0} × List Token) → w ts ≡ Ok a → (b : Option (List ℕ) × List Token) → l a.1 ≡ Ok b → (c : Answer (List StatementTree)) → ss b.1 ≡ c → Plain
      third a p b q (Ok c) r = last a p b q c r (e c.1) refl
      third a p b q (Err k) r = rw (p, q, r) refl

      second : (a : Unit {0} × List Token) → w ts ≡ Ok a → (b : Answer (Option (List ℕ))) → l a.1 ≡ b → Plain
      second a p (Ok b) q = third a p b q (ss b.1) refl
      second a p (Err k) q = rw (p, q) refl

      first : (a : Answer (Unit {0})) → w ts ≡ a → Plain
      first (Ok a) p = second a p (l a.1) refl
      first (Err k) p = rw p refl

module _ (c : Reader Tree) (s : Reader StatementTree) (ts : List Token) where
  abbrev Conditional : Type 0
  Conditional = both if_tree c (branches s) ts ≡ (c ts >>= λ x. s x.1 >>= λ y. otherwise_of s y.1 >>= λ z. Ok (if_tree x.0 (y.0, z.0), z.1))

  pub conditional_steps : Conditional
  unfolding otherwise_of
  conditional_steps = first (c ts) refl
    where
      fourth : (a : Tree × List Token) → c ts ≡ Ok a → (b : StatementTree × List Token) → s a.1 ≡ Ok b → starts_word word.Else b.1 ≡ true → (x : Answer StatementTree) → (word_of word.Else ▹ s) b.1 ≡ x → Conditional
      fourth a p b q r (Ok x) t = rw (p, q, r, t) refl
      fourth a p b q r (Err k) t = rw (p, q, r, t) refl

      third : (a : Tree × List Token) → c ts ≡ Ok a → (b : StatementTree × List Token) → s a.1 ≡ Ok b → (x : Bool) → starts_word word.Else b.1 ≡ x → Conditional
      third a p b q true r = fourth a p b q r ((word_of word.Else ▹ s) b.1) refl
      third a p b q false r = rw (p, q, r) refl

      second : (a : Tree × List Token) → c ts ≡ Ok a → (b : Answer StatementTree) → s a.1 ≡ b → Conditional
      second a p (Ok b) q = third a p b q (starts_word word.Else b.1) refl
      second a p (Err k) q = rw (p, q) refl

      first : (a : Answer Tree) → c ts ≡ a → Conditional
      first (Ok a) p = second a p (s a.1) refl
      first (Err k) p = rw p refl

-- ---- case statements

module _ (k : Reader CaseKind) (o : Reader (Unit {0})) (x : Reader Tree) (c : Reader (Unit {0})) (cs : Reader (List CaseTree)) (e : Reader (Unit {0})) (ts : List Token) where
  abbrev Case : Type 0
  Case = (nothing case_tree ⊛ k ◃ o ⊛ x ◃ c ⊛ cs ◃ e) ts ≡ ((nothing pair ⊛ k ◃ o ⊛ x ◃ c) ts >>= λ h. cs h.1 >>= λ y. e y.1 >>= λ u. Ok (case_with h.0 y.0, u.1))

  pub case_steps : Case
  case_steps = first (k ts) refl
    where
      sixth : (a : CaseKind × List Token) → k ts ≡ Ok a → (b : Unit {0} × List Token) → o a.1 ≡ Ok b → (d : Tree × List Token) → x b.1 ≡ Ok d → (f : Unit {0} × List Token) → c d.1 ≡ Ok f
          → (g : List CaseTree × List Token) → cs f.1 ≡ Ok g → (h : Answer (Unit {0})) → e g.1 ≡ h → Case
      sixth a p b q d r f s g t (Ok h) u = rw (p, q, r, s, t, u) refl
      sixth a p b q d r f s g t (Err i) u = rw (p, q, r, s, t, u) refl

      fifth : (a : CaseKind × List Token) → k ts ≡ Ok a → (b : Unit {0} × List Token) → o a.1 ≡ Ok b → (d : Tree × List Token) → x b.1 ≡ Ok d → (f : Unit {0} × List Token) → c d.1 ≡ Ok f
          → (g : Answer (List CaseTree)) → cs f.1 ≡ g → Case
      fifth a p b q d r f s (Ok g) t = sixth a p b q d r f s g t (e g.1) refl
      fifth a p b q d r f s (Err i) t = rw (p, q, r, s, t) refl

      fourth : (a : CaseKind × List Token) → k ts ≡ Ok a → (b : Unit {0} × List Token) → o a.1 ≡ Ok b → (d : Tree × List Token) → x b.1 ≡ Ok d → (f : Answer (Unit {0})) → c d.1 ≡ f → Case
      fourth a p b q d r (Ok f) s = fifth a p b q d r f s (cs f.1) refl
      fourth a p b q d r (Err i) s = rw (p, q, r, s) refl

      third : (a : CaseKind × List Token) → k ts ≡ Ok a → (b : Unit {0} × List Token) → o a.1 ≡ Ok b → (d : Answer Tree) → x b.1 ≡ d → Case
      third a p b q (Ok d) r = fourth a p b q d r (c d.1) refl
      third a p b q (Err i) r = rw (p, q, r) refl

      second : (a : CaseKind × List Token) → k ts ≡ Ok a → (b : Answer (Unit {0})) → o a.1 ≡ b → Case
      second a p (Ok b) q = third a p b q (x b.1) refl
      second a p (Err i) q = rw (p, q) refl

      first : (a : Answer CaseKind) → k ts ≡ a → Case
      first (Ok a) p = second a p (o a.1) refl
      first (Err i) p = rw p refl

pub matched_same : (end m : ℕ) (ts : List Token) → (listed (down m (expression_of end)) ◃ sign mark.Colon) ts ≡ matched_of end m ts
unfolding matched_of listed
matched_same end zero ts = refl
matched_same end (suc m) ts = refl

module _ (ls : Reader (List Tree)) (c : Reader (Unit {0})) (s : Reader StatementTree) (m : Reader (List Tree)) (ts : List Token) (same : (ls ◃ c) ts ≡ m ts) where
  abbrev Matched : Type 0
  Matched = (nothing Match ⊛ ls ◃ c ⊛ s) ts ≡ both case_item_tree (nothing Some ⊛ m) s ts

  pub match_steps : Matched
  match_steps = first (ls ts) refl
    where
      third : (a : List Tree × List Token) → ls ts ≡ Ok a → (b : Unit {0} × List Token) → c a.1 ≡ Ok b → (x : Answer StatementTree) → s b.1 ≡ x → Matched
      third a p b q (Ok x) r = rw (← same, p, q, r) refl
      third a p b q (Err k) r = rw (← same, p, q, r) refl

      second : (a : List Tree × List Token) → ls ts ≡ Ok a → (b : Answer (Unit {0})) → c a.1 ≡ b → Matched
      second a p (Ok b) q = third a p b q (s b.1) refl
      second a p (Err k) q = rw (← same, p, q) refl

      first : (a : Answer (List Tree)) → ls ts ≡ a → Matched
      first (Ok a) p = second a p (c a.1) refl
      first (Err k) p = rw (← same, p) refl

module _ (w : Reader (Unit {0})) (c : Reader (Option (Unit {0}))) (s : Reader StatementTree) (ts : List Token) where
  abbrev Defaulted : Type 0
  Defaulted = (nothing Default ◃ w ◃ c ⊛ s) ts ≡ both case_item_tree (nothing None ◃ (nothing {A = Unit {0}} tt ◃ w ◃ c)) s ts

  pub default_steps : Defaulted
  default_steps = first (w ts) refl
    where
      third : (a : Unit {0} × List Token) → w ts ≡ Ok a → (b : Option (Unit {0}) × List Token) → c a.1 ≡ Ok b → (x : Answer StatementTree) → s b.1 ≡ x → Defaulted
      third a p b q (Ok x) r = rw (p, q, r) refl
      third a p b q (Err k) r = rw (p, q, r) refl

      second : (a : Unit {0} × List Token) → w ts ≡ Ok a → (b : Answer (Option (Unit {0}))) → c a.1 ≡ b → Defaulted
      second a p (Ok b) q = third a p b q (s b.1) refl
      second a p (Err k) q = rw (p, q) refl

      first : (a : Answer (Unit {0})) → w ts ≡ a → Defaulted
      first (Ok a) p = second a p (c a.1) refl
      first (Err k) p = rw p refl

pub item_steps : (test : List Token → Bool) (d : Reader (Option (List Tree))) (m : Reader (Option (List Tree))) (s : Reader StatementTree) (ts : List Token)
    → either test (both case_item_tree d s) (both case_item_tree m s) ts ≡ both case_item_tree (either test d m) s ts
item_steps test d m s ts = go (test ts) refl
  where
    go : (b : Bool) → test ts ≡ b → either test (both case_item_tree d s) (both case_item_tree m s) ts ≡ both case_item_tree (either test d m) s ts
    go true h = rw h refl
    go false h = rw h refl

pub either_same : {A : Type 0} (test : List Token → Bool) (p q a b : Reader A) (ts : List Token) → p ts ≡ a ts → q ts ≡ b ts → either test p q ts ≡ either test a b ts
either_same test p q a b ts e f = rw (e, f) refl
