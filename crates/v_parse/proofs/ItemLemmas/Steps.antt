-- What the rules' readers of items give is what the code reads, step by step.
use Rattle.std.proofs.Common.{◌≡◌, ℕ, List, Option, Ok, Err, refl}
use Rattle.v_syntax.specs.declared.token.Token.{Token}
use Rattle.v_syntax.specs.declared.statement.Identifier.{Identifier}
use Rattle.v_syntax.specs.ExpressionTrees.{Tree}
use Rattle.v_syntax.specs.ExpressionSpans.{place}
use Rattle.v_syntax.specs.SourceTrees.{Bounds, Connection, ConnectionsTree, Instance}
use Rattle.v_expression.specs.Phrase.Stops.{Answer, ◌>>=◌}
use Rattle.v_expression.specs.Phrase.Readers.{Reader, nothing, place_in, ◌⊛◌, ◌◃◌, ◌▹◌}

module _ (end : ℕ) (o : Reader (Unit {0})) (x : Reader Tree) (c : Reader (Unit {0})) (y : Reader Tree) (e : Reader (Unit {0})) (ts : List Token) where
  abbrev RangeSame : Type 0
  RangeSame = (nothing Bounds ⊛ place_in end ◃ o ⊛ x ◃ c ⊛ y ◃ e) ts ≡ (o ts >>= λ u. (x ◃ c) u.1 >>= λ l. (y ◃ e) l.1 >>= λ r. Ok (Bounds (place end ts) l.0 r.0, r.1))

  pub range_steps : RangeSame
  range_steps = step0 (o ts) refl
    where
      step4 : (x0 : Unit {0} × List Token) → o ts ≡ Ok x0 → (x1 : Tree × List Token) → x x0.1 ≡ Ok x1 → (x2 : Unit {0} × List Token) → c x1.1 ≡ Ok x2 → (x3 : Tree × List Token) → y x2.1 ≡ Ok x3 → (x4 : Answer (Unit {0})) → e x3.1 ≡ x4 → RangeSame
      step4 x0 h0 x1 h1 x2 h2 x3 h3 (Ok x4) h4 = rw (h0, h1, h2, h3, h4) refl
      step4 x0 h0 x1 h1 x2 h2 x3 h3 (Err s) h4 = rw (h0, h1, h2, h3, h4) refl

      step3 : (x0 : Unit {0} × List Token) → o ts ≡ Ok x0 → (x1 : Tree × List Token) → x x0.1 ≡ Ok x1 → (x2 : Unit {0} × List Token) → c x1.1 ≡ Ok x2 → (x3 : Answer Tree) → y x2.1 ≡ x3 → RangeSame
      step3 x0 h0 x1 h1 x2 h2 (Ok x3) h3 = step4 x0 h0 x1 h1 x2 h2 x3 h3 (e x3.1) refl
      step3 x0 h0 x1 h1 x2 h2 (Err s) h3 = rw (h0, h1, h2, h3) refl

      step2 : (x0 : Unit {0} × List Token) → o ts ≡ Ok x0 → (x1 : Tree × List Token) → x x0.1 ≡ Ok x1 → (x2 : Answer (Unit {0})) → c x1.1 ≡ x2 → RangeSame
      step2 x0 h0 x1 h1 (Ok x2) h2 = step3 x0 h0 x1 h1 x2 h2 (y x2.1) refl
      step2 x0 h0 x1 h1 (Err s) h2 = rw (h0, h1, h2) refl

      step1 : (x0 : Unit {0} × List Token) → o ts ≡ Ok x0 → (x1 : Answer Tree) → x x0.1 ≡ x1 → RangeSame
      step1 x0 h0 (Ok x1) h1 = step2 x0 h0 x1 h1 (c x1.1) refl
      step1 x0 h0 (Err s) h1 = rw (h0, h1) refl

      step0 : (x0 : Answer (Unit {0})) → o ts ≡ x0 → RangeSame
      step0 (Ok x0) h0 = step1 x0 h0 (x x0.1) refl
      step0 (Err s) h0 = rw h0 refl

module _ (end : ℕ) (d : Reader (Unit {0})) (n : Reader Identifier) (b : Reader (Unit {0})) (v : Reader (Option Tree)) (c : Reader (Unit {0})) (ts : List Token) where
  abbrev ConnectionSame : Type 0
  ConnectionSame = (nothing Connection ⊛ place_in end ◃ d ⊛ n ◃ b ⊛ v ◃ c) ts ≡ (d ts >>= λ u. n u.1 >>= λ i. (b ▹ v ◃ c) i.1 >>= λ x. Ok (Connection (place end ts) i.0 x.0, x.1))

  pub connection_steps : ConnectionSame
  connection_steps = step0 (d ts) refl
    where
      step4 : (x0 : Unit {0} × List Token) → d ts ≡ Ok x0 → (x1 : Identifier × List Token) → n x0.1 ≡ Ok x1 → (x2 : Unit {0} × List Token) → b x1.1 ≡ Ok x2 → (x3 : Option Tree × List Token) → v x2.1 ≡ Ok x3 → (x4 : Answer (Unit {0})) → c x3.1 ≡ x4 → ConnectionSame
      step4 x0 h0 x1 h1 x2 h2 x3 h3 (Ok x4) h4 = rw (h0, h1, h2, h3, h4) refl
      step4 x0 h0 x1 h1 x2 h2 x3 h3 (Err s) h4 = rw (h0, h1, h2, h3, h4) refl

      step3 : (x0 : Unit {0} × List Token) → d ts ≡ Ok x0 → (x1 : Identifier × List Token) → n x0.1 ≡ Ok x1 → (x2 : Unit {0} × List Token) → b x1.1 ≡ Ok x2 → (x3 : Answer (Option Tree)) → v x2.1 ≡ x3 → ConnectionSame
      step3 x0 h0 x1 h1 x2 h2 (Ok x3) h3 = step4 x0 h0 x1 h1 x2 h2 x3 h3 (c x3.1) refl
      step3 x0 h0 x1 h1 x2 h2 (Err s) h3 = rw (h0, h1, h2, h3) refl

      step2 : (x0 : Unit {0} × List Token) → d ts ≡ Ok x0 → (x1 : Identifier × List Token) → n x0.1 ≡ Ok x1 → (x2 : Answer (Unit {0})) → b x1.1 ≡ x2 → ConnectionSame
      step2 x0 h0 x1 h1 (Ok x2) h2 = step3 x0 h0 x1 h1 x2 h2 (v x2.1) refl
      step2 x0 h0 x1 h1 (Err s) h2 = rw (h0, h1, h2) refl

      step1 : (x0 : Unit {0} × List Token) → d ts ≡ Ok x0 → (x1 : Answer Identifier) → n x0.1 ≡ x1 → ConnectionSame
      step1 x0 h0 (Ok x1) h1 = step2 x0 h0 x1 h1 (b x1.1) refl
      step1 x0 h0 (Err s) h1 = rw (h0, h1) refl

      step0 : (x0 : Answer (Unit {0})) → d ts ≡ x0 → ConnectionSame
      step0 (Ok x0) h0 = step1 x0 h0 (n x0.1) refl
      step0 (Err s) h0 = rw h0 refl

module _ (i : Reader Identifier) (o : Reader (Option ConnectionsTree)) (n : Reader Identifier) (b : Reader (Unit {0})) (c : Reader (Option ConnectionsTree)) (e : Reader (Unit {0})) (s : Reader (Unit {0})) (ts : List Token) where
  abbrev tail : Reader (Identifier × Option ConnectionsTree)
  tail us = n us >>= λ x. (b ▹ c ◃ e) x.1 >>= λ y. s y.1 >>= λ u. Ok ((x.0, y.0), u.1)

  abbrev InstanceSame : Type 0
  InstanceSame = (nothing Instance ⊛ i ⊛ o ⊛ n ◃ b ⊛ c ◃ e ◃ s) ts ≡ (i ts >>= λ m. o m.1 >>= λ p. tail p.1 >>= λ t. Ok (Instance m.0 p.0 t.0.0 t.0.1, t.1))

  pub instance_steps : InstanceSame
  instance_steps = step0 (i ts) refl
    where
      step6 : (x0 : Identifier × List Token) → i ts ≡ Ok x0 → (x1 : Option ConnectionsTree × List Token) → o x0.1 ≡ Ok x1 → (x2 : Identifier × List Token) → n x1.1 ≡ Ok x2 → (x3 : Unit {0} × List Token) → b x2.1 ≡ Ok x3 → (x4 : Option ConnectionsTree × List Token) → c x3.1 ≡ Ok x4 → (x5 : Unit {0} × List Token) → e x4.1 ≡ Ok x5 → (x6 : Answer (Unit {0})) → s x5.1 ≡ x6 → InstanceSame
      step6 x0 h0 x1 h1 x2 h2 x3 h3 x4 h4 x5 h5 (Ok x6) h6 = rw (h0, h1, h2, h3, h4, h5, h6) refl
      step6 x0 h0 x1 h1 x2 h2 x3 h3 x4 h4 x5 h5 (Err s) h6 = rw (h0, h1, h2, h3, h4, h5, h6) refl

      step5 : (x0 : Identifier × List Token) → i ts ≡ Ok x0 → (x1 : Option ConnectionsTree × List Token) → o x0.1 ≡ Ok x1 → (x2 : Identifier × List Token) → n x1.1 ≡ Ok x2 → (x3 : Unit {0} × List Token) → b x2.1 ≡ Ok x3 → (x4 : Option ConnectionsTree × List Token) → c x3.1 ≡ Ok x4 → (x5 : Answer (Unit {0})) → e x4.1 ≡ x5 → InstanceSame
      step5 x0 h0 x1 h1 x2 h2 x3 h3 x4 h4 (Ok x5) h5 = step6 x0 h0 x1 h1 x2 h2 x3 h3 x4 h4 x5 h5 (s x5.1) refl
      step5 x0 h0 x1 h1 x2 h2 x3 h3 x4 h4 (Err s) h5 = rw (h0, h1, h2, h3, h4, h5) refl

      step4 : (x0 : Identifier × List Token) → i ts ≡ Ok x0 → (x1 : Option ConnectionsTree × List Token) → o x0.1 ≡ Ok x1 → (x2 : Identifier × List Token) → n x1.1 ≡ Ok x2 → (x3 : Unit {0} × List Token) → b x2.1 ≡ Ok x3 → (x4 : Answer (Option ConnectionsTree)) → c x3.1 ≡ x4 → InstanceSame
      step4 x0 h0 x1 h1 x2 h2 x3 h3 (Ok x4) h4 = step5 x0 h0 x1 h1 x2 h2 x3 h3 x4 h4 (e x4.1) refl
      step4 x0 h0 x1 h1 x2 h2 x3 h3 (Err s) h4 = rw (h0, h1, h2, h3, h4) refl

      step3 : (x0 : Identifier × List Token) → i ts ≡ Ok x0 → (x1 : Option ConnectionsTree × List Token) → o x0.1 ≡ Ok x1 → (x2 : Identifier × List Token) → n x1.1 ≡ Ok x2 → (x3 : Answer (Unit {0})) → b x2.1 ≡ x3 → InstanceSame
      step3 x0 h0 x1 h1 x2 h2 (Ok x3) h3 = step4 x0 h0 x1 h1 x2 h2 x3 h3 (c x3.1) refl
      step3 x0 h0 x1 h1 x2 h2 (Err s) h3 = rw (h0, h1, h2, h3) refl

      step2 : (x0 : Identifier × List Token) → i ts ≡ Ok x0 → (x1 : Option ConnectionsTree × List Token) → o x0.1 ≡ Ok x1 → (x2 : Answer Identifier) → n x1.1 ≡ x2 → InstanceSame
      step2 x0 h0 x1 h1 (Ok x2) h2 = step3 x0 h0 x1 h1 x2 h2 (b x2.1) refl
      step2 x0 h0 x1 h1 (Err s) h2 = rw (h0, h1, h2) refl

      step1 : (x0 : Identifier × List Token) → i ts ≡ Ok x0 → (x1 : Answer (Option ConnectionsTree)) → o x0.1 ≡ x1 → InstanceSame
      step1 x0 h0 (Ok x1) h1 = step2 x0 h0 x1 h1 (n x1.1) refl
      step1 x0 h0 (Err s) h1 = rw (h0, h1) refl

      step0 : (x0 : Answer Identifier) → i ts ≡ x0 → InstanceSame
      step0 (Ok x0) h0 = step1 x0 h0 (o x0.1) refl
      step0 (Err s) h0 = rw h0 refl

module _ {A B C : Type 0} (make : A → B → C) (w : Reader (Unit {0})) (p : Reader A) (q : Reader B) (s : Reader (Unit {0})) (ts : List Token) where
  abbrev DeclaredSame : Type 0
  DeclaredSame = (nothing make ◃ w ⊛ p ⊛ q ◃ s) ts ≡ (w ts >>= λ u. p u.1 >>= λ x. (q ◃ s) x.1 >>= λ y. Ok (make x.0 y.0, y.1))

  pub declared_steps : DeclaredSame
  declared_steps = step0 (w ts) refl
    where
      step3 : (x0 : Unit {0} × List Token) → w ts ≡ Ok x0 → (x1 : A × List Token) → p x0.1 ≡ Ok x1 → (x2 : B × List Token) → q x1.1 ≡ Ok x2 → (x3 : Answer (Unit {0})) → s x2.1 ≡ x3 → DeclaredSame
      step3 x0 h0 x1 h1 x2 h2 (Ok x3) h3 = rw (h0, h1, h2, h3) refl
      step3 x0 h0 x1 h1 x2 h2 (Err s) h3 = rw (h0, h1, h2, h3) refl

      step2 : (x0 : Unit {0} × List Token) → w ts ≡ Ok x0 → (x1 : A × List Token) → p x0.1 ≡ Ok x1 → (x2 : Answer B) → q x1.1 ≡ x2 → DeclaredSame
      step2 x0 h0 x1 h1 (Ok x2) h2 = step3 x0 h0 x1 h1 x2 h2 (s x2.1) refl
      step2 x0 h0 x1 h1 (Err s) h2 = rw (h0, h1, h2) refl

      step1 : (x0 : Unit {0} × List Token) → w ts ≡ Ok x0 → (x1 : Answer A) → p x0.1 ≡ x1 → DeclaredSame
      step1 x0 h0 (Ok x1) h1 = step2 x0 h0 x1 h1 (q x1.1) refl
      step1 x0 h0 (Err s) h1 = rw (h0, h1) refl

      step0 : (x0 : Answer (Unit {0})) → w ts ≡ x0 → DeclaredSame
      step0 (Ok x0) h0 = step1 x0 h0 (p x0.1) refl
      step0 (Err s) h0 = rw h0 refl

module _ {A B C : Type 0} (make : A → B → C) (p : Reader A) (q : Reader B) (s : Reader (Unit {0})) (ts : List Token) where
  abbrev HeadedSame : Type 0
  HeadedSame = (nothing make ⊛ p ⊛ q ◃ s) ts ≡ (p ts >>= λ x. (q ◃ s) x.1 >>= λ y. Ok (make x.0 y.0, y.1))

  pub headed_steps : HeadedSame
  headed_steps = step0 (p ts) refl
    where
      step2 : (x0 : A × List Token) → p ts ≡ Ok x0 → (x1 : B × List Token) → q x0.1 ≡ Ok x1 → (x2 : Answer (Unit {0})) → s x1.1 ≡ x2 → HeadedSame
      step2 x0 h0 x1 h1 (Ok x2) h2 = rw (h0, h1, h2) refl
      step2 x0 h0 x1 h1 (Err s) h2 = rw (h0, h1, h2) refl

      step1 : (x0 : A × List Token) → p ts ≡ Ok x0 → (x1 : Answer B) → q x0.1 ≡ x1 → HeadedSame
      step1 x0 h0 (Ok x1) h1 = step2 x0 h0 x1 h1 (s x1.1) refl
      step1 x0 h0 (Err s) h1 = rw (h0, h1) refl

      step0 : (x0 : Answer A) → p ts ≡ x0 → HeadedSame
      step0 (Ok x0) h0 = step1 x0 h0 (q x0.1) refl
      step0 (Err s) h0 = rw h0 refl

module _ {A B C D : Type 0} (make : A → B → C → D) (p : Reader A) (q : Reader B) (r : Reader C) (s : Reader (Unit {0})) (ts : List Token) where
  abbrev KindedSame : Type 0
  KindedSame = (nothing make ⊛ p ⊛ q ⊛ r ◃ s) ts ≡ (p ts >>= λ x. q x.1 >>= λ y. (r ◃ s) y.1 >>= λ z. Ok (make x.0 y.0 z.0, z.1))

  pub kinded_steps : KindedSame
  kinded_steps = step0 (p ts) refl
    where
      step3 : (x0 : A × List Token) → p ts ≡ Ok x0 → (x1 : B × List Token) → q x0.1 ≡ Ok x1 → (x2 : C × List Token) → r x1.1 ≡ Ok x2 → (x3 : Answer (Unit {0})) → s x2.1 ≡ x3 → KindedSame
      step3 x0 h0 x1 h1 x2 h2 (Ok x3) h3 = rw (h0, h1, h2, h3) refl
      step3 x0 h0 x1 h1 x2 h2 (Err s) h3 = rw (h0, h1, h2, h3) refl

      step2 : (x0 : A × List Token) → p ts ≡ Ok x0 → (x1 : B × List Token) → q x0.1 ≡ Ok x1 → (x2 : Answer C) → r x1.1 ≡ x2 → KindedSame
      step2 x0 h0 x1 h1 (Ok x2) h2 = step3 x0 h0 x1 h1 x2 h2 (s x2.1) refl
      step2 x0 h0 x1 h1 (Err s) h2 = rw (h0, h1, h2) refl

      step1 : (x0 : A × List Token) → p ts ≡ Ok x0 → (x1 : Answer B) → q x0.1 ≡ x1 → KindedSame
      step1 x0 h0 (Ok x1) h1 = step2 x0 h0 x1 h1 (r x1.1) refl
      step1 x0 h0 (Err s) h1 = rw (h0, h1) refl

      step0 : (x0 : Answer A) → p ts ≡ x0 → KindedSame
      step0 (Ok x0) h0 = step1 x0 h0 (q x0.1) refl
      step0 (Err s) h0 = rw h0 refl
