-- What the rule's reader of a module gives is what the code reads, step by step.
use Rattle.std.proofs.Common.{◌≡◌, List, Option, Ok, Err, refl}
use Rattle.v_syntax.specs.declared.token.Token.{Token}
use Rattle.v_syntax.specs.declared.statement.Identifier.{Identifier}
use Rattle.v_syntax.specs.SourceTrees.{HeaderParameterTree, HeaderPortsTree, ItemTree}
use Rattle.v_syntax.specs.Sources.{module_tree}
use Rattle.v_expression.specs.Phrase.Stops.{Answer, ◌>>=◌}
use Rattle.v_expression.specs.Phrase.Readers.{Reader, nothing, ◌⊛◌, ◌◃◌, ◌▹◌}

module _ (w : Reader (Unit {0})) (n : Reader Identifier) (p : Reader (Option (List HeaderParameterTree))) (q : Reader (Option (Option HeaderPortsTree))) (s : Reader (Unit {0})) (i : Reader (List ItemTree)) (e : Reader (Unit {0})) (ts : List Token) where
  abbrev ModuleSame : Type 0
  ModuleSame = (nothing module_tree ◃ w ⊛ n ⊛ p ⊛ q ◃ s ⊛ i ◃ e) ts ≡ ((w ts >>= λ u. n u.1) >>= λ x. p x.1 >>= λ y. q y.1 >>= λ z. (s ▹ i ◃ e) z.1 >>= λ b. Ok (module_tree x.0 y.0 z.0 b.0, b.1))

  pub module_steps : ModuleSame
  module_steps = step0 (w ts) refl
    where
      step6 : (x0 : Unit {0} × List Token) → w ts ≡ Ok x0 → (x1 : Identifier × List Token) → n x0.1 ≡ Ok x1 → (x2 : Option (List HeaderParameterTree) × List Token) → p x1.1 ≡ Ok x2 → (x3 : Option (Option HeaderPortsTree) × List Token) → q x2.1 ≡ Ok x3 → (x4 : Unit {0} × List Token) → s x3.1 ≡ Ok x4 → (x5 : List ItemTree × List Token) → i x4.1 ≡ Ok x5 → (x6 : Answer (Unit {0})) → e x5.1 ≡ x6 → ModuleSame
      step6 x0 h0 x1 h1 x2 h2 x3 h3 x4 h4 x5 h5 (Ok x6) h6 = rw (h0, h1, h2, h3, h4, h5, h6) refl
      step6 x0 h0 x1 h1 x2 h2 x3 h3 x4 h4 x5 h5 (Err s) h6 = rw (h0, h1, h2, h3, h4, h5, h6) refl

      step5 : (x0 : Unit {0} × List Token) → w ts ≡ Ok x0 → (x1 : Identifier × List Token) → n x0.1 ≡ Ok x1 → (x2 : Option (List HeaderParameterTree) × List Token) → p x1.1 ≡ Ok x2 → (x3 : Option (Option HeaderPortsTree) × List Token) → q x2.1 ≡ Ok x3 → (x4 : Unit {0} × List Token) → s x3.1 ≡ Ok x4 → (x5 : Answer (List ItemTree)) → i x4.1 ≡ x5 → ModuleSame
      step5 x0 h0 x1 h1 x2 h2 x3 h3 x4 h4 (Ok x5) h5 = step6 x0 h0 x1 h1 x2 h2 x3 h3 x4 h4 x5 h5 (e x5.1) refl
      step5 x0 h0 x1 h1 x2 h2 x3 h3 x4 h4 (Err s) h5 = rw (h0, h1, h2, h3, h4, h5) refl

      step4 : (x0 : Unit {0} × List Token) → w ts ≡ Ok x0 → (x1 : Identifier × List Token) → n x0.1 ≡ Ok x1 → (x2 : Option (List HeaderParameterTree) × List Token) → p x1.1 ≡ Ok x2 → (x3 : Option (Option HeaderPortsTree) × List Token) → q x2.1 ≡ Ok x3 → (x4 : Answer (Unit {0})) → s x3.1 ≡ x4 → ModuleSame
      step4 x0 h0 x1 h1 x2 h2 x3 h3 (Ok x4) h4 = step5 x0 h0 x1 h1 x2 h2 x3 h3 x4 h4 (i x4.1) refl
      step4 x0 h0 x1 h1 x2 h2 x3 h3 (Err s) h4 = rw (h0, h1, h2, h3, h4) refl

      step3 : (x0 : Unit {0} × List Token) → w ts ≡ Ok x0 → (x1 : Identifier × List Token) → n x0.1 ≡ Ok x1 → (x2 : Option (List HeaderParameterTree) × List Token) → p x1.1 ≡ Ok x2 → (x3 : Answer (Option (Option HeaderPortsTree))) → q x2.1 ≡ x3 → ModuleSame
      step3 x0 h0 x1 h1 x2 h2 (Ok x3) h3 = step4 x0 h0 x1 h1 x2 h2 x3 h3 (s x3.1) refl
      step3 x0 h0 x1 h1 x2 h2 (Err s) h3 = rw (h0, h1, h2, h3) refl

      step2 : (x0 : Unit {0} × List Token) → w ts ≡ Ok x0 → (x1 : Identifier × List Token) → n x0.1 ≡ Ok x1 → (x2 : Answer (Option (List HeaderParameterTree))) → p x1.1 ≡ x2 → ModuleSame
      step2 x0 h0 x1 h1 (Ok x2) h2 = step3 x0 h0 x1 h1 x2 h2 (q x2.1) refl
      step2 x0 h0 x1 h1 (Err s) h2 = rw (h0, h1, h2) refl

      step1 : (x0 : Unit {0} × List Token) → w ts ≡ Ok x0 → (x1 : Answer Identifier) → n x0.1 ≡ x1 → ModuleSame
      step1 x0 h0 (Ok x1) h1 = step2 x0 h0 x1 h1 (p x1.1) refl
      step1 x0 h0 (Err s) h1 = rw (h0, h1) refl

      step0 : (x0 : Answer (Unit {0})) → w ts ≡ x0 → ModuleSame
      step0 (Ok x0) h0 = step1 x0 h0 (n x0.1) refl
      step0 (Err s) h0 = rw h0 refl
