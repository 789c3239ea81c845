-- The hidden values of the signals.
use Rattle.std.proofs.Common.{◌≡◌, ℕ, zero, suc, ◌≤◌, List, [], ◌∷◌, length, replicate, Option, Some, None, refl, sym, ap, ◌∙◌, subst, arith}
use Rattle.std.proofs.lemmas.List.{length-replicate}
use Rattle.four_value.specs.declared.Digit.{Digit}
use Rattle.four_value.specs.declared.Digit.TheVariants.{Zero, One, X, Z}
use Rattle.gpi.specs.declared.types.Update.{Update}
use Rattle.gpi.specs.declared.design.Signal.{Signal}
use Rattle.gpi.specs.declared.acts.Act.{Act, Empty, Block', If', Case', Blocking, Nonblocking, Row_of-Act, end_of-Act, more_of-Act}
use Rattle.gpi.specs.Operators.{truth}
use Rattle.gpi.specs.Terms.{value, read, widths_of}
use Rattle.gpi.specs.Cases.{first_match}
use Rattle.gpi.specs.Targets.{updates_of}
use Rattle.gpi.specs.Limits.{most_elements}
use Rattle.gpi.specs.Design.{start_map}
use Rattle.gpi.specs.Activation.{Map, Hidden, Run, activation, activations, activation_at, blocking, written, written_over, hidden_in, by_truth, by_item, AreHidden}
use Rattle.gpi.proofs.Widths.{length_widths}
use Rattle.list_kernel.specs.declared.values.Values.{Values}
use Rattle.list_kernel.specs.Values.{AreSized, AreValues}
use Rattle.kernel_base.proofs.Opening.{start_length}
use Rattle.kernel_base.proofs.Hiding.{hidden_places, same_places, none_hidden}

pub sized_after : (v w : Values) → AreSized v → widths_of w.shown.items ≡ widths_of v.shown.items → AreHidden w.hidden.items (widths_of v.shown.items)
    → length w.shown_before.items ≡ length v.shown_before.items → length w.hidden_before.items ≡ length v.hidden_before.items → AreSized w
sized_after v w s e h k l =
    let n : length w.shown.items ≡ length v.shown.items = same_places w.shown.items v.shown.items e in record {
      few = let f = s.few in omega arith;
      shown_before = k ∙ s.shown_before ∙ sym n;
      hidden = subst (λ (ws : List ℕ). AreHidden w.hidden.items ws) (sym e) h;
      hidden_before = l ∙ s.hidden_before ∙ sym n;
    }

-- ---- no signal is forced

hidden_none : (n s : ℕ) → hidden_in (replicate n None) s ≡ None
hidden_none zero s = refl
hidden_none (suc n) zero = refl
hidden_none (suc n) (suc s) = hidden_none n s

over_none : (o : Option (List Digit)) (u : Update) (r : Run) → o ≡ None → (written_over o u r).hidden ≡ r.hidden
over_none None u r e = refl
over_none (Some ds) u r e = absurd (cc)

write_none : (u : Update) (r : Run) (n : ℕ) → r.hidden ≡ replicate n None → (written u r).hidden ≡ replicate n None
write_none u r n h =
    let e : hidden_in r.hidden u.sig.0 ≡ None = ap (λ (q : Hidden). hidden_in q u.sig.0) h ∙ hidden_none n u.sig.0 in
    over_none (hidden_in r.hidden u.sig.0) u r e ∙ h

blocking_none : (us : List Update) (r : Run) (n : ℕ) → r.hidden ≡ replicate n None → (blocking us r).hidden ≡ replicate n None
blocking_none [] r n h = h
blocking_none (u ∷ us) r n h = blocking_none us (written u r) n (write_none u r n h)

choice_none : (d : Digit) (a b : Run) (x : Hidden) → a.hidden ≡ x → b.hidden ≡ x → (by_truth d a b).hidden ≡ x
choice_none One a b x h k = h
choice_none Zero a b x h k = k
choice_none X a b x h k = k
choice_none Z a b x h k = k

item_none : (o : Option ℕ) (f : ℕ → Run) (b : Run) (x : Hidden) → ((k : ℕ) → (f k).hidden ≡ x) → b.hidden ≡ x → (by_item o f b).hidden ≡ x
item_none (Some k) f b x h e = h k
item_none None f b x h e = e

-- an activation forces none
mutual
  pub stays_unforced : (act : Act) (r : Run) (n : ℕ) → r.hidden ≡ replicate n None → (activation act r).hidden ≡ replicate n None
  stays_unforced Empty r n h = h
  stays_unforced (Block' shape all) r n h = all_unforced all r n h
  stays_unforced (If' t p a q b) r n h =
      choice_none (truth (value t (read r.signals))) (activation a r) (activation b r) (replicate n None) (stays_unforced a r n h) (stays_unforced b r n h)
  stays_unforced (Case' kind t labels shape all p other) r n h =
      item_none (first_match kind (value t (read r.signals)) labels (read r.signals)) (λ k. activation_at all k r) (activation other r) (replicate n None)
      (λ k. unforced_at all k r n h) (stays_unforced other r n h)
  stays_unforced (Blocking target t) r n h = blocking_none (updates_of target (read r.signals) (value t (read r.signals))) r n h
  stays_unforced (Nonblocking target t d) r n h = h

  pub all_unforced : {k : _} (all : Row_of-Act k) (r : Run) (n : ℕ) → r.hidden ≡ replicate n None → (activations all r).hidden ≡ replicate n None
  all_unforced end_of-Act r n h = h
  all_unforced (more_of-Act a rest) r n h = all_unforced rest (activation a r) n (stays_unforced a r n h)

  pub unforced_at : {k : _} (all : Row_of-Act k) (m : ℕ) (r : Run) (n : ℕ) → r.hidden ≡ replicate n None → (activation_at all m r).hidden ≡ replicate n None
  unforced_at end_of-Act m r n h = h
  unforced_at (more_of-Act a rest) zero r n h = stays_unforced a r n h
  unforced_at (more_of-Act a rest) (suc m) r n h = unforced_at rest m r n h

-- the hidden values of an activation from where none is forced
pub runs_unforced : (act : Act) (m p : Map) (h g : Hidden) (us vs : List Update) (n : ℕ)
    → (let r : Run = record { signals = p; hidden = g; updates = vs } in r) ≡ activation act (record { signals = m; hidden = h; updates = us })
    → h ≡ replicate n None → g ≡ replicate n None
runs_unforced act m p h g us vs n e k = ap (λ (r : Run). r.hidden) e ∙ stays_unforced act (record { signals = m; hidden = h; updates = us }) n k

-- ---- the values as a whole

pub values_opened : (ss : List Signal) (v : Values) → length ss ≤ most_elements → v.shown.items ≡ start_map ss → v.shown_before.items ≡ start_map ss
    → v.hidden.items ≡ replicate (length ss) None → v.hidden_before.items ≡ replicate (length ss) None → AreValues v
values_opened ss v few e f h k =
    let n : length v.shown.items ≡ length ss = ap length e ∙ start_length ss in
    let ws : length (widths_of v.shown.items) ≡ length ss = length_widths v.shown.items ∙ n in
    record {
      sized = record {
        few = omega arith;
        shown_before = ap length f ∙ sym (ap length e);
        hidden = subst (λ (hs : Hidden). AreHidden hs (widths_of v.shown.items)) (ap (λ (q : ℕ). replicate q None) ws ∙ sym h) (none_hidden (widths_of v.shown.items));
        hidden_before = ap length k ∙ (length-replicate (length ss) None ∙ sym n);
      };
      unforced = λ u. h ∙ ap (λ (q : ℕ). replicate q None) (sym n);
      unforced_before = λ u. k ∙ sym h;
    }

-- the values are those of before
pub values_back : (v p : Values) → AreValues v → p.shown.items ≡ v.shown.items → p.hidden.items ≡ v.hidden.items → p.shown_before.items ≡ v.shown.items
    → p.hidden_before.items ≡ v.hidden.items → p.any_forced ≡ v.any_forced → AreValues p
values_back v p a e h f k b =
    let n : length p.shown.items ≡ length v.shown.items = ap length e in record {
      sized = record {
        few = let g = a.sized.few in omega arith;
        shown_before = ap length f ∙ sym n;
        hidden = subst (λ (hs : Hidden). AreHidden hs (widths_of p.shown.items)) (sym h)
            (subst (λ (m : Map). AreHidden v.hidden.items (widths_of m)) (sym e) a.sized.hidden);
        hidden_before = ap length k ∙ (hidden_places v.hidden.items v.shown.items a.sized.hidden ∙ sym n);
      };
      unforced = λ u. h ∙ (a.unforced (sym b ∙ u) ∙ ap (λ (q : ℕ). replicate q None) (sym n));
      unforced_before = λ u. k ∙ sym h;
    }
