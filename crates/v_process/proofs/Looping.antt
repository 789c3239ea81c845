-- The turns of a loop, and the whole of it.
use Rattle.std.proofs.Common.{◌≡◌, ℕ, ◌+◌, ◌<◌, List, [], ◌∷◌, length, drop, get_or, Option, None, Some, Result, Ok, Err, IfOk, refl, sym, ap, ◌∙◌, subst}
use Rattle.std.proofs.lemmas.List.{drop_more}
use Rattle.four_value.specs.declared.Digit.{Digit}
use Rattle.gpi.specs.declared.acts.Act.{Act}
use Rattle.gpi.specs.Activation.{Run, SoundList}
use Rattle.v_syntax.specs.StatementTrees.{HeaderTree, StatementTree, For, no_statement}
use Rattle.v_flat.specs.declared.scope.rule.Broken.{Broken}
use Rattle.v_flat.specs.declared.scope.found.Found.{Found}
use Rattle.v_flat.specs.declared.scope.found.Found.TheVariants.{Sound, Lost}
use Rattle.v_flat.specs.Scope.Found.{fine, both, and_then, ended}
use Rattle.v_flat.specs.declared.scope.meaning.Bounds.{Bounds}
use Rattle.v_flat.specs.declared.scope.meaning.DataObject.{DataObject}
use Rattle.v_flat.specs.declared.scope.meaning.Meaning.{Meaning}
use Rattle.v_flat.specs.declared.scope.meaning.Meaning.TheVariants.{Object}
use Rattle.v_flat.specs.Scope.Scope.{Scope, find, nothing}
use Rattle.v_flat.specs.declared.timing.Timing.{Timing}
use Rattle.v_flat.specs.Statements.{Turns, turn, turns, known_turns, counter, loop_name, all_turns, run_turns, leave_counter, with_counter, statement_checked, activation}
use Rattle.v_flat.proofs.Holds.{holds_both}
use Rattle.v_check.specs.Constants.Checked.{IsObjectOf}
use Rattle.v_check.proofs.ConstantsLemmas.Combined.{made_holds}
use Rattle.v_process.specs.declared.act.sequences.BlockParts.{BlockParts}
use Rattle.v_process.specs.Act.Statements.{OfCounter, InTurns, StatementNamesOf, DoesAs, DoAsAll, run_back, ChecksNoStatement, IsFoundStatement}
use Rattle.v_process.specs.Act.Sequences.{HasFirst, AreMoreStatements, MakesWhole, AreBlocks}
use Rattle.v_process.proofs.ActLemmas.Blocks.{back_first, sound_first}
use Rattle.v_process.proofs.ActLemmas.Done.{done_unit, two_done, done_made}
use Rattle.v_process.specs.Turns.{AssignsLast, DoAsTurns, AreTurns, EndsTurns}
use Rattle.v_process.proofs.Ended.{counter_settled, turns_settled, ended_sound, ended_lost}

-- ---- behind the last turn

end_does : (timing : Timing) (o : DataObject) (v : List Digit) (a : Act) (x y : BlockParts) (s : Scope) (n : List ℕ) (body : StatementTree) → o.words ≡ None → HasFirst a x y
    → AssignsLast o v a → DoAsAll timing nothing no_statement x → DoAsTurns timing s n o body ([], v) y
end_does timing o v a x y s n body plain made h k = record {
  runs = λ r. ap (λ (xs : List Act). run_back xs r) made ∙ back_first x.acts.items a r ∙ ap (λ (q : Run). run_back x.acts.items q) (h.runs r)
      ∙ k.runs (leave_counter o v r);
  sound = λ ws names. subst (λ (xs : List Act). SoundList xs ws) (sym made)
      (sound_first x.acts.items a ws (k.sound ws tt) (h.sound ws (subst (λ (b : Option Bounds). IsObjectOf o b ws) plain names.0)));
}

pub ends_are : (o : DataObject) (v : List Digit) (a : Act) (x f : Found BlockParts) → o.words ≡ None → AssignsLast o v a → ChecksNoStatement x
    → AreMoreStatements (both (let r : Found Act = Sound a in r) x) f → EndsTurns o v f
ends_are o v a x f plain h none made = λ timing s n body.
    let y : Found Act = Sound a in
    let k = none timing nothing in record {
      finds = done_made (λ (p : Act × BlockParts) (z : BlockParts). HasFirst p.0 p.1 z) (both y x) f made ∙ two_done y x fine fine refl k.finds;
      holds = made_holds (λ (p : Act × BlockParts) (z : BlockParts). HasFirst p.0 p.1 z)
          (λ (p : Act × BlockParts). AssignsLast o v p.0 × DoAsAll timing nothing no_statement p.1) (λ (z : BlockParts). DoAsTurns timing s n o body ([], v) z) (both y x) f made
          (holds_both (λ (b : Act). AssignsLast o v b) (λ (z : BlockParts). DoAsAll timing nothing no_statement z) y x h k.holds)
          (λ p z q st. end_does timing o v p.0 p.1 z s n body plain q st.0 st.1);
    }

pub ends_result : {E : Type 0} (o : DataObject) (v : List Digit) (a : Act) (x : Found BlockParts) (r : Result (Found BlockParts) E) → o.words ≡ None
    → AssignsLast o v a → ChecksNoStatement x → IfOk r (AreMoreStatements (both (let y : Found Act = Sound a in y) x)) → IfOk r (EndsTurns o v)
ends_result o v a x (Ok f) plain h none made = ends_are o v a x f plain h none made
ends_result o v a x (Err e) plain h none made = tt

-- ---- a turn before others

module _ (timing : Timing) (s : Scope) (n : List ℕ) (o : DataObject) (body : StatementTree) where
  turn_does : (v : List Digit) (t : Turns) (a : Act) (x y : BlockParts) → HasFirst a x y → DoesAs timing (turn n o v s) body a → DoAsTurns timing s n o body t x
      → DoAsTurns timing s n o body (v ∷ t.0, t.1) y
  turn_does v t a x y made h k = record {
    runs = λ r. ap (λ (xs : List Act). run_back xs r) made ∙ back_first x.acts.items a r ∙ ap (λ (q : Run). run_back x.acts.items q) (h.runs r)
        ∙ k.runs (activation timing (turn n o v s) body r);
    sound = λ ws names. subst (λ (xs : List Act). SoundList xs ws) (sym made)
        (sound_first x.acts.items a ws (k.sound ws (names.0, names.1.1)) (h.sound ws names.1.0));
  }

  turn_more : (v : List Digit) (t : Turns) (x : Found Act) (y f : Found BlockParts) → IsFoundStatement timing (turn n o v s) body x → AreTurns timing s n o body t y
      → AreMoreStatements (both x y) f → AreTurns timing s n o body (v ∷ t.0, t.1) f
  turn_more v t x y f h k made =
      let c = statement_checked timing (turn n o v s) body in
      let d = all_turns (λ w. statement_checked timing (turn n o w s) body) t.0 in record {
        finds = done_made (λ (p : Act × BlockParts) (z : BlockParts). HasFirst p.0 p.1 z) (both x y) f made
            ∙ two_done x y c d (h.finds ∙ sym (done_unit c)) (k.finds ∙ sym (done_unit d));
        holds = made_holds (λ (p : Act × BlockParts) (z : BlockParts). HasFirst p.0 p.1 z)
            (λ (p : Act × BlockParts). DoesAs timing (turn n o v s) body p.0 × DoAsTurns timing s n o body t p.1) (λ (z : BlockParts). DoAsTurns timing s n o body (v ∷ t.0, t.1) z)
            (both x y) f made
            (holds_both (λ (a : Act). DoesAs timing (turn n o v s) body a) (λ (z : BlockParts). DoAsTurns timing s n o body t z) x y h.holds k.holds)
            (λ p z q st. turn_does v t p.0 p.1 z q st.0 st.1);
      }

  -- the turn of a value before those of the values behind it; t is the scope in which it is entered
  pub turn_before : (xs : List (List Digit)) (i : ℕ) (d w : List Digit) (t : Scope) (x : Found Act) (y f : Found BlockParts) → i < length xs
      → d ≡ get_or xs i d → t ≡ s → IsFoundStatement timing (turn n o d t) body x → AreTurns timing s n o body (drop (i + 1) xs, w) y → AreMoreStatements (both x y) f
      → AreTurns timing s n o body (drop i xs, w) f
  turn_before xs i d w t x y f h q e g k made =
      subst (λ (vs : List (List Digit)). AreTurns timing s n o body (vs, w) f) (sym (drop_more xs i d h))
      (subst (λ (v : List Digit). AreTurns timing s n o body (v ∷ drop (i + 1) xs, w) f) q
      (turn_more d (drop (i + 1) xs, w) x y f (subst (λ (z : Scope). IsFoundStatement timing (turn n o d z) body x) e g) k made))

-- ---- the whole

module _ (timing : Timing) (s : Scope) (p : ℕ) (h : HeaderTree) (body : StatementTree) where
  abbrev name : List ℕ
  name = (loop_name h).name

  abbrev register : Found DataObject
  register = counter (loop_name h).at (find name s)

  abbrev behind_turns : DataObject → Turns → Found (Unit {0})
  behind_turns o x = all_turns (λ v. statement_checked timing (turn name o v s) body) x.0

  abbrev behind_register : DataObject → Found (Unit {0})
  behind_register o = and_then (turns p h s o) (behind_turns o)

  pub register_lost : (a : Result DataObject Broken) (b : Broken) → a ≡ ended register → a ≡ Err b → IsFoundStatement timing s (For p h body) (let r : Found Act = Lost b in r)
  register_lost a b i e =
      let q = ended_lost register b (counter_settled (loop_name h).at (find name s)) (sym i ∙ e) in record {
        finds = sym (ap (λ (x : Found DataObject). and_then x behind_register) q);
        holds = tt;
      }

  pub turns_lost : (o : DataObject) (a : Result DataObject Broken) (c : Result Turns Broken) (b : Broken) → a ≡ ended register → a ≡ Ok o
      → c ≡ ended (turns p h s o) → c ≡ Err b → IsFoundStatement timing s (For p h body) (let r : Found Act = Lost b in r)
  turns_lost o a c b i e j g =
      let k = ended_sound register o (sym i ∙ e) in
      let q = ended_lost (turns p h s o) b (turns_settled p h s o) (sym j ∙ g) in record {
        finds = sym (ap (λ (x : Found DataObject). and_then x behind_register) k ∙ ap (λ (x : Found Turns). and_then x (behind_turns o)) q);
        holds = tt;
      }

  loop_does : (o : DataObject) (x : Turns) (y : BlockParts) (a : Act) → find name s ≡ Some (Object o) → turns p h s o ≡ Sound x → MakesWhole y a
      → DoAsTurns timing s name o body x y → DoesAs timing s (For p h body) a
  loop_does o x y a m q made k = record {
    runs = λ r. made.runs r ∙ k.runs r
        ∙ sym (ap (λ (t : Option Meaning). with_counter t (λ c. leave_counter c (known_turns (turns p h s c)).1
        (run_turns (λ v. activation timing (turn name c v s) body) (known_turns (turns p h s c)).0 r)) r) m
        ∙ ap (λ (t : Found Turns). leave_counter o (known_turns t).1 (run_turns (λ v. activation timing (turn name o v s) body) (known_turns t).0 r)) q);
    sound = λ ws names. made.sound ws (k.sound ws
        (subst (λ (t : Found Turns). IsObjectOf o o.words ws × InTurns (λ v. StatementNamesOf (turn name o v s) body ws) (known_turns t).0) q
        (subst (λ (t : Option Meaning). OfCounter t (λ c. IsObjectOf c c.words ws
        × InTurns (λ v. StatementNamesOf (turn name c v s) body ws) (known_turns (turns p h s c)).0)) m names)));
  }

  loop_is : (o : DataObject) (x : Turns) (y : Found BlockParts) (f : Found Act) → ended register ≡ Ok o → find name s ≡ Some (Object o)
      → ended (turns p h s o) ≡ Ok x → AreTurns timing s name o body x y → AreBlocks y f → IsFoundStatement timing s (For p h body) f
  loop_is o x y f i m e k made =
      let j = ended_sound register o i in
      let q = ended_sound (turns p h s o) x e in record {
        finds = done_made (λ (z : BlockParts) (a : Act). MakesWhole z a) y f made ∙ k.finds
            ∙ sym (ap (λ (t : Found DataObject). and_then t behind_register) j ∙ ap (λ (t : Found Turns). and_then t (behind_turns o)) q);
        holds = made_holds (λ (z : BlockParts) (a : Act). MakesWhole z a) (λ (z : BlockParts). DoAsTurns timing s name o body x z) (λ (a : Act). DoesAs timing s (For p h body) a) y f made k.holds
            (λ z a g st. loop_does o x z a m q g st);
      }

  loop_if : {E : Type 0} (o : DataObject) (x : Turns) (y : Found BlockParts) (r : Result (Found Act) E) → ended register ≡ Ok o
      → find name s ≡ Some (Object o) → ended (turns p h s o) ≡ Ok x → AreTurns timing s name o body x y → IfOk r (AreBlocks y)
      → IfOk r (IsFoundStatement timing s (For p h body))
  loop_if o x y (Ok f) i m e k made = loop_is o x y f i m e k made
  loop_if o x y (Err d) i m e k made = tt

  -- t is the scope behind the header, and n the name of the register
  pub loop_result : {E : Type 0} (t : Scope) (n : List ℕ) (o : DataObject) (x : Turns) (a : Result DataObject Broken) (c : Result Turns Broken)
      (y : Found BlockParts) (r : Result (Found Act) E) → t ≡ s → n ≡ name → a ≡ ended register → a ≡ Ok o → find name s ≡ Some (Object o)
      → c ≡ ended (turns p h s o) → c ≡ Ok x → AreTurns timing t n o body x y → IfOk r (AreBlocks y) → IfOk r (IsFoundStatement timing s (For p h body))
  loop_result t n o x a c y r e q i j m g l k made =
      loop_if o x y r (sym i ∙ j) m (sym g ∙ l)
      (subst (λ (z : Scope). AreTurns timing z name o body x y) e (subst (λ (z : List ℕ). AreTurns timing t z o body x y) q k)) made
