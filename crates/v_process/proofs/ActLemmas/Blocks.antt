-- Blocks.
use Rattle.std.proofs.Common.{◌≡◌, ℕ, List, [], ◌∷◌, ◌++◌, Option, Result, Ok, Err, IfOk, refl, sym, ap, ◌∙◌, subst}
use Rattle.gpi.specs.declared.acts.Act.{Act}
use Rattle.gpi.specs.declared.acts.Acts.{Acts}
use Rattle.gpi.specs.Activation.{Run, IsSound, SoundList, MakesBlock, acts_of, run_list}
use Rattle.gpi.specs.Activation as act
use Rattle.v_syntax.specs.StatementTrees.{StatementTree, Block, StatementTrees, more_statements}
use Rattle.v_flat.specs.declared.scope.found.Found.{Found}
use Rattle.v_flat.specs.Scope.Found.{both}
use Rattle.v_flat.specs.Scope.Scope.{Scope}
use Rattle.v_flat.specs.declared.timing.Timing.{Timing}
use Rattle.v_flat.specs.Statements.{done, activation}
use Rattle.v_flat.proofs.Holds.{holds_both}
use Rattle.v_check.proofs.ConstantsLemmas.Combined.{made_holds}
use Rattle.v_process.specs.declared.act.sequences.BlockParts.{BlockParts}
use Rattle.v_process.specs.Act.Made.{AreInOrder}
use Rattle.v_process.specs.Act.Sequences.{HasFirst, AreMoreStatements, MakesWhole, AreBlocks}
use Rattle.v_process.specs.Act.Statements.{DoesAs, run_back, DoAsAll, ChecksMoreStatements, ChecksBlock}
use Rattle.v_process.proofs.ActLemmas.Done.{done_unit, two_done, done_made}

pub back_first : (xs : List Act) (a : Act) (r : Run) → run_back (xs ++ (a ∷ [])) r ≡ run_back xs (act.activation a r)
back_first [] a r = refl
back_first (x ∷ xs) a r = ap (λ (q : Run). act.activation x q) (back_first xs a r)

pub sound_first : (xs : List Act) (a : Act) (ws : List ℕ) → SoundList xs ws → IsSound a ws → SoundList (xs ++ (a ∷ [])) ws
sound_first [] a ws h k = (k, tt)
sound_first (x ∷ xs) a ws h k = (h.0, sound_first xs a ws h.1 k)

list_last : (xs : List Act) (a : Act) (r : Run) → run_list (xs ++ (a ∷ [])) r ≡ act.activation a (run_list xs r)
list_last [] a r = refl
list_last (x ∷ xs) a r = list_last xs a (act.activation x r)

sound_split : (xs : List Act) (a : Act) (ws : List ℕ) → SoundList (xs ++ (a ∷ [])) ws → SoundList xs ws × IsSound a ws
sound_split [] a ws h = (tt, h.0)
sound_split (x ∷ xs) a ws h = let k = sound_split xs a ws h.1 in ((h.0, k.0), k.1)

-- ---- a statement before others

more_do : (timing : Timing) (s : Scope) (t : StatementTree) (ss : StatementTrees) (a : Act) (x y : BlockParts) → HasFirst a x y → DoesAs timing s t a → DoAsAll timing s ss x
    → DoAsAll timing s (more_statements t ss) y
more_do timing s t ss a x y made h k = record {
  runs = λ r. ap (λ (xs : List Act). run_back xs r) made ∙ back_first x.acts.items a r ∙ ap (λ (q : Run). run_back x.acts.items q) (h.runs r)
      ∙ k.runs (activation timing s t r);
  sound = λ ws names. subst (λ (xs : List Act). SoundList xs ws) (sym made)
      (sound_first x.acts.items a ws (k.sound ws names.1) (h.sound ws names.0));
}

more_are : (x : Found Act) (y f : Found BlockParts) → AreMoreStatements (both x y) f → ChecksMoreStatements x y f
more_are x y f made = λ timing s t ss b c h k. record {
  finds = done_made (λ (p : Act × BlockParts) (z : BlockParts). HasFirst p.0 p.1 z) (both x y) f made
      ∙ two_done x y b c (h.finds ∙ sym (done_unit b)) (k.finds ∙ sym (done_unit c));
  holds = made_holds (λ (p : Act × BlockParts) (z : BlockParts). HasFirst p.0 p.1 z) (λ (p : Act × BlockParts). DoesAs timing s t p.0 × DoAsAll timing s ss p.1)
      (λ (z : BlockParts). DoAsAll timing s (more_statements t ss) z) (both x y) f made
      (holds_both (λ (a : Act). DoesAs timing s t a) (λ (z : BlockParts). DoAsAll timing s ss z) x y h.holds k.holds)
      (λ p z q st. more_do timing s t ss p.0 p.1 z q st.0 st.1);
}

pub more_result : {E : Type 0} (x : Found Act) (y : Found BlockParts) (r : Result (Found BlockParts) E) → IfOk r (AreMoreStatements (both x y))
    → IfOk r (ChecksMoreStatements x y)
more_result x y (Ok f) made = more_are x y f made
more_result x y (Err e) made = tt

-- ---- in their order

-- those that are in order run before those that are left
pub record Behind (all left done : List Act) : Type 0 where
  pub runs : (r : Run) → run_back left (run_list done r) ≡ run_back all r
  pub sound : (ws : List ℕ) → SoundList all ws → SoundList left ws × SoundList done ws

pub behind_none : (all left done : List Act) → left ≡ all → done ≡ [] → Behind all left done
behind_none all left done e f = record {
  runs = λ r. ap (λ (xs : List Act). run_back left (run_list xs r)) f ∙ ap (λ (xs : List Act). run_back xs r) e;
  sound = λ ws h. (subst (λ (xs : List Act). SoundList xs ws) (sym e) h, subst (λ (xs : List Act). SoundList xs ws) (sym f) tt);
}

pub behind_more : (all left rest before after : List Act) (a : Act) → left ≡ rest ++ (a ∷ []) → after ≡ before ++ (a ∷ []) → Behind all left before
    → Behind all rest after
behind_more all left rest before after a e f b = record {
  runs = λ r. ap (λ (xs : List Act). run_back rest (run_list xs r)) f ∙ ap (λ (q : Run). run_back rest q) (list_last before a r)
      ∙ sym (back_first rest a (run_list before r)) ∙ ap (λ (xs : List Act). run_back xs (run_list before r)) (sym e) ∙ b.runs r;
  sound = λ ws h.
      let k = b.sound ws h in
      let l = sound_split rest a ws (subst (λ (xs : List Act). SoundList xs ws) e k.0) in
      (l.0, subst (λ (xs : List Act). SoundList xs ws) (sym f) (sound_first before a ws k.1 l.1));
}

pub behind_all : (all left : List Act) (x : Acts) → left ≡ [] → Behind all left (acts_of x) → AreInOrder all x
behind_all all left x e b = record {
  runs = λ r. ap (λ (xs : List Act). run_back xs (run_list (acts_of x) r)) (sym e) ∙ b.runs r;
  sound = λ ws h. (b.sound ws h).1;
}

-- ---- the whole

pub whole_made : (x : BlockParts) (all : Acts) (a : Act) → AreInOrder x.acts.items all → MakesBlock all a → MakesWhole x a
whole_made x all a order made = record {
  runs = λ r. made.runs r ∙ order.runs r;
  sound = λ ws h. made.sound ws (order.sound ws h);
}

block_does : (timing : Timing) (s : Scope) (l : Option (List ℕ)) (ss : StatementTrees) (x : BlockParts) (a : Act) → MakesWhole x a → DoAsAll timing s ss x → DoesAs timing s (Block l ss) a
block_does timing s l ss x a made h = record {
  runs = λ r. made.runs r ∙ h.runs r;
  sound = λ ws names. made.sound ws (h.sound ws names);
}

block_is : (x : Found BlockParts) (f : Found Act) → AreBlocks x f → ChecksBlock x f
block_is x f made = λ timing s l ss b h. record {
  finds = done_made (λ (y : BlockParts) (a : Act). MakesWhole y a) x f made ∙ h.finds;
  holds = made_holds (λ (y : BlockParts) (a : Act). MakesWhole y a) (λ (y : BlockParts). DoAsAll timing s ss y) (λ (a : Act). DoesAs timing s (Block l ss) a) x f made h.holds
      (λ y a q st. block_does timing s l ss y a q st);
}

pub block_result : {E : Type 0} (x : Found BlockParts) (r : Result (Found Act) E) → IfOk r (AreBlocks x) → IfOk r (ChecksBlock x)
block_result x (Ok f) made = block_is x f made
block_result x (Err e) made = tt
