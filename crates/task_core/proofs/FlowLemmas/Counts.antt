-- How many steps a poll has, by which its loop ends.
use Rattle.std.proofs.Common.{◌≡◌, ℕ, zero, suc, ◌-◌, ◌<◌, ◌⊎◌, List, Option, None, Some, refl, sym, ap, ◌∙◌, inl, inr, arith}
use Rattle.py_evaluate.specs.Attribute.Look.{View}
use Rattle.await_tree.specs.declared.cause.Given.{Given}
use Rattle.test_meaning.specs.Body.BodyTrees.{Function}
use Rattle.rig_model.specs.Task.Cost.{next_cost}
use Rattle.rig_model.specs.Task.Frame.{Task}
use Rattle.rig_model.specs.Task.Poll.{Wants, RunsOut, GoesBy, Polls}
use Rattle.rig_model.specs.Task.Step.{Next, next}
use Rattle.rig_model.specs.declared.task.task.Turned.{Turned}
use Rattle.rig_model.proofs.TaskLemmas.Polls.{poll_exists}

module _ (functions : List Function) (view : View) where
  -- the number of steps that want nothing, before the one with which the poll ends
  abbrev pub poll_count : ℕ → Task → Option Given → ℕ
  poll_count fuel task g = (poll_exists functions view fuel task g).3.count

  never : {A : Type 0} (fuel : ℕ) (task : Task) (g : Option Given) (t : Turned) (k : ℕ) (a : Task)
      → Wants functions view fuel task g t k a ⊎ RunsOut fuel task g t k a → GoesBy functions view fuel task g → A
  never fuel task g t k a h s = elim h [
    | inl x ↦ (let e : Some t ≡ None = sym (ap (λ (n : Next). n.turned) x.next_is) ∙ s.nothing in cc)
    | inr x ↦ absurd (omega (arith, x.short, s.fits))
  ]

  counts_alike : (n m fuel : ℕ) (task : Task) (g : Option Given) (t u : Turned) (k l : ℕ) (a b : Task)
      → Polls functions view n fuel task g t k a → Polls functions view m fuel task g u l b → n ≡ m
  unfolding Polls
  counts_alike zero zero fuel task g t u k l a b h j = refl
  counts_alike zero (suc m) fuel task g t u k l a b h j = never fuel task g t k a h j.0
  counts_alike (suc n) zero fuel task g t u k l a b h j = never fuel task g u l b j h.0
  counts_alike (suc n) (suc m) fuel task g t u k l a b h j =
      ap suc (counts_alike n m (fuel - next_cost task g) (next functions task g view).task None t u k l a b h.1 j.1)

  one_less : (n m fuel : ℕ) (task : Task) (g : Option Given) (t u : Turned) (k l : ℕ) (a b : Task) → GoesBy functions view fuel task g
      → Polls functions view n fuel task g t k a → Polls functions view m (fuel - next_cost task g) (next functions task g view).task None u l b → m < n
  unfolding Polls
  one_less zero m fuel task g t u k l a b s h j = never fuel task g t k a h s
  one_less (suc n) m fuel task g t u k l a b s h j =
      let e : m ≡ n = counts_alike m n (fuel - next_cost task g) (next functions task g view).task None u t l k b a j h.1 in
      omega (arith, e)

  -- a step that wants nothing is one less
  pub count_falls : (fuel : ℕ) (task : Task) (g : Option Given) → GoesBy functions view fuel task g
      → poll_count (fuel - next_cost task g) (next functions task g view).task None < poll_count fuel task g
  count_falls fuel task g s =
      let p = poll_exists functions view fuel task g in
      let q = poll_exists functions view (fuel - next_cost task g) (next functions task g view).task None in
      one_less p.3.count q.3.count fuel task g p.0 q.0 p.1 q.1 p.2 q.2 s p.3.polls q.3.polls
