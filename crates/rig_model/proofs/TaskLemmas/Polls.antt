-- Each poll comes to one end.
use Rattle.std.proofs.Common.{◌≡◌, ℕ, zero, suc, ◌-◌, ◌<◌, ◌≤◌, ◌⊎◌, List, [], ◌∷◌, Option, None, Some, refl, subst, sym, inl, inr, arith, ap, ◌∙◌}
use Rattle.py_evaluate.specs.Attribute.Look.{View}
use Rattle.test_meaning.specs.Body.BodyTrees.{Function}
use Rattle.rig_model.specs.Task.Frame.{Frame, Task}
use Rattle.rig_model.specs.Task.Step.{Next, next}
use Rattle.rig_model.specs.Task.Cost.{next_cost}
use Rattle.rig_model.specs.Task.Weight.{frames_weight, frames_given}
use Rattle.rig_model.specs.Task.Poll.{Wants, RunsOut, GoesBy, Polls, Polled}
use Rattle.await_tree.specs.declared.cause.Given.{Given}
use Rattle.rig_model.specs.declared.task.task.Turned.{Turned}
use Rattle.rig_model.specs.declared.task.task.Turned.TheVariants.{Spent}
use Rattle.rig_model.proofs.TaskLemmas.Weights.{free_step_falls}
use Rattle.rig_model.proofs.TaskLemmas.Bounds.{cost_at_most_one, number_stays}

module _ (functions : List Function) (view : View) where
  -- what a poll comes to
  abbrev End : ℕ → Task → Option Given → Type 0
  End fuel task g = (t : Turned) × (fuel' : ℕ) × (task' : Task) × Polled functions view fuel task g t fuel' task'

  pub polled_last : (fuel : ℕ) (task : Task) (g : Option Given) (t : Turned) (fuel' : ℕ) (task' : Task)
      → Wants functions view fuel task g t fuel' task' ⊎ RunsOut fuel task g t fuel' task' → Polled functions view fuel task g t fuel' task'
  unfolding Polls
  polled_last fuel task g t fuel' task' h = record { count = zero; polls = h }

  pub polled_more : (fuel : ℕ) (task : Task) (g : Option Given) (t : Turned) (fuel' : ℕ) (task' : Task)
      → GoesBy functions view fuel task g → Polled functions view (fuel - next_cost task g) (next functions task g view).task None t fuel' task'
      → Polled functions view fuel task g t fuel' task'
  unfolding Polls
  polled_more fuel task g t fuel' task' step p = record { count = suc p.count; polls = (step, p.polls) }

  -- what is known of a step by what it wants
  abbrev Splits : Task → Option Given → Option Turned → Type 0
  Splits task g o = (next functions task g view).turned ≡ o

  wants_it : (fuel : ℕ) (task : Task) (g : Option Given) (t : Turned) → next_cost task g ≤ fuel → Splits task g (Some t) → End fuel task g
  wants_it fuel task g t fits e = (
    t,
    fuel - next_cost task g,
    (next functions task g view).task,
    polled_last fuel task g t (fuel - next_cost task g) (next functions task g view).task (inl (record {
      fits = fits;
      fuel_is = refl;
      next_is = ap (λ (o : Option Turned). record { task = (next functions task g view).task; turned = o }) e;
    })),
  )

  goes_on : (fuel : ℕ) (task : Task) (g : Option Given) → GoesBy functions view fuel task g
      → End (fuel - next_cost task g) (next functions task g view).task None → End fuel task g
  goes_on fuel task g step e = (e.0, e.1, e.2, polled_more fuel task g e.0 e.1 e.2 step e.3)

  free : (fuel : ℕ) (task : Task) (g : Option Given) (o : Option Turned) → Splits task g o → next_cost task g ≡ 0
      → ((task' : Task) → frames_weight task'.frames < frames_weight (frames_given g task.frames) → End fuel task' None) → End fuel task g
  free fuel task g (Some t) e c again = wants_it fuel task g t (omega (arith, c)) e
  free fuel task g None e c again =
      let left : fuel ≡ fuel - next_cost task g = omega (arith, c) in
      goes_on fuel task g (record { fits = omega (arith, c); nothing = e })
      (subst (λ k. End k (next functions task g view).task None) left
      (again (next functions task g view).task (free_step_falls functions task g view c e)))

  costly : (fuel : ℕ) (task : Task) (g : Option Given) (o : Option Turned) → Splits task g o → next_cost task g ≡ 1
      → ((k : ℕ) (task' : Task) → k < fuel → End k task' None) → End fuel task g
  costly zero task g o e c less =
      (Spent, zero, task, polled_last zero task g Spent zero task (inr (record { short = omega (arith, c); spent = refl; fuel_is = refl; task_is = refl })))
  costly (suc fuel) task g (Some t) e c less = wants_it (suc fuel) task g t (omega (arith, c)) e
  costly (suc fuel) task g None e c less =
      goes_on (suc fuel) task g (record { fits = omega (arith, c); nothing = e })
      (less (suc fuel - next_cost task g) (next functions task g view).task (omega (arith, c)))

  cost_cases : (c : ℕ) → c ≤ 1 → (c ≡ 0) ⊎ (c ≡ 1)
  cost_cases zero h = inl refl
  cost_cases (suc zero) h = inr refl
  cost_cases (suc (suc c)) h = absurd (omega (arith, h))

  none_given : (task : Task) → frames_weight (frames_given None task.frames) ≡ frames_weight task.frames
  none_given task = by_frames task.frames
    where
      by_frames : (fs : List Frame) → frames_weight (frames_given None fs) ≡ frames_weight fs
      by_frames [] = refl
      by_frames (f ∷ fs) = refl

  by_weight : (n : ℕ) → ((fuel : ℕ) (task : Task) (g : Option Given) → fuel < n → End fuel task g)
      → (m : ℕ) (fuel : ℕ) (task : Task) (g : Option Given) → fuel < suc n → frames_weight (frames_given g task.frames) < m → End fuel task g
  by_weight n less zero fuel task g f w = absurd (omega (arith, w))
  by_weight n less (suc m) fuel task g f w = elim (cost_cases (next_cost task g) (cost_at_most_one task g)) [
    | inl c ↦ free fuel task g (next functions task g view).turned refl c (λ task' h. by_weight n less m fuel task' None f (omega (arith, w, h, none_given task')))
    | inr c ↦ costly fuel task g (next functions task g view).turned refl c (λ k task' h. less k task' None (omega (arith, f, h)))
  ]

  from : (n : ℕ) (fuel : ℕ) (task : Task) (g : Option Given) → fuel < n → End fuel task g
  from zero fuel task g f = absurd (omega (arith, f))
  from (suc n) fuel task g f = by_weight n (from n) (suc (frames_weight (frames_given g task.frames))) fuel task g f (omega arith)

pub poll_exists : (functions : List Function) (view : View) (fuel : ℕ) (task : Task) (g : Option Given)
    → (t : Turned) × (fuel' : ℕ) × (task' : Task) × Polled functions view fuel task g t fuel' task'
poll_exists functions view fuel task g = from functions view (suc fuel) fuel task g (omega arith)

-- ---- there is one

abbrev Same : Turned → ℕ → Task → Turned → ℕ → Task → Type 0
Same t fuel task u fuel' task' = (t ≡ u) × (fuel ≡ fuel') × (task ≡ task')

abbrev or_else : Turned → Option Turned → Turned
or_else d None = d
or_else d (Some t) = t

some_is : (t u : Turned) → Some t ≡ Some u → t ≡ u
some_is t u e = ap (or_else t) e

both_want : (functions : List Function) (view : View) (fuel : ℕ) (task : Task) (g : Option Given) (t u : Turned) (k l : ℕ) (a b : Task)
    → Wants functions view fuel task g t k a → Wants functions view fuel task g u l b → Same t k a u l b
both_want functions view fuel task g t u k l a b x y =
    let e : record { task = a; turned = Some t } ≡ record { task = b; turned = Some u } = sym x.next_is ∙ y.next_is in
    (some_is t u (ap (λ (n : Next). n.turned) e), x.fuel_is ∙ sym y.fuel_is, ap (λ (n : Next). n.task) e)

never : (functions : List Function) (view : View) (fuel : ℕ) (task : Task) (g : Option Given) (t : Turned) (k : ℕ) (a : Task) {A : Type 0}
    → Wants functions view fuel task g t k a ⊎ RunsOut fuel task g t k a → GoesBy functions view fuel task g → A
never functions view fuel task g t k a h step = elim h [
  | inl x ↦ (let e : Some t ≡ None = sym (ap (λ (n : Next). n.turned) x.next_is) ∙ step.nothing in cc)
  | inr x ↦ absurd (omega (arith, x.short, step.fits))
]

ends_alike : (functions : List Function) (view : View) (fuel : ℕ) (task : Task) (g : Option Given) (t u : Turned) (k l : ℕ) (a b : Task)
    → Wants functions view fuel task g t k a ⊎ RunsOut fuel task g t k a → Wants functions view fuel task g u l b ⊎ RunsOut fuel task g u l b → Same t k a u l b
ends_alike functions view fuel task g t u k l a b h j = elim h [
  | inl x ↦ elim j [
    | inl y ↦ both_want functions view fuel task g t u k l a b x y
    | inr y ↦ absurd (omega (arith, x.fits, y.short))
  ]
  | inr x ↦ elim j [
    | inl y ↦ absurd (omega (arith, x.short, y.fits))
    | inr y ↦ (x.spent ∙ sym y.spent, x.fuel_is ∙ sym y.fuel_is, x.task_is ∙ sym y.task_is)
  ]
]

polls_alike : (functions : List Function) (view : View) (n m fuel : ℕ) (task : Task) (g : Option Given) (t u : Turned) (k l : ℕ) (a b : Task)
    → Polls functions view n fuel task g t k a → Polls functions view m fuel task g u l b → Same t k a u l b
unfolding Polls
polls_alike functions view zero zero fuel task g t u k l a b h j = ends_alike functions view fuel task g t u k l a b h j
polls_alike functions view zero (suc m) fuel task g t u k l a b h j = never functions view fuel task g t k a h j.0
polls_alike functions view (suc n) zero fuel task g t u k l a b h j = never functions view fuel task g u l b j h.0
polls_alike functions view (suc n) (suc m) fuel task g t u k l a b h j =
    polls_alike functions view n m (fuel - next_cost task g) (next functions task g view).task None t u k l a b h.1 j.1

pub poll_is_one : (functions : List Function) (view : View) (fuel : ℕ) (task : Task) (g : Option Given) (t u : Turned) (k l : ℕ) (a b : Task)
    → Polled functions view fuel task g t k a → Polled functions view fuel task g u l b → (t ≡ u) × (k ≡ l) × (a ≡ b)
poll_is_one functions view fuel task g t u k l a b p q = polls_alike functions view p.count q.count fuel task g t u k l a b p.polls q.polls

-- ---- what a poll keeps

polls_number : (functions : List Function) (view : View) (n fuel : ℕ) (task : Task) (g : Option Given) (t : Turned) (k : ℕ) (a : Task)
    → Polls functions view n fuel task g t k a → a.number ≡ task.number
unfolding Polls
polls_number functions view zero fuel task g t k a h = elim h [
  | inl x ↦ ap (λ (n : Next). n.task.number) (sym x.next_is) ∙ number_stays functions task g view
  | inr x ↦ ap (λ (b : Task). b.number) x.task_is
]
polls_number functions view (suc n) fuel task g t k a h =
    polls_number functions view n (fuel - next_cost task g) (next functions task g view).task None t k a h.1 ∙ number_stays functions task g view

pub poll_number : (functions : List Function) (view : View) (fuel : ℕ) (task : Task) (g : Option Given) (t : Turned) (k : ℕ) (a : Task)
    → Polled functions view fuel task g t k a → a.number ≡ task.number
poll_number functions view fuel task g t k a p = polls_number functions view p.count fuel task g t k a p.polls
