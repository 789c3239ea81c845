-- How the index of waiting tasks follows their records.
use Rattle.std.proofs.Common.{◌≡◌, ℕ, true, List, Option, Some, None, IfSome, IfNone, get_or, refl, sym, ap, ◌∙◌, eq-eqb, nat_eq}
use Rattle.std.proofs.lemmas.Bool.{eqb-true}
use Rattle.std.proofs.Common.{set}
use Rattle.std.proofs.lemmas.Option.{none-some, same_Some}
use Rattle.await_tree.specs.Steps.{rest_of, step_of}
use Rattle.await_tree.specs.Tree as tree
use Rattle.await_tree.specs.Whole.{tree_in}
use Rattle.await_tree.specs.declared.cause.Step.{Step}
use Rattle.await_tree.specs.declared.tree.Tree.{Tree}
use Rattle.std.specs.HashMap.{HashMap, get}
use Rattle.py_value.specs.declared.trigger.TaskNo.{TaskNo}
use Rattle.trigger_table.specs.Entries.{HasTask, Told, task_name}
use Rattle.trigger_table.specs.Indexed.{IsIndexed, is_named}
use Rattle.trigger_table.specs.declared.entries.TaskRecord.{TaskRecord}
use Rattle.trigger_table.proofs.IndexLemmas.{named, named_is, indexed_set, sets_slot}

pub number_same : (a b : ℕ) → nat_eq a b ≡ true → a ≡ b
number_same a b same = eqb-true a b same

pub number_self : (a : ℕ) → nat_eq a a ≡ true
number_self a = eq-eqb a a refl

module _ {S : Type 0} (slots : List (Option TaskRecord)) (index : HashMap ℕ ℕ S) (s : IsIndexed nat_eq task_name slots index) where
  has_name : (number : ℕ) (task : TaskNo) → is_named nat_eq task_name task.0 (get_or slots number None) ≡ true → HasTask slots number task
  has_name number task is =
      let one = named_is nat_eq number_same number_self task_name task.0 (get_or slots number None) is in
      (one.0, one.1, ap (λ (n : ℕ). let t : TaskNo = record { 0 = n } in t) one.2)

  is_name : (number : ℕ) (task : TaskNo) → HasTask slots number task → is_named nat_eq task_name task.0 (get_or slots number None) ≡ true
  is_name number task has =
      named nat_eq number_same number_self task_name task.0 (get_or slots number None) has.0 has.1 (ap (λ (t : TaskNo). t.0) has.2)

  pub task_found : (task : TaskNo) (res : Option ℕ) → res ≡ get nat_eq index task.0 → IfSome res (λ number. HasTask slots number task)
  task_found task None same = tt
  task_found task (Some number) same = has_name number task (s.found task.0 number (sym same))

  pub task_absent : (task : TaskNo) (res : Option ℕ) → res ≡ get nat_eq index task.0 → IfNone res ((number : ℕ) → ¬ HasTask slots number task)
  task_absent task None same = λ number has. none-some number (same ∙ s.listed task.0 number (is_name number task has))
  task_absent task (Some number) same = tt

  -- a task has one record at most
  pub one_task : (task : TaskNo) (m n : ℕ) → HasTask slots m task → HasTask slots n task → m ≡ n
  one_task task m n one two = same_Some m n (sym (s.listed task.0 m (is_name m task one)) ∙ s.listed task.0 n (is_name n task two))

  pub no_task : (task : TaskNo) → ((number : ℕ) → ¬ HasTask slots number task) → get nat_eq index task.0 ≡ None
  no_task task none = go (get nat_eq index task.0) refl
    where
      go : (res : Option ℕ) → get nat_eq index task.0 ≡ res → res ≡ None
      go None is = refl
      go (Some number) is = absurd (none number (has_name number task (s.found task.0 number is)))

-- a tree is told something where its record stands
pub told_of : (slots : List (Option TaskRecord)) (number : ℕ) (was : TaskRecord) (rest : Tree) (come : tree.Tree → tree.Tree) (answer : Step) → get_or slots number None ≡ Some was → answer ≡ step_of (come (tree_in was.tree)) → tree_in rest ≡ rest_of (come (tree_in was.tree)) → (kept : TaskRecord) → get_or slots number None ≡ Some kept → Told slots (set slots number (Some (record { task = was.task; tree = rest }))) number kept.task (come (tree_in kept.tree)) answer
told_of slots number was rest come answer is answers rests kept has =
    let same : was ≡ kept = same_Some was kept (sym is ∙ has) in
    record {
      kept = record { task = was.task; tree = rest };
      answers = answers ∙ ap (λ (k : TaskRecord). step_of (come (tree_in k.tree))) same;
      of = ap (λ (k : TaskRecord). k.task) same;
      rest = rests ∙ ap (λ (k : TaskRecord). rest_of (come (tree_in k.tree))) same;
      sets = sets_slot slots number was (record { task = was.task; tree = rest }) is;
    }

pub told_indexed : {S : Type 0} (slots : List (Option TaskRecord)) (index : HashMap ℕ ℕ S) → IsIndexed nat_eq task_name slots index → (number : ℕ) (was : TaskRecord) (rest : Tree) → get_or slots number None ≡ Some was → IsIndexed nat_eq task_name (set slots number (Some (record { task = was.task; tree = rest }))) index
told_indexed slots index s number was rest is =
    indexed_set nat_eq number_same number_self task_name slots (set slots number (Some (record { task = was.task; tree = rest }))) index s number was (record { task = was.task; tree = rest }) is refl
    (sets_slot slots number was (record { task = was.task; tree = rest }) is)
