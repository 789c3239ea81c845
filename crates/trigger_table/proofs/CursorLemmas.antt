-- The chain of a task is its waiters, from left to right.
use Rattle.std.proofs.Common.{◌≡◌, ℕ, List, [], ◌∷◌, map, Option, Some, None, IsSome, refl, sym, ap, ◌∙◌, subst, inl, inr, ◌==◌, eq-eqb, ne_eqb}
use Rattle.std.proofs.lemmas.Bool.{cases_eq, cond-true, cond-false}
use Rattle.trigger_table.specs.declared.records.Records.{Records}
use Rattle.trigger_table.specs.declared.rings.Rings.{Rings}
use Rattle.trigger_table.specs.Cursor.{cause_at, waiters_at}
use Rattle.trigger_table.specs.Kept.{link_of, number_or_zero}
use Rattle.trigger_table.specs.Links.{IsIn}
use Rattle.trigger_table.specs.Records.{rows_in}
use Rattle.trigger_table.specs.Rings.{items, list_of}
use Rattle.trigger_table.specs.State.{HasRow, Link, links_at}
use Rattle.trigger_table.proofs.KeptLemmas.{links_at_row, listed_row, not_some}
use Rattle.trigger_table.proofs.RingLemmas.{tidy}

own_waiters : (by_cause : Rings) (waiters : List ℕ) → map (λ (link : Link). link.waiter) (map (link_of by_cause) waiters) ≡ waiters
unfolding link_of
own_waiters by_cause [] = refl
own_waiters by_cause (waiter ∷ waiters) = ap (λ (ws : List ℕ). waiter ∷ ws) (own_waiters by_cause waiters)

links_chain : (records : Records) (number : ℕ) → HasRow number (rows_in records) → links_at number (rows_in records) ≡ map (link_of records.by_cause) (items records.by_task number)
unfolding rows_in
links_chain records number has =
    links_at_row _ _ _ _ _ _ records.sound (tidy records.by_task) number (listed_row _ _ _ _ _ _ records.sound (tidy records.by_task) number has)

pub waiters_chain : (records : Records) (number : ℕ) → HasRow number (rows_in records) → waiters_at number (rows_in records) ≡ items records.by_task number
waiters_chain records number has = ap (map (λ (link : Link). link.waiter)) (links_chain records number has) ∙ own_waiters records.by_cause (items records.by_task number)

-- a waiter of a task is in its chain
pub waiter_owned : (records : Records) (number waiter : ℕ) → HasRow number (rows_in records) → IsIn waiter (waiters_at number (rows_in records)) → list_of records.by_task waiter ≡ Some number
waiter_owned records number waiter has found = (tidy records.by_task).owned waiter number (subst (IsIn waiter) (waiters_chain records number has) found)

whole : (o : Option ℕ) → IsSome o → Some (number_or_zero o) ≡ o
whole None some = absurd (not_some {T = ℕ} None refl some)
whole (Some n) some = refl

cause_chain : (by_cause : Rings) (waiter : ℕ) (waiters : List ℕ) → IsSome (list_of by_cause waiter) → IsIn waiter waiters → cause_at waiter (map (link_of by_cause) waiters) ≡ list_of by_cause waiter
unfolding link_of
cause_chain by_cause waiter [] some found = absurd found
cause_chain by_cause waiter (own ∷ waiters) some found =
    elim (cases_eq own waiter) [
      | inl same ↦ cond-true (own == waiter) _ _ (eq-eqb own waiter same) ∙ ap (λ (n : ℕ). Some (number_or_zero (list_of by_cause n))) same ∙ whole (list_of by_cause waiter) some
      | inr differs ↦
          cond-false (own == waiter) _ _ (ne_eqb own waiter differs)
          ∙ cause_chain by_cause waiter waiters some (elim found [ inl same ↦ absurd (differs same) | inr there ↦ there ])
    ]

-- what a waiter is on is the chain that it is in by cause
pub cause_owned : (records : Records) (number waiter : ℕ) → HasRow number (rows_in records) → IsIn waiter (waiters_at number (rows_in records)) → list_of records.by_cause waiter ≡ cause_at waiter (links_at number (rows_in records))
cause_owned records number waiter has found =
    sym (ap (cause_at waiter) (links_chain records number has)
    ∙ cause_chain records.by_cause waiter (items records.by_task number) (records.sound.of_task waiter number (waiter_owned records number waiter has found)).1 (subst (IsIn waiter) (waiters_chain records number has) found))
