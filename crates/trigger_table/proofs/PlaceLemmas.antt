-- One task's row among the others.
use Rattle.std.proofs.Common.{◌≡◌, ◌≢◌, ℕ, Bool, not, cond, List, [], ◌∷◌, ◌++◌, map, filter, Option, Some, slice_get, refl, sym, ap, ◌∙◌, subst, inl, inr, ◌==◌, eq-eqb, ne_eqb}
use Rattle.std.proofs.lemmas.Bool.{cond-true, cond-false}
use Rattle.await_tree.specs.WaitList.Waiting.{Waiting}
use Rattle.trigger_table.specs.Links.{IsApart, IsIn, behind}
use Rattle.trigger_table.specs.Records.{rows_in}
use Rattle.trigger_table.specs.Rings.{items}
use Rattle.trigger_table.specs.State.{HasLink, HasRow, Link, Row, concat_by, drop_link, entry_at, links_at, links_of, numbers_of, row_without, with_entry, without_row}
use Rattle.trigger_table.specs.declared.records.Records.{Records}
use Rattle.trigger_table.proofs.EntryLemmas.{rows_apart}
use Rattle.trigger_table.proofs.KeptLemmas.{waiters_are_all}
use Rattle.trigger_table.proofs.ListLemmas.{IsIn_append_cases, IsIn_append_left, IsIn_concat, concat_append, filter_append, map_append}
use Rattle.trigger_table.proofs.MemberLemmas.{keeps_all, keeps_link}
use Rattle.trigger_table.proofs.RingLemmas.{tidy}
use Rattle.trigger_table.proofs.RowLemmas.{kept, out, without_none}

abbrev pub waiters_in : List Link → List ℕ
waiters_in links = map (λ (link : Link). link.waiter) links

-- ---- numbers that stand apart

IsIn_right : (k : ℕ) (xs ys : List ℕ) → IsIn k ys → IsIn k (xs ++ ys)
IsIn_right k [] ys found = found
IsIn_right k (x ∷ xs) ys found = inr (IsIn_right k xs ys found)

pub record Apart (xs ys : List ℕ) : Type 0 where
  pub first : IsApart xs
  pub second : IsApart ys
  pub between : (k : ℕ) → IsIn k xs → IsIn k ys → ⊥

pub apart_parts : (xs ys : List ℕ) → IsApart (xs ++ ys) → Apart xs ys
apart_parts [] ys h = record { first = tt; second = h; between = λ k found more. found }
apart_parts (x ∷ xs) ys h =
    let later = apart_parts xs ys h.1 in
    record {
      first = (λ found. h.0 (IsIn_append_left x xs ys found), later.first);
      second = later.second;
      between = λ k found more. elim found [
        | inl same ↦ h.0 (subst (λ (j : ℕ). IsIn j (xs ++ ys)) (sym same) (IsIn_right k xs ys more))
        | inr there ↦ later.between k there more
      ];
    }

apart_join : (xs ys : List ℕ) → IsApart xs → IsApart ys → ((k : ℕ) → IsIn k xs → IsIn k ys → ⊥) → IsApart (xs ++ ys)
apart_join [] ys one two off = two
apart_join (x ∷ xs) ys one two off = (
  λ found. elim (IsIn_append_cases x xs ys found) [ inl left ↦ one.0 left | inr right ↦ off x (inl refl) right ],
  apart_join xs ys one.1 two (λ k left right. off k (inr left) right),
)

apart_concat : (f : ℕ → List ℕ) (xs : List ℕ) → IsApart xs → ((x : ℕ) → IsApart (f x)) → ((x y k : ℕ) → IsIn k (f x) → IsIn k (f y) → x ≡ y) → IsApart (concat_by f xs)
apart_concat f [] apart each one = tt
apart_concat f (x ∷ xs) apart each one =
    apart_join (f x) (concat_by f xs) (each x) (apart_concat f xs apart.1 each one)
    (λ k here there. let more = IsIn_concat k f xs there in apart.0 (subst (λ (j : ℕ). IsIn j xs) (sym (one x more.0 k here more.2)) more.1))

-- no waiter is of two leaves
pub waiters_apart : (records : Records) → IsApart (waiters_in (links_of (rows_in records)))
unfolding rows_in
waiters_apart records =
    let t = tidy records.by_task in
    subst IsApart (sym (waiters_are_all _ _ _ _ _ _ records.sound t))
    (apart_concat (items records.by_task) (items records.order 0) ((tidy records.order).apart 0) t.apart
    (λ x y k here there. number_same x y (sym (t.owned k x here) ∙ t.owned k y there)))
  where
    number_same : (x y : ℕ) → Some x ≡ Some y → x ≡ y
    number_same x y same = cc

-- ---- where a row stands

pub record Placed (n : ℕ) (front : List Row) (row : Row) (back : List Row) : Type 0 where
  pub of : row.number ≡ n
  pub before : ¬ HasRow n front
  pub behind : ¬ HasRow n back

pub record Split (n : ℕ) (rows : List Row) : Type 0 where
  pub front : List Row
  pub row : Row
  pub back : List Row
  pub is : rows ≡ front ++ row ∷ back
  pub of : row.number ≡ n

pub split_at : (n : ℕ) (rows : List Row) → HasRow n rows → Split n rows
split_at n [] has = absurd has
split_at n (r ∷ rows) has =
    elim has [
      | inl same ↦ record { front = []; row = r; back = rows; is = refl; of = same }
      | inr there ↦
          let later = split_at n rows there in
          record { front = r ∷ later.front; row = later.row; back = later.back; is = ap (λ (rs : List Row). r ∷ rs) later.is; of = later.of }
    ]

pub numbers_both : (xs ys : List Row) → numbers_of (xs ++ ys) ≡ numbers_of xs ++ numbers_of ys
numbers_both xs ys = map_append (λ (row : Row). row.number) xs ys

pub placed : (n : ℕ) (front : List Row) (row : Row) (back : List Row) → IsApart (numbers_of (front ++ row ∷ back)) → row.number ≡ n → Placed n front row back
placed n front row back apart of =
    let parts = apart_parts (numbers_of front) (numbers_of (row ∷ back)) (subst IsApart (numbers_both front (row ∷ back)) apart) in
    record {
      of = of;
      before = λ there. parts.between n there (inl of);
      behind = λ there. parts.second.0 (subst (λ (j : ℕ). IsIn j (numbers_of back)) (sym of) there);
    }

pub placed_in : (records : Records) (n : ℕ) (front : List Row) (row : Row) (back : List Row) → rows_in records ≡ front ++ row ∷ back → row.number ≡ n → Placed n front row back
placed_in records n front row back is of = placed n front row back (subst (λ (rs : List Row). IsApart (numbers_of rs)) is (rows_apart records)) of

pub has_placed : (n : ℕ) (front : List Row) (row : Row) (back : List Row) → row.number ≡ n → HasRow n (front ++ row ∷ back)
has_placed n [] row back of = inl of
has_placed n (r ∷ front) row back of = inr (has_placed n front row back of)

-- two places of one number are one place
pub record Same (front front' : List Row) (row row' : Row) (back back' : List Row) : Type 0 where
  pub fronts : front ≡ front'
  pub rows : row ≡ row'
  pub backs : back ≡ back'

pub one_place : (n : ℕ) (front front' : List Row) (row row' : Row) (back back' : List Row) → IsApart (numbers_of (front ++ row ∷ back)) → front ++ row ∷ back ≡ front' ++ row' ∷ back' → row.number ≡ n → row'.number ≡ n
    → Same front front' row row' back back'
one_place n [] [] row row' back back' apart is of of' = record { fronts = refl; rows = cc; backs = cc }
one_place n [] (r ∷ front') row row' back back' apart is of of' =
    let rest : back ≡ front' ++ row' ∷ back' = cc in
    absurd (apart.0 (subst (λ (rs : List Row). IsIn row.number (numbers_of rs)) (sym rest) (has_placed row.number front' row' back' (of' ∙ sym of))))
one_place n (r ∷ front) [] row row' back back' apart is of of' =
    let same : r ≡ row' = cc in
    absurd (apart.0 (has_placed r.number front row back (of ∙ sym of' ∙ ap (λ (x : Row). x.number) (sym same))))
one_place n (r ∷ front) (r' ∷ front') row row' back back' apart is of of' =
    let same : r ≡ r' = cc in
    let rest : front ++ row ∷ back ≡ front' ++ row' ∷ back' = cc in
    let later = one_place n front front' row row' back back' apart.1 rest of of' in
    record { fronts = ap (λ (x : Row). x ∷ front) same ∙ ap (λ (rs : List Row). r' ∷ rs) later.fronts; rows = later.rows; backs = later.backs }

-- ---- what is asked and changed by number

module _ (n : ℕ) where
  here : (row : Row) {X : Type 0} (x y : X) → row.number ≡ n → cond (row.number == n) x y ≡ x
  here row x y same = cond-true _ x y (eq-eqb row.number n same)

  past : (row : Row) {X : Type 0} (x y : X) → row.number ≢ n → cond (row.number == n) x y ≡ y
  past row x y differs = cond-false _ x y (ne_eqb row.number n differs)

  entry_there : (front : List Row) (row : Row) (back : List Row) → ¬ HasRow n front → row.number ≡ n → entry_at n (front ++ row ∷ back) ≡ row.entry
  entry_there [] row back off of = here row row.entry (entry_at n back) of
  entry_there (r ∷ front) row back off of = past r r.entry (entry_at n (front ++ row ∷ back)) (λ same. off (inl same)) ∙ entry_there front row back (λ there. off (inr there)) of

  links_there : (front : List Row) (row : Row) (back : List Row) → ¬ HasRow n front → row.number ≡ n → links_at n (front ++ row ∷ back) ≡ row.links
  links_there [] row back off of = here row row.links (links_at n back) of
  links_there (r ∷ front) row back off of = past r r.links (links_at n (front ++ row ∷ back)) (λ same. off (inl same)) ∙ links_there front row back (λ there. off (inr there)) of

  with_none : (e : Option Waiting) (rows : List Row) → ¬ HasRow n rows → with_entry n e rows ≡ rows
  with_none e [] off = refl
  with_none e (r ∷ rows) off =
      ap (λ (x : Row). x ∷ with_entry n e rows) (past r (record r { entry = e }) r (λ same. off (inl same)))
      ∙ ap (λ (rs : List Row). r ∷ rs) (with_none e rows (λ there. off (inr there)))

  with_there : (e : Option Waiting) (front : List Row) (row : Row) (back : List Row) → ¬ HasRow n front → row.number ≡ n → ¬ HasRow n back → with_entry n e (front ++ row ∷ back) ≡ front ++ record row { entry = e } ∷ back
  with_there e [] row back off of later =
      ap (λ (x : Row). x ∷ with_entry n e back) (here row (record row { entry = e }) row of) ∙ ap (λ (rs : List Row). record row { entry = e } ∷ rs) (with_none e back later)
  with_there e (r ∷ front) row back off of later =
      ap (λ (x : Row). x ∷ with_entry n e (front ++ row ∷ back)) (past r (record r { entry = e }) r (λ same. off (inl same)))
      ∙ ap (λ (rs : List Row). r ∷ rs) (with_there e front row back (λ there. off (inr there)) of later)

  without_there : (front : List Row) (row : Row) (back : List Row) → ¬ HasRow n front → row.number ≡ n → ¬ HasRow n back → without_row n (front ++ row ∷ back) ≡ front ++ back
  without_there [] row back off of later = out n row back of ∙ without_none n back later
  without_there (r ∷ front) row back off of later =
      kept n r (front ++ row ∷ back) (λ same. off (inl same)) ∙ ap (λ (rs : List Row). r ∷ rs) (without_there front row back (λ there. off (inr there)) of later)

module _ {n : ℕ} {front : List Row} {row : Row} {back : List Row} (p : Placed n front row back) where
  pub place_entry : entry_at n (front ++ row ∷ back) ≡ row.entry
  place_entry = entry_there n front row back p.before p.of

  pub place_links : links_at n (front ++ row ∷ back) ≡ row.links
  place_links = links_there n front row back p.before p.of

  pub place_with : (e : Option Waiting) → with_entry n e (front ++ row ∷ back) ≡ front ++ record row { entry = e } ∷ back
  place_with e = with_there n e front row back p.before p.of p.behind

  pub place_without : without_row n (front ++ row ∷ back) ≡ front ++ back
  place_without = without_there n front row back p.before p.of p.behind

-- ---- a waiter leaves its row

row_keeps : (w : ℕ) (row : Row) → filter (keeps_link w) row.links ≡ row.links → row_without w row ≡ row
row_keeps w row same = ap (λ (ls : List Link). let r : Row = record row { links = ls } in r) same

rows_keep : (w : ℕ) (rows : List Row) → ¬ HasLink w rows → drop_link w rows ≡ rows
rows_keep w [] off = refl
rows_keep w (row ∷ rows) off =
    let both = map_append (λ (link : Link). link.waiter) row.links (links_of rows) in
    let own : ¬ IsIn w (waiters_in row.links) = λ found. off (subst (IsIn w) (sym both) (IsIn_append_left w (waiters_in row.links) (waiters_in (links_of rows)) found)) in
    let rest : ¬ HasLink w rows = λ found. off (subst (IsIn w) (sym both) (IsIn_right w (waiters_in row.links) (waiters_in (links_of rows)) found)) in
    ap (λ (r : Row). r ∷ drop_link w rows) (row_keeps w row (keeps_all w row.links own)) ∙ ap (λ (rs : List Row). row ∷ rs) (rows_keep w rows rest)

-- the waiters of all tasks, by place
links_placed : (front : List Row) (row : Row) (back : List Row) → waiters_in (links_of (front ++ row ∷ back)) ≡ waiters_in (links_of front) ++ (waiters_in row.links ++ waiters_in (links_of back))
links_placed front row back =
    ap waiters_in (concat_append (λ (r : Row). r.links) front (row ∷ back))
    ∙ map_append (λ (link : Link). link.waiter) (links_of front) (row.links ++ links_of back)
    ∙ ap (λ (ws : List ℕ). waiters_in (links_of front) ++ ws) (map_append (λ (link : Link). link.waiter) row.links (links_of back))

pub record ApartRow (front : List Row) (row : Row) (back : List Row) : Type 0 where
  pub own : IsApart (waiters_in row.links)
  pub before : (w : ℕ) → IsIn w (waiters_in row.links) → ¬ HasLink w front
  pub behind : (w : ℕ) → IsIn w (waiters_in row.links) → ¬ HasLink w back

pub apart_row : (front : List Row) (row : Row) (back : List Row) → IsApart (waiters_in (links_of (front ++ row ∷ back))) → ApartRow front row back
apart_row front row back apart =
    let first = apart_parts (waiters_in (links_of front)) (waiters_in row.links ++ waiters_in (links_of back)) (subst IsApart (links_placed front row back) apart) in
    let second = apart_parts (waiters_in row.links) (waiters_in (links_of back)) first.second in
    record {
      own = second.first;
      before = λ w found there. first.between w there (IsIn_append_left w (waiters_in row.links) (waiters_in (links_of back)) found);
      behind = λ w found there. second.between w found there;
    }

pub row_apart : (records : Records) (front : List Row) (row : Row) (back : List Row) → rows_in records ≡ front ++ row ∷ back → ApartRow front row back
row_apart records front row back is = apart_row front row back (subst (λ (rs : List Row). IsApart (waiters_in (links_of rs))) is (waiters_apart records))

-- a waiter of this row is one of all
pub has_waiter : (front : List Row) (row : Row) (back : List Row) (w : ℕ) → IsIn w (waiters_in row.links) → HasLink w (front ++ row ∷ back)
has_waiter front row back w found =
    subst (IsIn w) (sym (links_placed front row back))
    (IsIn_right w (waiters_in (links_of front)) (waiters_in row.links ++ waiters_in (links_of back)) (IsIn_append_left w (waiters_in row.links) (waiters_in (links_of back)) found))

pub drop_placed : (front : List Row) (row : Row) (back : List Row) (w : ℕ) → ApartRow front row back → IsIn w (waiters_in row.links) → drop_link w (front ++ row ∷ back) ≡ front ++ row_without w row ∷ back
drop_placed front row back w apart found =
    map_append (row_without w) front (row ∷ back)
    ∙ ap (λ (rs : List Row). rs ++ (row_without w row ∷ drop_link w back)) (rows_keep w front (apart.before w found))
    ∙ ap (λ (rs : List Row). front ++ row_without w row ∷ rs) (rows_keep w back (apart.behind w found))

-- a list without the waiter in its midst
pub one_less : (stayed : List Link) (link : Link) (left : List Link) → IsApart (waiters_in (stayed ++ link ∷ left)) → filter (keeps_link link.waiter) (stayed ++ link ∷ left) ≡ stayed ++ left
one_less stayed link left apart =
    let parts = apart_parts (waiters_in stayed) (waiters_in (link ∷ left)) (subst IsApart (map_append (λ (l : Link). l.waiter) stayed (link ∷ left)) apart) in
    filter_append (keeps_link link.waiter) stayed (link ∷ left)
    ∙ ap (λ (ls : List Link). ls ++ filter (keeps_link link.waiter) (link ∷ left)) (keeps_all link.waiter stayed (λ found. parts.between link.waiter found (inl refl)))
    ∙ ap (λ (ls : List Link). stayed ++ ls)
    (ap (λ (b : Bool). cond (not b) (link ∷ filter (keeps_link link.waiter) left) (filter (keeps_link link.waiter) left)) (eq-eqb link.waiter link.waiter refl) ∙ keeps_all link.waiter left parts.second.0)

pub is_amid : (stayed : List Link) (link : Link) (left : List Link) → IsIn link.waiter (waiters_in (stayed ++ link ∷ left))
is_amid [] link left = inl refl
is_amid (l ∷ stayed) link left = inr (is_amid stayed link left)

-- the one behind it
pub behind_amid : (stayed : List Link) (link : Link) (left : List Link) → IsApart (waiters_in (stayed ++ link ∷ left)) → behind link.waiter (waiters_in (stayed ++ link ∷ left)) ≡ slice_get (waiters_in left) 0
behind_amid [] link left apart = cond-true (link.waiter == link.waiter) (slice_get (waiters_in left) 0) (behind link.waiter (waiters_in left)) (eq-eqb link.waiter link.waiter refl)
behind_amid (l ∷ stayed) link left apart =
    cond-false (l.waiter == link.waiter) (slice_get (waiters_in (stayed ++ link ∷ left)) 0) (behind link.waiter (waiters_in (stayed ++ link ∷ left)))
    (ne_eqb l.waiter link.waiter (λ same. apart.0 (subst (λ (k : ℕ). IsIn k (waiters_in (stayed ++ link ∷ left))) (sym same) (is_amid stayed link left))))
    ∙ behind_amid stayed link left apart.1
