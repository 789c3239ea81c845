-- What a reader answers, by the lines that it has taken.
use Rattle.std.specs.Prelude.{◌≡◌, ◌⊎◌, ◌<◌, ◌≤◌, ◌+◌, ℕ, zero, suc, max, true, false, List, [], ◌∷◌, ◌++◌, length, map, take, drop, get_or, leb, refl}
use Rattle.std.specs.List.{AllByRecursion}
use Rattle.std.proofs.Common.{ap, sym, subst, ◌∙◌, append_assoc, append-nil, add-one, arith, length-append, inl, inr}
use Rattle.std.proofs.lemmas.Bool.Decides.{leb_tells}
use Rattle.std.proofs.lemmas.List.{map-append}
use Rattle.port_io.specs.ToldLaws.{joined, joined_then}
use Rattle.vcd_text.specs.Spelling.{line}
use Rattle.vcd_text.specs.Reading.{IsOneLine, HasLines, last_line}
use Rattle.vcd_text.specs.Rules.{ReadState, BreaksAt, EndsEarly, IsOver, IsRead, IsRefused, Takes, TakesLines, begun}
use Rattle.vcd_text.specs.Reader.{IsBehind, IsNextLine, Numbered, last_number}
use Rattle.vcd_text.specs.declared.change.Change.{Change}
use Rattle.vcd_text.proofs.ListSteps.{take_next}
use Rattle.vcd_text.proofs.OneList.{lacks}
use Rattle.vcd_text.proofs.LinesOf.{lines_of, lines_once, one_line}
use Rattle.vcd_text.proofs.Once.{taken_once}

-- ---- lists of lines

all_more : (xs : List (List ℕ)) (x : List ℕ) → AllByRecursion IsOneLine xs → IsOneLine x → AllByRecursion IsOneLine (xs ++ x ∷ [])
all_more [] x h p = (p, tt)
all_more (y ∷ xs) x h p = (h.0, all_more xs x h.1 p)

all_both : (xs ys : List (List ℕ)) → AllByRecursion IsOneLine xs → AllByRecursion IsOneLine ys → AllByRecursion IsOneLine (xs ++ ys)
all_both [] ys h g = g
all_both (x ∷ xs) ys h g = (h.0, all_both xs ys h.1 g)

take_all : (xs ys : List (List ℕ)) → take (length xs) (xs ++ ys) ≡ xs
take_all [] ys = refl
take_all (x ∷ xs) ys = ap (λ (l : List (List ℕ)). x ∷ l) (take_all xs ys)

take_one : (xs : List (List ℕ)) (y : List ℕ) (ys : List (List ℕ)) → take (suc (length xs)) (xs ++ y ∷ ys) ≡ xs ++ y ∷ []
take_one [] y ys = refl
take_one (x ∷ xs) y ys = ap (λ (l : List (List ℕ)). x ∷ l) (take_one xs y ys)

-- ---- lines that are taken

none_numbered : Numbered [] 0
none_numbered = record { below = λ i a e. absurd (cc); apart = λ i j a b p q e. absurd (cc) }

pub taken_then : (s : ReadState) (xs ys : List (List ℕ)) (mid a : ReadState) → TakesLines s xs mid → TakesLines mid ys a → TakesLines s (xs ++ ys) a
taken_then s [] ys mid a x y = subst (λ (z : ReadState). TakesLines z ys a) x y
taken_then s (text ∷ xs) ys mid a (next, t, x) y = (next, t, taken_then next xs ys mid a x y)

pub taken_cut : (s : ReadState) (xs ys : List (List ℕ)) (a : ReadState) → TakesLines s (xs ++ ys) a → (mid : ReadState) × TakesLines s xs mid × TakesLines mid ys a
taken_cut s [] ys a x = (s, refl, x)
taken_cut s (text ∷ xs) ys a (next, t, x) = let more = taken_cut next xs ys a x in (more.0, (next, t, more.1), more.2)

pub begun_once : (texts : List (List ℕ)) (a b : ReadState) → TakesLines begun texts a → TakesLines begun texts b → a ≡ b
begun_once texts a b x y = taken_once begun texts a b none_numbered x y

-- ---- what stands behind lines

pub behind_none : (text : List ℕ) (s : ReadState) → s ≡ begun → IsBehind text text 0 s
behind_none text s e = record { lines = []; each = tt; split = refl; counted = refl; taken = e }

module _ (text rest : List ℕ) (number : ℕ) (s : ReadState) (b : IsBehind text rest number s) where
  module _ (first back : List ℕ) (n : IsNextLine rest first back) where
    lines_more : map line (b.lines ++ n.body ∷ []) ≡ map line b.lines ++ first ∷ []
    lines_more = map-append line b.lines (n.body ∷ []) ∙ ap (λ (l : List ℕ). map line b.lines ++ l ∷ []) (sym n.first_is)

    text_more : text ≡ joined (map line b.lines ++ first ∷ []) ++ back
    text_more =
        b.split
        ∙ (ap (λ (l : List ℕ). joined (map line b.lines) ++ l) n.split
        ∙ (sym (append_assoc (joined (map line b.lines)) first back)
        ∙ ap (λ (l : List ℕ). l ++ back) (ap (λ (l : List ℕ). joined (map line b.lines) ++ l) (sym (append-nil first)) ∙ sym (joined_then (map line b.lines) (first ∷ [])))))

    pub behind_more : (after : ReadState) → Takes s first after → IsBehind text back (number + 1) after
    behind_more after t = record {
      lines = b.lines ++ n.body ∷ [];
      each = all_more b.lines n.body b.each n.whole;
      split = text_more ∙ ap (λ (l : List (List ℕ)). joined l ++ back) (sym lines_more);
      counted = let c = b.counted in omega (arith, c, length-append b.lines (n.body ∷ []));
      taken = subst (λ (l : List (List ℕ)). TakesLines begun l after) (sym lines_more) (taken_then begun (map line b.lines) (first ∷ []) s after b.taken (after, t, refl));
    }

    -- a line that can't be taken
    pub behind_broken : ((other : ReadState) → Takes s first other → ⊥) → IsRefused text (number + 1)
    behind_broken none = (
      b.lines ++ n.body ∷ more.0,
      more.1,
      record {
        each = all_both b.lines (n.body ∷ more.0) b.each (n.whole, more.2.each);
        last = more.2.last;
        split = text_more ∙ (ap (λ (l : List ℕ). joined (map line b.lines ++ first ∷ []) ++ l) more.2.split
            ∙ (sym (append_assoc (joined (map line b.lines ++ first ∷ [])) (joined (map line more.0)) more.1)
            ∙ ap (λ (l : List ℕ). l ++ more.1) (sym (joined_then (map line b.lines ++ first ∷ []) (map line more.0)) ∙ ap joined (sym all_lines))));
      },
      inl (record {
        before = number;
        counted = refl;
        there = let c = b.counted in omega (arith, c, length-append b.lines (n.body ∷ more.0));
        front = s;
        taken = subst (λ (l : List (List ℕ)). TakesLines begun (map line l) s) (sym before_is) b.taken;
        broken = λ other taken. stops other (subst (λ (l : List (List ℕ)). TakesLines begun l other) (ap (map line) with_is ∙ lines_more) taken);
      }),
    )
      where
        more : (lines : List (List ℕ)) × (open_line : List ℕ) × HasLines back lines open_line
        more = lines_of back

        all_lines : map line (b.lines ++ n.body ∷ more.0) ≡ (map line b.lines ++ first ∷ []) ++ map line more.0
        all_lines =
            map-append line b.lines (n.body ∷ more.0)
            ∙ (ap (λ (l : List ℕ). map line b.lines ++ l ∷ map line more.0) (sym n.first_is) ∙ sym (append_assoc (map line b.lines) (first ∷ []) (map line more.0)))

        before_is : take number (b.lines ++ n.body ∷ more.0) ≡ b.lines
        before_is = ap (λ (k : ℕ). take k (b.lines ++ n.body ∷ more.0)) b.counted ∙ take_all b.lines (n.body ∷ more.0)

        with_is : take (number + 1) (b.lines ++ n.body ∷ more.0) ≡ b.lines ++ n.body ∷ []
        with_is = ap (λ (k : ℕ). take k (b.lines ++ n.body ∷ more.0)) (add-one number ∙ ap suc b.counted) ∙ take_one b.lines n.body more.0

        stops : (other : ReadState) → TakesLines begun (map line b.lines ++ first ∷ []) other → ⊥
        stops other taken =
            let cut = taken_cut begun (map line b.lines) (first ∷ []) other taken in
            none cut.2.0 (subst (λ (z : ReadState). Takes z first cut.2.0) (sym (begun_once (map line b.lines) s cut.0 b.taken cut.1)) cut.2.1)

  -- all lines are taken
  module _ (whole : IsOneLine rest) where
    has_lines : HasLines text b.lines rest
    has_lines = record { each = b.each; last = whole; split = b.split }

    pub behind_read : rest ≡ [] → IsOver s → (changes : List Change) → changes ≡ s.changes → IsRead text changes
    behind_read none over changes told = record {
      lines = b.lines;
      split = subst (λ (l : List ℕ). HasLines text b.lines l) none has_lines;
      last = s;
      taken = b.taken;
      over = over;
      told = told;
    }

    last_is : (rest : List ℕ) → last_number number rest ≡ last_line b.lines rest
    last_is [] = ap (λ (k : ℕ). max 1 k) b.counted
    last_is (x ∷ rest) = ap (λ (k : ℕ). k + 1) b.counted

    pub behind_ended : (rest ≡ [] → IsOver s → ⊥) → IsRefused text (last_number number rest)
    behind_ended no_end = (
      b.lines,
      rest,
      has_lines,
      inr (record { front = s; taken = b.taken; unended = unread; last = last_is rest }),
    )
      where
        unread : (changes : List Change) → IsRead text changes → ⊥
        unread changes r =
            let same = lines_once b.lines r.lines rest [] b.each r.split.each whole r.split.last (sym b.split ∙ r.split.split) in
            no_end same.1
            (subst IsOver (begun_once (map line r.lines) r.last s r.taken (subst (λ (l : List (List ℕ)). TakesLines begun (map line l) s) same.0 b.taken)) r.over)

-- ---- the first line

behind_at : (text : List ℕ) (at : ℕ) → at < length text → text ≡ take (at + 1) text ++ drop (at + 1) text
behind_at text at h = sym (take_drop (at + 1) text)
  where
    take_drop : (n : ℕ) (xs : List ℕ) → take n xs ++ drop n xs ≡ xs
    take_drop zero xs = refl
    take_drop (suc n) [] = refl
    take_drop (suc n) (x ∷ xs) = ap (λ (l : List ℕ). x ∷ l) (take_drop n xs)

pub first_line : (text : List ℕ) (at : ℕ) → at < length text → get_or text at 0 ≡ 10 → lacks 10 (take at text) ≡ true → IsNextLine text (take (at + 1) text) (drop (at + 1) text)
first_line text at h feed none = record {
  body = take at text;
  whole = one_line (take at text) none;
  first_is = take_next text at h ∙ ap (λ (k : ℕ). take at text ++ k ∷ []) feed;
  split = behind_at text at h;
}

pub next_shorter : (text first rest : List ℕ) → IsNextLine text first rest → length rest < length text
next_shorter text first rest n =
    let e = ap length n.split ∙ length-append first rest in let f = ap length n.first_is ∙ length-append n.body (10 ∷ []) in omega (arith, e, f)

-- ---- one answer

take_drop : (k : ℕ) (lines : List (List ℕ)) → lines ≡ take k lines ++ drop k lines
take_drop zero lines = refl
take_drop (suc k) [] = refl
take_drop (suc k) (x ∷ lines) = ap (λ (l : List (List ℕ)). x ∷ l) (take_drop k lines)

take_less : (k j : ℕ) (lines : List (List ℕ)) → k ≤ j → take k (take j lines) ≡ take k lines
take_less zero j lines h = refl
take_less (suc k) zero lines h = absurd (omega (arith, h))
take_less (suc k) (suc j) [] h = refl
take_less (suc k) (suc j) (x ∷ lines) h = ap (λ (l : List (List ℕ)). x ∷ l) (take_less k j lines (omega (arith, h)))

-- the first of lines that are taken are taken
taken_front : (k : ℕ) (lines : List (List ℕ)) (s : ReadState) → TakesLines begun (map line lines) s → (mid : ReadState) × TakesLines begun (map line (take k lines)) mid
taken_front k lines s t =
    let cut = taken_cut begun (map line (take k lines)) (map line (drop k lines)) s
    (subst (λ (l : List (List ℕ)). TakesLines begun l s) (ap (map line) (take_drop k lines) ∙ map-append line (take k lines) (drop k lines)) t) in
    (cut.0, cut.1)

pub read_once : (text : List ℕ) (a b : List Change) → IsRead text a → IsRead text b → a ≡ b
read_once text a b x y =
    let same = lines_once x.lines y.lines [] [] x.split.each y.split.each x.split.last y.split.last (sym x.split.split ∙ y.split.split) in
    let states = begun_once (map line y.lines) x.last y.last (subst (λ (l : List (List ℕ)). TakesLines begun (map line l) x.last) same.0 x.taken) y.taken in
    x.told ∙ (ap (λ (z : ReadState). z.changes) states ∙ sym y.told)

pub read_or_refused : (text : List ℕ) (changes : List Change) (number : ℕ) → IsRead text changes → IsRefused text number → ⊥
read_or_refused text changes number r (lines, open_line, split, inl b) =
    let same = lines_once r.lines lines [] open_line r.split.each split.each r.split.last split.last (sym r.split.split ∙ split.split) in
    let front = taken_front number lines r.last (subst (λ (l : List (List ℕ)). TakesLines begun (map line l) r.last) same.0 r.taken) in b.broken front.0 front.1
read_or_refused text changes number r (lines, open_line, split, inr e) = e.unended changes r

-- of two lines that can't stand there none comes after the other
no_later : (lines : List (List ℕ)) (m n : ℕ) → BreaksAt lines m → BreaksAt lines n → m < n → ⊥
no_later lines m n a b h =
    let c = b.counted in
    let front = taken_front m (take b.before lines) b.front b.taken in
    a.broken front.0 (subst (λ (l : List (List ℕ)). TakesLines begun (map line l) front.0) (take_less m b.before lines (omega (arith, h, c))) front.1)

order : {P : Type 0} (m n : ℕ) → (m < n → P) → (n < m → P) → (m ≡ n → P) → P
order {P} m n below above same = by (leb_tells n m) (leb_tells m n)
  where
    by : ((leb n m ≡ true) × (n ≤ m)) ⊎ ((leb n m ≡ false) × (m < n)) → ((leb m n ≡ true) × (m ≤ n)) ⊎ ((leb m n ≡ false) × (n < m)) → P
    by (inr h) k = below h.1
    by (inl h) (inr k) = above k.1
    by (inl h) (inl k) = same (let a = h.1 in let b = k.1 in omega (arith, a, b))

pub refused_once : (text : List ℕ) (m n : ℕ) → IsRefused text m → IsRefused text n → m ≡ n
refused_once text m n (lines, open_line, split, a) (lines', open_line', split', b) =
    by a (subst (λ (l : List (List ℕ)). BreaksAt l n ⊎ EndsEarly text l open_line n) (sym same.0)
    (subst (λ (o : List ℕ). BreaksAt lines' n ⊎ EndsEarly text lines' o n) (sym same.1) b))
  where
    same : (lines ≡ lines') × (open_line ≡ open_line')
    same = lines_once lines lines' open_line open_line' split.each split'.each split.last split'.last (sym split.split ∙ split'.split)

    by : BreaksAt lines m ⊎ EndsEarly text lines open_line m → BreaksAt lines n ⊎ EndsEarly text lines open_line n → m ≡ n
    by (inl x) (inl y) = order m n (λ h. absurd (no_later lines m n x y h)) (λ h. absurd (no_later lines n m y x h)) (λ e. e)
    by (inl x) (inr y) = let front = taken_front m lines y.front y.taken in absurd (x.broken front.0 front.1)
    by (inr x) (inl y) = let front = taken_front n lines x.front x.taken in absurd (y.broken front.0 front.1)
    by (inr x) (inr y) = x.last ∙ sym y.last
