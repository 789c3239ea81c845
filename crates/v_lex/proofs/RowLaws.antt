-- A text has one row of parts, and the code's scan tells what the row tells.
use Rattle.std.proofs.Common.{◌≡◌, ℕ, zero, suc, ◌+◌, ◌≤◌, Bool, true, false, List, [], ◌∷◌, ◌++◌, length, take, drop, Some, ap, ◌∙◌, sym}
use Rattle.std.proofs.Common.{refl, subst, ⊎_elim, unwrap_or, arith}
use lib.Seq.{take-append_seam, drop-append_seam}
use Rattle.std.proofs.lemmas.List.{length-append}
use Rattle.v_lex.specs.declared.directive.Content.{Content}
use Rattle.v_lex.specs.declared.directive.Content.TheVariants as content
use Rattle.v_lex.specs.declared.directive.LexRule.TheVariants as rule
use Rattle.v_lex.specs.declared.directive.Piece.{Piece}
use Rattle.v_lex.specs.Comments.{piece}
use Rattle.v_lex.specs.Pieces.{piece_at}
use Rattle.v_lex.specs.Lexing.{State, Scan, Lexed, is_taken, left_open, with_content, after_content, earliest, start, nanosecond, at_modules}
use Rattle.v_lex.specs.declared.directive.LexRule.{LexRule}
use Rattle.v_lex.specs.declared.directive.BrokenRule.{BrokenRule}
use Rattle.v_lex.specs.Scan.{scan_from, scan_of, faults_of, lexed}
use Rattle.v_lex.specs.Faults.{fault_at, fault_of, IsFault}
use Rattle.v_lex.specs.Spelling.{Form, SystemName, Number, HasForm, IsQuoted}
use Rattle.v_lex.specs.Gaps.{BeginsComment}
use Rattle.v_lex.specs.Row.{Part, IsStray, IsNoToken, IsSkipped, CommentStands, TakenStands, SkippedStands, Stands, IsRow, spelled}
use Rattle.v_lex.specs.Row.{told_of, told, Reads, BreaksFirst}
use Rattle.v_lex.proofs.FormKinds.{has_some}
use Rattle.v_lex.proofs.ScanLaws.{scan_step}
use Rattle.v_lex.proofs.CommentLaws.{one, comment_some}
use Rattle.v_lex.proofs.DirectiveFronts as directives
use Rattle.v_lex.proofs.PieceFronts.{stands_is, piece_stands}

-- ---- a part has bytes

form_some : (f : Form) (bytes : List ℕ) → HasForm f bytes → 1 ≤ length bytes
form_some f [] h = absurd (has_some f h)
form_some f (b ∷ bs) h = omega arith

taken_some : (c : Content) (bytes behind : List ℕ) → TakenStands c bytes behind → 1 ≤ length bytes
taken_some content.Gap bytes behind h = one h.0 bytes [] h.1
taken_some (content.Token t) bytes behind h = form_some h.0 bytes h.1.has
taken_some (content.Directive d) bytes behind h = directives.directive_some d bytes behind h
taken_some (content.Broken rule.BadByte) bytes behind h = ⊎_elim
    (λ (k : IsStray bytes behind). one k.byte bytes [] k.is)
    (λ (k : IsNoToken SystemName bytes behind). form_some SystemName bytes k.0.has)
    h
taken_some (content.Broken rule.BadNumber) bytes behind h = form_some Number bytes h.0.has
taken_some (content.Broken rule.UnclosedText) bytes behind h = one 34 bytes h.0 h.1
taken_some (content.Broken rule.Directive) bytes behind h = absurd h

skipped_some : (c : Content) (bytes behind : List ℕ) → SkippedStands c bytes behind → 1 ≤ length bytes
skipped_some content.Gap bytes behind h = ⊎_elim
    (λ (k : (inside : List ℕ) × IsQuoted bytes inside). one 34 bytes (k.0 ++ (34 ∷ [])) k.1.0)
    (λ (k : IsSkipped bytes behind). one k.byte bytes [] k.is)
    h
skipped_some (content.Token t) bytes behind h = absurd h
skipped_some (content.Directive d) bytes behind h = directives.directive_some d bytes behind h.1
skipped_some (content.Broken r) bytes behind h = absurd h

stands_some : (is_taken : Bool) (c : Content) (bytes behind : List ℕ) → Stands is_taken c bytes behind → 1 ≤ length bytes
stands_some true c bytes behind h = ⊎_elim
    (λ (k : CommentStands c bytes behind). comment_some c bytes behind k)
    (λ (k : (BeginsComment (bytes ++ behind) → ⊥) × TakenStands c bytes behind). taken_some c bytes behind k.1)
    h
stands_some false c bytes behind h = ⊎_elim
    (λ (k : CommentStands c bytes behind). comment_some c bytes behind k)
    (λ (k : (BeginsComment (bytes ++ behind) → ⊥) × SkippedStands c bytes behind). skipped_some c bytes behind k.1)
    h

-- ---- the scan tells what a row tells

next_step : (s : State) (place : ℕ) (p : Part) (behind : List ℕ) → Stands (is_taken s.conditionals) p.content p.bytes behind
    → scan_from s place 0 (p.bytes ++ behind)
    ≡ with_content s place p.content (scan_from (after_content s place p.content) (place + length p.bytes) 0 behind)
next_step s place p behind h =
    let some = stands_some (is_taken s.conditionals) p.content p.bytes behind h in
    let is = stands_is (is_taken s.conditionals) p.content p.bytes behind h in
    scan_step s place (p.bytes ++ behind) (piece (length p.bytes) p.content) (omega (arith, some, length-append p.bytes behind))
    (sym is) some
    ∙ ap (λ (xs : List ℕ). with_content s place p.content (scan_from (after_content s place p.content) (place + length p.bytes) 0 xs))
    (drop-append_seam p.bytes behind)

scan_end : (s : State) (place : ℕ)
    → scan_from s place 0 [] ≡ record { tokens = []; places = []; units = []; faults = left_open s.conditionals; last = s }
unfolding scan_from
scan_end s place = refl

pub row_tells : (s : State) (place : ℕ) (row : List Part) (text : List ℕ) → IsRow s place row text
    → told_of s place row ≡ scan_from s place 0 text
unfolding IsRow told_of
row_tells s place [] text h = sym (ap (scan_from s place 0) h ∙ scan_end s place)
row_tells s place (p ∷ ps) text h =
    ap (with_content s place p.content) (row_tells (after_content s place p.content) (place + length p.bytes) ps h.0 h.3)
    ∙ sym (ap (scan_from s place 0) h.1 ∙ next_step s place p h.0 h.2)

pub record Row (s : State) (place : ℕ) (text : List ℕ) : Type 0 where
  pub parts : List Part
  pub is : IsRow s place parts text

some_row : (n : ℕ) (s : State) (place : ℕ) (text : List ℕ) → length text ≤ n → Row s place text
unfolding IsRow
some_row n s place [] h = record { parts = []; is = refl }
some_row zero s place (b ∷ bs) h = absurd (omega arith)
some_row (suc n) s place (b ∷ bs) h =
    let q = piece_stands (is_taken s.conditionals) b bs in
    let c = (piece_at (is_taken s.conditionals) (b ∷ bs)).content in
    let some = stands_some (is_taken s.conditionals) c q.bytes q.behind q.stands in
    let l = ap (λ (xs : List ℕ). length xs) q.is in
    let r = some_row n (after_content s place c) (place + length q.bytes) q.behind
    (omega (arith, some, l, length-append q.bytes q.behind)) in
    record { parts = record { bytes = q.bytes; content = c } ∷ r.parts; is = (q.behind, q.is, q.stands, r.is) }

-- a text has a row
pub row : (text : List ℕ) → Row start 0 text
row text = some_row (length text) start 0 text (omega arith)

-- ---- and one row

part_first : (p : Part) (bytes : List ℕ) (c : Content) → bytes ≡ p.bytes → c ≡ p.content → p ≡ record { bytes = bytes; content = c }
part_first p bytes c e f =
    ap (λ (xs : List ℕ). record { bytes = xs; content = p.content }) (sym e)
    ∙ ap (λ (x : Content). record { bytes = bytes; content = x }) (sym f)

-- two parts at the front of one text
same_part : (t : Bool) (p q : Part) (behind rest : List ℕ) → p.bytes ++ behind ≡ q.bytes ++ rest → Stands t p.content p.bytes behind
    → Stands t q.content q.bytes rest → (p ≡ q) × (behind ≡ rest)
same_part t p q behind rest e h k =
    let same : piece (length p.bytes) p.content ≡ piece (length q.bytes) q.content =
    sym (stands_is t p.content p.bytes behind h) ∙ ap (piece_at t) e ∙ stands_is t q.content q.bytes rest k in
    let n : length p.bytes ≡ length q.bytes = ap (λ (x : Piece). x.size) same in
    let c : p.content ≡ q.content = ap (λ (x : Piece). x.content) same in
    let b : p.bytes ≡ q.bytes =
    sym (take-append_seam p.bytes behind) ∙ ap (take (length p.bytes)) e ∙ ap (λ (k : ℕ). take k (q.bytes ++ rest)) n
    ∙ take-append_seam q.bytes rest in (
      part_first p q.bytes q.content (sym b) (sym c),
      sym (drop-append_seam p.bytes behind) ∙ ap (drop (length p.bytes)) e
          ∙ ap (λ (k : ℕ). drop k (q.bytes ++ rest)) n ∙ drop-append_seam q.bytes rest,
    )

no_more : (t : Bool) (p : Part) (behind : List ℕ) → [] ≡ p.bytes ++ behind → Stands t p.content p.bytes behind → ⊥
no_more t p behind e h =
    let some = stands_some t p.content p.bytes behind h in
    let n = ap (λ (xs : List ℕ). length xs) e in
    omega (arith, some, n, length-append p.bytes behind)

pub one_row : (s : State) (place : ℕ) (row other : List Part) (text : List ℕ) → IsRow s place row text → IsRow s place other text
    → row ≡ other
unfolding IsRow
one_row s place [] [] text h k = refl
one_row s place [] (q ∷ qs) text h k = absurd (no_more (is_taken s.conditionals) q k.0 (sym h ∙ k.1) k.2)
one_row s place (p ∷ ps) [] text h k = absurd (no_more (is_taken s.conditionals) p h.0 (sym k ∙ h.1) h.2)
one_row s place (p ∷ ps) (q ∷ qs) text h k =
    let same = same_part (is_taken s.conditionals) p q h.0 k.0 (sym h.1 ∙ k.1) h.2 k.2 in
    let tail = subst (λ (x : Part). IsRow (after_content s place x.content) (place + length x.bytes) ps h.0) same.0 h.3 in
    let there = subst (λ (xs : List ℕ). IsRow (after_content s place q.content) (place + length q.bytes) ps xs) same.1 tail in
    ap (λ (x : Part). x ∷ ps) same.0
    ∙ ap (λ (xs : List Part). q ∷ xs) (one_row (after_content s place q.content) (place + length q.bytes) ps qs k.0 there k.3)

-- the parts are the text
pub covers : (s : State) (place : ℕ) (row : List Part) (text : List ℕ) → IsRow s place row text → spelled row ≡ text
unfolding IsRow
covers s place [] text h = sym h
covers s place (p ∷ ps) text h =
    ap (λ (xs : List ℕ). p.bytes ++ xs) (covers (after_content s place p.content) (place + length p.bytes) ps h.0 h.3) ∙ sym h.1

-- ---- what is read and what is refused

row_is : (text : List ℕ) → told (row text).parts ≡ scan_of text
unfolding scan_of
row_is text = row_tells start 0 (row text).parts text (row text).is

pub reads_is : (text : List ℕ) (tokens : Lexed) → faults_of text ≡ [] → tokens ≡ lexed text → Reads text tokens
unfolding faults_of lexed
reads_is text tokens h e =
    let t = row_is text in
    let told_is : lexed text
    ≡ record {
      tokens = (told (row text).parts).tokens;
      places = (told (row text).parts).places ++ length text ∷ [];
      units = at_modules (told (row text).parts).tokens (told (row text).parts).units;
      unit = (told (row text).parts).last.unit;
      step = unwrap_or (told (row text).parts).last.step nanosecond;
    } =
    ap (λ (s : Scan). record {
      tokens = s.tokens;
      places = s.places ++ length text ∷ [];
      units = at_modules s.tokens s.units;
      unit = s.last.unit;
      step = unwrap_or s.last.step nanosecond;
    }) (sym t) in
    ((row text).parts, (row text).is, ap (λ (s : Scan). s.faults) t ∙ h, e ∙ told_is)

breaks_is : (text : List ℕ) (r : LexRule) (place : ℕ) → earliest (faults_of text) ≡ Some (record { rule = r; place = place })
    → BreaksFirst text r place
unfolding faults_of
breaks_is text r place e = ((row text).parts, (row text).is, ap (λ (s : Scan). earliest s.faults) (row_is text) ∙ e)

fault_at_is : (text : List ℕ) (r : LexRule) (place : ℕ) → earliest (faults_of text) ≡ Some (record { rule = r; place = place })
    → IsFault (fault_at r place) text
fault_at_is text rule.BadByte place e = breaks_is text rule.BadByte place e
fault_at_is text rule.BadNumber place e = breaks_is text rule.BadNumber place e
fault_at_is text rule.UnclosedText place e = breaks_is text rule.UnclosedText place e
fault_at_is text rule.Directive place e = breaks_is text rule.Directive place e

pub fault_is : (text : List ℕ) (b : BrokenRule) → earliest (faults_of text) ≡ Some b → IsFault (fault_of b) text
fault_is text b e = fault_at_is text b.rule b.place e
