-- The run at the front, in what a loop has left.
use Rattle.std.proofs.Common.{◌≡◌, ℕ, ◌+◌, ◌<◌, true, false, List, length, get_or, drop, arith}
use Rattle.std.specs.List.{prefix_len}
use Rattle.std.proofs.lemmas.List.Sums.{prefix_len-drop_yes, prefix_len-drop_no, prefix_len-drop_all}
use Rattle.v_lex.specs.declared.bytes.ByteClass.{ByteClass}
use Rattle.v_lex.specs.Bytes.{is_in, run}

pub run_stops : (k : ByteClass) (text : List ℕ) (i : ℕ) → i < length text → is_in k (get_or text i 0) ≡ false
    → i + prefix_len (is_in k) (drop i text) ≡ prefix_len (is_in k) text → i ≡ run k text
unfolding run
run_stops k text i h t e = let z = prefix_len-drop_no (is_in k) text i 0 h t in omega arith

pub run_goes_on : (k : ByteClass) (text : List ℕ) (i : ℕ) → i < length text → is_in k (get_or text i 0) ≡ true
    → i + prefix_len (is_in k) (drop i text) ≡ prefix_len (is_in k) text → i + 1 + prefix_len (is_in k) (drop (i + 1) text)
    ≡ prefix_len (is_in k) text
run_goes_on k text i h t e = let z = prefix_len-drop_yes (is_in k) text i 0 h t in omega arith

pub run_all : (k : ByteClass) (text : List ℕ) (i : ℕ) → i ≡ length text → i + prefix_len (is_in k) (drop i text)
    ≡ prefix_len (is_in k) text → length text ≡ run k text
unfolding run
run_all k text i h e = let z = prefix_len-drop_all (is_in k) text i (omega arith) in omega arith
