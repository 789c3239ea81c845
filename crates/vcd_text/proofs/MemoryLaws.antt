-- The words of memories, memory by memory.
use Rattle.std.specs.Prelude.{◌≡◌, ℕ, zero, suc, ◌+◌, ◌||◌, not, cond, Bool, List, [], ◌∷◌, ◌++◌, refl}
use Rattle.std.specs.List.{filter, list_any, range_with_len}
use Rattle.std.proofs.Common.{ap, sym, ◌∙◌, append-nil, add-one, arith}
use Rattle.std.proofs.lemmas.List.Folds.{list_any-append}
use Rattle.std.proofs.lemmas.List.Elements.{filter-append}
use Rattle.gpi.specs.declared.design.Spot.{Spot}
use Rattle.gpi.specs.declared.design.Spot.TheVariants.{Inner, Sig, Words}
use Rattle.gpi.specs.declared.design.Node.{Node}
use Rattle.vcd_text.specs.Hierarchy.{Children, is_word, is_word_of}
use Rattle.vcd_text.specs.Memories.{has_word, is_outside, memories_in, memories_of}
use Rattle.vcd_text.specs.declared.memories.Memory.{Memory}

-- the words of an instance are those of its memories
words_in : (signal : ℕ) (children : Children) → list_any (has_word signal) (memories_in children) ≡ list_any (is_word_of signal) children
words_in signal [] = refl
words_in signal ((name, Words first low count) ∷ children) = ap (λ (b : Bool). is_word_of signal (name, Words first low count) || b) (words_in signal children)
words_in signal ((name, Sig other) ∷ children) = words_in signal children
words_in signal ((name, Inner node) ∷ children) = words_in signal children

-- and so those of a design
words_of : (signal : ℕ) (nodes : List Node) → list_any (has_word signal) (memories_of nodes) ≡ is_word nodes signal
words_of signal [] = refl
words_of signal (node ∷ nodes) =
    list_any-append (has_word signal) (memories_in node.children) (memories_of nodes)
    ∙ (ap (λ (b : Bool). b || list_any (has_word signal) (memories_of nodes)) (words_in signal node.children)
    ∙ ap (λ (b : Bool). list_any (is_word_of signal) node.children || b) (words_of signal nodes))

-- the memories of one name, and those of the others
pub memories_split : (child : List ℕ × Spot) (children : Children) → memories_in (child ∷ children) ≡ memories_in (child ∷ []) ++ memories_in children
memories_split (name, Words first low count) children = refl
memories_split (name, Sig signal) children = refl
memories_split (name, Inner node) children = refl

-- those of one instance, and those of the others
pub instances_split : (node : Node) (nodes : List Node) → memories_of (node ∷ nodes) ≡ memories_of (node ∷ []) ++ memories_of nodes
instances_split node nodes = ap (λ (l : List Memory). l ++ memories_of nodes) (sym (append-nil (memories_in node.children)))

pub instance_made : (node : Node) (before after : List Memory) → after ≡ before ++ memories_in node.children → after ≡ before ++ memories_of (node ∷ [])
instance_made node before after made = made ∙ ap (λ (l : List Memory). before ++ l) (sym (append-nil (memories_in node.children)))

-- one more of the numbers, in order
range_more : (a n : ℕ) → range_with_len a (suc n) ≡ range_with_len a n ++ (a + n) ∷ []
range_more a zero = ap (λ (k : ℕ). k ∷ []) (omega arith)
range_more a (suc n) = ap (λ (l : List ℕ). a ∷ l) (range_more (a + 1) n ∙ ap (λ (k : ℕ). range_with_len (a + 1) n ++ k ∷ []) (omega arith))

no_start : (n : ℕ) → 0 + n ≡ n
no_start n = omega arith

range_next : (n : ℕ) → range_with_len 0 (n + 1) ≡ range_with_len 0 n ++ n ∷ []
range_next n = ap (range_with_len 0) (add-one n) ∙ (range_more 0 n ∙ ap (λ (k : ℕ). range_with_len 0 n ++ k ∷ []) (no_start n))

pub filter_more : (test : ℕ → Bool) (before after : List ℕ) (n : ℕ) → after ≡ before ++ filter test (n ∷ []) → before ≡ filter test (range_with_len 0 n)
    → after ≡ filter test (range_with_len 0 (n + 1))
filter_more test before after n made so_far =
    made ∙ (ap (λ (l : List ℕ). l ++ filter test (n ∷ [])) so_far
    ∙ (sym (filter-append test (range_with_len 0 n) (n ∷ [])) ∙ ap (filter test) (sym (range_next n))))

filter_same : (p q : ℕ → Bool) → ((n : ℕ) → p n ≡ q n) → (l : List ℕ) → filter p l ≡ filter q l
filter_same p q same [] = refl
filter_same p q same (n ∷ l) =
    ap (λ (b : Bool). cond b (n ∷ filter p l) (filter p l)) (same n) ∙ ap (λ (m : List ℕ). cond (q n) (n ∷ m) m) (filter_same p q same l)

-- those that are in no memory are no words
pub outside_all : (nodes : List Node) (memories : List Memory) → memories ≡ memories_of nodes → (l : List ℕ)
    → filter (is_outside memories) l ≡ filter (λ signal. not (is_word nodes signal)) l
outside_all nodes memories is l =
    filter_same (is_outside memories) (λ signal. not (is_word nodes signal))
    (λ n. ap (λ (m : List Memory). not (list_any (has_word n) m)) is ∙ ap not (words_of n nodes)) l
