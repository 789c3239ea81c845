-- A means of proof: one keyword, or another, for the proofs of Verilog's parser.
use Rattle.std.specs.Prelude.{ℕ, Bool, nat_eq}
use Rattle.v_syntax.specs.declared.word.Keyword.{Keyword}
use Rattle.v_syntax.specs.declared.word.Keyword.TheVariants.{Always, Assign, Begin, Case, CaseX, CaseZ, Default, Else, End, EndCase, EndModule, For, If, Initial, Input, Integer, LocalParam, Module, NegEdge, Or, Output, Parameter, PosEdge, Reg, Wire}

-- the place of a keyword among all
abbrev pub word_number : Keyword → ℕ
word_number Always = 0
word_number Assign = 1
word_number Begin = 2
word_number Case = 3
word_number CaseX = 4
word_number CaseZ = 5
word_number Default = 6
word_number Else = 7
word_number End = 8
word_number EndCase = 9
word_number EndModule = 10
word_number For = 11
word_number If = 12
word_number Initial = 13
word_number Input = 14
word_number Integer = 15
word_number LocalParam = 16
word_number Module = 17
word_number NegEdge = 18
word_number Or = 19
word_number Output = 20
word_number Parameter = 21
word_number PosEdge = 22
word_number Reg = 23
word_number Wire = 24

abbrev pub same_word : Keyword → Keyword → Bool
same_word a b = nat_eq (word_number a) (word_number b)
