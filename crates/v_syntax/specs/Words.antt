-- Names, reserved words and the names of system tasks (IEEE 1364-2005, clause 3.7 and annex B).
use Rattle.std.specs.Prelude.{ℕ, List, [], ◌∷◌, Option}
use Rattle.std.specs.List.{find}
use Rattle.std.specs.Str.{bytes_eq}
use lib.Chars.{codes}
use Rattle.v_syntax.specs.declared.word.Keyword.{Keyword}
use Rattle.v_syntax.specs.declared.word.Keyword.TheVariants.{Always, Assign, Begin, Case, CaseX, CaseZ, Default, Else, End, EndCase, EndModule, For, If, Initial, Input, Integer, LocalParam, Module, NegEdge, Or, Output, Parameter, PosEdge, Reg, Wire}
use Rattle.v_syntax.specs.declared.word.ReservedWord.{ReservedWord}
use Rattle.v_syntax.specs.declared.word.ReservedWord.TheVariants.{And, Automatic, Buf, Deassign, DefParam, Disable, Edge, EndFunction, EndGenerate, EndTask, Event, Force, Forever, Fork, Function, Generate, GenVar, InOut, Join, Nand, Nor, Not, Real, RealTime, Release, Repeat, Signed, Supply0, Supply1, Task, Time, Tri, Wait, While, Xnor, Xor}
use Rattle.v_syntax.specs.declared.word.SystemTask.{SystemTask}
use Rattle.v_syntax.specs.declared.word.SystemTask.TheVariants.{DumpFile, DumpVars}

abbrev pub keyword_spelling : Keyword → List ℕ
keyword_spelling Always = codes "always"
keyword_spelling Assign = codes "assign"
keyword_spelling Begin = codes "begin"
keyword_spelling Case = codes "case"
keyword_spelling CaseX = codes "casex"
keyword_spelling CaseZ = codes "casez"
keyword_spelling Default = codes "default"
keyword_spelling Else = codes "else"
keyword_spelling End = codes "end"
keyword_spelling EndCase = codes "endcase"
keyword_spelling EndModule = codes "endmodule"
keyword_spelling For = codes "for"
keyword_spelling If = codes "if"
keyword_spelling Initial = codes "initial"
keyword_spelling Input = codes "input"
keyword_spelling Integer = codes "integer"
keyword_spelling LocalParam = codes "localparam"
keyword_spelling Module = codes "module"
keyword_spelling NegEdge = codes "negedge"
keyword_spelling Or = codes "or"
keyword_spelling Output = codes "output"
keyword_spelling Parameter = codes "parameter"
keyword_spelling PosEdge = codes "posedge"
keyword_spelling Reg = codes "reg"
keyword_spelling Wire = codes "wire"

abbrev pub task_spelling : SystemTask → List ℕ
task_spelling DumpFile = codes "$dumpfile"
task_spelling DumpVars = codes "$dumpvars"

abbrev pub keywords : List Keyword
keywords = Always ∷ Assign ∷ Begin ∷ Case ∷ CaseX ∷ CaseZ ∷ Default ∷ Else ∷ End ∷ EndCase ∷ EndModule ∷ For ∷ If ∷ Initial ∷ Input ∷ Integer ∷ LocalParam ∷ Module ∷ NegEdge ∷ Or ∷ Output ∷ Parameter ∷ PosEdge ∷ Reg ∷ Wire ∷ []

abbrev pub reserved_spelling : ReservedWord → List ℕ
reserved_spelling And = codes "and"
reserved_spelling Automatic = codes "automatic"
reserved_spelling Buf = codes "buf"
reserved_spelling Deassign = codes "deassign"
reserved_spelling DefParam = codes "defparam"
reserved_spelling Disable = codes "disable"
reserved_spelling Edge = codes "edge"
reserved_spelling EndFunction = codes "endfunction"
reserved_spelling EndGenerate = codes "endgenerate"
reserved_spelling EndTask = codes "endtask"
reserved_spelling Event = codes "event"
reserved_spelling Force = codes "force"
reserved_spelling Forever = codes "forever"
reserved_spelling Fork = codes "fork"
reserved_spelling Function = codes "function"
reserved_spelling Generate = codes "generate"
reserved_spelling GenVar = codes "genvar"
reserved_spelling InOut = codes "inout"
reserved_spelling Join = codes "join"
reserved_spelling Nand = codes "nand"
reserved_spelling Nor = codes "nor"
reserved_spelling Not = codes "not"
reserved_spelling Real = codes "real"
reserved_spelling RealTime = codes "realtime"
reserved_spelling Release = codes "release"
reserved_spelling Repeat = codes "repeat"
reserved_spelling Signed = codes "signed"
reserved_spelling Supply0 = codes "supply0"
reserved_spelling Supply1 = codes "supply1"
reserved_spelling Task = codes "task"
reserved_spelling Time = codes "time"
reserved_spelling Tri = codes "tri"
reserved_spelling Wait = codes "wait"
reserved_spelling While = codes "while"
reserved_spelling Xnor = codes "xnor"
reserved_spelling Xor = codes "xor"

-- the reserved words that the grammar has no place for
abbrev pub reserved_words : List ReservedWord
reserved_words = And ∷ Automatic ∷ Buf ∷ Deassign ∷ DefParam ∷ Disable ∷ Edge ∷ EndFunction ∷ EndGenerate ∷ EndTask ∷ Event ∷ Force ∷ Forever ∷ Fork ∷ Function ∷ Generate ∷ GenVar ∷ InOut ∷ Join ∷ Nand ∷ Nor ∷ Not ∷ Real ∷ RealTime ∷ Release ∷ Repeat ∷ Signed ∷ Supply0 ∷ Supply1 ∷ Task ∷ Time ∷ Tri ∷ Wait ∷ While ∷ Xnor ∷ Xor ∷ []

abbrev pub system_tasks : List SystemTask
system_tasks = DumpFile ∷ DumpVars ∷ []

-- the keyword that the word spells
unfoldable pub keyword_of : List ℕ → Option Keyword
keyword_of word = find (λ k. bytes_eq word (keyword_spelling k)) keywords

-- the reserved word without a place in the grammar that the word spells
unfoldable pub reserved_of : List ℕ → Option ReservedWord
reserved_of word = find (λ r. bytes_eq word (reserved_spelling r)) reserved_words

-- the system task that has the name
unfoldable pub task_of : List ℕ → Option SystemTask
task_of name = find (λ t. bytes_eq name (task_spelling t)) system_tasks
