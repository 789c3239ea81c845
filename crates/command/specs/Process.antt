-- What the words of a process are, and what it ends with that runs the command with them.
use Rattle.std.specs.Prelude.{◌≡◌, ◌⊎◌, ◌++◌, ℕ, List, Option, None, Result, Ok, Err, String, Vec, map, option_to_list, string_bytes}
use Rattle.std.specs.Process.{exit_status}
use Rattle.std.specs.declared.process.ExitCode.{ExitCode}
use Rattle.port_io.specs.Means.{StoreMeans, SinkMeans}
use Rattle.gpi.specs.Content.{Content}
use Rattle.command.specs.declared.command_words.reading.WordsFault.{WordsFault}
use Rattle.command.specs.declared.command_words.reading.WordsFault.TheVariants.{Usage, OutOfMemory}
use Rattle.command.specs.Regression.Status.{code_of}
use Rattle.command.specs.declared.regression.status.Status.{Status}
use Rattle.command.specs.Answer.{Answered, LeavesKernel, Quit, RefusesWords}

-- ---- words

-- What an iterator gives until there is no more: the name of the program, which is missing only where there is nothing at all, and then these words.
pub record GivesWords {I X : Type 0} (items : I → List X) (len : I → ℕ) (given : I) (words : List X) : Type 0 where
  pub program : Option X
  pub only_empty : program ≡ None → len given ≡ 0
  pub left : I
  pub all : items given ≡ option_to_list program ++ (words ++ items left)
  pub none_left : len left ≡ 0

-- Words of which one is no text have no reading; else there was no memory for them.
abbrev pub IsFault : Type 0 → WordsFault → Type 0
IsFault no_text Usage = no_text
IsFault no_text OutOfMemory = no_text → ⊥

-- These are the words that are given, or there was no memory for them.
abbrev pub HasWords : {X A : Type 0} → (List X → Type 0) → Result (Vec X A) WordsFault → Type 0
HasWords gives (Ok words) = gives words.items
HasWords gives (Err fault) = fault ≡ OutOfMemory

-- The same of what the system's library answers, which may be a fault that says that a word is no text.
abbrev pub WordsOf : {I E X A : Type 0} → (I → List X → Type 0) → (E → Type 0) → Result I E → Result (Vec X A) WordsFault → Type 0
WordsOf gives no_text (Ok given) words = HasWords (gives given) words
WordsOf gives no_text (Err fault) (Ok words) = ⊥
WordsOf gives no_text (Err fault) (Err why) = IsFault (no_text fault) why

-- ---- answers

-- The answer to what the system's library gave as words: that of these words; the usage line where one of them is no text, and nothing is read; and
-- where there was no memory for them, or for an answer, nothing is put.
abbrev pub AnswersGiven : {I E A S O : Type 0} → (I → List (String A) → Type 0) → (E → Type 0) → StoreMeans S → SinkMeans O
    → Result I E → Status → S → S → Content → O → O → Type 0
AnswersGiven {A = A} gives no_text from sink (Ok given) s store store' content out out' =
    ((words : List (String A)) × gives given words × Answered from sink (map string_bytes words) s store store' content out out') ⊎ Quit s out out'
AnswersGiven gives no_text from sink (Err fault) s store store' content out out' =
    (store' ≡ store) × ((no_text fault × RefusesWords sink s out out') ⊎ ((no_text fault → ⊥) × Quit s out out'))

-- ---- the process

-- The process ends with the number of the status of the answer to what the system's library gave as its words, over a store and a sink of these kinds,
-- and its simulator is as the command leaves it with that status.
pub record EndsProcess {I E A S O K : Type 0} (gives : I → List (String A) → Type 0) (no_text : E → Type 0) (from : StoreMeans S) (sink : SinkMeans O)
    (is_loaded : K → Type 0) (content : K → Content) (code : ExitCode) (before after : K) : Type 0 where
  pub given : Result I E
  pub store : S
  pub store' : S
  pub out : O
  pub out' : O
  pub own : Status
  pub answer : AnswersGiven gives no_text from sink given own store store' (content after) out out'
  pub status : exit_status code ≡ code_of own
  pub kernel : LeavesKernel is_loaded own before after
