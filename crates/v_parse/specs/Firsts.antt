-- A means of proof: with which tokens the parts of a module begin, for the proofs of Verilog's parser.
use Rattle.std.specs.Prelude.{Bool, true, false, List}
use Rattle.v_syntax.specs.declared.token.Token.{Token}
use Rattle.v_syntax.specs.declared.token.Token.TheVariants as token
use Rattle.v_syntax.specs.declared.word.Keyword.{Keyword}
use Rattle.v_syntax.specs.declared.word.Keyword.TheVariants as word
use Rattle.v_expression.specs.Phrase.Readers.{starts_with}

abbrev pub word_begins_ports : Keyword → Bool
word_begins_ports word.Input = true
word_begins_ports word.Output = true
word_begins_ports _ = false

abbrev pub begins_ports : Token → Bool
begins_ports (token.Name n) = true
begins_ports (token.Keyword w) = word_begins_ports w
begins_ports (token.Mark m) = false
begins_ports (token.SystemTask t) = false
begins_ports (token.Reserved w) = false
begins_ports (token.Number ds) = false
begins_ports (token.Text t) = false

-- a name, `input` or `output`
abbrev pub starts_ports : List Token → Bool
starts_ports ts = starts_with begins_ports ts
