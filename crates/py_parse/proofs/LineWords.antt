-- Only a line that heads a block begins with the word of a header.
use Rattle.std.proofs.Common.{◌≡◌, ℕ, zero, suc, Bool, true, false, List, [], ◌∷◌, Some, None, refl, sym, ap, ◌∙◌, inl, inr, pos, negsuc}
use Rattle.py_syntax.specs.ExpressionTrees.{Tree, Constant, FormatString, Name, Bracketed, Attribute, Subscript, Call, MethodCall, Unary, Infix}
use Rattle.py_syntax.specs.ExpressionSpells.{IsConstant, Spells}
use Rattle.py_syntax.specs.ExpressionTables.{prefix_token}
use Rattle.py_syntax.specs.Line.{Line}
use Rattle.py_syntax.specs.ModuleTrees as lines
use Rattle.py_syntax.specs.ModuleForms.{SpellsModuleLine, module_line}
use Rattle.py_syntax.specs.Modules.{is_function}
use Rattle.py_syntax.specs.StatementTrees.{Logger, CocotbLog, HierarchyLog, Statement, Pass, Break, Continue, Return, Raise, Assert, Assign, AugmentedAssign, AssignValue, SetImmediateValue, Await, Act, Log, StartSoon, PutNow, AssignAction, SetImmediateAction, Simple, Heads}
use Rattle.py_syntax.specs.StatementForms.{SpellsLogger, SpellsStatement}
use Rattle.py_syntax.specs.Outline.{Content, Docstring, InModule, InBody, Says, word_of, is_header}
use Rattle.py_syntax.specs.declared.constant.Const.{Const}
use Rattle.py_syntax.specs.declared.constant.Const.TheVariants as constant
use Rattle.py_syntax.specs.declared.expression.UnOp.{UnOp}
use Rattle.py_syntax.specs.declared.expression.UnOp.TheVariants as unary
use Rattle.py_syntax.specs.declared.token.Token.{Token}
use Rattle.py_parse.proofs.Shape.{heads}

-- whether tokens begin with the word of a header
abbrev begins_header : List Token → Bool
begins_header ts = is_header (word_of ts)

constant_word : (c : Const) (t : Token) (rest : List Token) → IsConstant c t → begins_header (t ∷ rest) ≡ false
constant_word constant.Absent t rest p = ap (λ u. begins_header (u ∷ rest)) p
constant_word (constant.Truth false) t rest p = ap (λ u. begins_header (u ∷ rest)) p
constant_word (constant.Truth true) t rest p = ap (λ u. begins_header (u ∷ rest)) p
constant_word (constant.Whole (pos n)) t rest (p, h) = ap (λ u. begins_header (u ∷ rest)) p
constant_word (constant.Whole (negsuc n)) t rest p = absurd p
constant_word (constant.Text bytes) t rest p = ap (λ u. begins_header (u ∷ rest)) p
constant_word (constant.Named n) t rest p = absurd p

prefix_word : (op : UnOp) (rest : List Token) → begins_header (prefix_token op ∷ rest) ≡ false
prefix_word unary.Not rest = refl
prefix_word unary.Negative rest = refl
prefix_word unary.Positive rest = refl
prefix_word unary.Invert rest = refl

expression_word : (e : Tree) (here rest : List Token) → Spells e here rest → begins_header here ≡ false
unfolding Spells
expression_word (Constant c) here rest (t, k, p) = ap begins_header p ∙ constant_word c t rest k
expression_word (FormatString ps) here rest (us, p, q) = ap begins_header p
expression_word (Name n) here rest p = ap begins_header p
expression_word (Bracketed e) here rest (us, vs, p, s, q) = ap begins_header p
expression_word (Attribute e n) here rest (us, s, l, p) = expression_word e here us s
expression_word (Subscript e i) here rest (us, vs, ws, s, l, p, t, q) = expression_word e here us s
expression_word (Call f es) here rest (us, p, s) = ap begins_header p
expression_word (MethodCall e m) here rest (us, s, l, p) = expression_word e here us s
expression_word (Unary op e) here rest (us, p, s, l) = ap begins_header p ∙ prefix_word op us
expression_word (Infix op l r) here rest (us, vs, s, h, p, t, k) = expression_word l here us s

logger_word : (g : Logger) (here rest : List Token) → SpellsLogger g here rest → begins_header here ≡ false
logger_word CocotbLog here rest p = ap begins_header p
logger_word (HierarchyLog e) here rest (s, l) = expression_word e here _ s

statement_word : (s : Statement) (here : List Token) → SpellsStatement s here → begins_header here ≡ false
statement_word Pass here p = ap begins_header p
statement_word Break here p = ap begins_header p
statement_word Continue here p = ap begins_header p
statement_word (Return None) here p = ap begins_header p
statement_word (Return (Some s)) here (us, p, q) = ap begins_header p
statement_word (Raise k e) here (us, p, q) = ap begins_header p
statement_word (Assert c e) here (us, vs, p, s, q) = ap begins_header p
statement_word (Assign n s) here (us, p, q) = ap begins_header p
statement_word (AugmentedAssign n op e) here (m, us, p, q, r) = ap begins_header p
statement_word (AssignValue e s) here (us, p, q) = expression_word e here _ p.0
statement_word (SetImmediateValue e v) here (us, p, q) = expression_word e here _ p.0
statement_word (Await a) here (us, p, q) = ap begins_header p
statement_word (Act e a) here p = expression_word e here _ p.0
statement_word (Log g l e es) here (us, p, q, r) = logger_word g here _ p
statement_word (StartSoon f) here (us, vs, p, q, r) = ap begins_header p
statement_word (PutNow e x) here (us, p, q) = expression_word e here _ p.0
statement_word (AssignAction e w) here (us, p, q) = expression_word e here _ p.0
statement_word (SetImmediateAction e w) here (us, vs, p, q, r) = expression_word e here _ p.0

no_head : {X : Type 0} → false ≡ true → X
no_head e = absurd (let f : false ≡ true = e in cc)

module_word : (m : lines.ModuleLine) (here rest : List Token) → module_line m here rest → begins_header here ≡ true → is_function m ≡ true
module_word m here rest (inl s) h = no_head (sym (ap begins_header s.3) ∙ h)
module_word m here rest (inr (inl s)) h = no_head (sym (ap begins_header s.3.3.3) ∙ h)
module_word m here rest (inr (inr (inl s))) h = no_head (sym (ap begins_header s.3.3) ∙ h)
module_word m here rest (inr (inr (inr (inl s)))) h = no_head (sym (ap begins_header s.3.3.3.3.3) ∙ h)
module_word m here rest (inr (inr (inr (inr (inl s))))) h = no_head (sym (ap begins_header s.3.3.3.3) ∙ h)
module_word m here rest (inr (inr (inr (inr (inr (inl s)))))) h = no_head (sym (ap begins_header s.3.3.3.3) ∙ h)
module_word m here rest (inr (inr (inr (inr (inr (inr (inl s))))))) h = no_head (sym (ap begins_header s.3.3.3.3) ∙ h)
module_word m here rest (inr (inr (inr (inr (inr (inr (inr s))))))) h = ap is_function s.5

pub says_heads : (d : ℕ) (c : Content) (l : Line) → Says d c l → is_header (word_of l.tokens) ≡ true → heads c ≡ true
unfolding Says SpellsModuleLine
says_heads d Docstring l (s, e) h = no_head (sym (ap begins_header e) ∙ h)
says_heads d (InBody (Heads k)) l s h = refl
says_heads (suc d) (InBody (Simple x)) l (o, s) h = no_head (sym (statement_word x l.tokens s) ∙ h)
says_heads zero (InBody (Simple x)) l s h = absurd s
says_heads (suc d) (InModule m) l s h = absurd s
says_heads zero (InModule m) l (o, s) h = module_word m l.tokens [] s h
