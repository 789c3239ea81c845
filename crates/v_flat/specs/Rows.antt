-- A means of proof: designs that are worked out from the definitions, by which these are tried. What is expected of the first 78 was
-- computed by a model of its own, written in Python, and what is expected of the others, from `contexts_of_comparisons` on, by hand; no
-- value comes from the definitions.
use Rattle.std.specs.Prelude.{◌≡◌, ℕ, zero, suc, ◌+◌, ◌*◌, List, [], ◌∷◌, length, None, Some, Result, Ok, Err, codes, decimal}
use Rattle.four_value.specs.declared.Digit.TheVariants.{X, Z}
use Rattle.gpi.specs.declared.design.Spot.TheVariants as spot
use Rattle.gpi.specs.declared.design.Kind.TheVariants as process_kind
use Rattle.gpi.specs.declared.design.WakeEdge.TheVariants as wake_edge
use Rattle.v_syntax.specs.declared.expression.UnaryOperator.TheVariants as unary
use Rattle.v_syntax.specs.declared.expression.BinaryOperator.TheVariants as binary
use Rattle.v_syntax.specs.declared.statement.AssignmentKind.TheVariants as assignment
use Rattle.v_syntax.specs.declared.statement.CaseKind.TheVariants as case_kind
use Rattle.v_syntax.specs.declared.item.Direction.TheVariants as direction
use Rattle.v_syntax.specs.declared.item.PortKind.TheVariants as port_kind
use Rattle.v_syntax.specs.declared.item.ParameterKind.TheVariants as parameter_kind
use Rattle.v_syntax.specs.declared.item.Edge.TheVariants as edge
use Rattle.v_syntax.specs.ExpressionTrees.{Number, Named, Bracketed, Unary, Binary, Conditional, Concatenation, Replication, One as OneSelect, OfWord, Bit, Part, IndexedPart, NamedTarget, JoinedTarget}
use Rattle.v_syntax.specs.StatementTrees.{Variable as Assigned, Header, Null, Block, Assignment, If, IfElse, Case, For, Match, Default, statement_trees, case_trees}
use Rattle.v_syntax.specs.SourceTrees.{Bounds as BoundsTree, Head, Net as NetOf, Words, Initially, Register as RegisterOf, Parameter as ParameterOf, Driver, Implicit, Events, Connection, Ordered, Named as NamedConnections, Ports, Nets, Registers, Integers, Parameters, Drivers, Always, Initial, Instance, ItemAt, HeaderPortOf, HeaderParameterOf, NamedPorts, DeclaredPorts, ModuleTree, ModuleOf}
use Rattle.gpi.specs.Activation.{after}
use Rattle.v_flat.specs.Shown.{plain, delayed, num, nm, tg, id, trees, targets, bits, shown, sg, wk, up}
use Rattle.v_flat.specs.Design.{Design, flat_design, sig}
use Rattle.v_flat.specs.Scope.Rules.{at}
use Rattle.v_flat.specs.declared.scope.rule.Broken.{Broken}
use Rattle.v_flat.specs.declared.scope.rule.ElabRule.TheVariants as rule

-- module top(input clk); reg [3:0] m [1:2]; sub u(.c(clk)); endmodule module sub(input c); reg r; always @(posedge c) r <= ~r; endmodule
abbrev text_of_a_memory_and_an_instance : List ModuleTree
text_of_a_memory_and_an_instance = ((ModuleOf (id 1 (codes "top")) ([]) (DeclaredPorts ((HeaderPortOf (Some (Head direction.Input None None)) (id 4 (codes "clk"))) ∷ [])) ((ItemAt 7 (Registers (Some (BoundsTree 8 (num 9 32 3) (num 11 32 0))) ((RegisterOf (id 13 (codes "m")) (Some (Words (BoundsTree 14 (num 15 32 1) (num 17 32 2))))) ∷ []))) ∷ (ItemAt 20 (Instance (id 20 (codes "sub")) None (id 21 (codes "u")) (Some (NamedConnections ((Connection 23 (id 24 (codes "c")) (Some (nm 26 (codes "clk")))) ∷ []))))) ∷ [])) ∷ (ModuleOf (id 32 (codes "sub")) ([]) (DeclaredPorts ((HeaderPortOf (Some (Head direction.Input None None)) (id 35 (codes "c"))) ∷ [])) ((ItemAt 38 (Registers None ((RegisterOf (id 39 (codes "r")) None) ∷ []))) ∷ (ItemAt 41 (Always (Events (record { edge = Some edge.Positive; name = id 45 (codes "c") } ∷ [])) (Assignment assignment.Nonblocking (tg 47 (codes "r")) (Unary 49 unary.BitwiseNegation (nm 50 (codes "r")))))) ∷ [])) ∷ [])

abbrev pub Is_a_memory_and_an_instance : Type 0
Is_a_memory_and_an_instance = shown ((bits (codes "0")) ∷ (bits (codes "1100")) ∷ (bits (codes "x00z")) ∷ (bits (codes "0")) ∷ (bits (codes "1")) ∷ []) (flat_design (plain text_of_a_memory_and_an_instance) None) ≡ Ok (record { signals = (sg (codes "top.clk") 1 Z ∷ sg (codes "top.m[1]") 4 X ∷ sg (codes "top.m[2]") 4 X ∷ sg (codes "top.u.c") 1 Z ∷ sg (codes "top.u.r") 1 X ∷ []); nodes = (record { path = codes "top"; children = ((codes "clk", spot.Sig (sig 0)) ∷ (codes "m", spot.Words (sig 1) 1 2) ∷ (codes "u", spot.Inner 1) ∷ []) } ∷ record { path = codes "top.u"; children = ((codes "c", spot.Sig (sig 3)) ∷ (codes "r", spot.Sig (sig 4)) ∷ []) } ∷ []); processes = (record { kind = process_kind.Assign; wakes = (wk 0 wake_edge.Any ∷ []); changes = ([]); updates = ([]) } ∷ record { kind = process_kind.Always; wakes = (wk 3 wake_edge.Pos ∷ []); changes = ([]); updates = (up 4 0 (bits (codes "0")) ∷ []) } ∷ []) })

-- module top(input [3:0] a, output [3:0] s, output e, output c); assign s = a + 4'd9; assign e = (a == 4'b1x00); assign c = &a | ^a; endmodule
abbrev text_of_widths_of_operators : List ModuleTree
text_of_widths_of_operators = ((ModuleOf (id 1 (codes "top")) ([]) (DeclaredPorts ((HeaderPortOf (Some (Head direction.Input None (Some (BoundsTree 4 (num 5 32 3) (num 7 32 0))))) (id 9 (codes "a"))) ∷ (HeaderPortOf (Some (Head direction.Output None (Some (BoundsTree 12 (num 13 32 3) (num 15 32 0))))) (id 17 (codes "s"))) ∷ (HeaderPortOf (Some (Head direction.Output None None)) (id 20 (codes "e"))) ∷ (HeaderPortOf (Some (Head direction.Output None None)) (id 23 (codes "c"))) ∷ [])) ((ItemAt 26 (Drivers ((Driver (tg 27 (codes "s")) (Binary binary.Add (nm 29 (codes "a")) (num 31 4 9))) ∷ []))) ∷ (ItemAt 33 (Drivers ((Driver (tg 34 (codes "e")) (Bracketed 36 (Binary binary.Equal (nm 37 (codes "a")) (Number 39 (bits (codes "00x1")))))) ∷ []))) ∷ (ItemAt 42 (Drivers ((Driver (tg 43 (codes "c")) (Binary binary.BitwiseOr (Unary 45 unary.ReductionAnd (nm 46 (codes "a"))) (Unary 48 unary.ReductionXor (nm 49 (codes "a"))))) ∷ []))) ∷ [])) ∷ [])

abbrev pub Is_widths_of_operators : Type 0
Is_widths_of_operators = shown ((bits (codes "0010")) ∷ (bits (codes "0x10")) ∷ (bits (codes "0")) ∷ (bits (codes "1")) ∷ []) (flat_design (plain text_of_widths_of_operators) None) ≡ Ok (record { signals = (sg (codes "top.a") 4 Z ∷ sg (codes "top.s") 4 Z ∷ sg (codes "top.e") 1 Z ∷ sg (codes "top.c") 1 Z ∷ []); nodes = (record { path = codes "top"; children = ((codes "a", spot.Sig (sig 0)) ∷ (codes "s", spot.Sig (sig 1)) ∷ (codes "e", spot.Sig (sig 2)) ∷ (codes "c", spot.Sig (sig 3)) ∷ []) } ∷ []); processes = (record { kind = process_kind.Assign; wakes = (wk 0 wake_edge.Any ∷ []); changes = ((1, (bits (codes "1011"))) ∷ []); updates = ([]) } ∷ record { kind = process_kind.Assign; wakes = (wk 0 wake_edge.Any ∷ []); changes = ([]); updates = ([]) } ∷ record { kind = process_kind.Assign; wakes = (wk 0 wake_edge.Any ∷ []); changes = ([]); updates = ([]) } ∷ []) })

-- module m; reg [0:7] a; wire [2:0] y = a[2 +: 3]; wire z = a[0]; wire [1:0] w = a[3:4]; initial a = 8'b10110010; endmodule
abbrev text_of_a_rising_range : List ModuleTree
text_of_a_rising_range = ((ModuleOf (id 1 (codes "m")) ([]) (NamedPorts ([])) ((ItemAt 3 (Registers (Some (BoundsTree 4 (num 5 32 0) (num 7 32 7))) ((RegisterOf (id 9 (codes "a")) None) ∷ []))) ∷ (ItemAt 11 (Nets (Some (BoundsTree 12 (num 13 32 2) (num 15 32 0))) ((NetOf (id 17 (codes "y")) (Some (Named 19 (codes "a") (OneSelect (IndexedPart 20 (num 21 32 2) (num 23 32 3)))))) ∷ []))) ∷ (ItemAt 26 (Nets None ((NetOf (id 27 (codes "z")) (Some (Named 29 (codes "a") (OneSelect (Bit 30 (num 31 32 0)))))) ∷ []))) ∷ (ItemAt 34 (Nets (Some (BoundsTree 35 (num 36 32 1) (num 38 32 0))) ((NetOf (id 40 (codes "w")) (Some (Named 42 (codes "a") (OneSelect (Part 43 (num 44 32 3) (num 46 32 4)))))) ∷ []))) ∷ (ItemAt 49 (Initial (Assignment assignment.Blocking (tg 50 (codes "a")) (num 52 8 178)))) ∷ [])) ∷ [])

abbrev pub Is_a_rising_range : Type 0
Is_a_rising_range = shown ((bits (codes "x0z0zzz1")) ∷ (bits (codes "11z")) ∷ (bits (codes "z")) ∷ (bits (codes "00")) ∷ []) (flat_design (plain text_of_a_rising_range) None) ≡ Ok (record { signals = (sg (codes "m.a") 8 X ∷ sg (codes "m.y") 3 Z ∷ sg (codes "m.z") 1 Z ∷ sg (codes "m.w") 2 Z ∷ []); nodes = (record { path = codes "m"; children = ((codes "a", spot.Sig (sig 0)) ∷ (codes "y", spot.Sig (sig 1)) ∷ (codes "z", spot.Sig (sig 2)) ∷ (codes "w", spot.Sig (sig 3)) ∷ []) } ∷ []); processes = (record { kind = process_kind.Assign; wakes = (wk 0 wake_edge.Any ∷ []); changes = ((1, (bits (codes "0zz"))) ∷ []); updates = ([]) } ∷ record { kind = process_kind.Assign; wakes = (wk 0 wake_edge.Any ∷ []); changes = ((2, (bits (codes "1"))) ∷ []); updates = ([]) } ∷ record { kind = process_kind.Assign; wakes = (wk 0 wake_edge.Any ∷ []); changes = ((3, (bits (codes "0z"))) ∷ []); updates = ([]) } ∷ record { kind = process_kind.Initial; wakes = ([]); changes = ((0, (bits (codes "01001101"))) ∷ []); updates = ([]) } ∷ []) })

-- module m; reg [3:0] a [2:5]; wire [3:0] p = a[2], q = a[6], r = a[3]; wire s = a[3][1]; initial begin a[2] = 1; a[6] = 2; a[3][2:1] = 3; end endmodule
abbrev text_of_words_of_a_memory : List ModuleTree
text_of_words_of_a_memory = ((ModuleOf (id 1 (codes "m")) ([]) (NamedPorts ([])) ((ItemAt 3 (Registers (Some (BoundsTree 4 (num 5 32 3) (num 7 32 0))) ((RegisterOf (id 9 (codes "a")) (Some (Words (BoundsTree 10 (num 11 32 2) (num 13 32 5))))) ∷ []))) ∷ (ItemAt 16 (Nets (Some (BoundsTree 17 (num 18 32 3) (num 20 32 0))) ((NetOf (id 22 (codes "p")) (Some (Named 24 (codes "a") (OneSelect (Bit 25 (num 26 32 2)))))) ∷ (NetOf (id 29 (codes "q")) (Some (Named 31 (codes "a") (OneSelect (Bit 32 (num 33 32 6)))))) ∷ (NetOf (id 36 (codes "r")) (Some (Named 38 (codes "a") (OneSelect (Bit 39 (num 40 32 3)))))) ∷ []))) ∷ (ItemAt 43 (Nets None ((NetOf (id 44 (codes "s")) (Some (Named 46 (codes "a") (OfWord 47 (num 48 32 3) (Bit 50 (num 51 32 1)))))) ∷ []))) ∷ (ItemAt 54 (Initial (Block None (statement_trees ((Assignment assignment.Blocking (NamedTarget 56 (codes "a") (OneSelect (Bit 57 (num 58 32 2)))) (num 61 32 1)) ∷ (Assignment assignment.Blocking (NamedTarget 63 (codes "a") (OneSelect (Bit 64 (num 65 32 6)))) (num 68 32 2)) ∷ (Assignment assignment.Blocking (NamedTarget 70 (codes "a") (OfWord 71 (num 72 32 3) (Part 74 (num 75 32 2) (num 77 32 1)))) (num 80 32 3)) ∷ []))))) ∷ [])) ∷ [])

abbrev pub Is_words_of_a_memory : Type 0
Is_words_of_a_memory = shown ((bits (codes "xx01")) ∷ (bits (codes "0010")) ∷ (bits (codes "1111")) ∷ (bits (codes "z0z1")) ∷ (bits (codes "1001")) ∷ (bits (codes "1101")) ∷ (bits (codes "0100")) ∷ (bits (codes "1")) ∷ []) (flat_design (plain text_of_words_of_a_memory) None) ≡ Ok (record { signals = (sg (codes "m.a[2]") 4 X ∷ sg (codes "m.a[3]") 4 X ∷ sg (codes "m.a[4]") 4 X ∷ sg (codes "m.a[5]") 4 X ∷ sg (codes "m.p") 4 Z ∷ sg (codes "m.q") 4 Z ∷ sg (codes "m.r") 4 Z ∷ sg (codes "m.s") 1 Z ∷ []); nodes = (record { path = codes "m"; children = ((codes "a", spot.Words (sig 0) 2 4) ∷ (codes "p", spot.Sig (sig 4)) ∷ (codes "q", spot.Sig (sig 5)) ∷ (codes "r", spot.Sig (sig 6)) ∷ (codes "s", spot.Sig (sig 7)) ∷ []) } ∷ []); processes = (record { kind = process_kind.Assign; wakes = (wk 0 wake_edge.Any ∷ wk 1 wake_edge.Any ∷ wk 2 wake_edge.Any ∷ wk 3 wake_edge.Any ∷ []); changes = ((4, (bits (codes "xx01"))) ∷ []); updates = ([]) } ∷ record { kind = process_kind.Assign; wakes = (wk 0 wake_edge.Any ∷ wk 1 wake_edge.Any ∷ wk 2 wake_edge.Any ∷ wk 3 wake_edge.Any ∷ []); changes = ((5, (bits (codes "xxxx"))) ∷ []); updates = ([]) } ∷ record { kind = process_kind.Assign; wakes = (wk 0 wake_edge.Any ∷ wk 1 wake_edge.Any ∷ wk 2 wake_edge.Any ∷ wk 3 wake_edge.Any ∷ []); changes = ((6, (bits (codes "0010"))) ∷ []); updates = ([]) } ∷ record { kind = process_kind.Assign; wakes = (wk 0 wake_edge.Any ∷ wk 1 wake_edge.Any ∷ wk 2 wake_edge.Any ∷ wk 3 wake_edge.Any ∷ []); changes = ((7, (bits (codes "0"))) ∷ []); updates = ([]) } ∷ record { kind = process_kind.Initial; wakes = ([]); changes = ((0, (bits (codes "1000"))) ∷ (1, (bits (codes "0110"))) ∷ []); updates = ([]) } ∷ []) })

-- module m; reg [3:0] a; reg [1:0] i; initial begin i = 1; a = 0; {i, a[i]} = 3'b101; end endmodule
abbrev text_of_a_braced_target_with_an_index : List ModuleTree
text_of_a_braced_target_with_an_index = ((ModuleOf (id 1 (codes "m")) ([]) (NamedPorts ([])) ((ItemAt 3 (Registers (Some (BoundsTree 4 (num 5 32 3) (num 7 32 0))) ((RegisterOf (id 9 (codes "a")) None) ∷ []))) ∷ (ItemAt 11 (Registers (Some (BoundsTree 12 (num 13 32 1) (num 15 32 0))) ((RegisterOf (id 17 (codes "i")) None) ∷ []))) ∷ (ItemAt 19 (Initial (Block None (statement_trees ((Assignment assignment.Blocking (tg 21 (codes "i")) (num 23 32 1)) ∷ (Assignment assignment.Blocking (tg 25 (codes "a")) (num 27 32 0)) ∷ (Assignment assignment.Blocking (JoinedTarget 29 (targets ((tg 30 (codes "i")) ∷ (NamedTarget 32 (codes "a") (OneSelect (Bit 33 (nm 34 (codes "i"))))) ∷ []))) (num 38 3 5)) ∷ []))))) ∷ [])) ∷ [])

abbrev pub Is_a_braced_target_with_an_index : Type 0
Is_a_braced_target_with_an_index = shown ((bits (codes "0111")) ∷ (bits (codes "10")) ∷ []) (flat_design (plain text_of_a_braced_target_with_an_index) None) ≡ Ok (record { signals = (sg (codes "m.a") 4 X ∷ sg (codes "m.i") 2 X ∷ []); nodes = (record { path = codes "m"; children = ((codes "a", spot.Sig (sig 0)) ∷ (codes "i", spot.Sig (sig 1)) ∷ []) } ∷ []); processes = (record { kind = process_kind.Initial; wakes = ([]); changes = ((0, (bits (codes "0100"))) ∷ (1, (bits (codes "01"))) ∷ []); updates = ([]) } ∷ []) })

-- module m; reg [3:0] a; reg [1:0] i; initial begin i = 1; a <= 0; a[i] <= 1; i = 2; {a[3], a[5:4]} <= 3'b111; end endmodule
abbrev text_of_nonblocking_updates : List ModuleTree
text_of_nonblocking_updates = ((ModuleOf (id 1 (codes "m")) ([]) (NamedPorts ([])) ((ItemAt 3 (Registers (Some (BoundsTree 4 (num 5 32 3) (num 7 32 0))) ((RegisterOf (id 9 (codes "a")) None) ∷ []))) ∷ (ItemAt 11 (Registers (Some (BoundsTree 12 (num 13 32 1) (num 15 32 0))) ((RegisterOf (id 17 (codes "i")) None) ∷ []))) ∷ (ItemAt 19 (Initial (Block None (statement_trees ((Assignment assignment.Blocking (tg 21 (codes "i")) (num 23 32 1)) ∷ (Assignment assignment.Nonblocking (tg 25 (codes "a")) (num 27 32 0)) ∷ (Assignment assignment.Nonblocking (NamedTarget 29 (codes "a") (OneSelect (Bit 30 (nm 31 (codes "i"))))) (num 34 32 1)) ∷ (Assignment assignment.Blocking (tg 36 (codes "i")) (num 38 32 2)) ∷ (Assignment assignment.Nonblocking (JoinedTarget 40 (targets ((NamedTarget 41 (codes "a") (OneSelect (Bit 42 (num 43 32 3)))) ∷ (NamedTarget 46 (codes "a") (OneSelect (Part 47 (num 48 32 5) (num 50 32 4)))) ∷ []))) (num 54 3 7)) ∷ []))))) ∷ [])) ∷ [])

abbrev pub Is_nonblocking_updates : Type 0
Is_nonblocking_updates = shown ((bits (codes "1110")) ∷ (bits (codes "10")) ∷ []) (flat_design (plain text_of_nonblocking_updates) None) ≡ Ok (record { signals = (sg (codes "m.a") 4 X ∷ sg (codes "m.i") 2 X ∷ []); nodes = (record { path = codes "m"; children = ((codes "a", spot.Sig (sig 0)) ∷ (codes "i", spot.Sig (sig 1)) ∷ []) } ∷ []); processes = (record { kind = process_kind.Initial; wakes = ([]); changes = ((1, (bits (codes "01"))) ∷ []); updates = (up 0 0 (bits (codes "0000")) ∷ up 0 1 (bits (codes "1")) ∷ up 0 3 (bits (codes "1")) ∷ []) } ∷ []) })

-- module m; reg [3:0] y; initial begin y = 0; casez (4'b1x10) default: y = 1; 4'b1?11: y = 2; 4'b1??0: y = 3; endcase end endmodule
abbrev text_of_casez_with_a_default_in_front : List ModuleTree
text_of_casez_with_a_default_in_front = ((ModuleOf (id 1 (codes "m")) ([]) (NamedPorts ([])) ((ItemAt 3 (Registers (Some (BoundsTree 4 (num 5 32 3) (num 7 32 0))) ((RegisterOf (id 9 (codes "y")) None) ∷ []))) ∷ (ItemAt 11 (Initial (Block None (statement_trees ((Assignment assignment.Blocking (tg 13 (codes "y")) (num 15 32 0)) ∷ (Case case_kind.CaseZ (Number 19 (bits (codes "01x1"))) (case_trees ((Default (Assignment assignment.Blocking (tg 23 (codes "y")) (num 25 32 1))) ∷ (Match ((Number 27 (bits (codes "11z1"))) ∷ []) (Assignment assignment.Blocking (tg 29 (codes "y")) (num 31 32 2))) ∷ (Match ((Number 33 (bits (codes "0zz1"))) ∷ []) (Assignment assignment.Blocking (tg 35 (codes "y")) (num 37 32 3))) ∷ []))) ∷ []))))) ∷ [])) ∷ [])

abbrev pub Is_casez_with_a_default_in_front : Type 0
Is_casez_with_a_default_in_front = shown ((bits (codes "0011")) ∷ []) (flat_design (plain text_of_casez_with_a_default_in_front) None) ≡ Ok (record { signals = (sg (codes "m.y") 4 X ∷ []); nodes = (record { path = codes "m"; children = ((codes "y", spot.Sig (sig 0)) ∷ []) } ∷ []); processes = (record { kind = process_kind.Initial; wakes = ([]); changes = ((0, (bits (codes "1100"))) ∷ []); updates = ([]) } ∷ []) })

-- module m; reg [3:0] y; initial begin case (2'b1x) default: y = 1; 2'b10, 2'b11: y = 2; endcase end endmodule
abbrev text_of_case_of_unknown_digits : List ModuleTree
text_of_case_of_unknown_digits = ((ModuleOf (id 1 (codes "m")) ([]) (NamedPorts ([])) ((ItemAt 3 (Registers (Some (BoundsTree 4 (num 5 32 3) (num 7 32 0))) ((RegisterOf (id 9 (codes "y")) None) ∷ []))) ∷ (ItemAt 11 (Initial (Block None (statement_trees ((Case case_kind.Case (Number 15 (bits (codes "x1"))) (case_trees ((Default (Assignment assignment.Blocking (tg 19 (codes "y")) (num 21 32 1))) ∷ (Match ((num 23 2 2) ∷ (num 25 2 3) ∷ []) (Assignment assignment.Blocking (tg 27 (codes "y")) (num 29 32 2))) ∷ []))) ∷ []))))) ∷ [])) ∷ [])

abbrev pub Is_case_of_unknown_digits : Type 0
Is_case_of_unknown_digits = shown ((bits (codes "10x1")) ∷ []) (flat_design (plain text_of_case_of_unknown_digits) None) ≡ Ok (record { signals = (sg (codes "m.y") 4 X ∷ []); nodes = (record { path = codes "m"; children = ((codes "y", spot.Sig (sig 0)) ∷ []) } ∷ []); processes = (record { kind = process_kind.Initial; wakes = ([]); changes = ((0, (bits (codes "1000"))) ∷ []); updates = ([]) } ∷ []) })

-- module m; reg [7:0] y; reg [3:0] i, j; initial begin y = 0; for (i = 0; i < 3; i = i + 1) for (j = 0; j < i; j = j + 1) y = y + 1; end endmodule
abbrev text_of_loops_inside_loops : List ModuleTree
text_of_loops_inside_loops = ((ModuleOf (id 1 (codes "m")) ([]) (NamedPorts ([])) ((ItemAt 3 (Registers (Some (BoundsTree 4 (num 5 32 7) (num 7 32 0))) ((RegisterOf (id 9 (codes "y")) None) ∷ []))) ∷ (ItemAt 11 (Registers (Some (BoundsTree 12 (num 13 32 3) (num 15 32 0))) ((RegisterOf (id 17 (codes "i")) None) ∷ (RegisterOf (id 19 (codes "j")) None) ∷ []))) ∷ (ItemAt 21 (Initial (Block None (statement_trees ((Assignment assignment.Blocking (tg 23 (codes "y")) (num 25 32 0)) ∷ (For 27 (Header (Assigned (id 29 (codes "i")) (num 31 32 0)) (Binary binary.Less (nm 33 (codes "i")) (num 35 32 3)) (Assigned (id 37 (codes "i")) (Binary binary.Add (nm 39 (codes "i")) (num 41 32 1)))) (For 43 (Header (Assigned (id 45 (codes "j")) (num 47 32 0)) (Binary binary.Less (nm 49 (codes "j")) (nm 51 (codes "i"))) (Assigned (id 53 (codes "j")) (Binary binary.Add (nm 55 (codes "j")) (num 57 32 1)))) (Assignment assignment.Blocking (tg 59 (codes "y")) (Binary binary.Add (nm 61 (codes "y")) (num 63 32 1))))) ∷ []))))) ∷ [])) ∷ [])

abbrev pub Is_loops_inside_loops : Type 0
Is_loops_inside_loops = shown ((bits (codes "01010111")) ∷ (bits (codes "1110")) ∷ (bits (codes "1100")) ∷ []) (flat_design (plain text_of_loops_inside_loops) None) ≡ Ok (record { signals = (sg (codes "m.y") 8 X ∷ sg (codes "m.i") 4 X ∷ sg (codes "m.j") 4 X ∷ []); nodes = (record { path = codes "m"; children = ((codes "y", spot.Sig (sig 0)) ∷ (codes "i", spot.Sig (sig 1)) ∷ (codes "j", spot.Sig (sig 2)) ∷ []) } ∷ []); processes = (record { kind = process_kind.Initial; wakes = ([]); changes = ((0, (bits (codes "11000000"))) ∷ (1, (bits (codes "1100"))) ∷ (2, (bits (codes "0100"))) ∷ []); updates = ([]) } ∷ []) })

-- module m; wire [4:0] y = 4'd15 + 4'd1; wire [3:0] z = (4'd15 + 4'd1) >> 1; wire [7:0] w = {4'd15 + 4'd1}; endmodule
abbrev text_of_contexts_of_sums : List ModuleTree
text_of_contexts_of_sums = ((ModuleOf (id 1 (codes "m")) ([]) (NamedPorts ([])) ((ItemAt 3 (Nets (Some (BoundsTree 4 (num 5 32 4) (num 7 32 0))) ((NetOf (id 9 (codes "y")) (Some (Binary binary.Add (num 11 4 15) (num 13 4 1)))) ∷ []))) ∷ (ItemAt 15 (Nets (Some (BoundsTree 16 (num 17 32 3) (num 19 32 0))) ((NetOf (id 21 (codes "z")) (Some (Binary binary.ShiftRight (Bracketed 23 (Binary binary.Add (num 24 4 15) (num 26 4 1))) (num 29 32 1)))) ∷ []))) ∷ (ItemAt 31 (Nets (Some (BoundsTree 32 (num 33 32 7) (num 35 32 0))) ((NetOf (id 37 (codes "w")) (Some (Concatenation 39 (trees ((Binary binary.Add (num 40 4 15) (num 42 4 1)) ∷ []))))) ∷ []))) ∷ [])) ∷ [])

abbrev pub Is_contexts_of_sums : Type 0
Is_contexts_of_sums = shown ((bits (codes "01101")) ∷ (bits (codes "0100")) ∷ (bits (codes "11100000")) ∷ []) (flat_design (plain text_of_contexts_of_sums) None) ≡ Ok (record { signals = (sg (codes "m.y") 5 Z ∷ sg (codes "m.z") 4 Z ∷ sg (codes "m.w") 8 Z ∷ []); nodes = (record { path = codes "m"; children = ((codes "y", spot.Sig (sig 0)) ∷ (codes "z", spot.Sig (sig 1)) ∷ (codes "w", spot.Sig (sig 2)) ∷ []) } ∷ []); processes = (record { kind = process_kind.Assign; wakes = ([]); changes = ((0, (bits (codes "00001"))) ∷ []); updates = ([]) } ∷ record { kind = process_kind.Assign; wakes = ([]); changes = ((1, (bits (codes "0000"))) ∷ []); updates = ([]) } ∷ record { kind = process_kind.Assign; wakes = ([]); changes = ((2, (bits (codes "00000000"))) ∷ []); updates = ([]) } ∷ []) })

-- module m; parameter [7:0] P = 9'h1ff; parameter Q = 4'd15 + 4'd1, R = P[3:2]; wire [8:0] y = P, z = Q; wire [3:0] w = R; endmodule
abbrev text_of_values_of_parameters : List ModuleTree
text_of_values_of_parameters = ((ModuleOf (id 1 (codes "m")) ([]) (NamedPorts ([])) ((ItemAt 3 (Parameters parameter_kind.Parameter (Some (BoundsTree 4 (num 5 32 7) (num 7 32 0))) ((ParameterOf (id 9 (codes "P")) (num 11 9 511)) ∷ []))) ∷ (ItemAt 13 (Parameters parameter_kind.Parameter None ((ParameterOf (id 14 (codes "Q")) (Binary binary.Add (num 16 4 15) (num 18 4 1))) ∷ (ParameterOf (id 20 (codes "R")) (Named 22 (codes "P") (OneSelect (Part 23 (num 24 32 3) (num 26 32 2))))) ∷ []))) ∷ (ItemAt 29 (Nets (Some (BoundsTree 30 (num 31 32 8) (num 33 32 0))) ((NetOf (id 35 (codes "y")) (Some (nm 37 (codes "P")))) ∷ (NetOf (id 39 (codes "z")) (Some (nm 41 (codes "Q")))) ∷ []))) ∷ (ItemAt 43 (Nets (Some (BoundsTree 44 (num 45 32 3) (num 47 32 0))) ((NetOf (id 49 (codes "w")) (Some (nm 51 (codes "R")))) ∷ []))) ∷ [])) ∷ [])

abbrev pub Is_values_of_parameters : Type 0
Is_values_of_parameters = shown ((bits (codes "zz1x10x00")) ∷ (bits (codes "101000011")) ∷ (bits (codes "000x")) ∷ []) (flat_design (plain text_of_values_of_parameters) None) ≡ Ok (record { signals = (sg (codes "m.y") 9 Z ∷ sg (codes "m.z") 9 Z ∷ sg (codes "m.w") 4 Z ∷ []); nodes = (record { path = codes "m"; children = ((codes "y", spot.Sig (sig 0)) ∷ (codes "z", spot.Sig (sig 1)) ∷ (codes "w", spot.Sig (sig 2)) ∷ []) } ∷ []); processes = (record { kind = process_kind.Assign; wakes = ([]); changes = ((0, (bits (codes "111111110"))) ∷ []); updates = ([]) } ∷ record { kind = process_kind.Assign; wakes = ([]); changes = ((1, (bits (codes "000000000"))) ∷ []); updates = ([]) } ∷ record { kind = process_kind.Assign; wakes = ([]); changes = ((2, (bits (codes "1100"))) ∷ []); updates = ([]) } ∷ []) })

-- module m; wire [3:0] y; s #(.P(7)) u(y); endmodule module s(output [3:0] o); parameter P = 1, Q = P + 1; assign o = Q; endmodule
abbrev text_of_an_override_before_the_parameters : List ModuleTree
text_of_an_override_before_the_parameters = ((ModuleOf (id 1 (codes "m")) ([]) (NamedPorts ([])) ((ItemAt 3 (Nets (Some (BoundsTree 4 (num 5 32 3) (num 7 32 0))) ((NetOf (id 9 (codes "y")) None) ∷ []))) ∷ (ItemAt 11 (Instance (id 11 (codes "s")) (Some (NamedConnections ((Connection 14 (id 15 (codes "P")) (Some (num 17 32 7))) ∷ []))) (id 20 (codes "u")) (Some (Ordered ((nm 22 (codes "y")) ∷ []))))) ∷ [])) ∷ (ModuleOf (id 27 (codes "s")) ([]) (DeclaredPorts ((HeaderPortOf (Some (Head direction.Output None (Some (BoundsTree 30 (num 31 32 3) (num 33 32 0))))) (id 35 (codes "o"))) ∷ [])) ((ItemAt 38 (Parameters parameter_kind.Parameter None ((ParameterOf (id 39 (codes "P")) (num 41 32 1)) ∷ (ParameterOf (id 43 (codes "Q")) (Binary binary.Add (nm 45 (codes "P")) (num 47 32 1))) ∷ []))) ∷ (ItemAt 49 (Drivers ((Driver (tg 50 (codes "o")) (nm 52 (codes "Q"))) ∷ []))) ∷ [])) ∷ [])

abbrev pub Is_an_override_before_the_parameters : Type 0
Is_an_override_before_the_parameters = shown ((bits (codes "1zxx")) ∷ (bits (codes "1100")) ∷ []) (flat_design (plain text_of_an_override_before_the_parameters) None) ≡ Ok (record { signals = (sg (codes "m.y") 4 Z ∷ sg (codes "m.u.o") 4 Z ∷ []); nodes = (record { path = codes "m"; children = ((codes "y", spot.Sig (sig 0)) ∷ (codes "u", spot.Inner 1) ∷ []) } ∷ record { path = codes "m.u"; children = ((codes "o", spot.Sig (sig 1)) ∷ []) } ∷ []); processes = (record { kind = process_kind.Assign; wakes = (wk 1 wake_edge.Any ∷ []); changes = ((0, (bits (codes "1100"))) ∷ []); updates = ([]) } ∷ record { kind = process_kind.Assign; wakes = ([]); changes = ((1, (bits (codes "0001"))) ∷ []); updates = ([]) } ∷ []) })

-- module m; wire [3:0] y = 1'bx ? 4'b10z1 : 4'b11z1; endmodule
abbrev text_of_an_unknown_condition : List ModuleTree
text_of_an_unknown_condition = ((ModuleOf (id 1 (codes "m")) ([]) (NamedPorts ([])) ((ItemAt 3 (Nets (Some (BoundsTree 4 (num 5 32 3) (num 7 32 0))) ((NetOf (id 9 (codes "y")) (Some (Conditional (Number 11 (bits (codes "x"))) (Number 13 (bits (codes "1z01"))) (Number 15 (bits (codes "1z11")))))) ∷ []))) ∷ [])) ∷ [])

abbrev pub Is_an_unknown_condition : Type 0
Is_an_unknown_condition = shown ((bits (codes "z010")) ∷ []) (flat_design (plain text_of_an_unknown_condition) None) ≡ Ok (record { signals = (sg (codes "m.y") 4 Z ∷ []); nodes = (record { path = codes "m"; children = ((codes "y", spot.Sig (sig 0)) ∷ []) } ∷ []); processes = (record { kind = process_kind.Assign; wakes = ([]); changes = ((0, (bits (codes "1xx1"))) ∷ []); updates = ([]) } ∷ []) })

-- module m(a); input [3:0] a; wire [3:0] a; wire b = a[2]; endmodule
abbrev text_of_a_port_in_two_declarations : List ModuleTree
text_of_a_port_in_two_declarations = ((ModuleOf (id 1 (codes "m")) ([]) (NamedPorts ((id 3 (codes "a")) ∷ [])) ((ItemAt 6 (Ports (Head direction.Input None (Some (BoundsTree 7 (num 8 32 3) (num 10 32 0)))) ((id 12 (codes "a")) ∷ []))) ∷ (ItemAt 14 (Nets (Some (BoundsTree 15 (num 16 32 3) (num 18 32 0))) ((NetOf (id 20 (codes "a")) None) ∷ []))) ∷ (ItemAt 22 (Nets None ((NetOf (id 23 (codes "b")) (Some (Named 25 (codes "a") (OneSelect (Bit 26 (num 27 32 2)))))) ∷ []))) ∷ [])) ∷ [])

abbrev pub Is_a_port_in_two_declarations : Type 0
Is_a_port_in_two_declarations = shown ((bits (codes "0100")) ∷ (bits (codes "0")) ∷ []) (flat_design (plain text_of_a_port_in_two_declarations) None) ≡ Ok (record { signals = (sg (codes "m.a") 4 Z ∷ sg (codes "m.b") 1 Z ∷ []); nodes = (record { path = codes "m"; children = ((codes "a", spot.Sig (sig 0)) ∷ (codes "b", spot.Sig (sig 1)) ∷ []) } ∷ []); processes = (record { kind = process_kind.Assign; wakes = (wk 0 wake_edge.Any ∷ []); changes = ([]); updates = ([]) } ∷ []) })

-- module m; reg [3:0] a, b, c; always @(posedge a or negedge b, c) casez (a) 4'b1z0?: b = 1; default: b = 2; 4'b0001, 4'bzz11: c = 3; endcase endmodule
abbrev text_of_events_and_labels : List ModuleTree
text_of_events_and_labels = ((ModuleOf (id 1 (codes "m")) ([]) (NamedPorts ([])) ((ItemAt 3 (Registers (Some (BoundsTree 4 (num 5 32 3) (num 7 32 0))) ((RegisterOf (id 9 (codes "a")) None) ∷ (RegisterOf (id 11 (codes "b")) None) ∷ (RegisterOf (id 13 (codes "c")) None) ∷ []))) ∷ (ItemAt 15 (Always (Events (record { edge = Some edge.Positive; name = id 19 (codes "a") } ∷ record { edge = Some edge.Negative; name = id 22 (codes "b") } ∷ record { edge = None; name = id 24 (codes "c") } ∷ [])) (Case case_kind.CaseZ (nm 28 (codes "a")) (case_trees ((Match ((Number 30 (bits (codes "z0z1"))) ∷ []) (Assignment assignment.Blocking (tg 32 (codes "b")) (num 34 32 1))) ∷ (Default (Assignment assignment.Blocking (tg 38 (codes "b")) (num 40 32 2))) ∷ (Match ((num 42 4 1) ∷ (Number 44 (bits (codes "11zz"))) ∷ []) (Assignment assignment.Blocking (tg 46 (codes "c")) (num 48 32 3))) ∷ []))))) ∷ [])) ∷ [])

abbrev pub Is_events_and_labels : Type 0
Is_events_and_labels = shown ((bits (codes "0010")) ∷ (bits (codes "1z1z")) ∷ (bits (codes "1010")) ∷ []) (flat_design (plain text_of_events_and_labels) None) ≡ Ok (record { signals = (sg (codes "m.a") 4 X ∷ sg (codes "m.b") 4 X ∷ sg (codes "m.c") 4 X ∷ []); nodes = (record { path = codes "m"; children = ((codes "a", spot.Sig (sig 0)) ∷ (codes "b", spot.Sig (sig 1)) ∷ (codes "c", spot.Sig (sig 2)) ∷ []) } ∷ []); processes = (record { kind = process_kind.Always; wakes = (wk 0 wake_edge.Pos ∷ wk 1 wake_edge.Neg ∷ wk 2 wake_edge.Any ∷ []); changes = ((1, (bits (codes "0100"))) ∷ []); updates = ([]) } ∷ []) })

-- module m; reg [3:0] a; reg [5:0] b; always @* casex ({a, 2'bx1}) b, 6'hz: a = 1; endcase endmodule
abbrev text_of_casex_and_all_that_is_read : List ModuleTree
text_of_casex_and_all_that_is_read = ((ModuleOf (id 1 (codes "m")) ([]) (NamedPorts ([])) ((ItemAt 3 (Registers (Some (BoundsTree 4 (num 5 32 3) (num 7 32 0))) ((RegisterOf (id 9 (codes "a")) None) ∷ []))) ∷ (ItemAt 11 (Registers (Some (BoundsTree 12 (num 13 32 5) (num 15 32 0))) ((RegisterOf (id 17 (codes "b")) None) ∷ []))) ∷ (ItemAt 19 (Always Implicit (Case case_kind.CaseX (Concatenation 24 (trees ((nm 25 (codes "a")) ∷ (Number 27 (bits (codes "1x"))) ∷ []))) (case_trees ((Match ((nm 30 (codes "b")) ∷ (Number 32 (bits (codes "zzzzzz"))) ∷ []) (Assignment assignment.Blocking (tg 34 (codes "a")) (num 36 32 1))) ∷ []))))) ∷ [])) ∷ [])

abbrev pub Is_casex_and_all_that_is_read : Type 0
Is_casex_and_all_that_is_read = shown ((bits (codes "0110")) ∷ (bits (codes "100010")) ∷ []) (flat_design (plain text_of_casex_and_all_that_is_read) None) ≡ Ok (record { signals = (sg (codes "m.a") 4 X ∷ sg (codes "m.b") 6 X ∷ []); nodes = (record { path = codes "m"; children = ((codes "a", spot.Sig (sig 0)) ∷ (codes "b", spot.Sig (sig 1)) ∷ []) } ∷ []); processes = (record { kind = process_kind.Always; wakes = (wk 0 wake_edge.Any ∷ wk 1 wake_edge.Any ∷ []); changes = ((0, (bits (codes "1000"))) ∷ []); updates = ([]) } ∷ []) })

-- module m; reg [3:0] w [2:5]; reg [3:0] i; integer k; always @* for (k = 0; k < 2; k = k + 1) w[i + k][k] = w[i][3:2] + k; endmodule
abbrev text_of_loops_over_words : List ModuleTree
text_of_loops_over_words = ((ModuleOf (id 1 (codes "m")) ([]) (NamedPorts ([])) ((ItemAt 3 (Registers (Some (BoundsTree 4 (num 5 32 3) (num 7 32 0))) ((RegisterOf (id 9 (codes "w")) (Some (Words (BoundsTree 10 (num 11 32 2) (num 13 32 5))))) ∷ []))) ∷ (ItemAt 16 (Registers (Some (BoundsTree 17 (num 18 32 3) (num 20 32 0))) ((RegisterOf (id 22 (codes "i")) None) ∷ []))) ∷ (ItemAt 24 (Integers ((id 25 (codes "k")) ∷ []))) ∷ (ItemAt 27 (Always Implicit (For 30 (Header (Assigned (id 32 (codes "k")) (num 34 32 0)) (Binary binary.Less (nm 36 (codes "k")) (num 38 32 2)) (Assigned (id 40 (codes "k")) (Binary binary.Add (nm 42 (codes "k")) (num 44 32 1)))) (Assignment assignment.Blocking (NamedTarget 46 (codes "w") (OfWord 47 (Binary binary.Add (nm 48 (codes "i")) (nm 50 (codes "k"))) (Bit 52 (nm 53 (codes "k"))))) (Binary binary.Add (Named 56 (codes "w") (OfWord 57 (nm 58 (codes "i")) (Part 60 (num 61 32 3) (num 63 32 2)))) (nm 66 (codes "k"))))))) ∷ [])) ∷ [])

abbrev pub Is_loops_over_words : Type 0
Is_loops_over_words = shown ((bits (codes "1x10")) ∷ (bits (codes "1100")) ∷ (bits (codes "0010")) ∷ (bits (codes "1100")) ∷ (bits (codes "1101")) ∷ (bits (codes "0z1011xz11x111x000x00x011z11x111")) ∷ []) (flat_design (plain text_of_loops_over_words) None) ≡ Ok (record { signals = (sg (codes "m.w[2]") 4 X ∷ sg (codes "m.w[3]") 4 X ∷ sg (codes "m.w[4]") 4 X ∷ sg (codes "m.w[5]") 4 X ∷ sg (codes "m.i") 4 X ∷ sg (codes "m.k") 32 X ∷ []); nodes = (record { path = codes "m"; children = ((codes "w", spot.Words (sig 0) 2 4) ∷ (codes "i", spot.Sig (sig 4)) ∷ (codes "k", spot.Sig (sig 5)) ∷ []) } ∷ []); processes = (record { kind = process_kind.Always; wakes = (wk 0 wake_edge.Any ∷ wk 1 wake_edge.Any ∷ wk 2 wake_edge.Any ∷ wk 3 wake_edge.Any ∷ wk 4 wake_edge.Any ∷ []); changes = ((5, (bits (codes "01000000000000000000000000000000"))) ∷ []); updates = ([]) } ∷ []) })

-- module m; reg [7:0] w [5:2]; reg [2:0] i; reg [7:0] q; always @(*) begin q = w[i]; w[i][i +: 2] <= q; {q[3], w[2]} <= 5; end endmodule
abbrev text_of_selects_of_words : List ModuleTree
text_of_selects_of_words = ((ModuleOf (id 1 (codes "m")) ([]) (NamedPorts ([])) ((ItemAt 3 (Registers (Some (BoundsTree 4 (num 5 32 7) (num 7 32 0))) ((RegisterOf (id 9 (codes "w")) (Some (Words (BoundsTree 10 (num 11 32 5) (num 13 32 2))))) ∷ []))) ∷ (ItemAt 16 (Registers (Some (BoundsTree 17 (num 18 32 2) (num 20 32 0))) ((RegisterOf (id 22 (codes "i")) None) ∷ []))) ∷ (ItemAt 24 (Registers (Some (BoundsTree 25 (num 26 32 7) (num 28 32 0))) ((RegisterOf (id 30 (codes "q")) None) ∷ []))) ∷ (ItemAt 32 (Always Implicit (Block None (statement_trees ((Assignment assignment.Blocking (tg 38 (codes "q")) (Named 40 (codes "w") (OneSelect (Bit 41 (nm 42 (codes "i")))))) ∷ (Assignment assignment.Nonblocking (NamedTarget 45 (codes "w") (OfWord 46 (nm 47 (codes "i")) (IndexedPart 49 (nm 50 (codes "i")) (num 52 32 2)))) (nm 55 (codes "q"))) ∷ (Assignment assignment.Nonblocking (JoinedTarget 57 (targets ((NamedTarget 58 (codes "q") (OneSelect (Bit 59 (num 60 32 3)))) ∷ (NamedTarget 63 (codes "w") (OneSelect (Bit 64 (num 65 32 2)))) ∷ []))) (num 69 32 5)) ∷ []))))) ∷ [])) ∷ [])

abbrev pub Is_selects_of_words : Type 0
Is_selects_of_words = shown ((bits (codes "00100000")) ∷ (bits (codes "10000101")) ∷ (bits (codes "01000000")) ∷ (bits (codes "10101001")) ∷ (bits (codes "000")) ∷ (bits (codes "01101110")) ∷ []) (flat_design (plain text_of_selects_of_words) None) ≡ Ok (record { signals = (sg (codes "m.w[2]") 8 X ∷ sg (codes "m.w[3]") 8 X ∷ sg (codes "m.w[4]") 8 X ∷ sg (codes "m.w[5]") 8 X ∷ sg (codes "m.i") 3 X ∷ sg (codes "m.q") 8 X ∷ []); nodes = (record { path = codes "m"; children = ((codes "w", spot.Words (sig 0) 2 4) ∷ (codes "i", spot.Sig (sig 4)) ∷ (codes "q", spot.Sig (sig 5)) ∷ []) } ∷ []); processes = (record { kind = process_kind.Always; wakes = (wk 0 wake_edge.Any ∷ wk 1 wake_edge.Any ∷ wk 2 wake_edge.Any ∷ wk 3 wake_edge.Any ∷ wk 4 wake_edge.Any ∷ wk 5 wake_edge.Any ∷ []); changes = ((5, (bits (codes "xxxxxxxx"))) ∷ []); updates = (up 5 3 (bits (codes "0")) ∷ up 0 0 (bits (codes "10100000")) ∷ []) } ∷ []) })

-- module top(input [3:0] a, output [3:0] q); wire [3:0] x; s #(.W(4)) u(.i(a), .o(x)); s #(2) v(x[1:0], q[2:1]); endmodule module s #(parameter W = 1, localparam_ = 3)(input [W-1:0] i, output reg [W-1:0] o); always @* o = ~i; endmodule
abbrev text_of_overrides_and_parts_of_ports : List ModuleTree
text_of_overrides_and_parts_of_ports = ((ModuleOf (id 1 (codes "top")) ([]) (DeclaredPorts ((HeaderPortOf (Some (Head direction.Input None (Some (BoundsTree 4 (num 5 32 3) (num 7 32 0))))) (id 9 (codes "a"))) ∷ (HeaderPortOf (Some (Head direction.Output None (Some (BoundsTree 12 (num 13 32 3) (num 15 32 0))))) (id 17 (codes "q"))) ∷ [])) ((ItemAt 20 (Nets (Some (BoundsTree 21 (num 22 32 3) (num 24 32 0))) ((NetOf (id 26 (codes "x")) None) ∷ []))) ∷ (ItemAt 28 (Instance (id 28 (codes "s")) (Some (NamedConnections ((Connection 31 (id 32 (codes "W")) (Some (num 34 32 4))) ∷ []))) (id 37 (codes "u")) (Some (NamedConnections ((Connection 39 (id 40 (codes "i")) (Some (nm 42 (codes "a")))) ∷ (Connection 45 (id 46 (codes "o")) (Some (nm 48 (codes "x")))) ∷ []))))) ∷ (ItemAt 52 (Instance (id 52 (codes "s")) (Some (Ordered ((num 55 32 2) ∷ []))) (id 57 (codes "v")) (Some (Ordered ((Named 59 (codes "x") (OneSelect (Part 60 (num 61 32 1) (num 63 32 0)))) ∷ (Named 66 (codes "q") (OneSelect (Part 67 (num 68 32 2) (num 70 32 1)))) ∷ []))))) ∷ [])) ∷ (ModuleOf (id 76 (codes "s")) ((HeaderParameterOf (Some None) (id 80 (codes "W")) (num 82 32 1)) ∷ (HeaderParameterOf None (id 84 (codes "localparam_")) (num 86 32 3)) ∷ []) (DeclaredPorts ((HeaderPortOf (Some (Head direction.Input None (Some (BoundsTree 90 (Binary binary.Subtract (nm 91 (codes "W")) (num 93 32 1)) (num 95 32 0))))) (id 97 (codes "i"))) ∷ (HeaderPortOf (Some (Head direction.Output (Some port_kind.Reg) (Some (BoundsTree 101 (Binary binary.Subtract (nm 102 (codes "W")) (num 104 32 1)) (num 106 32 0))))) (id 108 (codes "o"))) ∷ [])) ((ItemAt 111 (Always Implicit (Assignment assignment.Blocking (tg 114 (codes "o")) (Unary 116 unary.BitwiseNegation (nm 117 (codes "i")))))) ∷ [])) ∷ [])

abbrev pub Is_overrides_and_parts_of_ports : Type 0
Is_overrides_and_parts_of_ports = shown ((bits (codes "0001")) ∷ (bits (codes "1100")) ∷ (bits (codes "0101")) ∷ (bits (codes "1110")) ∷ (bits (codes "xxxx")) ∷ (bits (codes "x1")) ∷ (bits (codes "z0")) ∷ []) (flat_design (plain text_of_overrides_and_parts_of_ports) None) ≡ Ok (record { signals = (sg (codes "top.a") 4 Z ∷ sg (codes "top.q") 4 Z ∷ sg (codes "top.x") 4 Z ∷ sg (codes "top.u.i") 4 Z ∷ sg (codes "top.u.o") 4 X ∷ sg (codes "top.v.i") 2 Z ∷ sg (codes "top.v.o") 2 X ∷ []); nodes = (record { path = codes "top"; children = ((codes "a", spot.Sig (sig 0)) ∷ (codes "q", spot.Sig (sig 1)) ∷ (codes "x", spot.Sig (sig 2)) ∷ (codes "u", spot.Inner 1) ∷ (codes "v", spot.Inner 2) ∷ []) } ∷ record { path = codes "top.u"; children = ((codes "i", spot.Sig (sig 3)) ∷ (codes "o", spot.Sig (sig 4)) ∷ []) } ∷ record { path = codes "top.v"; children = ((codes "i", spot.Sig (sig 5)) ∷ (codes "o", spot.Sig (sig 6)) ∷ []) } ∷ []); processes = (record { kind = process_kind.Assign; wakes = (wk 0 wake_edge.Any ∷ []); changes = ((3, (bits (codes "0001"))) ∷ []); updates = ([]) } ∷ record { kind = process_kind.Assign; wakes = (wk 4 wake_edge.Any ∷ []); changes = ((2, (bits (codes "xxxx"))) ∷ []); updates = ([]) } ∷ record { kind = process_kind.Always; wakes = (wk 3 wake_edge.Any ∷ []); changes = ((4, (bits (codes "0001"))) ∷ []); updates = ([]) } ∷ record { kind = process_kind.Assign; wakes = (wk 2 wake_edge.Any ∷ []); changes = ((5, (bits (codes "01"))) ∷ []); updates = ([]) } ∷ record { kind = process_kind.Assign; wakes = (wk 6 wake_edge.Any ∷ []); changes = ((1, (bits (codes "1z00"))) ∷ []); updates = ([]) } ∷ record { kind = process_kind.Always; wakes = (wk 5 wake_edge.Any ∷ []); changes = ((6, (bits (codes "x0"))) ∷ []); updates = ([]) } ∷ []) })

-- module m #(parameter [3:0] A = 20, B = 17, parameter C = 5)(); localparam [1:0] D = 4'd15 + 4'd1, E = A; wire [A+B:D] x = {A, B, C, D}; wire y = C[2]; wire [1:0] z = A[3:2]; endmodule
abbrev text_of_parameters_of_a_header : List ModuleTree
text_of_parameters_of_a_header = ((ModuleOf (id 1 (codes "m")) ((HeaderParameterOf (Some (Some (BoundsTree 5 (num 6 32 3) (num 8 32 0)))) (id 10 (codes "A")) (num 12 32 20)) ∷ (HeaderParameterOf None (id 14 (codes "B")) (num 16 32 17)) ∷ (HeaderParameterOf (Some None) (id 19 (codes "C")) (num 21 32 5)) ∷ []) (NamedPorts ([])) ((ItemAt 26 (Parameters parameter_kind.LocalParam (Some (BoundsTree 27 (num 28 32 1) (num 30 32 0))) ((ParameterOf (id 32 (codes "D")) (Binary binary.Add (num 34 4 15) (num 36 4 1))) ∷ (ParameterOf (id 38 (codes "E")) (nm 40 (codes "A"))) ∷ []))) ∷ (ItemAt 42 (Nets (Some (BoundsTree 43 (Binary binary.Add (nm 44 (codes "A")) (nm 46 (codes "B"))) (nm 48 (codes "D")))) ((NetOf (id 50 (codes "x")) (Some (Concatenation 52 (trees ((nm 53 (codes "A")) ∷ (nm 55 (codes "B")) ∷ (nm 57 (codes "C")) ∷ (nm 59 (codes "D")) ∷ []))))) ∷ []))) ∷ (ItemAt 62 (Nets None ((NetOf (id 63 (codes "y")) (Some (Named 65 (codes "C") (OneSelect (Bit 66 (num 67 32 2)))))) ∷ []))) ∷ (ItemAt 70 (Nets (Some (BoundsTree 71 (num 72 32 1) (num 74 32 0))) ((NetOf (id 76 (codes "z")) (Some (Named 78 (codes "A") (OneSelect (Part 79 (num 80 32 3) (num 82 32 2)))))) ∷ []))) ∷ [])) ∷ [])

abbrev pub Is_parameters_of_a_header : Type 0
Is_parameters_of_a_header = shown ((bits (codes "001000")) ∷ (bits (codes "0")) ∷ (bits (codes "00")) ∷ []) (flat_design (plain text_of_parameters_of_a_header) None) ≡ Ok (record { signals = (sg (codes "m.x") 6 Z ∷ sg (codes "m.y") 1 Z ∷ sg (codes "m.z") 2 Z ∷ []); nodes = (record { path = codes "m"; children = ((codes "x", spot.Sig (sig 0)) ∷ (codes "y", spot.Sig (sig 1)) ∷ (codes "z", spot.Sig (sig 2)) ∷ []) } ∷ []); processes = (record { kind = process_kind.Assign; wakes = ([]); changes = ((0, (bits (codes "001010"))) ∷ []); updates = ([]) } ∷ record { kind = process_kind.Assign; wakes = ([]); changes = ((1, (bits (codes "1"))) ∷ []); updates = ([]) } ∷ record { kind = process_kind.Assign; wakes = ([]); changes = ((2, (bits (codes "10"))) ∷ []); updates = ([]) } ∷ []) })

-- module m(b, a); wire c; input [2:0] a; output b; reg b; integer i; reg [1:0] w [0:1]; initial b = a; endmodule
abbrev text_of_the_order_of_ports : List ModuleTree
text_of_the_order_of_ports = ((ModuleOf (id 1 (codes "m")) ([]) (NamedPorts ((id 3 (codes "b")) ∷ (id 5 (codes "a")) ∷ [])) ((ItemAt 8 (Nets None ((NetOf (id 9 (codes "c")) None) ∷ []))) ∷ (ItemAt 11 (Ports (Head direction.Input None (Some (BoundsTree 12 (num 13 32 2) (num 15 32 0)))) ((id 17 (codes "a")) ∷ []))) ∷ (ItemAt 19 (Ports (Head direction.Output None None) ((id 20 (codes "b")) ∷ []))) ∷ (ItemAt 22 (Registers None ((RegisterOf (id 23 (codes "b")) None) ∷ []))) ∷ (ItemAt 25 (Integers ((id 26 (codes "i")) ∷ []))) ∷ (ItemAt 28 (Registers (Some (BoundsTree 29 (num 30 32 1) (num 32 32 0))) ((RegisterOf (id 34 (codes "w")) (Some (Words (BoundsTree 35 (num 36 32 0) (num 38 32 1))))) ∷ []))) ∷ (ItemAt 41 (Initial (Assignment assignment.Blocking (tg 42 (codes "b")) (nm 44 (codes "a"))))) ∷ [])) ∷ [])

abbrev pub Is_the_order_of_ports : Type 0
Is_the_order_of_ports = shown ((bits (codes "0")) ∷ (bits (codes "010")) ∷ (bits (codes "1")) ∷ (bits (codes "11001000011011101100010011110000")) ∷ (bits (codes "01")) ∷ (bits (codes "z0")) ∷ []) (flat_design (plain text_of_the_order_of_ports) None) ≡ Ok (record { signals = (sg (codes "m.b") 1 X ∷ sg (codes "m.a") 3 Z ∷ sg (codes "m.c") 1 Z ∷ sg (codes "m.i") 32 X ∷ sg (codes "m.w[0]") 2 X ∷ sg (codes "m.w[1]") 2 X ∷ []); nodes = (record { path = codes "m"; children = ((codes "b", spot.Sig (sig 0)) ∷ (codes "a", spot.Sig (sig 1)) ∷ (codes "c", spot.Sig (sig 2)) ∷ (codes "i", spot.Sig (sig 3)) ∷ (codes "w", spot.Words (sig 4) 0 2) ∷ []) } ∷ []); processes = (record { kind = process_kind.Initial; wakes = ([]); changes = ([]); updates = ([]) } ∷ []) })

-- module m; wire [3:0] a; assign a[1:0] = 1, a[2] = 0; assign a[3 +: 4] = 15; reg r = a; initial r = 1; wire b = a, c = r; endmodule
abbrev text_of_drives_side_by_side : List ModuleTree
text_of_drives_side_by_side = ((ModuleOf (id 1 (codes "m")) ([]) (NamedPorts ([])) ((ItemAt 3 (Nets (Some (BoundsTree 4 (num 5 32 3) (num 7 32 0))) ((NetOf (id 9 (codes "a")) None) ∷ []))) ∷ (ItemAt 11 (Drivers ((Driver (NamedTarget 12 (codes "a") (OneSelect (Part 13 (num 14 32 1) (num 16 32 0)))) (num 19 32 1)) ∷ (Driver (NamedTarget 21 (codes "a") (OneSelect (Bit 22 (num 23 32 2)))) (num 26 32 0)) ∷ []))) ∷ (ItemAt 28 (Drivers ((Driver (NamedTarget 29 (codes "a") (OneSelect (IndexedPart 30 (num 31 32 3) (num 33 32 4)))) (num 36 32 15)) ∷ []))) ∷ (ItemAt 38 (Registers None ((RegisterOf (id 39 (codes "r")) (Some (Initially (nm 41 (codes "a"))))) ∷ []))) ∷ (ItemAt 43 (Initial (Assignment assignment.Blocking (tg 44 (codes "r")) (num 46 32 1)))) ∷ (ItemAt 48 (Nets None ((NetOf (id 49 (codes "b")) (Some (nm 51 (codes "a")))) ∷ (NetOf (id 53 (codes "c")) (Some (nm 55 (codes "r")))) ∷ []))) ∷ [])) ∷ [])

abbrev pub Is_drives_side_by_side : Type 0
Is_drives_side_by_side = shown ((bits (codes "1110")) ∷ (bits (codes "1")) ∷ (bits (codes "1")) ∷ (bits (codes "1")) ∷ []) (flat_design (plain text_of_drives_side_by_side) None) ≡ Ok (record { signals = (sg (codes "m.a") 4 Z ∷ sg (codes "m.r") 1 X ∷ sg (codes "m.b") 1 Z ∷ sg (codes "m.c") 1 Z ∷ []); nodes = (record { path = codes "m"; children = ((codes "a", spot.Sig (sig 0)) ∷ (codes "r", spot.Sig (sig 1)) ∷ (codes "b", spot.Sig (sig 2)) ∷ (codes "c", spot.Sig (sig 3)) ∷ []) } ∷ []); processes = (record { kind = process_kind.Assign; wakes = ([]); changes = ((0, (bits (codes "1010"))) ∷ []); updates = ([]) } ∷ record { kind = process_kind.Assign; wakes = ([]); changes = ((0, (bits (codes "1100"))) ∷ []); updates = ([]) } ∷ record { kind = process_kind.Assign; wakes = ([]); changes = ((0, (bits (codes "1111"))) ∷ []); updates = ([]) } ∷ record { kind = process_kind.Initial; wakes = ([]); changes = ([]); updates = ([]) } ∷ record { kind = process_kind.Initial; wakes = ([]); changes = ([]); updates = ([]) } ∷ record { kind = process_kind.Assign; wakes = (wk 0 wake_edge.Any ∷ []); changes = ([]); updates = ([]) } ∷ record { kind = process_kind.Assign; wakes = (wk 1 wake_edge.Any ∷ []); changes = ([]); updates = ([]) } ∷ []) })

-- module top(input clk, rst, input [3:0] a, input [7:0] b, output [7:0] y, output z, output reg [7:0] q);
--   reg p; wire [7:0] w; integer i; reg [3:0] m [0:3];
--   assign w = q;
--   assign y = (~^ ((q ^ rst) === {2{4'b1x0z}}));
--   sub u(.i(a[0]), .o(z));
--   always @(negedge clk) for (i = 0; i < 3; i = i + 1) q[i] = b[i];
--   always @(clk, rst) begin casex (a) 4'd1, 4'd3: {p, q} <= ({2{w}} | {2{p}}); 4'b1zz0: m[1] <= ((a ? w : b[5:2]) | (q - w)); default: q <= (a & b[5:1]); endcase m[a] <= (a >= b[a +: 2]); end
-- endmodule
-- module sub(input i, output o); reg s; assign o = s ^ i; always @(i) s = i; endmodule
abbrev text_of_statements_of_every_form : List ModuleTree
text_of_statements_of_every_form = ((ModuleOf (id 1 (codes "top")) ([]) (DeclaredPorts ((HeaderPortOf (Some (Head direction.Input None None)) (id 4 (codes "clk"))) ∷ (HeaderPortOf None (id 6 (codes "rst"))) ∷ (HeaderPortOf (Some (Head direction.Input None (Some (BoundsTree 9 (num 10 32 3) (num 12 32 0))))) (id 14 (codes "a"))) ∷ (HeaderPortOf (Some (Head direction.Input None (Some (BoundsTree 17 (num 18 32 7) (num 20 32 0))))) (id 22 (codes "b"))) ∷ (HeaderPortOf (Some (Head direction.Output None (Some (BoundsTree 25 (num 26 32 7) (num 28 32 0))))) (id 30 (codes "y"))) ∷ (HeaderPortOf (Some (Head direction.Output None None)) (id 33 (codes "z"))) ∷ (HeaderPortOf (Some (Head direction.Output (Some port_kind.Reg) (Some (BoundsTree 37 (num 38 32 7) (num 40 32 0))))) (id 42 (codes "q"))) ∷ [])) ((ItemAt 45 (Registers None ((RegisterOf (id 46 (codes "p")) None) ∷ []))) ∷ (ItemAt 48 (Nets (Some (BoundsTree 49 (num 50 32 7) (num 52 32 0))) ((NetOf (id 54 (codes "w")) None) ∷ []))) ∷ (ItemAt 56 (Integers ((id 57 (codes "i")) ∷ []))) ∷ (ItemAt 59 (Registers (Some (BoundsTree 60 (num 61 32 3) (num 63 32 0))) ((RegisterOf (id 65 (codes "m")) (Some (Words (BoundsTree 66 (num 67 32 0) (num 69 32 3))))) ∷ []))) ∷ (ItemAt 72 (Drivers ((Driver (tg 73 (codes "w")) (nm 75 (codes "q"))) ∷ []))) ∷ (ItemAt 77 (Drivers ((Driver (tg 78 (codes "y")) (Bracketed 80 (Unary 81 unary.ReductionXnor (Bracketed 82 (Binary binary.CaseEqual (Bracketed 83 (Binary binary.BitwiseXor (nm 84 (codes "q")) (nm 86 (codes "rst")))) (Replication 89 (num 90 32 2) (trees ((Number 92 (bits (codes "z0x1"))) ∷ [])))))))) ∷ []))) ∷ (ItemAt 98 (Instance (id 98 (codes "sub")) None (id 99 (codes "u")) (Some (NamedConnections ((Connection 101 (id 102 (codes "i")) (Some (Named 104 (codes "a") (OneSelect (Bit 105 (num 106 32 0)))))) ∷ (Connection 110 (id 111 (codes "o")) (Some (nm 113 (codes "z")))) ∷ []))))) ∷ (ItemAt 117 (Always (Events (record { edge = Some edge.Negative; name = id 121 (codes "clk") } ∷ [])) (For 123 (Header (Assigned (id 125 (codes "i")) (num 127 32 0)) (Binary binary.Less (nm 129 (codes "i")) (num 131 32 3)) (Assigned (id 133 (codes "i")) (Binary binary.Add (nm 135 (codes "i")) (num 137 32 1)))) (Assignment assignment.Blocking (NamedTarget 139 (codes "q") (OneSelect (Bit 140 (nm 141 (codes "i"))))) (Named 144 (codes "b") (OneSelect (Bit 145 (nm 146 (codes "i"))))))))) ∷ (ItemAt 149 (Always (Events (record { edge = None; name = id 152 (codes "clk") } ∷ record { edge = None; name = id 154 (codes "rst") } ∷ [])) (Block None (statement_trees ((Case case_kind.CaseX (nm 159 (codes "a")) (case_trees ((Match ((num 161 4 1) ∷ (num 163 4 3) ∷ []) (Assignment assignment.Nonblocking (JoinedTarget 165 (targets ((tg 166 (codes "p")) ∷ (tg 168 (codes "q")) ∷ []))) (Bracketed 171 (Binary binary.BitwiseOr (Replication 172 (num 173 32 2) (trees ((nm 175 (codes "w")) ∷ []))) (Replication 179 (num 180 32 2) (trees ((nm 182 (codes "p")) ∷ []))))))) ∷ (Match ((Number 187 (bits (codes "0zz1"))) ∷ []) (Assignment assignment.Nonblocking (NamedTarget 189 (codes "m") (OneSelect (Bit 190 (num 191 32 1)))) (Bracketed 194 (Binary binary.BitwiseOr (Bracketed 195 (Conditional (nm 196 (codes "a")) (nm 198 (codes "w")) (Named 200 (codes "b") (OneSelect (Part 201 (num 202 32 5) (num 204 32 2)))))) (Bracketed 208 (Binary binary.Subtract (nm 209 (codes "q")) (nm 211 (codes "w")))))))) ∷ (Default (Assignment assignment.Nonblocking (tg 217 (codes "q")) (Bracketed 219 (Binary binary.BitwiseAnd (nm 220 (codes "a")) (Named 222 (codes "b") (OneSelect (Part 223 (num 224 32 5) (num 226 32 1)))))))) ∷ []))) ∷ (Assignment assignment.Nonblocking (NamedTarget 231 (codes "m") (OneSelect (Bit 232 (nm 233 (codes "a"))))) (Bracketed 236 (Binary binary.GreaterOrEqual (nm 237 (codes "a")) (Named 239 (codes "b") (OneSelect (IndexedPart 240 (nm 241 (codes "a")) (num 243 32 2))))))) ∷ []))))) ∷ [])) ∷ (ModuleOf (id 250 (codes "sub")) ([]) (DeclaredPorts ((HeaderPortOf (Some (Head direction.Input None None)) (id 253 (codes "i"))) ∷ (HeaderPortOf (Some (Head direction.Output None None)) (id 256 (codes "o"))) ∷ [])) ((ItemAt 259 (Registers None ((RegisterOf (id 260 (codes "s")) None) ∷ []))) ∷ (ItemAt 262 (Drivers ((Driver (tg 263 (codes "o")) (Binary binary.BitwiseXor (nm 265 (codes "s")) (nm 267 (codes "i")))) ∷ []))) ∷ (ItemAt 269 (Always (Events (record { edge = None; name = id 272 (codes "i") } ∷ [])) (Assignment assignment.Blocking (tg 274 (codes "s")) (nm 276 (codes "i"))))) ∷ [])) ∷ [])

abbrev pub Is_statements_of_every_form : Type 0
Is_statements_of_every_form = shown ((bits (codes "0")) ∷ (bits (codes "1")) ∷ (bits (codes "11zz")) ∷ (bits (codes "00000000")) ∷ (bits (codes "01000000")) ∷ (bits (codes "z")) ∷ (bits (codes "11100111")) ∷ (bits (codes "1")) ∷ (bits (codes "00000x0x")) ∷ (bits (codes "01111110101111111110110111111010")) ∷ (bits (codes "0101")) ∷ (bits (codes "00z0")) ∷ (bits (codes "0000")) ∷ (bits (codes "1000")) ∷ (bits (codes "0")) ∷ (bits (codes "0")) ∷ (bits (codes "0")) ∷ []) (flat_design (plain text_of_statements_of_every_form) (Some (codes "top"))) ≡ Ok (record { signals = (sg (codes "top.clk") 1 Z ∷ sg (codes "top.rst") 1 Z ∷ sg (codes "top.a") 4 Z ∷ sg (codes "top.b") 8 Z ∷ sg (codes "top.y") 8 Z ∷ sg (codes "top.z") 1 Z ∷ sg (codes "top.q") 8 X ∷ sg (codes "top.p") 1 X ∷ sg (codes "top.w") 8 Z ∷ sg (codes "top.i") 32 X ∷ sg (codes "top.m[0]") 4 X ∷ sg (codes "top.m[1]") 4 X ∷ sg (codes "top.m[2]") 4 X ∷ sg (codes "top.m[3]") 4 X ∷ sg (codes "top.u.i") 1 Z ∷ sg (codes "top.u.o") 1 Z ∷ sg (codes "top.u.s") 1 X ∷ []); nodes = (record { path = codes "top"; children = ((codes "clk", spot.Sig (sig 0)) ∷ (codes "rst", spot.Sig (sig 1)) ∷ (codes "a", spot.Sig (sig 2)) ∷ (codes "b", spot.Sig (sig 3)) ∷ (codes "y", spot.Sig (sig 4)) ∷ (codes "z", spot.Sig (sig 5)) ∷ (codes "q", spot.Sig (sig 6)) ∷ (codes "p", spot.Sig (sig 7)) ∷ (codes "w", spot.Sig (sig 8)) ∷ (codes "i", spot.Sig (sig 9)) ∷ (codes "m", spot.Words (sig 10) 0 4) ∷ (codes "u", spot.Inner 1) ∷ []) } ∷ record { path = codes "top.u"; children = ((codes "i", spot.Sig (sig 14)) ∷ (codes "o", spot.Sig (sig 15)) ∷ (codes "s", spot.Sig (sig 16)) ∷ []) } ∷ []); processes = (record { kind = process_kind.Assign; wakes = (wk 6 wake_edge.Any ∷ []); changes = ((8, (bits (codes "11100111"))) ∷ []); updates = ([]) } ∷ record { kind = process_kind.Assign; wakes = (wk 1 wake_edge.Any ∷ wk 6 wake_edge.Any ∷ []); changes = ((4, (bits (codes "10000000"))) ∷ []); updates = ([]) } ∷ record { kind = process_kind.Assign; wakes = (wk 2 wake_edge.Any ∷ []); changes = ((14, (bits (codes "1"))) ∷ []); updates = ([]) } ∷ record { kind = process_kind.Assign; wakes = (wk 15 wake_edge.Any ∷ []); changes = ((5, (bits (codes "0"))) ∷ []); updates = ([]) } ∷ record { kind = process_kind.Assign; wakes = (wk 14 wake_edge.Any ∷ wk 16 wake_edge.Any ∷ []); changes = ([]); updates = ([]) } ∷ record { kind = process_kind.Always; wakes = (wk 14 wake_edge.Any ∷ []); changes = ([]); updates = ([]) } ∷ record { kind = process_kind.Always; wakes = (wk 0 wake_edge.Neg ∷ []); changes = ((6, (bits (codes "00000111"))) ∷ (9, (bits (codes "11000000000000000000000000000000"))) ∷ []); updates = ([]) } ∷ record { kind = process_kind.Always; wakes = (wk 0 wake_edge.Any ∷ wk 1 wake_edge.Any ∷ []); changes = ([]); updates = (up 7 0 (bits (codes "0")) ∷ up 6 0 (bits (codes "11000x0x")) ∷ []) } ∷ []) })

-- module a; endmodule module b; endmodule
abbrev text_of_two_modules_that_nobody_instantiates : List ModuleTree
text_of_two_modules_that_nobody_instantiates = ((ModuleOf (id 1 (codes "a")) ([]) (NamedPorts ([])) ([])) ∷ (ModuleOf (id 5 (codes "b")) ([]) (NamedPorts ([])) ([])) ∷ [])

abbrev pub Is_two_modules_that_nobody_instantiates : Type 0
Is_two_modules_that_nobody_instantiates = flat_design (plain text_of_two_modules_that_nobody_instantiates) None ≡ Err (at rule.NoTop 0)

-- module a; b u(); endmodule module b; a u(); endmodule
abbrev text_of_modules_that_instantiate_one_another : List ModuleTree
text_of_modules_that_instantiate_one_another = ((ModuleOf (id 1 (codes "a")) ([]) (NamedPorts ([])) ((ItemAt 3 (Instance (id 3 (codes "b")) None (id 4 (codes "u")) None)) ∷ [])) ∷ (ModuleOf (id 10 (codes "b")) ([]) (NamedPorts ([])) ((ItemAt 12 (Instance (id 12 (codes "a")) None (id 13 (codes "u")) None)) ∷ [])) ∷ [])

abbrev pub Is_modules_that_instantiate_one_another : Type 0
Is_modules_that_instantiate_one_another = flat_design (plain text_of_modules_that_instantiate_one_another) None ≡ Err (at rule.NoTop 0)

-- module a; a u(); endmodule
abbrev text_of_only_a_module_inside_itself : List ModuleTree
text_of_only_a_module_inside_itself = ((ModuleOf (id 1 (codes "a")) ([]) (NamedPorts ([])) ((ItemAt 3 (Instance (id 3 (codes "a")) None (id 4 (codes "u")) None)) ∷ [])) ∷ [])

abbrev pub Is_only_a_module_inside_itself : Type 0
Is_only_a_module_inside_itself = flat_design (plain text_of_only_a_module_inside_itself) None ≡ Err (at rule.NoTop 0)

-- module a; endmodule
abbrev text_of_a_top_that_is_not_there : List ModuleTree
text_of_a_top_that_is_not_there = ((ModuleOf (id 1 (codes "a")) ([]) (NamedPorts ([])) ([])) ∷ [])

abbrev pub Is_a_top_that_is_not_there : Type 0
Is_a_top_that_is_not_there = flat_design (plain text_of_a_top_that_is_not_there) (Some (codes "b")) ≡ Err (at rule.NoTop 0)

-- module m; nope u(); endmodule
abbrev text_of_an_instance_of_no_module : List ModuleTree
text_of_an_instance_of_no_module = ((ModuleOf (id 1 (codes "m")) ([]) (NamedPorts ([])) ((ItemAt 3 (Instance (id 3 (codes "nope")) None (id 4 (codes "u")) None)) ∷ [])) ∷ [])

abbrev pub Is_an_instance_of_no_module : Type 0
Is_an_instance_of_no_module = flat_design (plain text_of_an_instance_of_no_module) None ≡ Err (at rule.UnknownModule 3)

-- module m; wire a; s u(a); endmodule module s(input i); t v(i); endmodule
abbrev text_of_an_instance_of_no_module_in_a_child : List ModuleTree
text_of_an_instance_of_no_module_in_a_child = ((ModuleOf (id 1 (codes "m")) ([]) (NamedPorts ([])) ((ItemAt 3 (Nets None ((NetOf (id 4 (codes "a")) None) ∷ []))) ∷ (ItemAt 6 (Instance (id 6 (codes "s")) None (id 7 (codes "u")) (Some (Ordered ((nm 9 (codes "a")) ∷ []))))) ∷ [])) ∷ (ModuleOf (id 14 (codes "s")) ([]) (DeclaredPorts ((HeaderPortOf (Some (Head direction.Input None None)) (id 17 (codes "i"))) ∷ [])) ((ItemAt 20 (Instance (id 20 (codes "t")) None (id 21 (codes "v")) (Some (Ordered ((nm 23 (codes "i")) ∷ []))))) ∷ [])) ∷ [])

abbrev pub Is_an_instance_of_no_module_in_a_child : Type 0
Is_an_instance_of_no_module_in_a_child = flat_design (plain text_of_an_instance_of_no_module_in_a_child) None ≡ Err (at rule.UnknownModule 20)

-- module m; nope #(.P(zz)) u(yy); endmodule
abbrev text_of_no_module_before_what_it_is_given : List ModuleTree
text_of_no_module_before_what_it_is_given = ((ModuleOf (id 1 (codes "m")) ([]) (NamedPorts ([])) ((ItemAt 3 (Instance (id 3 (codes "nope")) (Some (NamedConnections ((Connection 6 (id 7 (codes "P")) (Some (nm 9 (codes "zz")))) ∷ []))) (id 12 (codes "u")) (Some (Ordered ((nm 14 (codes "yy")) ∷ []))))) ∷ [])) ∷ [])

abbrev pub Is_no_module_before_what_it_is_given : Type 0
Is_no_module_before_what_it_is_given = flat_design (plain text_of_no_module_before_what_it_is_given) None ≡ Err (at rule.UnknownModule 3)

-- module m; a u(); endmodule module a; a u(); endmodule
abbrev text_of_a_module_inside_itself : List ModuleTree
text_of_a_module_inside_itself = ((ModuleOf (id 1 (codes "m")) ([]) (NamedPorts ([])) ((ItemAt 3 (Instance (id 3 (codes "a")) None (id 4 (codes "u")) None)) ∷ [])) ∷ (ModuleOf (id 10 (codes "a")) ([]) (NamedPorts ([])) ((ItemAt 12 (Instance (id 12 (codes "a")) None (id 13 (codes "u")) None)) ∷ [])) ∷ [])

abbrev pub Is_a_module_inside_itself : Type 0
Is_a_module_inside_itself = flat_design (plain text_of_a_module_inside_itself) None ≡ Err (at rule.RecursiveInstance 12)

-- module m; a u(); endmodule module a; b u(); endmodule module b; a u(); endmodule
abbrev text_of_a_module_inside_itself_through_another : List ModuleTree
text_of_a_module_inside_itself_through_another = ((ModuleOf (id 1 (codes "m")) ([]) (NamedPorts ([])) ((ItemAt 3 (Instance (id 3 (codes "a")) None (id 4 (codes "u")) None)) ∷ [])) ∷ (ModuleOf (id 10 (codes "a")) ([]) (NamedPorts ([])) ((ItemAt 12 (Instance (id 12 (codes "b")) None (id 13 (codes "u")) None)) ∷ [])) ∷ (ModuleOf (id 19 (codes "b")) ([]) (NamedPorts ([])) ((ItemAt 21 (Instance (id 21 (codes "a")) None (id 22 (codes "u")) None)) ∷ [])) ∷ [])

abbrev pub Is_a_module_inside_itself_through_another : Type 0
Is_a_module_inside_itself_through_another = flat_design (plain text_of_a_module_inside_itself_through_another) None ≡ Err (at rule.RecursiveInstance 21)

-- module m; a u(); endmodule module a; b v(); endmodule module b; b w(zz); endmodule
abbrev text_of_a_module_inside_itself_before_its_ports : List ModuleTree
text_of_a_module_inside_itself_before_its_ports = ((ModuleOf (id 1 (codes "m")) ([]) (NamedPorts ([])) ((ItemAt 3 (Instance (id 3 (codes "a")) None (id 4 (codes "u")) None)) ∷ [])) ∷ (ModuleOf (id 10 (codes "a")) ([]) (NamedPorts ([])) ((ItemAt 12 (Instance (id 12 (codes "b")) None (id 13 (codes "v")) None)) ∷ [])) ∷ (ModuleOf (id 19 (codes "b")) ([]) (NamedPorts ([])) ((ItemAt 21 (Instance (id 21 (codes "b")) None (id 22 (codes "w")) (Some (Ordered ((nm 24 (codes "zz")) ∷ []))))) ∷ [])) ∷ [])

abbrev pub Is_a_module_inside_itself_before_its_ports : Type 0
Is_a_module_inside_itself_before_its_ports = flat_design (plain text_of_a_module_inside_itself_before_its_ports) None ≡ Err (at rule.RecursiveInstance 21)

-- module a; endmodule module a; endmodule
abbrev text_of_two_modules_of_a_name : List ModuleTree
text_of_two_modules_of_a_name = ((ModuleOf (id 1 (codes "a")) ([]) (NamedPorts ([])) ([])) ∷ (ModuleOf (id 5 (codes "a")) ([]) (NamedPorts ([])) ([])) ∷ [])

abbrev pub Is_two_modules_of_a_name : Type 0
Is_two_modules_of_a_name = flat_design (plain text_of_two_modules_of_a_name) None ≡ Err (at rule.DuplicateName 5)

-- module m; wire a; parameter a = 1; endmodule
abbrev text_of_a_parameter_of_a_nets_name : List ModuleTree
text_of_a_parameter_of_a_nets_name = ((ModuleOf (id 1 (codes "m")) ([]) (NamedPorts ([])) ((ItemAt 3 (Nets None ((NetOf (id 4 (codes "a")) None) ∷ []))) ∷ (ItemAt 6 (Parameters parameter_kind.Parameter None ((ParameterOf (id 7 (codes "a")) (num 9 32 1)) ∷ []))) ∷ [])) ∷ [])

abbrev pub Is_a_parameter_of_a_nets_name : Type 0
Is_a_parameter_of_a_nets_name = flat_design (plain text_of_a_parameter_of_a_nets_name) None ≡ Err (at rule.DuplicateName 4)

-- module m(q); output [1:0] q; reg [0:1] q; endmodule
abbrev text_of_a_port_declared_again_with_other_bounds : List ModuleTree
text_of_a_port_declared_again_with_other_bounds = ((ModuleOf (id 1 (codes "m")) ([]) (NamedPorts ((id 3 (codes "q")) ∷ [])) ((ItemAt 6 (Ports (Head direction.Output None (Some (BoundsTree 7 (num 8 32 1) (num 10 32 0)))) ((id 12 (codes "q")) ∷ []))) ∷ (ItemAt 14 (Registers (Some (BoundsTree 15 (num 16 32 0) (num 18 32 1))) ((RegisterOf (id 20 (codes "q")) None) ∷ []))) ∷ [])) ∷ [])

abbrev pub Is_a_port_declared_again_with_other_bounds : Type 0
Is_a_port_declared_again_with_other_bounds = flat_design (plain text_of_a_port_declared_again_with_other_bounds) None ≡ Err (at rule.DuplicateName 20)

-- module m(q); output q; reg q [0:1]; endmodule
abbrev text_of_a_port_declared_again_as_a_memory : List ModuleTree
text_of_a_port_declared_again_as_a_memory = ((ModuleOf (id 1 (codes "m")) ([]) (NamedPorts ((id 3 (codes "q")) ∷ [])) ((ItemAt 6 (Ports (Head direction.Output None None) ((id 7 (codes "q")) ∷ []))) ∷ (ItemAt 9 (Registers None ((RegisterOf (id 10 (codes "q")) (Some (Words (BoundsTree 11 (num 12 32 0) (num 14 32 1))))) ∷ []))) ∷ [])) ∷ [])

abbrev pub Is_a_port_declared_again_as_a_memory : Type 0
Is_a_port_declared_again_as_a_memory = flat_design (plain text_of_a_port_declared_again_as_a_memory) None ≡ Err (at rule.DuplicateName 10)

-- module m; s u(); t v(); endmodule module s(input a); wire a; wire a; endmodule
abbrev text_of_a_subtree_is_walked_at_its_item : List ModuleTree
text_of_a_subtree_is_walked_at_its_item = ((ModuleOf (id 1 (codes "m")) ([]) (NamedPorts ([])) ((ItemAt 3 (Instance (id 3 (codes "s")) None (id 4 (codes "u")) None)) ∷ (ItemAt 8 (Instance (id 8 (codes "t")) None (id 9 (codes "v")) None)) ∷ [])) ∷ (ModuleOf (id 15 (codes "s")) ([]) (DeclaredPorts ((HeaderPortOf (Some (Head direction.Input None None)) (id 18 (codes "a"))) ∷ [])) ((ItemAt 21 (Nets None ((NetOf (id 22 (codes "a")) None) ∷ []))) ∷ (ItemAt 24 (Nets None ((NetOf (id 25 (codes "a")) None) ∷ []))) ∷ [])) ∷ [])

abbrev pub Is_a_subtree_is_walked_at_its_item : Type 0
Is_a_subtree_is_walked_at_its_item = flat_design (plain text_of_a_subtree_is_walked_at_its_item) None ≡ Err (at rule.DuplicateName 25)

-- module m(output y); assign y = 1 + zz; endmodule
abbrev text_of_an_undeclared_name : List ModuleTree
text_of_an_undeclared_name = ((ModuleOf (id 1 (codes "m")) ([]) (DeclaredPorts ((HeaderPortOf (Some (Head direction.Output None None)) (id 4 (codes "y"))) ∷ [])) ((ItemAt 7 (Drivers ((Driver (tg 8 (codes "y")) (Binary binary.Add (num 10 32 1) (nm 12 (codes "zz")))) ∷ []))) ∷ [])) ∷ [])

abbrev pub Is_an_undeclared_name : Type 0
Is_an_undeclared_name = flat_design (plain text_of_an_undeclared_name) None ≡ Err (at rule.UnknownName 12)

-- module m; integer i; initial for (i = 0; 0; zz = 1) ; endmodule
abbrev text_of_an_undeclared_second_name_of_a_for : List ModuleTree
text_of_an_undeclared_second_name_of_a_for = ((ModuleOf (id 1 (codes "m")) ([]) (NamedPorts ([])) ((ItemAt 3 (Integers ((id 4 (codes "i")) ∷ []))) ∷ (ItemAt 6 (Initial (For 7 (Header (Assigned (id 9 (codes "i")) (num 11 32 0)) (num 13 32 0) (Assigned (id 15 (codes "zz")) (num 17 32 1))) Null))) ∷ [])) ∷ [])

abbrev pub Is_an_undeclared_second_name_of_a_for : Type 0
Is_an_undeclared_second_name_of_a_for = flat_design (plain text_of_an_undeclared_second_name_of_a_for) None ≡ Err (at rule.UnknownName 15)

-- module m; wire a; assign a = zz; wire [N:0] c; endmodule
abbrev text_of_declarations_before_items : List ModuleTree
text_of_declarations_before_items = ((ModuleOf (id 1 (codes "m")) ([]) (NamedPorts ([])) ((ItemAt 3 (Nets None ((NetOf (id 4 (codes "a")) None) ∷ []))) ∷ (ItemAt 6 (Drivers ((Driver (tg 7 (codes "a")) (nm 9 (codes "zz"))) ∷ []))) ∷ (ItemAt 11 (Nets (Some (BoundsTree 12 (nm 13 (codes "N")) (num 15 32 0))) ((NetOf (id 17 (codes "c")) None) ∷ []))) ∷ [])) ∷ [])

abbrev pub Is_declarations_before_items : Type 0
Is_declarations_before_items = flat_design (plain text_of_declarations_before_items) None ≡ Err (at rule.UnknownName 13)

-- module m; wire [127:0] a; wire c = {a, a, zz}; endmodule
abbrev text_of_a_lost_width_asks_nothing : List ModuleTree
text_of_a_lost_width_asks_nothing = ((ModuleOf (id 1 (codes "m")) ([]) (NamedPorts ([])) ((ItemAt 3 (Nets (Some (BoundsTree 4 (num 5 32 127) (num 7 32 0))) ((NetOf (id 9 (codes "a")) None) ∷ []))) ∷ (ItemAt 11 (Nets None ((NetOf (id 12 (codes "c")) (Some (Concatenation 14 (trees ((nm 15 (codes "a")) ∷ (nm 17 (codes "a")) ∷ (nm 19 (codes "zz")) ∷ []))))) ∷ []))) ∷ [])) ∷ [])

abbrev pub Is_a_lost_width_asks_nothing : Type 0
Is_a_lost_width_asks_nothing = flat_design (plain text_of_a_lost_width_asks_nothing) None ≡ Err (at rule.UnknownName 19)

-- module m; wire [127:0] a; reg [7:0] r [0:3]; wire b = {a, r[zz]}; endmodule
abbrev text_of_the_word_of_an_undeclared_index : List ModuleTree
text_of_the_word_of_an_undeclared_index = ((ModuleOf (id 1 (codes "m")) ([]) (NamedPorts ([])) ((ItemAt 3 (Nets (Some (BoundsTree 4 (num 5 32 127) (num 7 32 0))) ((NetOf (id 9 (codes "a")) None) ∷ []))) ∷ (ItemAt 11 (Registers (Some (BoundsTree 12 (num 13 32 7) (num 15 32 0))) ((RegisterOf (id 17 (codes "r")) (Some (Words (BoundsTree 18 (num 19 32 0) (num 21 32 3))))) ∷ []))) ∷ (ItemAt 24 (Nets None ((NetOf (id 25 (codes "b")) (Some (Concatenation 27 (trees ((nm 28 (codes "a")) ∷ (Named 30 (codes "r") (OneSelect (Bit 31 (nm 32 (codes "zz"))))) ∷ []))))) ∷ []))) ∷ [])) ∷ [])

abbrev pub Is_the_word_of_an_undeclared_index : Type 0
Is_the_word_of_an_undeclared_index = flat_design (plain text_of_the_word_of_an_undeclared_index) None ≡ Err (at rule.UnknownName 32)

-- module m; wire [127:0] a; wire [7:0] r; wire b = {a, r[zz]}; endmodule
abbrev text_of_the_digit_of_an_undeclared_index : List ModuleTree
text_of_the_digit_of_an_undeclared_index = ((ModuleOf (id 1 (codes "m")) ([]) (NamedPorts ([])) ((ItemAt 3 (Nets (Some (BoundsTree 4 (num 5 32 127) (num 7 32 0))) ((NetOf (id 9 (codes "a")) None) ∷ []))) ∷ (ItemAt 11 (Nets (Some (BoundsTree 12 (num 13 32 7) (num 15 32 0))) ((NetOf (id 17 (codes "r")) None) ∷ []))) ∷ (ItemAt 19 (Nets None ((NetOf (id 20 (codes "b")) (Some (Concatenation 22 (trees ((nm 23 (codes "a")) ∷ (Named 25 (codes "r") (OneSelect (Bit 26 (nm 27 (codes "zz"))))) ∷ []))))) ∷ []))) ∷ [])) ∷ [])

abbrev pub Is_the_digit_of_an_undeclared_index : Type 0
Is_the_digit_of_an_undeclared_index = flat_design (plain text_of_the_digit_of_an_undeclared_index) None ≡ Err (at rule.UnknownName 27)

-- module m(a, q); output q; endmodule
abbrev text_of_a_port_without_direction : List ModuleTree
text_of_a_port_without_direction = ((ModuleOf (id 1 (codes "m")) ([]) (NamedPorts ((id 3 (codes "a")) ∷ (id 5 (codes "q")) ∷ [])) ((ItemAt 8 (Ports (Head direction.Output None None) ((id 9 (codes "q")) ∷ []))) ∷ [])) ∷ [])

abbrev pub Is_a_port_without_direction : Type 0
Is_a_port_without_direction = flat_design (plain text_of_a_port_without_direction) None ≡ Err (at rule.BadPort 3)

-- module m(a); input a; reg a; endmodule
abbrev text_of_an_input_that_is_a_register : List ModuleTree
text_of_an_input_that_is_a_register = ((ModuleOf (id 1 (codes "m")) ([]) (NamedPorts ((id 3 (codes "a")) ∷ [])) ((ItemAt 6 (Ports (Head direction.Input None None) ((id 7 (codes "a")) ∷ []))) ∷ (ItemAt 9 (Registers None ((RegisterOf (id 10 (codes "a")) None) ∷ []))) ∷ [])) ∷ [])

abbrev pub Is_an_input_that_is_a_register : Type 0
Is_an_input_that_is_a_register = flat_design (plain text_of_an_input_that_is_a_register) None ≡ Err (at rule.BadPort 10)

-- module m; wire a; s u(.o(a), .o(a)); endmodule module s(output o); endmodule
abbrev text_of_a_port_connected_twice : List ModuleTree
text_of_a_port_connected_twice = ((ModuleOf (id 1 (codes "m")) ([]) (NamedPorts ([])) ((ItemAt 3 (Nets None ((NetOf (id 4 (codes "a")) None) ∷ []))) ∷ (ItemAt 6 (Instance (id 6 (codes "s")) None (id 7 (codes "u")) (Some (NamedConnections ((Connection 9 (id 10 (codes "o")) (Some (nm 12 (codes "a")))) ∷ (Connection 15 (id 16 (codes "o")) (Some (nm 18 (codes "a")))) ∷ []))))) ∷ [])) ∷ (ModuleOf (id 24 (codes "s")) ([]) (DeclaredPorts ((HeaderPortOf (Some (Head direction.Output None None)) (id 27 (codes "o"))) ∷ [])) ([])) ∷ [])

abbrev pub Is_a_port_connected_twice : Type 0
Is_a_port_connected_twice = flat_design (plain text_of_a_port_connected_twice) None ≡ Err (at rule.BadPort 16)

-- module m; s #(.B(2)) u(); endmodule module s; localparam B = 2; endmodule
abbrev text_of_an_override_of_a_localparam : List ModuleTree
text_of_an_override_of_a_localparam = ((ModuleOf (id 1 (codes "m")) ([]) (NamedPorts ([])) ((ItemAt 3 (Instance (id 3 (codes "s")) (Some (NamedConnections ((Connection 6 (id 7 (codes "B")) (Some (num 9 32 2))) ∷ []))) (id 12 (codes "u")) None)) ∷ [])) ∷ (ModuleOf (id 18 (codes "s")) ([]) (NamedPorts ([])) ((ItemAt 20 (Parameters parameter_kind.LocalParam None ((ParameterOf (id 21 (codes "B")) (num 23 32 2)) ∷ []))) ∷ [])) ∷ [])

abbrev pub Is_an_override_of_a_localparam : Type 0
Is_an_override_of_a_localparam = flat_design (plain text_of_an_override_of_a_localparam) None ≡ Err (at rule.BadPort 7)

-- module m(input a); wire [a:0] y; endmodule
abbrev text_of_a_range_of_a_net : List ModuleTree
text_of_a_range_of_a_net = ((ModuleOf (id 1 (codes "m")) ([]) (DeclaredPorts ((HeaderPortOf (Some (Head direction.Input None None)) (id 4 (codes "a"))) ∷ [])) ((ItemAt 7 (Nets (Some (BoundsTree 8 (nm 9 (codes "a")) (num 11 32 0))) ((NetOf (id 13 (codes "y")) None) ∷ []))) ∷ [])) ∷ [])

abbrev pub Is_a_range_of_a_net : Type 0
Is_a_range_of_a_net = flat_design (plain text_of_a_range_of_a_net) None ≡ Err (at rule.NotConstant 9)

-- module m; parameter P = 2'b1x; endmodule
abbrev text_of_a_parameter_with_an_unknown_digit : List ModuleTree
text_of_a_parameter_with_an_unknown_digit = ((ModuleOf (id 1 (codes "m")) ([]) (NamedPorts ([])) ((ItemAt 3 (Parameters parameter_kind.Parameter None ((ParameterOf (id 4 (codes "P")) (Number 6 (bits (codes "x1")))) ∷ []))) ∷ [])) ∷ [])

abbrev pub Is_a_parameter_with_an_unknown_digit : Type 0
Is_a_parameter_with_an_unknown_digit = flat_design (plain text_of_a_parameter_with_an_unknown_digit) None ≡ Err (at rule.NotConstant 6)

-- module m(input a, output [1:0] y); assign y[a] = 1; endmodule
abbrev text_of_a_driven_digit_at_an_index : List ModuleTree
text_of_a_driven_digit_at_an_index = ((ModuleOf (id 1 (codes "m")) ([]) (DeclaredPorts ((HeaderPortOf (Some (Head direction.Input None None)) (id 4 (codes "a"))) ∷ (HeaderPortOf (Some (Head direction.Output None (Some (BoundsTree 7 (num 8 32 1) (num 10 32 0))))) (id 12 (codes "y"))) ∷ [])) ((ItemAt 15 (Drivers ((Driver (NamedTarget 16 (codes "y") (OneSelect (Bit 17 (nm 18 (codes "a"))))) (num 21 32 1)) ∷ []))) ∷ [])) ∷ [])

abbrev pub Is_a_driven_digit_at_an_index : Type 0
Is_a_driven_digit_at_an_index = flat_design (plain text_of_a_driven_digit_at_an_index) None ≡ Err (at rule.NotConstant 18)

-- module m; parameter A = B; parameter B = 1; endmodule
abbrev text_of_a_parameter_before_its_declaration : List ModuleTree
text_of_a_parameter_before_its_declaration = ((ModuleOf (id 1 (codes "m")) ([]) (NamedPorts ([])) ((ItemAt 3 (Parameters parameter_kind.Parameter None ((ParameterOf (id 4 (codes "A")) (nm 6 (codes "B"))) ∷ []))) ∷ (ItemAt 8 (Parameters parameter_kind.Parameter None ((ParameterOf (id 9 (codes "B")) (num 11 32 1)) ∷ []))) ∷ [])) ∷ [])

abbrev pub Is_a_parameter_before_its_declaration : Type 0
Is_a_parameter_before_its_declaration = flat_design (plain text_of_a_parameter_before_its_declaration) None ≡ Err (at rule.NotConstant 6)

-- module m(input [0:3] a, output y); assign y = a[1:0]; endmodule
abbrev text_of_a_part_against_a_rising_range : List ModuleTree
text_of_a_part_against_a_rising_range = ((ModuleOf (id 1 (codes "m")) ([]) (DeclaredPorts ((HeaderPortOf (Some (Head direction.Input None (Some (BoundsTree 4 (num 5 32 0) (num 7 32 3))))) (id 9 (codes "a"))) ∷ (HeaderPortOf (Some (Head direction.Output None None)) (id 12 (codes "y"))) ∷ [])) ((ItemAt 15 (Drivers ((Driver (tg 16 (codes "y")) (Named 18 (codes "a") (OneSelect (Part 19 (num 20 32 1) (num 22 32 0))))) ∷ []))) ∷ [])) ∷ [])

abbrev pub Is_a_part_against_a_rising_range : Type 0
Is_a_part_against_a_rising_range = flat_design (plain text_of_a_part_against_a_rising_range) None ≡ Err (at rule.BadRange 19)

-- module m(output y); reg m1 [3:0]; assign y = m1[1:0]; endmodule
abbrev text_of_a_part_of_a_memory : List ModuleTree
text_of_a_part_of_a_memory = ((ModuleOf (id 1 (codes "m")) ([]) (DeclaredPorts ((HeaderPortOf (Some (Head direction.Output None None)) (id 4 (codes "y"))) ∷ [])) ((ItemAt 7 (Registers None ((RegisterOf (id 8 (codes "m1")) (Some (Words (BoundsTree 9 (num 10 32 3) (num 12 32 0))))) ∷ []))) ∷ (ItemAt 15 (Drivers ((Driver (tg 16 (codes "y")) (Named 18 (codes "m1") (OneSelect (Part 19 (num 20 32 1) (num 22 32 0))))) ∷ []))) ∷ [])) ∷ [])

abbrev pub Is_a_part_of_a_memory : Type 0
Is_a_part_of_a_memory = flat_design (plain text_of_a_part_of_a_memory) None ≡ Err (at rule.BadRange 19)

-- module m(input [3:0] a, output y); assign y = a[1][0]; endmodule
abbrev text_of_two_selects_of_a_vector : List ModuleTree
text_of_two_selects_of_a_vector = ((ModuleOf (id 1 (codes "m")) ([]) (DeclaredPorts ((HeaderPortOf (Some (Head direction.Input None (Some (BoundsTree 4 (num 5 32 3) (num 7 32 0))))) (id 9 (codes "a"))) ∷ (HeaderPortOf (Some (Head direction.Output None None)) (id 12 (codes "y"))) ∷ [])) ((ItemAt 15 (Drivers ((Driver (tg 16 (codes "y")) (Named 18 (codes "a") (OfWord 19 (num 20 32 1) (Bit 22 (num 23 32 0))))) ∷ []))) ∷ [])) ∷ [])

abbrev pub Is_two_selects_of_a_vector : Type 0
Is_two_selects_of_a_vector = flat_design (plain text_of_two_selects_of_a_vector) None ≡ Err (at rule.BadRange 22)

-- module m; wire [3:0] a; wire b = {0{a}}; endmodule
abbrev text_of_a_replication_of_nothing : List ModuleTree
text_of_a_replication_of_nothing = ((ModuleOf (id 1 (codes "m")) ([]) (NamedPorts ([])) ((ItemAt 3 (Nets (Some (BoundsTree 4 (num 5 32 3) (num 7 32 0))) ((NetOf (id 9 (codes "a")) None) ∷ []))) ∷ (ItemAt 11 (Nets None ((NetOf (id 12 (codes "b")) (Some (Replication 14 (num 15 32 0) (trees ((nm 17 (codes "a")) ∷ []))))) ∷ []))) ∷ [])) ∷ [])

abbrev pub Is_a_replication_of_nothing : Type 0
Is_a_replication_of_nothing = flat_design (plain text_of_a_replication_of_nothing) None ≡ Err (at rule.BadRange 15)

-- module m; reg a [1:0]; always @(a) ; endmodule
abbrev text_of_an_event_on_a_memory : List ModuleTree
text_of_an_event_on_a_memory = ((ModuleOf (id 1 (codes "m")) ([]) (NamedPorts ([])) ((ItemAt 3 (Registers None ((RegisterOf (id 4 (codes "a")) (Some (Words (BoundsTree 5 (num 6 32 1) (num 8 32 0))))) ∷ []))) ∷ (ItemAt 11 (Always (Events (record { edge = None; name = id 14 (codes "a") } ∷ [])) Null)) ∷ [])) ∷ [])

abbrev pub Is_an_event_on_a_memory : Type 0
Is_an_event_on_a_memory = flat_design (plain text_of_an_event_on_a_memory) None ≡ Err (at rule.BadRange 14)

-- module top(input [128:0] a);
-- endmodule
abbrev text_of_a_port_of_129_digits : List ModuleTree
text_of_a_port_of_129_digits = ((ModuleOf (id 1 (codes "top")) ([]) (DeclaredPorts ((HeaderPortOf (Some (Head direction.Input None (Some (BoundsTree 4 (num 5 32 128) (num 7 32 0))))) (id 9 (codes "a"))) ∷ [])) ([])) ∷ [])

abbrev pub Is_a_port_of_129_digits : Type 0
Is_a_port_of_129_digits = flat_design (plain text_of_a_port_of_129_digits) None ≡ Err (at rule.TooWide 4)

-- module m(output y); assign y = 1 == {5{32'd1}}; endmodule
abbrev text_of_a_wide_part_of_a_comparison : List ModuleTree
text_of_a_wide_part_of_a_comparison = ((ModuleOf (id 1 (codes "m")) ([]) (DeclaredPorts ((HeaderPortOf (Some (Head direction.Output None None)) (id 4 (codes "y"))) ∷ [])) ((ItemAt 7 (Drivers ((Driver (tg 8 (codes "y")) (Binary binary.Equal (num 10 32 1) (Replication 12 (num 13 32 5) (trees ((num 15 32 1) ∷ []))))) ∷ []))) ∷ [])) ∷ [])

abbrev pub Is_a_wide_part_of_a_comparison : Type 0
Is_a_wide_part_of_a_comparison = flat_design (plain text_of_a_wide_part_of_a_comparison) None ≡ Err (at rule.TooWide 12)

-- module m; wire a, b; wire c = b + {200{a}}; endmodule
abbrev text_of_the_whole_is_too_wide_before_its_part : List ModuleTree
text_of_the_whole_is_too_wide_before_its_part = ((ModuleOf (id 1 (codes "m")) ([]) (NamedPorts ([])) ((ItemAt 3 (Nets None ((NetOf (id 4 (codes "a")) None) ∷ (NetOf (id 6 (codes "b")) None) ∷ []))) ∷ (ItemAt 8 (Nets None ((NetOf (id 9 (codes "c")) (Some (Binary binary.Add (nm 11 (codes "b")) (Replication 13 (num 14 32 200) (trees ((nm 16 (codes "a")) ∷ [])))))) ∷ []))) ∷ [])) ∷ [])

abbrev pub Is_the_whole_is_too_wide_before_its_part : Type 0
Is_the_whole_is_too_wide_before_its_part = flat_design (plain text_of_the_whole_is_too_wide_before_its_part) None ≡ Err (at rule.TooWide 11)

-- module m; wire [3:0] a; wire b = a[0:200]; endmodule
abbrev text_of_a_part_of_201_digits : List ModuleTree
text_of_a_part_of_201_digits = ((ModuleOf (id 1 (codes "m")) ([]) (NamedPorts ([])) ((ItemAt 3 (Nets (Some (BoundsTree 4 (num 5 32 3) (num 7 32 0))) ((NetOf (id 9 (codes "a")) None) ∷ []))) ∷ (ItemAt 11 (Nets None ((NetOf (id 12 (codes "b")) (Some (Named 14 (codes "a") (OneSelect (Part 15 (num 16 32 0) (num 18 32 200)))))) ∷ []))) ∷ [])) ∷ [])

abbrev pub Is_a_part_of_201_digits : Type 0
Is_a_part_of_201_digits = flat_design (plain text_of_a_part_of_201_digits) None ≡ Err (at rule.TooWide 14)

-- module m; wire [3:0] a; wire b = a[zz +: 200]; endmodule
abbrev text_of_a_part_of_200_digits_from_an_unknown_index : List ModuleTree
text_of_a_part_of_200_digits_from_an_unknown_index = ((ModuleOf (id 1 (codes "m")) ([]) (NamedPorts ([])) ((ItemAt 3 (Nets (Some (BoundsTree 4 (num 5 32 3) (num 7 32 0))) ((NetOf (id 9 (codes "a")) None) ∷ []))) ∷ (ItemAt 11 (Nets None ((NetOf (id 12 (codes "b")) (Some (Named 14 (codes "a") (OneSelect (IndexedPart 15 (nm 16 (codes "zz")) (num 18 32 200)))))) ∷ []))) ∷ [])) ∷ [])

abbrev pub Is_a_part_of_200_digits_from_an_unknown_index : Type 0
Is_a_part_of_200_digits_from_an_unknown_index = flat_design (plain text_of_a_part_of_200_digits_from_an_unknown_index) None ≡ Err (at rule.UnknownName 16)

-- module m; reg [7:0] r [0:3]; wire b = r[zz][0 +: 200]; endmodule
abbrev text_of_a_part_of_200_digits_of_an_unknown_word : List ModuleTree
text_of_a_part_of_200_digits_of_an_unknown_word = ((ModuleOf (id 1 (codes "m")) ([]) (NamedPorts ([])) ((ItemAt 3 (Registers (Some (BoundsTree 4 (num 5 32 7) (num 7 32 0))) ((RegisterOf (id 9 (codes "r")) (Some (Words (BoundsTree 10 (num 11 32 0) (num 13 32 3))))) ∷ []))) ∷ (ItemAt 16 (Nets None ((NetOf (id 17 (codes "b")) (Some (Named 19 (codes "r") (OfWord 20 (nm 21 (codes "zz")) (IndexedPart 23 (num 24 32 0) (num 26 32 200)))))) ∷ []))) ∷ [])) ∷ [])

abbrev pub Is_a_part_of_200_digits_of_an_unknown_word : Type 0
Is_a_part_of_200_digits_of_an_unknown_word = flat_design (plain text_of_a_part_of_200_digits_of_an_unknown_word) None ≡ Err (at rule.UnknownName 21)

-- module top(input a, output y);
--   assign y = a;
--   assign y = a;
-- endmodule
abbrev text_of_two_assignments_of_a_net : List ModuleTree
text_of_two_assignments_of_a_net = ((ModuleOf (id 1 (codes "top")) ([]) (DeclaredPorts ((HeaderPortOf (Some (Head direction.Input None None)) (id 4 (codes "a"))) ∷ (HeaderPortOf (Some (Head direction.Output None None)) (id 7 (codes "y"))) ∷ [])) ((ItemAt 10 (Drivers ((Driver (tg 11 (codes "y")) (nm 13 (codes "a"))) ∷ []))) ∷ (ItemAt 15 (Drivers ((Driver (tg 16 (codes "y")) (nm 18 (codes "a"))) ∷ []))) ∷ [])) ∷ [])

abbrev pub Is_two_assignments_of_a_net : Type 0
Is_two_assignments_of_a_net = flat_design (plain text_of_two_assignments_of_a_net) None ≡ Err (at rule.TwoDrivers 16)

-- module m; wire [3:0] a; assign a[1:0] = 1, a[3:2] = 0; assign a[4] = 1; assign a[3] = 1; endmodule
abbrev text_of_digits_driven_twice : List ModuleTree
text_of_digits_driven_twice = ((ModuleOf (id 1 (codes "m")) ([]) (NamedPorts ([])) ((ItemAt 3 (Nets (Some (BoundsTree 4 (num 5 32 3) (num 7 32 0))) ((NetOf (id 9 (codes "a")) None) ∷ []))) ∷ (ItemAt 11 (Drivers ((Driver (NamedTarget 12 (codes "a") (OneSelect (Part 13 (num 14 32 1) (num 16 32 0)))) (num 19 32 1)) ∷ (Driver (NamedTarget 21 (codes "a") (OneSelect (Part 22 (num 23 32 3) (num 25 32 2)))) (num 28 32 0)) ∷ []))) ∷ (ItemAt 30 (Drivers ((Driver (NamedTarget 31 (codes "a") (OneSelect (Bit 32 (num 33 32 4)))) (num 36 32 1)) ∷ []))) ∷ (ItemAt 38 (Drivers ((Driver (NamedTarget 39 (codes "a") (OneSelect (Bit 40 (num 41 32 3)))) (num 44 32 1)) ∷ []))) ∷ [])) ∷ [])

abbrev pub Is_digits_driven_twice : Type 0
Is_digits_driven_twice = flat_design (plain text_of_digits_driven_twice) None ≡ Err (at rule.TwoDrivers 39)

-- module m(output y); assign {y, y} = 1; endmodule
abbrev text_of_a_net_twice_in_a_braced_target : List ModuleTree
text_of_a_net_twice_in_a_braced_target = ((ModuleOf (id 1 (codes "m")) ([]) (DeclaredPorts ((HeaderPortOf (Some (Head direction.Output None None)) (id 4 (codes "y"))) ∷ [])) ((ItemAt 7 (Drivers ((Driver (JoinedTarget 8 (targets ((tg 9 (codes "y")) ∷ (tg 11 (codes "y")) ∷ []))) (num 14 32 1)) ∷ []))) ∷ [])) ∷ [])

abbrev pub Is_a_net_twice_in_a_braced_target : Type 0
Is_a_net_twice_in_a_braced_target = flat_design (plain text_of_a_net_twice_in_a_braced_target) None ≡ Err (at rule.TwoDrivers 11)

-- module m(input a); assign a = 1; endmodule
abbrev text_of_an_assignment_of_an_input : List ModuleTree
text_of_an_assignment_of_an_input = ((ModuleOf (id 1 (codes "m")) ([]) (DeclaredPorts ((HeaderPortOf (Some (Head direction.Input None None)) (id 4 (codes "a"))) ∷ [])) ((ItemAt 7 (Drivers ((Driver (tg 8 (codes "a")) (num 10 32 1)) ∷ []))) ∷ [])) ∷ [])

abbrev pub Is_an_assignment_of_an_input : Type 0
Is_an_assignment_of_an_input = flat_design (plain text_of_an_assignment_of_an_input) None ≡ Err (at rule.TwoDrivers 8)

-- module m(output y); assign y = 1; s u(y); endmodule module s(output o); endmodule
abbrev text_of_an_output_joined_to_a_driven_net : List ModuleTree
text_of_an_output_joined_to_a_driven_net = ((ModuleOf (id 1 (codes "m")) ([]) (DeclaredPorts ((HeaderPortOf (Some (Head direction.Output None None)) (id 4 (codes "y"))) ∷ [])) ((ItemAt 7 (Drivers ((Driver (tg 8 (codes "y")) (num 10 32 1)) ∷ []))) ∷ (ItemAt 12 (Instance (id 12 (codes "s")) None (id 13 (codes "u")) (Some (Ordered ((nm 15 (codes "y")) ∷ []))))) ∷ [])) ∷ (ModuleOf (id 20 (codes "s")) ([]) (DeclaredPorts ((HeaderPortOf (Some (Head direction.Output None None)) (id 23 (codes "o"))) ∷ [])) ([])) ∷ [])

abbrev pub Is_an_output_joined_to_a_driven_net : Type 0
Is_an_output_joined_to_a_driven_net = flat_design (plain text_of_an_output_joined_to_a_driven_net) None ≡ Err (at rule.TwoDrivers 15)

-- module m(output y); initial y = 1; endmodule
abbrev text_of_a_net_in_a_procedure : List ModuleTree
text_of_a_net_in_a_procedure = ((ModuleOf (id 1 (codes "m")) ([]) (DeclaredPorts ((HeaderPortOf (Some (Head direction.Output None None)) (id 4 (codes "y"))) ∷ [])) ((ItemAt 7 (Initial (Assignment assignment.Blocking (tg 8 (codes "y")) (num 10 32 1)))) ∷ [])) ∷ [])

abbrev pub Is_a_net_in_a_procedure : Type 0
Is_a_net_in_a_procedure = flat_design (plain text_of_a_net_in_a_procedure) None ≡ Err (at rule.BadTarget 8)

-- module m(output reg y); assign y = 1; endmodule
abbrev text_of_a_register_in_an_assignment : List ModuleTree
text_of_a_register_in_an_assignment = ((ModuleOf (id 1 (codes "m")) ([]) (DeclaredPorts ((HeaderPortOf (Some (Head direction.Output (Some port_kind.Reg) None)) (id 5 (codes "y"))) ∷ [])) ((ItemAt 8 (Drivers ((Driver (tg 9 (codes "y")) (num 11 32 1)) ∷ []))) ∷ [])) ∷ [])

abbrev pub Is_a_register_in_an_assignment : Type 0
Is_a_register_in_an_assignment = flat_design (plain text_of_a_register_in_an_assignment) None ≡ Err (at rule.BadTarget 9)

-- module m; reg i; reg j; initial for (i = 0; i < 1; i = 1) begin j = 1; i = 1; end endmodule
abbrev text_of_the_variable_of_a_loop_as_a_target : List ModuleTree
text_of_the_variable_of_a_loop_as_a_target = ((ModuleOf (id 1 (codes "m")) ([]) (NamedPorts ([])) ((ItemAt 3 (Registers None ((RegisterOf (id 4 (codes "i")) None) ∷ []))) ∷ (ItemAt 6 (Registers None ((RegisterOf (id 7 (codes "j")) None) ∷ []))) ∷ (ItemAt 9 (Initial (For 10 (Header (Assigned (id 12 (codes "i")) (num 14 32 0)) (Binary binary.Less (nm 16 (codes "i")) (num 18 32 1)) (Assigned (id 20 (codes "i")) (num 22 32 1))) (Block None (statement_trees ((Assignment assignment.Blocking (tg 25 (codes "j")) (num 27 32 1)) ∷ (Assignment assignment.Blocking (tg 29 (codes "i")) (num 31 32 1)) ∷ [])))))) ∷ [])) ∷ [])

abbrev pub Is_the_variable_of_a_loop_as_a_target : Type 0
Is_the_variable_of_a_loop_as_a_target = flat_design (plain text_of_the_variable_of_a_loop_as_a_target) None ≡ Err (at rule.BadTarget 29)

-- module m; integer i, j; initial for (i = 0; 1; j = 1) ; endmodule
abbrev text_of_a_for_of_two_names : List ModuleTree
text_of_a_for_of_two_names = ((ModuleOf (id 1 (codes "m")) ([]) (NamedPorts ([])) ((ItemAt 3 (Integers ((id 4 (codes "i")) ∷ (id 6 (codes "j")) ∷ []))) ∷ (ItemAt 8 (Initial (For 9 (Header (Assigned (id 11 (codes "i")) (num 13 32 0)) (num 15 32 1) (Assigned (id 17 (codes "j")) (num 19 32 1))) Null))) ∷ [])) ∷ [])

abbrev pub Is_a_for_of_two_names : Type 0
Is_a_for_of_two_names = flat_design (plain text_of_a_for_of_two_names) None ≡ Err (at rule.BadTarget 17)

-- module m(input a); s u(a + 1); endmodule module s(output o); endmodule
abbrev text_of_an_output_joined_to_a_sum : List ModuleTree
text_of_an_output_joined_to_a_sum = ((ModuleOf (id 1 (codes "m")) ([]) (DeclaredPorts ((HeaderPortOf (Some (Head direction.Input None None)) (id 4 (codes "a"))) ∷ [])) ((ItemAt 7 (Instance (id 7 (codes "s")) None (id 8 (codes "u")) (Some (Ordered ((Binary binary.Add (nm 10 (codes "a")) (num 12 32 1)) ∷ []))))) ∷ [])) ∷ (ModuleOf (id 17 (codes "s")) ([]) (DeclaredPorts ((HeaderPortOf (Some (Head direction.Output None None)) (id 20 (codes "o"))) ∷ [])) ([])) ∷ [])

abbrev pub Is_an_output_joined_to_a_sum : Type 0
Is_an_output_joined_to_a_sum = flat_design (plain text_of_an_output_joined_to_a_sum) None ≡ Err (at rule.BadTarget 10)

-- module m; integer i; initial for (i = 0; i < 4097; i = i + 1) ; endmodule
abbrev text_of_a_loop_of_4097_turns : List ModuleTree
text_of_a_loop_of_4097_turns = ((ModuleOf (id 1 (codes "m")) ([]) (NamedPorts ([])) ((ItemAt 3 (Integers ((id 4 (codes "i")) ∷ []))) ∷ (ItemAt 6 (Initial (For 7 (Header (Assigned (id 9 (codes "i")) (num 11 32 0)) (Binary binary.Less (nm 13 (codes "i")) (num 15 32 4097)) (Assigned (id 17 (codes "i")) (Binary binary.Add (nm 19 (codes "i")) (num 21 32 1)))) Null))) ∷ [])) ∷ [])

abbrev pub Is_a_loop_of_4097_turns : Type 0
Is_a_loop_of_4097_turns = flat_design (plain text_of_a_loop_of_4097_turns) None ≡ Err (at rule.LoopTooLong 7)

-- module m; integer i; initial for (i = 0; i < 4096; i = i + 1) ; endmodule
abbrev text_of_a_loop_of_4096_turns : List ModuleTree
text_of_a_loop_of_4096_turns = ((ModuleOf (id 1 (codes "m")) ([]) (NamedPorts ([])) ((ItemAt 3 (Integers ((id 4 (codes "i")) ∷ []))) ∷ (ItemAt 6 (Initial (For 7 (Header (Assigned (id 9 (codes "i")) (num 11 32 0)) (Binary binary.Less (nm 13 (codes "i")) (num 15 32 4096)) (Assigned (id 17 (codes "i")) (Binary binary.Add (nm 19 (codes "i")) (num 21 32 1)))) Null))) ∷ [])) ∷ [])

abbrev pub Is_a_loop_of_4096_turns : Type 0
Is_a_loop_of_4096_turns = shown ((bits (codes "11100000000000000000000000000000")) ∷ []) (flat_design (plain text_of_a_loop_of_4096_turns) None) ≡ Ok (record { signals = (sg (codes "m.i") 32 X ∷ []); nodes = (record { path = codes "m"; children = ((codes "i", spot.Sig (sig 0)) ∷ []) } ∷ []); processes = (record { kind = process_kind.Initial; wakes = ([]); changes = ((0, (bits (codes "00000000000010000000000000000000"))) ∷ []); updates = ([]) } ∷ []) })

-- module m; reg i; initial for (i = 0; i < 2; i = i + 1) ; endmodule
abbrev text_of_a_loop_that_cant_end : List ModuleTree
text_of_a_loop_that_cant_end = ((ModuleOf (id 1 (codes "m")) ([]) (NamedPorts ([])) ((ItemAt 3 (Registers None ((RegisterOf (id 4 (codes "i")) None) ∷ []))) ∷ (ItemAt 6 (Initial (For 7 (Header (Assigned (id 9 (codes "i")) (num 11 32 0)) (Binary binary.Less (nm 13 (codes "i")) (num 15 32 2)) (Assigned (id 17 (codes "i")) (Binary binary.Add (nm 19 (codes "i")) (num 21 32 1)))) Null))) ∷ [])) ∷ [])

abbrev pub Is_a_loop_that_cant_end : Type 0
Is_a_loop_that_cant_end = flat_design (plain text_of_a_loop_that_cant_end) None ≡ Err (at rule.LoopTooLong 7)

-- module m; integer i; reg a; initial for (i = 0; i < 4097; i = i + 1) a = zz; endmodule
abbrev text_of_a_long_loop_before_what_it_holds : List ModuleTree
text_of_a_long_loop_before_what_it_holds = ((ModuleOf (id 1 (codes "m")) ([]) (NamedPorts ([])) ((ItemAt 3 (Integers ((id 4 (codes "i")) ∷ []))) ∷ (ItemAt 6 (Registers None ((RegisterOf (id 7 (codes "a")) None) ∷ []))) ∷ (ItemAt 9 (Initial (For 10 (Header (Assigned (id 12 (codes "i")) (num 14 32 0)) (Binary binary.Less (nm 16 (codes "i")) (num 18 32 4097)) (Assigned (id 20 (codes "i")) (Binary binary.Add (nm 22 (codes "i")) (num 24 32 1)))) (Assignment assignment.Blocking (tg 26 (codes "a")) (nm 28 (codes "zz")))))) ∷ [])) ∷ [])

abbrev pub Is_a_long_loop_before_what_it_holds : Type 0
Is_a_long_loop_before_what_it_holds = flat_design (plain text_of_a_long_loop_before_what_it_holds) None ≡ Err (at rule.LoopTooLong 10)

-- module m; reg a [65535:0]; wire b; endmodule
abbrev text_of_one_signal_too_many : List ModuleTree
text_of_one_signal_too_many = ((ModuleOf (id 1 (codes "m")) ([]) (NamedPorts ([])) ((ItemAt 3 (Registers None ((RegisterOf (id 4 (codes "a")) (Some (Words (BoundsTree 5 (num 6 32 65535) (num 8 32 0))))) ∷ []))) ∷ (ItemAt 11 (Nets None ((NetOf (id 12 (codes "b")) None) ∷ []))) ∷ [])) ∷ [])

abbrev pub Is_one_signal_too_many : Type 0
Is_one_signal_too_many = flat_design (plain text_of_one_signal_too_many) None ≡ Err (at rule.TooMany 12)

-- module m; reg a [32'hffffffff:0]; endmodule
abbrev text_of_a_memory_of_all_indices : List ModuleTree
text_of_a_memory_of_all_indices = ((ModuleOf (id 1 (codes "m")) ([]) (NamedPorts ([])) ((ItemAt 3 (Registers None ((RegisterOf (id 4 (codes "a")) (Some (Words (BoundsTree 5 (num 6 32 4294967295) (num 8 32 0))))) ∷ []))) ∷ [])) ∷ [])

abbrev pub Is_a_memory_of_all_indices : Type 0
Is_a_memory_of_all_indices = flat_design (plain text_of_a_memory_of_all_indices) None ≡ Err (at rule.TooMany 4)

-- module m; wire a; s u(); endmodule module s; reg b [65535:0]; endmodule
abbrev text_of_one_signal_too_many_in_a_child : List ModuleTree
text_of_one_signal_too_many_in_a_child = ((ModuleOf (id 1 (codes "m")) ([]) (NamedPorts ([])) ((ItemAt 3 (Nets None ((NetOf (id 4 (codes "a")) None) ∷ []))) ∷ (ItemAt 6 (Instance (id 6 (codes "s")) None (id 7 (codes "u")) None)) ∷ [])) ∷ (ModuleOf (id 13 (codes "s")) ([]) (NamedPorts ([])) ((ItemAt 15 (Registers None ((RegisterOf (id 16 (codes "b")) (Some (Words (BoundsTree 17 (num 18 32 65535) (num 20 32 0))))) ∷ []))) ∷ [])) ∷ [])

abbrev pub Is_one_signal_too_many_in_a_child : Type 0
Is_one_signal_too_many_in_a_child = flat_design (plain text_of_one_signal_too_many_in_a_child) None ≡ Err (at rule.TooMany 16)

-- module m; wire c = (~4'd0 == 8'd255), d = 4'd15 + 4'd1 > 4'd0, e = 4'd15 + 4'd1 == 5'd16, f = 4'd2 == 4'd0, i = ~4'd0 == 8'd15, j = 8'd15 == ~4'd0; wire [7:0] g = 4'd15 + 4'd1 > 4'd0, h = 4'd0 < 4'd15 + 4'd1; endmodule
abbrev text_of_contexts_of_comparisons : List ModuleTree
text_of_contexts_of_comparisons = ((ModuleOf (id 1 (codes "m")) ([]) (NamedPorts ([])) ((ItemAt 3 (Nets None ((NetOf (id 4 (codes "c")) (Some (Bracketed 6 (Binary binary.Equal (Unary 7 unary.BitwiseNegation (num 8 4 0)) (num 10 8 255))))) ∷ (NetOf (id 13 (codes "d")) (Some (Binary binary.Greater (Binary binary.Add (num 15 4 15) (num 17 4 1)) (num 19 4 0)))) ∷ (NetOf (id 21 (codes "e")) (Some (Binary binary.Equal (Binary binary.Add (num 23 4 15) (num 25 4 1)) (num 27 5 16)))) ∷ (NetOf (id 29 (codes "f")) (Some (Binary binary.Equal (num 31 4 2) (num 33 4 0)))) ∷ (NetOf (id 35 (codes "i")) (Some (Binary binary.Equal (Unary 37 unary.BitwiseNegation (num 38 4 0)) (num 40 8 15)))) ∷ (NetOf (id 42 (codes "j")) (Some (Binary binary.Equal (num 44 8 15) (Unary 46 unary.BitwiseNegation (num 47 4 0))))) ∷ []))) ∷ (ItemAt 49 (Nets (Some (BoundsTree 50 (num 51 32 7) (num 53 32 0))) ((NetOf (id 55 (codes "g")) (Some (Binary binary.Greater (Binary binary.Add (num 57 4 15) (num 59 4 1)) (num 61 4 0)))) ∷ (NetOf (id 63 (codes "h")) (Some (Binary binary.Less (num 65 4 0) (Binary binary.Add (num 67 4 15) (num 69 4 1))))) ∷ []))) ∷ [])) ∷ [])

abbrev pub Is_contexts_of_comparisons : Type 0
Is_contexts_of_comparisons = shown ((bits (codes "0")) ∷ (bits (codes "1")) ∷ (bits (codes "z")) ∷ (bits (codes "z")) ∷ (bits (codes "z")) ∷ (bits (codes "z")) ∷ (bits (codes "zzzzzzzz")) ∷ (bits (codes "zzzzzzzz")) ∷ []) (flat_design (plain text_of_contexts_of_comparisons) None) ≡ Ok (record { signals = (sg (codes "m.c") 1 Z ∷ sg (codes "m.d") 1 Z ∷ sg (codes "m.e") 1 Z ∷ sg (codes "m.f") 1 Z ∷ sg (codes "m.i") 1 Z ∷ sg (codes "m.j") 1 Z ∷ sg (codes "m.g") 8 Z ∷ sg (codes "m.h") 8 Z ∷ []); nodes = (record { path = codes "m"; children = ((codes "c", spot.Sig (sig 0)) ∷ (codes "d", spot.Sig (sig 1)) ∷ (codes "e", spot.Sig (sig 2)) ∷ (codes "f", spot.Sig (sig 3)) ∷ (codes "i", spot.Sig (sig 4)) ∷ (codes "j", spot.Sig (sig 5)) ∷ (codes "g", spot.Sig (sig 6)) ∷ (codes "h", spot.Sig (sig 7)) ∷ []) } ∷ []); processes = (record { kind = process_kind.Assign; wakes = ([]); changes = ((0, (bits (codes "1"))) ∷ []); updates = ([]) } ∷ record { kind = process_kind.Assign; wakes = ([]); changes = ((1, (bits (codes "0"))) ∷ []); updates = ([]) } ∷ record { kind = process_kind.Assign; wakes = ([]); changes = ((2, (bits (codes "1"))) ∷ []); updates = ([]) } ∷ record { kind = process_kind.Assign; wakes = ([]); changes = ((3, (bits (codes "0"))) ∷ []); updates = ([]) } ∷ record { kind = process_kind.Assign; wakes = ([]); changes = ((4, (bits (codes "0"))) ∷ []); updates = ([]) } ∷ record { kind = process_kind.Assign; wakes = ([]); changes = ((5, (bits (codes "0"))) ∷ []); updates = ([]) } ∷ record { kind = process_kind.Assign; wakes = ([]); changes = ((6, (bits (codes "00000000"))) ∷ []); updates = ([]) } ∷ record { kind = process_kind.Assign; wakes = ([]); changes = ((7, (bits (codes "00000000"))) ∷ []); updates = ([]) } ∷ []) })

-- module m; wire [4:0] y = (4'd15 + 4'd1) >> 1, z = 8'd1 << (4'd15 + 4'd2), v = 5'd1 << 2'b1x; endmodule
abbrev text_of_contexts_of_shifts : List ModuleTree
text_of_contexts_of_shifts = ((ModuleOf (id 1 (codes "m")) ([]) (NamedPorts ([])) ((ItemAt 3 (Nets (Some (BoundsTree 4 (num 5 32 4) (num 7 32 0))) ((NetOf (id 9 (codes "y")) (Some (Binary binary.ShiftRight (Bracketed 11 (Binary binary.Add (num 12 4 15) (num 14 4 1))) (num 17 32 1)))) ∷ (NetOf (id 19 (codes "z")) (Some (Binary binary.ShiftLeft (num 21 8 1) (Bracketed 23 (Binary binary.Add (num 24 4 15) (num 26 4 2)))))) ∷ (NetOf (id 29 (codes "v")) (Some (Binary binary.ShiftLeft (num 31 5 1) (Number 33 (bits (codes "x1")))))) ∷ []))) ∷ [])) ∷ [])

abbrev pub Is_contexts_of_shifts : Type 0
Is_contexts_of_shifts = shown ((bits (codes "zzzzz")) ∷ (bits (codes "zzzzz")) ∷ (bits (codes "00000")) ∷ []) (flat_design (plain text_of_contexts_of_shifts) None) ≡ Ok (record { signals = (sg (codes "m.y") 5 Z ∷ sg (codes "m.z") 5 Z ∷ sg (codes "m.v") 5 Z ∷ []); nodes = (record { path = codes "m"; children = ((codes "y", spot.Sig (sig 0)) ∷ (codes "z", spot.Sig (sig 1)) ∷ (codes "v", spot.Sig (sig 2)) ∷ []) } ∷ []); processes = (record { kind = process_kind.Assign; wakes = ([]); changes = ((0, (bits (codes "00010"))) ∷ []); updates = ([]) } ∷ record { kind = process_kind.Assign; wakes = ([]); changes = ((1, (bits (codes "01000"))) ∷ []); updates = ([]) } ∷ record { kind = process_kind.Assign; wakes = ([]); changes = ((2, (bits (codes "xxxxx"))) ∷ []); updates = ([]) } ∷ []) })

-- module m(input a, input [3:0] b); wire [4:0] y = a ? b + 4'd1 : 4'd15 + 4'd1, z = (b + 4'd1) ? 5'd1 : 5'd2; wire [8:0] w = {a ? 8'd1 : ~4'd0}; endmodule
abbrev text_of_contexts_of_conditions : List ModuleTree
text_of_contexts_of_conditions = ((ModuleOf (id 1 (codes "m")) ([]) (DeclaredPorts ((HeaderPortOf (Some (Head direction.Input None None)) (id 4 (codes "a"))) ∷ (HeaderPortOf (Some (Head direction.Input None (Some (BoundsTree 7 (num 8 32 3) (num 10 32 0))))) (id 12 (codes "b"))) ∷ [])) ((ItemAt 15 (Nets (Some (BoundsTree 16 (num 17 32 4) (num 19 32 0))) ((NetOf (id 21 (codes "y")) (Some (Conditional (nm 23 (codes "a")) (Binary binary.Add (nm 25 (codes "b")) (num 27 4 1)) (Binary binary.Add (num 29 4 15) (num 31 4 1))))) ∷ (NetOf (id 33 (codes "z")) (Some (Conditional (Bracketed 35 (Binary binary.Add (nm 36 (codes "b")) (num 38 4 1))) (num 41 5 1) (num 43 5 2)))) ∷ []))) ∷ (ItemAt 45 (Nets (Some (BoundsTree 46 (num 47 32 8) (num 49 32 0))) ((NetOf (id 51 (codes "w")) (Some (Concatenation 53 (trees ((Conditional (nm 54 (codes "a")) (num 56 8 1) (Unary 58 unary.BitwiseNegation (num 59 4 0))) ∷ []))))) ∷ []))) ∷ [])) ∷ [])

abbrev pub Is_contexts_of_conditions : Type 0
Is_contexts_of_conditions = shown ((bits (codes "0")) ∷ (bits (codes "1111")) ∷ (bits (codes "zzzzz")) ∷ (bits (codes "zzzzz")) ∷ (bits (codes "zzzzzzzzz")) ∷ []) (flat_design (plain text_of_contexts_of_conditions) None) ≡ Ok (record { signals = (sg (codes "m.a") 1 Z ∷ sg (codes "m.b") 4 Z ∷ sg (codes "m.y") 5 Z ∷ sg (codes "m.z") 5 Z ∷ sg (codes "m.w") 9 Z ∷ []); nodes = (record { path = codes "m"; children = ((codes "a", spot.Sig (sig 0)) ∷ (codes "b", spot.Sig (sig 1)) ∷ (codes "y", spot.Sig (sig 2)) ∷ (codes "z", spot.Sig (sig 3)) ∷ (codes "w", spot.Sig (sig 4)) ∷ []) } ∷ []); processes = (record { kind = process_kind.Assign; wakes = (wk 0 wake_edge.Any ∷ wk 1 wake_edge.Any ∷ []); changes = ((2, (bits (codes "00001"))) ∷ []); updates = ([]) } ∷ record { kind = process_kind.Assign; wakes = (wk 1 wake_edge.Any ∷ []); changes = ((3, (bits (codes "01000"))) ∷ []); updates = ([]) } ∷ record { kind = process_kind.Assign; wakes = (wk 0 wake_edge.Any ∷ []); changes = ((4, (bits (codes "111111110"))) ∷ []); updates = ([]) } ∷ []) })

-- module m(input [3:0] b); wire [4:0] y = |(b + 4'd1), z = ~|(b + 4'd1) + 5'd30, t = (b + 4'd1) || 1'd0, u = 1'd1 && b + 4'd1; wire [1:0] v = !(b + 4'd1) + 2'd1; endmodule
abbrev text_of_operands_of_their_own_width : List ModuleTree
text_of_operands_of_their_own_width = ((ModuleOf (id 1 (codes "m")) ([]) (DeclaredPorts ((HeaderPortOf (Some (Head direction.Input None (Some (BoundsTree 4 (num 5 32 3) (num 7 32 0))))) (id 9 (codes "b"))) ∷ [])) ((ItemAt 12 (Nets (Some (BoundsTree 13 (num 14 32 4) (num 16 32 0))) ((NetOf (id 18 (codes "y")) (Some (Unary 20 unary.ReductionOr (Bracketed 21 (Binary binary.Add (nm 22 (codes "b")) (num 24 4 1)))))) ∷ (NetOf (id 27 (codes "z")) (Some (Binary binary.Add (Unary 29 unary.ReductionNor (Bracketed 30 (Binary binary.Add (nm 31 (codes "b")) (num 33 4 1)))) (num 36 5 30)))) ∷ (NetOf (id 38 (codes "t")) (Some (Binary binary.LogicalOr (Bracketed 40 (Binary binary.Add (nm 41 (codes "b")) (num 43 4 1))) (num 46 1 0)))) ∷ (NetOf (id 48 (codes "u")) (Some (Binary binary.LogicalAnd (num 50 1 1) (Binary binary.Add (nm 52 (codes "b")) (num 54 4 1))))) ∷ []))) ∷ (ItemAt 56 (Nets (Some (BoundsTree 57 (num 58 32 1) (num 60 32 0))) ((NetOf (id 62 (codes "v")) (Some (Binary binary.Add (Unary 64 unary.LogicalNegation (Bracketed 65 (Binary binary.Add (nm 66 (codes "b")) (num 68 4 1)))) (num 71 2 1)))) ∷ []))) ∷ [])) ∷ [])

abbrev pub Is_operands_of_their_own_width : Type 0
Is_operands_of_their_own_width = shown ((bits (codes "1111")) ∷ (bits (codes "zzzzz")) ∷ (bits (codes "zzzzz")) ∷ (bits (codes "zzzzz")) ∷ (bits (codes "zzzzz")) ∷ (bits (codes "zz")) ∷ []) (flat_design (plain text_of_operands_of_their_own_width) None) ≡ Ok (record { signals = (sg (codes "m.b") 4 Z ∷ sg (codes "m.y") 5 Z ∷ sg (codes "m.z") 5 Z ∷ sg (codes "m.t") 5 Z ∷ sg (codes "m.u") 5 Z ∷ sg (codes "m.v") 2 Z ∷ []); nodes = (record { path = codes "m"; children = ((codes "b", spot.Sig (sig 0)) ∷ (codes "y", spot.Sig (sig 1)) ∷ (codes "z", spot.Sig (sig 2)) ∷ (codes "t", spot.Sig (sig 3)) ∷ (codes "u", spot.Sig (sig 4)) ∷ (codes "v", spot.Sig (sig 5)) ∷ []) } ∷ []); processes = (record { kind = process_kind.Assign; wakes = (wk 0 wake_edge.Any ∷ []); changes = ((1, (bits (codes "00000"))) ∷ []); updates = ([]) } ∷ record { kind = process_kind.Assign; wakes = (wk 0 wake_edge.Any ∷ []); changes = ((2, (bits (codes "11111"))) ∷ []); updates = ([]) } ∷ record { kind = process_kind.Assign; wakes = (wk 0 wake_edge.Any ∷ []); changes = ((3, (bits (codes "00000"))) ∷ []); updates = ([]) } ∷ record { kind = process_kind.Assign; wakes = (wk 0 wake_edge.Any ∷ []); changes = ((4, (bits (codes "00000"))) ∷ []); updates = ([]) } ∷ record { kind = process_kind.Assign; wakes = (wk 0 wake_edge.Any ∷ []); changes = ((5, (bits (codes "01"))) ∷ []); updates = ([]) } ∷ []) })

-- module m; wire [3:0] y = +4'b1x00, z = 4'd6 / 4'd0, w = -4'd3; wire e = 4'b1x0z === 4'b1x0z, f = 4'b1x00 == 4'b0100, g = 4'b0x00 != 4'b0000; endmodule
abbrev text_of_unknown_operands : List ModuleTree
text_of_unknown_operands = ((ModuleOf (id 1 (codes "m")) ([]) (NamedPorts ([])) ((ItemAt 3 (Nets (Some (BoundsTree 4 (num 5 32 3) (num 7 32 0))) ((NetOf (id 9 (codes "y")) (Some (Unary 11 unary.Plus (Number 12 (bits (codes "00x1")))))) ∷ (NetOf (id 14 (codes "z")) (Some (Binary binary.Divide (num 16 4 6) (num 18 4 0)))) ∷ (NetOf (id 20 (codes "w")) (Some (Unary 22 unary.Minus (num 23 4 3)))) ∷ []))) ∷ (ItemAt 25 (Nets None ((NetOf (id 26 (codes "e")) (Some (Binary binary.CaseEqual (Number 28 (bits (codes "z0x1"))) (Number 30 (bits (codes "z0x1")))))) ∷ (NetOf (id 32 (codes "f")) (Some (Binary binary.Equal (Number 34 (bits (codes "00x1"))) (num 36 4 4)))) ∷ (NetOf (id 38 (codes "g")) (Some (Binary binary.Unequal (Number 40 (bits (codes "00x0"))) (num 42 4 0)))) ∷ []))) ∷ [])) ∷ [])

abbrev pub Is_unknown_operands : Type 0
Is_unknown_operands = shown ((bits (codes "zzzz")) ∷ (bits (codes "zzzz")) ∷ (bits (codes "zzzz")) ∷ (bits (codes "z")) ∷ (bits (codes "z")) ∷ (bits (codes "z")) ∷ []) (flat_design (plain text_of_unknown_operands) None) ≡ Ok (record { signals = (sg (codes "m.y") 4 Z ∷ sg (codes "m.z") 4 Z ∷ sg (codes "m.w") 4 Z ∷ sg (codes "m.e") 1 Z ∷ sg (codes "m.f") 1 Z ∷ sg (codes "m.g") 1 Z ∷ []); nodes = (record { path = codes "m"; children = ((codes "y", spot.Sig (sig 0)) ∷ (codes "z", spot.Sig (sig 1)) ∷ (codes "w", spot.Sig (sig 2)) ∷ (codes "e", spot.Sig (sig 3)) ∷ (codes "f", spot.Sig (sig 4)) ∷ (codes "g", spot.Sig (sig 5)) ∷ []) } ∷ []); processes = (record { kind = process_kind.Assign; wakes = ([]); changes = ((0, (bits (codes "xxxx"))) ∷ []); updates = ([]) } ∷ record { kind = process_kind.Assign; wakes = ([]); changes = ((1, (bits (codes "xxxx"))) ∷ []); updates = ([]) } ∷ record { kind = process_kind.Assign; wakes = ([]); changes = ((2, (bits (codes "1011"))) ∷ []); updates = ([]) } ∷ record { kind = process_kind.Assign; wakes = ([]); changes = ((3, (bits (codes "1"))) ∷ []); updates = ([]) } ∷ record { kind = process_kind.Assign; wakes = ([]); changes = ((4, (bits (codes "0"))) ∷ []); updates = ([]) } ∷ record { kind = process_kind.Assign; wakes = ([]); changes = ((5, (bits (codes "x"))) ∷ []); updates = ([]) } ∷ []) })

-- module m(input a, input [1:0] b); reg [1:0] p, q, r; always @(a) begin if (a) p = 1; else p = 2; if (b) q = 1; else q = 2; if (!a) r = 0; end endmodule
abbrev text_of_conditions_of_unknown_digits : List ModuleTree
text_of_conditions_of_unknown_digits = ((ModuleOf (id 1 (codes "m")) ([]) (DeclaredPorts ((HeaderPortOf (Some (Head direction.Input None None)) (id 4 (codes "a"))) ∷ (HeaderPortOf (Some (Head direction.Input None (Some (BoundsTree 7 (num 8 32 1) (num 10 32 0))))) (id 12 (codes "b"))) ∷ [])) ((ItemAt 15 (Registers (Some (BoundsTree 16 (num 17 32 1) (num 19 32 0))) ((RegisterOf (id 21 (codes "p")) None) ∷ (RegisterOf (id 23 (codes "q")) None) ∷ (RegisterOf (id 25 (codes "r")) None) ∷ []))) ∷ (ItemAt 27 (Always (Events (record { edge = None; name = id 30 (codes "a") } ∷ [])) (Block None (statement_trees ((IfElse (nm 35 (codes "a")) (Assignment assignment.Blocking (tg 37 (codes "p")) (num 39 32 1)) (Assignment assignment.Blocking (tg 42 (codes "p")) (num 44 32 2))) ∷ (IfElse (nm 48 (codes "b")) (Assignment assignment.Blocking (tg 50 (codes "q")) (num 52 32 1)) (Assignment assignment.Blocking (tg 55 (codes "q")) (num 57 32 2))) ∷ (If (Unary 61 unary.LogicalNegation (nm 62 (codes "a"))) (Assignment assignment.Blocking (tg 64 (codes "r")) (num 66 32 0))) ∷ []))))) ∷ [])) ∷ [])

abbrev pub Is_conditions_of_unknown_digits : Type 0
Is_conditions_of_unknown_digits = shown ((bits (codes "x")) ∷ (bits (codes "x1")) ∷ (bits (codes "00")) ∷ (bits (codes "00")) ∷ (bits (codes "11")) ∷ []) (flat_design (plain text_of_conditions_of_unknown_digits) None) ≡ Ok (record { signals = (sg (codes "m.a") 1 Z ∷ sg (codes "m.b") 2 Z ∷ sg (codes "m.p") 2 X ∷ sg (codes "m.q") 2 X ∷ sg (codes "m.r") 2 X ∷ []); nodes = (record { path = codes "m"; children = ((codes "a", spot.Sig (sig 0)) ∷ (codes "b", spot.Sig (sig 1)) ∷ (codes "p", spot.Sig (sig 2)) ∷ (codes "q", spot.Sig (sig 3)) ∷ (codes "r", spot.Sig (sig 4)) ∷ []) } ∷ []); processes = (record { kind = process_kind.Always; wakes = (wk 0 wake_edge.Any ∷ []); changes = ((2, (bits (codes "01"))) ∷ (3, (bits (codes "10"))) ∷ []); updates = ([]) } ∷ []) })

-- module m(input [1:0] i, j, k, input [3:0] a); reg [3:0] y; reg [1:0] w [0:3]; always @* begin y[i] = a[j +: 2]; w[k] = 0; end endmodule
abbrev text_of_indices_of_targets_and_reads : List ModuleTree
text_of_indices_of_targets_and_reads = ((ModuleOf (id 1 (codes "m")) ([]) (DeclaredPorts ((HeaderPortOf (Some (Head direction.Input None (Some (BoundsTree 4 (num 5 32 1) (num 7 32 0))))) (id 9 (codes "i"))) ∷ (HeaderPortOf None (id 11 (codes "j"))) ∷ (HeaderPortOf None (id 13 (codes "k"))) ∷ (HeaderPortOf (Some (Head direction.Input None (Some (BoundsTree 16 (num 17 32 3) (num 19 32 0))))) (id 21 (codes "a"))) ∷ [])) ((ItemAt 24 (Registers (Some (BoundsTree 25 (num 26 32 3) (num 28 32 0))) ((RegisterOf (id 30 (codes "y")) None) ∷ []))) ∷ (ItemAt 32 (Registers (Some (BoundsTree 33 (num 34 32 1) (num 36 32 0))) ((RegisterOf (id 38 (codes "w")) (Some (Words (BoundsTree 39 (num 40 32 0) (num 42 32 3))))) ∷ []))) ∷ (ItemAt 45 (Always Implicit (Block None (statement_trees ((Assignment assignment.Blocking (NamedTarget 49 (codes "y") (OneSelect (Bit 50 (nm 51 (codes "i"))))) (Named 54 (codes "a") (OneSelect (IndexedPart 55 (nm 56 (codes "j")) (num 58 32 2))))) ∷ (Assignment assignment.Blocking (NamedTarget 61 (codes "w") (OneSelect (Bit 62 (nm 63 (codes "k"))))) (num 66 32 0)) ∷ []))))) ∷ [])) ∷ [])

abbrev pub Is_indices_of_targets_and_reads : Type 0
Is_indices_of_targets_and_reads = shown ((bits (codes "01")) ∷ (bits (codes "10")) ∷ (bits (codes "11")) ∷ (bits (codes "0110")) ∷ (bits (codes "0000")) ∷ (bits (codes "11")) ∷ (bits (codes "11")) ∷ (bits (codes "11")) ∷ (bits (codes "11")) ∷ []) (flat_design (plain text_of_indices_of_targets_and_reads) None) ≡ Ok (record { signals = (sg (codes "m.i") 2 Z ∷ sg (codes "m.j") 2 Z ∷ sg (codes "m.k") 2 Z ∷ sg (codes "m.a") 4 Z ∷ sg (codes "m.y") 4 X ∷ sg (codes "m.w[0]") 2 X ∷ sg (codes "m.w[1]") 2 X ∷ sg (codes "m.w[2]") 2 X ∷ sg (codes "m.w[3]") 2 X ∷ []); nodes = (record { path = codes "m"; children = ((codes "i", spot.Sig (sig 0)) ∷ (codes "j", spot.Sig (sig 1)) ∷ (codes "k", spot.Sig (sig 2)) ∷ (codes "a", spot.Sig (sig 3)) ∷ (codes "y", spot.Sig (sig 4)) ∷ (codes "w", spot.Words (sig 5) 0 4) ∷ []) } ∷ []); processes = (record { kind = process_kind.Always; wakes = (wk 0 wake_edge.Any ∷ wk 1 wake_edge.Any ∷ wk 2 wake_edge.Any ∷ wk 3 wake_edge.Any ∷ []); changes = ((4, (bits (codes "0010"))) ∷ (8, (bits (codes "00"))) ∷ []); updates = ([]) } ∷ []) })

-- module m(input [1:0] a); reg [3:0] y; always @(a) case (~a) 2'b10: y = 2; 4'b1110: y = 1; default: y = 3; endcase endmodule
abbrev text_of_labels_of_other_widths : List ModuleTree
text_of_labels_of_other_widths = ((ModuleOf (id 1 (codes "m")) ([]) (DeclaredPorts ((HeaderPortOf (Some (Head direction.Input None (Some (BoundsTree 4 (num 5 32 1) (num 7 32 0))))) (id 9 (codes "a"))) ∷ [])) ((ItemAt 12 (Registers (Some (BoundsTree 13 (num 14 32 3) (num 16 32 0))) ((RegisterOf (id 18 (codes "y")) None) ∷ []))) ∷ (ItemAt 20 (Always (Events (record { edge = None; name = id 23 (codes "a") } ∷ [])) (Case case_kind.Case (Unary 27 unary.BitwiseNegation (nm 28 (codes "a"))) (case_trees ((Match ((num 30 2 2) ∷ []) (Assignment assignment.Blocking (tg 32 (codes "y")) (num 34 32 2))) ∷ (Match ((num 36 4 14) ∷ []) (Assignment assignment.Blocking (tg 38 (codes "y")) (num 40 32 1))) ∷ (Default (Assignment assignment.Blocking (tg 44 (codes "y")) (num 46 32 3))) ∷ []))))) ∷ [])) ∷ [])

abbrev pub Is_labels_of_other_widths : Type 0
Is_labels_of_other_widths = shown ((bits (codes "10")) ∷ (bits (codes "0000")) ∷ []) (flat_design (plain text_of_labels_of_other_widths) None) ≡ Ok (record { signals = (sg (codes "m.a") 2 Z ∷ sg (codes "m.y") 4 X ∷ []); nodes = (record { path = codes "m"; children = ((codes "a", spot.Sig (sig 0)) ∷ (codes "y", spot.Sig (sig 1)) ∷ []) } ∷ []); processes = (record { kind = process_kind.Always; wakes = (wk 0 wake_edge.Any ∷ []); changes = ((1, (bits (codes "1000"))) ∷ []); updates = ([]) } ∷ []) })

-- module m(input [3:0] a); reg [3:0] y, z, w; always @(a) begin casez (a) 4'b0111: y = 1; 4'b0x01: y = 2; 4'b0xz1: y = 3; endcase casex (a) 4'b1???: z = 1; 4'b0101: z = 2; 4'b0xz1: z = 3; endcase case (a) 4'b0???: w = 1; 4'b0xx1: w = 2; 4'b0xz1: w = 3; default: w = 4; endcase end endmodule
abbrev text_of_cases_of_x_and_z : List ModuleTree
text_of_cases_of_x_and_z = ((ModuleOf (id 1 (codes "m")) ([]) (DeclaredPorts ((HeaderPortOf (Some (Head direction.Input None (Some (BoundsTree 4 (num 5 32 3) (num 7 32 0))))) (id 9 (codes "a"))) ∷ [])) ((ItemAt 12 (Registers (Some (BoundsTree 13 (num 14 32 3) (num 16 32 0))) ((RegisterOf (id 18 (codes "y")) None) ∷ (RegisterOf (id 20 (codes "z")) None) ∷ (RegisterOf (id 22 (codes "w")) None) ∷ []))) ∷ (ItemAt 24 (Always (Events (record { edge = None; name = id 27 (codes "a") } ∷ [])) (Block None (statement_trees ((Case case_kind.CaseZ (nm 32 (codes "a")) (case_trees ((Match ((num 34 4 7) ∷ []) (Assignment assignment.Blocking (tg 36 (codes "y")) (num 38 32 1))) ∷ (Match ((Number 40 (bits (codes "10x0"))) ∷ []) (Assignment assignment.Blocking (tg 42 (codes "y")) (num 44 32 2))) ∷ (Match ((Number 46 (bits (codes "1zx0"))) ∷ []) (Assignment assignment.Blocking (tg 48 (codes "y")) (num 50 32 3))) ∷ []))) ∷ (Case case_kind.CaseX (nm 55 (codes "a")) (case_trees ((Match ((Number 57 (bits (codes "zzz1"))) ∷ []) (Assignment assignment.Blocking (tg 59 (codes "z")) (num 61 32 1))) ∷ (Match ((num 63 4 5) ∷ []) (Assignment assignment.Blocking (tg 65 (codes "z")) (num 67 32 2))) ∷ (Match ((Number 69 (bits (codes "1zx0"))) ∷ []) (Assignment assignment.Blocking (tg 71 (codes "z")) (num 73 32 3))) ∷ []))) ∷ (Case case_kind.Case (nm 78 (codes "a")) (case_trees ((Match ((Number 80 (bits (codes "zzz0"))) ∷ []) (Assignment assignment.Blocking (tg 82 (codes "w")) (num 84 32 1))) ∷ (Match ((Number 86 (bits (codes "1xx0"))) ∷ []) (Assignment assignment.Blocking (tg 88 (codes "w")) (num 90 32 2))) ∷ (Match ((Number 92 (bits (codes "1zx0"))) ∷ []) (Assignment assignment.Blocking (tg 94 (codes "w")) (num 96 32 3))) ∷ (Default (Assignment assignment.Blocking (tg 100 (codes "w")) (num 102 32 4))) ∷ []))) ∷ []))))) ∷ [])) ∷ [])

abbrev pub Is_cases_of_x_and_z : Type 0
Is_cases_of_x_and_z = shown ((bits (codes "1zx0")) ∷ (bits (codes "0000")) ∷ (bits (codes "0000")) ∷ (bits (codes "0000")) ∷ []) (flat_design (plain text_of_cases_of_x_and_z) None) ≡ Ok (record { signals = (sg (codes "m.a") 4 Z ∷ sg (codes "m.y") 4 X ∷ sg (codes "m.z") 4 X ∷ sg (codes "m.w") 4 X ∷ []); nodes = (record { path = codes "m"; children = ((codes "a", spot.Sig (sig 0)) ∷ (codes "y", spot.Sig (sig 1)) ∷ (codes "z", spot.Sig (sig 2)) ∷ (codes "w", spot.Sig (sig 3)) ∷ []) } ∷ []); processes = (record { kind = process_kind.Always; wakes = (wk 0 wake_edge.Any ∷ []); changes = ((1, (bits (codes "0100"))) ∷ (2, (bits (codes "0100"))) ∷ (3, (bits (codes "1100"))) ∷ []); updates = ([]) } ∷ []) })

-- module m(input [3:0] a, b, output [4:0] y); wire t; s u(.o(y), .z(t), .n(), .j(b), .i(a + b)); endmodule module s(input [4:0] i, input [3:0] j, input n, output [4:0] o, output z); endmodule
abbrev text_of_connections_in_another_order : List ModuleTree
text_of_connections_in_another_order = ((ModuleOf (id 1 (codes "m")) ([]) (DeclaredPorts ((HeaderPortOf (Some (Head direction.Input None (Some (BoundsTree 4 (num 5 32 3) (num 7 32 0))))) (id 9 (codes "a"))) ∷ (HeaderPortOf None (id 11 (codes "b"))) ∷ (HeaderPortOf (Some (Head direction.Output None (Some (BoundsTree 14 (num 15 32 4) (num 17 32 0))))) (id 19 (codes "y"))) ∷ [])) ((ItemAt 22 (Nets None ((NetOf (id 23 (codes "t")) None) ∷ []))) ∷ (ItemAt 25 (Instance (id 25 (codes "s")) None (id 26 (codes "u")) (Some (NamedConnections ((Connection 28 (id 29 (codes "o")) (Some (nm 31 (codes "y")))) ∷ (Connection 34 (id 35 (codes "z")) (Some (nm 37 (codes "t")))) ∷ (Connection 40 (id 41 (codes "n")) None) ∷ (Connection 45 (id 46 (codes "j")) (Some (nm 48 (codes "b")))) ∷ (Connection 51 (id 52 (codes "i")) (Some (Binary binary.Add (nm 54 (codes "a")) (nm 56 (codes "b"))))) ∷ []))))) ∷ [])) ∷ (ModuleOf (id 62 (codes "s")) ([]) (DeclaredPorts ((HeaderPortOf (Some (Head direction.Input None (Some (BoundsTree 65 (num 66 32 4) (num 68 32 0))))) (id 70 (codes "i"))) ∷ (HeaderPortOf (Some (Head direction.Input None (Some (BoundsTree 73 (num 74 32 3) (num 76 32 0))))) (id 78 (codes "j"))) ∷ (HeaderPortOf (Some (Head direction.Input None None)) (id 81 (codes "n"))) ∷ (HeaderPortOf (Some (Head direction.Output None (Some (BoundsTree 84 (num 85 32 4) (num 87 32 0))))) (id 89 (codes "o"))) ∷ (HeaderPortOf (Some (Head direction.Output None None)) (id 92 (codes "z"))) ∷ [])) ([])) ∷ [])

abbrev pub Is_connections_in_another_order : Type 0
Is_connections_in_another_order = shown ((bits (codes "1111")) ∷ (bits (codes "1000")) ∷ (bits (codes "00000")) ∷ (bits (codes "0")) ∷ (bits (codes "zzzzz")) ∷ (bits (codes "zzzz")) ∷ (bits (codes "z")) ∷ (bits (codes "1x0z1")) ∷ (bits (codes "1")) ∷ []) (flat_design (plain text_of_connections_in_another_order) None) ≡ Ok (record { signals = (sg (codes "m.a") 4 Z ∷ sg (codes "m.b") 4 Z ∷ sg (codes "m.y") 5 Z ∷ sg (codes "m.t") 1 Z ∷ sg (codes "m.u.i") 5 Z ∷ sg (codes "m.u.j") 4 Z ∷ sg (codes "m.u.n") 1 Z ∷ sg (codes "m.u.o") 5 Z ∷ sg (codes "m.u.z") 1 Z ∷ []); nodes = (record { path = codes "m"; children = ((codes "a", spot.Sig (sig 0)) ∷ (codes "b", spot.Sig (sig 1)) ∷ (codes "y", spot.Sig (sig 2)) ∷ (codes "t", spot.Sig (sig 3)) ∷ (codes "u", spot.Inner 1) ∷ []) } ∷ record { path = codes "m.u"; children = ((codes "i", spot.Sig (sig 4)) ∷ (codes "j", spot.Sig (sig 5)) ∷ (codes "n", spot.Sig (sig 6)) ∷ (codes "o", spot.Sig (sig 7)) ∷ (codes "z", spot.Sig (sig 8)) ∷ []) } ∷ []); processes = (record { kind = process_kind.Assign; wakes = (wk 0 wake_edge.Any ∷ wk 1 wake_edge.Any ∷ []); changes = ((4, (bits (codes "00001"))) ∷ []); updates = ([]) } ∷ record { kind = process_kind.Assign; wakes = (wk 1 wake_edge.Any ∷ []); changes = ((5, (bits (codes "1000"))) ∷ []); updates = ([]) } ∷ record { kind = process_kind.Assign; wakes = (wk 7 wake_edge.Any ∷ []); changes = ((2, (bits (codes "1x0z1"))) ∷ []); updates = ([]) } ∷ record { kind = process_kind.Assign; wakes = (wk 8 wake_edge.Any ∷ []); changes = ((3, (bits (codes "1"))) ∷ []); updates = ([]) } ∷ []) })

-- module m; a u(); b v(); endmodule module a; b w(); reg p; endmodule module b; wire q = 1; endmodule
abbrev text_of_a_grandchild_before_a_sibling : List ModuleTree
text_of_a_grandchild_before_a_sibling = ((ModuleOf (id 1 (codes "m")) ([]) (NamedPorts ([])) ((ItemAt 3 (Instance (id 3 (codes "a")) None (id 4 (codes "u")) None)) ∷ (ItemAt 8 (Instance (id 8 (codes "b")) None (id 9 (codes "v")) None)) ∷ [])) ∷ (ModuleOf (id 15 (codes "a")) ([]) (NamedPorts ([])) ((ItemAt 17 (Instance (id 17 (codes "b")) None (id 18 (codes "w")) None)) ∷ (ItemAt 22 (Registers None ((RegisterOf (id 23 (codes "p")) None) ∷ []))) ∷ [])) ∷ (ModuleOf (id 27 (codes "b")) ([]) (NamedPorts ([])) ((ItemAt 29 (Nets None ((NetOf (id 30 (codes "q")) (Some (num 32 32 1))) ∷ []))) ∷ [])) ∷ [])

abbrev pub Is_a_grandchild_before_a_sibling : Type 0
Is_a_grandchild_before_a_sibling = shown ((bits (codes "0")) ∷ (bits (codes "0")) ∷ (bits (codes "0")) ∷ []) (flat_design (plain text_of_a_grandchild_before_a_sibling) None) ≡ Ok (record { signals = (sg (codes "m.u.p") 1 X ∷ sg (codes "m.u.w.q") 1 Z ∷ sg (codes "m.v.q") 1 Z ∷ []); nodes = (record { path = codes "m"; children = ((codes "u", spot.Inner 1) ∷ (codes "v", spot.Inner 3) ∷ []) } ∷ record { path = codes "m.u"; children = ((codes "p", spot.Sig (sig 0)) ∷ (codes "w", spot.Inner 2) ∷ []) } ∷ record { path = codes "m.u.w"; children = ((codes "q", spot.Sig (sig 1)) ∷ []) } ∷ record { path = codes "m.v"; children = ((codes "q", spot.Sig (sig 2)) ∷ []) } ∷ []); processes = (record { kind = process_kind.Assign; wakes = ([]); changes = ((1, (bits (codes "1"))) ∷ []); updates = ([]) } ∷ record { kind = process_kind.Assign; wakes = ([]); changes = ((2, (bits (codes "1"))) ∷ []); updates = ([]) } ∷ []) })

-- module m; localparam [7:0] D = 4'd15 + 4'd1; wire [7:0] y = D; endmodule
abbrev text_of_a_parameters_own_width : List ModuleTree
text_of_a_parameters_own_width = ((ModuleOf (id 1 (codes "m")) ([]) (NamedPorts ([])) ((ItemAt 3 (Parameters parameter_kind.LocalParam (Some (BoundsTree 4 (num 5 32 7) (num 7 32 0))) ((ParameterOf (id 9 (codes "D")) (Binary binary.Add (num 11 4 15) (num 13 4 1))) ∷ []))) ∷ (ItemAt 15 (Nets (Some (BoundsTree 16 (num 17 32 7) (num 19 32 0))) ((NetOf (id 21 (codes "y")) (Some (nm 23 (codes "D")))) ∷ []))) ∷ [])) ∷ [])

abbrev pub Is_a_parameters_own_width : Type 0
Is_a_parameters_own_width = shown ((bits (codes "11111111")) ∷ []) (flat_design (plain text_of_a_parameters_own_width) None) ≡ Ok (record { signals = (sg (codes "m.y") 8 Z ∷ []); nodes = (record { path = codes "m"; children = ((codes "y", spot.Sig (sig 0)) ∷ []) } ∷ []); processes = (record { kind = process_kind.Assign; wakes = ([]); changes = ((0, (bits (codes "00000000"))) ∷ []); updates = ([]) } ∷ []) })

-- module m; reg r; s u(.o({r, r})); endmodule module s(output [1:0] o); endmodule
abbrev text_of_a_register_in_braces_of_a_connection : List ModuleTree
text_of_a_register_in_braces_of_a_connection = ((ModuleOf (id 1 (codes "m")) ([]) (NamedPorts ([])) ((ItemAt 3 (Registers None ((RegisterOf (id 4 (codes "r")) None) ∷ []))) ∷ (ItemAt 6 (Instance (id 6 (codes "s")) None (id 7 (codes "u")) (Some (NamedConnections ((Connection 9 (id 10 (codes "o")) (Some (Concatenation 12 (trees ((nm 13 (codes "r")) ∷ (nm 15 (codes "r")) ∷ []))))) ∷ []))))) ∷ [])) ∷ (ModuleOf (id 22 (codes "s")) ([]) (DeclaredPorts ((HeaderPortOf (Some (Head direction.Output None (Some (BoundsTree 25 (num 26 32 1) (num 28 32 0))))) (id 30 (codes "o"))) ∷ [])) ([])) ∷ [])

abbrev pub Is_a_register_in_braces_of_a_connection : Type 0
Is_a_register_in_braces_of_a_connection = flat_design (plain text_of_a_register_in_braces_of_a_connection) None ≡ Err (at rule.BadTarget 13)

-- module m; reg r; s u({r, r}); endmodule module s(output [1:0] o); endmodule
abbrev text_of_a_register_in_braces_of_an_ordered_connection : List ModuleTree
text_of_a_register_in_braces_of_an_ordered_connection = ((ModuleOf (id 1 (codes "m")) ([]) (NamedPorts ([])) ((ItemAt 3 (Registers None ((RegisterOf (id 4 (codes "r")) None) ∷ []))) ∷ (ItemAt 6 (Instance (id 6 (codes "s")) None (id 7 (codes "u")) (Some (Ordered ((Concatenation 9 (trees ((nm 10 (codes "r")) ∷ (nm 12 (codes "r")) ∷ []))) ∷ []))))) ∷ [])) ∷ (ModuleOf (id 18 (codes "s")) ([]) (DeclaredPorts ((HeaderPortOf (Some (Head direction.Output None (Some (BoundsTree 21 (num 22 32 1) (num 24 32 0))))) (id 26 (codes "o"))) ∷ [])) ([])) ∷ [])

abbrev pub Is_a_register_in_braces_of_an_ordered_connection : Type 0
Is_a_register_in_braces_of_an_ordered_connection = flat_design (plain text_of_a_register_in_braces_of_an_ordered_connection) None ≡ Err (at rule.BadTarget 10)

-- module m(input [3:0] a, input b); assign a[b] = 1; endmodule
abbrev text_of_an_input_at_an_index_that_is_a_signal : List ModuleTree
text_of_an_input_at_an_index_that_is_a_signal = ((ModuleOf (id 1 (codes "m")) ([]) (DeclaredPorts ((HeaderPortOf (Some (Head direction.Input None (Some (BoundsTree 4 (num 5 32 3) (num 7 32 0))))) (id 9 (codes "a"))) ∷ (HeaderPortOf (Some (Head direction.Input None None)) (id 12 (codes "b"))) ∷ [])) ((ItemAt 15 (Drivers ((Driver (NamedTarget 16 (codes "a") (OneSelect (Bit 17 (nm 18 (codes "b"))))) (num 21 32 1)) ∷ []))) ∷ [])) ∷ [])

abbrev pub Is_an_input_at_an_index_that_is_a_signal : Type 0
Is_an_input_at_an_index_that_is_a_signal = flat_design (plain text_of_an_input_at_an_index_that_is_a_signal) None ≡ Err (at rule.TwoDrivers 16)

-- module m(input [3:0] a); assign a[zz] = 1; endmodule
abbrev text_of_an_input_at_an_undeclared_index : List ModuleTree
text_of_an_input_at_an_undeclared_index = ((ModuleOf (id 1 (codes "m")) ([]) (DeclaredPorts ((HeaderPortOf (Some (Head direction.Input None (Some (BoundsTree 4 (num 5 32 3) (num 7 32 0))))) (id 9 (codes "a"))) ∷ [])) ((ItemAt 12 (Drivers ((Driver (NamedTarget 13 (codes "a") (OneSelect (Bit 14 (nm 15 (codes "zz"))))) (num 18 32 1)) ∷ []))) ∷ [])) ∷ [])

abbrev pub Is_an_input_at_an_undeclared_index : Type 0
Is_an_input_at_an_undeclared_index = flat_design (plain text_of_an_input_at_an_undeclared_index) None ≡ Err (at rule.TwoDrivers 13)

-- module m(input [3:0] a); assign a[1][0] = 1; endmodule
abbrev text_of_an_input_with_two_selects : List ModuleTree
text_of_an_input_with_two_selects = ((ModuleOf (id 1 (codes "m")) ([]) (DeclaredPorts ((HeaderPortOf (Some (Head direction.Input None (Some (BoundsTree 4 (num 5 32 3) (num 7 32 0))))) (id 9 (codes "a"))) ∷ [])) ((ItemAt 12 (Drivers ((Driver (NamedTarget 13 (codes "a") (OfWord 14 (num 15 32 1) (Bit 17 (num 18 32 0)))) (num 21 32 1)) ∷ []))) ∷ [])) ∷ [])

abbrev pub Is_an_input_with_two_selects : Type 0
Is_an_input_with_two_selects = flat_design (plain text_of_an_input_with_two_selects) None ≡ Err (at rule.TwoDrivers 13)

-- module m(input [3:0] a); s u(.o(a[zz])); endmodule module s(output o); endmodule
abbrev text_of_an_output_joined_to_an_input : List ModuleTree
text_of_an_output_joined_to_an_input = ((ModuleOf (id 1 (codes "m")) ([]) (DeclaredPorts ((HeaderPortOf (Some (Head direction.Input None (Some (BoundsTree 4 (num 5 32 3) (num 7 32 0))))) (id 9 (codes "a"))) ∷ [])) ((ItemAt 12 (Instance (id 12 (codes "s")) None (id 13 (codes "u")) (Some (NamedConnections ((Connection 15 (id 16 (codes "o")) (Some (Named 18 (codes "a") (OneSelect (Bit 19 (nm 20 (codes "zz"))))))) ∷ []))))) ∷ [])) ∷ (ModuleOf (id 27 (codes "s")) ([]) (DeclaredPorts ((HeaderPortOf (Some (Head direction.Output None None)) (id 30 (codes "o"))) ∷ [])) ([])) ∷ [])

abbrev pub Is_an_output_joined_to_an_input : Type 0
Is_an_output_joined_to_an_input = flat_design (plain text_of_an_output_joined_to_an_input) None ≡ Err (at rule.TwoDrivers 15)

-- module m(input a); wire w; s u({w, a[zz]}); endmodule module s(output [1:0] o); endmodule
abbrev text_of_an_output_joined_to_a_net_and_an_input : List ModuleTree
text_of_an_output_joined_to_a_net_and_an_input = ((ModuleOf (id 1 (codes "m")) ([]) (DeclaredPorts ((HeaderPortOf (Some (Head direction.Input None None)) (id 4 (codes "a"))) ∷ [])) ((ItemAt 7 (Nets None ((NetOf (id 8 (codes "w")) None) ∷ []))) ∷ (ItemAt 10 (Instance (id 10 (codes "s")) None (id 11 (codes "u")) (Some (Ordered ((Concatenation 13 (trees ((nm 14 (codes "w")) ∷ (Named 16 (codes "a") (OneSelect (Bit 17 (nm 18 (codes "zz"))))) ∷ []))) ∷ []))))) ∷ [])) ∷ (ModuleOf (id 25 (codes "s")) ([]) (DeclaredPorts ((HeaderPortOf (Some (Head direction.Output None (Some (BoundsTree 28 (num 29 32 1) (num 31 32 0))))) (id 33 (codes "o"))) ∷ [])) ([])) ∷ [])

abbrev pub Is_an_output_joined_to_a_net_and_an_input : Type 0
Is_an_output_joined_to_a_net_and_an_input = flat_design (plain text_of_an_output_joined_to_a_net_and_an_input) None ≡ Err (at rule.TwoDrivers 13)

-- module m; wire y; assign y = 1; s u(.o({zz, y})); endmodule module s(output [1:0] o); endmodule
abbrev text_of_a_driven_net_behind_an_undeclared_part : List ModuleTree
text_of_a_driven_net_behind_an_undeclared_part = ((ModuleOf (id 1 (codes "m")) ([]) (NamedPorts ([])) ((ItemAt 3 (Nets None ((NetOf (id 4 (codes "y")) None) ∷ []))) ∷ (ItemAt 6 (Drivers ((Driver (tg 7 (codes "y")) (num 9 32 1)) ∷ []))) ∷ (ItemAt 11 (Instance (id 11 (codes "s")) None (id 12 (codes "u")) (Some (NamedConnections ((Connection 14 (id 15 (codes "o")) (Some (Concatenation 17 (trees ((nm 18 (codes "zz")) ∷ (nm 20 (codes "y")) ∷ []))))) ∷ []))))) ∷ [])) ∷ (ModuleOf (id 27 (codes "s")) ([]) (DeclaredPorts ((HeaderPortOf (Some (Head direction.Output None (Some (BoundsTree 30 (num 31 32 1) (num 33 32 0))))) (id 35 (codes "o"))) ∷ [])) ([])) ∷ [])

abbrev pub Is_a_driven_net_behind_an_undeclared_part : Type 0
Is_a_driven_net_behind_an_undeclared_part = flat_design (plain text_of_a_driven_net_behind_an_undeclared_part) None ≡ Err (at rule.TwoDrivers 14)

-- module m; wire y; s u(.o({{y, zz}, y})); endmodule module s(output [2:0] o); endmodule
abbrev text_of_a_net_twice_around_an_undeclared_part : List ModuleTree
text_of_a_net_twice_around_an_undeclared_part = ((ModuleOf (id 1 (codes "m")) ([]) (NamedPorts ([])) ((ItemAt 3 (Nets None ((NetOf (id 4 (codes "y")) None) ∷ []))) ∷ (ItemAt 6 (Instance (id 6 (codes "s")) None (id 7 (codes "u")) (Some (NamedConnections ((Connection 9 (id 10 (codes "o")) (Some (Concatenation 12 (trees ((Concatenation 13 (trees ((nm 14 (codes "y")) ∷ (nm 16 (codes "zz")) ∷ []))) ∷ (nm 19 (codes "y")) ∷ []))))) ∷ []))))) ∷ [])) ∷ (ModuleOf (id 26 (codes "s")) ([]) (DeclaredPorts ((HeaderPortOf (Some (Head direction.Output None (Some (BoundsTree 29 (num 30 32 2) (num 32 32 0))))) (id 34 (codes "o"))) ∷ [])) ([])) ∷ [])

abbrev pub Is_a_net_twice_around_an_undeclared_part : Type 0
Is_a_net_twice_around_an_undeclared_part = flat_design (plain text_of_a_net_twice_around_an_undeclared_part) None ≡ Err (at rule.TwoDrivers 9)

-- module m; wire y; s u(.o({zz, y})); endmodule module s(output [1:0] o); endmodule
abbrev text_of_an_undeclared_part_before_a_net : List ModuleTree
text_of_an_undeclared_part_before_a_net = ((ModuleOf (id 1 (codes "m")) ([]) (NamedPorts ([])) ((ItemAt 3 (Nets None ((NetOf (id 4 (codes "y")) None) ∷ []))) ∷ (ItemAt 6 (Instance (id 6 (codes "s")) None (id 7 (codes "u")) (Some (NamedConnections ((Connection 9 (id 10 (codes "o")) (Some (Concatenation 12 (trees ((nm 13 (codes "zz")) ∷ (nm 15 (codes "y")) ∷ []))))) ∷ []))))) ∷ [])) ∷ (ModuleOf (id 22 (codes "s")) ([]) (DeclaredPorts ((HeaderPortOf (Some (Head direction.Output None (Some (BoundsTree 25 (num 26 32 1) (num 28 32 0))))) (id 30 (codes "o"))) ∷ [])) ([])) ∷ [])

abbrev pub Is_an_undeclared_part_before_a_net : Type 0
Is_an_undeclared_part_before_a_net = flat_design (plain text_of_an_undeclared_part_before_a_net) None ≡ Err (at rule.UnknownName 13)

-- module m; reg a; reg a [zz:0]; endmodule
abbrev text_of_a_memory_of_a_registers_name : List ModuleTree
text_of_a_memory_of_a_registers_name = ((ModuleOf (id 1 (codes "m")) ([]) (NamedPorts ([])) ((ItemAt 3 (Registers None ((RegisterOf (id 4 (codes "a")) None) ∷ []))) ∷ (ItemAt 6 (Registers None ((RegisterOf (id 7 (codes "a")) (Some (Words (BoundsTree 8 (nm 9 (codes "zz")) (num 11 32 0))))) ∷ []))) ∷ [])) ∷ [])

abbrev pub Is_a_memory_of_a_registers_name : Type 0
Is_a_memory_of_a_registers_name = flat_design (plain text_of_a_memory_of_a_registers_name) None ≡ Err (at rule.DuplicateName 7)

-- module m; parameter a = 1; reg a [zz:0]; endmodule
abbrev text_of_a_memory_of_a_parameters_name : List ModuleTree
text_of_a_memory_of_a_parameters_name = ((ModuleOf (id 1 (codes "m")) ([]) (NamedPorts ([])) ((ItemAt 3 (Parameters parameter_kind.Parameter None ((ParameterOf (id 4 (codes "a")) (num 6 32 1)) ∷ []))) ∷ (ItemAt 8 (Registers None ((RegisterOf (id 9 (codes "a")) (Some (Words (BoundsTree 10 (nm 11 (codes "zz")) (num 13 32 0))))) ∷ []))) ∷ [])) ∷ [])

abbrev pub Is_a_memory_of_a_parameters_name : Type 0
Is_a_memory_of_a_parameters_name = flat_design (plain text_of_a_memory_of_a_parameters_name) None ≡ Err (at rule.DuplicateName 9)

-- module m; reg a [zz:0]; endmodule
abbrev text_of_a_memory_of_undeclared_words : List ModuleTree
text_of_a_memory_of_undeclared_words = ((ModuleOf (id 1 (codes "m")) ([]) (NamedPorts ([])) ((ItemAt 3 (Registers None ((RegisterOf (id 4 (codes "a")) (Some (Words (BoundsTree 5 (nm 6 (codes "zz")) (num 8 32 0))))) ∷ []))) ∷ [])) ∷ [])

abbrev pub Is_a_memory_of_undeclared_words : Type 0
Is_a_memory_of_undeclared_words = flat_design (plain text_of_a_memory_of_undeclared_words) None ≡ Err (at rule.UnknownName 6)

-- module m; integer i; initial for (i = 0; 0; i = zz) ; endmodule
abbrev text_of_an_undeclared_step_without_a_turn : List ModuleTree
text_of_an_undeclared_step_without_a_turn = ((ModuleOf (id 1 (codes "m")) ([]) (NamedPorts ([])) ((ItemAt 3 (Integers ((id 4 (codes "i")) ∷ []))) ∷ (ItemAt 6 (Initial (For 7 (Header (Assigned (id 9 (codes "i")) (num 11 32 0)) (num 13 32 0) (Assigned (id 15 (codes "i")) (nm 17 (codes "zz")))) Null))) ∷ [])) ∷ [])

abbrev pub Is_an_undeclared_step_without_a_turn : Type 0
Is_an_undeclared_step_without_a_turn = flat_design (plain text_of_an_undeclared_step_without_a_turn) None ≡ Err (at rule.UnknownName 17)

-- module m; integer i; wire w; initial for (i = 0; 0; i = 1 + w) ; endmodule
abbrev text_of_a_net_in_a_step_without_a_turn : List ModuleTree
text_of_a_net_in_a_step_without_a_turn = ((ModuleOf (id 1 (codes "m")) ([]) (NamedPorts ([])) ((ItemAt 3 (Integers ((id 4 (codes "i")) ∷ []))) ∷ (ItemAt 6 (Nets None ((NetOf (id 7 (codes "w")) None) ∷ []))) ∷ (ItemAt 9 (Initial (For 10 (Header (Assigned (id 12 (codes "i")) (num 14 32 0)) (num 16 32 0) (Assigned (id 18 (codes "i")) (Binary binary.Add (num 20 32 1) (nm 22 (codes "w"))))) Null))) ∷ [])) ∷ [])

abbrev pub Is_a_net_in_a_step_without_a_turn : Type 0
Is_a_net_in_a_step_without_a_turn = flat_design (plain text_of_a_net_in_a_step_without_a_turn) None ≡ Err (at rule.NotConstant 20)

-- module m; integer i; reg j [0:1]; initial for (i = 0; 1; j = 1) ; endmodule
abbrev text_of_a_memory_as_a_second_name_of_a_for : List ModuleTree
text_of_a_memory_as_a_second_name_of_a_for = ((ModuleOf (id 1 (codes "m")) ([]) (NamedPorts ([])) ((ItemAt 3 (Integers ((id 4 (codes "i")) ∷ []))) ∷ (ItemAt 6 (Registers None ((RegisterOf (id 7 (codes "j")) (Some (Words (BoundsTree 8 (num 9 32 0) (num 11 32 1))))) ∷ []))) ∷ (ItemAt 14 (Initial (For 15 (Header (Assigned (id 17 (codes "i")) (num 19 32 0)) (num 21 32 1) (Assigned (id 23 (codes "j")) (num 25 32 1))) Null))) ∷ [])) ∷ [])

abbrev pub Is_a_memory_as_a_second_name_of_a_for : Type 0
Is_a_memory_as_a_second_name_of_a_for = flat_design (plain text_of_a_memory_as_a_second_name_of_a_for) None ≡ Err (at rule.BadRange 23)

-- module m; integer i; wire j; initial for (i = 0; 1; j = 1) ; endmodule
abbrev text_of_a_net_as_a_second_name_of_a_for : List ModuleTree
text_of_a_net_as_a_second_name_of_a_for = ((ModuleOf (id 1 (codes "m")) ([]) (NamedPorts ([])) ((ItemAt 3 (Integers ((id 4 (codes "i")) ∷ []))) ∷ (ItemAt 6 (Nets None ((NetOf (id 7 (codes "j")) None) ∷ []))) ∷ (ItemAt 9 (Initial (For 10 (Header (Assigned (id 12 (codes "i")) (num 14 32 0)) (num 16 32 1) (Assigned (id 18 (codes "j")) (num 20 32 1))) Null))) ∷ [])) ∷ [])

abbrev pub Is_a_net_as_a_second_name_of_a_for : Type 0
Is_a_net_as_a_second_name_of_a_for = flat_design (plain text_of_a_net_as_a_second_name_of_a_for) None ≡ Err (at rule.BadTarget 18)

-- module m; wire [127:0] a; wire [7:0] r; wire b = {a, r[{200{1'b1}}]}; endmodule
abbrev text_of_a_digit_at_an_index_that_is_too_wide : List ModuleTree
text_of_a_digit_at_an_index_that_is_too_wide = ((ModuleOf (id 1 (codes "m")) ([]) (NamedPorts ([])) ((ItemAt 3 (Nets (Some (BoundsTree 4 (num 5 32 127) (num 7 32 0))) ((NetOf (id 9 (codes "a")) None) ∷ []))) ∷ (ItemAt 11 (Nets (Some (BoundsTree 12 (num 13 32 7) (num 15 32 0))) ((NetOf (id 17 (codes "r")) None) ∷ []))) ∷ (ItemAt 19 (Nets None ((NetOf (id 20 (codes "b")) (Some (Concatenation 22 (trees ((nm 23 (codes "a")) ∷ (Named 25 (codes "r") (OneSelect (Bit 26 (Replication 27 (num 28 32 200) (trees ((num 30 1 1) ∷ [])))))) ∷ []))))) ∷ []))) ∷ [])) ∷ [])

abbrev pub Is_a_digit_at_an_index_that_is_too_wide : Type 0
Is_a_digit_at_an_index_that_is_too_wide = flat_design (plain text_of_a_digit_at_an_index_that_is_too_wide) None ≡ Err (at rule.TooWide 22)

-- module m; wire [127:0] a; reg [7:0] r [0:3]; wire b = {a, r[{200{1'b1}}]}; endmodule
abbrev text_of_a_word_at_an_index_that_is_too_wide : List ModuleTree
text_of_a_word_at_an_index_that_is_too_wide = ((ModuleOf (id 1 (codes "m")) ([]) (NamedPorts ([])) ((ItemAt 3 (Nets (Some (BoundsTree 4 (num 5 32 127) (num 7 32 0))) ((NetOf (id 9 (codes "a")) None) ∷ []))) ∷ (ItemAt 11 (Registers (Some (BoundsTree 12 (num 13 32 7) (num 15 32 0))) ((RegisterOf (id 17 (codes "r")) (Some (Words (BoundsTree 18 (num 19 32 0) (num 21 32 3))))) ∷ []))) ∷ (ItemAt 24 (Nets None ((NetOf (id 25 (codes "b")) (Some (Concatenation 27 (trees ((nm 28 (codes "a")) ∷ (Named 30 (codes "r") (OneSelect (Bit 31 (Replication 32 (num 33 32 200) (trees ((num 35 1 1) ∷ [])))))) ∷ []))))) ∷ []))) ∷ [])) ∷ [])

abbrev pub Is_a_word_at_an_index_that_is_too_wide : Type 0
Is_a_word_at_an_index_that_is_too_wide = flat_design (plain text_of_a_word_at_an_index_that_is_too_wide) None ≡ Err (at rule.TooWide 27)

-- module m; wire [127:0] a; reg r; assign {a, r} = 0; endmodule
abbrev text_of_a_register_in_wide_braces : List ModuleTree
text_of_a_register_in_wide_braces = ((ModuleOf (id 1 (codes "m")) ([]) (NamedPorts ([])) ((ItemAt 3 (Nets (Some (BoundsTree 4 (num 5 32 127) (num 7 32 0))) ((NetOf (id 9 (codes "a")) None) ∷ []))) ∷ (ItemAt 11 (Registers None ((RegisterOf (id 12 (codes "r")) None) ∷ []))) ∷ (ItemAt 14 (Drivers ((Driver (JoinedTarget 15 (targets ((tg 16 (codes "a")) ∷ (tg 18 (codes "r")) ∷ []))) (num 21 32 0)) ∷ []))) ∷ [])) ∷ [])

abbrev pub Is_a_register_in_wide_braces : Type 0
Is_a_register_in_wide_braces = flat_design (plain text_of_a_register_in_wide_braces) None ≡ Err (at rule.BadTarget 18)

-- module m; reg [127:0] a; wire w; initial {a, w} = 0; endmodule
abbrev text_of_a_net_in_wide_braces_of_a_procedure : List ModuleTree
text_of_a_net_in_wide_braces_of_a_procedure = ((ModuleOf (id 1 (codes "m")) ([]) (NamedPorts ([])) ((ItemAt 3 (Registers (Some (BoundsTree 4 (num 5 32 127) (num 7 32 0))) ((RegisterOf (id 9 (codes "a")) None) ∷ []))) ∷ (ItemAt 11 (Nets None ((NetOf (id 12 (codes "w")) None) ∷ []))) ∷ (ItemAt 14 (Initial (Assignment assignment.Blocking (JoinedTarget 15 (targets ((tg 16 (codes "a")) ∷ (tg 18 (codes "w")) ∷ []))) (num 21 32 0)))) ∷ [])) ∷ [])

abbrev pub Is_a_net_in_wide_braces_of_a_procedure : Type 0
Is_a_net_in_wide_braces_of_a_procedure = flat_design (plain text_of_a_net_in_wide_braces_of_a_procedure) None ≡ Err (at rule.BadTarget 18)

-- module m; wire [127:0] a; wire y; assign y = 1; assign {a, y} = 0; endmodule
abbrev text_of_a_driven_net_in_wide_braces : List ModuleTree
text_of_a_driven_net_in_wide_braces = ((ModuleOf (id 1 (codes "m")) ([]) (NamedPorts ([])) ((ItemAt 3 (Nets (Some (BoundsTree 4 (num 5 32 127) (num 7 32 0))) ((NetOf (id 9 (codes "a")) None) ∷ []))) ∷ (ItemAt 11 (Nets None ((NetOf (id 12 (codes "y")) None) ∷ []))) ∷ (ItemAt 14 (Drivers ((Driver (tg 15 (codes "y")) (num 17 32 1)) ∷ []))) ∷ (ItemAt 19 (Drivers ((Driver (JoinedTarget 20 (targets ((tg 21 (codes "a")) ∷ (tg 23 (codes "y")) ∷ []))) (num 26 32 0)) ∷ []))) ∷ [])) ∷ [])

abbrev pub Is_a_driven_net_in_wide_braces : Type 0
Is_a_driven_net_in_wide_braces = flat_design (plain text_of_a_driven_net_in_wide_braces) None ≡ Err (at rule.TwoDrivers 23)

-- module m(input i); wire [127:0] a; assign {a, i} = 0; endmodule
abbrev text_of_an_input_in_wide_braces : List ModuleTree
text_of_an_input_in_wide_braces = ((ModuleOf (id 1 (codes "m")) ([]) (DeclaredPorts ((HeaderPortOf (Some (Head direction.Input None None)) (id 4 (codes "i"))) ∷ [])) ((ItemAt 7 (Nets (Some (BoundsTree 8 (num 9 32 127) (num 11 32 0))) ((NetOf (id 13 (codes "a")) None) ∷ []))) ∷ (ItemAt 15 (Drivers ((Driver (JoinedTarget 16 (targets ((tg 17 (codes "a")) ∷ (tg 19 (codes "i")) ∷ []))) (num 22 32 0)) ∷ []))) ∷ [])) ∷ [])

abbrev pub Is_an_input_in_wide_braces : Type 0
Is_an_input_in_wide_braces = flat_design (plain text_of_an_input_in_wide_braces) None ≡ Err (at rule.TwoDrivers 19)

-- module m; wire [127:0] a; wire y; assign {a, y} = 0; endmodule
abbrev text_of_a_target_of_129_digits : List ModuleTree
text_of_a_target_of_129_digits = ((ModuleOf (id 1 (codes "m")) ([]) (NamedPorts ([])) ((ItemAt 3 (Nets (Some (BoundsTree 4 (num 5 32 127) (num 7 32 0))) ((NetOf (id 9 (codes "a")) None) ∷ []))) ∷ (ItemAt 11 (Nets None ((NetOf (id 12 (codes "y")) None) ∷ []))) ∷ (ItemAt 14 (Drivers ((Driver (JoinedTarget 15 (targets ((tg 16 (codes "a")) ∷ (tg 18 (codes "y")) ∷ []))) (num 21 32 0)) ∷ []))) ∷ [])) ∷ [])

abbrev pub Is_a_target_of_129_digits : Type 0
Is_a_target_of_129_digits = flat_design (plain text_of_a_target_of_129_digits) None ≡ Err (at rule.TooWide 15)

-- module m; wire w; s u(1, 1, w); endmodule module s(input a, input a, output b); endmodule
abbrev text_of_a_port_twice_before_another : List ModuleTree
text_of_a_port_twice_before_another = ((ModuleOf (id 1 (codes "m")) ([]) (NamedPorts ([])) ((ItemAt 3 (Nets None ((NetOf (id 4 (codes "w")) None) ∷ []))) ∷ (ItemAt 6 (Instance (id 6 (codes "s")) None (id 7 (codes "u")) (Some (Ordered ((num 9 32 1) ∷ (num 11 32 1) ∷ (nm 13 (codes "w")) ∷ []))))) ∷ [])) ∷ (ModuleOf (id 18 (codes "s")) ([]) (DeclaredPorts ((HeaderPortOf (Some (Head direction.Input None None)) (id 21 (codes "a"))) ∷ (HeaderPortOf (Some (Head direction.Input None None)) (id 24 (codes "a"))) ∷ (HeaderPortOf (Some (Head direction.Output None None)) (id 27 (codes "b"))) ∷ [])) ([])) ∷ [])

abbrev pub Is_a_port_twice_before_another : Type 0
Is_a_port_twice_before_another = flat_design (plain text_of_a_port_twice_before_another) None ≡ Err (at rule.DuplicateName 24)

-- module m; s u(1, 1); endmodule module s(input a, output a); endmodule
abbrev text_of_a_port_twice_with_two_directions : List ModuleTree
text_of_a_port_twice_with_two_directions = ((ModuleOf (id 1 (codes "m")) ([]) (NamedPorts ([])) ((ItemAt 3 (Instance (id 3 (codes "s")) None (id 4 (codes "u")) (Some (Ordered ((num 6 32 1) ∷ (num 8 32 1) ∷ []))))) ∷ [])) ∷ (ModuleOf (id 13 (codes "s")) ([]) (DeclaredPorts ((HeaderPortOf (Some (Head direction.Input None None)) (id 16 (codes "a"))) ∷ (HeaderPortOf (Some (Head direction.Output None None)) (id 19 (codes "a"))) ∷ [])) ([])) ∷ [])

abbrev pub Is_a_port_twice_with_two_directions : Type 0
Is_a_port_twice_with_two_directions = flat_design (plain text_of_a_port_twice_with_two_directions) None ≡ Err (at rule.BadTarget 8)

-- module m; wire w; s u(w, w, w); endmodule module s(a, a, b); input a; output b; endmodule
abbrev text_of_a_header_name_twice_before_another : List ModuleTree
text_of_a_header_name_twice_before_another = ((ModuleOf (id 1 (codes "m")) ([]) (NamedPorts ([])) ((ItemAt 3 (Nets None ((NetOf (id 4 (codes "w")) None) ∷ []))) ∷ (ItemAt 6 (Instance (id 6 (codes "s")) None (id 7 (codes "u")) (Some (Ordered ((nm 9 (codes "w")) ∷ (nm 11 (codes "w")) ∷ (nm 13 (codes "w")) ∷ []))))) ∷ [])) ∷ (ModuleOf (id 18 (codes "s")) ([]) (NamedPorts ((id 20 (codes "a")) ∷ (id 22 (codes "a")) ∷ (id 24 (codes "b")) ∷ [])) ((ItemAt 27 (Ports (Head direction.Input None None) ((id 28 (codes "a")) ∷ []))) ∷ (ItemAt 30 (Ports (Head direction.Output None None) ((id 31 (codes "b")) ∷ []))) ∷ [])) ∷ [])

abbrev pub Is_a_header_name_twice_before_another : Type 0
Is_a_header_name_twice_before_another = flat_design (plain text_of_a_header_name_twice_before_another) None ≡ Err (at rule.BadPort 22)

-- module a0; a1 u(); endmodule module a1; a2 u(); endmodule .. module a65; endmodule: from module n on, so many that hold one more
abbrev chain : ℕ → ℕ → List ModuleTree
chain n zero = ModuleOf (id (9 * n + 1) (97 ∷ decimal n)) [] (NamedPorts []) [] ∷ []
chain n (suc more) = ModuleOf (id (9 * n + 1) (97 ∷ decimal n)) [] (NamedPorts []) (ItemAt (9 * n + 3) (Instance (id (9 * n + 3) (97 ∷ decimal (n + 1))) None (id (9 * n + 4) (codes "u")) None) ∷ []) ∷ chain (n + 1) more

abbrev node_count : Result Design Broken → ℕ
node_count (Ok d) = length d.nodes
node_count (Err b) = 0

abbrev pub Is_an_instance_64_below_the_top : Type 0
Is_an_instance_64_below_the_top = node_count (flat_design (plain (chain 0 64)) None) ≡ 65

abbrev pub Is_an_instance_65_below_the_top : Type 0
Is_an_instance_65_below_the_top = flat_design (plain (chain 0 65)) None ≡ Err (at rule.TooMany 579)

-- module m; reg [3:0] a; initial a <= #n 5; endmodule
abbrev text_of_a_delay : ℕ → List ModuleTree
text_of_a_delay n = ((ModuleOf (id 1 (codes "m")) ([]) (NamedPorts ([])) ((ItemAt 3 (Registers (Some (BoundsTree 4 (num 5 32 3) (num 7 32 0))) ((RegisterOf (id 9 (codes "a")) None) ∷ []))) ∷ (ItemAt 11 (Initial (Assignment (delayed 15 n) (tg 12 (codes "a")) (num 16 32 5)))) ∷ [])) ∷ [])

-- module m; reg [3:0] a; initial a <= #3 5; endmodule in units of two steps
abbrev pub Is_a_delay_in_units_of_two_steps : Type 0
Is_a_delay_in_units_of_two_steps = shown ((bits (codes "xxxx")) ∷ []) (flat_design (record { list = text_of_a_delay 3; units = 2000000 ∷ []; step_fs = 1000000 }) None) ≡ Ok (record { signals = (sg (codes "m.a") 4 X ∷ []); nodes = (record { path = codes "m"; children = ((codes "a", spot.Sig (sig 0)) ∷ []) } ∷ []); processes = (record { kind = process_kind.Initial; wakes = ([]); changes = ([]); updates = (after 6 (up 0 0 (bits (codes "1010"))) ∷ []) } ∷ []) })

-- the same with #0
abbrev pub Is_a_delay_of_0 : Type 0
Is_a_delay_of_0 = shown ((bits (codes "xxxx")) ∷ []) (flat_design (record { list = text_of_a_delay 0; units = 1000000 ∷ []; step_fs = 1000000 }) None) ≡ Err (at rule.BadDelay 15)

-- the same with #3, in units of half a step
abbrev pub Is_a_delay_of_no_whole_number_of_steps : Type 0
Is_a_delay_of_no_whole_number_of_steps = shown ((bits (codes "xxxx")) ∷ []) (flat_design (record { list = text_of_a_delay 3; units = 2000000 ∷ []; step_fs = 4000000 }) None) ≡ Err (at rule.BadDelay 15)

-- all of them
abbrev pub All_rows : Type 0
All_rows = Is_a_memory_and_an_instance × Is_widths_of_operators × Is_a_rising_range × Is_words_of_a_memory × Is_a_braced_target_with_an_index × Is_nonblocking_updates × Is_casez_with_a_default_in_front × Is_case_of_unknown_digits × Is_loops_inside_loops × Is_contexts_of_sums × Is_values_of_parameters × Is_an_override_before_the_parameters × Is_an_unknown_condition × Is_a_port_in_two_declarations × Is_events_and_labels × Is_casex_and_all_that_is_read × Is_loops_over_words × Is_selects_of_words × Is_overrides_and_parts_of_ports × Is_parameters_of_a_header × Is_the_order_of_ports × Is_drives_side_by_side × Is_statements_of_every_form × Is_two_modules_that_nobody_instantiates × Is_modules_that_instantiate_one_another × Is_only_a_module_inside_itself × Is_a_top_that_is_not_there × Is_an_instance_of_no_module × Is_an_instance_of_no_module_in_a_child × Is_no_module_before_what_it_is_given × Is_a_module_inside_itself × Is_a_module_inside_itself_through_another × Is_a_module_inside_itself_before_its_ports × Is_two_modules_of_a_name × Is_a_parameter_of_a_nets_name × Is_a_port_declared_again_with_other_bounds × Is_a_port_declared_again_as_a_memory × Is_a_subtree_is_walked_at_its_item × Is_an_undeclared_name × Is_an_undeclared_second_name_of_a_for × Is_declarations_before_items × Is_a_lost_width_asks_nothing × Is_the_word_of_an_undeclared_index × Is_the_digit_of_an_undeclared_index × Is_a_port_without_direction × Is_an_input_that_is_a_register × Is_a_port_connected_twice × Is_an_override_of_a_localparam × Is_a_range_of_a_net × Is_a_parameter_with_an_unknown_digit × Is_a_driven_digit_at_an_index × Is_a_parameter_before_its_declaration × Is_a_part_against_a_rising_range × Is_a_part_of_a_memory × Is_two_selects_of_a_vector × Is_a_replication_of_nothing × Is_an_event_on_a_memory × Is_a_port_of_129_digits × Is_a_wide_part_of_a_comparison × Is_the_whole_is_too_wide_before_its_part × Is_a_part_of_201_digits × Is_a_part_of_200_digits_from_an_unknown_index × Is_a_part_of_200_digits_of_an_unknown_word × Is_two_assignments_of_a_net × Is_digits_driven_twice × Is_a_net_twice_in_a_braced_target × Is_an_assignment_of_an_input × Is_an_output_joined_to_a_driven_net × Is_a_net_in_a_procedure × Is_a_register_in_an_assignment × Is_the_variable_of_a_loop_as_a_target × Is_a_for_of_two_names × Is_an_output_joined_to_a_sum × Is_a_loop_of_4097_turns × Is_a_loop_of_4096_turns × Is_a_loop_that_cant_end × Is_a_long_loop_before_what_it_holds × Is_one_signal_too_many × Is_a_memory_of_all_indices × Is_one_signal_too_many_in_a_child × Is_contexts_of_comparisons × Is_contexts_of_shifts × Is_contexts_of_conditions × Is_operands_of_their_own_width × Is_unknown_operands × Is_conditions_of_unknown_digits × Is_indices_of_targets_and_reads × Is_labels_of_other_widths × Is_cases_of_x_and_z × Is_connections_in_another_order × Is_a_grandchild_before_a_sibling × Is_a_parameters_own_width × Is_a_register_in_braces_of_a_connection × Is_a_register_in_braces_of_an_ordered_connection × Is_an_input_at_an_index_that_is_a_signal × Is_an_input_at_an_undeclared_index × Is_an_input_with_two_selects × Is_an_output_joined_to_an_input × Is_an_output_joined_to_a_net_and_an_input × Is_a_driven_net_behind_an_undeclared_part × Is_a_net_twice_around_an_undeclared_part × Is_an_undeclared_part_before_a_net × Is_a_memory_of_a_registers_name × Is_a_memory_of_a_parameters_name × Is_a_memory_of_undeclared_words × Is_an_undeclared_step_without_a_turn × Is_a_net_in_a_step_without_a_turn × Is_a_memory_as_a_second_name_of_a_for × Is_a_net_as_a_second_name_of_a_for × Is_a_digit_at_an_index_that_is_too_wide × Is_a_word_at_an_index_that_is_too_wide × Is_a_register_in_wide_braces × Is_a_net_in_wide_braces_of_a_procedure × Is_a_driven_net_in_wide_braces × Is_an_input_in_wide_braces × Is_a_target_of_129_digits × Is_a_port_twice_before_another × Is_a_port_twice_with_two_directions × Is_a_header_name_twice_before_another × Is_an_instance_64_below_the_top × Is_an_instance_65_below_the_top × Is_a_delay_in_units_of_two_steps × Is_a_delay_of_0 × Is_a_delay_of_no_whole_number_of_steps
