-- The texts of generated work: the design, and the tests of a number.
use Rattle.std.specs.Prelude.{ℕ, ◌+◌, ◌/◌, ◌%◌, List, [], ◌∷◌, ◌++◌, flat_map, codes, decimal}
use Rattle.std.specs.List.{join_by, range_with_len}

-- a text of these lines, each with a line feed at its end
abbrev pub text_of : List (List ℕ) → List ℕ
text_of lines = flat_map (λ line. line ++ codes "\n") lines

-- the design: a register that counts the rising edges of its clock
unfoldable pub design_text : List ℕ
design_text =
    text_of (
    codes "module made(input clk, output reg [7:0] q);"
    ∷ codes "  initial q = 0;"
    ∷ codes "  always @(posedge clk) q <= q + 1;"
    ∷ codes "endmodule"
    ∷ []
    )

-- the tests, up to the options of their factory
unfoldable pub front_text : List ℕ
front_text =
    text_of (
    codes "import cocotb"
    ∷ codes "from cocotb.clock import Clock"
    ∷ codes "from cocotb.regression import TestFactory"
    ∷ codes "from cocotb.triggers import ClockCycles, First, Lock, RisingEdge, Timer"
    ∷ codes ""
    ∷ codes "async def worker(dut, lock, k):"
    ∷ codes "    while True:"
    ∷ codes "        async with lock:"
    ∷ codes "            await RisingEdge(dut.clk)"
    ∷ codes "        await First(RisingEdge(dut.clk), Timer(k, \"step\"))"
    ∷ codes ""
    ∷ codes "async def made(dut, n, m):"
    ∷ codes "    lock = Lock()"
    ∷ codes "    cocotb.start_soon(Clock(dut.clk, 10, \"step\").start())"
    ∷ codes "    for i in range(n):"
    ∷ codes "        cocotb.start_soon(worker(dut, lock, i + 1))"
    ∷ codes "    await ClockCycles(dut.clk, m)"
    ∷ codes "    extra = cocotb.start_soon(worker(dut, lock, n + 1))"
    ∷ codes "    await Timer(3, \"step\")"
    ∷ codes "    extra.kill()"
    ∷ codes ""
    ∷ codes "tf = TestFactory(made)"
    ∷ []
    )

-- the numbers from 1 to the last, with commas between
abbrev pub numbers_to : ℕ → List ℕ
numbers_to last = join_by decimal (codes ", ") (range_with_len 1 last)

-- an option of the factory, which takes each number from 1 to the last
abbrev pub option_line : List ℕ → ℕ → List ℕ
option_line name last = codes "tf.add_option(\"" ++ name ++ codes "\", [" ++ numbers_to last ++ codes "])"

-- how many workers a test begins with at the most: one more than the lowest hexadecimal digit of the number
abbrev pub most_workers : ℕ → ℕ
most_workers number = 1 + number % 16

-- for how many cycles of the clock it goes on at the most: one more than the next digit
abbrev pub most_cycles : ℕ → ℕ
most_cycles number = 1 + (number / 16) % 16

-- the tests, from the options of their factory on
unfoldable pub options_text : ℕ → List ℕ
options_text number =
    text_of (
    option_line (codes "n") (most_workers number)
    ∷ option_line (codes "m") (most_cycles number)
    ∷ codes "tf.generate_tests()"
    ∷ []
    )

-- the tests: one for each number of workers and each number of cycles
abbrev pub tests_text : ℕ → List ℕ
tests_text number = front_text ++ options_text number
