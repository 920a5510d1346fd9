-- Instructions as words: the function in bits 29 to 31, I in bit 28, P in 27, G in 26, long in 25, the address below.
use Rattle.std.specs.Prelude.{ℕ, ◌+◌, ◌*◌, ◌^◌, Bool, true, false, List, [], ◌∷◌, nat_lt, if◌then◌else◌}
use Rattle.bk_base.specs.Word.{word_of}
use Rattle.bk_machine.specs.declared.item.Function.{Function}
use Rattle.bk_machine.specs.declared.item.Function.TheVariants.{Load, Store, Add, Jump, JumpTrue, JumpFalse, Call, Operate}
use Rattle.bk_machine.specs.declared.item.Operand.{Operand}
use Rattle.bk_machine.specs.declared.item.Operand.TheVariants.{Number, Local, Global, Label}

abbrev pub function_number : Function → ℕ
function_number Load = 0
function_number Store = 1
function_number Add = 2
function_number Jump = 3
function_number JumpTrue = 4
function_number JumpFalse = 5
function_number Call = 6
function_number Operate = 7

abbrev pub bit : Bool → ℕ
bit true = 1
bit false = 0

-- a word of these fields, without its address
abbrev pub fields : Function → Bool → Bool → Bool → Bool → ℕ
fields function indirect local global long =
    2 ^ 29 * function_number function + 2 ^ 28 * bit indirect + 2 ^ 27 * bit local + 2 ^ 26 * bit global + 2 ^ 25 * bit long

-- An address below 2^25 is in the word, any other in the word after it.
abbrev pub instruction_at : Function → Bool → Bool → Bool → ℕ → List ℕ
instruction_at function indirect local global address =
    if nat_lt address (2 ^ 25) then (fields function indirect local global false + address) ∷ []
    else fields function indirect local global true ∷ address ∷ []

-- The words of an instruction, given the labels' numbers. A label takes one word: where a segment is placed, its number is
-- below 2^25.
abbrev pub instruction_words : (ℕ → ℕ) → Function → Bool → Operand → List ℕ
instruction_words labels function indirect (Number n) = instruction_at function indirect false false (word_of n)
instruction_words labels function indirect (Local n) = instruction_at function indirect true false (word_of n)
instruction_words labels function indirect (Global n) = instruction_at function indirect false true (word_of n)
instruction_words labels function indirect (Label l) = (fields function indirect false false false + labels l) ∷ []
