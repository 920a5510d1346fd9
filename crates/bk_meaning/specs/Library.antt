-- The routines of the library. A needed argument that is missing, or is not of the kind needed, is undefined; arguments left
-- over are dropped. What RDCH and GETBYTE give is a number; the others give nothing that is set.
use Rattle.std.specs.Prelude.{ℕ, zero, suc, ◌+◌, ◌-◌, ◌%◌, ◌^◌, cond, is_some, Option, Some, None, option_and_then, List, [], ◌∷◌, ◌++◌, length}
use Rattle.std.specs.Option.{option_map}
use Rattle.bk_base.specs.Word.{signed}
use Rattle.bk_base.specs.Decimal.{spelling}
use Rattle.bk_base.specs.Format as f
use Rattle.bk_base.specs.Format.{FormatPart, aligned, parts}
use Rattle.bk_meaning.specs.Values.{Routine, stop, rdch, wrch, newline, writes, writen, writed, getbyte, putbyte, writef, Value, number, unset}
use Rattle.bk_meaning.specs.Causes.{Cause, no_number, no_argument, argument, byte_cause, set_byte_cause, of_arguments}
use Rattle.bk_meaning.specs.Memory.{Memory, read_byte, write_byte}
use Rattle.bk_meaning.specs.World.{World, Outcome, gives, ends, undefined, status, given, with, changes, writing}

-- the bytes of a string at an address, and n of them from byte i on
abbrev pub bytes_from : ℕ → Memory → Value → ℕ → Option (List ℕ)
bytes_from zero m a i = Some []
bytes_from (suc n) m a i = option_and_then (λ b. option_map (λ bs. b ∷ bs) (bytes_from n m a (i + 1))) (read_byte m a (number i))

abbrev pub string_at : Memory → Value → Option (List ℕ)
string_at m a = option_and_then (λ n. bytes_from n m a 1) (read_byte m a (number 0))

abbrev pub digits : ℕ → List ℕ
digits n = spelling (signed n)

-- what a part of a format writes of an argument
abbrev pub argument_text : Memory → FormatPart → Value → Option (List ℕ)
argument_text m f.String a = string_at m a
argument_text m f.Number (number n) = Some (digits n)
argument_text m f.Character (number n) = Some (n % 256 ∷ [])
argument_text m (f.Column width) (number n) = Some (aligned n width)
argument_text m _ _ = None

-- what a format writes of its arguments; one that is left over is dropped
abbrev pub written : Memory → List FormatPart → List Value → Option (List ℕ)
written m [] vs = Some []
written m (f.Byte b ∷ ps) vs = option_map (λ text. b ∷ text) (written m ps vs)
written m (f.Percent ∷ ps) vs = option_map (λ text. 37 ∷ text) (written m ps vs)
written m (p ∷ ps) [] = None
written m (p ∷ ps) (v ∷ vs) = option_and_then (λ first. option_map (λ text. first ++ text) (written m ps vs)) (argument_text m p v)

-- Why there are no such bytes, no string, no text of an argument, and none of the arguments of a format from the nth on: for the first
-- byte or argument that is missing.
abbrev pub bytes_cause : ℕ → Memory → Value → ℕ → Cause
bytes_cause zero m a i = byte_cause a (number i)
bytes_cause (suc n) m a i = cond (is_some (read_byte m a (number i))) (bytes_cause n m a (i + 1)) (byte_cause a (number i))

abbrev pub string_cause_after : Option ℕ → Memory → Value → Cause
string_cause_after None m a = byte_cause a (number 0)
string_cause_after (Some n) m a = bytes_cause n m a 1

abbrev pub string_cause : Memory → Value → Cause
string_cause m a = string_cause_after (read_byte m a (number 0)) m a

abbrev pub argument_cause : Memory → FormatPart → Value → Cause
argument_cause m f.String a = string_cause m a
argument_cause m p v = no_number v

abbrev pub written_cause : Memory → ℕ → List FormatPart → List Value → Cause
written_cause m n (f.Byte b ∷ ps) vs = written_cause m n ps vs
written_cause m n (f.Percent ∷ ps) vs = written_cause m n ps vs
written_cause m n (p ∷ ps) (v ∷ vs) = cond (is_some (argument_text m p v)) (written_cause m (n + 1) ps vs) (argument n (argument_cause m p v))
written_cause m n _ _ = argument n no_argument

abbrev pub format_cause : Memory → Value → Option (List ℕ) → List Value → Cause
format_cause m s None vs = argument 1 (string_cause m s)
format_cause m s (Some bytes) vs = written_cause m 2 (parts bytes) vs

-- writes a text, if it is one
abbrev pub writes_text : ℕ → Cause → Option (List ℕ) → World → Outcome Value
writes_text l why None w = undefined l why w
writes_text l why (Some text) w = gives unset (writing text w)

-- why a call of a routine is undefined that is none of those below: an argument is missing, or no number
abbrev pub arguments_cause : Routine → List Value → Cause
arguments_cause stop (v ∷ vs) = argument 1 (no_number v)
arguments_cause wrch (v ∷ vs) = argument 1 (no_number v)
arguments_cause writen (v ∷ vs) = argument 1 (no_number v)
arguments_cause writed (number n ∷ d ∷ vs) = argument 2 (no_number d)
arguments_cause writed (v ∷ d ∷ vs) = argument 1 (no_number v)
arguments_cause r vs = argument (length vs + 1) no_argument

abbrev pub takes_byte : List ℕ → World → Outcome Value
takes_byte [] w = gives (number (2 ^ 32 - 1)) w
takes_byte (b ∷ rest) w = gives (number b) (record w { input = rest })

abbrev pub library : ℕ → Routine → List Value → World → Outcome Value
library l stop (number n ∷ vs) w = ends (status n) w
library l rdch vs w = takes_byte w.input w
library l wrch (number n ∷ vs) w = gives unset (writing (n % 256 ∷ []) w)
library l newline vs w = gives unset (writing (10 ∷ []) w)
library l writes (s ∷ vs) w = writes_text l (argument 1 (string_cause w.memory s)) (string_at w.memory s) w
library l writen (number n ∷ vs) w = gives unset (writing (digits n) w)
library l writed (number n ∷ number d ∷ vs) w = gives unset (writing (aligned n d) w)
library l getbyte (s ∷ i ∷ vs) w = given l (of_arguments (byte_cause s i)) (option_map number (read_byte w.memory s i)) w
library l putbyte (s ∷ i ∷ b ∷ vs) w = with (changes l (of_arguments (set_byte_cause s i b)) (write_byte w.memory s i b) w) (λ _ w. gives unset w)
library l writef (s ∷ vs) w =
    writes_text l (format_cause w.memory s (string_at w.memory s) vs) (option_and_then (λ bytes. written w.memory (parts bytes) vs) (string_at w.memory s)) w
library l r vs w = undefined l (arguments_cause r vs) w
