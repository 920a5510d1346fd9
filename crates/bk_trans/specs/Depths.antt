-- How deep the frame is after declarations: a value takes a word, a vector k its words from 0 to k and their address.
use Rattle.std.specs.Prelude.{ℕ, ◌+◌, Bool, true, false}
use Rattle.bk_trans.specs.Program.{Terms, Declaration, Declarations, Definition, Definitions, Starts, none, more, statics, lets, no_declarations, declare, variables, no_definitions, define, no_starts, value, vector}

abbrev pub count : Terms → ℕ
count none = 0
count (more e es) = count es + 1

abbrev pub after_starts : ℕ → Starts → ℕ
after_starts t no_starts = t
after_starts t (value e is) = after_starts (t + 1) is
after_starts t (vector k is) = after_starts (t + k + 2) is

abbrev pub after_definition : ℕ → Definition → ℕ
after_definition t (variables is) = after_starts t is
after_definition t _ = t

abbrev pub after_definitions : ℕ → Definitions → ℕ
after_definitions t no_definitions = t
after_definitions t (define d ds) = after_definitions (after_definition t d) ds

abbrev pub after_declaration : ℕ → Declaration → ℕ
after_declaration t (statics ks) = t
after_declaration t (lets ds) = after_definitions t ds

abbrev pub after_declarations : ℕ → Declarations → ℕ
after_declarations t no_declarations = t
after_declarations t (declare h hs) = after_declarations (after_declaration t h) hs

-- whether a LET has variables
abbrev pub has_variables : Definitions → Bool
has_variables no_definitions = false
has_variables (define (variables is) ds) = true
has_variables (define _ ds) = has_variables ds
