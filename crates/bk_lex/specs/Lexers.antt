-- A lexer over bytes that come one after another: the invariant of its progress.
use Rattle.std.specs.Prelude.{ℕ, ◌+◌, ◌≤◌, ◌≡◌, ⊤, true, List, [], ◌∷◌, ◌++◌, length, slice_range, Some, None, Ok, Err}
use Rattle.bk_lex.specs.Counting.{start}
use Rattle.bk_lex.specs.Lexing.{section, reading, run, lexed, placed_fault, place_after}
use Rattle.bk_lex.specs.Cutting.{state_after}
use Rattle.bk_lex.specs.Found.{all_found, found_in, AreWithin}
use Rattle.bk_lex.specs.declared.machine.Fault.{Fault}
use Rattle.bk_lex.specs.declared.cutter.Cut.{Cut}
use Rattle.bk_lex.specs.declared.cutter.Cut.TheVariants.{More, End}
use Rattle.bk_lex.specs.declared.counting.State.{State}
use Rattle.bk_lex.specs.declared.lexer.Progress.{Progress}
use Rattle.bk_lex.specs.declared.lexer.Progress.TheVariants.{Going, Ended, Refused, Stuck}
use Rattle.bk_lex.specs.declared.counting.Act.{Act}
use Rattle.bk_lex.specs.declared.counting.Act.TheVariants as acts
use Rattle.bk_lex.specs.declared.lexer.Found.{Found}
use Rattle.bk_lex.specs.declared.lexer.Found.TheVariants as founds
use Rattle.bk_lex.specs.declared.lexer.Pieces.{Pieces}
use Rattle.bk_lex.specs.declared.scan.Lines.{Lines}

-- the symbols in the bytes, the place where the incomplete piece begins, and the lines there
pub record Marks : Type 0 where
  pub found : List Found
  pub piece : ℕ
  pub place : Lines

abbrev pub marks : List Found → ℕ → Lines → Marks
marks found piece place = record { found = found; piece = piece; place = place }

abbrev pub marks_of : Pieces → Marks
marks_of p = marks p.found.items p.piece p.place

-- the same after a byte with this act, which has this number of bytes before it
abbrev pub marked : Marks → Act → ℕ → ℕ → Marks
marked m acts.Goes b n = m
marked m (acts.Begins g) b n = marks (m.found ++ found_in g m.place.line m.piece n) n (place_after m.place g b)
marked m (acts.Names h) b n = marks (m.found ++ founds.Header h m.place.get_line ∷ []) m.piece m.place

-- the bytes so far, the line of the first, and the symbols in them
pub record Parts : Type 0 where
  pub bytes : List ℕ
  pub from : ℕ
  pub marks : Marks

abbrev pub parts : List ℕ → ℕ → Marks → Parts
parts bytes from m = record { bytes = bytes; from = from; marks = m }

-- The machine goes on: whatever follows, the answer is that of the machine from here.
pub record Goes (l : Parts) (s : State) : Type 0 where
  pub state : state_after (Some start) l.bytes ≡ Some s
  pub counted : s.bytes + length l.bytes ≡ 1048576
  pub within : AreWithin (length l.bytes) l.marks.found
  pub order : l.marks.piece ≤ length l.bytes
  pub same : (rest : List ℕ) → run (reading (all_found (l.bytes ++ rest) l.marks.found) s (slice_range (l.bytes ++ rest) l.marks.piece (length l.bytes)) l.marks.place (length l.bytes)) rest
      ≡ lexed (l.bytes ++ rest) l.from

-- A `.` ended the section, or a fault.
pub record HasEnded (l : Parts) : Type 0 where
  pub state : state_after (Some start) l.bytes ≡ None
  pub within : AreWithin (length l.bytes) l.marks.found
  pub same : lexed l.bytes l.from ≡ Ok (section (all_found l.bytes l.marks.found) (length l.bytes) true l.marks.place.line)

pub record IsRefused (l : Parts) (s : State) (f : Fault) : Type 0 where
  pub state : state_after (Some start) l.bytes ≡ None
  pub same : lexed l.bytes l.from ≡ Err (placed_fault s l.marks.place f)

abbrev pub Progresses : Progress → State → Parts → Type 0
Progresses Going s l = Goes l s
Progresses Ended s l = HasEnded l
Progresses (Refused f) s l = IsRefused l s f
Progresses Stuck s l = ⊤

-- the answer of a step that leaves this progress
abbrev pub cut_at : Progress → Cut
cut_at Going = More
cut_at p = End
