-- A store of which the first words are kept.
use Rattle.std.specs.Prelude.{ℕ, List, ◌++◌, ◌-◌, length, replicate}
use Rattle.bk_machine.specs.declared.board.Board.{Board}
use Rattle.bk_machine.specs.declared.store.Words.{Words}

-- The words of a store of so many, of which these are kept: the others are 0.
abbrev pub padded : ℕ → List ℕ → List ℕ
padded count kept = kept ++ replicate (count - length kept) 0

abbrev pub words_in : Words → List ℕ
words_in words = padded words.count words.kept.now

abbrev pub words_on : Board → List ℕ
words_on board = padded board.words board.kept.items
