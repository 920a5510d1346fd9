-- The position of a symbol, which its node keeps.
use Rattle.std.specs.Prelude.{ℕ}
use Rattle.bk_lex.specs.Symbol.{Symbol}
use Rattle.bk_lex.specs.declared.token.Token.{Token}
use Rattle.bk_tree.specs.Position.{position}

abbrev pub position_of : Symbol → ℕ
position_of t = position t.line t.place

abbrev pub position_at : Token → ℕ
position_at t = position t.line t.place
