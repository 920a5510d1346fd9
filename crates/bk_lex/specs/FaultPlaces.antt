-- Where a fault of a text is: the byte that makes it certain, and where the piece begins in which it is.
use Rattle.std.specs.Prelude.{ℕ, ◌+◌, ◌<◌, ◌≤◌, ◌≡◌, ◌⊎◌, false, Result, Ok, Err, Some, None, List, [], ◌++◌, length, take}
use Rattle.bk_base.specs.declared.source_fault.SourceFault.{SourceFault}
use Rattle.bk_base.specs.declared.source_fault.SourceKind.{SourceKind}
use Rattle.bk_base.specs.declared.source_fault.SourceKind.TheVariants.{SectionTooLong, BadGet}
use Rattle.bk_base.specs.declared.refused.Refused.{Refused}
use Rattle.bk_base.specs.declared.refused.Refused.TheVariants.{Fault, Memory, Device}
use Rattle.bk_lex.specs.Pieces.{Sort, Spelled, NoLonger, Piece, CutsTo}
use Rattle.bk_lex.specs.Tokens.{Putting, putting, puts}
use Rattle.bk_lex.specs.TextFault.{Begins, NoGap, NoHeader, weight, PassesByPiece, PassesByHeader, PassesBySign, PassesByByte, HasFault}
use Rattle.bk_lex.specs.Telling.{ReportedByByte, ReportedAtEnd}
use Rattle.bk_lex.specs.declared.scan.Lexed.{Lexed}
use Rattle.bk_lex.specs.declared.scan.LexicalFault.{LexicalFault}

-- The fault is reported at the byte with this number of bytes before it, or at the text's end, which has as many.
abbrev pub ReportedAt : ℕ → SourceFault → ℕ → List ℕ → Type 0
ReportedAt from f byte text = ((t : ReportedByByte from f text) × (length t.front ≡ byte)) ⊎ (ReportedAtEnd from f text × (length text ≡ byte))

-- the tokens before the first piece
abbrev pub no_tokens : ℕ → Putting
no_tokens from = putting [] None false from None 0

-- what comes next passes 262,144 symbols
abbrev pub PassesNext : Putting → ℕ → List ℕ → Type 0
PassesNext q line text = PassesByPiece q line text ⊎ (PassesByHeader q line text ⊎ (PassesBySign q line text ⊎ PassesByByte q line text))

-- each piece that comes next passes 1,048,576 bytes, of a text of `total` bytes
abbrev pub AllPast : ℕ → List ℕ → Type 0
AllPast total rest = (k : Sort) (front tail : List ℕ) → rest ≡ front ++ tail → Spelled k front → NoLonger front tail → 1048576 + length rest < total + length front

-- too many bytes, by the next piece; or else too many symbols, by what is next after pieces whose symbols are not too many
abbrev pub TooLongNext : ℕ → ℕ → List Piece → List ℕ → Type 0
TooLongNext from total pieces rest =
    ((1048576 < total) × (total ≤ 1048576 + length rest) × AllPast total rest)
    ⊎ ((total ≤ 1048576) × ((last : Putting) × (line : ℕ) × (puts (Some (no_tokens from)) pieces ≡ Some last) × (weight last ≤ 262144) × PassesNext last line rest))

-- the string of a GET is due, and neither a gap nor a string that names a header is next
abbrev pub NoStringNext : ℕ → List Piece → List ℕ → Type 0
NoStringNext from pieces rest = (last : Putting) × (line : ℕ) × (puts (Some (no_tokens from)) pieces ≡ Some last) × (last.get ≡ Some line) × NoGap rest × NoHeader rest

-- in a text of `total` bytes these pieces are followed by what has the fault
abbrev pub FaultNext : SourceKind → ℕ → ℕ → List Piece → List ℕ → Type 0
FaultNext SectionTooLong from total pieces rest = TooLongNext from total pieces rest
FaultNext BadGet from total pieces rest = NoStringNext from pieces rest
FaultNext kind from total pieces rest = Begins kind rest

-- A text that ends with the byte at which a fault is reported: whole pieces of so many bytes, and then the piece in which the
-- fault is.
pub record FaultIn (kind : SourceKind) (from piece : ℕ) (text : List ℕ) : Type 0 where
  pub pieces : List Piece
  pub rest : List ℕ
  pub cut : CutsTo text pieces rest
  pub at : piece + length rest ≡ length text
  pub next : FaultNext kind from (length text) pieces rest

-- the byte at which a fault is reported, and where the piece begins in which it is
abbrev pub IsPlaced : ℕ → SourceFault → ℕ → ℕ → List ℕ → Type 0
IsPlaced from f byte piece text = ReportedAt from f byte text × FaultIn f.kind from piece (take (byte + 1) text)

-- the fault of a call's answer, and its places
abbrev pub SaysPlaces : Refused LexicalFault → ℕ → List ℕ → Type 0
SaysPlaces (Fault p) from text = HasFault from p.fault text × IsPlaced from p.fault p.byte p.piece text × (p.piece ≤ p.byte)
SaysPlaces Memory from text = Unit {0}
SaysPlaces Device from text = Unit {0}

-- the same answer without the places
abbrev pub unplaced : Refused LexicalFault → Refused SourceFault
unplaced (Fault p) = Fault p.fault
unplaced Memory = Memory
unplaced Device = Device

abbrev pub without_places : Result Lexed (Refused LexicalFault) → Result Lexed (Refused SourceFault)
without_places (Ok l) = Ok l
without_places (Err e) = Err (unplaced e)
