use Rattle.bk_lines.proofs.Extended.{extends_on}
use Rattle.bk_lines.proofs.shown.put_line.Goals as goal

pub returns : goal.returns
returns c =
    extends_on _ _ _ c.in_ok-put_blanks.ensures
    (extends_on _ _ _ (_, c.in_ok-width.ensures)
    (extends_on _ _ _ (_, c.in_ok-extend_from_slice.ensures.items)
    (extends_on _ _ _ c.in_ok-put_shown.ensures
    (extends_on _ _ _ c.in_ok-put_blanks-2.ensures
    (extends_on _ _ _ (_, c.in_ok-extend_from_slice-2.ensures.items) c.in_ok-put_carets.ensures)))))
