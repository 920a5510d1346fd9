use Rattle.bk_syntax.proofs.Terms.{◌≡◌, ◌≤◌, ◌-◌, length, take, Symbol, upper_name, up_to_tag, tags}
use Rattle.bk_syntax.proofs.Openings.{closing_more}
use Rattle.bk_syntax.proofs.parser.closings_tagged.Given as goal

abbrev pub invariant-loop-i : goal.invariant-loop-i
invariant-loop-i l = record {
  in_range : l.i ≤ length l.opened;
  passed : (t : Symbol) → up_to_tag t (upper_name l.wanted) (tags l.opened) ≡ closing_more (length l.opened - l.i) t (up_to_tag t (upper_name l.wanted) (tags (take l.i l.opened)));
}

abbrev pub decreases-loop-i : goal.decreases-loop-i
decreases-loop-i l = l.i
