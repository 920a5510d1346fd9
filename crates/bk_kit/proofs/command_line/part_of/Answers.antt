use Rattle.bk_show.specs.declared.part.Part.{Part}
use Rattle.bk_kit.proofs.LineLemmas.{if_some_map, ◌≡◌, ◌∙◌, Option, None, Some, codes, ap, Text, first_of, rows_of, found_of, part_text}
use Rattle.bk_kit.proofs.command_line.part_of.Goals as goal

same_text : (found : Option Text) (a b : Text) → found ≡ Some a → found ≡ Some b → a ≡ b
same_text None a b first second = cc
same_text (Some x) a b first second = cc

pub returns-clause-reads : goal.returns-clause-reads
returns-clause-reads c =
    if_some_map (λ (part : Part). c.in_ok-name.name.now ≡ part_text part) (λ (part : Part). first_of (codes "only") (rows_of (found_of c.args.matches.now)) ≡ Some (part_text part)) c.part_named.result
    (λ part same. c.in_ok-name.ensures.reads ∙ ap Some same) c.part_named.ensures.named

pub returns-clause-given : goal.returns-clause-given
returns-clause-given c part is =
    c.part_named.ensures.given part (same_text (first_of (codes "only") (rows_of (found_of c.args.matches.now))) c.in_ok-name.name.now (part_text part) c.in_ok-name.ensures.reads is)
