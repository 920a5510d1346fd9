use Rattle.std.proofs.Common.{◌≡◌, ◌++◌, map, length}
use denote.Text.{Utf8}
use denote.Shadow.{shadow}
use Rattle.bk_web.specs.Page.{texts_of}
use Rattle.bk_web.proofs.command.words_of.Given as goal

abbrev pub invariant-loop-word : goal.invariant-loop-word
invariant-loop-word l =
    shadow (Utf8 l.rest)
    × (texts_of l.initial.rest ≡ map (λ word. word.now) l.words.items ++ texts_of l.rest)

abbrev pub decreases-loop-word : goal.decreases-loop-word
decreases-loop-word l = length l.rest
