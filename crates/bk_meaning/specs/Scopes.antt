-- Commands in order, and scopes: the body of a procedure, of a VALOF and of a FOR, and the commands of a block with
-- declarations own their labels.
use Rattle.std.specs.Prelude.{ℕ, List}
use Rattle.bk_tree.specs.Tree as t
use Rattle.bk_tree.specs.Tree.{Mention, Expression, Expressions, Command, Commands, Declaration, Declarations, Definition, Definitions, Starts}
use Rattle.bk_meaning.specs.World.{World, Exit, goto, Outcome, leaves, each_way, with, Done, done, either}
use Rattle.bk_meaning.specs.Environment.{Environment, past_command, labelled}
use Rattle.bk_meaning.specs.Seeking.{the_label, Mode, forwards, seeking, has_place, one_has_place}
use Rattle.bk_meaning.specs.Parts.{Meanings}

-- Commands in order. Seeking passes over those in which the place is not, and goes on forwards from it.
abbrev pub in_order : Meanings → Commands → Mode → Environment → World → Outcome Done
in_order m t.no_commands mode env w = done w
in_order m (t.also c cs) forwards env w = with (m.act c forwards env w) (λ _ w. in_order m cs forwards (past_command c env) w)
in_order m (t.also c cs) (seeking s) env w =
    either (has_place s env c) (λ w. with (m.act c (seeking s) env w) (λ _ w. in_order m cs forwards (past_command c env) w))
    (λ w. in_order m cs (seeking s) (past_command c env) w) w

-- The commands of a scope. A GOTO to one of their labels runs them again, seeking it.
abbrev pub landing : Commands → Environment → (List ℕ → World → Outcome Done) → Exit → World → Outcome Done
landing cs env go (goto x) w = either (one_has_place (the_label x) env cs) (go x) (λ w. leaves (goto x) w) w
landing cs env go x w = leaves x w

abbrev pub scope_of : Meanings → Commands → Mode → Environment → World → Outcome Done
scope_of m cs mode env w =
    each_way (λ _ w. done w) (landing cs env (λ x w. m.scope cs (seeking (the_label x)) env w)) (in_order m cs mode (labelled cs env) w)

-- one command as a scope of its own: the body of a procedure, a VALOF or a FOR
abbrev pub alone : Command → Commands
alone c = t.also c t.no_commands
