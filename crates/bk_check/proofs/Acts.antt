-- The turn that a command takes.
use Rattle.bk_check.proofs.Terms.{◌≡◌, ◌-◌, ◌<◌, true, false, refl, sym, ◌∙◌, Command, World, Outcome, Done, done, going, turn, Environment, Mode, Program, act_of, full, full_act, turn_left, turn_none}
use Rattle.bk_tree.specs.Tree as t
use Rattle.bk_tree.specs.Parts.{at_command}
use Rattle.bk_meaning.specs.Program.{turn_for}
use Rattle.bk_check.specs.Plain.{takes_no_turn}

takes_turn : (c : Command) (w : World) (go : World → Outcome Done) → takes_no_turn c ≡ false → turn_for c w go ≡ turn (at_command c) w go
takes_turn t.empty w go is = absurd (cc is)
takes_turn c w go is = refl

pub act_empty : (p : Program) (c : Command) (mode : Mode) (env : Environment) (w : World) → takes_no_turn c ≡ true → done w ≡ (full p).act c mode env w
act_empty p t.empty mode env w is = sym (full_act p t.empty mode env w)
act_empty p c mode env w is = absurd (cc is)

pub act_left : (p : Program) (c : Command) (mode : Mode) (env : Environment) (w : World) → takes_no_turn c ≡ false → 0 < w.turns → act_of p (full p) c mode env (record w { turns = w.turns - 1 }) ≡ (full p).act c mode env w
act_left p c mode env w is lt = turn_left _ w (λ w. act_of p (full p) c mode env w) lt ∙ sym (full_act p c mode env w ∙ takes_turn c w (λ w. act_of p (full p) c mode env w) is)

pub act_none : (p : Program) (c : Command) (mode : Mode) (env : Environment) (w : World) → takes_no_turn c ≡ false → w.turns ≡ 0 → going (at_command c) w ≡ (full p).act c mode env w
act_none p c mode env w is none = turn_none w (λ w. act_of p (full p) c mode env w) none ∙ sym (full_act p c mode env w ∙ takes_turn c w (λ w. act_of p (full p) c mode env w) is)
