-- What is reported of a section, in the order of its text: what the names in it mean, the words of its constants, how deep frames
-- are, what is wrong somewhere, and claims that no other may make. The faults are what is wrong, and each claim that was made
-- before; they are in the order of their places, and at one place of their numbers.
use Rattle.std.specs.Prelude.{ℕ, ◌==◌, nat_lt, max, Bool, cond, Option, Some, None, List, [], ◌∷◌, ◌++◌}
use Rattle.bk_scope.specs.declared.bound.Bound.{Bound}
use Rattle.bk_scope.specs.Found.{Claim, is_claimed}
use Rattle.bk_scope.specs.Places.{kept}
use Rattle.bk_scope.specs.Wrong.{Wrong, Breach, not_declared, declared_twice, dynamic_name, not_constant, divided_by_zero, case_repeated, default_repeated, no_loop, no_switchon, no_result_or_return, label_not_here, global_out_of_range, vec_out_of_range, frame_too_large, not_assignable, two_procedures, elsewhere}

pub record Fault : Type 0 where
  pub place : ℕ
  pub at : ℕ
  pub wrong : Wrong

pub data Point : Type 0 where
  -- a name that is used means this
  meaning : Bound → Point
  -- the word of a constant
  word : ℕ → Point
  -- the procedure's frame is so deep
  depth : ℕ → Point
  -- something is wrong
  wrong : Fault → Point
  -- a claim, and what is wrong where it was made before
  claim : Claim → Fault → Point

abbrev pub number_of : Wrong → ℕ
number_of (not_declared x) = 13
number_of (declared_twice x) = 14
number_of (dynamic_name x) = 15
number_of not_constant = 16
number_of divided_by_zero = 17
number_of case_repeated = 18
number_of default_repeated = 19
number_of no_loop = 20
number_of no_switchon = 21
number_of no_result_or_return = 22
number_of (label_not_here x) = 23
number_of global_out_of_range = 24
number_of vec_out_of_range = 25
number_of frame_too_large = 26
number_of not_assignable = 27
number_of (two_procedures x) = 28
number_of elsewhere = 29

-- at this place, on this line
abbrev pub at : ℕ → ℕ → Wrong → List Point
at n l w = wrong (record { place = n; at = l; wrong = w }) ∷ []

abbrev pub claiming : Claim → ℕ → ℕ → Wrong → List Point
claiming c n l w = claim c (record { place = n; at = l; wrong = w }) ∷ []

-- the claims after one more, and after some points
abbrev pub claimed : Claim → List Claim → List Claim
claimed c cs = cond (is_claimed c cs) cs (c ∷ cs)

abbrev pub claims_after : List Claim → List Point → List Claim
claims_after cs [] = cs
claims_after cs (wrong f ∷ xs) = claims_after cs xs
claims_after cs (claim c f ∷ xs) = claims_after (claimed c cs) xs
claims_after cs (_ ∷ xs) = claims_after cs xs

-- the faults of them, where these claims were made before
abbrev pub judged : List Claim → List Point → List Fault
judged cs [] = []
judged cs (wrong f ∷ xs) = f ∷ judged cs xs
judged cs (claim c f ∷ xs) = cond (is_claimed c cs) (f ∷ []) [] ++ judged (claimed c cs) xs
judged cs (_ ∷ xs) = judged cs xs

-- by place, and at one place by number
abbrev pub comes_before : Fault → Fault → Bool
comes_before f g = cond (f.place == g.place) (nat_lt (number_of f.wrong) (number_of g.wrong)) (nat_lt f.place g.place)

abbrev pub put : Fault → List Fault → List Fault
put f [] = f ∷ []
put f (g ∷ gs) = cond (comes_before g f) (g ∷ put f gs) (f ∷ (g ∷ gs))

abbrev pub in_order : List Fault → List Fault
in_order [] = []
in_order (f ∷ fs) = put f (in_order fs)

abbrev pub breach : Fault → Breach
breach f = record { at = f.at; wrong = f.wrong }

abbrev pub all_reported : List Fault → List Breach
all_reported [] = []
all_reported (f ∷ fs) = breach f ∷ all_reported fs

abbrev pub first_reported : List Fault → Option Breach
first_reported [] = None
first_reported (f ∷ fs) = Some (breach f)

-- what the names mean, and the words of the constants
abbrev pub meanings_of : List Point → List Bound
meanings_of [] = []
meanings_of (meaning b ∷ xs) = b ∷ meanings_of xs
meanings_of (_ ∷ xs) = meanings_of xs

abbrev pub words_of : List Point → List ℕ
words_of [] = []
words_of (word w ∷ xs) = w ∷ words_of xs
words_of (_ ∷ xs) = words_of xs

-- the greatest depth, which is at least d
abbrev pub deepest : ℕ → List Point → ℕ
deepest d [] = d
deepest d (depth m ∷ xs) = deepest (max d (kept m)) xs
deepest d (_ ∷ xs) = deepest d xs

-- what is reported of a procedure's body, outside: its frame is another
abbrev pub without_depths : List Point → List Point
without_depths [] = []
without_depths (depth m ∷ xs) = without_depths xs
without_depths (x ∷ xs) = x ∷ without_depths xs
