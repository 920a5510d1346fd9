-- What is told of a part of a section without faults: no depth is past the limit, each word is one, and no claim was made before.
use Rattle.bk_trans.proofs.Words.{arith, ◌+◌, ◌<◌, ◌≤◌, ◌^◌, Option, List, ◌++◌, length, ⊤, FRAME_WORDS, Operator, Prefix, Expression, name, parens, unary, binary, choice, apply, valof, table, size, Bound, Enclosing, Role, Value, Truth, Destination, Binding, bound_in, Claim, deeper, valued, labelled, parenthesised, role_of_operand, role_of_operands, place_of_second, labels_of, labels_in_scope, Spot, onward, past, following, Point, word, depth, claims_after, used_at, depth_named, prefixed, pushed, each_constant, reported, reported_each, reported_done, Every, every_front, every_back, Operator as o, Prefix as q, Clean, first_clean, second_clean}

abbrev pub IsFine : Point → Type 0
IsFine (depth m) = m ≤ FRAME_WORDS
IsFine (word v) = v < 2 ^ 32
IsFine _ = ⊤

abbrev pub AllFine : List Point → Type 0
AllFine xs = Every IsFine xs

-- points that have a property, where no claim was made before
pub record Reported (P : Point → Type 0) (xs : List Point) : Type 0 where
  pub all : Every P xs
  pub claims : List Claim
  pub clean : Clean claims xs

pub told_front : {P : Point → Type 0} (xs ys : List Point) → Reported P (xs ++ ys) → Reported P xs
told_front {P} xs ys h = record { all = every_front P xs ys h.all; claims = h.claims; clean = first_clean h.claims xs ys h.clean }

pub told_back : {P : Point → Type 0} (xs ys : List Point) → Reported P (xs ++ ys) → Reported P ys
told_back {P} xs ys h = record { all = every_back P xs ys h.all; claims = claims_after h.claims xs; clean = second_clean h.claims xs ys h.clean }

abbrev pub Fine : List Point → Type 0
Fine xs = Reported IsFine xs

-- roles in which a word is pushed
abbrev pub Pushing : Role → Type 0
Pushing (Destination x l) = ⊥
Pushing _ = ⊤

within_pushes : (r : Role) → Pushing r → Pushing (parenthesised r)
within_pushes (Destination x l) h = h
within_pushes _ h = tt

operand_pushes : (f : Prefix) (r : Role) (e : Expression) → Pushing (role_of_operand f r e)
operand_pushes q.Not Truth e = tt
operand_pushes _ _ e = tt

operands_push : (f : Operator) (r : Role) → Pushing (role_of_operands f r)
operands_push o.Both Truth = tt
operands_push o.Either Truth = tt
operands_push f r = tt

named_room : (r : Role) (p : Enclosing) (y : Option Bound) → Pushing r → AllFine (depth_named r p y) → p.depth + 1 ≤ FRAME_WORDS
named_room (Destination x l) p y i h = elim i [ ]
named_room _ p y i h = h.0

-- the frame has room for what is pushed
pub told_room : (r : Role) (bs : List Binding) (p : Enclosing) (s : Spot) (e : Expression) → Pushing r → AllFine (reported r bs p s e) → p.depth + 1 ≤ FRAME_WORDS
told_room r bs p s (name l x) i h = named_room r p (bound_in bs x) i (every_back IsFine (used_at p.procedure s.place l x (bound_in bs x)) _ h)
told_room r bs p s (parens l e) i h = told_room (parenthesised r) bs p (past 1 s) e (within_pushes r i) h
told_room r bs p s (unary l f e) i h = told_room (role_of_operand f r e) bs p (past 1 s) e (operand_pushes f r e) (every_back IsFine (prefixed f bs (past 1 s) e) _ h)
told_room r bs p s (binary l f m a b) i h =
    told_room (role_of_operands f r) bs p s a (operands_push f r) (every_front IsFine (reported (role_of_operands f r) bs p s a) (reported (role_of_operands f r) bs (place_of_second f r p) (past 1 (following a s)) b) h)
told_room r bs p s (choice l m c a b) i h =
    let one : List Point = reported Truth bs p s c in
    let two : List Point = reported Value bs p (past 1 (following c s)) a in
    told_room Truth bs p s c tt (every_front IsFine one two (every_front IsFine (one ++ two) _ h))
told_room r bs p s (apply l m e es) i h =
    let g = told_room Value bs (deeper (size es + 2) p) s e tt (every_front IsFine (reported Value bs (deeper (size es + 2) p) s e) (reported_each 1 bs (deeper 2 p) (past 1 (following e s)) es) h) in
    omega (arith, g)
told_room r bs p s (valof l c) i h =
    (every_back IsFine (reported_done (labels_in_scope p.procedure (s.number + 1) (labels_of c) bs) (labelled s.number (valued p)) (onward 1 (1 + length (labels_of c)) s) c) (pushed p 1) h).0
told_room r bs p s (table l es) i h = (every_back IsFine (each_constant bs p.procedure (past 1 s) es) (pushed p 1) h).0
told_room r bs p s _ i h = h.0
