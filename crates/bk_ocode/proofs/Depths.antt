-- Depths on the way through a section.
pub use Rattle.bk_ocode.proofs.Terms.{◌≡◌, ℕ, ◌+◌, ◌<◌, ◌≤◌, max, Bool, true, false, ◌||◌, nat_lt, nat_le, List, [], ◌∷◌, ◌++◌, Option, Some, None, length, take, slice_get, get_or, refl, ◌∙◌, ap, subst, arith, ltb-false, leb-false, zero, suc, if◌then◌else◌, take_more, slice_get-get_or, FRAME_WORDS, OCODE_STATEMENTS, OCODE_WORDS, OcodeKind, stmt_words, next_depth, depth_after, largest_after, least_depth, Context, at_start, after, after_all, context_of, misplaced, label_not_set, label_set_twice, depths_disagree, slot_above, too_long, fault_in, AreFaultless, DepthsSuffice, SectionIsShort, Stmt, or_parts, ◌≢◌, ◌-◌, ◌==◌, drop, sym, ◌⊎◌, eq-eqb, ne_eqb, label_set, jump_labels, other_labels, changed, all_changed, jumped, given, mentioned, set_by, followed, what_follows, label_followed, labels_named, is_set, set_again, is_label, from_label, LabelsAreSetOnce, LabelHasOnePlace, Position, LabelUse, Load, Address, Assign, Jump, JumpIf, Label, GiveResult, Entry, Switch, DataLabel, DataAddress, Setting, eqb-true, not, inl, inr, list_all, result_label, may_stand, position_after, start_after, is_lab_from, jumps_set, IsSection, IsAmong, JumpFindsItsLabel, ResultFindsItsLabel, Outer, Datum, EndProcedure, DataNumber, Globals, and_parts, not-false, append-nil, ◌&&◌, is_some, map, list_any, map-append, start_from, is_other_lab, result_named, own_disagrees, is_entry, data_set, Case, GlobalEntry, cond, append_assoc, length-append, ℤ, drop-append_seam, JumpDepths, Body, Taker, Last, Static, TakeResult, Save, ReturnItem, Return, data_labels, item_label, global_labels, role, IsDepth, InRange, is_data, are_other_jumps, jumps_disagree, over, left_after, follows_badly, is_badly_followed, not_followed, text_size, Use, unused, jumps, results, word, entry, Standing, outside, body, ended, AllJump, AllEntries, Agrees, Fits, Typed, done, enters, goes, lands, takes, returns, gives, begins, holds, points, ends, sets, times_set, TypedIsSection, le-ltb, lt-leb, le-leb, and_from, or_from, ⊤, word_sum, byte_distance, Content, Variable, Temporary, Held, write, byte_at, word_with_byte_at, string_at, Placement, Placed, Routine, Stop, Rdch, Wrch, Newline, Writes, Writen, Writed, Getbyte, Putbyte, Writef, Control, Inside, Following, At, State, Next, Goes, Wild, rest_place, slot, on_some, return, tells, read_byte, routine_step, step_in, step_from, step, Rest, rest_of, or_rest, rests, rests_of, in_hand, kept, resumed_by, resumed, Program, HasFrames, IsProgram, Applies, IsOwn, IsControl, Sound, SoundStep, StepsAreSound, ResumingIsSound, Local, Number, True, False, Query, Text, Stack, Store, CallFunction, CallRoutine, Finish, same_Some, take-append_seam, take-append-le, slice_get_within, FitsSigned, w32, ◌^◌, Decides-int_eq, int_eq, spelling, NAME_BYTES, keyword, argument_words, natural_word, label_word, variable_word, byte_words, case_words, global_words, IsLabel, IsVariable, AreCases, IsStmt, kind_of, keyword_text, keyword_of_stmt, has_value, owner_words, partial_words, is_short, IsPartialStmt, NoNatural, NoLabel, NoVariable, NoArgument, IsUnfit, BeginNone, Keyword, Partial, Owner, cases_Bool, with_depth, jump_depth, JumpHasItsLabelsDepth, cases_lt, BadWord, BadNumber, Truncated, LabelNotSet, LabelSetTwice, DepthsDisagree, SlotAboveDepth, TooLong, section_words, AreTyped, stmt_fault, IsPartial, BeginsStmt, IsBadWord, IsBadNumber, BreaksRule, PassesWords, FaultOf, FaultAt, CutAt, section, nothing, fault, Says, SayOneThing, Outside, Ended, mag-fits, rest_same, joined, IsGlobal, DataFindsItsLabel, ItemFindsItsLabel, GlobalFindsItsEntry, GlobalIsLast, TextIsShort, StmtPlace, or_cases}

-- the places at and before a seam
pub at_seam : {A : Type 0} (a : List A) (x : A) (c : List A) → slice_get (a ++ x ∷ c) (length a) ≡ Some x
at_seam [] x c = refl
at_seam (y ∷ a) x c = at_seam a x c

pub get-append : {A : Type 0} (a c : List A) (k : ℕ) (x : A) → slice_get a k ≡ Some x → slice_get (a ++ c) k ≡ Some x
get-append [] c k x at = absurd (let h : None ≡ Some x = at in cc)
get-append (y ∷ a) c zero x at = at
get-append (y ∷ a) c (suc k) x at = get-append a c k x at

pub depth_after-append : (k : ℕ) (a b : List Stmt) → depth_after k (a ++ b) ≡ depth_after (depth_after k a) b
depth_after-append k [] b = refl
depth_after-append k (s ∷ a) b = depth_after-append (next_depth k s) a b

pub depth_after-more : (k : ℕ) (stmts : List Stmt) (i : ℕ) (d : Stmt) → i < length stmts →
    depth_after k (take (i + 1) stmts) ≡ next_depth (depth_after k (take i stmts)) (get_or stmts i d)
depth_after-more k stmts i d low = ap (λ (t : List Stmt). depth_after k t) (take_more stmts i d low) ∙ depth_after-append k (take i stmts) (get_or stmts i d ∷ [])

largest_after-one : (k : ℕ) (a : List Stmt) (s : Stmt) → largest_after k (a ++ s ∷ []) ≡ max (largest_after k a) (next_depth (depth_after k a) s)
largest_after-one k [] s = omega arith
largest_after-one k (t ∷ a) s = omega (arith, largest_after-one (next_depth k t) a s)

pub largest_after-more : (k : ℕ) (stmts : List Stmt) (i : ℕ) (d : Stmt) → i < length stmts →
    largest_after k (take (i + 1) stmts) ≡ max (largest_after k (take i stmts)) (next_depth (depth_after k (take i stmts)) (get_or stmts i d))
largest_after-more k stmts i d low = ap (λ (t : List Stmt). largest_after k t) (take_more stmts i d low) ∙ largest_after-one k (take i stmts) (get_or stmts i d)

-- the depth of the context is that of the text
after_all-depth : (c : Context) (stmts : List Stmt) → (after_all c stmts).depth ≡ depth_after c.depth stmts
after_all-depth c [] = refl
after_all-depth c (s ∷ rest) = after_all-depth (after c s) rest

pub context-depth : (stmts : List Stmt) → (context_of stmts).depth ≡ depth_after 0 stmts
context-depth stmts = after_all-depth at_start stmts

-- what a statement without a fault keeps
pub record Keeps (before : List Stmt) (c : Context) (s : Stmt) : Type 0 where
  pub place : misplaced c s ≡ false
  pub set : label_not_set before c s ≡ false
  pub once : label_set_twice c s ≡ false
  pub agree : depths_disagree c s ≡ false
  pub below : slot_above c s ≡ false
  pub short : too_long c s ≡ false

none_if : (b : Bool) (x : OcodeKind) (r : Option OcodeKind) → (if b then Some x else r) ≡ None → (b ≡ false) × (r ≡ None)
none_if true x r e = absurd (let h : Some x ≡ None = e in cc)
none_if false x r e = (refl, e)

pub keeps_in : (before : List Stmt) (c : Context) (s : Stmt) → fault_in before c s ≡ None → Keeps before c s
keeps_in before c s none = grind (arith, none_if, too_long)

-- the depth behind a statement of a section is within the limit of frames
pub depth_within : (stmts : List Stmt) → AreFaultless stmts → (i : ℕ) (s : Stmt) → slice_get stmts i ≡ Some s → next_depth (depth_after 0 (take i stmts)) s ≤ FRAME_WORDS
depth_within stmts are i s is =
    let c = context_of (take i stmts) in
    let k = keeps_in (take i stmts) c s (are.faultless i s is) in
    let long : Bool = nat_lt OCODE_WORDS (c.words + length (stmt_words s)) in
    let low = (or_parts long (nat_lt FRAME_WORDS (next_depth c.depth s)) (or_parts (nat_le OCODE_STATEMENTS c.count) (long || nat_lt FRAME_WORDS (next_depth c.depth s)) k.short).1).1 in
    subst (λ (d : ℕ). next_depth d s ≤ FRAME_WORDS) (context-depth (take i stmts)) (ltb-false FRAME_WORDS (next_depth c.depth s) low)

pub depth_within-at : (stmts : List Stmt) → AreFaultless stmts → (i : ℕ) (d : Stmt) → i < length stmts → next_depth (depth_after 0 (take i stmts)) (get_or stmts i d) ≤ FRAME_WORDS
depth_within-at stmts are i d low = depth_within stmts are i (get_or stmts i d) (slice_get-get_or stmts i d low)

-- each statement has the depth that it needs
pub depths_suffice : DepthsSuffice
depths_suffice stmts i s are is =
    let c = context_of (take i stmts) in
    let k = keeps_in (take i stmts) c s (are.faultless i s is) in
    (subst (λ (d : ℕ). least_depth s ≤ d) (context-depth (take i stmts)) (ltb-false c.depth (least_depth s) k.below), depth_within stmts are i s is)

after_all-count : (c : Context) (stmts : List Stmt) → (after_all c stmts).count ≡ c.count + length stmts
after_all-count c [] = omega arith
after_all-count c (s ∷ rest) = after_all-count (after c s) rest ∙ (let e : (c.count + 1) + length rest ≡ c.count + length (s ∷ rest) = omega arith in e)

length_within : (stmts : List Stmt) (i : ℕ) (s : Stmt) → slice_get stmts i ≡ Some s → length (take i stmts) ≡ i
length_within [] i s is = cc
length_within (t ∷ stmts) zero s is = refl
length_within (t ∷ stmts) (suc i) s is = ap (λ n. suc n) (length_within stmts i s is)

pub section_is_short : SectionIsShort
section_is_short stmts i s are is =
    let c = context_of (take i stmts) in
    let k = keeps_in (take i stmts) c s (are.faultless i s is) in
    let long : Bool = nat_lt OCODE_WORDS (c.words + length (stmt_words s)) in
    let low = (or_parts (nat_le OCODE_STATEMENTS c.count) (long || nat_lt FRAME_WORDS (next_depth c.depth s)) k.short).0 in
    let count : c.count ≡ i = after_all-count at_start (take i stmts) ∙ (let e : 0 + length (take i stmts) ≡ length (take i stmts) = omega arith in e) ∙ length_within stmts i s is in
    subst (λ (n : ℕ). n < OCODE_STATEMENTS) count (leb-false OCODE_STATEMENTS c.count low)
