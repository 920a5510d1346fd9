-- Where code stands in a section, with the depth before it; what a label and a call have from that; and the bases of lasting objects
-- one behind the other.
use Rattle.bk_simulation.proofs.Pieces.{All, Each, all_both, each_front, each_back, each_both, BaseOf, Grown, with_names, Setting, Scene, LabelAt, CallAt, NamedIn, Agree, length-append, sym, cond, Datum, is_in, datum_of, data_of, ◌≡◌, ℕ, false, zero, suc, ◌+◌, ◌<◌, ◌≤◌, List, [], ◌∷◌, ◌++◌, length, Some, take, drop, slice_get, refl, ap, ◌∙◌, subst, arith, FRAME_WORDS, next_depth, depth_after, AreFaultless, Placed, Program, IsWellPlaced, from_label, Stmt, Label, label_has_one_place, Binding, Target, outermost, Named, Lasting, Part, target_of, procedure_code, data_code, AllFound, entries_of, joined, entry_setting, map, map-append, ap₂, append_assoc, item_words, option_map_or, global_vector, words, code, ◌==◌, depth_within, Option, None}
use Rattle.bk_simulation.proofs.LastingFits.{InData, settings}
use Rattle.bk_simulation.proofs.SectionGlobals.{settings_append}
use Rattle.bk_simulation.proofs.Calls.{IsProcedure}

-- ---- What is held of lasting objects.

-- the word of a procedure that sets no global
abbrev pub HeldWord : Setting → ℕ → Option ℕ → Type 0
HeldWord setting o None = (b : ℕ) × BaseOf setting.lasting o b × InData setting.program b (setting.codes.procedure o ∷ [])
HeldWord setting o (Some k) = (b : ℕ) × BaseOf setting.lasting o b × (16 ≤ b) × (b ≤ setting.first)

abbrev pub HeldOne : Setting → ℕ → Lasting → Type 0
HeldOne setting o global_vector = ⊥
HeldOne setting o (words ws) = (b : ℕ) × BaseOf setting.lasting o b × InData setting.program b ws
HeldOne setting o (code f) = IsProcedure setting o f × HeldWord setting o f.global

-- with numbers from o on
abbrev pub HeldList : Setting → ℕ → List Lasting → Type 0
HeldList setting o xs = Each (HeldOne setting) o xs

-- ---- Bases that lie below the first frame, and words of procedures that are set.

abbrev pub AreBelow : ℕ → List ℕ → Type 0
AreBelow top bs = All (λ b. b ≤ top) bs

-- a word that is 0 is not set
abbrev pub AreSet : List ℕ → Type 0
AreSet ws = All (λ w. 0 < w) ws

-- data of a program lie there
pub data_below : (program : Program) (first : ℕ) → IsWellPlaced program first FRAME_WORDS → (base : ℕ) (ws : List ℕ) → InData program base ws → base ≤ first
data_below program first well base ws d =
    omega (arith, (well.data_low d.number d.datum d.at).1, d.placed)

-- these statements stand in the section, and this is the depth before them
pub record IsNumbered (own : Placed) (depth : ℕ) (c : List Stmt) : Type 0 where
  pub are : AreFaultless own.stmts
  pub place : ℕ
  pub following : drop place own.stmts ≡ c
  pub same_depth : depth_after 0 (take place own.stmts) ≡ depth
  pub shallow : depth ≤ FRAME_WORDS

-- how many of these data have the address
abbrev pub data_with : ℕ → List Datum → ℕ
data_with a [] = 0
data_with a (d ∷ ds) = cond (is_in a d) 1 0 + data_with a ds

pub data_both : (a : ℕ) (xs ys : List Datum) → data_with a (xs ++ ys) ≡ data_with a xs + data_with a ys
data_both a [] ys = omega arith
data_both a (x ∷ xs) ys = let h = data_both a xs ys in omega (arith, h)

-- and how many of those that statements give
abbrev pub data_at : Placed → ℕ → List Stmt → ℕ
data_at own a [] = 0
data_at own a (x ∷ rest) = data_with a (datum_of own.places x rest) + data_at own a rest

pub data_is : (own : Placed) (a : ℕ) (c : List Stmt) → data_at own a c ≡ data_with a (data_of own.places c)
data_is own a [] = refl
data_is own a (x ∷ rest) = let h = data_is own a rest in let e = data_both a (datum_of own.places x rest) (data_of own.places rest) in omega (arith, h, e)

-- the first statement of what stands from a place on
pub record FirstOf (xs : List Stmt) (i : ℕ) (s : Stmt) (c : List Stmt) : Type 0 where
  pub at : slice_get xs i ≡ Some s
  pub following : drop (suc i) xs ≡ c
  pub deeper : (k : ℕ) → depth_after k (take (suc i) xs) ≡ next_depth (depth_after k (take i xs)) s

pub first_of : (xs : List Stmt) (i : ℕ) (s : Stmt) (c : List Stmt) → drop i xs ≡ s ∷ c → FirstOf xs i s c
first_of [] zero s c e = absurd (let h : [] ≡ s ∷ c = e in cc)
first_of [] (suc i) s c e = absurd (let h : [] ≡ s ∷ c = e in cc)
first_of (x ∷ xs) zero s c e = grind arith
first_of (x ∷ xs) (suc i) s c e = let h = first_of xs i s c e in record { at = h.at; following = h.following; deeper = λ k. h.deeper (next_depth k x) }

-- behind the first statement
pub passed : (own : Placed) (d m : ℕ) (s : Stmt) (c : List Stmt) → IsNumbered own d (s ∷ c) → next_depth d s ≡ m → IsNumbered own m c
passed own d m s c h e =
    let f = first_of own.stmts h.place s c h.following in
    let within = depth_within own.stmts h.are h.place s f.at in
    let same : next_depth (depth_after 0 (take h.place own.stmts)) s ≡ m = ap (λ k. next_depth k s) h.same_depth ∙ e in
    record { are = h.are; place = suc h.place; following = f.following; same_depth = f.deeper 0 ∙ same; shallow = subst (λ k. k ≤ FRAME_WORDS) same within }

pub at_depth : (own : Placed) (d m : ℕ) (c : List Stmt) → d ≡ m → IsNumbered own d c → IsNumbered own m c
at_depth own d m c e h = subst (λ k. IsNumbered own k c) e h

pub written : (own : Placed) (d : ℕ) (c k : List Stmt) → c ≡ k → IsNumbered own d c → IsNumbered own d k
written own d c k e h = subst (λ x. IsNumbered own d x) e h

-- a jump comes to its LAB
pub label_found : (own : Placed) (d l : ℕ) (rest : List Stmt) → IsNumbered own d (Label l ∷ rest) → from_label own.stmts l ≡ Some (Label l ∷ rest)
label_found own d l rest h =
    let f = first_of own.stmts h.place (Label l) rest h.following in
    label_has_one_place own.stmts h.place l h.are f.at ∙ ap Some h.following

pub label_at : (setting : Setting) (sc : Scene) (d l : ℕ) (rest : List Stmt) → slice_get setting.program.sections sc.section ≡ Some sc.own → IsNumbered sc.own d (Label l ∷ rest) → LabelAt setting sc d l rest
label_at setting sc d l rest own h =
    let f = first_of sc.own.stmts h.place (Label l) rest h.following in
    record { is_own = own; place = h.place; at = f.at; same_depth = h.same_depth; following = f.following; found = label_found sc.own d l rest h }

pub call_at : (setting : Setting) (sc : Scene) (d : ℕ) (call : Stmt) (rest : List Stmt) → slice_get setting.program.sections sc.section ≡ Some sc.own → IsNumbered sc.own d (call ∷ rest) → CallAt setting sc call rest
call_at setting sc d call rest own h =
    let f = first_of sc.own.stmts h.place call rest h.following in
    record { is_own = own; place = h.place; at = f.at; following = f.following }

-- ---- parts, with what stands behind them

-- code that stands somewhere in a section, whatever the depth before it
pub record StandsIn (own : Placed) (cs : List Stmt) : Type 0 where
  pub depth : ℕ
  pub rest : List Stmt
  pub stands : IsNumbered own depth (cs ++ rest)

-- data that stand so, with no item behind them
pub record DataIn (own : Placed) (cs : List Stmt) : Type 0 where
  pub depth : ℕ
  pub rest : List Stmt
  pub stands : IsNumbered own depth (cs ++ rest)
  pub ends : item_words own.places rest ≡ []

-- a part whose targets are found, and whose code and data stand in the section
abbrev pub PartFound : Placed → List Target → Part → Type 0
PartFound own ts x = AllFound ts (target_of x) × StandsIn own (procedure_code ts x) × DataIn own (data_code x)

abbrev pub FoundParts : Placed → List Target → List Part → Type 0
FoundParts own ts [] = Unit {0}
FoundParts own ts (x ∷ xs) = PartFound own ts x × FoundParts own ts xs

abbrev pub found_front : (own : Placed) (ts : List Target) (xs ys : List Part) → FoundParts own ts (xs ++ ys) → FoundParts own ts xs
found_front own ts [] ys h = tt
found_front own ts (x ∷ xs) ys h = (h.0, found_front own ts xs ys h.1)

abbrev pub found_back : (own : Placed) (ts : List Target) (xs ys : List Part) → FoundParts own ts (xs ++ ys) → FoundParts own ts ys
found_back own ts [] ys h = h
found_back own ts (x ∷ xs) ys h = found_back own ts xs ys h.1

-- how many data with an address code has, with this behind it; and how many the code and the data of parts have
abbrev pub data_within : Placed → ℕ → List Stmt → List Stmt → ℕ
data_within own a [] rest = 0
data_within own a (x ∷ cs) rest = data_with a (datum_of own.places x (cs ++ rest)) + data_within own a cs rest

pub within_at : (own : Placed) (a : ℕ) (cs rest : List Stmt) → data_at own a (cs ++ rest) ≡ data_within own a cs rest + data_at own a rest
within_at own a [] rest = omega arith
within_at own a (x ∷ cs) rest = let h = within_at own a cs rest in omega (arith, h)

abbrev pub data_of_parts : (own : Placed) (ts : List Target) (a : ℕ) (xs : List Part) → FoundParts own ts xs → ℕ
data_of_parts own ts a [] f = 0
data_of_parts own ts a (x ∷ xs) f = data_within own a (procedure_code ts x) f.0.1.rest + data_within own a (data_code x) f.0.2.rest + data_of_parts own ts a xs f.1

pub parts_both : (own : Placed) (ts : List Target) (a : ℕ) (xs ys : List Part) (f : FoundParts own ts (xs ++ ys))
    → data_of_parts own ts a (xs ++ ys) f ≡ data_of_parts own ts a xs (found_front own ts xs ys f) + data_of_parts own ts a ys (found_back own ts xs ys f)
parts_both own ts a [] ys f = omega arith
parts_both own ts a (x ∷ xs) ys f = let h = parts_both own ts a xs ys f.1 in omega (arith, h)

-- ---- the bases of lasting objects

-- these bases are those of the objects from this number on
abbrev pub Follow : List ℕ → ℕ → List ℕ → Type 0
Follow all next bs = Each (BaseOf all) next bs

-- these words are those of the procedures with numbers from this one on
abbrev pub FollowWords : (ℕ → ℕ) → ℕ → List ℕ → Type 0
FollowWords f next ws = Each (λ n w. f n ≡ w) next ws

-- the section in which code stands, the names in scope there, and what a step pays at least
pub record Home : Type 0 where
  pub section : ℕ
  pub own : Placed
  pub targets : List Target
  pub bindings : List Binding
  pub pay : ℕ

abbrev pub home : Scene → ℕ → Home
home sc pay = record { section = sc.section; own = sc.own; targets = sc.targets; bindings = sc.bindings; pay = pay }

-- a setting in which that section stands, and whose steps pay for as much
pub record Fitting (h : Home) (setting : Setting) : Type 0 where
  pub own : slice_get setting.program.sections h.section ≡ Some h.own
  pub pays : h.pay ≤ setting.pay

-- and whose lasting objects from this number on, which are not the global vector, have these bases, and those that are procedures
-- these words
pub record Suits (h : Home) (next : ℕ) (bases entries : List ℕ) (setting : Setting) : Type 0 where
  pub fits : Fitting h setting
  pub some : 0 < next
  pub follow : Follow setting.lasting next bases
  pub words : FollowWords setting.codes.procedure next entries

-- some procedure there
abbrev pub there_in : Home → ℕ → Scene
there_in h k = record { section = h.section; own = h.own; targets = h.targets; bindings = h.bindings; procedure = k; around = outermost; exits = record { loop = false; switch = false } }

-- names that mean in each run what they should there
abbrev pub Mean : Home → Setting → List Named → Type 0
Mean h setting ns = (k : ℕ) (bases : List ℕ) (frame : ℕ) → Grown setting.lasting bases → NamedIn (there_in h k) (with_names ns 0) bases frame

-- where the section stands in a program, they lie below the first frame, and the words of procedures are set
abbrev pub ArePlaced : Home → List ℕ → List ℕ → Type 0
ArePlaced h bases entries = (program : Program) (first : ℕ) → IsWellPlaced program first FRAME_WORDS → slice_get program.sections h.section ≡ Some h.own → AreBelow first bases × AreSet entries

abbrev pub IsBelow : Home → ℕ → Type 0
IsBelow h base = (program : Program) (first : ℕ) → IsWellPlaced program first FRAME_WORDS → slice_get program.sections h.section ≡ Some h.own → base ≤ first

joined_both : {A B : Type 0} (f : A → List B) (xs ys : List A) → joined f (xs ++ ys) ≡ joined f xs ++ joined f ys
joined_both f [] ys = refl
joined_both f (x ∷ xs) ys = ap (λ z. f x ++ z) (joined_both f xs ys) ∙ sym (append_assoc (f x) (joined f xs) (joined f ys))

-- how many objects with words have this base
abbrev pub with_base : ℕ → List Lasting → List ℕ → ℕ
with_base q (words (y ∷ ys) ∷ xs) (v ∷ vs) = cond (v == q) 1 0 + with_base q xs vs
with_base q (code f ∷ xs) (v ∷ vs) = option_map_or (λ _. 0) f.global (cond (v == q) 1 0) + with_base q xs vs
with_base q (x ∷ xs) (v ∷ vs) = with_base q xs vs
with_base q _ _ = 0

pub base_both : (q : ℕ) (xs ys : List Lasting) (vs us : List ℕ) → length xs ≡ length vs → with_base q (xs ++ ys) (vs ++ us) ≡ with_base q xs vs + with_base q ys us
base_both q [] ys [] us e = omega arith
base_both q [] ys (v ∷ vs) us e = absurd (omega (arith, e))
base_both q (x ∷ xs) ys [] us e = absurd (omega (arith, e))
base_both q (words [] ∷ xs) ys (v ∷ vs) us e = base_both q xs ys vs us (omega (arith, e))
base_both q (words (w ∷ ws) ∷ xs) ys (v ∷ vs) us e = let h = base_both q xs ys vs us (omega (arith, e)) in omega (arith, h)
base_both q (code f ∷ xs) ys (v ∷ vs) us e = let h = base_both q xs ys vs us (omega (arith, e)) in omega (arith, h)
base_both q (global_vector ∷ xs) ys (v ∷ vs) us e = base_both q xs ys vs us (omega (arith, e))

-- Lasting objects from this number on, so many, with bases, in code and in these parts: where a setting has them, this is so, and those
-- objects are held there. Their procedures set the globals that the parts set. Those with words have no more bases of an address than
-- this, and the parts, have data.
pub record Bases (h : Home) (next many : ℕ) (ps : List Part) (f : FoundParts h.own h.targets ps) (objects : List Named → List Lasting) (C : ℕ → ℕ) (P : Setting → Type 0) : Type 0 where
  pub bases : List ℕ
  pub entries : List ℕ
  pub all : length bases ≡ many
  pub all_entries : length entries ≡ many
  pub count : (ns : List Named) → length (objects ns) ≡ many
  pub laid : (setting : Setting) → Suits h next bases entries setting → P setting
  pub held : (setting : Setting) → Suits h next bases entries setting → (ns : List Named) → Agree ns h.bindings → Mean h setting ns → HeldList setting next (objects ns)
  pub sets : (setting : Setting) → Suits h next bases entries setting → (ns : List Named) → Agree ns h.bindings → Mean h setting ns → settings setting.codes next (objects ns) ≡ map (entry_setting h.own.places) (joined entries_of ps)
  pub once : (setting : Setting) → Suits h next bases entries setting → (ns : List Named) → Agree ns h.bindings → Mean h setting ns → (q : ℕ) → with_base q (objects ns) bases ≤ C q + data_of_parts h.own h.targets q ps f
  pub placed : ArePlaced h bases entries

-- none
pub no_bases : (h : Home) (next : ℕ) {f : FoundParts h.own h.targets []} (P : Setting → Type 0) → ((setting : Setting) → Fitting h setting → P setting) → Bases h next 0 [] f (λ ns. []) (λ a. 0) P
no_bases h next P f = record {
  bases = [];
  entries = [];
  all = refl;
  all_entries = refl;
  count = λ ns. refl;
  laid = λ setting x. f setting x.fits;
  held = λ setting x ns a u. tt;
  sets = λ setting x ns a u. refl;
  once = λ setting x ns a u q. omega arith;
  placed = λ program first well own. (tt, tt);
}

-- one, of words
pub new_base : (h : Home) (next base : ℕ) (ps : List Part) (f : FoundParts h.own h.targets ps) (ws : List Named → List ℕ) {C : ℕ → ℕ} (P : Setting → Type 0) → [] ≡ joined entries_of ps
    → ((ns : List Named) → Agree ns h.bindings → (q : ℕ) → with_base q (words (ws ns) ∷ []) (base ∷ []) ≤ C q + data_of_parts h.own h.targets q ps f) → IsBelow h base
    → ((setting : Setting) → Fitting h setting → BaseOf setting.lasting next base → P setting)
    → ((setting : Setting) → Fitting h setting → BaseOf setting.lasting next base → (ns : List Named) → Agree ns h.bindings → Mean h setting ns → HeldOne setting next (words (ws ns))) → Bases h next 1 ps f (λ ns. words (ws ns) ∷ []) C P
new_base h next base ps f ws P none z low g k = record {
  bases = base ∷ [];
  entries = 1 ∷ [];
  all = refl;
  all_entries = refl;
  count = λ ns. refl;
  laid = λ setting x. g setting x.fits (x.follow.0);
  held = λ setting x ns a u. (k setting x.fits (x.follow.0) ns a u, tt);
  sets = λ setting x ns a u. ap (map (entry_setting h.own.places)) none;
  once = λ setting x ns a u q. z ns a q;
  placed = λ program first well own. ((low program first well own, tt), (omega arith, tt));
}

-- Objects of one part, and then those of another, where other names are in scope, which mean what they should wherever the objects
-- of the first part have their bases.
pub then_bases : (h : Home) (bs : List Binding) (next n m : ℕ) (ps : List Part) {qs : List Part} (f : FoundParts h.own h.targets (ps ++ qs)) {K L : List Named → List Lasting} {C D : ℕ → ℕ} (P Q : Setting → Type 0) (names : List Named → List Named)
    (a : Bases h next n ps (found_front h.own h.targets ps qs f) K C P)
    → ((setting : Setting) → Suits h next a.bases a.entries setting → (ns : List Named) → Agree ns h.bindings → Mean h setting ns → Agree (names ns) bs × Mean (record h { bindings = bs }) setting (names ns))
    → Bases (record h { bindings = bs }) (next + n) m qs (found_back h.own h.targets ps qs f) L D Q → Bases h next (n + m) (ps ++ qs) f (λ ns. K ns ++ L (names ns)) (λ a. C a + D a) (λ setting. P setting × Q setting)
then_bases h bs next n m ps {qs} f {K} {L} P Q names a after b =
    let an = a.all in
    let bn = b.all in
    let ae = a.all_entries in
    let be = b.all_entries in
    let l = length-append a.bases b.bases in
    let le = length-append a.entries b.entries in
    let front : (setting : Setting) → Suits h next (a.bases ++ b.bases) (a.entries ++ b.entries) setting → Suits h next a.bases a.entries setting =
    λ setting x. record { fits = x.fits; some = x.some; follow = each_front (BaseOf setting.lasting) next a.bases b.bases x.follow; words = each_front (λ n w. setting.codes.procedure n ≡ w) next a.entries b.entries x.words } in
    let back : (setting : Setting) → Suits h next (a.bases ++ b.bases) (a.entries ++ b.entries) setting → Suits (record h { bindings = bs }) (next + n) b.bases b.entries setting = λ setting x. record {
      fits = record { own = x.fits.own; pays = x.fits.pays };
      some = (let z = x.some in omega (arith, z));
      follow = each_back (BaseOf setting.lasting) next n a.bases b.bases an x.follow;
      words = each_back (λ n w. setting.codes.procedure n ≡ w) next n a.entries b.entries ae x.words;
    } in
    record {
      bases = a.bases ++ b.bases;
      entries = a.entries ++ b.entries;
      all = omega (arith, an, bn, l);
      all_entries = omega (arith, ae, be, le);
      count = λ ns. let x = a.count ns in let y = b.count (names ns) in let z = length-append (K ns) (L (names ns)) in omega (arith, x, y, z);
      laid = λ setting x. (a.laid setting (front setting x), b.laid setting (back setting x));
      held = λ setting x ns e u.
          let i = after setting (front setting x) ns e u in
          each_both (HeldOne setting) next n (K ns) (L (names ns)) (a.count ns) (a.held setting (front setting x) ns e u) (b.held setting (back setting x) (names ns) i.0 i.1);
      sets = λ setting x ns e u.
          let i = after setting (front setting x) ns e u in
          settings_append setting.codes next (K ns) (L (names ns)) ∙ ap (λ k. settings setting.codes next (K ns) ++ settings setting.codes (next + k) (L (names ns))) (a.count ns)
          ∙ ap₂ (λ y z. y ++ z) (a.sets setting (front setting x) ns e u) (b.sets setting (back setting x) (names ns) i.0 i.1)
          ∙ sym (ap (map (entry_setting h.own.places)) (joined_both entries_of ps qs) ∙ map-append (entry_setting h.own.places) (joined entries_of ps) (joined entries_of qs));
      once = λ setting x ns e u q.
          let i = after setting (front setting x) ns e u in
          let v = a.once setting (front setting x) ns e u q in let w = b.once setting (back setting x) (names ns) i.0 i.1 q in
          let y = base_both q (K ns) (L (names ns)) a.bases b.bases (a.count ns ∙ sym an) in let z = parts_both h.own h.targets q ps qs f in omega (arith, v, w, y, z);
      placed = λ program first well own.
          let p = a.placed program first well own in
          let q = b.placed program first well own in
          (all_both (λ b. b ≤ first) a.bases b.bases p.0 q.0, all_both (λ w. 0 < w) a.entries b.entries p.1 q.1);
    }

-- those of one part and then those of another
pub both_bases : (h : Home) (next n m : ℕ) (ps : List Part) {qs : List Part} (f : FoundParts h.own h.targets (ps ++ qs)) {K L : List Named → List Lasting} {C D : ℕ → ℕ} (P Q : Setting → Type 0)
    → Bases h next n ps (found_front h.own h.targets ps qs f) K C P → Bases h (next + n) m qs (found_back h.own h.targets ps qs f) L D Q
    → Bases h next (n + m) (ps ++ qs) f (λ ns. K ns ++ L ns) (λ a. C a + D a) (λ setting. P setting × Q setting)
both_bases h next n m ps f P Q a b = then_bases h h.bindings next n m ps f P Q (λ ns. ns) a (λ setting x ns e u. (e, u)) b

-- those of three
pub three_bases : (h : Home) (next n m k : ℕ) (ps qs : List Part) {rs : List Part} (f : FoundParts h.own h.targets (ps ++ qs ++ rs)) {K L M : List Named → List Lasting} {C D E : ℕ → ℕ} (P Q R : Setting → Type 0)
    → Bases h next n ps (found_front h.own h.targets ps qs (found_front h.own h.targets (ps ++ qs) rs f)) K C P → Bases h (next + n) m qs (found_back h.own h.targets ps qs (found_front h.own h.targets (ps ++ qs) rs f)) L D Q
    → Bases h (next + n + m) k rs (found_back h.own h.targets (ps ++ qs) rs f) M E R → Bases h next (n + m + k) (ps ++ qs ++ rs) f (λ ns. K ns ++ L ns ++ M ns) (λ a. C a + D a + E a) (λ setting. (P setting × Q setting) × R setting)
three_bases h next n m k ps qs {rs} f {M = M} {E = E} P Q R a b c =
    let e : next + n + m ≡ next + (n + m) = omega arith in
    both_bases h next (n + m) k (ps ++ qs) f _ R (both_bases h next n m ps _ P Q a b) (subst (λ x. Bases h x k rs (found_back h.own h.targets (ps ++ qs) rs f) M E R) e c)

module _ (h : Home) {next n : ℕ} {ps : List Part} {f : FoundParts h.own h.targets ps} where
  -- Said otherwise: with other names in scope inside, which mean what they should where the objects' bases say so, and where a step pays for more.
  pub bases_as : (bs : List Binding) (pay : ℕ) {K L : List Named → List Lasting} {C D : ℕ → ℕ} {P : Setting → Type 0} (Q : Setting → Type 0) (names : List Named → List Named) → pay ≤ h.pay
      → ((setting : Setting) → Fitting h setting → 0 < next → P setting → Q setting) → ((ns : List Named) → K (names ns) ≡ L ns) → ((a : ℕ) → C a ≤ D a)
      → ((setting : Setting) → 0 < next → P setting → (ns : List Named) → Agree ns h.bindings → Mean h setting ns → Agree (names ns) bs × Mean (record h { bindings = bs; pay = pay }) setting (names ns))
      → Bases (record h { bindings = bs; pay = pay }) next n ps f K C P → Bases h next n ps f L D Q
  bases_as bs pay {K} {L} Q names low said same less means a =
      let inner : (setting : Setting) → Suits h next a.bases a.entries setting → Suits (record h { bindings = bs; pay = pay }) next a.bases a.entries setting =
      λ setting x. record { fits = record { own = x.fits.own; pays = (let z = x.fits.pays in omega (arith, z, low)) }; some = x.some; follow = x.follow; words = x.words } in
      record {
        bases = a.bases;
        entries = a.entries;
        all = a.all;
        all_entries = a.all_entries;
        count = λ ns. subst (λ x. length x ≡ n) (same ns) (a.count (names ns));
        laid = λ setting x. said setting x.fits x.some (a.laid setting (inner setting x));
        held = λ setting x ns u v. let i = means setting x.some (a.laid setting (inner setting x)) ns u v in subst (λ y. HeldList setting next y) (same ns) (a.held setting (inner setting x) (names ns) i.0 i.1);
        sets = λ setting x ns u v. let i = means setting x.some (a.laid setting (inner setting x)) ns u v in ap (settings setting.codes next) (sym (same ns)) ∙ a.sets setting (inner setting x) (names ns) i.0 i.1;
        once = λ setting x ns u v q.
            let i = means setting x.some (a.laid setting (inner setting x)) ns u v in
            let o = a.once setting (inner setting x) (names ns) i.0 i.1 q in let e = ap (λ y. with_base q y a.bases) (same ns) in let l = less q in omega (arith, o, e, l);
        placed = a.placed;
      }

  pub bases_so : {L : List Named → List Lasting} {C : ℕ → ℕ} {P : Setting → Type 0} (Q : Setting → Type 0) → ((setting : Setting) → Fitting h setting → P setting → Q setting) → Bases h next n ps f L C P → Bases h next n ps f L C Q
  bases_so Q said a = bases_as h.bindings h.pay Q (λ ns. ns) (omega arith) (λ setting x some p. said setting x p) (λ ns. refl) (λ q. omega arith) (λ setting some p ns u v. (u, v)) a

  -- the same objects, said otherwise
  pub bases_of : (K L : List Named → List Lasting) {C : ℕ → ℕ} {P : Setting → Type 0} → ((ns : List Named) → K ns ≡ L ns) → Bases h next n ps f K C P → Bases h next n ps f L C P
  bases_of K L {P = P} e a = bases_as h.bindings h.pay P (λ ns. ns) (omega arith) (λ setting x some p. p) e (λ q. omega arith) (λ setting some p ns u v. (u, v)) a

  -- where their bases say so, more names are in scope inside
  pub bases_under : (bs : List Binding) {L : List Named → List Lasting} {C : ℕ → ℕ} {P : Setting → Type 0} (names : List Named → List Named)
      → ((setting : Setting) → 0 < next → P setting → (ns : List Named) → Agree ns h.bindings → Mean h setting ns → Agree (names ns) bs × Mean (record h { bindings = bs }) setting (names ns))
      → Bases (record h { bindings = bs }) next n ps f L C P → Bases h next n ps f (λ ns. L (names ns)) C P
  bases_under bs {P = P} names means a = bases_as bs h.pay P names (omega arith) (λ setting x some p. p) (λ ns. refl) (λ q. omega arith) means a

  -- none of them is the global vector
  pub bases_some : {L : List Named → List Lasting} {C : ℕ → ℕ} {P : Setting → Type 0} → Bases h next n ps f L C P → Bases h next n ps f L C (λ setting. (0 < next) × P setting)
  bases_some a = bases_as h.bindings h.pay _ (λ ns. ns) (omega arith) (λ setting x some p. (some, p)) (λ ns. refl) (λ q. omega arith) (λ setting some p ns u v. (u, v)) a

  pub bases_within : {L : List Named → List Lasting} {C D : ℕ → ℕ} {P : Setting → Type 0} → ((a : ℕ) → C a ≤ D a) → Bases h next n ps f L C P → Bases h next n ps f L D P
  bases_within {P = P} less a = bases_as h.bindings h.pay P (λ ns. ns) (omega arith) (λ setting x some p. p) (λ ns. refl) less (λ setting some p ns u v. (u, v)) a

-- where a step pays for more
pub bases_paid : (h : Home) (more : ℕ) {next n : ℕ} {ps : List Part} {f : FoundParts h.own h.targets ps} {L : List Named → List Lasting} {C : ℕ → ℕ} {P : Setting → Type 0} → h.pay ≤ more → Bases h next n ps f L C P → Bases (record h { pay = more }) next n ps f L C P
bases_paid h more {P = P} low a = bases_as (record h { pay = more }) h.bindings h.pay P (λ ns. ns) low (λ setting x some p. p) (λ ns. refl) (λ q. omega arith) (λ setting some p ns u v. (u, v)) a

-- What is laid from these statements on, and where the code goes on: with this depth before those. Those objects with words and the data behind
-- them are no more than the data of the statements and of the parts.
pub record Lies (h : Home) (next many depth : ℕ) (c rest : List Stmt) (ps : List Part) (f : FoundParts h.own h.targets ps) (objects : List Named → List Lasting) (P : Setting → Type 0) : Type 0 where
  pub credit : ℕ → ℕ
  pub on : IsNumbered h.own depth rest
  pub objects_are : Bases h next many ps f objects credit P
  pub paid : (a : ℕ) → credit a + data_at h.own a rest ≤ data_at h.own a c

pub lie : {h : Home} {next many depth : ℕ} {c rest : List Stmt} {ps : List Part} {f : FoundParts h.own h.targets ps} {L : List Named → List Lasting} {B : ℕ → ℕ} {P : Setting → Type 0} → IsNumbered h.own depth rest → Bases h next many ps f L B P
    → ((a : ℕ) → B a + data_at h.own a rest ≤ data_at h.own a c) → Lies h next many depth c rest ps f L P
lie {B = B} on objects paid = record { credit = B; on = on; objects_are = objects; paid = paid }

pub lies_so : (h : Home) {next many depth : ℕ} {c rest : List Stmt} {ps : List Part} {f : FoundParts h.own h.targets ps} {L : List Named → List Lasting} {P : Setting → Type 0} (Q : Setting → Type 0) → ((setting : Setting) → Fitting h setting → P setting → Q setting)
    → Lies h next many depth c rest ps f L P → Lies h next many depth c rest ps f L Q
lies_so h Q g a = lie a.on (bases_so h Q g a.objects_are) a.paid

-- one statement further
pub lies_behind : (h : Home) {next many : ℕ} (k depth : ℕ) {c : List Stmt} (x : Stmt) (rest : List Stmt) {ps : List Part} {f : FoundParts h.own h.targets ps} {L : List Named → List Lasting} {P : Setting → Type 0} → next_depth k x ≡ depth
    → Lies h next many k c (x ∷ rest) ps f L P → Lies h next many depth c rest ps f L P
lies_behind h k depth x rest e a = lie (passed h.own k depth x rest a.on e) a.objects_are (λ q. let p = a.paid q in omega (arith, p))

-- from earlier statements on
pub lies_within : {h : Home} {next many depth : ℕ} {c c1 rest : List Stmt} {ps : List Part} {f : FoundParts h.own h.targets ps} {L : List Named → List Lasting} {P : Setting → Type 0} → ((a : ℕ) → data_at h.own a c1 ≤ data_at h.own a c)
    → Lies h next many depth c1 rest ps f L P → Lies h next many depth c rest ps f L P
lies_within less a = lie a.on a.objects_are (λ q. let x = a.paid q in let y = less q in omega (arith, x, y))

-- and with a part in front that sets no global
pub lies_after : {h : Home} {next many depth : ℕ} {c rest : List Stmt} (x : Part) {ps : List Part} {f : FoundParts h.own h.targets (x ∷ ps)} {L : List Named → List Lasting} {P : Setting → Type 0} → entries_of x ≡ []
    → Lies h next many depth c rest ps f.1 L P → Lies h next many depth c rest (x ∷ ps) f L P
lies_after {h} x {ps} e a = grind (arith, joined)
