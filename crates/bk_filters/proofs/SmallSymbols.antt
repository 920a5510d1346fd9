-- What numbers and characters of a section stand for are words, where its text is of bytes.
use Rattle.bk_filters.proofs.Terms.{◌≡◌, ℕ, ◌+◌, ◌-◌, ◌*◌, ◌<◌, ◌%◌, ◌^◌, ◌==◌, ◌||◌, nat_lt, Bool, true, false, List, [], ◌∷◌, ◌++◌, Option, Some, None, cond, if◌then◌else◌, refl, sym, ap, subst, arith, length, ltb-true, and_parts, Symbol, symbol, Section, inserted_symbols, leaf, Kind, Kind as k, What, What as whats}
use Rattle.std.proofs.lemmas.Nat.{mod_below}
use Rattle.std.specs.List.{list_all}
use Rattle.bk_lex.specs.declared.machine.Base.{Base}
use Rattle.bk_lex.specs.declared.machine.Base.TheVariants.{Octal, Decimal, Hexadecimal}
use Rattle.bk_lex.specs.declared.machine.Header.{Header}
use Rattle.bk_lex.specs.declared.machine.Header.TheVariants.{Plain, Formatted}
use Rattle.bk_lex.specs.Bytes.{digit_value}
use Rattle.bk_lex.specs.Machine.{digits_in}
use Rattle.bk_lex.specs.Values.{word_from, after_hash, number_word, escaped, character_byte}
use Rattle.bk_lex.specs.Header.{header_symbols}
use Rattle.bk_lex.specs.Insertion.{inserted}
use Rattle.bk_lex.specs.Pieces.{Piece, CutsTo}
use Rattle.bk_lex.specs.Tokens.{what_of, header_named, Putting, putting, seen, named_as, put_as, is_dot_sort, put, puts, IsSection}
use Rattle.bk_tree.specs.Tree as t
use Rattle.bk_grammar.specs.Spelling.{tag_of}
use Rattle.bk_grammar.specs.Brackets.{same_tag, Closing, one_more, up_to_tag, closed_by, in_front, plain_after, plain_by, plain}

-- ---- numbers and characters

if_small : (q : Bool) (x y : ℕ) → x < 2 ^ 32 → y < 2 ^ 32 → (if q then x else y) < 2 ^ 32
if_small true x y h i = h
if_small false x y h i = i

word_small : (base : Base) (v : ℕ) (bs : List ℕ) → v < 2 ^ 32 → word_from base v bs < 2 ^ 32
word_small base v [] h = h
word_small base v (b ∷ bs) h = word_small base ((v * digits_in base + digit_value b) % 2 ^ 32) bs (mod_below (v * digits_in base + digit_value b) (2 ^ 32) (omega arith))

hash_small : (bs : List ℕ) → after_hash bs < 2 ^ 32
hash_small [] = omega arith
hash_small (b ∷ bs) = if_small (b == 88 || b == 120) _ _ (word_small Hexadecimal 0 bs (omega arith)) (word_small Octal 0 (b ∷ bs) (omega arith))

number_small : (text : List ℕ) → number_word text < 2 ^ 32
number_small [] = omega arith
number_small (b ∷ bs) = if_small (b == 35) _ _ (hash_small bs) (word_small Decimal 0 (b ∷ bs) (omega arith))

-- bytes
abbrev pub Bytes : List ℕ → Type 0
Bytes [] = Unit {0}
Bytes (b ∷ bs) = (b < 256) × Bytes bs

bytes_front : (a b : List ℕ) → Bytes (a ++ b) → Bytes a
bytes_front [] b h = tt
bytes_front (x ∷ a) b h = (h.0, bytes_front a b h.1)

pub bytes_back : (a b : List ℕ) → Bytes (a ++ b) → Bytes b
bytes_back [] b h = h
bytes_back (x ∷ a) b h = bytes_back a b h.1

escaped_small : (b : ℕ) → b < 256 → escaped b < 2 ^ 32
escaped_small b h =
    if_small (b == 78 || b == 110) _ _ (omega arith) (if_small (b == 84 || b == 116) _ _ (omega arith) (if_small (b == 83 || b == 115) _ _ (omega arith)
    (if_small (b == 66 || b == 98) _ _ (omega arith) (if_small (b == 80 || b == 112) _ _ (omega arith) (if_small (b == 67 || b == 99) _ _ (omega arith) (omega (arith, h)))))))

character_small : (text : List ℕ) → Bytes text → character_byte text < 2 ^ 32
character_small [] h = omega arith
character_small (q ∷ []) h = omega arith
character_small (q ∷ b ∷ []) h = let i = h.1.0 in omega (arith, i)
character_small (q ∷ b ∷ c ∷ rest) h = if_small (b == 42) _ _ (escaped_small c h.1.1.0) (let i = h.1.0 in omega (arith, i))

-- ---- symbols

-- the byte of a character constant is a word
abbrev IsSmall : Symbol → Type 0
IsSmall s = character_byte s.text < 2 ^ 32

abbrev pub AreSmall : List Symbol → Type 0
AreSmall [] = Unit {0}
AreSmall (s ∷ ss) = IsSmall s × AreSmall ss

small_both : (ts us : List Symbol) → AreSmall ts → AreSmall us → AreSmall (ts ++ us)
small_both [] us h i = i
small_both (s ∷ ts) us h i = (h.0, small_both ts us h.1 i)

-- a number in a tree
pub leaf_small : (kind : Kind) (line : ℕ) (text : List ℕ) (l n : ℕ) → character_byte text < 2 ^ 32 → leaf kind line text ≡ Some (t.number l n) → n < 2 ^ 32
leaf_small k.Number line text l n h e = subst (λ m. m < 2 ^ 32) (let same : number_word text ≡ n = cc in same) (number_small text)
leaf_small k.Character line text l n h e = subst (λ m. m < 2 ^ 32) (let same : character_byte text ≡ n = cc in same) h
leaf_small kind line text l n h e = absurd cc

-- ---- tokens of bytes

by_test : (ss : List Symbol) → list_all (λ (s : Symbol). nat_lt (character_byte s.text) (2 ^ 32)) ss ≡ true → AreSmall ss
by_test [] h = tt
by_test (s ∷ ss) h = let both = and_parts (nat_lt (character_byte s.text) (2 ^ 32)) (list_all (λ (x : Symbol). nat_lt (character_byte x.text) (2 ^ 32)) ss) h in (ltb-true (character_byte s.text) (2 ^ 32) both.0, by_test ss both.1)

header_small : (h : Header) (line : ℕ) → AreSmall (header_symbols h line)
header_small Plain line = by_test (header_symbols Plain line) refl
header_small Formatted line = by_test (header_symbols Formatted line) refl

seen_out : (q : Putting) (text : List ℕ) → (seen q text).out ≡ q.out
seen_out q [] = refl
seen_out q (b ∷ bs) = refl

inserted_small : (o : Option Kind) (line : ℕ) → AreSmall (inserted_symbols o line)
inserted_small None line = tt
inserted_small (Some kind) line = (omega arith, tt)

named_small : (q r : Putting) (g : ℕ) (o : Option Header) → AreSmall q.out → named_as q g o ≡ Some r → AreSmall r.out
named_small q r g None h e = absurd cc
named_small q r g (Some x) h e = subst AreSmall (ap (λ (p : Putting). p.out) (let same : putting (q.out ++ header_symbols x g) (Some k.SectionClose) q.fed q.line None q.used ≡ r = cc in same)) (small_both q.out (header_symbols x g) h (header_small x g))

put_as_small : (q r : Putting) (text : List ℕ) (what : What) (get : Option ℕ) → Bytes text → AreSmall q.out → put_as q text what get ≡ Some r → AreSmall r.out
put_as_small q r text whats.Gap get b h e = subst AreSmall (ap (λ (p : Putting). p.out) (let same : q ≡ r = cc in same)) h
put_as_small q r text (whats.Symbol kind) None b h e =
    let more : List Symbol = inserted_symbols (inserted q.last kind q.fed) q.line in
    let here : Symbol = symbol kind q.line (Some (q.used - length text)) text in
    let same : putting (q.out ++ more ++ here ∷ []) (Some kind) false q.line None q.used ≡ r = cc in
    subst AreSmall (ap (λ (p : Putting). p.out) same) (small_both (q.out ++ more) (here ∷ []) (small_both q.out more h (inserted_small (inserted q.last kind q.fed) q.line)) (character_small text b, tt))
put_as_small q r text (whats.Symbol kind) (Some g) b h e = named_small q r g (header_named text) h e
put_as_small q r text whats.Get None b h e = subst AreSmall (ap (λ (p : Putting). p.out) (let same : putting q.out q.last false q.line (Some q.line) q.used ≡ r = cc in same)) h
put_as_small q r text whats.Get (Some g) b h e = absurd cc

put_small : (q r : Putting) (p : Piece) → Bytes p.text → AreSmall q.out → put q p ≡ Some r → AreSmall r.out
put_small q r p b h e = by_dot (is_dot_sort p.sort) e
  where
    by_dot : (d : Bool) → (if d then None else put_as (seen q p.text) p.text (what_of p.sort p.text) q.get) ≡ Some r → AreSmall r.out
    by_dot true e = absurd cc
    by_dot false e = put_as_small (seen q p.text) r p.text (what_of p.sort p.text) q.get b (subst AreSmall (sym (seen_out q p.text)) h) e

puts_none : (ps : List Piece) (r : Putting) → puts None ps ≡ Some r → ⊥
puts_none [] r e = cc
puts_none (p ∷ ps) r e = cc

puts_small : (ps : List Piece) (q r : Putting) (text rest : List ℕ) → CutsTo text ps rest → Bytes text → AreSmall q.out → puts (Some q) ps ≡ Some r → AreSmall r.out
puts_small [] q r text rest cut b h e = subst AreSmall (ap (λ (p : Putting). p.out) (let same : q ≡ r = cc in same)) h
puts_small (p ∷ ps) q r text rest cut b h e =
    let whole : Bytes (p.text ++ cut.0) = subst Bytes cut.1.parts b in
    by_put (put q p) (λ m at. put_small q m p (bytes_front p.text cut.0 whole) h at) (λ m small rest_is. puts_small ps m r cut.0 rest cut.2 (bytes_back p.text cut.0 whole) small rest_is) e
  where
    by_put : (o : Option Putting) → ((m : Putting) → o ≡ Some m → AreSmall m.out) → ((m : Putting) → AreSmall m.out → puts (Some m) ps ≡ Some r → AreSmall r.out) → puts o ps ≡ Some r → AreSmall r.out
    by_put None f g e = absurd (puts_none ps r e)
    by_put (Some m) f g e = g m (f m refl) e

pub symbols_small : (text : List ℕ) (line : ℕ) (s : Section) → Bytes text → IsSection text line s → AreSmall s.symbols
symbols_small text line s b is =
    let c = is.0 in
    subst AreSmall (sym c.symbols) (puts_small c.pieces (putting [] None false line None 0) c.last text c.rest c.cut b tt c.tokens)

-- ---- plain symbols

front_small : (ts : List Symbol) (o : Option (List Symbol)) (out : List Symbol) → AreSmall ts → ((us : List Symbol) → o ≡ Some us → AreSmall us) → in_front ts o ≡ Some out → AreSmall out
front_small ts None out h f e = absurd cc
front_small ts (Some us) out h f e = subst AreSmall (let same : ts ++ us ≡ out = cc in same) (small_both ts us h (f us refl))

abbrev IsSmallClosing : Option Closing → Type 0
IsSmallClosing None = Unit {0}
IsSmallClosing (Some c) = AreSmall c.closings

one_more_small : (s : Symbol) (o : Option Closing) → IsSmall s → IsSmallClosing o → IsSmallClosing (one_more s o)
one_more_small s None h i = tt
one_more_small s (Some c) h i = (h, i)

tag_small : (s : Symbol) (tag : List ℕ) (opens : List (List ℕ)) → IsSmall s → IsSmallClosing (up_to_tag s tag opens)
tag_small s tag [] h = tt
tag_small s tag (x ∷ opens) h = by_tag (same_tag tag x) (tag_small s tag opens h)
  where
    by_tag : (q : Bool) → IsSmallClosing (up_to_tag s tag opens) → IsSmallClosing (cond q (Some (record { closings = s ∷ []; still = opens })) (one_more s (up_to_tag s tag opens)))
    by_tag true i = (h, tt)
    by_tag false i = one_more_small s (up_to_tag s tag opens) h i

closed_small : (s : Symbol) (tag : List ℕ) (opens : List (List ℕ)) → IsSmall s → IsSmallClosing (closed_by s tag opens)
closed_small s [] [] h = (h, tt)
closed_small s [] ([] ∷ opens) h = (h, tt)
closed_small s [] ((x ∷ xs) ∷ opens) h = tt
closed_small s (x ∷ xs) opens h = tag_small s (x ∷ xs) opens h

behind_small : (rest : List (List ℕ) → Option (List Symbol)) (o : Option Closing) (out : List Symbol) → IsSmallClosing o → ((opens : List (List ℕ)) (us : List Symbol) → rest opens ≡ Some us → AreSmall us)
    → plain_after rest o ≡ Some out → AreSmall out
behind_small rest None out h f e = absurd cc
behind_small rest (Some c) out h f e = front_small c.closings (rest c.still) out h (f c.still) e

by_kind_small : (s : Symbol) (kind : Kind) (rest : List (List ℕ) → Option (List Symbol)) (opens : List (List ℕ)) (out : List Symbol) → IsSmall s
    → ((os : List (List ℕ)) (us : List Symbol) → rest os ≡ Some us → AreSmall us) → plain_by s kind rest opens ≡ Some out → AreSmall out
by_kind_small s k.SectionOpen rest opens out h f e = front_small (s ∷ []) (rest (tag_of s.text ∷ opens)) out (h, tt) (f (tag_of s.text ∷ opens)) e
by_kind_small s k.SectionClose rest opens out h f e = behind_small rest (closed_by s (tag_of s.text) opens) out (closed_small s (tag_of s.text) opens h) f e
by_kind_small s kind rest opens out h f e = front_small (s ∷ []) (rest opens) out (h, tt) (f opens) e

pub plain_small : (ts : List Symbol) (opens : List (List ℕ)) (out : List Symbol) → AreSmall ts → plain ts opens ≡ Some out → AreSmall out
unfolding plain
plain_small [] opens out h e = subst AreSmall (let same : [] ≡ out = cc in same) tt
plain_small (s ∷ ts) opens out h e = by_kind_small s s.kind (plain ts) opens out h.0 (λ os us at. plain_small ts os us h.1 at) e
