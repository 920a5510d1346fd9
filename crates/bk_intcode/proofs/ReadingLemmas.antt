-- What a text says, one word after another.
use Rattle.bk_intcode.proofs.Terms.{◌≡◌, ◌≢◌, inl, inr, ℕ, ◌+◌, ◌<◌, ◌++◌, Bool, true, false, List, [], ◌∷◌, Option, Some, None, length, map, arith, refl, sym, ◌∙◌, ap, subst, length-append, map-append, Consumes, IntcodeKind, Truncated, Item, End, item_text, item_fault, AtEnd, words_of, EndsInBlank, TakesWord, IsNext, IsPartial, FaultAfter, GivesSegment, GivesNothing, GivesFault, StopsAtWord, Takes, Consumes-trans, IsParted, IsParted-word, EndsInBlank-word, TakesWords-word, words_of-last, words_of-more_blanks, Found, Found as founds}
use Rattle.bk_intcode.specs.declared.words.Found.TheVariants.{Fault, Nothing}
use Rattle.bk_words.specs.Taking.{TakesWords}
use Rattle.bk_intcode.proofs.PartialLemmas.{IsPartial-push, IsSegment-of}

-- what was taken so far: the words of these items, parted from those that follow
abbrev pub Read : Option (List ℕ) → Option (List ℕ) → ℕ → List Item → Type 0
Read a b m items = (front : List ℕ) × Consumes a b front × (m ≡ length front) × (words_of front ≡ map item_text items) × IsParted front × EndsInBlank front

abbrev pub Comes : Option (List ℕ) → Option (List ℕ) → ℕ → ℕ → Bool → Found → Type 0
Comes b c m k ended found = (given : List ℕ) × Consumes b c given × (k ≡ m + length given) × IsNext found given (AtEnd ended k)

count : (front given : List ℕ) (m k : ℕ) → m ≡ length front → k ≡ m + length given → k ≡ length (front ++ given)
count front given m k p q = omega (arith, length-append front given)

-- what holds of the bytes taken, where the count of them tells the end
gives : (a b c : Option (List ℕ)) (front given : List ℕ) (m k : ℕ) (ended : Bool) (what : List ℕ → Type 0 → Type 0) → Consumes a b front → Consumes b c given → m ≡ length front → k ≡ m + length given →
    what (front ++ given) (AtEnd ended k) → Takes a c ended what
gives a b c front given m k ended what p q r t holds =
    (front ++ given, Consumes-trans a b c front given p q, subst (λ n. what (front ++ given) (AtEnd ended n)) (count front given m k r t) holds)

no_items : (items : List Item) → length items ≡ 0 → map item_text items ≡ []
no_items [] is = refl
no_items (i ∷ items) is = absurd (omega arith)

-- only blanks were left
pub nothing_left : (a b c : Option (List ℕ)) (m k : ℕ) (ended : Bool) (items : List Item) → Read a b m items → Comes b c m k ended Nothing → length items ≡ 0 → Takes a c ended GivesNothing
nothing_left a b c m k ended items s n none =
    gives a b c s.0 n.0 m k ended GivesNothing s.1 n.1 s.2 n.2 (words_of-more_blanks s.0 n.0 [] s.4 (s.3 ∙ no_items items none) n.3.0, n.3.1)

-- the text ends where an item is due
pub cut : (a b c : Option (List ℕ)) (m k number : ℕ) (ended : Bool) (items : List Item) → Read a b m items → Comes b c m k ended Nothing → IsPartial items → 0 < length items → number ≡ length items + 1 →
    Takes a c ended (λ taken end. GivesFault taken end number Truncated)
cut a b c m k number ended items s n begun some place =
    gives a b c s.0 n.0 m k ended (λ taken end. GivesFault taken end number Truncated) s.1 n.1 s.2 n.2
    (inr (refl, n.3.1, record { before = items; begun = begun; some = some; are = words_of-more_blanks s.0 n.0 (map item_text items) s.4 s.3 n.3.0; place = place }))

fault_here : (front given : List ℕ) (last : Bool) (end : Type 0) (items : List Item) (t : TakesWord given last end) (number : ℕ) (kind : IntcodeKind) → IsParted front → words_of front ≡ map item_text items →
    IsPartial items → number ≡ length items + 1 → FaultAfter items (t.first ∷ t.rest) kind → GivesFault (front ++ given) end number kind
fault_here front given last end items t number kind parted are begun place fault =
    inl (
      map item_text items ++ (t.first ∷ t.rest) ∷ [],
      TakesWords-word front given last end (map item_text items) t parted are,
      record { before = items; begun = begun; word = t.first ∷ t.rest; are = refl; place = place; fault = fault },
    )

-- a word that has a fault by itself
pub word_fault : (a b c : Option (List ℕ)) (m k number : ℕ) (ended : Bool) (items : List Item) (kind : IntcodeKind) → Read a b m items → Comes b c m k ended (Fault kind) → IsPartial items → number ≡ length items + 1 →
    Takes a c ended (λ taken end. GivesFault taken end number kind)
word_fault a b c m k number ended items kind s n begun place =
    gives a b c s.0 n.0 m k ended (λ taken end. GivesFault taken end number kind) s.1 n.1 s.2 n.2
    (fault_here s.0 n.0 n.3.0 (AtEnd ended k) items n.3.1 number kind s.4 s.3 begun place (inl n.3.2))

-- an item that has a fault behind the others
pub item_fault_here : (a b c : Option (List ℕ)) (m k number : ℕ) (ended : Bool) (items : List Item) (item : Item) (last : Bool) (kind : IntcodeKind) → Read a b m items → Comes b c m k ended (founds.Item item last) → IsPartial items →
    number ≡ length items + 1 → item_fault items item ≡ Some kind → Takes a c ended (λ taken end. GivesFault taken end number kind)
item_fault_here a b c m k number ended items item last kind s n begun place fault =
    gives a b c s.0 n.0 m k ended (λ taken end. GivesFault taken end number kind) s.1 n.1 s.2 n.2
    (fault_here s.0 n.0 last (AtEnd ended k) items n.3.0 number kind s.4 s.3 begun place (inr (item, n.3.1, fault)))

-- memory is refused at an item
pub stops_here : (a b c : Option (List ℕ)) (m k : ℕ) (ended : Bool) (items : List Item) (item : Item) (last : Bool) → Read a b m items → Comes b c m k ended (founds.Item item last) → IsPartial items →
    Takes a c ended StopsAtWord
stops_here a b c m k ended items item last s n begun =
    gives a b c s.0 n.0 m k ended StopsAtWord s.1 n.1 s.2 n.2
    (record { before = items; begun = begun; word = n.3.0.first ∷ n.3.0.rest; are = TakesWords-word s.0 n.0 last (AtEnd ended k) (map item_text items) n.3.0 s.4 s.3 })

-- the words of items, one item more
words-push : (items all : List Item) (item : Item) (word : List ℕ) → all ≡ items ++ item ∷ [] → item_text item ≡ word → map item_text items ++ word ∷ [] ≡ map item_text all
words-push items all item word is text =
    ap (λ (w : List ℕ). map item_text items ++ w ∷ []) (sym text) ∙ sym (map-append item_text items (item ∷ [])) ∙ ap (map item_text) (sym is)

-- the end of a segment
pub segment_here : (a b c : Option (List ℕ)) (m k : ℕ) (ended : Bool) (items all : List Item) (last : Bool) → Read a b m items → Comes b c m k ended (founds.Item End last) → IsPartial items → item_fault items End ≡ None →
    all ≡ items ++ End ∷ [] → Takes a c ended (λ taken end. GivesSegment taken end all)
segment_here a b c m k ended items all last s n begun faultless is =
    gives a b c s.0 n.0 m k ended (λ taken end. GivesSegment taken end all) s.1 n.1 s.2 n.2 (
      IsSegment-of items all is begun faultless,
      subst (λ (w : List (List ℕ)). TakesWords (s.0 ++ n.0) (AtEnd ended k) w) (words-push items all End (n.3.0.first ∷ n.3.0.rest) is n.3.1.text)
          (TakesWords-word s.0 n.0 last (AtEnd ended k) (map item_text items) n.3.0 s.4 s.3),
    )

-- the text ends right behind an item, and another is due
pub cut_after : (a b c : Option (List ℕ)) (m k number : ℕ) (ended : Bool) (items all : List Item) (item : Item) (last : Bool) → last ≡ true → Read a b m items → Comes b c m k ended (founds.Item item last) → IsPartial items →
    item_fault items item ≡ None → item ≢ End → all ≡ items ++ item ∷ [] → number ≡ length all + 1 → Takes a c ended (λ taken end. GivesFault taken end number Truncated)
cut_after a b c m k number ended items all item false over s n begun faultless other is place = absurd (let h : false ≡ true = over in cc)
cut_after a b c m k number ended items all item true over s n begun faultless other is place =
    gives a b c s.0 n.0 m k ended (λ taken end. GivesFault taken end number Truncated) s.1 n.1 s.2 n.2
    (inr (
      refl,
      n.3.0.past.1,
      record {
        before = all;
        begun = subst IsPartial (sym is) (IsPartial-push items item begun n.3.1.in_range faultless other);
        some = omega (arith, ap (λ (l : List Item). length l) is, length-append items (item ∷ []));
        are = words_of-last s.0 n.0 (AtEnd ended k) (map item_text items) n.3.0 s.4 s.3 ∙ words-push items all item (n.3.0.first ∷ n.3.0.rest) is n.3.1.text;
        place = place;
      },
    ))

-- one item more was read
pub Read-push : (a b c : Option (List ℕ)) (m k : ℕ) (ended : Bool) (items all : List Item) (item : Item) (last : Bool) → last ≡ false → Read a b m items → Comes b c m k ended (founds.Item item last) → all ≡ items ++ item ∷ [] → Read a c k all
Read-push a b c m k ended items all item last on s n is =
    let p = IsParted-word s.0 n.0 last (AtEnd ended k) (map item_text items) n.3.0 s.4 s.3 on in
    (s.0 ++ n.0, Consumes-trans a b c s.0 n.0 s.1 n.1, count s.0 n.0 m k s.2 n.2, p.0 ∙ words-push items all item (n.3.0.first ∷ n.3.0.rest) is n.3.1.text, p.1, EndsInBlank-word s.0 n.0 last (AtEnd ended k) n.3.0 on)

pub IsPartial-more : (b c : Option (List ℕ)) (m k : ℕ) (ended : Bool) (items all : List Item) (item : Item) (last : Bool) → Comes b c m k ended (founds.Item item last) → IsPartial items → item_fault items item ≡ None → item ≢ End → all ≡ items ++ item ∷ [] → IsPartial all
IsPartial-more b c m k ended items all item last n begun faultless other is = subst IsPartial (sym is) (IsPartial-push items item begun n.3.1.in_range faultless other)

-- a word has a byte at least
pub grows : (b c : Option (List ℕ)) (m k : ℕ) (ended : Bool) (item : Item) (last : Bool) → Comes b c m k ended (founds.Item item last) → m < k
grows b c m k ended item last n =
    let t = n.3.0 in
    omega (arith, n.2, ap (λ (l : List ℕ). length l) t.whole, length-append t.blanks ((t.first ∷ t.rest) ++ t.following), length-append t.rest t.following)
