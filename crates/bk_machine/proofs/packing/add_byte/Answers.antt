use Rattle.bk_machine.proofs.Terms.{◌≡◌, ◌≢◌, ℕ, ◌-◌, ◌*◌, ◌+◌, ◌^◌, ◌<◌, List, arith, get_or, set, ap, ◌∙◌, length, get_or_read}
use Rattle.bk_machine.proofs.Bytes.{byte-weighs, byte-fits, byte-bounded, filled-more}
use Rattle.bk_machine.proofs.packing.add_byte.Goals as goal

-- the last word, as it is read
read_last : (words : List ℕ) (count word : ℕ) → count ≡ length words → 0 < length words → word ≡ get_or words (count - 1) word
    → word ≡ get_or words (length words - 1) 0
read_last words count word counted some read =
    get_or_read words (count - 1) word (omega arith) read 0 ∙ ap (λ n. get_or words (n - 1) 0) counted

pub overflow_mul-weight : goal.overflow_mul-weight
overflow_mul-weight c = rw (c.weight.ensures, c.from.ensures) (omega (arith, byte-weighs c.args.filled c.args.byte (omega arith) (omega arith)))

pub overflow_add-index_mut : goal.overflow_add-index_mut
overflow_add-index_mut c =
    let words = c.args.words.now in
    let read = read_last words.items c.len-last.result c.index_mut.result.now (omega (arith, words.ok.0)) (c.requires.filled.last c.requires.goes_on) c.index_mut.ensures.value in
    let fits = byte-fits c.args.filled c.args.byte c.index_mut.result.now (omega arith) (omega arith) (rw read (c.requires.filled.small c.requires.goes_on)) in
    rw (c.weight.ensures, c.from.ensures) (omega (arith, fits, byte-bounded c.args.filled (omega arith)))

pub returns-clause-filled : goal.returns-clause-filled
returns-clause-filled c =
    let words = c.args.words.now in
    let counted : c.len-last.result ≡ length words.items = omega (arith, words.ok.0) in
    let read = read_last words.items c.len-last.result c.index_mut.result.now counted (c.requires.filled.last c.requires.goes_on) c.index_mut.ensures.value in
    let some : c.args.filled ≢ 0 = omega arith in
    filled-more words.items _ c.args.filled c.args.byte c.requires.filled some (omega arith)
    (ap (λ n. set words.items (n - 1) (c.index_mut.result.now + c.weight.result * c.from.result)) counted
    ∙ ap (λ n. set words.items (length words.items - 1) (n + c.weight.result * c.from.result)) read
    ∙ ap (λ n. set words.items (length words.items - 1) (get_or words.items (length words.items - 1) 0 + n * c.from.result)) c.weight.ensures
    ∙ ap (λ n. set words.items (length words.items - 1) (get_or words.items (length words.items - 1) 0 + 2 ^ (8 * c.args.filled) * n)) c.from.ensures)
