-- A program whose procedures are laid, and that holds what lasts, does what its sections mean.
use Rattle.bk_simulation.proofs.Forms.{Codes, BaseOf, Setting, Simulates, Procedures, named_there, KnowsLibrary, calls_of, NoStart, HasStart, called_at, does_from, first_store, start_there, library_word, HoldsLasting, ◌≡◌, ℕ, ◌<◌, ◌^◌, List, Some, refl, ap, ◌∙◌, ⊎_elim, FRAME_WORDS, Declarations, option_map, number_in, Program, first_state, procedure, stop, program_of, means, meaning, IsWellPlaced, library_routine, DoesFrom, StartsSo, with_start, without_start}
use Rattle.bk_meaning.specs.Values as value
use Rattle.bk_simulation.proofs.All.{alone_runs, alone_adds, simulates}

-- where the sections are laid, with what a step pays and so many frames
abbrev pub setting : (program : Program) (first : ℕ) → IsWellPlaced program first FRAME_WORDS → (codes : Codes) (pay cap : ℕ) (lasting : List ℕ) → ((o base : ℕ) → BaseOf lasting o base → base < 2 ^ 32) → BaseOf lasting 0 16 → Setting
setting program first well codes pay most lasting low vector = record { program = program; first = first; well = well; codes = codes; pay = pay; cap = most; lasting = lasting; lasting_low = low; vector = vector }

-- the sections are laid in the program
pub record AreLaid (program : Program) (first : ℕ) (well : IsWellPlaced program first FRAME_WORDS) (sections : List Declarations) : Type 0 where
  pub codes : Codes
  pub lasting : List ℕ
  pub low : (o base : ℕ) → BaseOf lasting o base → base < 2 ^ 32
  pub pay : ℕ
  pub library : (r : value.Routine) → codes.routine r ≡ library_word r
  pub holds : HoldsLasting program first codes lasting (program_of sections)
  pub vector : BaseOf lasting 0 16
  pub procedures : (cap : ℕ) → Procedures (setting program first well codes pay cap lasting low vector) (program_of sections)

pub knows : (setting : Setting) → ((r : value.Routine) → setting.codes.routine r ≡ library_word r) → KnowsLibrary setting
knows setting is r = ap (λ w. setting.program.callables.routine w) (is r) ∙ setting.well.routines (library_word r) ∙ by_routine r
  where
    by_routine : (r : value.Routine) → library_routine (library_word r) ≡ Some (named_there r)
    by_routine stop = refl
    by_routine _ = refl

pub laid_does : (sections : List Declarations) (program : Program) (first n : ℕ) (input : List ℕ) (well : IsWellPlaced program first FRAME_WORDS) → AreLaid program first well sections
    → DoesFrom program first n (first_state program first input) (meaning sections input n)
laid_does sections program first n input well laid =
    let g : Setting = setting program first well laid.codes laid.pay (calls_of (meaning sections input n)) laid.lasting laid.low laid.vector in
    let p = program_of sections in
    let procs : Procedures g p = laid.procedures (calls_of (meaning sections input n)) in
    let sim : Simulates g (means p n) = simulates g p procs (knows g laid.library) n in
    does_from g p n input sim (alone_runs g (means p n) sim) (alone_adds g (means p n) sim) procs (first_store g _ laid.holds laid.library) (start_there g _ laid.holds laid.library) refl

-- global 1 can be read where there is a first state, and not where there is none
pub starts_with_their_source : (sections : List Declarations) (program : Program) (first : ℕ) (input : List ℕ) (well : IsWellPlaced program first FRAME_WORDS) → AreLaid program first well sections → StartsSo program first input sections
starts_with_their_source sections program first input well laid =
    let g : Setting = setting program first well laid.codes laid.pay 0 laid.lasting laid.low laid.vector in
    ⊎_elim
    (λ (x : NoStart g (program_of sections)). without_start (ap (λ c. option_map (called_at g input) (number_in c)) x.word) x.is)
    (λ (x : HasStart g (program_of sections)). with_start (called_at g input (laid.codes.procedure x.number)) (procedure x.number) (ap (λ c. option_map (called_at g input) (number_in c)) x.word) x.is)
    (start_there g _ laid.holds laid.library)
