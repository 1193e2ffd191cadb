-- The words that ask for a command are those that a user writes.
use Rattle.std.proofs.Common.{◌≡◌, ℕ, Bool, true, List, [], ◌∷◌, Some, refl, arith, codes, decimal}
use Rattle.std.proofs.lemmas.Bool.Decides.{nat_tests}
use Rattle.script_spec.specs.Numbers.{parse_decimal, parse_hex}
use Rattle.script_spec.proofs.Chains.{by_word, some_is, guarded, then_said, word_is}
use Rattle.script_spec.proofs.NumberTexts.{decimal_read, decimal_back}
use Rattle.command_words.specs.declared.transfer.Transfer.{Transfer}
use Rattle.command_words.specs.Words.{Command, Replay, Run, Map, Check, Make, Dma, Save, Resume, Serial, Blame}
use Rattle.command_words.specs.Words.{IsTransfer, IsCommand, direction_word, AreWordsOf, with_name, with_names, make_of}
use Rattle.command_words.specs.Words.{is_transfer, direction_of, dma_of, command_of, WordsDecide, OneCommand}

abbrev Asks : List (List ℕ) → Command → Type 0
Asks words command = IsCommand command × AreWordsOf words command

-- ---- the words of a verb

-- with the name of one file, and with those of two
one_read : (verb : List ℕ) (named : List ℕ → Command) → ((name : List ℕ) → Asks (verb ∷ name ∷ []) (named name)) →
    (words : List (List ℕ)) (command : Command) → with_name named words ≡ Some command → Asks (verb ∷ words) command
one_read verb named each words command e = grind (arith, nat_tests)

two_read : (verb : List ℕ) (named : List ℕ → List ℕ → Command) →
    ((name other : List ℕ) → Asks (verb ∷ name ∷ other ∷ []) (named name other)) → (words : List (List ℕ))
    (command : Command) → with_names named words ≡ Some command → Asks (verb ∷ words) command
two_read verb named each words command e = grind (arith, nat_tests)

make_read : (words : List (List ℕ)) (command : Command) → make_of words ≡ Some command
    → Asks (codes "make" ∷ words) command
unfolding make_of
make_read words command e = grind (arith, nat_tests, then_said, decimal_read)

transfer_is : (transfer : Transfer) → is_transfer transfer ≡ true → IsTransfer transfer
transfer_is transfer e = grind (arith, nat_tests)

direction_read : (word : List ℕ) (to_memory : Bool) → direction_of word ≡ Some to_memory
    → word ≡ direction_word to_memory
unfolding direction_of
direction_read word to_memory e = grind (arith, nat_tests, word_is)

dma_read : (words : List (List ℕ)) (command : Command) → dma_of words ≡ Some command
    → Asks (codes "dma" ∷ words) command
unfolding dma_of
dma_read (script ∷ direction ∷ table ∷ lba ∷ count ∷ []) command e =
    let to_memory = then_said (direction_of direction) _ command e in
    let address = then_said (parse_hex 8 table) _ command to_memory.2 in
    let sector = then_said (parse_decimal lba) _ command address.2 in
    let sectors = then_said (parse_decimal count) _ command sector.2 in
    let transfer : Transfer =
    record { to_memory = to_memory.0; table = address.0; lba = sector.0; count = sectors.0 } in
    let is = guarded (is_transfer transfer) (Some (Dma script transfer)) command sectors.2 in
    let first = direction_read direction to_memory.0 to_memory.1 in
    let next = (decimal_read lba sector.0 sector.1).0 in
    let last = (decimal_read count sectors.0 sectors.1).0 in
    rw (← some_is (Dma script transfer) command is.1)
    (transfer_is transfer is.0, (table, address.1, λ i. codes "dma" ∷ script ∷ first i ∷ table ∷ next i ∷ last i ∷ []))
dma_read _ command e = absurd cc

-- ---- the verbs

all_read : (words : List (List ℕ)) (command : Command) → command_of words ≡ Some command → Asks words command
unfolding command_of
all_read [] command e = absurd cc
all_read (verb ∷ words) command e =
    let P : List ℕ → Type 0 = λ v. Asks (v ∷ words) command in
    by_word P verb (codes "replay") _ _ command (one_read (codes "replay") Replay (λ _. (tt, refl)) words command)
    (by_word P verb (codes "run") _ _ command (one_read (codes "run") Run (λ _. (tt, refl)) words command)
    (by_word P verb (codes "map") _ _ command (one_read (codes "map") Map (λ _. (tt, refl)) words command)
    (by_word P verb (codes "check") _ _ command (two_read (codes "check") Check (λ _ _. (tt, refl)) words command)
    (by_word P verb (codes "make") _ _ command (make_read words command)
    (by_word P verb (codes "dma") _ _ command (dma_read words command)
    (by_word P verb (codes "save") _ _ command (one_read (codes "save") Save (λ _. (tt, refl)) words command)
    (by_word P verb (codes "resume") _ _ command (two_read (codes "resume") Resume (λ _ _. (tt, refl)) words command)
    (by_word P verb (codes "serial") _ _ command (two_read (codes "serial") Serial (λ _ _. (tt, refl)) words command)
    (by_word P verb (codes "blame") _ _ command (one_read (codes "blame") Blame (λ _. (tt, refl)) words command)
    (λ none. absurd (cc none))))))))))) e

-- ---- back

made_back : (rounds : ℕ) → IsCommand (Make rounds)
    → command_of (codes "make" ∷ decimal rounds ∷ []) ≡ Some (Make rounds)
unfolding command_of make_of
made_back rounds there = grind (arith, nat_tests, decimal_back)

direction_back : (to_memory : Bool) → direction_of (direction_word to_memory) ≡ Some to_memory
unfolding direction_of
direction_back to_memory = grind (arith, nat_tests)

transfer_back : (transfer : Transfer) → IsTransfer transfer → is_transfer transfer ≡ true
transfer_back transfer there = grind (arith, nat_tests)

dma_back :
    (script digits : List ℕ) (transfer : Transfer) → IsTransfer transfer → parse_hex 8 digits ≡ Some transfer.table →
    dma_of (script ∷ direction_word transfer.to_memory ∷ digits ∷ decimal transfer.lba ∷ decimal transfer.count ∷ [])
    ≡ Some (Dma script transfer)
unfolding dma_of
dma_back script digits transfer there address =
    grind (arith, nat_tests, direction_back, decimal_back, transfer_back)

asked_back : (words : List (List ℕ)) (command : Command) → IsCommand command → AreWordsOf words command →
    command_of words ≡ Some command
unfolding command_of
asked_back words command there is = grind (arith, nat_tests, made_back, dma_back)

pub words_decide : WordsDecide
words_decide = λ words command. (all_read words command, λ asks. asked_back words command asks.0 asks.1)

pub one_command : OneCommand
one_command = λ words command other there there_too asks asks_too.
    cc (asked_back words command there asks, asked_back words other there_too asks_too)
