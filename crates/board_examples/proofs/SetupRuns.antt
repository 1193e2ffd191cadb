-- The borders of setups and events, from the definitions, and what a script may ask for at most. No list of so many
-- items is computed: what is counted in one is counted for each length.
use Rattle.std.proofs.Common.{refl, arith, rules, ℕ, zero, suc, ◌≡◌, ◌+◌, ◌*◌, Bool, true, false, ◌||◌, nat_lt, List}
use Rattle.std.proofs.Common.{◌∷◌, length, filter, sum_by, ap, ◌∙◌}
use Rattle.board_prelude.proofs.{All-nil, All-cons, All-head, weekday_of, days_since_1980, days_of_years}
use Rattle.board_prelude.proofs.{days_of_months, list_any, sum_by-cons, Ack, Pulses, memory_of_cards, most_statements}
use Rattle.board_prelude.proofs.{most_phases, most_pulses, most_card_memory}
use Rattle.board_examples.specs.Setups.{SetupBorders}
use Rattle.std.proofs.lemmas.List.Elements.{All-from_recursion}
use Rattle.board_examples.proofs.Histories.{rom_size}
use Rattle.board_examples.specs.Events.{AccessBorders, WideBorders, OutsideBorders, MomentBorders, StatementBorders}
use Rattle.board_examples.specs.Limits.{AreaBorders, asks, after_so_many, after_statements, after_phases}
use Rattle.board_examples.specs.Limits.{after_millions, AmountBorders}
use Rattle.script_spec.specs.Grammar.{Item, BeginPhase}
use Rattle.script_spec.specs.Reasons.{is_phase, is_statement, is_cpus_above, cards_of, is_in_range, pulses_of}
use Rattle.script_spec.specs.Reasons.{least_reason}
use Rattle.script_spec.proofs.LeastReasons.{first_of}
use Rattle.std.proofs.lemmas.Bool.Decides.{nat_tests}

pub setup_borders : SetupBorders
setup_borders = record {
  memory = grind (arith, All-nil, rom_size);
  rom = grind arith;
  disk = record {
    one = (1, omega arith, omega arith, refl);
    none = grind arith;
    less = grind arith;
    part = grind arith;
    most = (65_536, omega arith, omega arith, refl);
    more = grind arith;
  };
  base = grind arith;
  card = record {
    first = grind (arith, All-nil);
    before = grind arith;
    last = search (rules, arith, All-from_recursion);
    past = grind arith;
    bases = grind arith;
    base = grind (arith, All-head);
    rom = grind arith;
  };
  cards = record {
    all = search (rules, arith, All-nil, All-from_recursion);
    nine = grind arith;
    twice = grind (arith, All-head);
    falling = grind (arith, All-head);
  };
  windows = grind (arith, All-nil, All-cons, rom_size);
  amounts = search rules;
}

pub borders : AccessBorders × WideBorders × OutsideBorders × MomentBorders × StatementBorders × AreaBorders
unfolding weekday_of days_since_1980 days_of_years days_of_months
borders = grind arith

-- ---- what is counted

-- a phase has begun, processor 0 is there, and so many statements and phases stand there
record Has (items : List Item) (statements phases pulses : ℕ) : Type 0 where
  open_phase : list_any is_phase items ≡ true
  cpus : list_any (is_cpus_above 0) items ≡ true
  asked : length (filter is_statement items) ≡ statements
  phased : length (filter is_phase items) ≡ phases
  pulsed : sum_by pulses_of items ≡ pulses
  bare : memory_of_cards (cards_of items) ≡ 0

-- an item more
pulses_more : (items : List Item) (item : Item) (pulses : ℕ) → sum_by pulses_of items ≡ pulses →
    sum_by pulses_of (item ∷ items) ≡ pulses_of item + pulses
pulses_more items item pulses is = sum_by-cons pulses_of item items ∙ ap (λ (n : ℕ). pulses_of item + n) is

acks : (count : ℕ) → Has (after_so_many count (asks Ack)) count 1 0
acks zero = search rules
acks (suc count) = let has = acks count in grind (arith, sum_by-cons)

all_phases : (count : ℕ) → Has (after_so_many count BeginPhase) 0 (count + 1) 0
all_phases zero = search rules
all_phases (suc count) = let has = all_phases count in grind (arith, sum_by-cons)

abbrev a_million : Item
a_million = asks (Pulses 1_000_000)

millions : (count : ℕ) → Has (after_so_many count a_million) count 1 (1_000_000 * count)
millions zero = search rules
millions (suc count) =
    let has = millions count in grind (arith, pulses_more (after_so_many count a_million) a_million _ has.pulsed)

-- ---- the least reason

abbrev past : (statements phases pulses : ℕ) → Bool
past statements phases pulses =
    nat_lt most_statements statements || nat_lt most_phases phases || nat_lt most_pulses pulses
    || nat_lt most_card_memory 0

statements : (count : ℕ) → after_statements count ≡ first_of false false false false false false (past (suc count) 1 0)
unfolding after_statements least_reason
statements count =
    let has = acks count in
    let more = acks (suc count) in
    simp (has.open_phase, has.cpus, has.asked, has.phased, more.pulsed, has.bare)

phases : (count : ℕ) → after_phases count ≡ first_of false false false false false false (past 0 (suc (count + 1)) 0)
unfolding after_phases least_reason
phases count =
    let has = all_phases count in
    let more = all_phases (suc count) in
    simp (has.open_phase, has.asked, has.phased, more.pulsed, has.bare)

-- so many millions, and then these
with_pulses : (count pulses : ℕ) →
    Has (asks (Pulses pulses) ∷ after_so_many count a_million) (suc count) 1 (pulses + 1_000_000 * count)
with_pulses count pulses =
    let has = millions count in
    grind (arith, pulses_more (after_so_many count a_million) (asks (Pulses pulses)) _ has.pulsed)

pulses : (count more : ℕ) → is_in_range (asks (Pulses more)) ≡ true →
    after_millions count more
    ≡ first_of false false false false false false (past (suc count) 1 (more + 1_000_000 * count))
unfolding after_millions least_reason
pulses count more good =
    let has = millions count in
    let more = with_pulses count more in
    simp (has.open_phase, has.cpus, has.asked, has.phased, more.pulsed, has.bare, good)

pub amount_borders : AmountBorders
amount_borders = grind (arith, nat_tests, statements, phases, pulses)
