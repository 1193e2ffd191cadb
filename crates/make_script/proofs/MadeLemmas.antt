-- The text that is made, round after round, is that of the made script.
use Rattle.script_spec.specs.Lines.{text_of_lines, lines_of}
use Rattle.std.proofs.Common.{Result, OnOk, ◌+◌, add-one, ℕ, zero, suc, ◌≡◌, ◌*◌, ◌%◌, ◌/◌, ◌<◌, ◌≤◌, true, false, List}
use Rattle.std.proofs.Common.{[], ◌∷◌, ◌++◌, length, map, Some, None, refl, sym, ap, ◌∙◌, inl, inr, append_assoc}
use Rattle.std.proofs.Common.{append-nil, arith, codes}
use Rattle.board_prelude.proofs.{flat_map-append, nat_tests, find, list_all, digits, and_from, map-append}
use Rattle.board_prelude.proofs.{length-append, All-nil, All-cons, length-map-range_with_len, IsRomSize, IsDisk}
use Rattle.board_prelude.proofs.{MemoryBase, IoBase, line_feed, event_text}
use Rattle.board_prelude.specs.{Statement}
use Rattle.std.proofs.lemmas.List.Folds.{list_all-append}
use Rattle.std.proofs.lemmas.List.Sorted.{IsPermutation-reverse}
use Rattle.script_spec.specs.Grammar.{Item, SetCpus, SetMemory, SetRom, SetDisk, FitCard, BeginPhase, Ask, IsBaseForm}
use Rattle.script_spec.specs.Grammar.{IsForm, Says, item_text}
use Rattle.script_spec.specs.Reasons.{is_cpus, is_memory, is_rom, is_disk, cards_of, lacks_setup, least_reason}
use Rattle.script_spec.specs.ScriptText.{most_bytes, is_skipped, IsGoodLine, AreRead, IsSaidBy}
use Rattle.script_spec.proofs.Digits.{lacks}
use Rattle.script_spec.proofs.RangeLaws.{scripts_are_in_range}
use Rattle.make_script.specs.MakeText.{setup_lines, opening_lines, round_lines, lines_of_rounds, make_lines, make_text}
use Rattle.make_script.specs.MadeScript.{asks, opening_events, round_statements, statements_of_rounds, made_statements}
use Rattle.make_script.specs.MadeScript.{vga_card, plain_card, made_script}
use Rattle.make_script.specs.Images.{rom_image, disk_image}
use Rattle.make_script.specs.Laws.{MakeTextIsScript, MadeIsInRange, StatementCount, MadeSetupFits}
use Rattle.make_script.proofs.AskedLemmas.{lines-back, said, said-lines, AreAsked, items_asked, asks-read, asked-keeps}
use Rattle.make_script.proofs.AskedLemmas.{asked-run, made-fine}

-- ---- the text of one round more

pub text-append : (front more : List (List ℕ))
    → text_of_lines (front ++ more) ≡ text_of_lines front ++ text_of_lines more
text-append front more = flat_map-append (λ line. line ++ line_feed ∷ []) front more

-- with round i the text is that of one round more
pub text-more : (i : ℕ) (text new : List ℕ) → text ≡ text_of_lines (make_lines i) →
    new ≡ text ++ text_of_lines (round_lines i) → new ≡ text_of_lines (make_lines (i + 1))
unfolding lines_of_rounds
text-more i text new so_far round = rw (round, so_far, add-one) (simp (text-append, append_assoc))

-- ---- one round, in four pieces

-- three pieces, and a last one that may not come
pub appended_pieces : {T E : Type 0} (r : Result T E) (old a b c rest one two three new whole : List ℕ) →
    one ≡ old ++ a → two ≡ one ++ b → three ≡ two ++ c → OnOk r (new ≡ three ++ rest) →
    whole ≡ a ++ (b ++ (c ++ rest)) → OnOk r (new ≡ old ++ whole)
appended_pieces r old a b c rest one two three new whole first second third last pieces =
    grind (arith, nat_tests, append_assoc)

-- ---- each line is that of its statement

opening-said : opening_lines ≡ map said (map (asks 0) opening_events)
unfolding opening_lines opening_events digits item_text event_text
opening-said = refl

round-said : (i : ℕ) → round_lines i ≡ map said (round_statements i)
unfolding round_lines round_statements digits item_text event_text
round-said i = refl

rounds-said : (n : ℕ) → lines_of_rounds n ≡ map said (statements_of_rounds n)
unfolding lines_of_rounds statements_of_rounds
rounds-said zero = refl
rounds-said (suc i) = simp (said, round-said, map-append, rounds-said i)

made-lines : (n : ℕ) → make_lines n ≡ setup_lines ++ map said (made_statements n)
made-lines n = simp (append_assoc, opening-said, said, rounds-said, map-append)

setup-lines : list_all (λ line. lacks line_feed line) setup_lines ≡ true
unfolding setup_lines
setup-lines = refl

made-back : (n : ℕ) → lines_of (make_text n) ≡ setup_lines ++ map said (made_statements n)
unfolding make_text
made-back n = simp (said, made-lines, lines-back, list_all-append, and_from, setup-lines, said-lines)

-- ---- the setup

-- the lines of the setup after the first
abbrev after_first : List (List ℕ) → List (List ℕ)
after_first later =
    codes "cpus 2" ∷ codes "memory 16" ∷ codes "rom make.rom" ∷ codes "disk make.disk" ∷ codes "card 2 vga m20"
    ∷ codes "card 3 plain m12 i4" ∷ codes "phase" ∷ later

abbrev setup_items : List Item
setup_items =
    BeginPhase ∷ FitCard plain_card ∷ FitCard vga_card ∷ SetDisk (codes "make.disk") ∷ SetRom (codes "make.rom")
    ∷ SetMemory 16 ∷ SetCpus 2 ∷ []

setup-asked : AreAsked 0 setup_items
setup-asked = grind (arith, nat_tests)

-- a setup line whose item is known
good : (before : List Item) (line : List ℕ) (item : Item) → length line ≤ most_bytes → is_skipped line ≡ false
    → IsForm 1 item → Says line item → least_reason before item ≡ None → IsGoodLine 1 before line item
good before line item short read form says none = grind (arith, nat_tests)

setup-read : (later : List (List ℕ)) (items : List Item) → AreRead 1 setup_items later items
    → AreRead 1 [] (after_first later) items
unfolding digits item_text least_reason
setup-read later items read =
    inr (
      SetCpus 2,
      good _ (codes "cpus 2") (SetCpus 2) (omega arith) refl (omega arith) refl refl,
      inr (
        SetMemory 16,
        good _ (codes "memory 16") (SetMemory 16) (omega arith) refl (omega arith) refl refl,
        inr (
          SetRom (codes "make.rom"),
          good _ (codes "rom make.rom") (SetRom (codes "make.rom")) (omega arith) refl
              (record { some = omega arith; few = omega arith; first = refl; each = refl }) refl refl,
          inr (
            SetDisk (codes "make.disk"),
            good _ (codes "disk make.disk") (SetDisk (codes "make.disk")) (omega arith) refl
                (record { some = omega arith; few = omega arith; first = refl; each = refl }) refl refl,
            inr (
              FitCard vga_card,
              good _ (codes "card 2 vga m20") (FitCard vga_card) (omega arith) refl (record {
                dev = omega arith;
                count = omega arith;
                each = All-cons IsBaseForm (MemoryBase 20) [] (omega arith) (All-nil IsBaseForm);
                rom = tt;
              }) refl refl,
              inr (
                FitCard plain_card,
                good _ (codes "card 3 plain m12 i4") (FitCard plain_card) (omega arith) refl (record {
                  dev = omega arith;
                  count = omega arith;
                  each =
                      All-cons IsBaseForm (MemoryBase 12) (IoBase 4 ∷ []) (omega arith)
                      (All-cons IsBaseForm (IoBase 4) [] (omega arith) (All-nil IsBaseForm));
                  rom = tt;
                }) refl refl,
                inr (BeginPhase, good _ (codes "phase") BeginPhase (omega arith) refl tt refl refl, read),
              ),
            ),
          ),
        ),
      ),
    )

-- ---- the whole

rounds-count : (n : ℕ) → length (statements_of_rounds n) ≡ 11 * n
unfolding statements_of_rounds round_statements
rounds-count zero = refl
rounds-count (suc i) = grind (arith, nat_tests, length-append, rounds-count i)

pub statement-count : StatementCount
unfolding opening_events
statement-count n = grind (arith, nat_tests, length-append, rounds-count)

said-by : (n : ℕ) → IsSaidBy (made_script n) (items_asked (made_statements n) setup_items)
unfolding made_script
said-by n =
    let statements : List Statement = made_statements n in
    record {
      cpus = asked-keeps (find is_cpus) statements setup_items (λ s items. refl);
      memory = asked-keeps (find is_memory) statements setup_items (λ s items. refl);
      rom = asked-keeps (find is_rom) statements setup_items (λ s items. refl);
      disk = asked-keeps (find is_disk) statements setup_items (λ s items. refl);
      cards =
          rw (asked-keeps cards_of statements setup_items (λ s items. refl))
          (IsPermutation-reverse (plain_card ∷ vga_card ∷ []));
      rises = (
        All-cons (λ other. 2 < other.dev) plain_card [] (omega arith) (All-nil (λ other. 2 < other.dev)),
        (All-nil (λ other. 3 < other.dev), tt),
      );
      phases =
          asked-run statements setup_items
          ∙ ap (λ (items : List Item). BeginPhase ∷ items) (sym (append-nil (map Ask statements)));
    }

pub make-text-is-script : MakeTextIsScript
unfolding made_script setup_lines digits
make-text-is-script n few =
    let statements : List Statement = made_statements n in
    let items : List Item = items_asked statements setup_items in
    record {
      version = inl refl;
      later = after_first (map said statements);
      lines = made-back n;
      items = items;
      read =
          setup-read (map said statements) items
          (asks-read statements 0 setup_items setup-asked (made-fine n (omega (arith, few)))
          (omega (arith, few, statement-count n)));
      whole = asked-keeps lacks_setup statements setup_items (λ s items. refl);
      said = said-by n;
    }

pub made-is-in-range : MadeIsInRange
made-is-in-range n few = scripts_are_in_range (make_text n) (made_script n) (make-text-is-script n few)

-- ---- the board that it is for

rom-fits : IsRomSize (length rom_image)
unfolding rom_image
rom-fits = inl (length-map-range_with_len (λ offset. offset % 256) 0 0x1_0000)

disk-fits : IsDisk (Some disk_image)
unfolding disk_image
disk-fits = (64, omega arith, omega arith, length-map-range_with_len (λ offset. offset / 512) 0 (64 * 512))

pub made-setup-fits : MadeSetupFits
unfolding made_script
made-setup-fits = grind (arith, nat_tests, (made-is-in-range 0 (omega arith)).cards, rom-fits, disk-fits)
