-- The bytes of a board in three: those before the DRAM's, these, and those after them.
use Rattle.std.proofs.Common.{◌≡◌, ℕ, ◌+◌, Bool, List, [], ◌∷◌, ◌++◌, length, take, drop, replicate, Result, Ok, Err}
use Rattle.std.proofs.Common.{OnOk, true, ◌*◌, refl, sym, ap, ◌∙◌, append_assoc, arith}
use Rattle.board_prelude.proofs.{take_at, drop_at, Setup}
use Rattle.pit_8254.proofs.Saved.{joined}
use Rattle.byte_fields.specs.Fields.{flag_byte}
use Rattle.byte_fields.specs.Pages.{memory_page}
use Rattle.byte_fields.proofs.PageFormats.{memory_zeros}
use Rattle.dram_store.specs.State.{HasMib, dram_bytes}
use Rattle.machine.specs.Fitted.{fitting_bytes}
use Rattle.machine.specs.Setups.{disk_unless_left}
use Rattle.board_chipset.specs.Given.{disk_left, zeros}
use Rattle.board_chipset.proofs.LeftBytes.{left_head}
use Rattle.machine.specs.Given.{on_board, without}
use Rattle.board_chipset.specs.Around.{after_dram, before_dram}
use Rattle.board_chipset.specs.Chipset.{Running}
use Rattle.board_chipset.proofs.AroundDram.{between}
use Rattle.uart_16550.specs.Serial.{Serial}
use Rattle.uart_16550.specs.State.{com1_bytes, uart_bytes}
use Rattle.uart_16550.specs.Uart.{Uart}
use Rattle.machine.specs.Room.{IsPutAt}
use Rattle.machine.proofs.Puts.{put_then}
use Rattle.machine.specs.Machines.{Saved}
use Rattle.machine.specs.Images.{IsWritten, after_bytes, before_bytes, image_bytes, with_dram}
use Rattle.std.proofs.lemmas.Bool.Decides.{nat_tests}

-- the DRAM's bytes stand between the others
pub image_with : (saved : Saved) (bytes : List ℕ) (at : ℕ) → at ≡ length (before_bytes saved) →
    bytes ≡ before_bytes saved ++ after_bytes saved →
    with_dram bytes at saved.serial.board.state.stores.dram ≡ image_bytes saved
image_with saved bytes at is whole = grind (arith, nat_tests, take_at, drop_at, between, append_assoc)

-- the bytes in three
pub image_split : (saved : Saved) →
    image_bytes saved ≡ before_bytes saved ++ (dram_bytes saved.serial.board.state.stores.dram ++ after_bytes saved)
image_split saved =
    let front : List ℕ = before_bytes saved in
    let rest : List ℕ = after_bytes saved in
    sym (image_with saved (front ++ rest) (length front) refl refl)
    ∙ rw (take_at front rest (length front) refl, drop_at front rest (length front) refl) refl

-- the same of what was added to no bytes
pub image_around : (saved : Saved) (none front bytes : List ℕ) (at : ℕ) → none ≡ [] →
    front ≡ none ++ before_bytes saved → at ≡ length front → bytes ≡ front ++ after_bytes saved →
    with_dram bytes at saved.serial.board.state.stores.dram ≡ image_bytes saved
image_around saved none front bytes at empty first is second =
    let begins : front ≡ before_bytes saved = rw empty at first in
    image_with saved bytes at (is ∙ ap length begins) (rw begins at second)

-- what was added after the DRAM
pub after_added : {T E : Type 0} (result : Result T E) (serial : Serial Running) (board : Running) (level : Bool)
    (uart : Uart) (left : Bool) (old one two new : List ℕ) → board ≡ serial.board →
    one ≡ old ++ after_dram (disk_left left board) → level ≡ serial.com1.script_level →
    two ≡ one ++ flag_byte level ∷ [] → uart ≡ serial.com1.uart → OnOk result (new ≡ two ++ uart_bytes uart) →
    OnOk result (new ≡ old ++ (after_dram (disk_left left serial.board) ++ com1_bytes serial.com1))
after_added result serial board level uart left old one two new of_board first of_level second of_uart third =
    joined result old one new (after_dram (disk_left left serial.board)) (com1_bytes serial.com1)
    (rw of_board at first)
    (joined result one two new (flag_byte serial.com1.script_level ∷ []) (uart_bytes serial.com1.uart)
    (rw of_level at second) (rw of_uart at third))

-- what was added before the DRAM
pub before_added :
    {T E : Type 0} (result : Result T E) (left : Bool) (saved : Saved) (board : Running) (setup : Setup)
    (old mid new : List ℕ) → board ≡ saved.serial.board → setup ≡ saved.serial.board.setup →
    mid ≡ old ++ fitting_bytes (record { setup = disk_unless_left left setup; identities = saved.identities }) →
    OnOk result (new ≡ mid ++ before_dram board) →
    OnOk result (new ≡ old ++ before_bytes (on_board (disk_left left) saved))
before_added (Ok value) left saved board setup old mid new of_board of_setup first second =
    second
    ∙ rw (first, of_setup, of_board) (simp (append_assoc, left_head left saved.serial.board.setup))
before_added (Err fault) left saved board setup old mid new of_board of_setup first second = tt

-- zeros were added in the place of the DRAM's bytes
pub blank_image :
    (disk : Bool) (saved : Saved) (none one two three : List ℕ) →
    HasMib saved.serial.board.setup.mib saved.serial.board.state.stores.dram → none ≡ [] →
    one ≡ none ++ before_bytes (on_board (disk_left disk) saved) →
    two ≡ one ++ replicate (saved.serial.board.setup.mib * 256) 0 →
    three ≡ two ++ after_bytes (on_board (disk_left disk) saved) →
    three ≡ image_bytes (without (record { dram = true; disk = disk }) saved)
blank_image disk saved none one two three mib empty first second third =
    let dram : List ℕ = saved.serial.board.state.stores.dram in
    let pages : ℕ = saved.serial.board.setup.mib * 256 in
    let whole : length dram ≡ pages * memory_page = omega (arith, mib) in
    let blank : dram_bytes (zeros dram) ≡ replicate pages 0 = rw whole (memory_zeros pages) in
    let all : Saved = without (record { dram = true; disk = disk }) saved in
    rw (third, second, first, empty, image_split all, blank)
    (append_assoc (before_bytes all) (replicate pages 0) (after_bytes all))

-- those before, the DRAM's, and those after, one behind another from the front of the room on
pub written_in_three : (bytes dram last room one two three : List ℕ) (at start end : ℕ) →
    IsPutAt 0 (take at bytes) room one → start ≡ length (take at bytes) → IsPutAt start (dram_bytes dram) one two →
    end ≡ start + length (dram_bytes dram) → IsPutAt end last two three → last ≡ drop at bytes →
    IsWritten (with_dram bytes at dram) room three
written_in_three bytes dram last room one two three at start end first starts second ends third is =
    let all : List ℕ = with_dram bytes at dram in
    let put : IsPutAt 0 all room three =
    put_then 0 _ _ _ _ _ _ _ first (omega (arith, starts)) (put_then _ _ _ _ _ _ _ _ second ends third (rw is refl))
    refl in
    record { fits = omega (arith, put.fits); written = put.put ∙ ap (λ (n : ℕ). all ++ drop n room) (omega arith) }
