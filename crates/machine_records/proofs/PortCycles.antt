-- The cycles of an access at ports, one after another: no board refuses one, and each goes on where the last one ended.
use Rattle.std.proofs.Common.{◌≡◌, ℕ, zero, suc, ◌+◌, ◌-◌, ◌*◌, ◌/◌, ◌%◌, ◌^◌, ◌<◌, ◌≤◌, ◌≢◌, false, if◌then◌else◌, []}
use Rattle.std.proofs.Common.{◌∷◌, Option, Some, refl, ap, subst, ◌∙◌, arith}
use Rattle.std.proofs.Math.Nat.{mod-lt, mod-eq_of_lt, mul_comm, mul-one, mul-add, mul-le-mul_left, one-le-pow}
use Rattle.std.proofs.Math.Nat.{pow-le-pow_right}
use Rattle.board_prelude.proofs.{nat_tests, Kind, Width, WideAccess, PortAccess, Setup, Port, bytes_of, is_write}
use Rattle.board_prelude.proofs.{longest_at, part_at, parts_from, parts_of, some_bytes, pow-add, ne_eqb, IsBusAccess}
use Rattle.board_spec.specs.InRange.{FitsAccess}
use Rattle.board_chipset.specs.declared.in_range.OutOfRange.{OutOfRange}
use Rattle.board_chipset.specs.declared.in_range.OutOfRange.TheVariants.{Alignment, Value}
use Rattle.board_chipset.specs.OutOfRange.{IsFault}
use Rattle.uart_16550.specs.declared.com1.Happening.{Happening}
use Rattle.uart_16550.specs.declared.com1.Happening.TheVariants.{Happens}
use Rattle.machine.specs.Machines.{MachineState}
use Rattle.machine_records.specs.declared.event.EventRecord.{EventRecord}
use Rattle.machine_records.specs.declared.reply.ReplyRecord.{ReplyRecord}
use Rattle.machine_records.specs.Events.{asked_said, event_said, asked_by, width_said, direction_said, port_said}
use Rattle.machine_records.specs.Numbers.{read_kind, write_kind}
use Rattle.machine_records.specs.PortAccesses.{AreCycles, cycle_record, joined_reply, port_status}
use Rattle.machine_records.specs.Statuses.{IsEventRefusal, bad_handle, ok}
use Rattle.machine_records.specs.Strings.{IsRefused, IsStep, port_record}

-- ---- one cycle

pub byte_power : (n : ℕ) → 2 ^ (8 * n) ≡ 256 ^ n
byte_power zero = refl
byte_power (suc n) =
    let longer : 8 * suc n ≡ 8 + 8 * n = omega arith in
    let one_more : suc n ≡ 1 + n = omega arith in
    rw (longer, pow-add 2 8 (8 * n), byte_power n, one_more, pow-add 256 1 n) refl

pub cycle_within : (addr left : ℕ) → 0 < left → bytes_of (longest_at addr left) ≤ left
cycle_within addr left some = grind (arith, nat_tests)

-- ---- values

-- a bit above so many bytes
pub bit_above : (bytes : ℕ) → bytes ≤ 4 → 1 * 2 ^ (8 * bytes) % 2 ^ 64 ≡ 256 ^ bytes
bit_above bytes few =
    let most : 256 ^ bytes ≤ 256 ^ 4 = pow-le-pow_right (omega arith) few in
    let one : 1 * 2 ^ (8 * bytes) ≡ 256 ^ bytes = omega (arith, byte_power bytes) in
    rw one (mod-eq_of_lt (omega (arith, most)))

-- so many bytes, and above them so many more, of at most four
pub value_fits : (low done high bytes : ℕ) → done + bytes ≤ 4 →
    low % 256 ^ done + 256 ^ done * (high % 256 ^ bytes) < 2 ^ 32
value_fits low done high bytes few =
    let P : ℕ = 256 ^ done in
    let Q : ℕ = 256 ^ bytes in
    let some : (n : ℕ) → 0 < 256 ^ n = λ n. omega (arith, one-le-pow n 256 (omega arith)) in
    let below : low % P < P = mod-lt low (some done) in
    let more : high % Q + 1 ≤ Q = omega (arith, mod-lt high (some bytes)) in
    let whole : P * (high % Q) + P ≤ P * Q =
    omega (arith, mul-le-mul_left P more, mul-add P (high % Q) 1, mul-one P) in
    let most : P * Q ≤ 256 ^ 4 = rw (← pow-add 256 done bytes) (pow-le-pow_right (omega arith) few) in
    omega (arith, below, whole, most)

pub value_above : (done high bytes : ℕ) → done + bytes ≤ 4 →
    high % 256 ^ bytes * 2 ^ (8 * done) % 2 ^ 64 ≡ 256 ^ done * (high % 256 ^ bytes)
value_above done high bytes few =
    let fits = value_fits 0 done high bytes few in
    let turned = mul_comm (high % 256 ^ bytes) (256 ^ done) in
    rw (byte_power done, turned) (mod-eq_of_lt (omega (arith, fits)))

-- ---- what is asked

-- what an access that is in range has
pub record IsInPorts (port bytes value : ℕ) : Type 0 where
  pub few : bytes ≤ 4
  pub ends : port + bytes ≤ 2 ^ 16
  pub fits : value < 2 ^ 32

pub in_ports : (port bytes value : ℕ) → port_status port bytes value ≡ ok → IsInPorts port bytes value
unfolding port_status width_said
in_ports port bytes value is = grind (arith, nat_tests)

-- no status is that of a closed handle
pub never_closed : (port bytes value : ℕ) → port_status port bytes value ≢ bad_handle
unfolding port_status width_said
never_closed port bytes value is = grind (arith, nat_tests)

aligned : (addr left : ℕ) → addr % bytes_of (longest_at addr left) ≡ 0
aligned addr left = grind (arith, nat_tests)

fits : (kind : Kind) (width : Width) (value place : ℕ) → (is_write kind ≡ false → value ≡ 0) →
    FitsAccess (is_write kind) width (value / place % 256 ^ bytes_of width)
fits kind width value place reads = grind (arith, nat_tests)

asked_port : (kind : Kind) (port : ℕ) (width : Width) (value : ℕ) → port < 2 ^ 16 → value < 2 ^ 32 →
    asked_said (port_record (if is_write kind then write_kind else read_kind) port (bytes_of width) value)
    ≡ Some (Happens (Port (record { write = is_write kind; port = port; width = width; value = value })))
unfolding asked_said event_said asked_by width_said direction_said port_said
asked_port kind port width value below small = grind (arith, nat_tests)

no_fault : (access : PortAccess) (setup : Setup) (fault : OutOfRange) →
    IsBusAccess access.write access.port access.width access.value → IsFault setup (Port access) fault → ⊥
no_fault access setup Alignment bus wrong = wrong bus.aligned
no_fault access setup Value bus wrong = wrong.1 bus.fits
no_fault access setup _ bus wrong = absurd wrong

-- no board refuses a cycle
pub never_refused : (access : WideAccess) (done : ℕ) (cycle : EventRecord) →
    port_status access.addr access.bytes access.value ≡ ok → (is_write access.kind ≡ false → access.value ≡ 0) →
    done < access.bytes →
    cycle
    ≡ cycle_record (part_at access (access.addr + done) (longest_at (access.addr + done) (access.bytes - done))) →
    (board : MachineState) (status : ℕ) → IsRefused cycle board status → ⊥
never_refused access done cycle in_range reads within is board status refused =
    let all = in_ports access.addr access.bytes access.value in_range in
    let width = longest_at (access.addr + done) (access.bytes - done) in
    let part = part_at access (access.addr + done) width in
    let value_fits = fits access.kind width access.value (256 ^ (access.addr + done - access.addr)) reads in
    let asked : PortAccess = record { write = is_write part.kind; port = part.addr; width = width; value = part.value } in
    let said = ap asked_said is ∙ asked_port part.kind part.addr width part.value (omega (arith, all.ends, within))
    (grind (arith, nat_tests)) in
    let why = subst (λ (it : Option Happening). IsEventRefusal board.saved.serial it status) said refused in
    no_fault asked board.saved.serial.board.setup why.0
    (record { aligned = aligned (access.addr + done) (access.bytes - done); fits = value_fits }) why.1

-- a cycle moves bytes of the access
pub cycle_bytes : (access : WideAccess) (done : ℕ) (cycle : EventRecord) → done < access.bytes →
    cycle
    ≡ cycle_record (part_at access (access.addr + done) (longest_at (access.addr + done) (access.bytes - done))) →
    (0 < cycle.bytes) × (done + cycle.bytes ≤ access.bytes)
cycle_bytes access done cycle within is =
    let width = longest_at (access.addr + done) (access.bytes - done) in
    let bytes_is : cycle.bytes ≡ bytes_of width = ap (λ (it : EventRecord). it.bytes) is in
    let small = cycle_within (access.addr + done) (access.bytes - done) (omega (arith, within)) in
    (omega (arith, bytes_is, some_bytes width), omega (arith, bytes_is, small, within))

-- ---- one cycle more

-- so many cycles are done, of so many bytes, and with those of the bytes that are left it is the whole access
abbrev pub GoesOn : WideAccess → (index done : ℕ) → MachineState → ReplyRecord → MachineState → ReplyRecord → Type 0
GoesOn access index done old first now reply =
    (most : ℕ) × (access.bytes ≤ most + done) ×
    ((new : MachineState) (told : ReplyRecord) →
    AreCycles (parts_from access most (access.addr + done) (access.bytes - done)) index done now reply new told →
    AreCycles (parts_of access) 0 0 old first new told)

pub none_done : (access : WideAccess) (old : MachineState) (first : ReplyRecord) → access.bytes ≤ 4 →
    GoesOn access 0 0 old first old first
none_done access old first few =
    let addr_is : access.addr + 0 ≡ access.addr = omega arith in
    let left_is : access.bytes - 0 ≡ access.bytes = omega arith in
    (4, omega (arith, few), λ new told rest. rw (addr_is, left_is) at rest)

-- the next cycle, and those of the bytes that are left after it
unrolled : (access : WideAccess) (most addr left : ℕ) → 0 < left →
    parts_from access (suc most) addr left
    ≡ part_at access addr (longest_at addr left)
    ∷ parts_from access most (addr + bytes_of (longest_at addr left)) (left - bytes_of (longest_at addr left))
unfolding parts_from
unrolled access most addr left some = rw (ne_eqb left 0 (omega (arith, some))) refl

none_left : (access : WideAccess) (most addr : ℕ) → parts_from access most addr 0 ≡ []
unfolding parts_from
none_left access zero addr = refl
none_left access (suc most) addr = refl

pub next_cycle : (access : WideAccess) (index done : ℕ) (old : MachineState) (first : ReplyRecord) (now : MachineState)
    (reply : ReplyRecord) (cycle : EventRecord) (new : MachineState) (last : ReplyRecord) → done < access.bytes →
    cycle
    ≡ cycle_record (part_at access (access.addr + done) (longest_at (access.addr + done) (access.bytes - done))) →
    IsStep cycle now new last → GoesOn access index done old first now reply →
    GoesOn access (index + 1) (done + cycle.bytes) old first new (joined_reply index done reply cycle.bytes last)
next_cycle access index done old first now reply cycle new last within is step (zero, enough, on) =
    absurd (omega (arith, within, enough))
next_cycle access index done old first now reply cycle new last within is step (suc most, enough, on) =
    let width = longest_at (access.addr + done) (access.bytes - done) in
    let bytes_is : cycle.bytes ≡ bytes_of width = ap (λ (it : EventRecord). it.bytes) is in
    let addr_is : access.addr + (done + bytes_of width) ≡ access.addr + done + bytes_of width = omega arith in
    let left_is : access.bytes - (done + bytes_of width) ≡ access.bytes - done - bytes_of width = omega arith in
    let some = some_bytes width in
    rw bytes_is (
      most,
      omega (arith, enough, some),
      λ after told rest.
          on after told
          (rw (unrolled access most (access.addr + done) (access.bytes - done) (omega (arith, within)))
          (new, last, subst (λ (it : EventRecord). IsStep it now new last) is step, rw (addr_is, left_is) at rest)),
    )

pub all_done : (access : WideAccess) (index done : ℕ) (old : MachineState) (first : ReplyRecord) (now : MachineState)
    (reply : ReplyRecord) → access.bytes ≤ done → GoesOn access index done old first now reply →
    AreCycles (parts_of access) 0 0 old first now reply
all_done access index done old first now reply all on =
    let none : access.bytes - done ≡ 0 = omega (arith, all) in
    on.2 now reply (rw (none, none_left access on.0 (access.addr + done)) (refl, refl))
