-- The register bytes that a chipset holds, whether or not a history left it so, and what accesses reach by them.
use Rattle.std.specs.Prelude.{ℕ, ◌≡◌, if◌then◌else◌, Option, Some, None, is_some, map}
use Rattle.board_prelude.specs.{Bytes, Setup, Event, Memory, Wide, Port, Ack, PortAccess, Part, Parts, Device, Dev}
use Rattle.board_prelude.specs.{Reply, Bus, IsSpan, IsSeen, is_write, WideAccess, parts_list, parts_of, port_target_of}
use Rattle.board_prelude.specs.{answers_outside, outside_answer}
use Rattle.board_base.specs.declared.access.Access.{Access}
use Rattle.board_spec.specs.declared.event.Event.TheVariants.{Look as LookAt}
use Rattle.board_spec.specs.declared.event.Reply.TheVariants.{Parts as InParts}
use Rattle.addr_decode.specs.MapRegs.{StandsFor}
use Rattle.config_regs.specs.Config.{AreKeptOf}
use Rattle.board_stores.specs.declared.stores.Stores.{Stores}
use Rattle.board_stores.specs.Targets.{part_in}
use Rattle.board_stores.specs.Values.{value_with}
use Rattle.board_chipset.specs.declared.bus_reply.BusReply.{BusReply}
use Rattle.board_chipset.specs.Chipset.{Running}

-- its registers on which the memory map depends are those of a board with these bytes: each history's that left it
-- so, and some where none did
abbrev pub HoldsBytes : Running → Bytes → Type 0
HoldsBytes chipset bytes = StandsFor chipset.setup bytes chipset.state.registers.map.regs

-- and so are all others that it keeps in configuration space
abbrev pub HoldsRegisters : Running → Bytes → Type 0
HoldsRegisters chipset bytes =
    AreKeptOf chipset.setup bytes chipset.state.registers.map.regs chipset.state.registers.south

-- ---- where an access of one bus cycle lands

-- at a port, with this configuration address
abbrev pub port_part_in : Setup → Bytes → (address : ℕ) → PortAccess → Part
port_part_in setup bytes address access = record {
  target = (port_target_of setup bytes address (is_some setup.disk) access.port access.width).target;
  denial = (port_target_of setup bytes address (is_some setup.disk) access.port access.width).denial;
}

abbrev pub held_port : Running → Bytes → PortAccess → Part
held_port chipset bytes access = port_part_in chipset.setup bytes chipset.state.registers.address access

-- what would answer an access to memory or to a port, and what would deny it. Other events are no accesses of one cycle
abbrev pub held_place : Running → Bytes → Event → Option Part
held_place chipset bytes (Memory access) = Some (part_in chipset.setup bytes access)
held_place chipset bytes (Port access) = Some (held_port chipset bytes access)
held_place chipset bytes _ = None

-- ---- what a reply says of it

-- the reply to an access to memory, by the bytes that the stores have
abbrev pub memory_reply_in : Stores → Setup → Bytes → Access → Reply
memory_reply_in stores setup bytes access =
    Bus
    (if is_write access.kind then None
    else Some (value_with stores setup.rom (part_in setup bytes access).target access.addr access.width))
    (part_in setup bytes access).target (part_in setup bytes access).denial

abbrev pub part_told : BusReply → Part
part_told said = record { target = said.target; denial = said.denial }

abbrev pub IsBus : (Option ℕ → Part → Type 0) → Reply → Type 0
IsBus P (Bus value target denial) = P value (record { target = target; denial = denial })
IsBus P _ = ⊥

abbrev pub AreInParts : (Parts → Type 0) → Reply → Type 0
AreInParts P (InParts parts value) = P parts
AreInParts P _ = ⊥

-- the parts of a wide access land so
abbrev pub ArePartsIn : Setup → Bytes → WideAccess → Parts → Type 0
ArePartsIn setup bytes access parts = parts_list parts ≡ map (part_in setup bytes) (parts_of access)

-- an acknowledge is answered by a device; and what happens outside the bus by the one that it is for
abbrev pub IsByDevice : Event → Reply → Type 0
IsByDevice Ack reply = IsBus (λ value part. (dev : Dev) × (part ≡ record { target = Device dev; denial = None })) reply
IsByDevice event reply = reply ≡ outside_answer (answers_outside event)

-- A reply says what answered and what denied it by these register bytes. To an access to memory of one bus cycle it is
-- the one reply; a look tells the span of their map.
abbrev pub IsHeldReply : Running → Bytes → Event → Reply → Type 0
IsHeldReply chipset bytes (Memory access) reply =
    reply ≡ memory_reply_in chipset.state.stores chipset.setup bytes access
IsHeldReply chipset bytes (Wide access) reply = AreInParts (ArePartsIn chipset.setup bytes access) reply
IsHeldReply chipset bytes (Port access) reply = IsBus (λ value part. part ≡ held_port chipset bytes access) reply
IsHeldReply chipset bytes (LookAt kind addr smm) reply =
    IsSeen
    (λ look. IsSpan chipset.setup bytes addr kind smm look.lo look.hi look.area ×
    (look.version ≡ chipset.state.registers.map.version)) reply
IsHeldReply chipset bytes event reply = IsByDevice event reply
