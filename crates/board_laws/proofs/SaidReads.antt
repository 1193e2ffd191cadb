-- The bytes of memory that a record asks for are those at its address, as many as it says; and each byte that a step
-- reads is the one that a read of that byte alone gives.
use Rattle.board_prelude.proofs.{common_steps, cases_Bool, nat_tests, Kind, Width, WideAccess, Event, Wide, Ack}
use Rattle.board_prelude.proofs.{Stimulus, stimulus_of_code, Target, Denial, Entry, Setup, IsSetup, IsAnswer, Memory}
use Rattle.board_prelude.proofs.{Parts, Reply, byte, memory_target, memory_denial}
use Rattle.std.proofs.Common.{◌≡◌, ℕ, ◌==◌, Bool, false, if◌then◌else◌, Option, Some, None, option_map, option_and_then}
use Rattle.std.proofs.Common.{refl, arith, ◌+◌, ◌<◌, List, sym, ap, subst, ◌∙◌, inl, inr}
use Rattle.board_spec.specs.declared.event.Event.TheVariants.{Look as LookAt}
use Rattle.uart_16550.specs.declared.com1.Happening.TheVariants.{Happens}
use Rattle.machine_records.specs.declared.event.EventRecord.{EventRecord}
use Rattle.machine_records.specs.Events.{access_said, asked_by, asked_said, byte_said, cycle_said, digits_said}
use Rattle.machine_records.specs.Events.{direction_said, event_said, kind_said, moment_said, port_said, stimulus_said}
use Rattle.machine_records.specs.Events.{width_said}
use Rattle.machine_records.specs.Numbers.{ack_event, look_event, memory_event, port_event, time_event}
use Rattle.board_laws.specs.RomReads.{read_by, AreBytes, SaysRead, byte_read}
use Rattle.board_base.specs.declared.access.Access.{Access}
use Rattle.board_spec.specs.Answer.{memory_answer}
use Rattle.board_chipset.specs.Chipset.{Running}
use Rattle.uart_16550.specs.Serial.{Serial}
use Rattle.uart_16550.specs.Com1.{uart_access}
use Rattle.uart_16550.specs.declared.com1.SerialReply.{SerialReply}
use Rattle.uart_16550.specs.declared.com1.SerialReply.TheVariants.{Board as OfBoard, Uart as OfUart}
use Rattle.machine.specs.declared.identity.FittedIdentity.{FittedIdentity}
use Rattle.machine_records.specs.Replies.{AfterStep}
use Rattle.machine_records.specs.Replies.{blank, bus_said, record_said, serial_said, wide_said}
use Rattle.machine_records.specs.declared.reply.ReplyRecord.{ReplyRecord}
use Rattle.machine_records.specs.FittedReplies.{fitted_record, is_config_read}
use Rattle.machine_records.proofs.Masters.{said_target}
use Rattle.machine_records.specs.Steps.{IsEventReply, after_step, reset_by}
use Rattle.board_laws.specs.StepReads.{StepReadsByteByByte}
use Rattle.board_laws.proofs.RomReads.{InMemory, in_memory, reads_byte_by_byte}
use Rattle.board_spec.specs.declared.event.Parts.TheVariants as parts
use Rattle.board_spec.specs.declared.event.Reply.TheVariants as replies

-- these bytes are those that a record says
pub record IsReadSaid (said : EventRecord) (read : WideAccess) : Type 0 where
  pub addr : said.addr ≡ read.addr
  pub bytes : said.bytes ≡ read.bytes

module _ (said : EventRecord) (event : Event) (read : WideAccess) (reads : read_by event ≡ Some read) where
  access_read : (kind : Kind) → access_said said kind ≡ Some event → IsReadSaid said read
  unfolding access_said cycle_said width_said
  access_read kind is = grind (arith, nat_tests, common_steps)

  stimulus_reads : (one : Stimulus) → stimulus_said said one ≡ Some event → IsReadSaid said read
  unfolding stimulus_said
  stimulus_reads one is = grind (arith, nat_tests, common_steps)

  port_read : (width : Option Width) (direction : Option Bool) →
      option_and_then (λ width. option_and_then (port_said said width) direction) width ≡ Some event → ⊥
  unfolding port_said
  port_read width direction is = grind (arith, nat_tests, common_steps)

  time_read : digits_said said.value ≡ Some event → ⊥
  unfolding digits_said moment_said
  time_read is = grind (arith, nat_tests, common_steps)

  other_read : (look ack time : Bool) (kind : Option Kind) (one : Option Stimulus) →
      (if look then option_map (λ kind. LookAt kind said.addr (said.smm == 1)) kind else
      if ack then Some Ack else if time then digits_said said.value else option_and_then (stimulus_said said) one)
      ≡ Some event → IsReadSaid said read
  other_read look ack time kind one is = grind (arith, nat_tests, common_steps, stimulus_reads, time_read)

  all_read : asked_by said ≡ Some event → IsReadSaid said read
  unfolding asked_by
  all_read is =
      elim (cases_Bool (said.what == memory_event)) [
        | inl memory ↦ grind (arith, nat_tests, common_steps, access_read, rw memory at is)
        | inr other ↦ elim (cases_Bool (said.what == port_event)) [
          | inl port ↦ absurd (port_read (width_said said.bytes) (direction_said said.kind) (rw (other, port) at is))
          | inr none ↦ other_read (said.what == look_event) (said.what == ack_event) (said.what == time_event)
              (kind_said said.kind) (stimulus_of_code said.what) (rw (other, none) at is)
        ]
      ]

  pub read_said : asked_said said ≡ Some (Happens event) → IsReadSaid said read
  unfolding asked_said byte_said event_said
  read_said asked = grind (arith, nat_tests, common_steps, cases_Bool, all_read)

-- ---- a reply to a read of memory is no reply to one of configuration data

of_cycle : (setup : Setup) (value : Option ℕ) (target : Target) (denial : Option Denial) (after : AfterStep) →
    InMemory setup target → is_config_read (bus_said value target denial after) ≡ false
unfolding bus_said blank
of_cycle setup value target denial after is = grind (arith, nat_tests, common_steps, said_target)

of_parts : (they : Parts) (value : Option ℕ) (after : AfterStep) → is_config_read (wide_said they value after) ≡ false
unfolding wide_said blank
of_parts they value after = grind (arith, nat_tests)

-- ---- the step

module _ (setup : Setup) (before : List Entry) (roms : List (List ℕ)) (fits : IsSetup setup)
    (bytes : AreBytes setup roms) (identities : List FittedIdentity) (said : EventRecord) (read : WideAccess)
    (after : AfterStep) (k : ℕ) (within : k < read.bytes) where
  abbrev IsTold : ReplyRecord → Type 0
  IsTold told =
      byte (fitted_record identities roms said told).value k
      ≡ byte_read roms setup before read.kind read.smm (read.addr + k)

  by_chipset : (event : Event) (reply : Reply) → SaysRead setup said event read → IsAnswer setup before event reply →
      is_config_read (record_said reply after) ≡ false → IsTold (record_said reply after)
  by_chipset event reply says answer none =
      rw none
      (reads_byte_by_byte setup before roms said event read reply after k fits bytes says answer within)

  by_parts : (access : WideAccess) (reply : Reply) → SaysRead setup said (Wide access) read →
      IsAnswer setup before (Wide access) reply → IsTold (record_said reply after)
  unfolding record_said
  by_parts access (replies.Parts they value) says answer =
      by_chipset (Wide access) (replies.Parts they value) says answer (of_parts they value after)
  by_parts access _ says answer = absurd answer

  by_cycle : (access : Access) (reply : Reply) → SaysRead setup said (Memory access) read →
      IsAnswer setup before (Memory access) reply → IsTold (record_said reply after)
  unfolding record_said memory_answer
  by_cycle access reply says answer =
      by_chipset (Memory access) reply says answer
      (ap (λ (it : Reply). is_config_read (record_said it after)) answer
      ∙ of_cycle setup _ (memory_target setup before access) (memory_denial setup before access) after
      (in_memory setup before roms fits bytes access))

  reads_nothing : (event : Event) → read_by event ≡ None → SaysRead setup said event read → ⊥
  reads_nothing event none says =
      let some : ◌≡◌ {A = Option WideAccess} None (Some read) = sym none ∙ says.reads in absurd (cc)

  by_reply : (serial : Serial Running) → serial.board.setup ≡ setup → (event : Event) (reply : SerialReply) →
      SaysRead setup said event read → IsEventReply serial before event (uart_access event) reply →
      IsTold (serial_said reply after)
  unfolding serial_said
  by_reply serial same (Memory access) (OfBoard reply) says answer =
      by_cycle access reply says (subst (λ (it : Setup). IsAnswer it before (Memory access) reply) same answer)
  by_reply serial same (Memory access) (OfUart value sent) says answer = absurd answer
  by_reply serial same (Wide access) (OfBoard reply) says answer =
      by_parts access reply says (subst (λ (it : Setup). IsAnswer it before (Wide access) reply) same answer)
  by_reply serial same (Wide access) (OfUart value sent) says answer = absurd answer
  by_reply serial same event reply says answer = absurd (reads_nothing event refl says)

pub step_reads : StepReadsByteByByte
step_reads old new said reply event read history k asks step left within =
    let serial : Serial Running = old.saved.serial in
    let fitted = step.holds in
    let answered = fitted.step.answered history left in
    let they : IsReadSaid said read = read_said said event read asks.reads asks.asked in
    let says : SaysRead serial.board.setup said event read =
    record {
      range = fitted.step.can;
      reads = asks.reads;
      addr = they.addr;
      bytes = they.bytes;
      address = omega (arith, they.addr, asks.address);
    } in
    let after : AfterStep =
    after_step serial.board.setup answered.goes_on.after (reset_by history (Happens event)) new.saved.serial.com1 in
    rw (fitted.told.told, answered.told)
    (by_reply serial.board.setup history old.roms asks.fits asks.bytes old.saved.identities said read after k within
    serial refl event fitted.step.reply says answered.answer)
