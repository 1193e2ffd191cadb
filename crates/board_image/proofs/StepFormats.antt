-- The fields of steps, by their tags.
use Rattle.std.proofs.Common.{◌≡◌, ℕ, ◌^◌, ◌<◌, ◌&&◌, Bool, true, false, refl, sym, ap, arith}
use Rattle.board_prelude.proofs.{nat_tests, option_map_or, Kind, Fetch, PortAccess, WideAccess, Moment, IsMoment}
use Rattle.board_prelude.proofs.{days_in_month, moment_of, Event, Memory, Wide, Port, Ack, Time, Setup, IsWideAccess}
use Rattle.board_prelude.proofs.{IsInRange, IsScriptSector, Stimulus, stimulus_form, applied_by, applied_again}
use Rattle.board_prelude.proofs.{event_applied}
use Rattle.board_base.specs.declared.access.Access.{Access}
use Rattle.board_spec.specs.declared.event.Event.TheVariants.{Look as LookAt}
use Rattle.board_spec.specs.declared.stimulus.Stimulus.TheVariants as stimuli
use Rattle.board_image.specs.declared.tag.Tag.{Tag}
use Rattle.board_image.specs.declared.tag.Tag.TheVariants as tags
use Rattle.board_image.specs.ImageBytes.{tag_of_event, look_bytes, moment_bytes, field_bytes, step_bytes, FitsField}
use Rattle.board_image.specs.ImageBytes.{IsImageStep, tag_byte}
use Rattle.board_image.specs.EventFields.{can_have, look_fields, moment_fields, applied_fields, event_fields}
use Rattle.board_image.specs.EventFields.{step_fields}
use Rattle.byte_fields.proofs.Formats.{IsFormat, format_as, fields_format, ◌then◌, ◌&◌, last_field, made_format}
use Rattle.byte_fields.proofs.Formats.{done_format}
use Rattle.byte_fields.proofs.Numbers.{flag_format, wide8, wide16, wide32, byte_within, where_format, within_format}
use Rattle.byte_fields.proofs.Numbers.{Any, byte_format}
use Rattle.board_image.proofs.EventFormats.{kind_format, CanSpellMemory, CanSpellPort, memory_format, port_format}
use Rattle.board_image.proofs.EventFormats.{wide_format, wider, tag_said, tag_tells}

-- ---- moments

moment_format : IsFormat 7 moment_fields moment_bytes IsMoment
unfolding moment_fields moment_bytes
moment_format =
    fields_format
    (within_format wide16 1980 2099 (omega arith) then λ year good.
    byte_within 1 12 (omega arith) then λ month good.
    byte_within 1 (days_in_month year month) (grind (arith, nat_tests)) then λ day good.
    byte_within 0 23 (omega arith) then λ hour good.
    byte_within 0 59 (omega arith) then λ minute good.
    last_field (λ second. moment_of year month day hour minute second) (byte_within 0 59 (omega arith)))
    (λ m is. (
      (m.year, (is.date.year_low, is.date.year_high)) & (m.month, (is.date.month_low, is.date.month_high))
          & (m.day, (is.date.day_low, is.date.day_high)) & (m.hour, (omega arith, is.time.hour_high))
          & (m.minute, (omega arith, is.time.minute_high)) & (m.second, (omega arith, is.time.second_high)),
      ap (λ (day : ℕ). record m { weekday = day }) is.weekday,
    ))
    (λ t. (assumption, refl))

-- ---- looks

-- the parts of an event, and anything where it has none
abbrev pub look_kind : Event → Kind
look_kind (LookAt kind addr smm) = kind
look_kind event = Fetch

abbrev pub look_addr : Event → ℕ
look_addr (LookAt kind addr smm) = addr
look_addr event = 0

abbrev pub look_smm : Event → Bool
look_smm (LookAt kind addr smm) = smm
look_smm event = false

abbrev pub IsLook : Event → Type 0
IsLook event = (look_addr event < 2 ^ 32) × (event ≡ LookAt (look_kind event) (look_addr event) (look_smm event))

look_format : IsFormat 6 look_fields field_bytes IsLook
unfolding look_fields look_bytes field_bytes
look_format =
    fields_format
    (kind_format then λ kind any.
    flag_format then λ smm any.
    last_field (λ addr. LookAt kind addr smm) (within_format wide32 0 0xFFFF_FFFF (omega arith)))
    (λ event is. (
      (look_kind event, tt) & (look_smm event, tt) & (look_addr event, (omega arith, omega (arith, is.0))),
      is.1,
    ))
    (λ t. ((omega (arith, t.2.2.1.1), refl), refl))

-- ---- stimuli

-- the number and the level that an event gives, and anything where it gives none
abbrev pub number_of : Event → ℕ
number_of event = option_map_or (λ said. said.number) (applied_by event) 0

abbrev pub level_of : Event → Bool
level_of event = option_map_or (λ said. said.on) (applied_by event) false

abbrev pub limit : (has_level : Bool) → ℕ
limit true = 2 ^ 8
limit false = 2 ^ 32

-- an event that is this stimulus, with a number that it can have
abbrev pub IsStimulus : Setup → Stimulus → (has_level : Bool) → Event → Type 0
IsStimulus setup one has_level event =
    ((number_of event < limit has_level) × (can_have setup one (number_of event) ≡ true))
    × (event ≡ event_applied one (number_of event) (has_level && level_of event))

applied_format : (setup : Setup) (one : Stimulus) (has_level : Bool) → (stimulus_form one).has_level ≡ has_level →
    IsFormat 15 (applied_fields setup one has_level) field_bytes (IsStimulus setup one has_level)
unfolding applied_fields field_bytes
applied_format setup one true is =
    wider 15 (fields_format
    (where_format wide8 (can_have setup one) then λ number good.
    last_field (λ on. event_applied one number on) flag_format)
    (λ event can. ((number_of event, can.0) & (level_of event, tt), can.1))
    (λ t. (grind (arith, nat_tests, t.1, applied_again one t.0 t.2.0), grind (arith, nat_tests)))) (omega arith)
applied_format setup one false is =
    wider 15 (fields_format
    (last_field (λ number. event_applied one number false) (where_format wide32 (can_have setup one)))
    (λ event can. ((number_of event, can.0), can.1))
    (λ t. (grind (arith, nat_tests, t.1, applied_again one t.0 false), grind (arith, nat_tests)))) (omega arith)

-- ---- events

-- an event of this tag whose fields can be spelled
abbrev pub CanSpell : Setup → Tag → Event → Type 0
CanSpell setup tags.Memory event = (access : Access) × CanSpellMemory access × (event ≡ Memory access)
CanSpell setup tags.Port event = (access : PortAccess) × CanSpellPort access × (event ≡ Port access)
CanSpell setup tags.Look event = IsLook event
CanSpell setup tags.Ack event = event ≡ Ack
CanSpell setup tags.Time event = (moment : Moment) × IsMoment moment × (event ≡ Time moment)
CanSpell setup tags.Wide event = (access : WideAccess) × IsWideAccess access × (event ≡ Wide access)
CanSpell setup (tags.Stimulus one) event = IsStimulus setup one (stimulus_form one).has_level event

event_format : (setup : Setup) (tag : Tag) → IsFormat 15 (event_fields setup tag) field_bytes (CanSpell setup tag)
unfolding event_fields field_bytes
event_format setup tags.Memory = wider 15 (made_format Memory field_bytes memory_format (λ access. refl)) (omega arith)
event_format setup tags.Port = wider 15 (made_format Port field_bytes port_format (λ access. refl)) (omega arith)
event_format setup tags.Look = wider 15 look_format (omega arith)
event_format setup tags.Ack =
    format_as 15 field_bytes (CanSpell setup tags.Ack) (done_format Ack) (omega arith) (λ event good. good)
    (λ event good. good) (λ event good. sym (ap field_bytes good))
event_format setup tags.Time = wider 15 (made_format Time field_bytes moment_format (λ moment. refl)) (omega arith)
event_format setup tags.Wide = made_format Wide field_bytes wide_format (λ access. refl)
event_format setup (tags.Stimulus one) = applied_format setup one (stimulus_form one).has_level refl

-- the tag of such an event is that tag
tag_told : (setup : Setup) (tag : Tag) (event : Event) → CanSpell setup tag event → tag_of_event event ≡ tag
tag_told setup tag event can = grind (arith, nat_tests)

IsGoodEvent : Setup → Event → Type 0
IsGoodEvent setup event = FitsField event × IsInRange setup event × IsScriptSector event

-- what an image step is, by the tag of its event
spelled_to : (setup : Setup) (event : Event) → IsGoodEvent setup event → CanSpell setup (tag_of_event event) event
unfolding IsGoodEvent
spelled_to setup event is = grind (arith, nat_tests)

spelled_from : (setup : Setup) (event : Event) → CanSpell setup (tag_of_event event) event → IsGoodEvent setup event
unfolding IsGoodEvent
spelled_from setup event can = grind (arith, nat_tests)

pub step_format : (setup : Setup) → IsFormat 17 (step_fields setup) step_bytes (IsImageStep setup)
unfolding step_fields IsGoodEvent
step_format setup =
    fields_format
    (byte_within 0 7 (omega arith) then λ actor good.
    (byte_format tag_byte Any tag_said (λ n tag below is. (tag_tells n tag is, tt))) then λ tag any.
    last_field (λ event. record { actor = actor; event = event }) (event_format setup tag))
    (λ step is. (
      (step.actor, (omega arith, is.actor)) & (tag_of_event step.event, tt)
          & (step.event, spelled_to setup step.event (is.fits, is.event, is.sector)),
      refl,
    ))
    (λ t.
    let same = tag_told setup t.2.0 t.2.2.0 t.2.2.1 in
    let is = spelled_from setup t.2.2.0 (rw (← same) at t.2.2.1) in
    (record { actor = t.1.1; fits = is.0; event = is.1; sector = is.2 }, rw same refl))
