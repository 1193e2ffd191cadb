-- Which reply a record says: none where a number of it names nothing, or does not fit where it goes. What a reply has no
-- use for is not read, nor what stands after the step.
use Rattle.std.specs.Prelude.{ℕ, ◌==◌, ◌^◌, nat_lt, nat_le, if◌then◌else◌, Option, Some, None}
use Rattle.board_prelude.specs.{Parts, Reply}
use Rattle.board_spec.specs.declared.event.Parts.TheVariants as parts
use Rattle.board_spec.specs.declared.event.Reply.TheVariants as replies
use Rattle.script_spec.specs.Numbers.{◌>>=◌}
use Rattle.machine_records.specs.declared.reply.ReplyRecord.{ReplyRecord}
use Rattle.machine_records.specs.Numbers.{bus_reply, parts_reply, look_reply}
use Rattle.machine_records.specs.PartsBack.{part_recorded, area_recorded}

-- the value, where one was read
abbrev pub value_recorded : ReplyRecord → Option ℕ
value_recorded said = if said.has_value == 1 then Some said.value else None

-- that of one bus cycle has 32 bits
unfoldable pub cycle_value_recorded : ReplyRecord → Option (Option ℕ)
cycle_value_recorded said =
    if said.has_value == 1 then (if nat_lt said.value (2 ^ 32) then Some (Some said.value) else None) else Some None

unfoldable pub bus_recorded : ReplyRecord → Option Reply
bus_recorded said = do
  value ← cycle_value_recorded said
  part ← part_recorded said.part0
  Some (replies.Bus value part.target part.denial)

unfoldable pub two_parts_recorded : ReplyRecord → Option Parts
two_parts_recorded said = do
  a ← part_recorded said.part0
  b ← part_recorded said.part1
  Some (parts.Two a b)

unfoldable pub three_parts_recorded : ReplyRecord → Option Parts
three_parts_recorded said = do
  a ← part_recorded said.part0
  b ← part_recorded said.part1
  c ← part_recorded said.part2
  Some (parts.Three a b c)

unfoldable pub four_parts_recorded : ReplyRecord → Option Parts
four_parts_recorded said = do
  a ← part_recorded said.part0
  b ← part_recorded said.part1
  c ← part_recorded said.part2
  d ← part_recorded said.part3
  Some (parts.Four a b c d)

-- the parts of a wide access, two to four
unfoldable pub parts_recorded : ReplyRecord → Option Parts
parts_recorded said =
    if said.parts == 2 then two_parts_recorded said else
    if said.parts == 3 then three_parts_recorded said else
    if said.parts == 4 then four_parts_recorded said else None

unfoldable pub wide_recorded : ReplyRecord → Option Reply
wide_recorded said = do
  parts ← parts_recorded said
  Some (replies.Parts parts (value_recorded said))

unfoldable pub look_recorded : ReplyRecord → Option Reply
look_recorded said = do
  area ← area_recorded said.part0
  Some (replies.Saw (record { version = said.seen; lo = said.lo; hi = said.hi; area = area }))

-- by the number of its form; a bus cycle and a look have one part
unfoldable pub form_recorded : ReplyRecord → Option Reply
form_recorded said =
    if said.form == parts_reply then wide_recorded said else
    if said.parts == 1
    then (if said.form == bus_reply then bus_recorded said else if said.form == look_reply then look_recorded said
    else None)
    else None

-- the flag of a value is 0 or 1
unfoldable pub reply_recorded : ReplyRecord → Option Reply
reply_recorded said = if nat_le said.has_value 1 then form_recorded said else None
